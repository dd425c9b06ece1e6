-- A komi that is asked for is in range.
use Rattle.std.proofs.Common.{◌≡◌, ◌≤◌, ◌+◌, ◌*◌, ℕ, ℤ, List, [], ◌∷◌, arith, sym, subst, to_z, of_z, w64}
use Rattle.std.specs.Prelude.{unsigned_abs}
use Rattle.std.proofs.lemmas.Int.{fits_signed_from_abs, ints, to_z-of_z}
use Rattle.sgf_go.specs.declared.komi.TheConstants.{MOST_KOMI}
use Rattle.sgf_go.specs.Komi.{IsKomi, unsigned, positive, negative, IsHalves, halves, IsKomiFraction, nothing, zeros, half, IsInRange}
use Rattle.gtp_engine.specs.declared.command.Command.{Command}
use Rattle.gtp_engine.specs.declared.command.Command.TheVariants.{ProtocolVersion, Name, Version, KnownCommand, ListCommands, BoardSize, ClearBoard, Komi, Play, GenMove, LoadSgf, Quit}
use Rattle.gtp_engine.specs.inner.Doing.{AsksInRange, HasKomiInRange}
use Rattle.gtp_engine.specs.Request.{Asked, Asks, FitsArguments, FitsAlone, FitsOne, FitsTwo, Order}
use Rattle.gtp_engine.specs.Request.Asked.{something, unknown, misfit}

-- a komi in range that is read again
pub same_komi : (k : ℤ) → IsInRange k → to_z w64 (of_z w64 k) ≡ k
same_komi k in_range =
    let modest : unsigned_abs k ≤ 2000000 = omega (arith, ints, in_range.0, in_range.1) in to_z-of_z w64 k (fits_signed_from_abs w64 k (omega (arith, ints, modest)))

at_most_one : (bytes : List ℕ) (digits more : ℕ) → IsKomiFraction bytes digits more → more ≤ 1
at_most_one _ _ _ nothing = omega arith
at_most_one _ _ _ (zeros bytes h) = omega arith
at_most_one _ _ _ (half bytes h) = omega arith

few_halves : (bytes : List ℕ) (n : ℕ) → IsHalves bytes n → n ≤ 2 * MOST_KOMI + 1
few_halves _ _ (halves whole rest digits more a few f s) = omega (arith, few, at_most_one rest digits more f)

komi_in_range : (word : List ℕ) (k : ℤ) → IsKomi word k → IsInRange k
komi_in_range _ _ (unsigned bytes n h) = let few = few_halves bytes n h in (omega (arith, ints, few), omega (arith, ints, few))
komi_in_range _ _ (positive bytes n h) = let few = few_halves bytes n h in (omega (arith, ints, few), omega (arith, ints, few))
komi_in_range _ _ (negative bytes n h) = let few = few_halves bytes n h in (omega (arith, ints, few), omega (arith, ints, few))

alone_in_range : (c : Command) (order : Order) → FitsAlone c order → HasKomiInRange order
alone_in_range ProtocolVersion order h = subst HasKomiInRange (sym h) tt
alone_in_range Name order h = subst HasKomiInRange (sym h) tt
alone_in_range Version order h = subst HasKomiInRange (sym h) tt
alone_in_range KnownCommand order h = absurd h
alone_in_range ListCommands order h = subst HasKomiInRange (sym h) tt
alone_in_range BoardSize order h = absurd h
alone_in_range ClearBoard order h = subst HasKomiInRange (sym h) tt
alone_in_range Komi order h = absurd h
alone_in_range Play order h = absurd h
alone_in_range GenMove order h = absurd h
alone_in_range LoadSgf order h = absurd h
alone_in_range Quit order h = subst HasKomiInRange (sym h) tt

one_in_range : (c : Command) (word : List ℕ) (order : Order) → FitsOne c word order → HasKomiInRange order
one_in_range ProtocolVersion word order h = absurd h
one_in_range Name word order h = absurd h
one_in_range Version word order h = absurd h
one_in_range KnownCommand word order h = subst HasKomiInRange (sym h) tt
one_in_range ListCommands word order h = absurd h
one_in_range BoardSize word order h = subst HasKomiInRange (sym h.2) tt
one_in_range ClearBoard word order h = absurd h
one_in_range Komi word order h = subst HasKomiInRange (sym h.2) (komi_in_range word h.0 h.1)
one_in_range Play word order h = absurd h
one_in_range GenMove word order h = subst HasKomiInRange (sym h.2) tt
one_in_range LoadSgf word order h = subst HasKomiInRange (sym h) tt
one_in_range Quit word order h = absurd h

two_in_range : (c : Command) (first second : List ℕ) (order : Order) → FitsTwo c first second order → HasKomiInRange order
two_in_range ProtocolVersion first second order h = absurd h
two_in_range Name first second order h = absurd h
two_in_range Version first second order h = absurd h
two_in_range KnownCommand first second order h = absurd h
two_in_range ListCommands first second order h = absurd h
two_in_range BoardSize first second order h = absurd h
two_in_range ClearBoard first second order h = absurd h
two_in_range Komi first second order h = absurd h
two_in_range Play first second order h = subst HasKomiInRange (sym h.4) tt
two_in_range GenMove first second order h = absurd h
two_in_range LoadSgf first second order h = subst HasKomiInRange (sym h.3) tt
two_in_range Quit first second order h = absurd h

fits_in_range : (c : Command) (words : List (List ℕ)) (order : Order) → FitsArguments c words order → HasKomiInRange order
fits_in_range c [] order h = alone_in_range c order h
fits_in_range c (word ∷ []) order h = one_in_range c word order h
fits_in_range c (first ∷ second ∷ []) order h = two_in_range c first second order h
fits_in_range c (first ∷ second ∷ third ∷ more) order h = absurd h

pub asks_in_range : (words : List (List ℕ)) (asked : Asked) → Asks words asked → AsksInRange asked
asks_in_range words (something order) h = fits_in_range h.0 h.1 order h.3
asks_in_range words unknown h = tt
asks_in_range words misfit h = tt
