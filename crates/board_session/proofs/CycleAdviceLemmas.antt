-- Moves that a session generates where kos can arise can be made.
use Rattle.std.proofs.Common.{◌≡◌, ◌*◌, ◌<◌, ℕ, ℤ, List, length, Bool, true, false, None, Err, Ok, arith, inl, inr, refl, sym, ap, ◌∙◌, subst}
use Rattle.go_grid.specs.Chain.{IsFirstUnsettled, IsSettled}
use Rattle.go_grid.specs.Region.{Region}
use Rattle.go_grid.specs.declared.grid.Colour.{Colour}
use Rattle.go_grid.specs.declared.grid.Colour.TheVariants.{Black, White}
use Rattle.go_play.specs.Setup.{Setup}
use Rattle.whole_rules.specs.declared.states.Move.{Move}
use Rattle.whole_rules.specs.declared.states.Move.TheVariants as move
use Rattle.whole_rules.specs.WholeGame.{IsLegal, Whole}
use Rattle.endgame_solver.specs.Limits.{Limits}
use Rattle.cycle_solver.specs.declared.faults.CycleError.{CycleError}
use Rattle.cycle_solver.specs.declared.faults.CycleError.TheVariants.{Points, Positions, Form, Captures, Memory}
use Rattle.cycle_solver.specs.declared.limits.TheConstants.{MOST_CAPTURES}
use Rattle.engine_player.specs.Played.{BeginsPlay, EnginePlays, Keeping, KeepsNothing, Played, kept_by}
use Rattle.engine_player.proofs.EngineGameLaws.{engine_moves_moved}
use Rattle.whole_budgets.specs.EnginePlay.{EngineMoves}
use Rattle.fault_words.proofs.NamedPointLemmas.{lowest_on_board}
use Rattle.board_orders.specs.declared.position.Position.{Position}
use Rattle.board_session.specs.Cycles.{AdvisesWith, AdvisesWithCycles, MovesAnew, OpensWithCycles, TellsIn}
use Rattle.board_session.specs.Generating.{Advice, after_passes, board_move, chosen, komi_after, resigned, setup_of, unopened, unsettled_words}
use Rattle.board_orders.specs.Kept.{IsModest}
use Rattle.board_orders.specs.Positions.{MakesMove}
use Rattle.board_orders.specs.States.{BoardState, present}
use Rattle.board_orders.specs.Tallies.{Tally}
use Rattle.board_session.specs.inner.Cycles.{IsToldWithCycles, NamesPoint}
use Rattle.board_session.specs.inner.Generating.{IsAdviceOnBoard, MayFollow}
use Rattle.board_session.proofs.GeneratingLemmas.{advised_on_board, halved_small, made_on_board, may_follow}
use Rattle.board_session.proofs.OpenedLemmas.{OpensSo}

-- what is told on a board that isn't settled
pub unsettled_advises : (cycles : Bool) (limits : Limits) (setup : Setup) (passes : Tally) (p : ℕ) (words : List ℕ) → IsFirstUnsettled setup.board p
    → words ≡ unsettled_words setup.board p → AdvisesWith cycles limits setup passes (unopened words)
unsettled_advises false limits setup passes p words first is = inl (p, first, is)
unsettled_advises true limits setup passes p words first is = inl (p, first, is)

-- the point that a fault names is one of the board
pub names_point : (setup : Setup) (limits : Limits) (most : ℕ) (fault : CycleError) → BeginsPlay setup false limits most (Err fault) → NamesPoint (length setup.board.cells) fault
names_point setup limits most (Points p n) (regions, are, first) =
    subst (λ q. q < length setup.board.cells) (sym first.2) (lowest_on_board setup.board regions are first.0 first.1)
names_point setup limits most (Positions p) (regions, are, (small, first)) =
    subst (λ q. q < length setup.board.cells) (sym first.2.0) (lowest_on_board setup.board regions are first.0 first.1)
names_point setup limits most (Form p) (regions, are, (small, first)) =
    subst (λ q. q < length setup.board.cells) (sym first.2.0) (lowest_on_board setup.board regions are first.0 first.1)
names_point setup limits most (Captures p) (regions, are, (small, first)) =
    subst (λ q. q < length setup.board.cells) (sym first.2.0) (lowest_on_board setup.board regions are first.0 first.1)
names_point setup limits most (Memory e) begun = tt

-- a colour keeps nothing where none does
keeps_none : (c : Colour) (k : Keeping) → KeepsNothing k → kept_by c k ≡ None
keeps_none Black k nothing = nothing.0
keeps_none White k nothing = nothing.1

-- the engine's move where nothing is kept is made by budgets that are found anew
pub moves_anew : (p q : Played) (m : Move) → KeepsNothing p.keeping → EnginePlays p m q → MovesAnew p.keeping.regions p.state m
moves_anew p q m nothing (left, moves, is) =
    (q.state, left, subst (λ k. EngineMoves p.keeping.regions p.state k m q.state left) (keeps_none p.state.side p.keeping nothing) moves)

-- what is told in a game that begins so is told in the position that opens it
pub told_with_cycles : (limits : Limits) (setup : Setup) (passes : Tally) (p : Played) (a : Advice) → IsSettled setup.board
    → BeginsPlay setup false limits MOST_CAPTURES (Ok p) → IsToldWithCycles passes p a → AdvisesWithCycles limits setup passes a
told_with_cycles limits setup passes p (chosen m) settled (opening, are, steady, black, white, none_made) (pay, moves) = (
  after_passes passes p.state,
  record {
    settled = settled;
    start = p.state;
    playable = record { regions = p.keeping.regions; are_regions = are; steady = steady; opening = opening };
    pay = pay;
    less = refl;
  },
  moves,
)
told_with_cycles limits setup passes p resigned settled (opening, are, steady, black, white, none_made) (pay, none) = (
  after_passes passes p.state,
  record {
    settled = settled;
    start = p.state;
    playable = record { regions = p.keeping.regions; are_regions = are; steady = steady; opening = opening };
    pay = pay;
    less = refl;
  },
  none,
)
told_with_cycles limits setup passes p (unopened words) settled (opening, are, steady, black, white, none_made) (not, is) =
    inr (settled, inr (p.state, record { regions = p.keeping.regions; are_regions = are; steady = steady; opening = opening }, not, is))

-- a game with cycles is one that its position opens
pub opens_so : {limits : Limits} {setup : Setup} {passes : Tally} {w : Whole} → OpensWithCycles limits setup passes w → OpensSo false setup passes w
opens_so opens = record { start = opens.start; opening = opens.playable.opening; pay = opens.pay; less = opens.less }

-- A legal move in a game that the position opens.
module _ {tax : Bool} (a : Position) (halves : ℤ) (c : Colour) (w : Whole) (so : OpensSo tax (setup_of a halves c) a.passes w) (m : Move) (legal : IsLegal w m) where
  may_make : (b : Position) × MakesMove c (board_move m) a b
  may_make = made_on_board a c w m (ap (λ s. s.board) so.less ∙ so.opening.board) (ap (λ s. s.side) so.less ∙ so.opening.turn) legal

small_after : {tax : Bool} (a : Position) (halves : ℤ) (c : Colour) (w : Whole) → OpensSo tax (setup_of a halves c) a.passes w → (m : Move) → IsLegal w m
    → IsModest halves → IsModest (komi_after c (board_move m) halves)
small_after a halves c w so (move.Stone p) legal small = small
small_after a halves c w so move.Spend legal small = small
small_after a halves c w so move.Half legal small =
    halved_small c halves small (λ nobody. legal.1.0 (ap (λ s. s.purses.token) so.less ∙ so.opening.token ∙ nobody))

-- the move by budgets found anew is legal
pub anew_legal : (w : Whole) (regions : List Region) (m : Move) → MovesAnew regions w m → IsLegal w m
anew_legal w regions m (t, left, moves) = (t, engine_moves_moved regions w t None left m moves)

-- the move that the colour is told may be made
pub told_may_follow : (cycles : Bool) (limits : Limits) (s : BoardState) (c : Colour) (a : Advice) → IsModest s.komi_halves → TellsIn cycles limits s c a → MayFollow c a s
told_may_follow false limits s c a small told = may_follow limits s c a small told
told_may_follow true limits s c (chosen m) small (w, opens, moves) =
    let legal = anew_legal w opens.playable.regions m moves in
    (may_make (present s) s.komi_halves c w (opens_so opens) m legal, small_after (present s) s.komi_halves c w (opens_so opens) m legal small)
told_may_follow true limits s c resigned small told = tt
told_may_follow true limits s c (unopened words) small told = tt

-- the point of a stone that the colour is told is on the board
pub told_on_board : (cycles : Bool) (limits : Limits) (s : BoardState) (c : Colour) (advice : Advice) (columns rows : ℕ)
    → length (present s).board.cells ≡ columns * rows → TellsIn cycles limits s c advice → IsAdviceOnBoard columns rows advice
told_on_board false limits s c advice columns rows full told = advised_on_board limits (present s) s.komi_halves c advice columns rows full told
told_on_board true limits s c (chosen (move.Stone p)) columns rows full (w, opens, moves) =
    let made = may_make (present s) s.komi_halves c w (opens_so opens) (move.Stone p) (anew_legal w opens.playable.regions (move.Stone p) moves) in
    omega (arith, full, made.1.1.0.1.place)
told_on_board true limits s c (chosen move.Spend) columns rows full told = tt
told_on_board true limits s c (chosen move.Half) columns rows full told = tt
told_on_board true limits s c resigned columns rows full told = tt
told_on_board true limits s c (unopened words) columns rows full told = tt
