-- Moves that a session generates can be made.
use Rattle.std.proofs.Common.{◌≡◌, ◌≢◌, ◌*◌, ◌%◌, ℕ, ℤ, suc, pos, negsuc, nat_eq, cond, length, arith, inl, inr, refl, ap, ◌∙◌, subst, false}
use Rattle.std.proofs.lemmas.Int.{ints}
use Rattle.std.proofs.lemmas.Bool.{cases_eq}
use Rattle.go_grid.specs.Chain.{IsSettled}
use Rattle.go_grid.specs.declared.grid.Colour.{Colour}
use Rattle.go_grid.specs.declared.grid.Colour.TheVariants.{Black, White}
use Rattle.go_play.specs.declared.placements.PlaceError.TheVariants.{Occupied, Suicide}
use Rattle.go_play.specs.Place.{IsNumberTaken, IsPlaced}
use Rattle.go_play.proofs.BoardPlayLemmas.{suicide_not_placed}
use Rattle.go_play.specs.Setup.{Setup}
use Rattle.whole_rules.specs.declared.money.Token.{Token}
use Rattle.whole_rules.specs.declared.money.Token.TheVariants.{Nobody}
use Rattle.whole_rules.specs.declared.states.Move.{Move}
use Rattle.whole_rules.specs.declared.states.Move.TheVariants as move
use Rattle.whole_rules.specs.Opening.{komi_token}
use Rattle.whole_rules.specs.WholeGame.{IsLegal, Whole}
use Rattle.endgame_solver.specs.Limits.{Limits}
use Rattle.endgame_solver.specs.Solved.{Chooses, IsPlayable}
use Rattle.board_orders.specs.declared.position.BoardMove.{BoardMove}
use Rattle.board_orders.specs.declared.position.BoardMove.TheVariants.{Stone, Pass, Half}
use Rattle.board_orders.specs.declared.position.Position.{Position}
use Rattle.board_session.specs.Generating.{Advice, Advises, AdvisesIn, OpensLess, board_move, chosen, komi_after, komi_halved, resigned, setup_of, unopened}
use Rattle.board_orders.specs.Kept.{IsOnBoard, IsModest}
use Rattle.board_orders.specs.Positions.{IsIllegal, MakesMove}
use Rattle.board_orders.specs.States.{BoardState, present}
use Rattle.board_orders.specs.Tallies.{Tally, grown}
use Rattle.board_session.specs.inner.Generating.{IsAdviceOnBoard, IsTold, MayFollow, MayMake}

-- what is told in a game that begins so is told in the position that opens it
pub told_advises : (limits : Limits) (setup : Setup) (passes : Tally) (start : Whole) (a : Advice) → IsSettled setup.board → IsPlayable limits false setup start
    → IsTold passes start a → Advises limits setup passes a
told_advises limits setup passes start (chosen m) settled playable (pay, chooses) =
    (_, record { settled = settled; start = start; playable = playable; pay = pay; less = refl }, chooses)
told_advises limits setup passes start resigned settled playable (pay, none) =
    (_, record { settled = settled; start = start; playable = playable; pay = pay; less = refl }, none)
told_advises limits setup passes start (unopened words) settled playable (not, is) = inr (settled, inr (start, playable, not, is))

-- the move that is chosen is legal
pub chosen_legal : (w : Whole) (m : Move) → Chooses w m → IsLegal w m
chosen_legal w m (inl first) = (first.0.0, first.0.1)
chosen_legal w m (inr first) = first.1.0

-- a legal move of the game can be made on the board
pub made_on_board : (a : Position) (c : Colour) (w : Whole) (m : Move) → w.board ≡ a.board → w.side ≡ c → IsLegal w m → (b : Position) × MakesMove c (board_move m) a b
made_on_board a c w (move.Stone p) same turn (t, (marked, (h, (n, placed, taken, is)))) = (
  record { board = h; prisoners = grown c n a.prisoners; passes = a.passes },
  (n, (subst (λ g. IsPlaced g p c h) same (subst (λ d. IsPlaced w.board p d h) turn placed), subst (λ g. IsNumberTaken g h n) same taken), refl, refl),
)
made_on_board a c w move.Spend same turn legal = (record { board = a.board; prisoners = a.prisoners; passes = grown c 1 a.passes }, (refl, refl, refl))
made_on_board a c w move.Half same turn legal = (a, refl)

module _ (limits : Limits) (a : Position) (halves : ℤ) (c : Colour) (m : Move) (advised : Advises limits (setup_of a halves c) a.passes (chosen m)) where
  abbrev w : Whole
  w = advised.0

  opens : OpensLess limits (setup_of a halves c) a.passes w
  opens = advised.1

  legal : IsLegal w m
  legal = chosen_legal w m advised.2

  same_board : w.board ≡ a.board
  same_board = ap (λ s. s.board) opens.less ∙ opens.playable.opening.board

  pub may_make : (b : Position) × MakesMove c (board_move m) a b
  may_make = made_on_board a c w m same_board (ap (λ s. s.side) opens.less ∙ opens.playable.opening.turn) legal

-- the point of a stone that may be placed is on the board
pub advised_on_board : (limits : Limits) (a : Position) (halves : ℤ) (c : Colour) (advice : Advice) (columns rows : ℕ) → length a.board.cells ≡ columns * rows
    → Advises limits (setup_of a halves c) a.passes advice → IsAdviceOnBoard columns rows advice
advised_on_board limits a halves c (chosen (move.Stone p)) columns rows full advised =
    let made = may_make limits a halves c (move.Stone p) advised in omega (arith, full, made.1.1.0.1.place)
advised_on_board limits a halves c (chosen move.Spend) columns rows full advised = tt
advised_on_board limits a halves c (chosen move.Half) columns rows full advised = tt
advised_on_board limits a halves c resigned columns rows full advised = tt
advised_on_board limits a halves c (unopened words) columns rows full advised = tt

-- a komi with a half-point is an odd number of halves
odd_halves : (n : ℕ) (x : Token) → cond (nat_eq (n % 2) 0) Nobody x ≢ Nobody → n % 2 ≡ 1
odd_halves n x some = elim (cases_eq (n % 2) 0) [
  | inl even ↦ absurd (some (ap (λ k. cond (nat_eq k 0) Nobody x) even))
  | inr not ↦ omega (arith, not)
]

pub halved_small : (c : Colour) (k : ℤ) → IsModest k → komi_token k ≢ Nobody → IsModest (komi_halved c k)
halved_small Black (pos n) small some = let odd = odd_halves n _ some in omega (arith, ints, odd, small)
halved_small White (pos n) small some = omega (arith, ints, small)
halved_small Black (negsuc n) small some = omega (arith, ints, small)
halved_small White (negsuc n) small some = let odd = odd_halves (suc n) _ some in omega (arith, ints, odd, small)

-- the komi after the move that is told is small
pub small_after : (limits : Limits) (a : Position) (halves : ℤ) (c : Colour) (m : Move) → IsModest halves
    → Advises limits (setup_of a halves c) a.passes (chosen m) → IsModest (komi_after c (board_move m) halves)
small_after limits a halves c (move.Stone p) small advised = small
small_after limits a halves c move.Spend small advised = small
small_after limits a halves c move.Half small (w, opens, chooses) =
    let legal = chosen_legal w move.Half chooses in
    halved_small c halves small (λ nobody. legal.1.0 (ap (λ s. s.purses.token) opens.less ∙ opens.playable.opening.token ∙ nobody))

-- the move that the colour is told may be made
pub may_follow : (limits : Limits) (s : BoardState) (c : Colour) (a : Advice) → IsModest s.komi_halves → AdvisesIn limits s c a → MayFollow c a s
may_follow limits s c (chosen m) small advised = (may_make limits (present s) s.komi_halves c m advised, small_after limits (present s) s.komi_halves c m small advised)
may_follow limits s c resigned small advised = tt
may_follow limits s c (unopened words) small advised = tt

-- a move that may be made isn't illegal
pub not_illegal : (s : BoardState) (c : Colour) (m : BoardMove) → MayMake c m s → ¬ IsIllegal c m (present s)
not_illegal s c (Stone p) (b, (n, placed, prisoners, passes)) (Occupied, (same, full)) = full (placed.0.1.place, placed.0.1.free)
not_illegal s c (Stone p) (b, (n, placed, prisoners, passes)) (Suicide, (same, empty, suicide)) = suicide_not_placed (present s).board b.board p c suicide placed.0
not_illegal s c Pass may illegal = illegal
not_illegal s c Half may illegal = illegal

-- the point of a stone that may be made is on the board
pub may_on_board : (s : BoardState) (c : Colour) (m : BoardMove) → length (present s).board.cells ≡ (present s).board.columns * (present s).board.rows → MayMake c m s
    → IsOnBoard (present s).board.columns (present s).board.rows m
may_on_board s c (Stone p) full (b, (n, placed, prisoners, passes)) = omega (arith, full, placed.0.1.place)
may_on_board s c Pass full may = tt
may_on_board s c Half full may = tt
