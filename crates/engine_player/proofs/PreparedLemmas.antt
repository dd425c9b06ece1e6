-- The engine's move by what it has prepared.
use Rattle.std.proofs.Common.{◌≡◌, ℕ, ◌+◌, ◌*◌, ◌^◌, ◌≤◌, List, length, replicate, arith, inl, inr, refl, sym, ap, ◌∙◌, subst, Option, Some, None, MatchOption, Bool, cond, true, false}
use Rattle.go_grid.specs.Board.{Board}
use Rattle.go_grid.specs.Region.{Region}
use Rattle.go_grid.specs.declared.grid.Colour.{Colour}
use Rattle.go_grid.specs.declared.grid.Colour.TheVariants.{Black, White}
use Rattle.whole_rules.specs.declared.states.Move.{Move}
use Rattle.whole_rules.specs.WholeGame.{Whole, IsFirstMove, IsMove}
use Rattle.whole_rules.proofs.PlainLaws.{move_same}
use Rattle.endgame_solver.specs.Solved.{HasMove, Solved}
use Rattle.whole_budgets.specs.EnginePlay.{AreLeastCaptures, AreListedAfter, AreReducedBelow, EngineMoves, HasAtTurn, HoldsOff, IsFirstKeeping, KeepsWinning, MovesWith, Serves, WinsWithList}
use Rattle.whole_budgets.specs.EngineLaws.{IsReached}
use Rattle.whole_budgets.proofs.EngineMoveLemmas.{some_keeps}
use Rattle.whole_budgets.proofs.ReducedLemmas.{now_serves}
use Rattle.whole_budgets.proofs.OneMoveLemmas.{one_listed, one_now, one_reduced}
use Rattle.cycle_solver.specs.Keeping.{HasRoom, IsFirstOf, Keeps}
use Rattle.engine_player.specs.declared.cycle_player.TheConstants.{MOST_MOVES}
use Rattle.engine_player.specs.Played.{EnginePlays, Played, kept_by, keeping_with}
use Rattle.engine_player.specs.Room.{HasMovesLeft}
use Rattle.engine_player.specs.inner.Kept.{HasPurses, IsPaid, IsPrepared, KeepsPrepared}

-- the purses can take what one more move pays in
pub has_room : (s : Whole) (moves : ℕ) → HasPurses s moves → moves + 1 ≤ MOST_MOVES → HasRoom s
has_room s moves few room = let black = few Black in let white = few White in
    record { black = omega (arith, black, room); white = omega (arith, white, room) }

module _ (game : Solved) (kept : Option (List ℕ)) where
  abbrev Made : Move → Type 0
  Made m = (t : Whole) × (left : Option (List ℕ)) × EngineMoves game.regions game.state kept m t left

  -- a move that keeps winning with what was prepared
  pub keeping_choice : {g : Board} → IsReached g game.regions game.state → (cs : List ℕ) → IsPrepared game kept true cs → (r : Option Move)
      → MatchOption r ((m : Move) (t : Whole) (ds : List ℕ) → ¬ KeepsWinning game.regions game.state cs m t ds)
      (λ m. (t : Whole) × (ds : List ℕ) × IsFirstKeeping game.regions game.state cs m t ds)
      → MatchOption r (¬ HasMove game.state) Made
  keeping_choice reached cs (bs, has, reduced, wins) None none =
      let (m, (t, ds, keeps)) = some_keeps reached cs wins in absurd (none m t ds keeps)
  keeping_choice reached cs (bs, has, reduced, wins) (Some m) (t, ds, first) = (t, Some ds, (Some bs, has, (cs, ds, reduced, first, refl)))

  -- a move that holds off
  pub holding_choice : HasAtTurn game.regions game.state kept None → (m : Move) → IsFirstOf (HoldsOff game.state) (Some m) → Made m
  holding_choice has m ((t, moved, held), first) = (t, None, (None, has, (inl ((t, moved, held), first), moved, refl)))

  -- the first move, where none holds off
  pub first_choice : HasAtTurn game.regions game.state kept None → IsFirstOf (HoldsOff game.state) None → (r : Option Move) → IsFirstMove game.state r
      → MatchOption r (¬ HasMove game.state) Made
  first_choice has none None first = λ (m, legal). first m legal
  first_choice has none (Some m) first = let (t, moved) = first.0 in (t, None, (None, has, (inr (none, first), moved, refl)))

  -- what was prepared is what the move was chosen by
  pub keeps_prepared : (cs : List ℕ) (m : Move) → IsPrepared game kept true cs → Made m → Keeps game.regions game.state cs m
  keeps_prepared cs m (bs, has, reduced, wins) (t, left, (None, had, moves)) = absurd (cc (one_now game.regions game.state kept (Some bs) None has had))
  keeps_prepared cs m (bs, has, reduced, wins) (t, left, (Some zs, had, (xs, ds, lessened, first, is))) =
      let some : Some bs ≡ Some zs = one_now game.regions game.state kept (Some bs) (Some zs) has had in
      let same : zs ≡ bs = cc some in
      let lists = one_reduced game.regions game.state (length game.regions) bs xs cs (subst (λ z. AreReducedBelow game.regions game.state (length game.regions) z xs) same lessened) reduced in
      (t, ds, subst (λ z. KeepsWinning game.regions game.state z m t ds) lists first.keeps)

  -- the move is made with what was prepared
  pub made_prepared : (cs ds : List ℕ) (m : Move) (t : Whole) → IsPrepared game kept true cs → Made m → IsMove game.state m t
      → AreListedAfter game.regions game.state m t cs ds → EngineMoves game.regions game.state kept m t (Some ds)
  made_prepared cs ds m t (bs, has, reduced, wins) (u, left, (None, had, moves)) moved paid =
      absurd (cc (one_now game.regions game.state kept (Some bs) None has had))
  made_prepared cs ds m t (bs, has, reduced, wins) (u, left, (Some zs, had, (xs, ys, lessened, first, is))) moved paid =
      let some : Some bs ≡ Some zs = one_now game.regions game.state kept (Some bs) (Some zs) has had in
      let same : zs ≡ bs = cc some in
      let lists = one_reduced game.regions game.state (length game.regions) bs xs cs (subst (λ z. AreReducedBelow game.regions game.state (length game.regions) z xs) same lessened) reduced in
      let there = subst (λ z. IsFirstKeeping game.regions game.state z m u ys) lists first in
      let state = move_same game.state u t m there.keeps.moved moved in
      let here = subst (λ v. IsFirstKeeping game.regions game.state cs m v ys) state there in
      let budgets = one_listed game.regions game.state m t cs ys ds here.keeps.paid paid in
      (Some bs, has, (cs, ds, reduced, subst (λ z. IsFirstKeeping game.regions game.state cs m t z) budgets here, refl))

  -- and without, where nothing was
  pub made_plain : (m : Move) (t : Whole) → HasAtTurn game.regions game.state kept None → Made m → IsMove game.state m t
      → EngineMoves game.regions game.state kept m t None
  made_plain m t has (u, left, (Some zs, had, moves)) moved = absurd (cc (one_now game.regions game.state kept (Some zs) None had has))
  made_plain m t has (u, left, (None, had, (choice, other, is))) moved = (None, has, (choice, moved, refl))

  -- whether something was prepared or not
  pub keeps_if : (b : Bool) (cs : List ℕ) (m : Move) → IsPrepared game kept b cs → Made m → KeepsPrepared game b cs m
  keeps_if true cs m prepared made = keeps_prepared cs m prepared made
  keeps_if false cs m prepared made = tt

  pub made_if : (b : Bool) (cs ds : List ℕ) (m : Move) (t : Whole) → IsPrepared game kept b cs → Made m → IsMove game.state m t → IsPaid game b m cs ds
      → EngineMoves game.regions game.state kept m t (cond b (Some ds) None)
  made_if true cs ds m t prepared made moved paid = made_prepared cs ds m t prepared made moved (paid t moved)
  made_if false cs ds m t prepared made moved paid = made_plain m t prepared made moved

  -- the least captures serve for each region
  pub least_serve : {g : Board} → IsReached g game.regions game.state → (n : ℕ) → AreLeastCaptures game.regions game.state game.state.side n
      → WinsWithList game.regions game.state.side game.state (replicate (length game.regions) n)
  least_serve {g} reached n least = (now_serves g game.regions reached.cut game.state None (replicate (length game.regions) n) tt (n, least, refl)).1

-- the engine's move by what its colour keeps is a move of the whole game
pub played_choice : (p q : Played) (c : Colour) → p ≡ q → c ≡ p.state.side → (r : Option Move)
    → MatchOption r (¬ HasMove p.state) (λ m. (t : Whole) × (left : Option (List ℕ)) × EngineMoves p.keeping.regions p.state (kept_by c p.keeping) m t left)
    → MatchOption r (¬ HasMove q.state) (λ m. (after : Played) × EnginePlays q m after)
played_choice p q c same side None none = subst (λ z. ¬ HasMove z.state) same none
played_choice p q c same side (Some m) (t, left, moves) =
    subst (λ z. (after : Played) × EnginePlays z m after) same (
      record { state = t; keeping = keeping_with p.state.side left p.keeping },
      (left, subst (λ d. EngineMoves p.keeping.regions p.state (kept_by d p.keeping) m t left) side moves, refl),
    )

-- one more move may be made
pub room_left : (p q : Played) → p ≡ q → HasMovesLeft 1 q.keeping → p.keeping.moves + 1 ≤ MOST_MOVES
room_left p q same room = subst (λ z. HasMovesLeft 1 z.keeping) (sym same) room
