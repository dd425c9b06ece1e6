-- Stones that were asked: what one answer tells of other stones, and that who wins behind a stone follows from its margin.
use Rattle.std.proofs.Common.{ℕ, ℤ, ◌≡◌, ◌↔◌, ◌⊎◌, ◌^◌, ◌<◌, ◌≤◌, ◌-ℤ◌, inl, inr, refl, sym, ap, ◌∙◌, subst, arith, pos, List, [], length, get_or, set, unsigned_abs, Contains, IfSome, MatchOption, Option, None, Some}
use Rattle.std.proofs.lemmas.Int.{ints}
use Rattle.go_grid.specs.declared.grid.Colour.{Colour}
use Rattle.go_grid.specs.Board.{other}
use Rattle.short_games.specs.Tree.{Tree}
use Rattle.short_games.specs.Number.{num}
use Rattle.short_games.specs.Sum.{◌+ᵍ◌, total}
use Rattle.game_store.specs.Meaning.{pick}
use Rattle.whole_rules.specs.declared.money.Purses.{Purses}
use Rattle.endgame_solver.specs.SumGame.{balance}
use Rattle.endgame_solver.specs.Thresholds.{IsLeastWin}
use Rattle.endgame_solver.proofs.AskedLaws.{least_same, same_changed}
use Rattle.whole_budgets.specs.BudgetSums.{WinsGame}
use Rattle.cycle_solver.specs.Thresholds.{IsGoodFor}
use Rattle.cycle_solver.specs.inner.Asked.{AreAnswers, IsAnswer, IsOn, IsWonBy}
use Rattle.cycle_solver.specs.declared.asked.Answered.{Answered}
use Rattle.cycle_solver.specs.declared.asking.Present.{Present}
use Rattle.cycle_solver.specs.declared.changes.Change.{Change}
use Rattle.cycle_solver.specs.Changes.{IsSomeChange}
use Rattle.cycle_solver.specs.GameLists.{game_at}
use Rattle.cycle_solver.specs.Held.{AreSummed, IsSeen, enough, ids_with}
use Rattle.cycle_solver.proofs.ChangeLaws.{stone_in_sum, summed_stone}
use Rattle.cycle_solver.proofs.ThresholdLaws.{WinsHere, good_here, wins_here}

-- What is kept.

pub none_answered : {Ts : List Tree} {ids : List ℕ} {c : Colour} {answered : List Answered} → answered ≡ [] → AreAnswers Ts ids c answered
none_answered none = record { each = λ a (j, lt, at). absurd (omega (arith, lt, ap length none)) }

module _ {Ts : List Tree} {ids : List ℕ} {c : Colour} {k : ℕ} (lt : k < length ids) where
  -- what was answered on the same games
  pub answer_serves : {i v : ℕ} {m : Purses} {n : ℤ} {answered : List Answered} → AreAnswers Ts ids c answered → i ≡ get_or ids k 0
      → (a : Answered) × Contains answered a × IsOn i v m a × (n ≡ a.margin)
      → IsLeastWin c (total (pick Ts (set ids k v))) (balance m -ℤ n) × (unsigned_abs n ≤ 2 ^ 46)
  answer_serves right here (a, among, (before, after, purses), is) =
      let answer = right.each a among in (
        subst (λ T. T) (λ i. IsLeastWin c (total (pick Ts (set ids k (after i)))) (balance (purses i) -ℤ sym is i)) (answer.wins k lt (sym here ∙ sym before)),
        subst (λ z. unsigned_abs z ≤ 2 ^ 46) (sym is) answer.small,
      )

  -- an answer more
  pub answers_more : {i v : ℕ} {m : Purses} {n : ℤ} {answered later : List Answered} → AreAnswers Ts ids c answered → i ≡ get_or ids k 0
      → IsLeastWin c (total (pick Ts (set ids k v))) (balance m -ℤ n) → unsigned_abs n ≤ 2 ^ 46
      → ((a : Answered) → Contains later a → Contains answered a ⊎ (a ≡ record { before = i; after = v; purses = m; margin = n }))
      → AreAnswers Ts ids c later
  answers_more {i} {v} {m} {n} right here least small kept = record {
    each = λ a among. elim (kept a among) [
      | inl earlier ↦ right.each a earlier
      | inr is ↦ subst (IsAnswer Ts ids c) (sym is) record {
        wins = λ j short at. least_same c (total (pick Ts (set ids k v))) (total (pick Ts (set ids j v))) (balance m -ℤ n)
            (same_changed Ts ids k j v lt short (sym here ∙ sym at)) least;
        small = small;
      }
    ];
  }

-- what was answered on the games of a stone tells by how much it is won
pub known_won : (present : Present) → IsSeen present → (x : Change) → IsSomeChange present x → {k i v : ℕ} → x.stone ≡ Some (k, i) → (c : Colour) {ids : List ℕ}
    → AreSummed present.games.now present.places.now c enough ids → v ≡ get_or (ids_with (game_at present.games.now k) c enough) i 0
    → {answered : List Answered} → AreAnswers present.store.now ids (other present.whole.now.side) answered → (Not : Type 0) (n : Option ℤ)
    → MatchOption n Not (λ n. (a : Answered) × Contains answered a × IsOn (get_or ids k 0) v x.purses a × (n ≡ a.margin))
    → IfSome n (λ n. IsWonBy present x c n)
known_won present seen x some is c summed value right Not None known = tt
known_won present seen x some {k} {v = v} is c {ids} summed value right Not (Some n) known =
    let (least, small) = answer_serves (stone_in_sum present seen x some is summed) right refl known in
    record { ids = set ids k v; summed = summed_stone present seen x some is c summed value; least = least; small = small }

-- Who wins, by the margin.

pub won_by_margin : (d c : Colour) (G : Tree) (m n : ℤ) → IsLeastWin c G (m -ℤ n) → IsGoodFor d n (pos 0) ↔ WinsGame d c (G +ᵍ num 1 m)
won_by_margin d c G m n least =
    let none : m -ℤ pos 0 ≡ m = omega (arith, ints) in
    let back : m -ℤ (m -ℤ n) ≡ n = omega (arith, ints) in
    let here = wins_here d c (G +ᵍ num 1 m) in
    let good = subst (λ T. T) (λ i. WinsHere d c (G +ᵍ num 1 (none i)) ↔ IsGoodFor d (back i) (pos 0)) (good_here d c G m (m -ℤ n) (pos 0) least) in
    (λ g. here.1 (good.1 g), λ w. good.0 (here.0 w))
