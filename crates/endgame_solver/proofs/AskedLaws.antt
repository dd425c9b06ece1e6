-- Stones that were asked: what one answer tells of other stones, and that a stone's threshold and who wins after it follow from it.
use Rattle.std.proofs.Common.{ℕ, ℤ, ◌≡◌, ◌↔◌, ◌⊎◌, ◌^◌, ◌<◌, ◌≤◌, inl, inr, refl, sym, ap, ◌∙◌, subst, arith, List, [], length, get_or, set, unsigned_abs, Bool, IsTrue, Contains, true, false, not}
use Rattle.go_grid.specs.declared.grid.Colour.{Colour}
use Rattle.go_grid.specs.declared.grid.Colour.TheVariants.{Black, White}
use Rattle.short_games.specs.Tree.{Tree, tree_at}
use Rattle.short_games.specs.Order.{◌≡ᵍ◌}
use Rattle.short_games.specs.Number.{num}
use Rattle.short_games.specs.Sum.{◌+ᵍ◌, total}
use Rattle.short_games.proofs.OrderLaws.{le-trans, same-refl, same-sym}
use Rattle.short_games.proofs.SumLaws.{plus-cancel, same-plus}
use Rattle.game_store.specs.Meaning.{pick}
use Rattle.sum_outcome.proofs.CheapMoveLaws.{put-total}
use Rattle.sum_outcome.proofs.ListLaws.{pick-at, pick-put}
use Rattle.game_players.proofs.PlayerLaws.{loses-or_not, loses-same}
use Rattle.game_players.specs.Players.{LosesGame}
use Rattle.endgame_solver.specs.Thresholds.{BlackWins, IsLeastWin}
use Rattle.endgame_solver.specs.inner.Asked.{AreAnswers, IsAnswer, IsOn}
use Rattle.endgame_solver.specs.declared.asked.Answered.{Answered}

-- equal games are won beside the same numbers
wins_same : (c : Colour) (G H : Tree) → G ≡ᵍ H → BlackWins c G → BlackWins c H
wins_same Black G H same w = λ l. w (loses-same Black H G (same-sym G H same) l)
wins_same White G H same w = loses-same White G H same w

pub least_same : (c : Colour) (G H : Tree) (n : ℤ) → G ≡ᵍ H → IsLeastWin c G n → IsLeastWin c H n
least_same c G H n same least y =
    let beside : (G +ᵍ num 1 y) ≡ᵍ (H +ᵍ num 1 y) = same-plus G H (num 1 y) (num 1 y) same (same-refl (num 1 y)) in (
      λ w. (least y).0 (wins_same c (H +ᵍ num 1 y) (G +ᵍ num 1 y) (same-sym (G +ᵍ num 1 y) (H +ᵍ num 1 y) beside) w),
      λ le. wins_same c (G +ᵍ num 1 y) (H +ᵍ num 1 y) beside ((least y).1 le),
    )

-- a game put in the place of another adds it and takes the other
changed_total : (Ts : List Tree) (ids : List ℕ) (k v : ℕ) → k < length ids
    → (total (pick Ts (set ids k v)) +ᵍ tree_at Ts (get_or ids k 0)) ≡ᵍ (total (pick Ts ids) +ᵍ tree_at Ts v)
changed_total Ts ids k v lt =
    subst (λ Gs. (total Gs +ᵍ tree_at Ts (get_or ids k 0)) ≡ᵍ (total (pick Ts ids) +ᵍ tree_at Ts v)) (sym (pick-put Ts ids k v))
    (put-total (pick Ts ids) k (tree_at Ts (get_or ids k 0)) (tree_at Ts v) (pick-at Ts ids k lt))

-- it doesn't matter which of two equal games gives way
pub same_changed : (Ts : List Tree) (ids : List ℕ) (j k v : ℕ) → j < length ids → k < length ids → get_or ids j 0 ≡ get_or ids k 0
    → total (pick Ts (set ids j v)) ≡ᵍ total (pick Ts (set ids k v))
same_changed Ts ids j k v short long e =
    let G = total (pick Ts (set ids j v)) in
    let H = total (pick Ts (set ids k v)) in
    let K = tree_at Ts (get_or ids k 0) in
    let M = total (pick Ts ids) +ᵍ tree_at Ts v in
    let first : (G +ᵍ K) ≡ᵍ M = subst (λ i. (G +ᵍ tree_at Ts i) ≡ᵍ M) e (changed_total Ts ids j v short) in
    let second : (H +ᵍ K) ≡ᵍ M = changed_total Ts ids k v long in (
      plus-cancel G H K (le-trans (G +ᵍ K) M (H +ᵍ K) first.0 second.1),
      plus-cancel H G K (le-trans (H +ᵍ K) M (G +ᵍ K) second.0 first.1),
    )

-- What is kept.

pub none_answered : {Ts : List Tree} {ids : List ℕ} {c : Colour} {answered : List Answered} → answered ≡ [] → AreAnswers Ts ids c answered
none_answered none = record { each = λ a (j, lt, at). absurd (omega (arith, lt, ap length none)) }

module _ {Ts : List Tree} {ids : List ℕ} {c : Colour} {k : ℕ} (lt : k < length ids) where
  -- what was answered on the same games
  pub answer_serves : {i v : ℕ} {n : ℤ} {answered : List Answered} → AreAnswers Ts ids c answered → i ≡ get_or ids k 0
      → (a : Answered) × Contains answered a × IsOn i v a × (n ≡ a.least)
      → IsLeastWin c (total (pick Ts (set ids k v))) n × (unsigned_abs n ≤ 2 ^ 45)
  answer_serves {i} {v} {n} right here (a, among, (before, after), is) =
      let answer = right.each a among in (
        subst (λ T. T) (λ i. IsLeastWin c (total (pick Ts (set ids k (after i)))) (sym is i)) (answer.wins k lt (sym here ∙ sym before)),
        subst (λ m. unsigned_abs m ≤ 2 ^ 45) (sym is) answer.small,
      )

  -- an answer more
  pub answers_more : {i v : ℕ} {n : ℤ} {answered later : List Answered} → AreAnswers Ts ids c answered → i ≡ get_or ids k 0
      → IsLeastWin c (total (pick Ts (set ids k v))) n → unsigned_abs n ≤ 2 ^ 45
      → ((a : Answered) → Contains later a → Contains answered a ⊎ (a ≡ record { before = i; after = v; least = n }))
      → AreAnswers Ts ids c later
  answers_more {i} {v} {n} right here least small kept = record {
    each = λ a among. elim (kept a among) [
      | inl earlier ↦ right.each a earlier
      | inr is ↦ subst (IsAnswer Ts ids c) (sym is) record {
        wins = λ j short at. least_same c (total (pick Ts (set ids k v))) (total (pick Ts (set ids j v))) n
            (same_changed Ts ids k j v lt short (sym here ∙ sym at)) least;
        small = small;
      }
    ];
  }

-- Who loses, by the least number that wins.

pub loses_unless : (won : Bool) (G : Tree) → IsTrue won ↔ ¬ LosesGame Black G → IsTrue (not won) ↔ LosesGame Black G
loses_unless true G wins = (λ e. absurd (cc), λ l. absurd (wins.0 refl l))
loses_unless false G wins = (
  λ _. elim (loses-or_not Black G) [ inl l ↦ l | inr n ↦ let e = wins.1 n in absurd (cc) ],
  λ _. refl,
)
