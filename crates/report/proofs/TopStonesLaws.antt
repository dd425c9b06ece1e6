-- The best stones, one after the other.
use Rattle.std.proofs.Common.{ℕ, ℤ, ◌≡◌, ◌+◌, ◌-◌, ◌<◌, ◌≤◌, ◌++◌, ◌∷◌, suc, inl, inr, refl, sym, ap, subst, ◌∙◌, arith, List, [], append_assoc, length, flat_map, Option, Some, None, IfSome}
use Rattle.std.proofs.lemmas.Int.{ints}
use Rattle.std.proofs.lemmas.List.{append-nil}
use Rattle.std.proofs.lemmas.List.Concat.{flat_map-append}
use Rattle.std.proofs.lemmas.Bool.{cases_lt}
use Rattle.go_grid.specs.declared.grid.Colour.{Colour}
use Rattle.go_grid.specs.declared.grid.Colour.TheVariants.{Black, White}
use Rattle.whole_rules.specs.declared.states.Move.TheVariants.{Stone}
use Rattle.whole_rules.specs.WholeGame.{Whole, IsLegal}
use Rattle.report.specs.declared.top_stones.RatedStone.{RatedStone}
use Rattle.report.specs.TopStones.{AreBest, ComesBefore, IsAhead, IsBehind, IsBestBelow, IsBetter, IsNextBest, IsRated, IsTopText, rated_text}
use Rattle.report.specs.inner.TopStones.{HasTold}

better_on : (c : Colour) (K L M : ℤ) → IsBetter c K L → IsBetter c L M → IsBetter c K M
better_on Black K L M first second = omega (arith, ints, first, second)
better_on White K L M first second = omega (arith, ints, first, second)

not_better : (c : Colour) (K : ℤ) → ¬ IsBetter c K K
not_better Black K better = omega (arith, ints, better)
not_better White K better = omega (arith, ints, better)

before_on : (c : Colour) (a b d : RatedStone) → ComesBefore c a b → ComesBefore c b d → ComesBefore c a d
before_on c a b d (inl first) (inl second) = inl (better_on c a.threshold b.threshold d.threshold first second)
before_on c a b d (inl first) (inr (same, lower)) = inl (subst (λ K. IsBetter c a.threshold K) same first)
before_on c a b d (inr (same, lower)) (inl second) = inl (subst (λ K. IsBetter c K d.threshold) (sym same) second)
before_on c a b d (inr (same, lower)) (inr (same', lower')) = inr (same ∙ same', omega (arith, lower, lower'))

not_before : (c : Colour) (a : RatedStone) → ¬ ComesBefore c a a
not_before c a (inl better) = not_better c a.threshold better
not_before c a (inr (same, lower)) = omega (arith, lower)

-- what comes before a stone that is ahead is ahead
ahead_on : (c : Colour) (a b : RatedStone) (best : Option RatedStone) → ComesBefore c a b → IsAhead c b best → IsAhead c a best
ahead_on c a b None before ahead = tt
ahead_on c a b (Some best) before ahead = before_on c a b best before ahead

module _ {s : Whole} {k : ℤ} {last best : Option RatedStone} {p : ℕ} (so_far : IsBestBelow s k last p best) where
  -- one point more, of which all is told
  below : ((r : RatedStone) → r.point < p → r.point < p + 1) → IfSome best (λ r. (r.point < p + 1) × IsRated s k r × IsBehind s.side last r)
  below up = elim best as (λ best. IfSome best (λ r. (r.point < p) × IsRated s k r × IsBehind s.side last r)
      → IfSome best (λ r. (r.point < p + 1) × IsRated s k r × IsBehind s.side last r)) [
        | None ↦ λ is. tt
        | Some r ↦ λ (lt, rated, behind). (up r lt, rated, behind)
      ] so_far.is

  equal : (q : ℕ) → p ≤ q → q < p + 1 → q ≡ p
  equal q ge lt = omega (arith, ge, lt)

  kept : IfSome best (λ r. (r.point < p + 1) × IsRated s k r × IsBehind s.side last r)
  kept = below (λ r lt. omega (arith, lt))

  -- a point without a legal stone
  pub stone_illegal : ¬ IsLegal s (Stone p) → IsBestBelow s k last (p + 1) best
  stone_illegal illegal = record { is = kept; others = others }
    where
      others : (q : ℕ) → q < p + 1 → IsLegal s (Stone q) → (r : RatedStone) × (r.point ≡ q) × IsRated s k r × ¬ (IsBehind s.side last r × IsAhead s.side r best)
      others q lt legal = elim (cases_lt q p) [
        | inl under ↦ so_far.others q under legal
        | inr ge ↦ absurd (illegal (subst (λ n. IsLegal s (Stone n)) (equal q ge lt) legal))
      ]

  module _ {r : RatedStone} (here : r.point ≡ p) (rated : IsRated s k r) where
    -- a stone that isn't better
    pub best_stays : ¬ (IsBehind s.side last r × IsAhead s.side r best) → IsBestBelow s k last (p + 1) best
    best_stays not = record { is = kept; others = others }
      where
        others : (q : ℕ) → q < p + 1 → IsLegal s (Stone q) → (x : RatedStone) × (x.point ≡ q) × IsRated s k x × ¬ (IsBehind s.side last x × IsAhead s.side x best)
        others q lt legal = elim (cases_lt q p) [
          | inl under ↦ so_far.others q under legal
          | inr ge ↦ (r, here ∙ sym (equal q ge lt), rated, not)
        ]

    -- a better stone
    pub best_gives_way : IsBehind s.side last r → IsAhead s.side r best → IsBestBelow s k last (p + 1) (Some r)
    best_gives_way behind ahead = record { is = (omega (arith, here), rated, behind); others = others }
      where
        others : (q : ℕ) → q < p + 1 → IsLegal s (Stone q) → (x : RatedStone) × (x.point ≡ q) × IsRated s k x × ¬ (IsBehind s.side last x × IsAhead s.side x (Some r))
        others q lt legal = elim (cases_lt q p) [
          | inl under ↦
              let (x, at, is, not) = so_far.others q under legal in
              (x, at, is, λ (after, before). not (after, ahead_on s.side x r best before ahead))
          | inr ge ↦ (r, here ∙ sym (equal q ge lt), rated, λ (after, before). not_before s.side r before)
        ]

-- no point yet
pub no_point : (s : Whole) (k : ℤ) (last : Option RatedStone) → IsBestBelow s k last 0 None
no_point s k last = record { is = tt; others = λ q lt legal. absurd (omega (arith, lt)) }

-- nothing told yet
pub none_told : (name : ℕ → List ℕ) (s : Whole) (k : ℤ) (text : List ℕ) → text ≡ [] → HasTold name s k 0 None text
none_told name s k text empty = record { told = []; text_is = empty; others = λ more are. are }

-- a stone more
pub one_told : (name : ℕ → List ℕ) (s : Whole) (k : ℤ) (n : ℕ) (last : Option RatedStone) (r : RatedStone) (a b : List ℕ) → n < 10 → HasTold name s k n last a
    → IsNextBest s k last (Some r) → b ≡ a ++ rated_text name s.side k r → HasTold name s k (n + 1) (Some r) b
one_told name s k n last r a b lt before best is = record {
  told = before.told ++ r ∷ [];
  text_is = is ∙ ap (λ t. t ++ rated_text name s.side k r) before.text_is
      ∙ ap (λ t. flat_map (rated_text name s.side k) before.told ++ t) (sym (append-nil (rated_text name s.side k r)))
      ∙ sym (flat_map-append (rated_text name s.side k) before.told (r ∷ []));
  others = λ more are. subst (AreBest s k 10 None) (sym (append_assoc before.told (r ∷ []) more))
      (before.others (r ∷ more) (subst (λ m. AreBest s k m last (r ∷ more)) next (inr (r, more, best, are, refl))));
}
  where
    next : suc (10 - (n + 1)) ≡ 10 - n
    next = omega (arith, lt)

-- no stone is left
pub all_told : (name : ℕ → List ℕ) (s : Whole) (k : ℤ) (n : ℕ) (last : Option RatedStone) (text : List ℕ) → n < 10 → HasTold name s k n last text
    → IsNextBest s k last None → IsTopText name s k text
all_told name s k n last text lt before none =
    record { best = before.told; are = subst (AreBest s k 10 None) (append-nil before.told) (before.others [] (subst (λ m. AreBest s k m last []) next (inl (none, refl)))); is = before.text_is }
  where
    next : suc (10 - (n + 1)) ≡ 10 - n
    next = omega (arith, lt)

-- ten are told
pub ten_told : (name : ℕ → List ℕ) (s : Whole) (k : ℤ) (n : ℕ) (last : Option RatedStone) (text : List ℕ) → n ≡ 10 → HasTold name s k n last text
    → IsTopText name s k text
ten_told name s k n last text ten before =
    record { best = before.told; are = subst (AreBest s k 10 None) (append-nil before.told) (before.others [] (subst (λ m. AreBest s k (10 - m) last []) (sym ten) refl)); is = before.text_is }
