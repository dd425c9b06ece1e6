-- A game that stands in both sums matters nothing to their order.
use Rattle.std.proofs.Common.{◌≡◌, ◌↔◌, arith, subst}
use Rattle.short_games.specs.Tree.{Tree, tree_at}
use Rattle.short_games.specs.Order.{◌≤ᵍ◌}
use Rattle.short_games.specs.Sum.{◌+ᵍ◌}
use Rattle.short_games.proofs.OrderLaws.{le-refl, le-trans}
use Rattle.short_games.proofs.SumLaws.{plus-le, plus-le_both, plus-cancel, plus-comm}
use Rattle.game_canon.specs.declared.sums.SumPair.{SumPair}
use Rattle.game_canon.specs.inner.SumComparisons.{IsCancelled}

module _ (A B C : Tree) where
  first-third : (A +ᵍ B ≤ᵍ A +ᵍ C) ↔ (B ≤ᵍ C)
  first-third = (λ y. plus-cancel B C A (le-trans _ (A +ᵍ B) _ (plus-comm B A) (le-trans _ (A +ᵍ C) _ y (plus-comm A C))), λ y. plus-le_both A A B C (le-refl A) y)

  first-fourth : (A +ᵍ B ≤ᵍ C +ᵍ A) ↔ (B ≤ᵍ C)
  first-fourth = (λ y. plus-cancel B C A (le-trans _ (A +ᵍ B) _ (plus-comm B A) y), λ y. le-trans _ (B +ᵍ A) _ (plus-comm A B) (plus-le B C A y))

  second-third : (B +ᵍ A ≤ᵍ A +ᵍ C) ↔ (B ≤ᵍ C)
  second-third = (λ y. plus-cancel B C A (le-trans _ (A +ᵍ C) _ y (plus-comm A C)), λ y. le-trans _ (C +ᵍ A) _ (plus-le B C A y) (plus-comm C A))

  second-fourth : (B +ᵍ A ≤ᵍ C +ᵍ A) ↔ (B ≤ᵍ C)
  second-fourth = (plus-cancel B C A, plus-le B C A)

both : {A B C : Type 0} → A ↔ C → B ↔ C → A ↔ B
both f g = (λ a. g.1 (f.0 a), λ b. f.1 (g.0 b))

module _ (p : SumPair) where
  pub cancels-first_third : p.first ≡ p.third → IsCancelled p (record { first = 0; second = p.second; third = 0; fourth = p.fourth })
  cancels-first_third e = record {
    ids = λ Ts a. record { first_id = omega (arith, a.first_id); second_id = a.second_id; third_id = omega (arith, a.first_id); fourth_id = a.fourth_id };
    same = λ Ts. (
        let A = tree_at Ts p.first in
        let B = tree_at Ts p.second in
        let D = tree_at Ts p.fourth in
        subst (λ i. (tree_at Ts 0 +ᵍ B ≤ᵍ tree_at Ts 0 +ᵍ D) ↔ (A +ᵍ B ≤ᵍ tree_at Ts i +ᵍ D)) e (both (first-third (tree_at Ts 0) B D) (first-third A B D))
        );
    lighter = omega arith;
  }

  pub cancels-first_fourth : p.first ≡ p.fourth → IsCancelled p (record { first = 0; second = p.second; third = p.third; fourth = 0 })
  cancels-first_fourth e = record {
    ids = λ Ts a. record { first_id = omega (arith, a.first_id); second_id = a.second_id; third_id = a.third_id; fourth_id = omega (arith, a.first_id) };
    same = λ Ts. (
        let A = tree_at Ts p.first in
        let B = tree_at Ts p.second in
        let C = tree_at Ts p.third in
        subst (λ i. (tree_at Ts 0 +ᵍ B ≤ᵍ C +ᵍ tree_at Ts 0) ↔ (A +ᵍ B ≤ᵍ C +ᵍ tree_at Ts i)) e (both (first-fourth (tree_at Ts 0) B C) (first-fourth A B C))
        );
    lighter = omega arith;
  }

  pub cancels-second_third : p.second ≡ p.third → IsCancelled p (record { first = p.first; second = 0; third = 0; fourth = p.fourth })
  cancels-second_third e = record {
    ids = λ Ts a. record { first_id = a.first_id; second_id = omega (arith, a.first_id); third_id = omega (arith, a.first_id); fourth_id = a.fourth_id };
    same = λ Ts. (
        let A = tree_at Ts p.first in
        let B = tree_at Ts p.second in
        let D = tree_at Ts p.fourth in
        subst (λ i. (A +ᵍ tree_at Ts 0 ≤ᵍ tree_at Ts 0 +ᵍ D) ↔ (A +ᵍ B ≤ᵍ tree_at Ts i +ᵍ D)) e (both (second-third (tree_at Ts 0) A D) (second-third B A D))
        );
    lighter = omega arith;
  }

  pub cancels-second_fourth : p.second ≡ p.fourth → IsCancelled p (record { first = p.first; second = 0; third = p.third; fourth = 0 })
  cancels-second_fourth e = record {
    ids = λ Ts a. record { first_id = a.first_id; second_id = omega (arith, a.first_id); third_id = a.third_id; fourth_id = omega (arith, a.first_id) };
    same = λ Ts. (
        let A = tree_at Ts p.first in
        let B = tree_at Ts p.second in
        let C = tree_at Ts p.third in
        subst (λ i. (A +ᵍ tree_at Ts 0 ≤ᵍ C +ᵍ tree_at Ts 0) ↔ (A +ᵍ B ≤ᵍ C +ᵍ tree_at Ts i)) e (both (second-fourth (tree_at Ts 0) A C) (second-fourth B A C))
        );
    lighter = omega arith;
  }
