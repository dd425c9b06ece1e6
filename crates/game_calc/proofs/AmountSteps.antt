-- Amounts of opposites and sums.
use Rattle.std.proofs.Common.{ℕ, ◌≡◌, List, inl, inr, refl, subst, Some, None}
use Rattle.std.specs.Prelude.{Option}
use Rattle.short_games.specs.Tree.{Tree, neg, tree_at}
use Rattle.short_games.specs.Sum.{◌+ᵍ◌}
use Rattle.short_games.proofs.SumLaws.{neg-le, plus-le_both}
use Rattle.game_canon.specs.Outcomes.{IsCanonicalId}
use Rattle.short_games.proofs.ReductionLaws.{same-canonical}
use Rattle.game_calc.specs.inner.Amounts.{IsAmount, IsTerm, IsBefore}
use Rattle.game_calc.specs.Expression.{Expression, tree_of, HasStepOutOfLimits}
use Rattle.game_calc.specs.Expression.Expression.{game, opposite, sum}
use Rattle.game_calc.specs.Steps.{IsOutOfLimits}
use Rattle.game_calc.specs.declared.amounts.Amount.{Amount}
use Rattle.game_calc.specs.declared.amounts.Amount.TheVariants.{Known, TooLarge}
use Rattle.game_calc.specs.declared.amounts.Pass.{Pass}
use Rattle.game_calc.specs.declared.amounts.Pass.TheVariants.{Grammar, Sums}
use Rattle.game_calc.proofs.SumSteps.{id-as}

-- a game that a token names
pub game-taken_as : (pass : Pass) (Us : List Tree) (limit : ℕ) (G : Tree) (id : ℕ) → IsCanonicalId Us G id → IsTerm pass Us limit (game G) (Known id)
unfolding tree_of HasStepOutOfLimits
game-taken_as Grammar Us limit G id k = k.0
game-taken_as Sums Us limit G id k = (k, λ x. x)

pub opposite-known : (Ts Us : List Tree) (limit : ℕ) (E : Expression) (id k : ℕ) → IsAmount Ts limit E (Known id) → IsCanonicalId Us (neg (tree_at Ts id)) k → IsAmount Us limit (opposite E) (Known k)
unfolding tree_of HasStepOutOfLimits
opposite-known Ts Us limit E id k w h =
    let c = w.0.1 in
    (id-as Us (neg (tree_of E)) (neg (tree_at Ts id)) k (neg-le (tree_at Ts id) (tree_of E) c.over, neg-le (tree_of E) (tree_at Ts id) c.under) h, w.1)

pub opposite-large : (Ts Us : List Tree) (limit : ℕ) (E : Expression) → IsAmount Ts limit E TooLarge → IsAmount Us limit (opposite E) TooLarge
unfolding HasStepOutOfLimits
opposite-large Ts Us limit E h = h

module _ (Ts : List Tree) (limit : ℕ) (E F : Expression) (a b : ℕ) (first : IsAmount Ts limit E (Known a)) (second : IsAmount Ts limit F (Known b)) where
  pub sum-known : (Us : List Tree) (k : ℕ) → IsCanonicalId Us (tree_at Ts a +ᵍ tree_at Ts b) k → (IsOutOfLimits limit (tree_at Ts a) (tree_at Ts b) → ⊥) → IsAmount Us limit (sum E F) (Known k)
  unfolding tree_of HasStepOutOfLimits
  sum-known Us k h within =
      let c = first.0.1 in
      let d = second.0.1 in (
        id-as Us (tree_of E +ᵍ tree_of F) (tree_at Ts a +ᵍ tree_at Ts b) k (plus-le_both (tree_of E) (tree_at Ts a) (tree_of F) (tree_at Ts b) c.under d.under, plus-le_both (tree_at Ts a) (tree_of E) (tree_at Ts b) (tree_of F) c.over d.over) h,
        λ s. elim s [
          | inl t ↦ elim t [ inl x ↦ first.1 x | inr y ↦ second.1 y ]
          | inr f ↦ within (f (tree_at Ts a) (tree_at Ts b) c d)
        ],
      )

  pub sum-refused : (Us : List Tree) → IsOutOfLimits limit (tree_at Ts a) (tree_at Ts b) → IsAmount Us limit (sum E F) TooLarge
  unfolding HasStepOutOfLimits
  sum-refused Us out = inr (λ C D c d. subst (λ t. IsOutOfLimits limit t D) (same-canonical (tree_of E) (tree_at Ts a) C first.0.1 c) (subst (λ t. IsOutOfLimits limit (tree_at Ts a) t) (same-canonical (tree_of F) (tree_at Ts b) D second.0.1 d) out))

pub first-large : (Ts Us : List Tree) (limit : ℕ) (E F : Expression) → IsAmount Ts limit E TooLarge → IsAmount Us limit (sum E F) TooLarge
unfolding HasStepOutOfLimits
first-large Ts Us limit E F h = inl (inl h)

pub second-large : (Ts Us : List Tree) (limit : ℕ) (E F : Expression) → IsAmount Ts limit F TooLarge → IsAmount Us limit (sum E F) TooLarge
unfolding HasStepOutOfLimits
second-large Ts Us limit E F h = inl (inr h)

-- the terms before another one, where there are some
pub none-before : (Ts : List Tree) (limit : ℕ) (o : Option Expression) (b : Option Amount) → b ≡ None → IsBefore Sums Ts limit o b → o ≡ None
none-before Ts limit None b e h = refl
none-before Ts limit (Some E) b e h = absurd (subst (IsBefore Sums Ts limit (Some E)) e h)

pub some-before : (Ts : List Tree) (limit : ℕ) (o : Option Expression) (b : Option Amount) (a : Amount) → b ≡ Some a → IsBefore Sums Ts limit o b → (E : Expression) × (o ≡ Some E) × IsAmount Ts limit E a
some-before Ts limit None b a e h = absurd (subst (IsBefore Sums Ts limit None) e h)
some-before Ts limit (Some E) b a e h = (E, refl, subst (IsBefore Sums Ts limit (Some E)) e h)
