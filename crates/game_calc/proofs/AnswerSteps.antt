-- The answer to what a line asks for.
use Rattle.std.proofs.Common.{ℕ, ◌≡◌, List, inl, inr, subst}
use Rattle.short_games.specs.Tree.{Tree, tree_at}
use Rattle.short_games.specs.Order.{◌≤ᵍ◌, ◌≡ᵍ◌}
use Rattle.short_games.proofs.OrderLaws.{le-trans}
use Rattle.game_canon.specs.Orders.{IsOrder}
use Rattle.game_canon.specs.declared.order.Order.{Order}
use Rattle.game_canon.specs.declared.order.Order.TheVariants.{Less, Equal, Greater, Confused}
use Rattle.short_games.proofs.ReductionLaws.{same-canonical}
use Rattle.game_lines.specs.Showings.{IsUnshown}
use Rattle.game_calc.specs.inner.Amounts.{IsAmount}
use Rattle.game_calc.specs.Answer.{IsLineAnswer, IsOrderText, IsPastLimit}
use Rattle.game_calc.specs.inner.Answer.{IsShownRefusal, IsUnanswered}
use Rattle.game_calc.specs.Expression.{Expression, tree_of}
use Rattle.game_calc.specs.Expression.Line.{value, order}
use Rattle.game_calc.specs.declared.amounts.Amount.{Amount}
use Rattle.game_calc.specs.declared.amounts.Amount.TheVariants.{Known}
use Rattle.game_calc.specs.declared.errors.CalcError.{CalcError}
use Rattle.game_calc.specs.declared.errors.CalcError.TheVariants as calc

pub unanswered : (Ts : List Tree) (limit : ℕ) (E : Expression) (id : ℕ) (a : Amount) (e : CalcError) → a ≡ Known id → IsShownRefusal (tree_at Ts id) e → IsAmount Ts limit E a → IsUnanswered limit (value E) e
unanswered Ts limit E id a (calc.Fault f) known h w = absurd h
unanswered Ts limit E id a calc.Limit known h w = inr (λ C c. subst IsUnshown (same-canonical (tree_of E) (tree_at Ts id) C (subst (IsAmount Ts limit E) known w).0.1 c) h)
unanswered Ts limit E id a (calc.Memory cause) known h w = tt

order-as : (o : Order) (G H K L : Tree) → G ≡ᵍ K → H ≡ᵍ L → IsOrder o K L → IsOrder o G H
order-as o G H K L p q = at o
  where
    under : K ≤ᵍ L → G ≤ᵍ H
    under y = le-trans G K H p.0 (le-trans K L H y q.1)

    over : L ≤ᵍ K → H ≤ᵍ G
    over y = le-trans H L G q.0 (le-trans L K G y p.1)

    not-under : (K ≤ᵍ L → ⊥) → G ≤ᵍ H → ⊥
    not-under f y = f (le-trans K G L p.1 (le-trans G H L y q.0))

    not-over : (L ≤ᵍ K → ⊥) → H ≤ᵍ G → ⊥
    not-over f y = f (le-trans L H K q.1 (le-trans H G K y p.0))

    at : (o : Order) → IsOrder o K L → IsOrder o G H
    at Less r = (under r.0, not-over r.1)
    at Equal r = (under r.0, over r.1)
    at Greater r = (not-under r.0, over r.1)
    at Confused r = (not-under r.0, not-over r.1)

pub order-answered : (Ts : List Tree) (limit : ℕ) (E F : Expression) (a b : ℕ) (m n : Amount) (text : List ℕ) → m ≡ Known a → n ≡ Known b → IsOrderText (tree_at Ts a) (tree_at Ts b) text → IsAmount Ts limit E m → IsAmount Ts limit F n
    → (IsPastLimit limit (order E F) → ⊥) × IsLineAnswer (order E F) text
order-answered Ts limit E F a b m n text e f (o, r, is) v w =
    let p = subst (IsAmount Ts limit E) e v in
    let q = subst (IsAmount Ts limit F) f w in (
      λ s. elim s [ inl x ↦ p.1 x | inr y ↦ q.1 y ],
      (o, order-as o (tree_of E) (tree_of F) (tree_at Ts a) (tree_at Ts b) (p.0.1.under, p.0.1.over) (q.0.1.under, q.0.1.over) r, is),
    )
