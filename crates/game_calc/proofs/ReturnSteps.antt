-- A form that has all moves of another one, and returns to it by all its other moves, is equal to it.
use Rattle.std.proofs.Common.{ℕ, ◌<◌, ◌≡◌, ◌⊎◌, ◌+◌, List, length, get_or, arith, inl, inr, sym, subst, Some, None}
use Rattle.std.proofs.lemmas.Bool.{cases_lt}
use Rattle.std.specs.Prelude.{Option}
use Rattle.short_games.specs.Tree.{Tree, left, right, Has, tree_at}
use Rattle.short_games.specs.Order.{◌≡ᵍ◌}
use Rattle.short_games.specs.Parts.{IsFollower, HasMoreParts}
use Rattle.short_games.specs.Parts.IsFollower.{itself, further}
use Rattle.short_games.proofs.OrderLaws.{le-in}
use Rattle.short_games.proofs.SumLaws.{not_le_left, not_right_le}
use Rattle.short_games.proofs.PartLaws.{follower-trans}
use Rattle.game_store.specs.Meaning.{pick, listed, Extends}
use Rattle.game_store.specs.Forms.{IsOptions}
use Rattle.game_store.proofs.EntryLaws.{pick-has, has-pick}
use Rattle.game_canon.proofs.GameLaws.{left-has, has-left, right-has, has-right}
use Rattle.game_calc.specs.inner.Returns.{AreAmong, IsSmall, ReturnsTo, Stands}

-- a form that has all moves of X, and returns to X by its other moves
returning : (G X : Tree) → ((A : Tree) → Has (left X) A → Has (left G) A) → ((A : Tree) → Has (right X) A → Has (right G) A)
    → ((A : Tree) → Has (left G) A → Has (left X) A ⊎ Has (right A) X) → ((A : Tree) → Has (right G) A → Has (right X) A ⊎ Has (left A) X) → G ≡ᵍ X
returning G X ls rs lm rm = (
  le-in G X record {
    from_left = λ L l y. elim (lm L l) [ inl i ↦ not_le_left X L i y | inr i ↦ not_right_le L X i y ];
    from_right = λ R r y. not_right_le G R (rs R r) y;
  },
  le-in X G record {
    from_left = λ L l y. not_le_left G L (ls L l) y;
    from_right = λ R r y. elim (rm R r) [ inl i ↦ not_right_le X R i y | inr i ↦ not_le_left R X i y ];
  },
)

-- one more of a list
pub one-more : (P : ℕ → Type 0) (ids : List ℕ) (n : ℕ) → ((j : ℕ) → j < n → j < length ids → P (get_or ids j 0)) → P (get_or ids n 0) → (j : ℕ) → j < n + 1 → j < length ids → P (get_or ids j 0)
one-more P ids n f p j l k = elim (cases_lt j n) [
  | inl d ↦ f j d k
  | inr d ↦ (let same : n ≡ j = omega (arith, l, d) in subst (λ z. P (get_or ids z 0)) same p)
]

-- what stands in a list
pub stands-has : (Ts : List Tree) (ids : List ℕ) (id : ℕ) → Stands ids id → Has (pick Ts ids) (tree_at Ts id)
stands-has Ts ids id (k, l, e) = subst (λ z. Has (pick Ts ids) (tree_at Ts z)) e (pick-has Ts ids k l)

among-has : (Ts : List Tree) (ids others : List ℕ) → AreAmong ids others (length ids) → (A : Tree) → Has (pick Ts ids) A → Has (pick Ts others) A
among-has Ts ids others f A h = let p = has-pick Ts ids A h in subst (Has (pick Ts others)) (sym p.2) (stands-has Ts others (get_or ids p.0 0) (f p.0 p.1 p.1))

pub returned-equal : (Ts : List Tree) (ls rs ms ns : List ℕ) (x : ℕ) → IsOptions Ts x ms ns → ReturnsTo Ts ls rs ms ns x → listed Ts ls rs ≡ᵍ tree_at Ts x
returned-equal Ts ls rs ms ns x o r = returning (listed Ts ls rs) (tree_at Ts x)
    (λ A h. among-has Ts ms ls r.left_moves A (has-left Ts x ms ns o A h)) (λ A h. among-has Ts ns rs r.right_moves A (has-right Ts x ms ns o A h))
    (λ A h. (let p = has-pick Ts ls A h in elim (r.left_met p.0 p.1 p.1) [
      | inl s ↦ inl (left-has Ts x ms ns o A (subst (Has (pick Ts ms)) (sym p.2) (stands-has Ts ms (get_or ls p.0 0) s)))
      | inr s ↦ inr (subst (λ t. Has (right t) (tree_at Ts x)) (sym p.2) s)
    ]))
    (λ A h. (let p = has-pick Ts rs A h in elim (r.right_met p.0 p.1 p.1) [
      | inl s ↦ inl (right-has Ts x ms ns o A (subst (Has (pick Ts ns)) (sym p.2) (stands-has Ts ns (get_or rs p.0 0) s)))
      | inr s ↦ inr (subst (λ t. Has (left t) (tree_at Ts x)) (sym p.2) s)
    ]))

-- a follower has no more parts
pub few-follower : (G X : Tree) (limit : ℕ) → IsFollower G X → (HasMoreParts G limit → ⊥) → HasMoreParts X limit → ⊥
few-follower G X limit f few (Xs, are, more) = few (Xs, record { each = λ j l. (follower-trans G X (tree_at Xs j) f (are.each j l).0, (are.each j l).1); different = are.different }, more)

pub right-follower : (G X : Tree) → Has (right G) X → IsFollower G X
right-follower G X h = further G X X (inr h) (itself X)

-- more trees in the store
pub small-kept : (Ts Us : List Tree) (limit : ℕ) (o : Option ℕ) → Extends Ts Us → IsSmall Ts limit o → IsSmall Us limit o
small-kept Ts Us limit None x h = tt
small-kept Ts Us limit (Some id) x (l, few) = (omega (arith, l, x.longer), subst (λ t. HasMoreParts t limit → ⊥) (sym (x.same id l)) few)
