-- The trees of the games that are compared.
use Rattle.std.proofs.Common.{ℕ, ◌+◌, ◌<◌, ◌≤◌, ◌≡◌, List, [], ◌∷◌, ◌++◌, length, get_or, arith, refl, sym, ◌∙◌, ap, ap₂, subst, Some, None}
use Rattle.std.specs.Prelude.{Option}
use Rattle.std.proofs.lemmas.List.{length-append}
use Rattle.short_games.specs.Tree.{Tree, node, left, right, Has, tree_at, AreDistinct}
use Rattle.short_games.specs.Number.{IsNumber, IsNumberTree}
use Rattle.short_games.specs.Order.{◌≤ᵍ◌}
use Rattle.short_games.specs.TextOrder.{sorted}
use Rattle.game_store.specs.Meaning.{pick, form, AreBelow, Extends}
use Rattle.game_store.specs.Forms.{IsOptions}
use Rattle.short_games.proofs.TextOrderLaws.{sorted-has, has-sorted}
use Rattle.short_games.proofs.OrderLaws.{le-refl}
use Rattle.game_store.proofs.EntryLaws.{has-pick, pick-same, pick-one_to_one, extends-same, extends-push, last-value}
use Rattle.game_canon.specs.declared.games.Unstored.{Unstored}
use Rattle.game_canon.specs.declared.games.Games.{Games}
use Rattle.game_canon.specs.inner.Games.{trees, with_unstored, IsUnstored, IsBeside}

pub number-as_game : (G : Tree) → IsNumberTree G → IsNumber G
number-as_game G n = (n.0, n.1, subst (λ t. G ≤ᵍ t) n.2 (le-refl G), subst (λ t. t ≤ᵍ G) n.2 (le-refl G))

-- the store's ids keep their trees, and at most one is added
pub trees-extend : (Ts : List Tree) (o : Option Unstored) → Extends Ts (with_unstored Ts o)
trees-extend Ts None = extends-same Ts Ts refl
trees-extend Ts (Some u) = extends-push Ts (Ts ++ form Ts u.left.now u.right.now ∷ []) (form Ts u.left.now u.right.now) refl

pub trees-most : (Ts : List Tree) (o : Option Unstored) → length (with_unstored Ts o) ≤ length Ts + 1
trees-most Ts None = omega arith
trees-most Ts (Some u) = omega (arith, length-append Ts (form Ts u.left.now u.right.now ∷ []))

beside-tree : (Ts : List Tree) (u : Unstored) → tree_at (Ts ++ form Ts u.left.now u.right.now ∷ []) (length Ts) ≡ form Ts u.left.now u.right.now
beside-tree Ts u = (last-value Ts (Ts ++ form Ts u.left.now u.right.now ∷ []) (form Ts u.left.now u.right.now) (length Ts) refl refl).1

-- a fact on the form beside the store
pub of-beside : (Ts : List Tree) (o : Option Unstored) (u : Unstored) (id : ℕ) (P : Tree → Type 0) → o ≡ Some u → id ≡ length Ts → P (form Ts u.left.now u.right.now) → P (tree_at (with_unstored Ts o) id)
of-beside Ts o u id P e i p = subst (λ o. P (tree_at (with_unstored Ts o) id)) (sym e) (subst (λ k. P (tree_at (Ts ++ form Ts u.left.now u.right.now ∷ []) k)) (sym i) (subst P (sym (beside-tree Ts u)) p))

pub beside-is : (Ts : List Tree) (o : Option Unstored) (u : Unstored) → o ≡ Some u → IsBeside Ts o → IsUnstored Ts u
beside-is Ts o u e b = subst (IsBeside Ts) e b

pub no-number_beside : (Ts : List Tree) (o : Option Unstored) (u : Unstored) (id : ℕ) → o ≡ Some u → id ≡ length Ts → IsBeside Ts o → IsNumberTree (tree_at (with_unstored Ts o) id) → ⊥
no-number_beside Ts o u id e i b = of-beside Ts o u id (λ t. IsNumberTree t → ⊥) e i (λ n. (beside-is Ts o u e b).no_number (number-as_game _ n))

-- an id of the store is one of the games
pub in-games : (g : Games) (id : ℕ) → id < length g.store.now → id < length (trees g)
in-games g id l = omega (arith, l, (trees-extend g.store.now g.unstored).longer)

-- a fact on a tree of the store
pub of-stored : (Ts : List Tree) (o : Option Unstored) (id : ℕ) (P : Tree → Type 0) → id < length Ts → P (tree_at Ts id) → P (tree_at (with_unstored Ts o) id)
of-stored Ts o id P l p = subst P (sym ((trees-extend Ts o).same id l)) p

-- the options of an id, which are in the store
same-picked : (Ts Us : List Tree) (id : ℕ) (is : List ℕ) → Extends Ts Us → id ≤ length Ts → AreBelow id is → pick Us is ≡ pick Ts is
same-picked Ts Us id is e l b = pick-same Ts Us is (λ j k. e.same _ (omega (arith, l, b j k)))

same-form : (Ts Us : List Tree) (id : ℕ) (ls rs : List ℕ) → Extends Ts Us → id ≤ length Ts → AreBelow id ls → AreBelow id rs → form Us ls rs ≡ form Ts ls rs
same-form Ts Us id ls rs e l b c = ap₂ (λ a b. node (sorted a) (sorted b)) (same-picked Ts Us id ls e l b) (same-picked Ts Us id rs e l c)

pub stored-options : (Ts : List Tree) (o : Option Unstored) (id : ℕ) (ls rs : List ℕ) → id < length Ts → IsOptions Ts id ls rs → IsOptions (with_unstored Ts o) id ls rs
stored-options Ts o id ls rs l p = let e = trees-extend Ts o in record {
  tree = e.same id l ∙ p.tree ∙ sym (same-form Ts (with_unstored Ts o) id ls rs e (omega (arith, l)) p.left_below p.right_below);
  left_below = p.left_below;
  right_below = p.right_below;
  left_ascends = p.left_ascends;
  right_ascends = p.right_ascends;
  left_some = p.left_some;
  right_some = p.right_some;
  no_number = subst (λ t. IsNumberTree t → ⊥) (sym (e.same id l)) p.no_number;
}

pub beside-options : (Ts : List Tree) (o : Option Unstored) (u : Unstored) (id : ℕ) → o ≡ Some u → id ≡ length Ts → IsBeside Ts o → IsOptions (with_unstored Ts o) id u.left.now u.right.now
beside-options Ts o u id e i b = let w = beside-is Ts o u e b in record {
  tree = of-beside Ts o u id (λ t. t ≡ form (with_unstored Ts o) u.left.now u.right.now) e i (sym (same-form Ts (with_unstored Ts o) (length Ts) u.left.now u.right.now (trees-extend Ts o) (omega arith) w.left_ids w.right_ids));
  left_below = subst (λ n. AreBelow n u.left.now) (sym i) w.left_ids;
  right_below = subst (λ n. AreBelow n u.right.now) (sym i) w.right_ids;
  left_ascends = w.left_ascends;
  right_ascends = w.right_ascends;
  left_some = w.left_some;
  right_some = w.right_some;
  no_number = no-number_beside Ts o u id e i b;
}

-- an id has one list of options on each side
pub lefts-same : (Ts : List Tree) (o : Option Unstored) (id : ℕ) (ls rs ms ns : List ℕ) → AreDistinct Ts → id < length (with_unstored Ts o) → IsOptions (with_unstored Ts o) id ls rs → IsOptions (with_unstored Ts o) id ms ns → ls ≡ ms
lefts-same Ts o id ls rs ms ns d l p q =
    let e = trees-extend Ts o in
    let b : id ≤ length Ts = omega (arith, l, trees-most Ts o) in
    pick-one_to_one Ts d ls ms p.left_ascends q.left_ascends (λ j i. omega (arith, p.left_below j i, b)) (λ j i. omega (arith, q.left_below j i, b))
    (ap sorted (sym (same-picked Ts (with_unstored Ts o) id ls e b p.left_below)) ∙ ap left (sym p.tree ∙ q.tree) ∙ ap sorted (same-picked Ts (with_unstored Ts o) id ms e b q.left_below))

pub rights-same : (Ts : List Tree) (o : Option Unstored) (id : ℕ) (ls rs ms ns : List ℕ) → AreDistinct Ts → id < length (with_unstored Ts o) → IsOptions (with_unstored Ts o) id ls rs → IsOptions (with_unstored Ts o) id ms ns → rs ≡ ns
rights-same Ts o id ls rs ms ns d l p q =
    let e = trees-extend Ts o in
    let b : id ≤ length Ts = omega (arith, l, trees-most Ts o) in
    pick-one_to_one Ts d rs ns p.right_ascends q.right_ascends (λ j i. omega (arith, p.right_below j i, b)) (λ j i. omega (arith, q.right_below j i, b))
    (ap sorted (sym (same-picked Ts (with_unstored Ts o) id rs e b p.right_below)) ∙ ap right (sym p.tree ∙ q.tree) ∙ ap sorted (same-picked Ts (with_unstored Ts o) id ns e b q.right_below))

-- a fact on each id of a list, as one on the trees
pub none-list : (Ts : List Tree) (is : List ℕ) (P : Tree → Type 0) → ((j : ℕ) → j < length is → P (tree_at Ts (get_or is j 0)) → ⊥) → (Y : Tree) → Has (pick Ts is) Y → P Y → ⊥
none-list Ts is P h Y y p = let r = has-pick Ts is Y y in h r.0 r.1 (subst P r.2 p)

-- the options of an id and those of its tree
pub has-left : (Ts : List Tree) (id : ℕ) (ls rs : List ℕ) → IsOptions Ts id ls rs → (X : Tree) → Has (left (tree_at Ts id)) X → Has (pick Ts ls) X
has-left Ts id ls rs o X h = sorted-has (pick Ts ls) X (subst (λ t. Has (left t) X) o.tree h)

pub left-has : (Ts : List Tree) (id : ℕ) (ls rs : List ℕ) → IsOptions Ts id ls rs → (X : Tree) → Has (pick Ts ls) X → Has (left (tree_at Ts id)) X
left-has Ts id ls rs o X h = subst (λ t. Has (left t) X) (sym o.tree) (has-sorted (pick Ts ls) X h)

pub has-right : (Ts : List Tree) (id : ℕ) (ls rs : List ℕ) → IsOptions Ts id ls rs → (X : Tree) → Has (right (tree_at Ts id)) X → Has (pick Ts rs) X
has-right Ts id ls rs o X h = sorted-has (pick Ts rs) X (subst (λ t. Has (right t) X) o.tree h)

pub right-has : (Ts : List Tree) (id : ℕ) (ls rs : List ℕ) → IsOptions Ts id ls rs → (X : Tree) → Has (pick Ts rs) X → Has (right (tree_at Ts id)) X
right-has Ts id ls rs o X h = subst (λ t. Has (right t) X) (sym o.tree) (has-sorted (pick Ts rs) X h)

-- the form beside the store is no number
pub beside-no_number : (Ts : List Tree) (o : Option Unstored) → IsBeside Ts o → (u : Unstored) × (o ≡ Some u) → IsNumber (tree_at (with_unstored Ts o) (length Ts)) → ⊥
beside-no_number Ts o b f = of-beside Ts o f.0 (length Ts) (λ t. IsNumber t → ⊥) f.1 refl (beside-is Ts o f.0 f.1 b).no_number
