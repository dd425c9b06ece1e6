-- What calls have answered of the games that are compared, said of the store, and the other way round.
use Rattle.std.proofs.Common.{ℕ, ◌+◌, ◌<◌, ◌≡◌, ◌↔◌, List, [], ◌∷◌, length, take, drop, arith, sym, subst, Bool, Some, None}
use Rattle.std.specs.Prelude.{Option, IsTrue, IfSome, IfNone, Result, Ok, Err, IfErr}
use Rattle.std.proofs.lemmas.List.{length-append, length-take, length-drop, get_or-take, get_or-drop}
use Rattle.short_games.specs.Tree.{Tree, tree_at}
use Rattle.short_games.specs.Number.{IsNumber, IsNumberTree}
use Rattle.short_games.specs.Order.{◌≤ᵍ◌}
use Rattle.short_games.specs.TextOrder.{IsCanonicalTree, IsCanonicalFor}
use Rattle.short_games.proofs.OrderLaws.{le-refl}
use Rattle.game_store.specs.Meaning.{form, AreIds}
use Rattle.game_canon.specs.declared.errors.FormError.{FormError}
use Rattle.game_canon.specs.declared.errors.FormError.TheVariants.{Parts, Bounds, Memory}
use Rattle.game_canon.specs.declared.games.Unstored.{Unstored}
use Rattle.game_canon.specs.Comparisons.{SaysAtMost, AreRight}
use Rattle.game_canon.specs.Outcomes.{IsCause}
use Rattle.game_canon.specs.inner.Comparisons.{IsOpen}
use Rattle.game_canon.specs.inner.Games.{with_unstored}
use Rattle.game_canon.proofs.GameLaws.{trees-extend}
use Rattle.game_canon.proofs.CanonicalFormLaws.{made-not, too-many}

-- what was remembered of the store's games says the same of them beside another form
pub earlier_says : (Ts : List Tree) (o : Option Unstored) (known : ℕ → ℕ → Option Bool) (a b : ℕ) (r : Option Bool) → AreRight Ts known → r ≡ known a b → IfSome r (λ answer. SaysAtMost (with_unstored Ts o) a b answer)
earlier_says Ts o known a b None right e = tt
earlier_says Ts o known a b (Some answer) right e =
    let s = right a b answer (sym e) in
    let x = trees-extend Ts o in
    subst (λ t. IsTrue answer ↔ (t ≤ᵍ tree_at (with_unstored Ts o) b)) (sym (x.same a s.0)) (subst (λ t. IsTrue answer ↔ (tree_at Ts a ≤ᵍ t)) (sym (x.same b s.1)) s.2)

pub still_open : (Ts : List Tree) (known : ℕ → ℕ → Option Bool) (a b : ℕ) (r : Option Bool) → a < length Ts → b < length Ts → (IsNumberTree (tree_at Ts a) → ⊥) → (IsNumberTree (tree_at Ts b) → ⊥) → None ≡ known a b → IfNone r (IsOpen Ts known a b)
still_open Ts known a b None x y f g e = record { first_id = x; second_id = y; first_form = f; second_form = g; unknown = sym e }
still_open Ts known a b (Some answer) x y f g e = tt

-- an answer on ids of the store is one on their trees
pub stored-below : (Ts : List Tree) (o : Option Unstored) (a : ℕ) (B : Tree) (answer : Bool) → a < length Ts → IsTrue answer ↔ (tree_at (with_unstored Ts o) a ≤ᵍ B) → IsTrue answer ↔ (tree_at Ts a ≤ᵍ B)
stored-below Ts o a B answer l h = subst (λ t. IsTrue answer ↔ (t ≤ᵍ B)) ((trees-extend Ts o).same a l) h

pub stored-above : (Ts : List Tree) (o : Option Unstored) (A : Tree) (b : ℕ) (answer : Bool) → b < length Ts → IsTrue answer ↔ (A ≤ᵍ tree_at (with_unstored Ts o) b) → IsTrue answer ↔ (A ≤ᵍ tree_at Ts b)
stored-above Ts o A b answer l h = subst (λ t. IsTrue answer ↔ (A ≤ᵍ t)) ((trees-extend Ts o).same b l) h

pub stored-says : (Ts : List Tree) (o : Option Unstored) (a b : ℕ) (answer : Bool) → a < length Ts → b < length Ts → SaysAtMost (with_unstored Ts o) a b answer → IsTrue answer ↔ (tree_at Ts a ≤ᵍ tree_at Ts b)
stored-says Ts o a b answer l m h = stored-above Ts o (tree_at Ts a) b answer m (stored-below Ts o a (tree_at (with_unstored Ts o) b) answer l h)

-- the id of the form beside the store
pub form-in : (Ts : List Tree) (o : Option Unstored) → (u : Unstored) × (o ≡ Some u) → length Ts < length (with_unstored Ts o)
form-in Ts o f = subst (λ o. length Ts < length (with_unstored Ts o)) (sym f.1) (omega (arith, length-append Ts (form Ts f.0.left.now f.0.right.now ∷ [])))

-- why the canonical tree has no form is why the game has none
pub itself : (F : Tree) → IsCanonicalTree F → IsCanonicalFor F F
itself F c = record { canonical = c; under = le-refl F; over = le-refl F }

pub cause-made : (G F : Tree) (limit : ℕ) (r : Result ℕ FormError) → (IsNumber G → ⊥) → IsCanonicalFor G F → IfErr r (λ error. IsCause F limit error) → IfErr r (λ error. IsCause G limit error)
cause-made G F limit (Ok id) n k h = tt
cause-made G F limit (Err Parts) n k h = too-many G F limit n k (h.1 F (itself F k.canonical))
cause-made G F limit (Err Bounds) n k h = absurd (made-not G F n k h.0)
cause-made G F limit (Err (Memory cause)) n k h = tt

-- ids of a list that is lent, up to a place and from there on
pub ids-front : (Ts : List Tree) (all ds xs : List ℕ) (n : ℕ) → xs ≡ take n ds → ds ≡ all → AreIds Ts all → AreIds Ts xs
ids-front Ts all ds xs n e d ids = subst (AreIds Ts) (sym e) (λ j l. subst (λ z. z < length Ts) (sym (get_or-take n ds j 0 (omega (arith, l, length-take n ds)))) (subst (AreIds Ts) (sym d) ids j (omega (arith, l, length-take n ds))))

pub ids-back : (Ts : List Tree) (all ds xs : List ℕ) (n : ℕ) → xs ≡ drop n ds → ds ≡ all → AreIds Ts all → AreIds Ts xs
ids-back Ts all ds xs n e d ids = subst (AreIds Ts) (sym e) (λ j l. subst (λ z. z < length Ts) (sym (get_or-drop n ds j 0)) (subst (AreIds Ts) (sym d) ids (n + j) (omega (arith, l, length-drop n ds))))
