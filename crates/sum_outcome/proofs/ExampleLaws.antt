-- Bounds of small games.
use Rattle.std.proofs.Common.{ℕ, zero, suc, ◌≡◌, ◌*◌, ◌↔◌, ◌<◌, ◌++◌, ◌≤◌, ◌^◌, arith, inl, inr, refl, sym, ap, ap₂, ◌∙◌, subst, List, [], ◌∷◌, length, sum, ℤ, pos, ◌+ℤ◌, ◌-ℤ◌, ◌*ℤ◌}
use Rattle.std.specs.Prelude.{unsigned_abs}
use Rattle.std.proofs.lemmas.Int.{ints, by_lt_z, unsigned_abs-mul}
use Rattle.std.proofs.lemmas.List.{length_push}
use Rattle.std.proofs.lemmas.List.Sums.{sum_by-cons}
use Rattle.dyadic_num.specs.Units.{IsFraction}
use Rattle.short_games.specs.Tree.{Tree, node, none, tree_at}
use Rattle.short_games.specs.Order.{◌≤ᵍ◌}
use Rattle.short_games.specs.Number.{num, IsNumberTree, number_tree}
use Rattle.short_games.specs.Parts.{IsOption, IsNumberOf}
use Rattle.short_games.specs.TextOrder.{sorted, insert}
use Rattle.game_store.specs.Meaning.{listed, form, pick, AreIds, Extends, IsIdOf}
use Rattle.short_games.proofs.OrderLaws.{le-refl}
use Rattle.short_games.proofs.NumberLaws.{num-lt, num-zero}
use Rattle.short_games.proofs.StopLaws.{num-scaled}
use Rattle.short_games.proofs.PartLaws.{follower-of, number-follower}
use Rattle.short_games.specs.Examples.{choice, star}
use Rattle.short_games.proofs.ExampleLaws.{star-no_number, one_or_star-no_number}
use Rattle.sum_outcome.specs.Sums.{IsBound, AreBounds, IsBounded}
use Rattle.game_canon.specs.Outcomes.{AreOptionsWithin}
use Rattle.sum_outcome.specs.inner.Examples.{IsSmall, AreSmall, IsSmallId}

num-one : (e : ℕ) (m n : ℤ) → num e m ≡ num e n → m ≡ n
num-one e m n p = by_lt_z m n (λ l. absurd (num-lt e m n l (subst (λ t. t ≤ᵍ num e m) p (le-refl (num e m)))))
    (λ l. by_lt_z n m (λ k. absurd (num-lt e n m k (subst (λ t. num e m ≤ᵍ t) p (le-refl (num e m))))) (λ k. omega (arith, ints, l, k)))

bound-number : (u : ℤ) (b : ℕ) → unsigned_abs u ≤ b → IsBound (num 60 u) b
bound-number u b l x (inl e) = subst (λ y. unsigned_abs y ≤ b) (num-one 60 u x e) l
bound-number u b l x (inr (F, p, o)) = absurd (p.1 (number-follower (num 60 u) F p.0 (60, u, refl)))

bound-choice : (L R : Tree) (b : ℕ) → (IsNumberTree (choice L R) → ⊥) → IsBound L b → IsBound R b → IsBound (choice L R) b
bound-choice L R b no_number l r x (inl e) = absurd (no_number (60, x, e))
bound-choice L R b no_number l r x (inr (F, p, o)) = elim (follower-of (choice L R) F p.0) [
  | inl e ↦ option (num 60 x) (subst (λ t. IsOption t (num 60 x)) e o) (λ B d. d x (inl refl))
  | inr (X, h, f) ↦ option X h (λ B d. d x (inr (F, (f, p.1), o)))
]
  where
    option : {P : Type 0} (X : Tree) → IsOption (choice L R) X → ((B : ℕ) → IsBound X b → P) → P
    option X (inl (inl e)) k = k b (subst (λ t. IsBound t b) (sym e) l)
    option X (inl (inr h)) k = absurd h
    option X (inr (inl e)) k = k b (subst (λ t. IsBound t b) (sym e) r)
    option X (inr (inr h)) k = absurd h

bound-star : IsBound star (2 ^ 60)
bound-star = bound-choice (node none none) (node none none) (2 ^ 60) star-no_number nothing nothing
  where
    nothing : IsBound (node none none) (2 ^ 60)
    nothing = subst (λ t. IsBound t (2 ^ 60)) (num-zero 60) (bound-number (pos 0) (2 ^ 60) (omega arith))

more-bound : (G : Tree) (b c : ℕ) → b ≤ c → IsBound G b → IsBound G c
more-bound G b c l f x n = omega (arith, l, f x n)

bound-one_or_star : IsBound (choice (num 0 (pos 1)) star) (2 ^ 60)
bound-one_or_star = bound-choice (num 0 (pos 1)) star (2 ^ 60) one_or_star-no_number one bound-star
  where
    one : IsBound (num 0 (pos 1)) (2 ^ 60)
    one = subst (λ t. IsBound t (2 ^ 60)) (num-scaled 60 0 (pos 1)) (bound-number (pos (2 ^ 60)) (2 ^ 60) (omega arith))

bound-small : (G : Tree) → IsSmall G → IsBound G (2 ^ 64)
bound-small G (inl e) = subst (λ t. IsBound t (2 ^ 64)) (sym e) (more-bound star (2 ^ 60) (2 ^ 64) (omega arith) bound-star)
bound-small G (inr (inl e)) = subst (λ t. IsBound t (2 ^ 64)) (sym e) (more-bound (choice (num 0 (pos 1)) star) (2 ^ 60) (2 ^ 64) (omega arith) bound-one_or_star)
bound-small G (inr (inr f)) = f

bounds-small : (Ts : List Tree) (is : List ℕ) → AreSmall Ts is → (bs : List ℕ) × AreBounds (pick Ts is) bs × (sum bs ≡ 2 ^ 64 * length is)
bounds-small Ts [] a = ([], tt, refl)
bounds-small Ts (i ∷ is) a = let r = bounds-small Ts is a.2 in (2 ^ 64 ∷ r.0, (bound-small (tree_at Ts i) a.1, r.1), omega (arith, r.2, sum_by-cons (λ n. n) (2 ^ 64) r.0))

pub small-ids : (Ts : List Tree) (is : List ℕ) → AreSmall Ts is → AreIds Ts is
small-ids Ts [] a j l = absurd (omega (arith, l))
small-ids Ts (i ∷ is) a zero l = a.0
small-ids Ts (i ∷ is) a (suc j) l = small-ids Ts is a.2 j (omega (arith, l))

pub small-bounded : (Ts : List Tree) (is : List ℕ) (u n : ℤ) → AreSmall Ts is → length is ≤ 40 → unsigned_abs n ≤ 100 → IsFraction u n 1 → IsBounded (pick Ts is) u
small-bounded Ts is u n a few small f =
    let r = bounds-small Ts is a in
    let s = sym (unsigned_abs-mul u (pos (2 ^ 1))) ∙ ap unsigned_abs f ∙ unsigned_abs-mul n (pos (2 ^ 60)) in
    (r.0, r.1, omega (arith, r.2, few, small, s))

-- the trees of the forms that are interned
form-choice : (Ts : List Tree) (l r : ℕ) (L R : Tree) → tree_at Ts l ≡ L → tree_at Ts r ≡ R → form Ts (l ∷ []) (r ∷ []) ≡ choice L R
unfolding sorted insert
form-choice Ts l r L R p q = ap₂ choice p q

whole-tree : (Ts : List Tree) (i : ℕ) (n x : ℤ) → IsIdOf Ts (number_tree x) i → x ≡ n *ℤ pos (2 ^ 60) → tree_at Ts i ≡ num 0 n
whole-tree Ts i n x is e = is.1 ∙ ap (num 60) e ∙ num-scaled 60 0 n

pub star-form : (Ts : List Tree) (i : ℕ) (x : ℤ) → IsIdOf Ts (number_tree x) i → x ≡ pos 0 *ℤ pos (2 ^ 60) → form Ts (i ∷ []) (i ∷ []) ≡ star
star-form Ts i x is e = let z = whole-tree Ts i (pos 0) x is e ∙ num-zero 0 in form-choice Ts i i (node none none) (node none none) z z

pub one_or_star-form : (Ts Us : List Tree) (i j : ℕ) (x : ℤ) → IsIdOf Us (number_tree x) i → x ≡ pos 1 *ℤ pos (2 ^ 60) → Extends Ts Us → IsIdOf Ts star j → form Us (i ∷ []) (j ∷ []) ≡ choice (num 0 (pos 1)) star
one_or_star-form Ts Us i j x is e k s = form-choice Us i j (num 0 (pos 1)) star (whole-tree Us i (pos 1) x is e) (k.same j s.0 ∙ s.1)

-- the games that a number is added to
shifted-bound : (G : Tree) (x y : ℤ) → x ≡ y *ℤ pos (2 ^ 60) → unsigned_abs y ≤ 15 → ((z : ℤ) → IsNumberOf (choice (num 0 (pos 1)) star) z ↔ IsNumberOf G (z +ℤ x)) → IsBound G (2 ^ 64)
shifted-bound G x y e l f z n =
    let b = bound-one_or_star (z -ℤ x) ((f (z -ℤ x)).1 (subst (IsNumberOf G) (omega (arith, ints)) n)) in
    omega (arith, ints, b, e, l)

-- each id listed is that of a small game, also after more forms
small-kept : (Ts Us : List Tree) (is : List ℕ) → Extends Ts Us → AreSmall Ts is → AreSmall Us is
small-kept Ts Us [] k a = tt
small-kept Ts Us (i ∷ is) k a = (omega (arith, k.longer, a.0), subst IsSmall (sym (k.same i a.0)) a.1, small-kept Ts Us is k a.2)

small-push : (Ts : List Tree) (is : List ℕ) (i : ℕ) → AreSmall Ts is → i < length Ts → IsSmall (tree_at Ts i) → AreSmall Ts (is ++ i ∷ [])
small-push Ts [] i a l s = (l, s, tt)
small-push Ts (j ∷ js) i a l s = (a.0, a.1, small-push Ts js i a.2 l s)

-- n games so far, to each of which a number is added
pub record ShiftedSoFar (Ts : List Tree) (game : ℕ) (is : List ℕ) (n : ℤ) : Type 0 where
  pub game_is : IsIdOf Ts (choice (num 0 (pos 1)) star) game
  pub small : AreSmall Ts is
  pub count : pos (length is) ≡ n +ℤ pos 14
  pub few : length is ≤ 30

pub shifted_step : (Ts Us : List Tree) (game i : ℕ) (is : List ℕ) (n x : ℤ) → ShiftedSoFar Ts game is n → unsigned_abs n ≤ 15 → x ≡ n *ℤ pos (2 ^ 60) → Extends Ts Us → i < length Us
    → ((z : ℤ) → IsNumberOf (tree_at Ts game) z ↔ IsNumberOf (tree_at Us i) (z +ℤ x)) → ShiftedSoFar Us game (is ++ i ∷ []) (n +ℤ pos 1)
shifted_step Ts Us game i is n x w l e k lt f = record {
  game_is = (omega (arith, k.longer, w.game_is.0), k.same game w.game_is.0 ∙ w.game_is.1);
  small = small-push Us is i (small-kept Ts Us is k w.small) lt (inr (inr (shifted-bound (tree_at Us i) x n e l (subst (λ t. (z : ℤ) → IsNumberOf t z ↔ IsNumberOf (tree_at Us i) (z +ℤ x)) w.game_is.1 f))));
  count = omega (arith, ints, w.count, length_push is i);
  few = omega (arith, ints, w.count, l, length_push is i);
}

pub small-number : (Ts : List Tree) (i : ℕ) (x n : ℤ) → IsIdOf Ts (number_tree x) i → unsigned_abs n ≤ 4 → x ≡ n *ℤ pos (2 ^ 60) → IsSmallId Ts (2 ^ 62) i
small-number Ts i x n is few e = (is.0, subst (λ t. IsBound t (2 ^ 62)) (sym is.1) (bound-number x (2 ^ 62) (omega (arith, few, ap unsigned_abs e ∙ unsigned_abs-mul n (pos (2 ^ 60))))))

pub options-small : (Ts : List Tree) (i j b : ℕ) → IsBound (tree_at Ts i) b → IsBound (tree_at Ts j) b → AreOptionsWithin b (listed Ts (i ∷ []) (j ∷ []))
options-small Ts i j b l r X (inl (inl e)) = subst (λ t. IsBound t b) (sym e) l
options-small Ts i j b l r X (inl (inr h)) = absurd h
options-small Ts i j b l r X (inr (inl e)) = subst (λ t. IsBound t b) (sym e) r
options-small Ts i j b l r X (inr (inr h)) = absurd h

pub small-id_kept : (Ts Us : List Tree) (i b : ℕ) → Extends Ts Us → IsSmallId Ts b i → IsSmallId Us b i
small-id_kept Ts Us i b k s = (omega (arith, k.longer, s.0), subst (λ t. IsBound t b) (sym (k.same i s.0)) s.1)
