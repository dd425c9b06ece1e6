-- The numbers of a changed form are the changed numbers of the form.
use Rattle.std.proofs.Common.{ℕ, suc, List, ◌∷◌, length, get_or, ◌<◌, ◌≡◌, ◌↔◌, refl, sym, ◌∙◌, inl, inr, ap, subst, ℤ, pos, ◌+ℤ◌, neg_ℤ, arith}
use Rattle.std.proofs.lemmas.Int.{ints, by_lt_z}
use Rattle.dyadic_num.specs.Units.{IsInBounds}
use Rattle.short_games.specs.Tree.{Tree, Trees, node, none, more, left, right, Has, tree_at}
use Rattle.short_games.specs.Order.{◌≤ᵍ◌}
use Rattle.short_games.specs.Number.{num, IsNumberTree, number_tree}
use Rattle.short_games.specs.TextOrder.{TextBefore, sorted, IsCanonicalTree, IsCanonicalFor}
use Rattle.short_games.specs.Sum.{◌+ᵍ◌}
use Rattle.game_store.specs.Meaning.{pick, listed, form, AreIds, AreBelow, Wanted}
use Rattle.game_store.specs.Meaning.Wanted.{number, options}
use Rattle.game_store.specs.Forms.{IsMeaning, IsWithinBounds, HaveForms}
use Rattle.short_games.specs.Parts.{IsOption, IsFollower, IsPart, HasMoreParts, IsNumberOf, IsReached}
use Rattle.short_games.specs.Parts.IsFollower.{itself, further}
use Rattle.short_games.proofs.OrderLaws.{le-trans, le-refl}
use Rattle.short_games.proofs.SumLaws.{plus-nought}
use Rattle.short_games.proofs.NumberLaws.{num-lt, num-zero}
use Rattle.game_store.proofs.EntryLaws.{has-pick}
use Rattle.short_games.proofs.ExistenceLaws.{canon}
use Rattle.short_games.proofs.TextOrderLaws.{text-order, sorted-has, has-sorted}
use Rattle.short_games.proofs.ReductionLaws.{number-canonical, canonical-same, same-canonical}
use Rattle.game_canon.specs.declared.change.Change.{Change}
use Rattle.game_canon.specs.declared.change.Change.TheVariants.{Negate, Add}
use Rattle.game_canon.specs.declared.errors.FormError.{FormError}
use Rattle.game_canon.specs.declared.errors.FormError.TheVariants.{Parts, Bounds, Memory}
use Rattle.game_canon.specs.Outcomes.{IsCanonicalId}
use Rattle.game_canon.specs.Changes.{HasNumberPastBounds, IsSumRefusal}
use Rattle.game_canon.specs.inner.Changes.{target, lefts, rights, shifted, IsRefused}
use Rattle.game_canon.proofs.GameLaws.{has-left, has-right}
use Rattle.game_canon.proofs.PartLaws.{fewer, option-listed}
use Rattle.game_canon.proofs.ReachableLaws.{hot-before}
use Rattle.game_canon.proofs.ChangeLaws.{AreImages, back, changed-form, lefts-canonical, rights-canonical, number-to, number-from, number-shifted, target-back, target-same}

-- the canonical tree of a tree
canonical_of : (G : Tree) → (C : Tree) × IsCanonicalFor G C
canonical_of G = let r = canon TextBefore text-order.total G in (r.tree, record { canonical = r.canonical; under = r.under; over = r.over })

changed_each : Change → Trees → Trees
changed_each c none = none
changed_each c (more X Xs) = more (canonical_of (target c X)).0 (changed_each c Xs)

to-changed : (c : Change) (Xs : Trees) (X : Tree) → Has Xs X → (Y : Tree) × Has (changed_each c Xs) Y × IsCanonicalFor (target c X) Y
unfolding changed_each
to-changed c none X h = absurd h
to-changed c (more Z Zs) X (inl e) = let r = canonical_of (target c Z) in (r.0, inl refl, subst (λ t. IsCanonicalFor (target c t) r.0) (sym e) r.1)
to-changed c (more Z Zs) X (inr h) = let r = to-changed c Zs X h in (r.0, inr r.1, r.2)

from-changed : (c : Change) (Xs : Trees) (Y : Tree) → Has (changed_each c Xs) Y → (X : Tree) × Has Xs X × IsCanonicalFor (target c X) Y
unfolding changed_each
from-changed c none Y h = absurd h
from-changed c (more Z Zs) Y (inl e) = let r = canonical_of (target c Z) in (Z, inl refl, subst (IsCanonicalFor (target c Z)) (sym e) r.1)
from-changed c (more Z Zs) Y (inr h) = let r = from-changed c Zs Y h in (r.0, inr r.1, r.2)

images : (c : Change) (Xs : Trees) → AreImages c Xs (changed_each c Xs)
images c Xs = record { to = to-changed c Xs; from = from-changed c Xs }

-- the options of the canonical tree are the canonical trees of the changed options
module _ (c : Change) (G C : Tree) (canonical : IsCanonicalTree G) (no_number : IsNumberTree G → ⊥) (k : IsCanonicalFor (target c G) C) where
  made : node (sorted (changed_each c (lefts c G))) (sorted (changed_each c (rights c G))) ≡ C
  made = same-canonical (target c G) _ C (changed-form c G _ _ canonical no_number (images c (lefts c G)) (images c (rights c G))) k

  pub option-out : (Y : Tree) → IsOption C Y → (X : Tree) × IsOption G X × IsCanonicalTree X × IsCanonicalFor (target c X) Y
  option-out Y (inl h) = let r = from-changed c (lefts c G) Y (sorted-has (changed_each c (lefts c G)) Y (subst (λ t. Has (left t) Y) (sym made) h)) in (r.0, lefts-option c r.0 r.1, lefts-canonical c G canonical r.0 r.1, r.2)
    where
      lefts-option : (c : Change) (X : Tree) → Has (lefts c G) X → IsOption G X
      lefts-option Negate X h = inr h
      lefts-option (Add x) X h = inl h
  option-out Y (inr h) = let r = from-changed c (rights c G) Y (sorted-has (changed_each c (rights c G)) Y (subst (λ t. Has (right t) Y) (sym made) h)) in (r.0, rights-option c r.0 r.1, rights-canonical c G canonical r.0 r.1, r.2)
    where
      rights-option : (c : Change) (X : Tree) → Has (rights c G) X → IsOption G X
      rights-option Negate X h = inl h
      rights-option (Add x) X h = inr h

  by_left : (X : Tree) → Has (lefts c G) X → (Y : Tree) × IsOption C Y × IsCanonicalTree X × IsCanonicalFor (target c X) Y
  by_left X h = let r = to-changed c (lefts c G) X h in (r.0, inl (subst (λ t. Has (left t) r.0) made (has-sorted (changed_each c (lefts c G)) r.0 r.1)), lefts-canonical c G canonical X h, r.2)

  by_right : (X : Tree) → Has (rights c G) X → (Y : Tree) × IsOption C Y × IsCanonicalTree X × IsCanonicalFor (target c X) Y
  by_right X h = let r = to-changed c (rights c G) X h in (r.0, inr (subst (λ t. Has (right t) r.0) made (has-sorted (changed_each c (rights c G)) r.0 r.1)), rights-canonical c G canonical X h, r.2)

  pub option-in : (X : Tree) → IsOption G X → (Y : Tree) × IsOption C Y × IsCanonicalTree X × IsCanonicalFor (target c X) Y
  option-in X o = at c by_left by_right o
    where
      at : (c : Change) → ((X : Tree) → Has (lefts c G) X → (Y : Tree) × IsOption C Y × IsCanonicalTree X × IsCanonicalFor (target c X) Y) → ((X : Tree) → Has (rights c G) X → (Y : Tree) × IsOption C Y × IsCanonicalTree X × IsCanonicalFor (target c X) Y) → IsOption G X → (Y : Tree) × IsOption C Y × IsCanonicalTree X × IsCanonicalFor (target c X) Y
      at Negate f g (inl h) = g X h
      at Negate f g (inr h) = f X h
      at (Add x) f g (inl h) = f X h
      at (Add x) f g (inr h) = g X h

-- parts and their options
parts-in : (c : Change) (G P C : Tree) → IsFollower G P → (IsNumberTree P → ⊥) → IsCanonicalTree G → IsCanonicalFor (target c G) C → (Q : Tree) × IsPart C Q × IsCanonicalTree P × IsCanonicalFor (target c P) Q
parts-in c _ _ C (itself G) f g k = (C, (itself C, λ n. f (number-from c G C g k n)), g, k)
parts-in c _ _ C (further G H P o p) f g k =
    let r = option-in c G C g (hot-before G P (further G H P o p) f) k H o in
    let q = parts-in c H P r.0 p f r.2 r.3 in
    (q.0, (further C r.0 q.0 r.1 q.1.0, q.1.1), q.2, q.3)

pub parts-out : (c : Change) (C Q G : Tree) → IsFollower C Q → (IsNumberTree Q → ⊥) → IsCanonicalTree G → IsCanonicalFor (target c G) C → (P : Tree) × IsPart G P × IsCanonicalTree P × IsCanonicalFor (target c P) Q
parts-out c _ _ G (itself C) f g k = (G, (itself G, λ n. f (number-to c G C k n)), g, k)
parts-out c _ _ G (further C H Q o q) f g k =
    let r = option-out c G C g (λ n. hot-before C Q (further C H Q o q) f (number-to c G C k n)) k H o in
    let p = parts-out c H Q r.0 q f r.2 r.3 in
    (p.0, (further G r.0 p.0 r.1 p.1.0, p.1.1), p.2, p.3)

reached-in : (c : Change) (G C X : Tree) → IsCanonicalTree G → IsCanonicalFor (target c G) C → IsReached G X → (Y : Tree) × IsReached C Y × IsCanonicalTree X × IsCanonicalFor (target c X) Y
reached-in c G C X g k (inl e) = (C, inl refl, subst IsCanonicalTree (sym e) g, subst (λ t. IsCanonicalFor (target c t) C) (sym e) k)
reached-in c G C X g k (inr r) =
    let q = parts-in c G r.0 C r.1.0 r.1.1 g k in
    let o = option-in c r.0 q.0 q.2 r.1.1 q.3 X r.2 in
    (o.0, inr (q.0, q.1, o.1), o.2, o.3)

reached-out : (c : Change) (G C Y : Tree) → IsCanonicalTree G → IsCanonicalFor (target c G) C → IsReached C Y → (X : Tree) × IsReached G X × IsCanonicalTree X × IsCanonicalFor (target c X) Y
reached-out c G C Y g k (inl e) = (G, inl refl, g, subst (IsCanonicalFor (target c G)) (sym e) k)
reached-out c G C Y g k (inr r) =
    let p = parts-out c C r.0 G r.1.0 r.1.1 g k in
    let o = option-out c p.0 r.0 p.2 (λ n. r.1.1 (number-to c p.0 r.0 p.3 n)) p.3 Y r.2 in
    (o.0, inr (p.0, p.1, o.1), o.2, o.3)

to-number : (G : Tree) (y : ℤ) → IsReached G (number_tree y) → IsNumberOf G y
to-number G y (inl e) = inl (sym e)
to-number G y (inr r) = inr r

of-number : (G : Tree) (y : ℤ) → IsNumberOf G y → IsReached G (number_tree y)
of-number G y (inl e) = inl (sym e)
of-number G y (inr r) = inr r

shifted-is : (c : Change) (y : ℤ) (Y : Tree) → IsCanonicalFor (target c (number_tree y)) Y → Y ≡ number_tree (shifted c y)
shifted-is c y Y k = let s = number-shifted c y in same-canonical (target c (number_tree y)) Y (number_tree (shifted c y)) k record { canonical = number-canonical 60 (shifted c y); under = s.0; over = s.1 }

unshifted-is : (c : Change) (v : ℤ) (X : Tree) → IsCanonicalTree X → IsCanonicalFor (target c X) (number_tree v) → X ≡ number_tree (shifted (back c) v)
unshifted-is c v X x k =
    let b = target-back c X in
    let t = target-same (back c) (target c X) (number_tree v) (k.under, k.over) in
    let s = number-shifted (back c) v in
    canonical-same X (number_tree (shifted (back c) v)) x (number-canonical 60 (shifted (back c) v))
    (le-trans X (target (back c) (target c X)) _ b.1 (le-trans _ (target (back c) (number_tree v)) _ t.0 s.0))
    (le-trans _ (target (back c) (number_tree v)) X s.1 (le-trans _ (target (back c) (target c X)) X t.1 b.0))

pub numbers-in : (c : Change) (G C : Tree) → IsCanonicalTree G → IsCanonicalFor (target c G) C → (y : ℤ) → IsNumberOf G y → IsNumberOf C (shifted c y)
numbers-in c G C g k y n = let r = reached-in c G C (number_tree y) g k (of-number G y n) in to-number C (shifted c y) (subst (IsReached C) (shifted-is c y r.0 r.3) r.1)

pub numbers-out : (c : Change) (G C : Tree) → IsCanonicalTree G → IsCanonicalFor (target c G) C → (v : ℤ) → IsNumberOf C v → IsNumberOf G (shifted (back c) v)
numbers-out c G C g k v n = let r = reached-out c G C (number_tree v) g k (of-number C v n) in to-number G (shifted (back c) v) (subst (IsReached G) (unshifted-is c v r.0 r.2 r.3) r.1)

pub sum-numbers : (x : ℤ) (G C : Tree) → IsCanonicalTree G → IsCanonicalFor (target (Add x) G) C → (y : ℤ) → IsNumberOf G y ↔ IsNumberOf C (y +ℤ x)
sum-numbers x G C g k y = (numbers-in (Add x) G C g k y, λ n. subst (IsNumberOf G) there (numbers-out (Add x) G C g k (y +ℤ x) n))
  where
    there : (y +ℤ x) +ℤ neg_ℤ x ≡ y
    there = omega (arith, ints)

-- numbers past the bounds
one-number : (a b : ℤ) → number_tree a ≡ number_tree b → a ≡ b
one-number a b e = by_lt_z a b (λ l. absurd (num-lt 60 a b l (subst (λ t. t ≤ᵍ num 60 a) e (le-refl (num 60 a))))) (λ m. by_lt_z b a (λ l. absurd (num-lt 60 b a l (subst (λ t. t ≤ᵍ num 60 b) (sym e) (le-refl (num 60 b))))) (λ o. omega (arith, ints, m, o)))

pub past-bounds : (x : ℤ) (G : Tree) → IsCanonicalTree G → (y : ℤ) → IsNumberOf G y → (IsInBounds (y +ℤ x) → ⊥) → (C : Tree) → IsCanonicalFor (target (Add x) G) C → HasNumberPastBounds C
past-bounds x G g y n p C k = (number_tree (y +ℤ x), (60, y +ℤ x, refl), of-number C (y +ℤ x) (numbers-in (Add x) G C g k y n), λ u b e. p (subst IsInBounds (sym (one-number (y +ℤ x) u e)) b))

-- a store has no number past the bounds
option-stored : (Ts : List Tree) → HaveForms Ts → (id : ℕ) → id < length Ts → (X : Tree) → (IsNumberTree (tree_at Ts id) → ⊥) → IsOption (tree_at Ts id) X → (i : ℕ) × (i < length Ts) × (X ≡ tree_at Ts i)
option-stored Ts f id l X no_number o = let w = f id l in at w.0 w.1 o
  where
    listed-in : (is : List ℕ) → AreBelow id is → Has (pick Ts is) X → (i : ℕ) × (i < length Ts) × (X ≡ tree_at Ts i)
    listed-in is b h = let r = has-pick Ts is X h in (get_or is r.0 0, omega (arith, b r.0 r.1, l), r.2)

    at : (w : Wanted) → IsMeaning Ts id w → IsOption (tree_at Ts id) X → (i : ℕ) × (i < length Ts) × (X ≡ tree_at Ts i)
    at (number y) t o = absurd (no_number (60, y, t))
    at (options ls rs) t (inl h) = listed-in ls t.left_below (has-left Ts id ls rs t X h)
    at (options ls rs) t (inr h) = listed-in rs t.right_below (has-right Ts id ls rs t X h)

follower-stored : (Ts : List Tree) → HaveForms Ts → (G P : Tree) → IsFollower G P → (IsNumberTree P → ⊥) → (id : ℕ) × (id < length Ts) × (G ≡ tree_at Ts id) → (i : ℕ) × (i < length Ts) × (P ≡ tree_at Ts i)
follower-stored Ts f _ _ (itself G) n i = i
follower-stored Ts f _ _ (further G H P o p) n i = follower-stored Ts f H P p n (option-stored Ts f i.0 i.1 H (λ m. hot-before G P (further G H P o p) n (subst IsNumberTree (sym i.2) m)) (subst (λ t. IsOption t H) i.2 o))

reached-stored : (Ts : List Tree) → HaveForms Ts → (G X : Tree) → IsReached G X → (id : ℕ) × (id < length Ts) × (G ≡ tree_at Ts id) → (i : ℕ) × (i < length Ts) × (X ≡ tree_at Ts i)
reached-stored Ts f G X (inl e) i = (i.0, i.1, e ∙ i.2)
reached-stored Ts f G X (inr r) i = let p = follower-stored Ts f G r.0 r.1.0 r.1.1 i in option-stored Ts f p.0 p.1 X (λ m. r.1.1 (subst IsNumberTree (sym p.2) m)) (subst (λ t. IsOption t X) p.2 r.2)

pub within-bounds : (Ts : List Tree) → HaveForms Ts → (id : ℕ) → id < length Ts → HasNumberPastBounds (tree_at Ts id) → ⊥
within-bounds Ts f id l h = let i = reached-stored Ts f (tree_at Ts id) h.0 h.2 (id, l, refl) in let w = f i.0 i.1 in at i w.0 w.1 w.2
  where
    at : (i : (i : ℕ) × (i < length Ts) × (h.0 ≡ tree_at Ts i)) → (w : Wanted) → IsMeaning Ts i.0 w → IsWithinBounds w → ⊥
    at i (number y) t b = h.3 y b (i.2 ∙ t)
    at i (options ls rs) t b = t.no_number (subst IsNumberTree i.2 h.1)

-- nothing added
pub plus-zero : (G : Tree) (x : ℤ) → x ≡ pos 0 → G ≡ G +ᵍ number_tree x
plus-zero G x e = sym (ap (λ t. G +ᵍ t) (ap (num 60) e ∙ num-zero 60) ∙ plus-nought G)

pub same-sum : (Ts : List Tree) (a : ℕ) (x : ℤ) → x ≡ pos 0 → a < length Ts → IsCanonicalTree (tree_at Ts a) → IsCanonicalId Ts (tree_at Ts a +ᵍ number_tree x) a
same-sum Ts a x e l k = (l, subst (λ t. IsCanonicalFor t (tree_at Ts a)) (plus-zero (tree_at Ts a) x e) (record { canonical = k; under = le-refl (tree_at Ts a); over = le-refl (tree_at Ts a) }))

-- why a number can't be added
pub sum-refused : (G : Tree) (x : ℤ) (e : FormError) → IsCanonicalTree G → IsRefused (Add x) G e → IsSumRefusal (G +ᵍ number_tree x) e
sum-refused G x Parts g r = r
sum-refused G x Bounds g r = λ C k. past-bounds x G g r.0 r.1 r.2 C k
sum-refused G x (Memory cause) g r = tt

-- nothing is refused where each number stays within the bounds
pub sum-fits : (Ts : List Tree) (a : ℕ) (x : ℤ) → HaveForms Ts → a < length Ts → IsCanonicalTree (tree_at Ts a) → ((y : ℤ) → IsNumberOf (tree_at Ts a) y → IsInBounds (y +ℤ x)) → IsSumRefusal (tree_at Ts a +ᵍ number_tree x) Bounds → ⊥
sum-fits Ts a x f l k small refused = at s.0 s.2 w.0 w.1
  where
    C : (C : Tree) × IsCanonicalFor (tree_at Ts a +ᵍ number_tree x) C
    C = canonical_of (tree_at Ts a +ᵍ number_tree x)

    past : HasNumberPastBounds C.0
    past = refused C.0 C.1

    from : (X : Tree) × IsReached (tree_at Ts a) X × IsCanonicalTree X × IsCanonicalFor (target (Add x) X) past.0
    from = reached-out (Add x) (tree_at Ts a) C.0 past.0 k C.1 past.2

    s : (i : ℕ) × (i < length Ts) × (from.0 ≡ tree_at Ts i)
    s = reached-stored Ts f (tree_at Ts a) from.0 from.1 (a, l, refl)

    w : (w : Wanted) × IsMeaning Ts s.0 w × IsWithinBounds w
    w = f s.0 s.1

    at : (i : ℕ) → from.0 ≡ tree_at Ts i → (w : Wanted) → IsMeaning Ts i w → ⊥
    at i e (number y) t =
        let own : from.0 ≡ number_tree y = e ∙ t in
        past.3 (y +ℤ x) (small y (to-number (tree_at Ts a) y (subst (IsReached (tree_at Ts a)) own from.1)))
        (shifted-is (Add x) y past.0 (subst (λ z. IsCanonicalFor (target (Add x) z) past.0) own from.3))
    at i e (options ls rs) t = t.no_number (subst IsNumberTree e (number-from (Add x) from.0 past.0 from.2 from.3 past.1))

-- the parts of a sum with a number are those of the game, each with the number added
pub sum-parts : (x : ℤ) (C Q G : Tree) → IsFollower C Q → (IsNumberTree Q → ⊥) → IsCanonicalTree G → IsCanonicalFor (G +ᵍ number_tree x) C
    → (P : Tree) × IsPart G P × IsCanonicalTree P × IsCanonicalFor (P +ᵍ number_tree x) Q
sum-parts x C Q G f hot g k = parts-out (Add x) C Q G f hot g k

-- the options of a sum with a number are those of the game, each with the number added
pub sum-option : (x : ℤ) (G C X : Tree) → IsCanonicalTree G → (IsNumberTree G → ⊥) → IsCanonicalFor (G +ᵍ number_tree x) C → IsOption G X
    → (Y : Tree) × IsOption C Y × IsCanonicalTree X × IsCanonicalFor (X +ᵍ number_tree x) Y
sum-option x G C X g other k o = option-in (Add x) G C g other k X o

-- a game is a number where its sum with one is
pub sum-number : (x : ℤ) (G C : Tree) → IsCanonicalTree G → IsCanonicalFor (G +ᵍ number_tree x) C → IsNumberTree C → IsNumberTree G
sum-number x G C g k n = number-from (Add x) G C g k n

-- Not more parts than forms.

-- a form that isn't stored has no more parts than the store has forms, and itself
pub few-stored : (Ts : List Tree) (ls rs : List ℕ) (limit : ℕ) → HaveForms Ts → AreIds Ts ls → AreIds Ts rs → length Ts < limit → HasMoreParts (form Ts ls rs) limit → ⊥
few-stored Ts ls rs limit f l r few m = omega (
  arith,
  few,
  m.2,
  fewer (length m.0) (suc (length Ts)) (λ j i. tree_at m.0 j ≡ tree_at (form Ts ls rs ∷ Ts) i)
      (λ j k. (let p = m.1.each j k in place (form Ts ls rs) (tree_at m.0 j) refl p.0 p.1))
      (λ i j k p q a b. m.1.different i j p q (a ∙ sym b)),
)
  where
    stored : (H : Tree) → IsOption (listed Ts ls rs) H → (i : ℕ) × (i < length Ts) × (H ≡ tree_at Ts i)
    stored H (inl h) = let p = has-pick Ts ls H h in (get_or ls p.0 0, l p.0 p.1, p.2)
    stored H (inr h) = let p = has-pick Ts rs H h in (get_or rs p.0 0, r p.0 p.1, p.2)

    place : (G X : Tree) → G ≡ form Ts ls rs → IsFollower G X → (IsNumberTree X → ⊥) → (i : ℕ) × (i < suc (length Ts)) × (X ≡ tree_at (form Ts ls rs ∷ Ts) i)
    place _ _ e (itself G) n = (0, omega arith, e)
    place _ _ e (further G H X o p) n =
        let s = follower-stored Ts f H X p n (stored H (option-listed Ts ls rs H (subst (λ t. IsOption t H) e o))) in
        (suc s.0, omega (arith, s.1), s.2)
