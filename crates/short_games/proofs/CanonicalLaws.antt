-- Two canonical trees that are equal as games are one tree.
use Rattle.std.proofs.Common.{◌+◌, ◌<◌, ◌≤◌, ◌≡◌, arith, refl, inl, inr, sym, ◌∙◌, ap₂, subst}
use Rattle.short_games.specs.Tree.{Tree, Trees, node, none, more, left, right, Has, size}
use Rattle.short_games.specs.Order.{◌≤ᵍ◌, by_left, by_right}
use Rattle.short_games.specs.Parts.{IsOption, IsFollower}
use Rattle.short_games.specs.Parts.IsFollower.{itself, further}
use Rattle.short_games.specs.Canonical.{Ascends, IsReduced, IsCanonical, AreCanonical}
use Rattle.short_games.proofs.OrderLaws.{by_sizes, le-out, le-trans, not-le, size-left, size-right}
use Rattle.short_games.proofs.SumLaws.{tree-same}

module _ (Before : Tree → Tree → Type 0) where
  pub canonical-at : (Gs : Trees) (G : Tree) → AreCanonical Before Gs → Has Gs G → IsCanonical Before G
  canonical-at none G c h = absurd h
  canonical-at (more K Ks) G c (inl e) = rw e c.0
  canonical-at (more K Ks) G c (inr h) = canonical-at Ks G c.1 h

  pub option-canonical : (G X : Tree) → IsCanonical Before G → IsOption G X → IsCanonical Before X
  option-canonical (node ls rs) X c (inl h) = canonical-at ls X c.1 h
  option-canonical (node ls rs) X c (inr h) = canonical-at rs X c.2 h

  pub canonical-follower : (G X : Tree) → IsCanonical Before G → IsFollower G X → IsCanonical Before X
  canonical-follower _ _ c (itself G) = c
  canonical-follower _ _ c (further G H X o f) = canonical-follower H X (option-canonical G H c o) f

  pub rest-ascends : (G : Tree) (Gs : Trees) → Ascends Before (more G Gs) → Ascends Before Gs
  rest-ascends G none a = tt
  rest-ascends G (more K Ks) a = a.1

module _ (Before : Tree → Tree → Type 0) (irreflexive : (G : Tree) → Before G G → ⊥) (transitive : (G H K : Tree) → Before G H → Before H K → Before G K) where
  pub reduced : (G : Tree) → IsCanonical Before G → IsReduced Before G
  reduced (node ls rs) c = c.0

  pub canonical-left : (G L : Tree) → IsCanonical Before G → Has (left G) L → IsCanonical Before L
  canonical-left G L c h = option-canonical Before G L c (inl h)

  pub canonical-right : (G R : Tree) → IsCanonical Before G → Has (right G) R → IsCanonical Before R
  canonical-right G R c h = option-canonical Before G R c (inr h)

  pub canonical-option : (G X : Tree) → IsCanonical Before G → IsOption G X → IsCanonical Before X
  canonical-option = option-canonical Before

  -- the first of an ascending list stands before the others
  first_before : (G : Tree) (Gs : Trees) → Ascends Before (more G Gs) → (H : Tree) → Has Gs H → Before G H
  first_before G none a H h = absurd h
  first_before G (more K Ks) a H (inl e) = rw e a.0
  first_before G (more K Ks) a H (inr h) = transitive G K H a.0 (first_before K Ks a.1 H h)

  pub ascends-rest : (G : Tree) (Gs : Trees) → Ascends Before (more G Gs) → Ascends Before Gs
  ascends-rest = rest-ascends Before

  -- ascending lists of the same trees are the same list
  same_list : (Gs Hs : Trees) → Ascends Before Gs → Ascends Before Hs → ((X : Tree) → Has Gs X → Has Hs X) → ((X : Tree) → Has Hs X → Has Gs X) → Gs ≡ Hs
  same_list none none a b f g = refl
  same_list none (more H Hs) a b f g = absurd (g H (inl refl))
  same_list (more G Gs) none a b f g = absurd (f G (inl refl))
  same_list (more G Gs) (more H Hs) a b f g = ap₂ more heads (same_list Gs Hs (ascends-rest G Gs a) (ascends-rest H Hs b)
      (λ X x. elim (f X (inr x)) [ inl e ↦ absurd (irreflexive G (first_before G Gs a G (rw (heads ∙ sym e) x))) | inr y ↦ y ])
      (λ X x. elim (g X (inr x)) [ inl e ↦ absurd (irreflexive H (first_before H Hs b H (rw (sym heads ∙ sym e) x))) | inr y ↦ y ]))
    where
      heads : G ≡ H
      heads = elim (f G (inl refl)) [
        | inl e ↦ e
        | inr x ↦ elim (g H (inl refl)) [
          | inl e ↦ sym e
          | inr y ↦ absurd (irreflexive G (transitive G H G (first_before G Gs a H y) (first_before H Hs b G x)))
        ]
      ]

  unique_step : (G H : Tree) → ((A B : Tree) → size A + size B < size G + size H → IsCanonical Before A → IsCanonical Before B → A ≤ᵍ B → B ≤ᵍ A → A ≡ B)
      → IsCanonical Before G → IsCanonical Before H → G ≤ᵍ H → H ≤ᵍ G → G ≡ H
  unique_step G H ih c d p q = tree-same G H
      (same_list _ _ (reduced G c).left_ascends (reduced H d).left_ascends (lefts G H (omega arith) c d p q) (lefts H G (omega arith) d c q p))
      (same_list _ _ (reduced G c).right_ascends (reduced H d).right_ascends (rights G H (omega arith) c d p q) (rights H G (omega arith) d c q p))
    where
      -- a Left option of the one is at most one of the other
      above_left : (A B : Tree) → IsCanonical Before A → A ≤ᵍ B → B ≤ᵍ A → (L : Tree) → Has (left A) L → (M : Tree) × Has (left B) M × (L ≤ᵍ M)
      above_left A B c p q L l = elim (not-le B L ((le-out A B p).from_left L l)) [
        | by_left M m e ↦ (M, m, e)
        | by_right R r e ↦ absurd ((reduced A c).left_kept L R l r (le-trans R B A e q))
      ]

      below_right : (A B : Tree) → IsCanonical Before A → A ≤ᵍ B → B ≤ᵍ A → (R : Tree) → Has (right A) R → (S : Tree) × Has (right B) S × (S ≤ᵍ R)
      below_right A B c p q R r = elim (not-le R B ((le-out B A q).from_right R r)) [
        | by_left L l e ↦ absurd ((reduced A c).right_kept R L r l (le-trans A B L p e))
        | by_right S s e ↦ (S, s, e)
      ]

      lefts : (A B : Tree) → size A + size B ≤ size G + size H → IsCanonical Before A → IsCanonical Before B → A ≤ᵍ B → B ≤ᵍ A → (L : Tree) → Has (left A) L → Has (left B) L
      lefts A B a c d p q L l =
          let m = above_left A B c p q L l in
          let k = above_left B A d q p m.0 m.1 in
          let same : L ≡ k.0 = (reduced A c).left_free L k.0 l k.1 (le-trans L m.0 k.0 m.2 k.2) in
          let one : L ≡ m.0 = ih L m.0 (omega (arith, size-left A L l, size-left B m.0 m.1)) (canonical-left A L c l) (canonical-left B m.0 d m.1) m.2 (subst (λ z. m.0 ≤ᵍ z) (sym same) k.2) in
          subst (λ z. Has (left B) z) (sym one) m.1

      rights : (A B : Tree) → size A + size B ≤ size G + size H → IsCanonical Before A → IsCanonical Before B → A ≤ᵍ B → B ≤ᵍ A → (R : Tree) → Has (right A) R → Has (right B) R
      rights A B a c d p q R r =
          let m = below_right A B c p q R r in
          let k = below_right B A d q p m.0 m.1 in
          let same : k.0 ≡ R = (reduced A c).right_free k.0 R k.1 r (le-trans k.0 m.0 R k.2 m.2) in
          let one : R ≡ m.0 = ih R m.0 (omega (arith, size-right A R r, size-right B m.0 m.1)) (canonical-right A R c r) (canonical-right B m.0 d m.1) (subst (λ z. z ≤ᵍ m.0) same k.2) m.2 in
          subst (λ z. Has (right B) z) (sym one) m.1

  pub canonical-unique : (G H : Tree) → IsCanonical Before G → IsCanonical Before H → G ≤ᵍ H → H ≤ᵍ G → G ≡ H
  canonical-unique = by_sizes (λ G H. IsCanonical Before G → IsCanonical Before H → G ≤ᵍ H → H ≤ᵍ G → G ≡ H) unique_step
