-- A canonical form that is no number is changed option by option.
use Rattle.std.proofs.Common.{◌+◌, ◌≡◌, sym, ◌∙◌, ap, subst, ℤ, pos, ◌+ℤ◌, neg_ℤ, arith}
use Rattle.std.proofs.lemmas.Int.{ints}
use Rattle.short_games.specs.Tree.{Tree, Trees, node, none, left, right, Has, neg}
use Rattle.short_games.specs.Order.{◌≤ᵍ◌, ◌⧏ᵍ◌, by_left, by_right}
use Rattle.short_games.specs.Sum.{◌+ᵍ◌, each_plus}
use Rattle.short_games.specs.Number.{num, IsNumber, IsNumberTree, number_tree}
use Rattle.short_games.specs.Canonical.{IsReduced}
use Rattle.short_games.specs.TextOrder.{TextBefore, sorted, IsCanonicalTree, IsCanonicalFor}
use Rattle.short_games.specs.inner.Reduction.{IsFreeLeft, KeepsLeft, KeepsRight}
use Rattle.short_games.proofs.OrderLaws.{le-refl, le-trans, not-le, same-trans}
use Rattle.short_games.proofs.SumLaws.{plus-le, plus-le_both, plus-cancel, plus-assoc, plus-nought, each_plus-has, has-each_plus, has-neg_each, neg_each-has, neg-left, neg-right, neg-neg, neg-le, not_le_left, not_right_le}
use Rattle.short_games.proofs.NumberLaws.{neg-num, num-plus_le, num-le_plus, num-zero}
use Rattle.short_games.proofs.ThresholdLaws.{scaled}
use Rattle.short_games.proofs.CanonicalLaws.{canonical-left, canonical-right}
use Rattle.short_games.proofs.CanonicalLaws as laws
use Rattle.short_games.proofs.FormLaws.{by_better, translation}
use Rattle.short_games.proofs.AvoidanceLaws.{cheap_left, cheap_right}
use Rattle.short_games.proofs.TextOrderLaws.{text-order}
use Rattle.short_games.proofs.ReductionLaws.{form-canonical, number-kept_left, number-kept_right, canonical-number, canonical-same}
use Rattle.game_canon.specs.declared.change.Change.{Change}
use Rattle.game_canon.specs.declared.change.Change.TheVariants.{Negate, Add}
use Rattle.game_canon.specs.inner.Changes.{target, lefts, rights, shifted}
use Rattle.game_canon.proofs.GameLaws.{number-as_game}

abbrev Same : Tree → Tree → Type 0
Same G H = (G ≤ᵍ H) × (H ≤ᵍ G)

reduced : (G : Tree) → IsCanonicalTree G → IsReduced TextBefore G
reduced G c = laws.reduced TextBefore text-order.irreflexive text-order.transitive G c

-- how a change turns the order
abbrev LeBy : Change → Tree → Tree → Type 0
LeBy Negate G H = H ≤ᵍ G
LeBy (Add x) G H = G ≤ᵍ H

order-out : (c : Change) (G H : Tree) → target c G ≤ᵍ target c H → LeBy c G H
order-out Negate G H y = subst (λ t. t ≤ᵍ G) (neg-neg H) (subst (λ t. neg (neg H) ≤ᵍ t) (neg-neg G) (neg-le (neg G) (neg H) y))
order-out (Add x) G H y = plus-cancel G H (number_tree x) y

pub target-same : (c : Change) (G H : Tree) → Same G H → Same (target c G) (target c H)
target-same Negate G H p = (neg-le H G p.1, neg-le G H p.0)
target-same (Add x) G H p = (plus-le G H (number_tree x) p.0, plus-le H G (number_tree x) p.1)

-- the change of each option
abbrev image : Change → Tree → Tree
image Negate G = neg G
image (Add x) G = node (each_plus (left G) (number_tree x)) (each_plus (right G) (number_tree x))

image-left : (c : Change) (G X : Tree) → Has (left (image c G)) X → (L : Tree) × Has (lefts c G) L × (X ≡ target c L)
image-left Negate G X h = neg_each-has (right G) X (subst (λ t. Has t X) (neg-left G) h)
image-left (Add x) G X h = each_plus-has (left G) (number_tree x) X h

image-right : (c : Change) (G X : Tree) → Has (right (image c G)) X → (R : Tree) × Has (rights c G) R × (X ≡ target c R)
image-right Negate G X h = neg_each-has (left G) X (subst (λ t. Has t X) (neg-right G) h)
image-right (Add x) G X h = each_plus-has (right G) (number_tree x) X h

left-image : (c : Change) (G L : Tree) → Has (lefts c G) L → Has (left (image c G)) (target c L)
left-image Negate G L h = subst (λ t. Has t (neg L)) (sym (neg-left G)) (has-neg_each (right G) L h)
left-image (Add x) G L h = has-each_plus (left G) (number_tree x) L h

right-image : (c : Change) (G R : Tree) → Has (rights c G) R → Has (right (image c G)) (target c R)
right-image Negate G R h = subst (λ t. Has t (neg R)) (sym (neg-right G)) (has-neg_each (left G) R h)
right-image (Add x) G R h = has-each_plus (right G) (number_tree x) R h

image-same : (c : Change) (G : Tree) → (IsNumber G → ⊥) → Same (target c G) (image c G)
image-same Negate G f = (le-refl (neg G), le-refl (neg G))
image-same (Add x) G f = translation 60 G x (cheap_left G f 60) (cheap_right G f 60)

-- what canonical trees say of the options
lefts-free : (c : Change) (G : Tree) → IsCanonicalTree G → (A B : Tree) → Has (lefts c G) A → Has (lefts c G) B → LeBy c A B → A ≡ B
lefts-free Negate G k A B a b y = sym ((reduced G k).right_free B A b a y)
lefts-free (Add x) G k A B a b y = (reduced G k).left_free A B a b y

rights-free : (c : Change) (G : Tree) → IsCanonicalTree G → (A B : Tree) → Has (rights c G) A → Has (rights c G) B → LeBy c A B → A ≡ B
rights-free Negate G k A B a b y = sym ((reduced G k).left_free B A b a y)
rights-free (Add x) G k A B a b y = (reduced G k).right_free A B a b y

lefts-kept : (c : Change) (G : Tree) → IsCanonicalTree G → (X Z : Tree) → Has (lefts c G) X → Has (rights c X) Z → LeBy c Z G → ⊥
lefts-kept Negate G k X Z h z y = (reduced G k).right_kept X Z h z y
lefts-kept (Add x) G k X Z h z y = (reduced G k).left_kept X Z h z y

rights-kept : (c : Change) (G : Tree) → IsCanonicalTree G → (X Z : Tree) → Has (rights c G) X → Has (lefts c X) Z → LeBy c G Z → ⊥
rights-kept Negate G k X Z h z y = (reduced G k).left_kept X Z h z y
rights-kept (Add x) G k X Z h z y = (reduced G k).right_kept X Z h z y

pub lefts-canonical : (c : Change) (G : Tree) → IsCanonicalTree G → (X : Tree) → Has (lefts c G) X → IsCanonicalTree X
lefts-canonical Negate G k X h = canonical-right TextBefore text-order.irreflexive text-order.transitive G X k h
lefts-canonical (Add x) G k X h = canonical-left TextBefore text-order.irreflexive text-order.transitive G X k h

pub rights-canonical : (c : Change) (G : Tree) → IsCanonicalTree G → (X : Tree) → Has (rights c G) X → IsCanonicalTree X
rights-canonical Negate G k X h = canonical-left TextBefore text-order.irreflexive text-order.transitive G X k h
rights-canonical (Add x) G k X h = canonical-right TextBefore text-order.irreflexive text-order.transitive G X k h

-- numbers stay numbers, and come from numbers
pub number-shifted : (c : Change) (y : ℤ) → Same (target c (number_tree y)) (number_tree (shifted c y))
number-shifted Negate y = subst (λ t. Same (neg (num 60 y)) t) (neg-num 60 y) (le-refl (neg (num 60 y)), le-refl (neg (num 60 y)))
number-shifted (Add x) y = (num-plus_le 60 y x, num-le_plus 60 y x)

number-same : (G H : Tree) → Same G H → IsNumber G → IsNumber H
number-same G H p n = (n.0, n.1, le-trans H G _ p.1 n.2, le-trans _ G H n.3 p.0)

pub target-number : (c : Change) (G : Tree) → IsNumber G → IsNumber (target c G)
target-number Negate G n = (n.0, neg_ℤ n.1, subst (λ t. neg G ≤ᵍ t) (neg-num n.0 n.1) (neg-le _ G n.3), subst (λ t. t ≤ᵍ neg G) (neg-num n.0 n.1) (neg-le G _ n.2))
target-number (Add x) G n =
    let v = scaled n.0 60 x in
    let w = scaled 60 n.0 n.1 in
    let e : n.0 + 60 ≡ 60 + n.0 = omega arith in
    let s : num 60 x ≡ num (60 + n.0) v.0 = sym (ap (λ k. num k v.0) (sym e) ∙ v.1) in (
      60 + n.0,
      w.0 +ℤ v.0,
      subst (λ t. G +ᵍ t ≤ᵍ num (60 + n.0) (w.0 +ℤ v.0)) (sym s) (le-trans _ _ _ (plus-le G (num (60 + n.0) w.0) (num (60 + n.0) v.0) (subst (λ t. G ≤ᵍ t) (sym w.1) n.2)) (num-plus_le (60 + n.0) w.0 v.0)),
      subst (λ t. num (60 + n.0) (w.0 +ℤ v.0) ≤ᵍ G +ᵍ t) (sym s) (le-trans _ _ _ (num-le_plus (60 + n.0) w.0 v.0) (plus-le (num (60 + n.0) w.0) G (num (60 + n.0) v.0) (subst (λ t. t ≤ᵍ G) (sym w.1) n.3))),
    )

-- the change back
abbrev pub back : Change → Change
back Negate = Negate
back (Add x) = Add (neg_ℤ x)

nothing : (x : ℤ) → Same (num 60 x +ᵍ num 60 (neg_ℤ x)) (node none none)
nothing x = subst (λ t. Same (num 60 x +ᵍ num 60 (neg_ℤ x)) t) (ap (num 60) zeros ∙ num-zero 60) (num-plus_le 60 x (neg_ℤ x), num-le_plus 60 x (neg_ℤ x))
  where
    zeros : x +ℤ neg_ℤ x ≡ pos 0
    zeros = omega (arith, ints)

pub target-back : (c : Change) (G : Tree) → Same (target (back c) (target c G)) G
target-back Negate G = subst (λ t. Same t G) (sym (neg-neg G)) (le-refl G, le-refl G)
target-back (Add x) G = subst (λ t. Same t G) (sym (plus-assoc G (num 60 x) (num 60 (neg_ℤ x))))
    (subst (λ t. Same (G +ᵍ (num 60 x +ᵍ num 60 (neg_ℤ x))) t) (plus-nought G) (plus-le_both G G _ _ (le-refl G) (nothing x).0, plus-le_both G G _ _ (le-refl G) (nothing x).1))

pub number-back : (c : Change) (G : Tree) → IsNumber (target c G) → IsNumber G
number-back c G n = number-same _ G (target-back c G) (target-number (back c) (target c G) n)

-- of a canonical tree
pub tree-number : (G : Tree) → IsCanonicalTree G → IsNumber G → IsNumberTree G
tree-number G k n = (n.0, n.1, canonical-number G k n)

pub canonical-as : (c : Change) (G C : Tree) → IsCanonicalFor (target c G) C → Same (target c G) C
canonical-as c G C k = (k.under, k.over)

-- a changed canonical tree is a number's just where the tree is
pub number-to : (c : Change) (X A : Tree) → IsCanonicalFor (target c X) A → IsNumberTree X → IsNumberTree A
number-to c X A k n = tree-number A k.canonical (number-same _ A (k.under, k.over) (target-number c X (number-as_game X n)))

pub number-from : (c : Change) (X A : Tree) → IsCanonicalTree X → IsCanonicalFor (target c X) A → IsNumberTree A → IsNumberTree X
number-from c X A x k n = tree-number X x (number-back c X (number-same A _ (k.over, k.under) (number-as_game A n)))

-- the second list has just the changed ones of the first
pub record AreImages (c : Change) (Xs Ys : Trees) : Type 0 where
  pub to : (X : Tree) → Has Xs X → (Y : Tree) × Has Ys Y × IsCanonicalFor (target c X) Y
  pub from : (Y : Tree) → Has Ys Y → (X : Tree) × Has Xs X × IsCanonicalFor (target c X) Y

module _ (c : Change) (G : Tree) (ms ns : Trees) (canonical : IsCanonicalTree G) (no_number : IsNumberTree G → ⊥) (a : AreImages c (lefts c G) ms) (b : AreImages c (rights c G) ns) where
  hot : IsNumber G → ⊥
  hot n = no_number (tree-number G canonical n)

  as-image : Same (node ms ns) (image c G)
  as-image = (
    by_better (node ms ns) (image c G)
        (λ A h. (let f = a.from A h in (target c f.0, left-image c G f.0 f.1, f.2.over)))
        (λ S h. (let r = image-right c G S h in let f = b.to r.0 r.1 in (f.0, f.1, subst (λ t. f.0 ≤ᵍ t) (sym r.2) f.2.over))),
    by_better (image c G) (node ms ns)
        (λ A h. (let r = image-left c G A h in let f = a.to r.0 r.1 in (f.0, f.1, subst (λ t. t ≤ᵍ f.0) (sym r.2) f.2.under)))
        (λ S h. (let f = b.from S h in (target c f.0, right-image c G f.0 f.1, f.2.under))),
  )

  as-target : Same (node ms ns) (target c G)
  as-target = let i = image-same c G hot in same-trans (node ms ns) (image c G) (target c G) as-image (i.1, i.0)

  no-form : IsNumber (node ms ns) → ⊥
  no-form n = hot (number-back c G (number-same (node ms ns) (target c G) as-target n))

  free : (Xs Ys : Trees) → AreImages c Xs Ys → ((A B : Tree) → Has Xs A → Has Xs B → LeBy c A B → A ≡ B) → IsFreeLeft Ys
  free Xs Ys i one A B h k y =
      let f = i.from A h in
      let g = i.from B k in
      let e = one f.0 g.0 f.1 g.1 (order-out c f.0 g.0 (le-trans _ A _ f.2.under (le-trans A B _ y g.2.over))) in
      let s : Same (target c f.0) B = subst (λ t. Same (target c t) B) (sym e) (g.2.under, g.2.over) in
      canonical-same A B f.2.canonical g.2.canonical y (le-trans B _ A s.1 f.2.under)

  free-left : IsFreeLeft ms
  free-left = free (lefts c G) ms a (lefts-free c G canonical)

  free-right : IsFreeLeft ns
  free-right = free (rights c G) ns b (rights-free c G canonical)

  kept-left : (A : Tree) → Has ms A → KeepsLeft (node ms ns) A
  kept-left A h R r y = by_witness (not-le R (image c X) above)
    where
      f : (X : Tree) × Has (lefts c G) X × IsCanonicalFor (target c X) A
      f = a.from A h

      X : Tree
      X = f.0

      no_tree : IsNumberTree A → ⊥
      no_tree n = number-kept_left (node ms ns) no-form free-left n.0 n.1 (subst (λ t. Has ms t) n.2 h) R (subst (λ t. Has (right t) R) n.2 r) y

      i : Same (target c X) (image c X)
      i = image-same c X (λ n. no_tree (number-to c X A f.2 (tree-number X (lefts-canonical c G canonical X f.1) n)))

      above : R ≤ᵍ image c X → ⊥
      above z = not_right_le A R r (le-trans R (image c X) A z (le-trans _ (target c X) A i.1 f.2.under))

      by_witness : image c X ⧏ᵍ R → ⊥
      by_witness (by_left Z z w) = (reduced A f.2.canonical).right_kept R Z r z (le-trans A (target c X) Z f.2.over (le-trans _ (image c X) Z i.0 w))
      by_witness (by_right S s w) = let q = image-right c X S s in
          lefts-kept c G canonical X q.0 f.1 q.1 (order-out c q.0 G (le-trans _ (node ms ns) _ (le-trans _ R _ (subst (λ t. t ≤ᵍ R) q.2 w) y) as-target.0))

  kept-right : (A : Tree) → Has ns A → KeepsRight (node ms ns) A
  kept-right A h L l y = by_witness (not-le (image c X) L below)
    where
      f : (X : Tree) × Has (rights c G) X × IsCanonicalFor (target c X) A
      f = b.from A h

      X : Tree
      X = f.0

      no_tree : IsNumberTree A → ⊥
      no_tree n = number-kept_right (node ms ns) no-form free-right n.0 n.1 (subst (λ t. Has ns t) n.2 h) L (subst (λ t. Has (left t) L) n.2 l) y

      i : Same (target c X) (image c X)
      i = image-same c X (λ n. no_tree (number-to c X A f.2 (tree-number X (rights-canonical c G canonical X f.1) n)))

      below : image c X ≤ᵍ L → ⊥
      below z = not_le_left A L l (le-trans A (target c X) L f.2.over (le-trans _ (image c X) L i.0 z))

      by_witness : L ⧏ᵍ image c X → ⊥
      by_witness (by_left Z z w) = let q = image-left c X Z z in
          rights-kept c G canonical X q.0 f.1 q.1 (order-out c G q.0 (le-trans _ (node ms ns) _ as-target.1 (le-trans _ L _ y (subst (λ t. L ≤ᵍ t) q.2 w))))
      by_witness (by_right S s w) = (reduced A f.2.canonical).left_kept L S l s (le-trans S (image c X) A w (le-trans _ (target c X) A i.1 f.2.under))

  of-form : IsCanonicalFor (node ms ns) (node (sorted ms) (sorted ns))
  of-form = form-canonical ms ns (λ A h. (a.from A h).2.canonical) (λ A h. (b.from A h).2.canonical) free-left free-right kept-left kept-right

  -- the changed options make the changed form, and no number
  pub changed-form : IsCanonicalFor (target c G) (node (sorted ms) (sorted ns))
  changed-form = let k = of-form in record {
    canonical = k.canonical;
    under = le-trans _ (node ms ns) _ as-target.1 k.under;
    over = le-trans _ (node ms ns) _ k.over as-target.0;
  }

  pub changed-no_number : IsNumberTree (node (sorted ms) (sorted ns)) → ⊥
  changed-no_number n = let k = of-form in no-form (number-same (node (sorted ms) (sorted ns)) (node ms ns) (k.over, k.under)
      (number-as_game _ n))
