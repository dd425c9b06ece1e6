-- What is left of a form when nothing more can be dropped or bypassed is canonical, but for the order.
use Rattle.std.proofs.Common.{ℕ, ◌≡◌, inl, inr, sym, subst, ℤ, arith}
use Rattle.std.proofs.lemmas.Int.{ints}
use Rattle.short_games.specs.Tree.{Tree, Trees, node, left, right, Has}
use Rattle.short_games.specs.Order.{◌≤ᵍ◌}
use Rattle.short_games.specs.Number.{num, IsNumber}
use Rattle.short_games.specs.Canonical.{IsCanonical, IsCanonicalOf}
use Rattle.short_games.specs.TextOrder.{TextBefore, sorted, IsCanonicalTree, IsCanonicalFor}
use Rattle.short_games.specs.inner.Reduction.{DropsLeft, DropsRight, BypassesLeft, BypassesRight, IsFreeLeft, KeepsLeft, KeepsRight}
use Rattle.short_games.proofs.OrderLaws.{left_side, right_side, le-refl, le-trans, none-or_some, le-or_not}
use Rattle.short_games.proofs.SumLaws.{not_le_left, not_right_le}
use Rattle.short_games.proofs.NumberLaws.{num-left, num-right, num-le}
use Rattle.short_games.proofs.CanonicalLaws.{canonical-unique}
use Rattle.short_games.proofs.FormLaws.{bypassed, dropped, by_better, number_between, all-canonical, num-canonical}
use Rattle.short_games.proofs.TextOrderLaws.{text-order, Sorted, sorted-is}

pub drops-left : (G H : Tree) → DropsLeft G H → (G ≤ᵍ H) × (H ≤ᵍ G)
drops-left G H d = dropped left right (λ A B. A ≤ᵍ B) left_side G H d.covered d.from d.others

pub drops-right : (G H : Tree) → DropsRight G H → (G ≤ᵍ H) × (H ≤ᵍ G)
drops-right G H d = let both = dropped right left (λ A B. B ≤ᵍ A) right_side G H d.covered d.from d.others in (both.1, both.0)

pub bypasses-left : (G H L R : Tree) → BypassesLeft G H L R → (G ≤ᵍ H) × (H ≤ᵍ G)
bypasses-left G H L R v = bypassed left right (λ A B. A ≤ᵍ B) left_side G H
    (λ X x. elim (v.kept X x) [ inl e ↦ inr (R, subst (λ t. Has (right t) R) (sym e) v.answer, v.reverses, v.added) | inr h ↦ inl h ])
    (λ X x. elim (v.from X x) [ inl h ↦ inl h | inr h ↦ inr (R, v.reverses, h) ]) v.others

pub bypasses-right : (G H R L : Tree) → BypassesRight G H R L → (G ≤ᵍ H) × (H ≤ᵍ G)
bypasses-right G H R L v = let both = bypassed right left (λ A B. B ≤ᵍ A) right_side G H
    (λ X x. elim (v.kept X x) [ inl e ↦ inr (L, subst (λ t. Has (left t) L) (sym e) v.answer, v.reverses, v.added) | inr h ↦ inl h ])
    (λ X x. elim (v.from X x) [ inl h ↦ inl h | inr h ↦ inr (L, v.reverses, h) ]) v.others in (both.1, both.0)

-- where a game that is no number is at least a number, one of its Left options is too
pub option-over : (G : Tree) → (IsNumber G → ⊥) → (e : ℕ) (m : ℤ) → num e m ≤ᵍ G → (Y : Tree) × Has (left G) Y × (num e m ≤ᵍ Y)
option-over G no_number e m p = elim (none-or_some (λ K. num e m ≤ᵍ K) (λ K. le-or_not (num e m) K) (left G)) [
  | inl t ↦ absurd (no_number (number_between G e m (t) (λ R r y. not_right_le G R r (le-trans R (num e m) G y p))))
  | inr f ↦ f
]

pub option-under : (G : Tree) → (IsNumber G → ⊥) → (e : ℕ) (m : ℤ) → G ≤ᵍ num e m → (Y : Tree) × Has (right G) Y × (Y ≤ᵍ num e m)
option-under G no_number e m p = elim (none-or_some (λ K. K ≤ᵍ num e m) (λ K. le-or_not K (num e m)) (right G)) [
  | inl t ↦ absurd (no_number (number_between G e m (λ L l y. not_le_left G L l (le-trans G (num e m) L p y)) (t)))
  | inr f ↦ f
]

-- a number that is an option isn't reversible where no option is dominated
pub number-kept_left : (G : Tree) → (IsNumber G → ⊥) → IsFreeLeft (left G) → (e : ℕ) (m : ℤ) → Has (left G) (num e m) → KeepsLeft G (num e m)
number-kept_left G no_number free e m h R r p =
    let k = num-right e m R r in
    let y = option-over G no_number e k.0 (subst (λ t. t ≤ᵍ G) k.2 p) in
    let under = le-trans (num e m) (num e k.0) y.0 (num-le e m k.0 (omega (arith, ints, k.1))) y.2 in
    let same = free (num e m) y.0 h y.1 under in
    not_right_le (num e m) R r (subst (λ t. t ≤ᵍ num e m) (sym k.2) (subst (λ t. num e k.0 ≤ᵍ t) (sym same) y.2))

pub number-kept_right : (G : Tree) → (IsNumber G → ⊥) → IsFreeLeft (right G) → (e : ℕ) (m : ℤ) → Has (right G) (num e m) → KeepsRight G (num e m)
number-kept_right G no_number free e m h L l p =
    let k = num-left e m L l in
    let y = option-under G no_number e k.0 (subst (λ t. G ≤ᵍ t) k.2 p) in
    let under = le-trans y.0 (num e k.0) (num e m) y.2 (num-le e k.0 m (omega (arith, ints, k.1))) in
    let same = free y.0 (num e m) y.1 h under in
    not_le_left (num e m) L l (subst (λ t. num e m ≤ᵍ t) (sym k.2) (subst (λ t. t ≤ᵍ num e k.0) same y.2))

-- a Left option that a number reverses can go: what stands for it is another option
pub number-answers_left : (G : Tree) → (IsNumber G → ⊥) → (L : Tree) (e : ℕ) (m : ℤ) → Has (right L) (num e m) → num e m ≤ᵍ G → (X : Tree) → Has (left (num e m)) X → (Y : Tree) × Has (left G) Y × (Y ≡ L → ⊥) × (X ≤ᵍ Y)
number-answers_left G no_number L e m r p X x =
    let y = option-over G no_number e m p in
    let k = num-left e m X x in
    (y.0, y.1, λ i. not_right_le L (num e m) r (subst (λ t. num e m ≤ᵍ t) i y.2), le-trans X (num e m) y.0 (subst (λ t. t ≤ᵍ num e m) (sym k.2) (num-le e k.0 m (omega (arith, ints, k.1)))) y.2)

pub number-answers_right : (G : Tree) → (IsNumber G → ⊥) → (R : Tree) (e : ℕ) (m : ℤ) → Has (left R) (num e m) → G ≤ᵍ num e m → (X : Tree) → Has (right (num e m)) X → (Y : Tree) × Has (right G) Y × (Y ≡ R → ⊥) × (Y ≤ᵍ X)
number-answers_right G no_number R e m l p X x =
    let y = option-under G no_number e m p in
    let k = num-right e m X x in
    (y.0, y.1, λ i. not_le_left R (num e m) l (subst (λ t. t ≤ᵍ num e m) i y.2), le-trans y.0 (num e m) X y.2 (subst (λ t. num e m ≤ᵍ t) (sym k.2) (num-le e m k.0 (omega (arith, ints, k.1)))))

-- a form of which nothing can be dropped or bypassed, put in order, is the canonical tree
pub form-in_order : (Before : Tree → Tree → Type 0) (ls rs ms ns : Trees) → Sorted Before ls ms → Sorted Before rs ns
    → ((X : Tree) → Has ls X → IsCanonical Before X) → ((X : Tree) → Has rs X → IsCanonical Before X) → IsFreeLeft ls → IsFreeLeft rs
    → ((L : Tree) → Has ls L → KeepsLeft (node ls rs) L) → ((R : Tree) → Has rs R → KeepsRight (node ls rs) R)
    → IsCanonicalOf Before (node ls rs) (node ms ns)
form-in_order Before ls rs ms ns s t c d free free' kept kept' = record { canonical = canonical; under = under; over = over }
  where
    under : node ls rs ≤ᵍ node ms ns
    under = by_better (node ls rs) (node ms ns) (λ L l. (L, s.from L l, le-refl L)) (λ R r. (R, t.to R r, le-refl R))

    over : node ms ns ≤ᵍ node ls rs
    over = by_better (node ms ns) (node ls rs) (λ L l. (L, s.to L l, le-refl L)) (λ R r. (R, t.from R r, le-refl R))

    canonical : IsCanonical Before (node ms ns)
    canonical = (
      record {
        left_free = λ A B a b l. free A B (s.to A a) (s.to B b) l;
        right_free = λ A B a b l. free' A B (t.to A a) (t.to B b) l;
        left_kept = λ L R l r y. kept L (s.to L l) R r (le-trans R (node ms ns) (node ls rs) y over);
        right_kept = λ R L r l y. kept' R (t.to R r) L l (le-trans (node ls rs) (node ms ns) L under y);
        left_ascends = s.ascends;
        right_ascends = t.ascends;
      },
      all-canonical Before ms (λ X x. c X (s.to X x)),
      all-canonical Before ns (λ X x. d X (t.to X x)),
    )

pub form-canonical : (ls rs : Trees) → ((X : Tree) → Has ls X → IsCanonicalTree X) → ((X : Tree) → Has rs X → IsCanonicalTree X) → IsFreeLeft ls → IsFreeLeft rs → ((L : Tree) → Has ls L → KeepsLeft (node ls rs) L) → ((R : Tree) → Has rs R → KeepsRight (node ls rs) R)
    → IsCanonicalFor (node ls rs) (node (sorted ls) (sorted rs))
form-canonical ls rs = form-in_order TextBefore ls rs (sorted ls) (sorted rs) (sorted-is ls) (sorted-is rs)

-- numbers are canonical, and a canonical tree that is none is no number as a game
pub number-canonical : (e : ℕ) (m : ℤ) → IsCanonicalTree (num e m)
number-canonical e m = num-canonical TextBefore e m

pub canonical-number : (G : Tree) → IsCanonicalTree G → (n : IsNumber G) → G ≡ num n.0 n.1
canonical-number G c n = canonical-unique TextBefore text-order.irreflexive text-order.transitive G (num n.0 n.1) c (number-canonical n.0 n.1) n.2 n.3

pub canonical-same : (G H : Tree) → IsCanonicalTree G → IsCanonicalTree H → G ≤ᵍ H → H ≤ᵍ G → G ≡ H
canonical-same = canonical-unique TextBefore text-order.irreflexive text-order.transitive

-- a tree has one canonical tree
pub same-canonical : (G C D : Tree) → IsCanonicalFor G C → IsCanonicalFor G D → C ≡ D
same-canonical G C D k l = canonical-same C D k.canonical l.canonical (le-trans C G D k.over l.under) (le-trans D G C l.over k.under)
