-- Floors and ceilings: which form is a number, and which number it is: the simplest that fits.
use Rattle.std.proofs.Common.{ℕ, zero, suc, ◌+◌, ◌≡◌, ◌↔◌, arith, refl, inl, inr, sym, ◌∙◌, ap, subst, ℤ, pos, negsuc, ◌+ℤ◌, ◌<ℤ◌, ◌≤ℤ◌, ◌⊎◌}
use Rattle.std.proofs.lemmas.Int.{ints, by_lt_z}
use Rattle.std.proofs.lemmas.Bool.{cases_Bool}
use Rattle.short_games.specs.Tree.{Tree, left, right, Has, size}
use Rattle.short_games.specs.Order.{◌≤ᵍ◌, ◌≡ᵍ◌}
use Rattle.short_games.specs.Number.{num, IsNumber, IsNumberTree, half, is_even}
use Rattle.short_games.specs.Threshold.{IsCell, IsFloor, IsCeiling}
use Rattle.short_games.proofs.OrderLaws.{by_measure, le-out, le-in, le-trans, le-or_not, none-or_some, size-left, size-right}
use Rattle.short_games.proofs.SumLaws.{not_le_left, not_right_le}
use Rattle.short_games.proofs.NumberLaws.{num-left, num-right, num-le, num-lt, num-double, half-even, half-odd, avoid-le, avoid-ge}
use Rattle.short_games.proofs.PartLaws.{number-option}
use Rattle.short_games.proofs.ReductionLaws.{number-canonical, canonical-same}
use Rattle.short_games.specs.Simplest.{FitsForm, IsSimplestFor}
use Rattle.short_games.specs.TextOrder.{IsCanonicalTree}

-- a number over a power of two that is greater by d
pub scaled : (d e : ℕ) (z : ℤ) → (w : ℤ) × (num (d + e) w ≡ num e z)
scaled zero e z = (z, ap (λ n. num n z) (omega arith))
scaled (suc d) e z = let r = scaled d e z in (r.0 +ℤ r.0, ap (λ n. num n (r.0 +ℤ r.0)) (omega arith) ∙ num-double (d + e) r.0 ∙ r.1)

-- of two numbers over one power of two
pub le-num : (e : ℕ) (m n : ℤ) → num e m ≤ᵍ num e n → m ≤ℤ n
le-num e m n h = by_lt_z n m (λ l. absurd (num-lt e n m l h)) (λ l. l)

half-within : (m : ℤ) → ((half m +ℤ half m) ≤ℤ m) × (m ≤ℤ (half m +ℤ half m +ℤ pos 1))
half-within m = elim (cases_Bool (is_even m)) [
  | inl t ↦ (omega (arith, ints, half-even m t), omega (arith, ints, half-even m t))
  | inr f ↦ (omega (arith, ints, half-odd m f), omega (arith, ints, half-odd m f))
]

-- a cell over one power of two lies in one over the power before
coarser : (e : ℕ) (X : Tree) (h : ℤ) → IsCell (suc e) X h → (k : ℤ) × IsCell e X k
coarser e X h c = elim (cases_Bool (is_even h)) [
  | inl t ↦ (
    half h,
    at (half h) (λ z. (
      (λ l. omega (arith, ints, half-even h t, l), λ l. omega (arith, ints, half-even h t, l)),
      (λ l. omega (arith, ints, half-even h t, l), λ l. omega (arith, ints, half-even h t, l)),
    )),
  )
  | inr f ↦ (
    half (half h) +ℤ half (half h) +ℤ pos 1,
    at (half (half h) +ℤ half (half h) +ℤ pos 1) (λ z. (
      (λ l. omega (arith, ints, half-odd h f, half-within (half h), l), λ l. omega (arith, ints, half-odd h f, half-within (half h), l)),
      (λ l. omega (arith, ints, half-odd h f, half-within (half h), l), λ l. omega (arith, ints, half-odd h f, half-within (half h), l)),
    )),
  )
]
  where
    at : (k : ℤ) → ((z : ℤ) → ((h ≤ℤ ((z +ℤ z) +ℤ (z +ℤ z))) ↔ (k ≤ℤ (z +ℤ z))) × ((((z +ℤ z) +ℤ (z +ℤ z)) ≤ℤ h) ↔ ((z +ℤ z) ≤ℤ k)))
        → IsCell e X k
    at k f = record {
      under = λ z. subst (λ t. (X ≤ᵍ t) ↔ (k ≤ℤ (z +ℤ z))) (num-double e z)
          (λ y. (f z).0.0 ((c.under (z +ℤ z)).0 y), λ l. (c.under (z +ℤ z)).1 ((f z).0.1 l));
      over = λ z. subst (λ t. (t ≤ᵍ X) ↔ ((z +ℤ z) ≤ℤ k)) (num-double e z)
          (λ y. (f z).1.0 ((c.over (z +ℤ z)).0 y), λ l. (c.over (z +ℤ z)).1 ((f z).1.1 l));
    }

cell-of : (d e : ℕ) (m : ℤ) → (h : ℤ) × IsCell e (num (d + e) m) h
cell-of zero e m = (
  m +ℤ m,
  subst (λ n. IsCell e (num n m) (m +ℤ m)) (omega arith) (record {
    under = λ z. (λ y. (let l = le-num e m z y in omega (arith, ints, l)), λ l. num-le e m z (omega (arith, ints, l)));
    over = λ z. (λ y. (let l = le-num e z m y in omega (arith, ints, l)), λ l. num-le e z m (omega (arith, ints, l)));
  }),
)
cell-of (suc d) e m = let c = cell-of d (suc e) m in coarser e _ c.0 (subst (λ n. IsCell (suc e) (num n m) c.0) (omega arith) c.1)

-- every number has a cell, and a half part is its own
pub cell : (e f : ℕ) (m : ℤ) → (h : ℤ) × IsCell e (num f m) h
cell e f m = let w = scaled e f m in let c = cell-of f e w.0 in (c.0, subst (λ t. IsCell e t c.0) (ap (λ n. num n w.0) (omega arith) ∙ w.1) c.1)

pub half-cell : (e : ℕ) (k : ℤ) → IsCell e (num (suc e) k) k
half-cell e k = record {
  under = λ z. subst (λ t. (num (suc e) k ≤ᵍ t) ↔ (k ≤ℤ (z +ℤ z))) (num-double e z) (le-num (suc e) k (z +ℤ z), num-le (suc e) k (z +ℤ z));
  over = λ z. subst (λ t. (t ≤ᵍ num (suc e) k) ↔ ((z +ℤ z) ≤ℤ k)) (num-double e z) (le-num (suc e) (z +ℤ z) k, num-le (suc e) (z +ℤ z) k);
}

-- of a number, floor and ceiling are itself
pub number-floor : (e : ℕ) (z : ℤ) → IsFloor e (num e z) (z +ℤ z)
number-floor e z = λ f m h c. c.under z

pub number-ceiling : (e : ℕ) (z : ℤ) → IsCeiling e (num e z) (z +ℤ z)
number-ceiling e z = λ f m h c. c.over z

-- of another game the floor goes by the Right options, and the ceiling by the Left ones
pub game-floor : (e : ℕ) (G : Tree) (k : ℤ) → (IsNumber G → ⊥) → ((f : ℕ) (m h : ℤ) → IsCell e (num f m) h → ((R : Tree) → Has (right G) R → R ≤ᵍ num f m → ⊥) ↔ (h <ℤ k)) → IsFloor e G (k +ℤ negsuc 0)
game-floor e G k no_number b = λ f m h c. (
  λ y. (let l = (b f m h c).0 (le-out _ _ y).from_right in omega (arith, ints, l)),
  λ l. avoid-ge G no_number f m ((b f m h c).1 (omega (arith, ints, l))),
)

pub game-ceiling : (e : ℕ) (G : Tree) (k : ℤ) → (IsNumber G → ⊥) → ((f : ℕ) (m h : ℤ) → IsCell e (num f m) h → ((L : Tree) → Has (left G) L → num f m ≤ᵍ L → ⊥) ↔ (k <ℤ h)) → IsCeiling e G (k +ℤ pos 1)
game-ceiling e G k no_number b = λ f m h c. (
  λ y. (let l = (b f m h c).0 (le-out _ _ y).from_left in omega (arith, ints, l)),
  λ l. avoid-le G no_number f m ((b f m h c).1 (omega (arith, ints, l))),
)

-- a form that a number fits is the simplest such number: no option of that number fits
pub simplest-is : (G : Tree) (e : ℕ) (u : ℤ) → FitsForm G (num e u) → ((X : Tree) → Has (left (num e u)) X → FitsForm G X → ⊥) → ((X : Tree) → Has (right (num e u)) X → FitsForm G X → ⊥) → (G ≤ᵍ num e u) × (num e u ≤ᵍ G)
simplest-is G e u f no_left no_right = (
  le-in G (num e u) record {
    from_left = f.over_left;
    from_right = λ X x y. (let r = num-right e u X x in no_right X x record {
      over_left = λ L l z. f.over_left L l (le-trans _ X _ (subst (λ t. num e u ≤ᵍ t) (sym r.2) (num-le e u r.0 (omega (arith, ints, r.1)))) z);
      under_right = λ R k z. not_right_le G R k (le-trans R X G z y);
    });
  },
  le-in (num e u) G record {
    from_left = λ X x y. (let r = num-left e u X x in no_left X x record {
      over_left = λ L l z. not_le_left G L l (le-trans G X L y z);
      under_right = λ R k z. f.under_right R k (le-trans _ X _ z (subst (λ t. t ≤ᵍ num e u) (sym r.2) (num-le e r.0 u (omega (arith, ints, r.1)))));
    });
    from_right = f.under_right;
  },
)

-- a number that is equal to a form fits it
pub equal-fits : (G X : Tree) → G ≤ᵍ X → X ≤ᵍ G → FitsForm G X
equal-fits G X p q = record { over_left = λ L l y. not_le_left G L l (le-trans G X L p y); under_right = λ R r y. not_right_le G R r (le-trans R X G y q) }

-- whether a game is fitted by another
fits-or_not : (G X : Tree) → FitsForm G X ⊎ (FitsForm G X → ⊥)
fits-or_not G X = elim (none-or_some (λ L. X ≤ᵍ L) (λ L. le-or_not X L) (left G)) [
  | inr s ↦ inr (λ f. f.over_left s.0 s.1 s.2)
  | inl a ↦ elim (none-or_some (λ R. R ≤ᵍ X) (λ R. le-or_not R X) (right G)) [
    | inr s ↦ inr (λ f. f.under_right s.0 s.1 s.2)
    | inl b ↦ inl (record { over_left = a; under_right = b })
  ]
]

-- where a number fits, one of those that fit is simplest
pub has-simplest : (G X : Tree) → IsNumberTree X → FitsForm G X → (Y : Tree) × IsSimplestFor G Y
has-simplest G = by_measure size (λ X. IsNumberTree X → FitsForm G X → (Y : Tree) × IsSimplestFor G Y) (λ X ih i f.
    elim (none-or_some (FitsForm G) (fits-or_not G) (left X)) [
      | inr s ↦ ih s.0 (size-left X s.0 s.1) (number-option X s.0 i (inl s.1)) s.2
      | inl l ↦ elim (none-or_some (FitsForm G) (fits-or_not G) (right X)) [
        | inr s ↦ ih s.0 (size-right X s.0 s.1) (number-option X s.0 i (inr s.1)) s.2
        | inl r ↦ (X, record { number = i; fits = f; no_left = l; no_right = r })
      ]
    ])

pub simplest-value : (G X : Tree) → IsSimplestFor G X → G ≡ᵍ X
simplest-value G X s = at X s s.number
  where
    at : (X : Tree) → IsSimplestFor G X → IsNumberTree X → G ≡ᵍ X
    at X s i = subst (λ z. G ≡ᵍ z) (sym i.2) (
        let t = subst (IsSimplestFor G) i.2 s in simplest-is G i.0 i.1 t.fits t.no_left t.no_right)

number-tree_canonical : (X : Tree) → IsNumberTree X → IsCanonicalTree X
number-tree_canonical X i = subst IsCanonicalTree (sym i.2) (number-canonical i.0 i.1)

pub one-simplest : (G X Y : Tree) → IsSimplestFor G X → IsSimplestFor G Y → X ≡ Y
one-simplest G X Y s t =
    let a = simplest-value G X s in
    let b = simplest-value G Y t in
    canonical-same X Y (number-tree_canonical X s.number) (number-tree_canonical Y t.number) (le-trans X G Y a.1 b.0) (le-trans Y G X b.1 a.0)

-- a game that is equal to a number is fitted by it
pub number-fits : (G : Tree) → IsNumber G → (X : Tree) × IsNumberTree X × FitsForm G X
number-fits G n = (num n.0 n.1, (n.0, n.1, refl), equal-fits G (num n.0 n.1) n.2 n.3)
