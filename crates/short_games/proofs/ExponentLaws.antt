-- The exponents of the numbers in a tree; and that a canonical tree that is no number's has options on both sides.
use Rattle.std.proofs.Common.{ℕ, zero, suc, ◌+◌, ◌-◌, ◌*ℤ◌, ◌^◌, ◌<◌, ◌≤◌, ◌≡◌, arith, refl, inl, inr, sym, ◌∙◌, ap, subst, ℤ, pos, ◌+ℤ◌, true, false}
use Rattle.std.proofs.lemmas.Bool.{cases_Bool, false_from_ne_true}
use Rattle.std.proofs.lemmas.Int.{ints}
use Rattle.short_games.specs.Tree.{Tree, node, none, more, left, right, size}
use Rattle.short_games.specs.Number.{num, half, is_even, IsNumber, IsNumberTree}
use Rattle.short_games.specs.TextOrder.{TextBefore, IsCanonicalTree}
use Rattle.short_games.specs.Parts.{IsOption, IsFollower}
use Rattle.short_games.specs.Parts.IsFollower.{itself, further}
use Rattle.short_games.proofs.OrderLaws.{size-left, size-right, size-pos}
use Rattle.short_games.proofs.NumberLaws.{num-even, num-odd, half-even}
use Rattle.short_games.proofs.CanonicalLaws.{canonical-option}
use Rattle.short_games.proofs.TextOrderLaws.{text-order}
use Rattle.short_games.proofs.ReductionLaws.{canonical-number}
use Rattle.short_games.proofs.AvoidanceLaws.{cheap_left, cheap_right}
use Rattle.short_games.proofs.StopLaws.{num-scaled}
use Rattle.short_games.proofs.GreatestLaws.{IsFilled, filled}

-- each number in the tree is a whole number of parts of 2 ^ -e
abbrev pub IsOver : ℕ → Tree → Type 0
IsOver e G = (P : Tree) → IsFollower G P → IsNumberTree P → (n : ℤ) × (P ≡ num e n)

number-over : (k e : ℕ) (n : ℤ) → e ≤ k → (m : ℤ) × (num e n ≡ num k m)
number-over k e n h = let d : (k - e) + e ≡ k = omega (arith, h) in
    (n *ℤ pos (2 ^ (k - e)), sym (num-scaled (k - e) e n) ∙ ap (λ f. num f (n *ℤ pos (2 ^ (k - e)))) d)

-- also over a greater power of two
pub over-more : (k e : ℕ) (G : Tree) → e ≤ k → IsOver e G → IsOver k G
over-more k e G h o P f n = let r = o P f n in let w = number-over k e r.0 h in (w.0, r.1 ∙ w.1)

next_odd : (m : ℤ) → is_even m ≡ true → is_even (m +ℤ pos 1) ≡ false
next_odd m t = false_from_ne_true _ (λ s. omega (arith, ints, half-even m t, half-even (m +ℤ pos 1) s))

-- a tree has at least as many nodes as its number halves
odd-size : (e : ℕ) (m : ℤ) → is_even m ≡ false → e < size (num e m)
odd-size zero m f = size-pos (num 0 m)
odd-size (suc e) m f = rw (num-odd e m f) (elim (cases_Bool (is_even (half m))) [
  | inl t ↦ omega (arith, odd-size e (half m +ℤ pos 1) (next_odd (half m) t), size-right (node (more (num e (half m)) none) (more (num e (half m +ℤ pos 1)) none)) (num e (half m +ℤ pos 1)) (inl refl))
  | inr g ↦ omega (arith, odd-size e (half m) g, size-left (node (more (num e (half m)) none) (more (num e (half m +ℤ pos 1)) none)) (num e (half m)) (inl refl))
])

lowest : (e : ℕ) (m : ℤ) → (f : ℕ) × (n : ℤ) × (num e m ≡ num f n) × (f ≤ size (num e m))
lowest zero m = (0, m, refl, omega arith)
lowest (suc e) m = elim (cases_Bool (is_even m)) [
  | inl t ↦ (let r = lowest e (half m) in (r.0, r.1, num-even e m t ∙ r.2, subst (λ G. r.0 ≤ size G) (sym (num-even e m t)) r.3))
  | inr f ↦ (suc e, m, refl, omega (arith, odd-size (suc e) m f))
]

follower-size : (G P : Tree) → IsFollower G P → size P ≤ size G
follower-size _ _ (itself G) = omega arith
follower-size _ _ (further G H P (inl o) f) = omega (arith, follower-size H P f, size-left G H o)
follower-size _ _ (further G H P (inr o) f) = omega (arith, follower-size H P f, size-right G H o)

-- each tree is over some power of two
pub over-size : (G : Tree) → IsOver (size G) G
over-size G P f n =
    let r = lowest n.0 n.1 in
    let s : size P ≡ size (num n.0 n.1) = ap size n.2 in
    let w = number-over (size G) r.0 r.1 (omega (arith, r.3, s, follower-size G P f)) in
    (w.0, n.2 ∙ r.2 ∙ w.1)

-- what is asked of a tree: it is canonical, and its numbers are whole numbers of parts of 2 ^ -e
abbrev pub IsFine : ℕ → Tree → Type 0
IsFine e G = IsCanonicalTree G × IsOver e G

pub fine-option : (e : ℕ) (G X : Tree) → IsFine e G → IsOption G X → IsFine e X
fine-option e G X f o = (canonical-option TextBefore text-order.irreflexive text-order.transitive G X f.0 o, λ P g. f.1 P (further G X P o g))

pub no_number : (e : ℕ) (G : Tree) → IsFine e G → ((x : ℤ) → G ≡ num e x → ⊥) → IsNumberTree G → ⊥
no_number e G f n i = let r = f.1 G (itself G) i in n r.0 r.1

-- a canonical tree that is no number's has options on both sides
pub canonical-filled : (G : Tree) → IsCanonicalTree G → (IsNumberTree G → ⊥) → IsFilled (left G) × IsFilled (right G)
canonical-filled G c n =
    let hot : IsNumber G → ⊥ = λ i. n (i.0, i.1, canonical-number G c i) in
    let l = cheap_left G hot 0 (pos 1) (omega (arith, ints)) in
    let r = cheap_right G hot 0 (pos 1) (omega (arith, ints)) in
    (filled (left G) l.0 l.1, filled (right G) r.0 r.1)
