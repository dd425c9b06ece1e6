-- A test for the numbers over one power of two, and that a number's tree gives the number back.
use Rattle.std.proofs.Common.{ℕ, zero, suc, ◌+◌, ◌^◌, ◌<◌, ◌≡◌, arith, refl, inl, inr, sym, ◌∙◌, ap, ap₂, subst, ℤ, pos, negsuc, ◌+ℤ◌, ◌-ℤ◌, true, false, Bool, cond, Option, Some, None}
use Rattle.std.proofs.lemmas.Bool.{cases_Bool, true≢false}
use Rattle.std.proofs.lemmas.Int.{ints}
use Rattle.short_games.specs.Tree.{Tree, Trees, node, none, more, size, neg}
use Rattle.short_games.specs.Number.{num, half, is_even, whole, count_tree}
use Rattle.short_games.specs.NumberText.{same}
use Rattle.short_games.proofs.NumberTextLaws.{same-is, same-itself}
use Rattle.short_games.proofs.OrderLaws.{by_measure, size-left, size-right}
use Rattle.short_games.proofs.NumberLaws.{num-even, num-odd, num-double, half-even, half-odd, half-double}

-- of the tree of m / 2 ^ e this is m, of another tree it is some integer
unfoldable pub numerator : ℕ → Tree → ℤ
numerator e (node none none) = pos 0
numerator e (node (more L Ls) none) = numerator e L +ℤ pos (2 ^ e)
numerator e (node none (more R Rs)) = numerator e R -ℤ pos (2 ^ e)
numerator e (node (more L Ls) (more R Rs)) = half (numerator e L +ℤ numerator e R)

-- the m for which the tree is that of m / 2 ^ e, where there is one
unfoldable pub number_at : ℕ → Tree → Option ℤ
number_at e G = cond (same (num e (numerator e G)) G) (Some (numerator e G)) None

-- the four forms of a number
data NumForm (e : ℕ) (m : ℤ) : Type 0 where
  nought : m ≡ pos 0 → num e m ≡ node none none → NumForm e m
  up : (k : ℤ) → m ≡ k +ℤ pos (2 ^ e) → num e m ≡ node (more (num e k) none) none → NumForm e m
  down : (k : ℤ) → m ≡ k -ℤ pos (2 ^ e) → num e m ≡ node none (more (num e k) none) → NumForm e m
  middle : (k j : ℤ) → k +ℤ j ≡ m +ℤ m → num e m ≡ node (more (num e k) none) (more (num e j) none) → NumForm e m

whole_form : (m : ℤ) → NumForm 0 m
unfolding num whole count_tree neg
whole_form (pos zero) = nought refl refl
whole_form (pos (suc n)) = up (pos n) (omega (arith, ints)) refl
whole_form (negsuc zero) = down (pos 0) (omega (arith, ints)) refl
whole_form (negsuc (suc n)) = down (negsuc n) (omega (arith, ints)) refl

num_form : (e : ℕ) (m : ℤ) → NumForm e m
num_form zero m = whole_form m
num_form (suc e) m = elim (cases_Bool (is_even m)) [
  | inl t ↦ even (num_form e (half m)) t
  | inr f ↦ middle (half m +ℤ half m) ((half m +ℤ pos 1) +ℤ (half m +ℤ pos 1)) (omega (arith, ints, half-odd m f))
      (num-odd e m f ∙ ap₂ (λ a b. node (more a none) (more b none)) (sym (num-double e (half m))) (sym (num-double e (half m +ℤ pos 1))))
]
  where
    power : 2 ^ suc e ≡ 2 ^ e + 2 ^ e
    power = omega arith

    even : NumForm e (half m) → is_even m ≡ true → NumForm (suc e) m
    even (nought i n) t = nought (omega (arith, ints, half-even m t, i)) (num-even e m t ∙ n)
    even (up k i n) t = up (k +ℤ k) (omega (arith, ints, half-even m t, i, power)) (num-even e m t ∙ n ∙ ap (λ a. node (more a none) none) (sym (num-double e k)))
    even (down k i n) t = down (k +ℤ k) (omega (arith, ints, half-even m t, i, power)) (num-even e m t ∙ n ∙ ap (λ a. node none (more a none)) (sym (num-double e k)))
    even (middle k j i n) t = middle (k +ℤ k) (j +ℤ j) (omega (arith, ints, half-even m t, i)) (num-even e m t ∙ n ∙ ap₂ (λ a b. node (more a none) (more b none)) (sym (num-double e k)) (sym (num-double e j)))

first_left : (G H : Tree) (Gs Ks : Trees) → G ≡ node (more H Gs) Ks → size H < size G
first_left G H Gs Ks i = subst (λ t. size H < size t) (sym i) (size-left (node (more H Gs) Ks) H (inl refl))

first_right : (G H : Tree) (Gs Ks : Trees) → G ≡ node Ks (more H Gs) → size H < size G
first_right G H Gs Ks i = subst (λ t. size H < size t) (sym i) (size-right (node Ks (more H Gs)) H (inl refl))

numerator_step : (e : ℕ) (m : ℤ) → ((k : ℤ) → size (num e k) < size (num e m) → numerator e (num e k) ≡ k) → NumForm e m → numerator e (num e m) ≡ m
unfolding numerator
numerator_step e m ih (nought i f) = ap (numerator e) f ∙ sym i
numerator_step e m ih (up k i f) = ap (numerator e) f ∙ ap (λ x. x +ℤ pos (2 ^ e)) (ih k (first_left _ _ _ _ f)) ∙ sym i
numerator_step e m ih (down k i f) = ap (numerator e) f ∙ ap (λ x. x -ℤ pos (2 ^ e)) (ih k (first_right _ _ _ _ f)) ∙ sym i
numerator_step e m ih (middle k j i f) = ap (numerator e) f
    ∙ ap₂ (λ x y. half (x +ℤ y)) (ih k (first_left _ _ _ _ f)) (ih j (first_right _ _ _ _ f))
    ∙ ap half i ∙ half-double m

pub numerator-num : (e : ℕ) (m : ℤ) → numerator e (num e m) ≡ m
numerator-num e = by_measure (λ m. size (num e m)) (λ m. numerator e (num e m) ≡ m) (λ m ih. numerator_step e m ih (num_form e m))

pub num-one_to_one : (e : ℕ) (m n : ℤ) → num e m ≡ num e n → m ≡ n
num-one_to_one e m n i = sym (numerator-num e m) ∙ ap (numerator e) i ∙ numerator-num e n

-- what the test answers
pub data NumberAt (e : ℕ) (G : Tree) : Type 0 where
  is_number : (x : ℤ) → G ≡ num e x → number_at e G ≡ Some x → NumberAt e G
  is_none : ((x : ℤ) → G ≡ num e x → ⊥) → number_at e G ≡ None → NumberAt e G

pub number-cases : (e : ℕ) (G : Tree) → NumberAt e G
unfolding number_at
number-cases e G = by (same (num e (numerator e G)) G) refl
  where
    by : (b : Bool) → same (num e (numerator e G)) G ≡ b → NumberAt e G
    by true i = is_number (numerator e G) (sym (same-is _ _ i)) (rw i refl)
    by false i = is_none (λ x g. true≢false (sym (subst (λ t. same t G ≡ true)
        (sym (ap (num e) (ap (numerator e) g ∙ numerator-num e x))) (subst (λ t. same t G ≡ true) g (same-itself G))) ∙ i)) (rw i refl)
