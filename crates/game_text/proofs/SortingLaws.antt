-- Texts in the order of their bytes, with commas between them.
use Rattle.std.proofs.Common.{Less, Equal, Greater, ℕ, ◌+◌, ◌<◌, ◌≤◌, ◌≡◌, List, [], ◌∷◌, length, get_or, take, map, arith, refl, sym, ◌∙◌, ap, ap₂, subst, Bool, true, false, cond}
use Rattle.std.specs.Prelude.{nat_lt, nat_eq}
use Rattle.std.specs.List.Sorted.{IsPermutation, IsSorted, IsSortedBy}
use Rattle.std.specs.Ordering.{is_lt, nat_cmp, ordering_then}
use Rattle.std.specs.Cmp.Lexicographic.{slice_cmp}
use Rattle.std.proofs.lemmas.Bool.{ltb-true, eqb-true}
use Rattle.std.proofs.lemmas.List.{take_all, get_or-map, length-map}
use Rattle.std.proofs.lemmas.List.Sorted.{IsPermutation-map}
use denote.Bor.{Bor}
use Rattle.short_games.specs.TextOrder.{lesser_text}

lesser-step : (x y : ℕ) (xs ys : List ℕ) → lesser_text (x ∷ xs) (y ∷ ys) ≡ cond (nat_eq x y) (lesser_text xs ys) (nat_lt x y)
unfolding lesser_text
lesser-step x y xs ys = refl

-- the order of slices is that of texts
pub order-is : (xs ys : List ℕ) → is_lt (slice_cmp nat_cmp xs ys) ≡ lesser_text xs ys
unfolding lesser_text
order-is [] [] = refl
order-is [] (y ∷ ys) = refl
order-is (x ∷ xs) [] = refl
order-is (x ∷ xs) (y ∷ ys) = at (nat_lt x y) refl (nat_eq x y) refl (order-is xs ys)
  where
    at : (b : Bool) → nat_lt x y ≡ b → (e : Bool) → nat_eq x y ≡ e → is_lt (slice_cmp nat_cmp xs ys) ≡ lesser_text xs ys → is_lt (ordering_then (cond b Less (cond e Equal Greater)) (slice_cmp nat_cmp xs ys)) ≡ cond e (lesser_text xs ys) b
    at true p true q h = absurd (omega (arith, ltb-true x y p, eqb-true x y q))
    at true p false q h = refl
    at false p true q h = h
    at false p false q h = refl

-- what a sort of slices says of their texts
pub texts-sorted : (vs : List (Bor (List ℕ))) → IsSorted (λ x y. slice_cmp nat_cmp x.now y.now) vs → IsSortedBy lesser_text (map (λ t. t.now) vs)
texts-sorted vs s k d low h =
    let l : k + 1 < length vs = subst (λ n. k + 1 < n) (length-map vs (λ (t : Bor (List ℕ)). t.now)) h in
    let e : Bor (List ℕ) = record { ref_ptr = (0, 0); now = d } in
    let first : get_or (map (λ (t : Bor (List ℕ)). t.now) vs) k d ≡ (get_or vs k e).now = get_or-map (λ (t : Bor (List ℕ)). t.now) vs k e d (omega (arith, l)) in
    let second : get_or (map (λ (t : Bor (List ℕ)). t.now) vs) (k + 1) d ≡ (get_or vs (k + 1) e).now = get_or-map (λ (t : Bor (List ℕ)). t.now) vs (k + 1) e d l in
    ap₂ lesser_text second first ∙ sym (order-is (get_or vs (k + 1) e).now (get_or vs k e).now) ∙ s k e low l

-- all of them, sorted
pub map-sorted : (f : ℕ → List ℕ) (ids : List ℕ) (i : ℕ) (us vs : List (Bor (List ℕ))) → map (λ t. t.now) us ≡ map f (take i ids) → length ids ≤ i → IsPermutation us vs → IsPermutation (map f ids) (map (λ t. t.now) vs)
map-sorted f ids i us vs h l p = subst (λ (ts : List (List ℕ)). IsPermutation ts (map (λ t. t.now) vs)) (h ∙ ap (map f) (take_all i ids l)) (IsPermutation-map (λ (t : Bor (List ℕ)). t.now) us vs p)
