-- Texts of two letters, and of two letters, `:` and two letters.
use Rattle.std.proofs.Common.{ℕ, ◌≤◌, ◌≡◌, ◌≢◌, List, [], ◌∷◌, length, take, drop, get_or, arith, refl, sym, ◌∙◌, ap, subst}
use Rattle.std.proofs.lemmas.List.{drop_more, drop_all}
use Rattle.go_grid.specs.Name.{IsName}
use Rattle.sgf_go.specs.Values.{IsArea, point, corners, Rectangle, rectangle_between, colon}

-- the bytes at a place and behind it
abbrev pub two_at : List ℕ → ℕ → ℕ → List ℕ
two_at text i j = get_or text i 0 ∷ get_or text j 0 ∷ []

first_two : (text : List ℕ) → 2 ≤ length text → take 2 text ≡ two_at text 0 1
first_two [] h = absurd (omega (arith, h))
first_two (x ∷ []) h = absurd (omega (arith, h))
first_two (x ∷ y ∷ ys) h = refl

last_two : (text : List ℕ) → length text ≡ 5 → drop 3 text ≡ two_at text 3 4
last_two text h =
    drop_more text 3 0 (omega (arith, h)) ∙ ap (λ t. get_or text 3 0 ∷ t) (drop_more text 4 0 (omega (arith, h)) ∙ ap (λ t. get_or text 4 0 ∷ t) (drop_all 5 text (omega (arith, h))))

whole_two : (text : List ℕ) → length text ≡ 2 → text ≡ two_at text 0 1
whole_two [] h = absurd (omega (arith, h))
whole_two (x ∷ []) h = absurd (omega (arith, h))
whole_two (x ∷ y ∷ []) h = refl
whole_two (x ∷ y ∷ z ∷ zs) h = absurd (omega (arith, h))

pub point_two : (columns rows : ℕ) (text : List ℕ) (p : ℕ) → length text ≡ 2 → IsName columns rows (two_at text 0 1) p → IsArea columns rows text (rectangle_between columns p p)
point_two columns rows text p h n = point p (subst (λ t. IsName columns rows t p) (sym (whole_two text h)) n)

pub corners_five : (columns rows : ℕ) (text : List ℕ) (p q : ℕ) → length text ≡ 5 → get_or text 2 0 ≡ colon → IsName columns rows (two_at text 0 1) p → IsName columns rows (two_at text 3 4) q
    → IsArea columns rows text (rectangle_between columns p q)
corners_five columns rows text p q h e n m = corners p q
    (subst (λ t. IsName columns rows t p) (sym (first_two text (omega (arith, h)))) n) e
    (subst (λ t. IsName columns rows t q) (sym (last_two text h)) m)

pub point_not_corners : (columns rows : ℕ) (text : List ℕ) (p : ℕ) → IsName columns rows text p → get_or text 2 0 ≢ colon
point_not_corners columns rows text p a e =
    let bad : 0 ≡ colon = ap (λ t. get_or t 2 0) (sym a.spelt) ∙ e in
    omega (arith, bad)

pub no_point_two : (columns rows : ℕ) (text : List ℕ) → length text ≡ 2 → ((p : ℕ) → ¬ IsName columns rows (two_at text 0 1) p) → (r : Rectangle) → ¬ IsArea columns rows text r
no_point_two columns rows text h none _ (point p n) = none p (subst (λ t. IsName columns rows t p) (whole_two text h) n)
no_point_two columns rows text h none _ (corners p q n e m) =
    let bad : 0 ≡ colon = ap (λ t. get_or t 2 0) (sym (whole_two text h)) ∙ e in
    omega (arith, bad)

pub no_first_five : (columns rows : ℕ) (text : List ℕ) → length text ≡ 5 → get_or text 2 0 ≡ colon → ((p : ℕ) → ¬ IsName columns rows (two_at text 0 1) p) → (r : Rectangle) → ¬ IsArea columns rows text r
no_first_five columns rows text h e none _ (point p n) = point_not_corners columns rows text p n e
no_first_five columns rows text h e none _ (corners p q n f m) = none p (subst (λ t. IsName columns rows t p) (first_two text (omega (arith, h))) n)

pub no_second_five : (columns rows : ℕ) (text : List ℕ) → length text ≡ 5 → get_or text 2 0 ≡ colon → ((q : ℕ) → ¬ IsName columns rows (two_at text 3 4) q) → (r : Rectangle) → ¬ IsArea columns rows text r
no_second_five columns rows text h e none _ (point p n) = point_not_corners columns rows text p n e
no_second_five columns rows text h e none _ (corners p q n f m) = none q (subst (λ t. IsName columns rows t q) (last_two text h) m)
