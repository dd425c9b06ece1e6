-- A point and its column and row.
use Rattle.std.proofs.Common.{◌≡◌, ℕ, ◌+◌, ◌*◌, ◌/◌, ◌%◌, ◌<◌, List, [], ◌∷◌, length, get_or, ap, ap₂, sym, ◌∙◌, arith}
use Rattle.std.proofs.lemmas.Nat.{div-add-mod', div-mul-add, mod-mul-add, mul-add-lt, mod_below, div_below}
use Rattle.go_grid.specs.Name.{IsName, point_name}

two_letters : (letters : List ℕ) (a b : ℕ) → length letters ≡ 2 → get_or letters 0 0 ≡ a → get_or letters 1 0 ≡ b → letters ≡ a ∷ b ∷ []
two_letters [] a b long first second = absurd (omega (arith, long))
two_letters (x ∷ []) a b long first second = absurd (omega (arith, long))
two_letters (x ∷ y ∷ []) a b long first second = λ i. first i ∷ second i ∷ []
two_letters (x ∷ y ∷ z ∷ zs) a b long first second = absurd (omega (arith, long))

pub is_name : (c r x y : ℕ) (letters : List ℕ) → length letters ≡ 2 → x < c → y < r → get_or letters 0 0 ≡ 97 + x → get_or letters 1 0 ≡ 97 + y
    → IsName c r letters (y * c + x)
is_name c r x y letters long lx ly ex ey =
    let k : (y * c + x) % c ≡ x = mod-mul-add y c x lx in
    let m : (y * c + x) / c ≡ y = div-mul-add y c x lx in
    record {
      on_board = omega (arith, mul-add-lt y c x r ly lx);
      spelt = two_letters letters (97 + (y * c + x) % c) (97 + (y * c + x) / c) long (omega arith) (omega arith);
    }

-- points of one name are the same
pub one_named : (c p q : ℕ) → point_name c p ≡ point_name c q → p ≡ q
one_named c p q e =
    let column : p % c ≡ q % c = omega (arith, ap (λ t. get_or t 0 0) e) in
    let row : p / c ≡ q / c = omega (arith, ap (λ t. get_or t 1 0) e) in
    sym (div-add-mod' p c) ∙ ap₂ (λ x y. x * c + y) row column ∙ div-add-mod' q c

pub one_point : (c r p q : ℕ) (letters : List ℕ) → IsName c r letters p → IsName c r letters q → q ≡ p
one_point c r p q letters a b = one_named c q p (sym b.spelt ∙ a.spelt)

-- a name's letters stand for numbers in range
pub name_column : (c r p : ℕ) (letters : List ℕ) → 0 < c → IsName c r letters p
    → (n : ℕ) × (n < c) × (get_or letters 0 0 ≡ 97 + n)
name_column c r p letters pos s = (p % c, mod_below p c pos, ap (λ t. get_or t 0 0) s.spelt)

pub name_row : (c r p : ℕ) (letters : List ℕ) → 0 < c → IsName c r letters p
    → (n : ℕ) × (n < r) × (get_or letters 1 0 ≡ 97 + n)
name_row c r p letters pos s = (p / c, div_below p c r pos (omega (arith, s.on_board)), ap (λ t. get_or t 1 0) s.spelt)
