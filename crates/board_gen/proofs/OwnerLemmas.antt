-- How many stones of one colour a local position has, where an alive stone of it is next to each place.
use Rattle.std.proofs.Common.{◌≡◌, ℕ, zero, suc, ◌+◌, ◌<◌, ◌≤◌, Bool, true, false, cond, refl, sym, subst, arith, List, [], ◌∷◌, length}
use Rattle.std.specs.Prelude.{count_by}
use Rattle.std.proofs.lemmas.List.Sums.{count_by-le-length, sum_by-cons}
use Rattle.go_grid.specs.declared.grid.Cell.{Cell}
use Rattle.go_grid.specs.declared.grid.Cell.TheVariants as cell
use Rattle.go_grid.specs.declared.grid.Colour.{Colour}
use Rattle.go_grid.specs.declared.grid.Colour.TheVariants as colour
use Rattle.go_grid.specs.declared.region.Touch.{Touch}
use Rattle.go_grid.specs.Board.{stone, other}
use Rattle.local_play.specs.LocalPlay.{Holds, IsLocalMove, IsNumberTaken, held_at, is_stone}
use Rattle.board_gen.proofs.ReturnLemmas.{AreWalled, all_stay, owner_stays, placed}
use Rattle.go_grid.proofs.PlayLemmas.{long_after}

abbrev one_if : Bool → ℕ
one_if b = cond b 1 0

abbrev is_own : Colour → Cell → Bool
is_own colour.Black cell.Black = true
is_own colour.White cell.White = true
is_own c x = false

own_stone : (c : Colour) (x : Cell) → x ≡ stone c → is_own c x ≡ true
own_stone colour.Black x e = subst (λ z. is_own colour.Black z ≡ true) (sym e) refl
own_stone colour.White x e = subst (λ z. is_own colour.White z ≡ true) (sym e) refl

stone_own : (c : Colour) (x : Cell) → is_own c x ≡ true → x ≡ stone c
stone_own colour.Black cell.Black e = refl
stone_own colour.Black cell.White e = absurd cc
stone_own colour.Black cell.Empty e = absurd cc
stone_own colour.White cell.White e = refl
stone_own colour.White cell.Black e = absurd cc
stone_own colour.White cell.Empty e = absurd cc

pub owners : Colour → List Cell → ℕ
owners c cells = count_by (is_own c) cells

owners_cons : (c : Colour) (x : Cell) (xs : List Cell) → owners c (x ∷ xs) ≡ one_if (is_own c x) + owners c xs
unfolding owners
owners_cons c x xs = sum_by-cons (λ y. one_if (is_own c y)) x xs

owners_none : (c : Colour) → owners c [] ≡ 0
unfolding owners
owners_none c = refl

pub owners_most : (c : Colour) (cells : List Cell) → owners c cells ≤ length cells
unfolding owners
owners_most c cells = count_by-le-length (is_own c) cells

bit_le : (b d : Bool) → (b ≡ true → d ≡ true) → one_if b ≤ one_if d
bit_le false d f = omega arith
bit_le true true f = omega arith
bit_le true false f = absurd (let w = f refl in cc)

-- where each stone of the colour stays, there are as many at least
pub owners_stay : (c : Colour) (xs ys : List Cell) → length ys ≡ length xs → ((i : ℕ) → Holds xs c i → Holds ys c i) → owners c xs ≤ owners c ys
owners_stay c [] ys long stay = omega (arith, owners_none c)
owners_stay c (x ∷ xs) [] long stay = absurd (omega (arith, long))
owners_stay c (x ∷ xs) (y ∷ ys) long stay =
    let bit = bit_le (is_own c x) (is_own c y) (λ e. own_stone c y (stay 0 (stone_own c x e))) in
    let rest = owners_stay c xs ys (omega (arith, long)) (λ i h. stay (suc i) h) in
    omega (arith, bit, rest, owners_cons c x xs, owners_cons c y ys)

own_off : (c : Colour) (x : Cell) → x ≡ cell.Empty → one_if (is_own c x) ≡ 0
own_off colour.Black x e = subst (λ z. one_if (is_own colour.Black z) ≡ 0) (sym e) refl
own_off colour.White x e = subst (λ z. one_if (is_own colour.White z) ≡ 0) (sym e) refl

own_on : (c : Colour) (y : Cell) → y ≡ stone c → one_if (is_own c y) ≡ 1
own_on c y e = by_true (is_own c y) (own_stone c y e)
  where
    by_true : (b : Bool) → b ≡ true → one_if b ≡ 1
    by_true true e = refl
    by_true false e = absurd cc

-- and one more, where one came
pub owners_come : (c : Colour) (xs ys : List Cell) (p : ℕ) → length ys ≡ length xs → p < length xs → ((i : ℕ) → Holds xs c i → Holds ys c i)
    → held_at xs p ≡ cell.Empty → Holds ys c p → owners c xs + 1 ≤ owners c ys
owners_come c [] ys p long lt stay empty came = absurd (omega (arith, lt))
owners_come c (x ∷ xs) [] p long lt stay empty came = absurd (omega (arith, long))
owners_come c (x ∷ xs) (y ∷ ys) zero long lt stay empty came =
    let rest = owners_stay c xs ys (omega (arith, long)) (λ i h. stay (suc i) h) in
    omega (arith, rest, owners_cons c x xs, owners_cons c y ys, own_off c x empty, own_on c y came)
owners_come c (x ∷ xs) (y ∷ ys) (suc p) long lt stay empty came =
    let bit = bit_le (is_own c x) (is_own c y) (λ e. own_stone c y (stay 0 (stone_own c x e))) in
    let rest = owners_come c xs ys p (omega (arith, long)) (omega (arith, lt)) (λ i h. stay (suc i) h) empty came in
    omega (arith, bit, rest, owners_cons c x xs, owners_cons c y ys)

stones_cons : (x : Cell) (xs : List Cell) → count_by is_stone (x ∷ xs) ≡ one_if (is_stone x) + count_by is_stone xs
stones_cons x xs = sum_by-cons (λ y. one_if (is_stone y)) x xs

-- where all stones stay and one came, none was taken
pub none_taken : (xs ys : List Cell) (p : ℕ) → length ys ≡ length xs → p < length xs → ((e : Colour) (i : ℕ) → Holds xs e i → Holds ys e i)
    → held_at xs p ≡ cell.Empty → (e : Colour) → Holds ys e p → count_by is_stone xs + 1 ≤ count_by is_stone ys
none_taken xs ys p long lt stay empty e came = go xs ys p long lt stay empty came
  where
    bit : (x y : Cell) → ((e : Colour) → x ≡ stone e → y ≡ stone e) → one_if (is_stone x) ≤ one_if (is_stone y)
    bit cell.Empty y f = omega arith
    bit cell.Black y f = subst (λ z. 1 ≤ one_if (is_stone z)) (sym (f colour.Black refl)) (omega arith)
    bit cell.White y f = subst (λ z. 1 ≤ one_if (is_stone z)) (sym (f colour.White refl)) (omega arith)

    all : (xs ys : List Cell) → length ys ≡ length xs → ((e : Colour) (i : ℕ) → Holds xs e i → Holds ys e i) → count_by is_stone xs ≤ count_by is_stone ys
    all [] ys long stay = omega arith
    all (x ∷ xs) [] long stay = absurd (omega (arith, long))
    all (x ∷ xs) (y ∷ ys) long stay =
        let b = bit x y (λ e h. stay e 0 h) in
        let rest = all xs ys (omega (arith, long)) (λ e i h. stay e (suc i) h) in
        omega (arith, b, rest, stones_cons x xs, stones_cons y ys)

    off : (x : Cell) → x ≡ cell.Empty → one_if (is_stone x) ≡ 0
    off x e = subst (λ z. one_if (is_stone z) ≡ 0) (sym e) refl

    on : (e : Colour) (y : Cell) → y ≡ stone e → one_if (is_stone y) ≡ 1
    on colour.Black y e = subst (λ z. one_if (is_stone z) ≡ 1) (sym e) refl
    on colour.White y e = subst (λ z. one_if (is_stone z) ≡ 1) (sym e) refl

    go : (xs ys : List Cell) (p : ℕ) → length ys ≡ length xs → p < length xs → ((e : Colour) (i : ℕ) → Holds xs e i → Holds ys e i)
        → held_at xs p ≡ cell.Empty → Holds ys e p → count_by is_stone xs + 1 ≤ count_by is_stone ys
    go [] ys p long lt stay empty came = absurd (omega (arith, lt))
    go (x ∷ xs) [] p long lt stay empty came = absurd (omega (arith, long))
    go (x ∷ xs) (y ∷ ys) zero long lt stay empty came =
        let rest = all xs ys (omega (arith, long)) (λ e i h. stay e (suc i) h) in
        omega (arith, rest, stones_cons x xs, stones_cons y ys, off x empty, on e y came)
    go (x ∷ xs) (y ∷ ys) (suc p) long lt stay empty came =
        let b = bit x y (λ e h. stay e 0 h) in
        let rest = go xs ys p (omega (arith, long)) (omega (arith, lt)) (λ e i h. stay e (suc i) h) empty came in
        omega (arith, b, rest, stones_cons x xs, stones_cons y ys)

-- ---- moves

-- what a move comes to: one stone more of the colour and some taken, or one of the other colour and none
pub record IsCounted (c d : Colour) (before after : List Cell) (taken : ℕ) : Type 0 where
  pub own : d ≡ c → owners c before + 1 ≤ owners c after
  pub kept : owners c before ≤ owners c after
  pub few : taken ≤ length before + 1
  pub none : c ≡ other d → taken ≡ 0

pub counted : (touch : List Touch) (n : ℕ) (c d : Colour) (walled : AreWalled touch n c) (before after : List Cell) (p taken : ℕ)
    → length before ≡ n → IsLocalMove touch before d p after → IsNumberTaken before after taken → IsCounted c d before after taken
counted touch n c d walled before after p taken long move number =
    let stays : (i : ℕ) → Holds before c i → Holds after c i = λ i h. owner_stays touch n c walled before after d p i long move h in record {
      own = λ same. owners_come c before after p (long_after move) move.place stays move.free
          (subst (λ k. Holds after k p) same (placed touch n c walled before after d p move));
      kept = owners_stay c before after (long_after move) stays;
      few = omega (arith, number, count_by-le-length is_stone before);
      none = λ o. (let more = none_taken before after p (long_after move) move.place
          (λ e i h. all_stay touch n c walled before after d e p i long o move h) move.free d (placed touch n c walled before after d p move) in
          omega (arith, number, more));
    }
