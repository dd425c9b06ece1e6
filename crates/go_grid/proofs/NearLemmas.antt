-- The neighbours that are computed are those that differ by one in exactly one of column and row.
use Rattle.std.proofs.Common.{◌≡◌, ℕ, ◌+◌, ◌-◌, ◌*◌, ◌/◌, ◌%◌, ◌<◌, ◌≤◌, inl, inr, ap, sym, arith, Option, None, Some, ◌∙◌, ◌⊎◌, List, [], ◌∷◌, ◌++◌, ◌↔◌, IfSome, refl}
use Rattle.std.specs.List.{Contains}
use Rattle.std.proofs.lemmas.List.Elements.{Contains-push, Contains-push_cases, Contains-append_left}
use Rattle.std.proofs.lemmas.Nat.{same_from_place, mod_below, div-add-mod', mul-add-lt, div_below}
use Rattle.std.specs.Option.{SomeIff}
use Rattle.go_grid.specs.Board.{NextTo, IsAbove, IsLeftOf, IsThe, AreNear}

-- one row further
pub below_place : (c p q : ℕ) → 0 < c → p + c ≡ q → (p / c + 1 ≡ q / c) × (p % c ≡ q % c)
below_place c p q pos e =
    same_from_place (p / c + 1) (p % c) (q / c) (q % c) c (mod_below p c pos) (mod_below q c pos)
    (omega (arith, div-add-mod' p c, div-add-mod' q c))

-- one column further in a row
pub beside_place : (c p q : ℕ) → 0 < c → p + 1 ≡ q → p % c + 1 < c → (p / c ≡ q / c) × (p % c + 1 ≡ q % c)
beside_place c p q pos e room =
    same_from_place (p / c) (p % c + 1) (q / c) (q % c) c room (mod_below q c pos)
    (omega (arith, div-add-mod' p c, div-add-mod' q c))

-- one column back in a row
pub before_place : (c p q : ℕ) → 0 < c → p + 1 ≡ q → 0 < q % c → (q / c ≡ p / c) × (q % c - 1 ≡ p % c)
before_place c p q pos e room =
    same_from_place (q / c) (q % c - 1) (p / c) (p % c) c (omega (arith, mod_below q c pos)) (mod_below p c pos)
    (omega (arith, div-add-mod' p c, div-add-mod' q c))

pub next_up : (c p : ℕ) → 0 < c → c ≤ p → NextTo c p (p - c)
next_up c p pos h = let w = below_place c (p - c) p pos (omega arith) in inr (sym w.1, inr w.0)

pub next_down : (c p : ℕ) → 0 < c → NextTo c p (p + c)
next_down c p pos = let w = below_place c p (p + c) pos (omega arith) in inr (w.1, inl w.0)

pub next_right : (c p : ℕ) → 0 < c → p % c + 1 < c → NextTo c p (p + 1)
next_right c p pos h = let w = beside_place c p (p + 1) pos (omega arith) h in inl (w.0, inl w.1)

pub next_left : (c p : ℕ) → 0 < c → 0 < p % c → NextTo c p (p - 1)
next_left c p pos h =
    let lower : p % c ≤ p = omega (arith, div-add-mod' p c) in
    let w = before_place c (p - 1) p pos (omega arith) h in
    inl (w.0, inr (omega arith))

-- a neighbour is one of the four
pub data IsOneOf (c p q : ℕ) : Type 0 where
  up : c ≤ p → q ≡ p - c → IsOneOf c p q
  left : 0 < p % c → q ≡ p - 1 → IsOneOf c p q
  right : p % c + 1 < c → q ≡ p + 1 → IsOneOf c p q
  down : q ≡ p + c → IsOneOf c p q

pub one_of_four : (c p q : ℕ) → 0 < c → NextTo c p q → IsOneOf c p q
one_of_four c p q pos (inl (row, inl e)) =
    let r : p / c * c ≡ q / c * c = ap (λ n. n * c) row in
    right (omega (arith, mod_below q c pos)) (omega (arith, div-add-mod' p c, div-add-mod' q c))
one_of_four c p q pos (inl (row, inr e)) =
    let r : p / c * c ≡ q / c * c = ap (λ n. n * c) row in
    left (omega arith) (omega (arith, div-add-mod' p c, div-add-mod' q c))
one_of_four c p q pos (inr (column, inl e)) =
    let r : (p / c + 1) * c ≡ q / c * c = ap (λ n. n * c) e in
    down (omega (arith, div-add-mod' p c, div-add-mod' q c))
one_of_four c p q pos (inr (column, inr e)) =
    let r : (q / c + 1) * c ≡ p / c * c = ap (λ n. n * c) e in
    up (omega (arith, div-add-mod' p c, div-add-mod' q c)) (omega (arith, div-add-mod' p c, div-add-mod' q c))

pub next_back : (c p q : ℕ) → NextTo c p q → NextTo c q p
next_back c p q (inl (row, inl e)) = inl (sym row, inr e)
next_back c p q (inl (row, inr e)) = inl (sym row, inl e)
next_back c p q (inr (column, inl e)) = inr (sym column, inr e)
next_back c p q (inr (column, inr e)) = inr (sym column, inl e)

-- the next point of a row is on the board
pub right_inside : (c r p : ℕ) → p < c * r → p % c + 1 < c → p + 1 < c * r
right_inside c r p h room =
    let row : p / c < r = div_below p c r (omega arith) (omega arith) in
    omega (arith, mul-add-lt (p / c) c (p % c + 1) r row room, div-add-mod' p c)

above_is : (c area p : ℕ) (o : Option ℕ) → 0 < c → p < area → SomeIff o (c ≤ p) (p - c) → IsThe area (λ q. IsAbove c p q) o
above_is c area p None pos inside iff = λ q lt h.
    let e : (q / c + 1) * c ≡ p / c * c = ap (λ n. n * c) h.0 in
    iff (omega (arith, div-add-mod' p c))
above_is c area p (Some q) pos inside iff =
    let e : q + c ≡ p = omega (arith, iff.0, iff.1) in (omega arith, below_place c q p pos e)

before_is : (c area p : ℕ) (o : Option ℕ) → 0 < c → p < area → SomeIff o (0 < p % c) (p - 1) → IsThe area (λ q. IsLeftOf c p q) o
before_is c area p None pos inside iff = λ q lt h. iff (omega (arith, h.1))
before_is c area p (Some q) pos inside iff =
    let e : q + 1 ≡ p = omega (arith, iff.0, iff.1, div-add-mod' p c) in
    let w = before_place c q p pos e iff.0 in
    (omega arith, (sym w.0, omega (arith, iff.0, w.1)))

after_is : (c r p : ℕ) (o : Option ℕ) → 0 < c → p < c * r → SomeIff o (p % c + 1 < c) (p + 1) → IsThe (c * r) (λ q. IsLeftOf c q p) o
after_is c r p None pos inside iff = λ q lt h. iff (omega (arith, h.1, mod_below q c pos))
after_is c r p (Some q) pos inside iff =
    (omega (arith, iff.1, right_inside c r p inside iff.0), beside_place c p q pos (sym iff.1) iff.0)

below_is : (c area p : ℕ) (o : Option ℕ) → 0 < c → SomeIff o (p + c < area) (p + c) → IsThe area (λ q. IsAbove c q p) o
below_is c area p None pos iff = λ q lt h.
    let e : (p / c + 1) * c ≡ q / c * c = ap (λ n. n * c) h.0 in
    iff (omega (arith, h.1, div-add-mod' p c, div-add-mod' q c))
below_is c area p (Some q) pos iff = (omega (arith, iff.0, iff.1), below_place c p q pos (sym iff.1))

-- the point of which something holds
the_one : (area q : ℕ) (Is : ℕ → Type 0) (o : Option ℕ) → IsThe area Is o → o ≡ Some q → (q < area) × Is q
the_one area q Is None is e = cc
the_one area q Is (Some x) is e = let k : x ≡ q = cc in (rw k at is.0, rw k at is.1)

some_at : (v q : ℕ) (P : Type 0) (o : Option ℕ) → SomeIff o P v → P → q ≡ v → o ≡ Some q
some_at v q P None iff here e = absurd (iff here)
some_at v q P (Some x) iff here e = ap Some (iff.1 ∙ sym e)

pub near_is : (c r p : ℕ) (u l i d : Option ℕ) → 0 < c → p < c * r → SomeIff u (c ≤ p) (p - c) → SomeIff l (0 < p % c) (p - 1)
    → SomeIff i (p % c + 1 < c) (p + 1) → SomeIff d (p + c < c * r) (p + c) → AreNear c (c * r) p u l i d
near_is c r p u l i d pos inside su sl si sd = record {
  above = above;
  before = before;
  after = after;
  below = below;
  next = λ q. (
    λ n. named q n.0 (one_of_four c p q pos n.1),
    λ h. elim h as (λ _. (q < c * r) × NextTo c p q) [
      | inl e ↦ let w = the_one (c * r) q (λ q. IsAbove c p q) u above e in (w.0, inr (sym w.1.1, inr w.1.0))
      | inr (inl e) ↦ let w = the_one (c * r) q (λ q. IsLeftOf c p q) l before e in (w.0, inl (sym w.1.0, inr w.1.1))
      | inr (inr (inl e)) ↦ let w = the_one (c * r) q (λ q. IsLeftOf c q p) i after e in (w.0, inl (w.1.0, inl w.1.1))
      | inr (inr (inr e)) ↦ let w = the_one (c * r) q (λ q. IsAbove c q p) d below e in (w.0, inr (w.1.1, inl w.1.0))
    ],
  );
}
  where
    above : IsThe (c * r) (λ q. IsAbove c p q) u
    above = above_is c (c * r) p u pos inside su

    before : IsThe (c * r) (λ q. IsLeftOf c p q) l
    before = before_is c (c * r) p l pos inside sl

    after : IsThe (c * r) (λ q. IsLeftOf c q p) i
    after = after_is c r p i pos inside si

    below : IsThe (c * r) (λ q. IsAbove c q p) d
    below = below_is c (c * r) p d pos sd

    named : (q : ℕ) → q < c * r → IsOneOf c p q → (u ≡ Some q) ⊎ ((l ≡ Some q) ⊎ ((i ≡ Some q) ⊎ (d ≡ Some q)))
    named q lt (up le e) = inl (some_at (p - c) q (c ≤ p) u su le e)
    named q lt (left h e) = inr (inl (some_at (p - 1) q (0 < p % c) l sl h e))
    named q lt (right h e) = inr (inr (inl (some_at (p + 1) q (p % c + 1 < c) i si h e)))
    named q lt (down e) = let room : p + c < c * r = omega arith in inr (inr (inr (some_at (p + c) q (p + c < c * r) d sd room e)))

-- a list with one more point
pub push_contains : (xs : List ℕ) (x q : ℕ) → Contains (xs ++ x ∷ []) q ↔ (Contains xs q ⊎ (Some x ≡ Some q))
push_contains xs x q = (
  λ h. elim (Contains-push_cases xs x q h) as (λ _. Contains xs q ⊎ (Some x ≡ Some q)) [ inl old ↦ inl old | inr e ↦ inr (ap Some e) ],
  λ h. elim h as (λ _. Contains (xs ++ x ∷ []) q) [
    | inl old ↦ Contains-append_left xs (x ∷ []) q old
    | inr e ↦ let k : x ≡ q = cc in rw (← k) (Contains-push xs x)
  ],
)

-- what four additions give
pub four_added : (a b d e f : List ℕ) (u l r w : Option ℕ) → a ≡ []
    → ((q : ℕ) → Contains b q ↔ (Contains a q ⊎ (u ≡ Some q))) → ((q : ℕ) → Contains d q ↔ (Contains b q ⊎ (l ≡ Some q)))
    → ((q : ℕ) → Contains e q ↔ (Contains d q ⊎ (r ≡ Some q))) → ((q : ℕ) → Contains f q ↔ (Contains e q ⊎ (w ≡ Some q)))
    → (q : ℕ) → Contains f q ↔ ((u ≡ Some q) ⊎ ((l ≡ Some q) ⊎ ((r ≡ Some q) ⊎ (w ≡ Some q))))
four_added a b d e f u l r w none first second third last q = (
  λ h. elim ((last q).0 h) as (λ _. (u ≡ Some q) ⊎ ((l ≡ Some q) ⊎ ((r ≡ Some q) ⊎ (w ≡ Some q)))) [
    | inr k ↦ inr (inr (inr k))
    | inl h ↦ elim ((third q).0 h) as (λ _. (u ≡ Some q) ⊎ ((l ≡ Some q) ⊎ ((r ≡ Some q) ⊎ (w ≡ Some q)))) [
      | inr k ↦ inr (inr (inl k))
      | inl h ↦ elim ((second q).0 h) as (λ _. (u ≡ Some q) ⊎ ((l ≡ Some q) ⊎ ((r ≡ Some q) ⊎ (w ≡ Some q)))) [
        | inr k ↦ inr (inl k)
        | inl h ↦ elim ((first q).0 h) as (λ _. (u ≡ Some q) ⊎ ((l ≡ Some q) ⊎ ((r ≡ Some q) ⊎ (w ≡ Some q)))) [
          | inr k ↦ inl k
          | inl h ↦ absurd (omega (arith, (rw none at h).1))
        ]
      ]
    ]
  ],
  λ h. elim h as (λ _. Contains f q) [
    | inl k ↦ (last q).1 (inl ((third q).1 (inl ((second q).1 (inl ((first q).1 (inr k)))))))
    | inr (inl k) ↦ (last q).1 (inl ((third q).1 (inl ((second q).1 (inr k)))))
    | inr (inr (inl k)) ↦ (last q).1 (inl ((third q).1 (inr k)))
    | inr (inr (inr k)) ↦ (last q).1 (inr k)
  ],
)

-- each of the four is on the board
module _ (c area p : ℕ) (u l i d : Option ℕ) (near : AreNear c area p u l i d) where
  pub near_below : (o : Option ℕ) (most : ℕ) → area ≤ most → ((q : ℕ) → o ≡ Some q → (u ≡ Some q) ⊎ ((l ≡ Some q) ⊎ ((i ≡ Some q) ⊎ (d ≡ Some q)))) → IfSome o (λ q. q < most)
  near_below None most le of_four = tt
  near_below (Some q) most le of_four = omega (arith, le, ((near.next q).1 (of_four q refl)).0)
