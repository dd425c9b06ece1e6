-- Walls as lists of break points: drawn break point by break point, within the bounds, and on finer grids.
use Rattle.std.proofs.Common.{ℕ, zero, suc, ◌+◌, ◌-◌, ◌<◌, ◌≤◌, ◌≡◌, ◌⊎◌, ◌↔◌, arith, refl, inl, inr, sym, ◌∙◌, ap, subst, ℤ, pos, ◌+ℤ◌, ◌-ℤ◌, ◌<ℤ◌, int_lt, nat_lt, cond, true, false, List, [], ◌∷◌, ◌++◌, length, drop, get_or, ap₂, ◌^◌, ◌*◌, ◌*ℤ◌, ◌≤ℤ◌}
use Rattle.std.proofs.lemmas.List.{drop_more, drop_all}
use Rattle.std.proofs.lemmas.Bool.{cases_lt, true_from_ne_false, false_from_ne_true, lt-ltb, le-ltb}
use Rattle.std.proofs.lemmas.Int.{ints, by_lt_z}
use Rattle.thermograph.specs.declared.breaks.Break.{Break}
use Rattle.thermograph.specs.Breaks.{toward, from, wall_at, Reaches, IsBreakAt, IsPath}
use Rattle.short_games.specs.WallGrids.{Bends, HasWalls, finer}
use Rattle.thermograph.specs.inner.Scaffolds.{IsStraight, IsTraced}
use Rattle.thermograph.specs.inner.Breaks.{IsInRange, IsLevel}
use Rattle.thermograph.specs.Drawings.{AreBreaks, DrawWalls, DrawOnGrids, in_parts}
use Rattle.thermograph.specs.Thermographs.{breaks, IsFromZero}
use Rattle.thermograph.specs.inner.Thermographs.{points, AreInBounds}
use Rattle.short_games.specs.Tree.{Tree}
use Rattle.short_games.proofs.LineLaws.{Doubles, finer-doubles, parity, Parity, below-or_at}
use Rattle.short_games.proofs.LineLaws.Parity.{even, odd}
use Rattle.short_games.proofs.WallRuleLaws.{rule-is}
use Rattle.short_games.proofs.WallSolutionLaws.{has_walls-finer}

-- Lists of break points, break point by break point.
pub at-before : (t n : ℕ) (x y : ℤ) → t < n → cond (nat_lt t n) x y ≡ x
at-before t n x y h = ap (λ b. cond b x y) (lt-ltb t n h)

pub at-after : (t n : ℕ) (x y : ℤ) → n ≤ t → cond (nat_lt t n) x y ≡ y
at-after t n x y h = ap (λ b. cond b x y) (le-ltb t n h)

less : (x y : ℤ) → x <ℤ y → int_lt x y ≡ true
less x y h = true_from_ne_false _ (λ e. omega (arith, ints, e, h))

not_less : (x y : ℤ) → y ≤ℤ x → int_lt x y ≡ false
not_less x y h = false_from_ne_true _ (λ e. omega (arith, ints, e, h))

pub toward-up : (x y : ℤ) (d : ℕ) → x <ℤ y → toward x y d ≡ x +ℤ pos d
toward-up x y d h = ap (λ b. cond b (x +ℤ pos d) (cond (int_lt y x) (x -ℤ pos d) x)) (less x y h)

pub toward-down : (x y : ℤ) (d : ℕ) → y <ℤ x → toward x y d ≡ x -ℤ pos d
toward-down x y d h = ap₂ (λ b c. cond b (x +ℤ pos d) (cond c (x -ℤ pos d) x)) (not_less x y (omega (arith, ints, h))) (less y x h)

pub toward-same : (x y : ℤ) (d : ℕ) → y ≡ x → toward x y d ≡ x
toward-same x y d h = ap₂ (λ b c. cond b (x +ℤ pos d) (cond c (x -ℤ pos d) x)) (not_less x y (omega (arith, ints, h))) (not_less y x (omega (arith, ints, h)))

-- the same on a way of n steps, where n may be 0
pub toward-climbs : (x y : ℤ) (n d : ℕ) → y ≡ x +ℤ pos n → d ≤ n → toward x y d ≡ x +ℤ pos d
toward-climbs x y n d e h = by_lt_z x y (toward-up x y d) (λ l. toward-same x y d (omega (arith, ints, e, l)) ∙ omega (arith, ints, e, h, l))

pub toward-dives : (x y : ℤ) (n d : ℕ) → y ≡ x -ℤ pos n → d ≤ n → toward x y d ≡ x -ℤ pos d
toward-dives x y n d e h = by_lt_z y x (toward-down x y d) (λ l. toward-same x y d (omega (arith, ints, e, l)) ∙ omega (arith, ints, e, h, l))

pub toward-none : (x y : ℤ) → toward x y 0 ≡ x
toward-none x y = by_lt_z x y (λ l. toward-up x y 0 l ∙ omega (arith, ints)) (λ l. by_lt_z y x (λ m. toward-down x y 0 m ∙ omega (arith, ints)) (λ m. toward-same x y 0 (omega (arith, ints, l, m))))

pub from-first : (b : Break) (bs : List Break) → Reaches b bs → from b bs b.at ≡ b.value
unfolding from
from-first b [] r = refl
from-first b (c ∷ bs) r = let z : b.at - b.at ≡ 0 = omega arith in at-before b.at c.at _ _ r.0 ∙ ap (toward b.value c.value) z ∙ toward-none b.value c.value

-- up to the next break point the wall goes straight
pub from-piece : (b c : Break) (bs : List Break) (t : ℕ) → Reaches b (c ∷ bs) → t ≤ c.at → from b (c ∷ bs) t ≡ toward b.value c.value (t - b.at)
unfolding from
from-piece b c bs t r h = elim (below-or_at t c.at h) [
  | inl l ↦ at-before t c.at _ _ l
  | inr e ↦ at-after t c.at _ _ (omega (arith, e)) ∙ ap (from c bs) e ∙ from-first c bs r.2 ∙ sym r.1
      ∙ ap (λ n. toward b.value c.value (n - b.at)) (sym e)
]

abbrev pub last_of : Break → List Break → Break
last_of b [] = b
last_of b (c ∷ bs) = last_of c bs

last-after : (b : Break) (bs : List Break) → Reaches b bs → b.at ≤ (last_of b bs).at
last-after b [] r = omega arith
last-after b (c ∷ bs) r = omega (arith, r.0, last-after c bs r.2)

pub last-push : (b : Break) (bs : List Break) (c : Break) → last_of b (bs ++ c ∷ []) ≡ c
last-push b [] c = refl
last-push b (d ∷ bs) c = last-push d bs c

-- up to the last break point a further one changes nothing
pub push-early : (b : Break) (bs : List Break) (c : Break) (t : ℕ) → t ≤ (last_of b bs).at → (last_of b bs).at < c.at → from b (bs ++ c ∷ []) t ≡ from b bs t
unfolding from
push-early b [] c t h l = let none : t - b.at ≡ 0 = omega (arith, h) in
    at-before t c.at _ _ (omega (arith, h, l)) ∙ ap (toward b.value c.value) none ∙ toward-none b.value c.value
push-early b (d ∷ bs) c t h l = ap (cond (nat_lt t d.at) (toward b.value d.value (t - b.at))) (push-early d bs c t h l)

-- from there on the wall goes to the further one
pub push-late : (b : Break) (bs : List Break) (c : Break) (t : ℕ) → Reaches b bs → (last_of b bs).at ≤ t → from b (bs ++ c ∷ []) t ≡ cond (nat_lt t c.at) (toward (last_of b bs).value c.value (t - (last_of b bs).at)) c.value
unfolding from
push-late b [] c t a h = refl
push-late b (d ∷ bs) c t a h = at-after t d.at _ _ (omega (arith, h, last-after d bs a.2)) ∙ push-late d bs c t a.2 h

pub from-last : (b : Break) (bs : List Break) (t : ℕ) → Reaches b bs → (last_of b bs).at ≤ t → from b bs t ≡ (last_of b bs).value
unfolding from
from-last b [] t a h = refl
from-last b (d ∷ bs) t a h = at-after t d.at _ _ (omega (arith, h, last-after d bs a.2)) ∙ from-last d bs t a.2 h

-- a list that draws f up to its last break point
pub record Traces (f : ℕ → ℤ) (b : Break) (bs : List Break) : Type 0 where
  pub ends : (last_of b bs).value ≡ f (last_of b bs).at
  pub agrees : (t : ℕ) → t ≤ (last_of b bs).at → from b bs t ≡ f t
  pub reaches : Reaches b bs

pub traces-first : (f : ℕ → ℤ) (b : Break) → b.at ≡ 0 → b.value ≡ f 0 → Traces f b []
unfolding from
traces-first f b h e = record { reaches = tt; ends = e ∙ ap f (sym h); agrees = λ t l. (let none : t ≡ 0 = omega (arith, h, l) in e ∙ ap f (sym none)) }

reaches-push : (b : Break) (bs : List Break) (c : Break) → Reaches b bs → (last_of b bs).at < c.at → toward (last_of b bs).value c.value (c.at - (last_of b bs).at) ≡ c.value → Reaches b (bs ++ c ∷ [])
reaches-push b [] c r h e = (h, e, tt)
reaches-push b (d ∷ bs) c r h e = (r.0, r.1, reaches-push d bs c r.2 h e)

pub traces-push : (f : ℕ → ℤ) (b : Break) (bs : List Break) (c : Break) → Traces f b bs → (last_of b bs).at < c.at → c.value ≡ f c.at → IsStraight f (last_of b bs).at c.at → Traces f b (bs ++ c ∷ [])
traces-push f b bs c r l e s = record {
  reaches = reaches-push b bs c r.reaches l (ap₂ (λ x y. toward x y (c.at - (last_of b bs).at)) r.ends e ∙ sym (s c.at (omega (arith, l)) (omega arith)) ∙ sym e);
  ends = subst (λ d. d.value ≡ f d.at) (sym (last-push b bs c)) e;
  agrees = λ t h. at t (subst (λ d. t ≤ d.at) (last-push b bs c) h) (cases_lt (last_of b bs).at t);
}
  where
    late : (t : ℕ) → (last_of b bs).at < t → t ≤ c.at → (t < c.at) ⊎ (c.at ≤ t) → cond (nat_lt t c.at) (toward (last_of b bs).value c.value (t - (last_of b bs).at)) c.value ≡ f t
    late t h k (inl m) = at-before t c.at _ _ m ∙ ap₂ (λ x y. toward x y (t - (last_of b bs).at)) r.ends e ∙ sym (s t (omega (arith, h)) k)
    late t h k (inr m) = at-after t c.at _ _ m ∙ e ∙ (let same : c.at ≡ t = omega (arith, k, m) in ap f same)

    at : (t : ℕ) → t ≤ c.at → ((last_of b bs).at < t) ⊎ (t ≤ (last_of b bs).at) → from b (bs ++ c ∷ []) t ≡ f t
    at t k (inl h) = push-late b bs c t r.reaches (omega (arith, h)) ∙ late t h k (cases_lt t c.at)
    at t k (inr h) = push-early b bs c t h l ∙ r.agrees t h

-- the walk along a list
abbrev pub no_break : Break
no_break = record { at = 0; value = pos 0 }

wall-step : (bs : List Break) (i t : ℕ) (d : Break) → i + 1 < length bs
    → wall_at (drop i bs) t ≡ from (get_or bs i d) (get_or bs (i + 1) d ∷ drop (i + 1 + 1) bs) t
unfolding wall_at
wall-step bs i t d h = ap (λ xs. wall_at xs t) (drop_more bs i d (omega (arith, h)) ∙ ap (λ xs. get_or bs i d ∷ xs) (drop_more bs (i + 1) d h))

pub wall-go_on : (bs : List Break) (i t : ℕ) (d : Break) (w : ℤ) → i + 1 < length bs → (get_or bs (i + 1) d).at ≤ t → w ≡ wall_at (drop i bs) t
    → (i + 1 < length bs) × (w ≡ wall_at (drop (i + 1) bs) t)
unfolding wall_at from
wall-go_on bs i t d w h l e =
    (h, e ∙ wall-step bs i t d h ∙ at-after t (get_or bs (i + 1) d).at _ _ l ∙ sym (ap (λ xs. wall_at xs t) (drop_more bs (i + 1) d h)))

pub wall-toward : (bs : List Break) (i t : ℕ) (d : Break) (w : ℤ) → i + 1 < length bs → t < (get_or bs (i + 1) d).at → w ≡ wall_at (drop i bs) t
    → toward (get_or bs i d).value (get_or bs (i + 1) d).value (t - (get_or bs i d).at) ≡ w
unfolding from
wall-toward bs i t d w h l e = sym (e ∙ wall-step bs i t d h ∙ at-before t (get_or bs (i + 1) d).at _ _ l)

pub wall-last : (bs : List Break) (i t : ℕ) (d : Break) → i + 1 ≡ length bs → wall_at (drop i bs) t ≡ (get_or bs i d).value
unfolding wall_at from
wall-last bs i t d h = ap (λ xs. wall_at xs t) (drop_more bs i d (omega (arith, h)) ∙ ap (λ xs. get_or bs i d ∷ xs) (drop_all (i + 1) bs (omega (arith, h))))

pub wall-none : (bs : List Break) (t : ℕ) → length bs ≡ 0 → pos 0 ≡ wall_at bs t
unfolding wall_at
wall-none [] t h = refl
wall-none (b ∷ bs) t h = absurd (omega (arith, h))

break-of_push : (bs : List Break) (c : Break) (t : ℕ) → IsBreakAt (bs ++ c ∷ []) t → IsBreakAt bs t ⊎ (c.at ≡ t)
break-of_push [] c t (inl e) = inr e
break-of_push [] c t (inr h) = absurd h
break-of_push (b ∷ bs) c t (inl e) = inl (inl e)
break-of_push (b ∷ bs) c t (inr h) = elim (break-of_push bs c t h) [
  | inl k ↦ inl (inr k)
  | inr e ↦ inr e
]

break-in_push : (bs : List Break) (c : Break) (t : ℕ) → IsBreakAt bs t → IsBreakAt (bs ++ c ∷ []) t
break-in_push [] c t h = absurd h
break-in_push (b ∷ bs) c t (inl e) = inl e
break-in_push (b ∷ bs) c t (inr h) = inr (break-in_push bs c t h)

last-is_break : (b : Break) (bs : List Break) → IsBreakAt (b ∷ bs) (last_of b bs).at
last-is_break b [] = inl refl
last-is_break b (c ∷ bs) = inr (last-is_break c bs)

break-early : (b : Break) (bs : List Break) (t : ℕ) → Reaches b bs → IsBreakAt (b ∷ bs) t → t ≤ (last_of b bs).at
break-early b bs t a (inl e) = omega (arith, last-after b bs a, e)
break-early b [] t a (inr h) = absurd h
break-early b (c ∷ bs) t a (inr h) = break-early c bs t a.2 h

-- what the loop that traces keeps
pub data IsTracing (f : ℕ → ℤ) (end at : ℕ) : List Break → Type 0 where
  tracing : (b : Break) (bs : List Break) → b.at ≡ 0 → (last_of b bs).at ≡ at → Traces f b bs → ((t : ℕ) → 0 < t → t < at → IsBreakAt (b ∷ bs) t ↔ Bends f t) → (0 < at → at < end → Bends f at) → IsTracing f end at (b ∷ bs)

pub tracing-start : (f : ℕ → ℤ) (end : ℕ) (xs : List Break) (b : Break) → xs ≡ b ∷ [] → b.at ≡ 0 → b.value ≡ f 0 → IsTracing f end 0 xs
tracing-start f end xs b i h e = subst (IsTracing f end 0) (sym i) (tracing b [] h h (traces-first f b h e) (λ t p q. absurd (omega (arith, q))) (λ p. absurd (omega (arith, p))))

pub tracing-push : (f : ℕ → ℤ) (end at next : ℕ) (xs ys : List Break) (c : Break) → IsTracing f end at xs → ys ≡ xs ++ c ∷ [] → c.at ≡ next → at < next → next ≤ end → c.value ≡ f next → IsStraight f at next → (next < end → Bends f next) → ((t : ℕ) → at < t → t < next → Bends f t → ⊥)
    → IsTracing f end next ys
tracing-push f end at next _ ys c (tracing b bs z l r old now) i a h w e s n none = subst (IsTracing f end next) (sym i)
    (tracing b (bs ++ c ∷ []) z (ap (λ d. d.at) (last-push b bs c) ∙ a)
    (traces-push f b bs c r (omega (arith, l, a, h)) (e ∙ ap f (sym a)) (λ t p q. (s t (omega (arith, p, l)) (omega (arith, q, a)) ∙ ap₂ (λ u v. toward (f u) (f v) (t - u)) (sym l) (sym a))))
    (λ t p q. (
      λ k. elim (break-of_push (b ∷ bs) c t k) [
        | inl m ↦ elim (cases_lt t at) [
          | inl g ↦ (old t p g).0 m
          | inr g ↦ (let j : at ≡ t = omega (arith, g, break-early b bs t r.reaches m, l) in
              subst (Bends f) j (now (omega (arith, p, j)) (omega (arith, h, w))))
        ]
        | inr m ↦ absurd (omega (arith, m, a, q))
      ],
      λ k. elim (cases_lt t at) [
        | inl g ↦ break-in_push (b ∷ bs) c t ((old t p g).1 k)
        | inr g ↦ elim (cases_lt at t) [
          | inl m ↦ absurd (none t m q k)
          | inr m ↦ (let j : (last_of b bs).at ≡ t = omega (arith, g, m, l) in
              break-in_push (b ∷ bs) c t (subst (IsBreakAt (b ∷ bs)) j (last-is_break b bs)))
        ]
      ],
    )) (λ p q. n q))

pub last-is : (b : Break) (bs : List Break) (d : Break) → get_or (b ∷ bs) (length bs) d ≡ last_of b bs
last-is b [] d = refl
last-is b (c ∷ bs) d = last-is c bs d

pub tracing-end : (f : ℕ → ℤ) (at end : ℕ) (xs : List Break) → at ≡ end → IsTracing f end at xs → IsTraced f end xs
unfolding wall_at
tracing-end f at end _ i (tracing b bs z l r old now) = record {
  first_at = z;
  last_at = (let k : length (b ∷ bs) - 1 ≡ length bs = omega arith in ap (λ n. (get_or (b ∷ bs) n (record { at = end + 1; value = pos 0 })).at) k ∙ ap (λ d. d.at) (last-is b bs (record { at = end + 1; value = pos 0 })) ∙ l ∙ i);
  path = r.reaches;
  agrees = λ t h. r.agrees t (omega (arith, h, l, i));
  after = λ t h. from-last b bs t r.reaches (omega (arith, h, l, i)) ∙ r.ends ∙ ap f (l ∙ i);
  bends = λ t p q. old t p (omega (arith, q, i));
}

-- The break points of a drawing are within the bounds, and as a wall they are the same.
-- each break point of a path is at or after the first, at or before the last, and on the wall
record IsOnPath (b : Break) (bs : List Break) (c : Break) : Type 0 where
  after : b.at ≤ c.at
  before : c.at ≤ (last_of b bs).at
  on : from b bs c.at ≡ c.value

on-path : (b : Break) (bs : List Break) (j : ℕ) → Reaches b bs → j < length (b ∷ bs) → IsOnPath b bs (get_or (b ∷ bs) j no_break)
unfolding from
on-path b bs zero r h = record { after = omega arith; before = last-after b bs r; on = from-first b bs r }
on-path b [] (suc j) r h = absurd (omega (arith, h))
on-path b (c ∷ bs) (suc j) r h = let p = on-path c bs j r.2 (omega (arith, h)) in record {
  after = omega (arith, r.0, p.after);
  before = p.before;
  on = at-after (get_or (c ∷ bs) j no_break).at c.at _ _ p.after ∙ p.on;
}

pub points-in_bounds : (bs : List Break) (end : ℕ) → AreBreaks bs end → IsLevel bs → end < 2 ^ 120 → AreInBounds bs
unfolding wall_at
points-in_bounds [] end a l e j h = absurd (omega (arith, h))
points-in_bounds (b ∷ bs) end a l e j h =
    let p = on-path b bs j a.path h in
    let k : length (b ∷ bs) - 1 ≡ length bs = omega arith in
    let last : (last_of b bs).at ≡ end = sym (ap (λ d. d.at) (last-is b bs (record { at = end + 1; value = pos 0 }))) ∙ sym (ap (λ n. (get_or (b ∷ bs) n (record { at = end + 1; value = pos 0 })).at) k) ∙ a.last_at in
    (omega (arith, p.before, last, e), subst IsInRange p.on (l (get_or (b ∷ bs) j no_break).at))

-- there and back
pub breaks-points : (bs : List Break) → breaks (points bs) ≡ bs
breaks-points [] = refl
breaks-points (b ∷ bs) = ap (λ cs. b ∷ cs) (breaks-points bs)

pub points-from_zero : (bs : List Break) → IsFromZero (points bs)
points-from_zero [] j h = absurd (omega (arith, h))
points-from_zero (b ∷ bs) zero h = omega (arith, ints)
points-from_zero (b ∷ bs) (suc j) h = points-from_zero bs j (omega (arith, h))

-- Break points with all numbers in finer parts draw the same wall.
abbrev twice : Break → Break
twice b = record { at = b.at + b.at; value = b.value +ℤ b.value }

abbrev doubled : List Break → List Break
doubled [] = []
doubled (b ∷ bs) = twice b ∷ doubled bs

toward-twice : (x y : ℤ) (d e n : ℕ) → n ≡ d + e → toward (x +ℤ x) (y +ℤ y) n ≡ toward x y d +ℤ toward x y e
toward-twice x y d e n h = by_lt_z x y
    (λ l. omega (arith, ints, h, toward-up (x +ℤ x) (y +ℤ y) n (omega (arith, ints, l)), toward-up x y d l, toward-up x y e l))
    (λ l. by_lt_z y x
    (λ m. omega (arith, ints, h, toward-down (x +ℤ x) (y +ℤ y) n (omega (arith, ints, m)), toward-down x y d m, toward-down x y e m))
    (λ m. omega (arith, ints, toward-same (x +ℤ x) (y +ℤ y) n (omega (arith, ints, l, m)), toward-same x y d (omega (arith, ints, l, m)), toward-same x y e (omega (arith, ints, l, m)))))

-- at twice a place the wall is twice what it was there, and half-way between two places it is the sum of what it was at both
from-sum : (b : Break) (bs : List Break) (t u n : ℕ) → Reaches b bs → n ≡ t + u → t ≤ u → u ≤ suc t
    → from (twice b) (doubled bs) n ≡ from b bs t +ℤ from b bs u
unfolding from
from-sum b [] t u n r e p q = refl
from-sum b (c ∷ bs) t u n r e p q = elim (cases_lt t c.at) [
  | inl h ↦ at-before n (c.at + c.at) _ _ (omega (arith, e, h, q)) ∙ toward-twice b.value c.value (t - b.at) (u - b.at) _
      (omega (arith, e, p, q)) ∙ sym (ap₂ ◌+ℤ◌ (at-before t c.at _ _ h) (from-piece b c bs u r (omega (arith, h, q))))
  | inr h ↦ at-after n (c.at + c.at) _ _ (omega (arith, e, h, p)) ∙ from-sum c bs t u n r.2 e p q
      ∙ sym (ap₂ ◌+ℤ◌ (at-after t c.at _ _ h) (at-after u c.at _ _ (omega (arith, h, p))))
]

wall-doubles : (bs : List Break) → IsPath bs → Doubles (wall_at bs) (wall_at (doubled bs))
unfolding wall_at
wall-doubles [] r = record { at_even = λ t. refl; at_odd = λ t. refl }
wall-doubles (b ∷ bs) r = record {
  at_even = λ t. from-sum b bs t t (t + t) r refl (omega arith) (omega arith);
  at_odd = λ t. from-sum b bs t (suc t) (suc (t + t)) r (omega arith) (omega arith) (omega arith);
}

wall-finer : (bs : List Break) → IsPath bs → (t : ℕ) → finer (wall_at bs) t ≡ wall_at (doubled bs) t
wall-finer bs r t = at t (parity t)
  where
    at : (t : ℕ) → Parity t → finer (wall_at bs) t ≡ wall_at (doubled bs) t
    at _ (even t) = (finer-doubles (wall_at bs)).at_even t ∙ sym ((wall-doubles bs r).at_even t)
    at _ (odd t) = (finer-doubles (wall_at bs)).at_odd t ∙ sym ((wall-doubles bs r).at_odd t)

doubled-reaches : (b : Break) (bs : List Break) → Reaches b bs → Reaches (twice b) (doubled bs)
doubled-reaches b [] r = tt
doubled-reaches b (c ∷ bs) r = (
  omega (arith, r.0),
  toward-twice b.value c.value (c.at - b.at) (c.at - b.at) _ (omega (arith, r.0)) ∙ ap₂ ◌+ℤ◌ r.1 r.1,
  doubled-reaches c bs r.2,
)

doubled-path : (bs : List Break) → IsPath bs → IsPath (doubled bs)
doubled-path [] r = tt
doubled-path (b ∷ bs) r = doubled-reaches b bs r

pub twice-place : (q j : ℕ) → q * 2 ^ suc j ≡ q * 2 ^ j + q * 2 ^ j
twice-place q j = let s : 2 ^ suc j ≡ 2 ^ j + 2 ^ j = omega arith in ap (λ n. q * n) s ∙ omega arith

pub twice-value : (x : ℤ) (j : ℕ) → x *ℤ pos (2 ^ suc j) ≡ (x *ℤ pos (2 ^ j)) +ℤ (x *ℤ pos (2 ^ j))
twice-value x j = let s : 2 ^ suc j ≡ 2 ^ j + 2 ^ j = omega arith in ap (λ n. x *ℤ pos n) s ∙ omega (arith, ints)

-- parts half as great double all numbers
parts-none : (bs : List Break) → in_parts 0 bs ≡ bs
parts-none [] = refl
parts-none (b ∷ bs) = ap₂ (λ c cs. c ∷ cs) (let p : b.at * 2 ^ 0 ≡ b.at = omega arith in let q : b.value *ℤ pos (2 ^ 0) ≡ b.value = omega (arith, ints) in (λ i. record { at = p i; value = q i })) (parts-none bs)

parts-next : (j : ℕ) (bs : List Break) → in_parts (suc j) bs ≡ doubled (in_parts j bs)
parts-next j [] = refl
parts-next j (b ∷ bs) = ap₂ (λ c cs. c ∷ cs)
    (λ i. record { at = twice-place b.at j i; value = twice-value b.value j i }) (parts-next j bs)

-- lists that draw the walls of G on one grid draw them on all finer ones
module _ (G : Tree) (l r : List Break) (left_path : IsPath l) (right_path : IsPath r) where
  path-in_parts : (bs : List Break) → IsPath bs → (j : ℕ) → IsPath (in_parts j bs)
  path-in_parts bs p zero = subst IsPath (sym (parts-none bs)) p
  path-in_parts bs p (suc j) = subst IsPath (sym (parts-next j bs)) (doubled-path (in_parts j bs) (path-in_parts bs p j))

  next : (k : ℕ) (l r : List Break) → IsPath l → IsPath r → HasWalls k G (wall_at l) (wall_at r) → HasWalls (suc k) G (wall_at (doubled l)) (wall_at (doubled r))
  next k l r p q w = let f = has_walls-finer k G (wall_at l) (wall_at r) w in
      record { lw = f.lw; rw = f.rw; all = f.all; left_is = λ t. f.left_is t ∙ wall-finer l p t; right_is = λ t. f.right_is t ∙ wall-finer r q t }

  pub draw-grids : HasWalls 60 G (wall_at l) (wall_at r) → DrawOnGrids G l r
  draw-grids w zero = subst (λ xs. HasWalls 60 G (wall_at xs) (wall_at (in_parts 0 r))) (sym (parts-none l)) (subst (λ ys. HasWalls 60 G (wall_at l) (wall_at ys)) (sym (parts-none r)) w)
  draw-grids w (suc j) = subst (λ xs. HasWalls (60 + suc j) G (wall_at xs) (wall_at (in_parts (suc j) r))) (sym (parts-next j l))
      (subst (λ ys. HasWalls (60 + suc j) G (wall_at (doubled (in_parts j l))) (wall_at ys)) (sym (parts-next j r))
      (let e : suc (60 + j) ≡ 60 + suc j = omega arith in
      subst (λ k. HasWalls k G (wall_at (doubled (in_parts j l))) (wall_at (doubled (in_parts j r)))) e
      (next (60 + j) (in_parts j l) (in_parts j r) (path-in_parts l left_path j) (path-in_parts r right_path j) (draw-grids w j))))

  -- so they draw them at each place
  pub draw-all : HasWalls 60 G (wall_at l) (wall_at r) → DrawWalls G l r
  draw-all w j t = let s = rule-is (60 + j) G (wall_at (in_parts j l)) (wall_at (in_parts j r)) (draw-grids w j) t in ((s (wall_at (in_parts j l) t)).0.1 refl, (s (wall_at (in_parts j r) t)).1.1 refl)
