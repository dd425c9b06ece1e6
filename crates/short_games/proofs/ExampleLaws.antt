-- Small games: a test for canonical trees, which of them are numbers, and the values that every book has.
use Rattle.std.proofs.Common.{◌≡◌, ◌&&◌, Bool, true, not, inl, inr, ap, refl, ◌∙◌, subst, pos, arith, ℕ, ◌+◌, ◌*◌, ◌^◌, ◌≤◌, false, sym, negsuc}
use Rattle.std.proofs.lemmas.Bool.{and_parts, cases_Bool, false≢true}
use Rattle.std.proofs.lemmas.Int.{ints}
use Rattle.short_games.specs.Tree.{Tree, Trees, node, none, more, left, right, Has, size, neg}
use Rattle.short_games.specs.Order.{◌≤ᵍ◌, ◌⧏ᵍ◌, ◌≡ᵍ◌}
use Rattle.short_games.specs.NumberText.{same, guess, number_of, digits_within}
use Rattle.short_games.specs.Canonical.{Ascends, IsReduced, AreCanonical}
use Rattle.short_games.specs.TextOrder.{text_before, TextBefore, IsCanonicalTree, tree_text, lesser_text}
use Rattle.short_games.specs.Number.{num, whole, count_tree, IsNumberTree, IsNumber}
use Rattle.short_games.specs.Text.{text}
use Rattle.short_games.specs.Examples.{choice, zero, one, minus_one, star, up, two_switch, uneven_switch, two_steps, tiny, star_two, two, minus_two, half}
use Rattle.short_games.specs.Sum.{◌+ᵍ◌}
use Rattle.short_games.specs.Stops.{IsLeftStop, IsRightStop}
use Rattle.short_games.specs.Walls.{IsLeftWall, IsRightWall, IsGreatestRightWall, IsLeastLeftWall}
use Rattle.short_games.specs.KnownValues.{IsLess, AreConfused, HasMast, KnownNumbers, KnownFractions, KnownOrder, KnownSums, KnownCanonical, KnownStops, KnownWalls, KnownSwitch, KnownTwoSteps}
use Rattle.short_games.specs.Nimbers.{nimber, nimbers_below}
use Rattle.short_games.specs.NimberLaws.{KnownNimbers}
use Rattle.short_games.specs.UpLaws.{KnownUps}
use Rattle.short_games.specs.GameStops.{HasLeftStop}
use Rattle.short_games.specs.GameStopLaws.{KnownGameStops}
use Rattle.short_games.proofs.NumberTextLaws.{same-is}
use Rattle.short_games.proofs.OrderLaws.{le-refl, no_one, no_one-has, le, to-test, le_within, from-test, not-le}
use Rattle.short_games.proofs.NumberLaws.{num-left, num-right, num-lt, num-zero}
use Rattle.short_games.proofs.ReductionLaws.{canonical-number, number-canonical}

-- no two of the list are comparable
unfoldable pub free_test : Trees → Bool
free_test Gs = no_one (λ A. not (no_one (λ B. le A B && not (same A B)) Gs)) Gs

-- no option of the list has an answer that passes
unfoldable pub kept_test : (Tree → Trees) → (Tree → Bool) → Trees → Bool
kept_test answers passes Gs = no_one (λ L. not (no_one passes (answers L))) Gs

unfoldable pub ascends_test : Trees → Bool
ascends_test none = true
ascends_test (more G none) = true
ascends_test (more G (more H Hs)) = text_before G H && ascends_test (more H Hs)

unfoldable pub reduced_test : Tree → Bool
reduced_test G = (free_test (left G) && free_test (right G)) && ((kept_test right (λ R. le R G) (left G) && kept_test left (λ L. le G L) (right G)) && (ascends_test (left G) && ascends_test (right G)))

unfoldable mutual
  pub canonical_test : Tree → Bool
  canonical_test (node ls rs) = reduced_test (node ls rs) && (canonical_each ls && canonical_each rs)

  pub canonical_each : Trees → Bool
  canonical_each none = true
  canonical_each (more G Gs) = canonical_test G && canonical_each Gs

-- a list in which each tree has none that passes
none-inside : (p : Tree → Tree → Bool) (inside : Tree → Trees) (Gs : Trees) → no_one (λ A. not (no_one (p A) (inside A))) Gs ≡ true → (A B : Tree) → Has Gs A → Has (inside A) B → p A B ≡ true → ⊥
none-inside p inside Gs e A B a b q = elim (cases_Bool (no_one (p A) (inside A))) [
  | inl t ↦ no_one-has (p A) (inside A) t B b q
  | inr f ↦ no_one-has (λ A. not (no_one (p A) (inside A))) Gs e A a (ap not f)
]

free : (Gs : Trees) → free_test Gs ≡ true → (A B : Tree) → Has Gs A → Has Gs B → A ≤ᵍ B → A ≡ B
unfolding free_test
free Gs e A B a b l = elim (cases_Bool (same A B)) [
  | inl t ↦ same-is A B t
  | inr f ↦ absurd (none-inside (λ A B. le A B && not (same A B)) (λ A. Gs) Gs e A B a b (λ i. to-test A B l i && not (f i)))
]

ascends : (Gs : Trees) → ascends_test Gs ≡ true → Ascends TextBefore Gs
unfolding ascends_test
ascends none e = tt
ascends (more G none) e = tt
ascends (more G (more H Hs)) e = let b = and_parts _ _ e in (b.0, ascends (more H Hs) b.1)

reduced : (G : Tree) → reduced_test G ≡ true → IsReduced TextBefore G
unfolding reduced_test kept_test
reduced G e =
    let p = and_parts _ _ e in
    let q = and_parts _ _ p.0 in
    let r = and_parts _ _ p.1 in
    let s = and_parts _ _ r.0 in
    let t = and_parts _ _ r.1 in
    record {
      left_free = free (left G) q.0;
      right_free = free (right G) q.1;
      left_kept = λ L R l m y. none-inside (λ L R. le R G) right (left G) s.0 L R l m (to-test R G y);
      right_kept = λ R L m l y. none-inside (λ R L. le G L) left (right G) s.1 R L m l (to-test G L y);
      left_ascends = ascends (left G) t.0;
      right_ascends = ascends (right G) t.1;
    }

mutual
  unfolding canonical_test

  pub by_canonical_test : (G : Tree) → canonical_test G ≡ true → IsCanonicalTree G
  by_canonical_test (node ls rs) e = let p = and_parts _ _ e in let q = and_parts _ _ p.1 in (reduced (node ls rs) p.0, each ls q.0, each rs q.1)

  each : (Gs : Trees) → canonical_each Gs ≡ true → AreCanonical TextBefore Gs
  each none e = tt
  each (more G Gs) e = let p = and_parts _ _ e in (by_canonical_test G p.0, each Gs p.1)

-- a tree with a Right option that is at most a Left one is no number's
pub option-no_number : (G L R : Tree) → Has (left G) L → Has (right G) R → R ≤ᵍ L → IsNumberTree G → ⊥
option-no_number G L R a b y n =
    let l = num-left n.0 n.1 L (subst (λ t. Has (left t) L) n.2 a) in
    let r = num-right n.0 n.1 R (subst (λ t. Has (right t) R) n.2 b) in
    num-lt n.0 l.0 r.0 (omega (arith, ints, l.1, r.1)) (subst (λ t. t ≤ᵍ num n.0 l.0) r.2 (subst (λ t. R ≤ᵍ t) l.2 y))

-- and so is one with an option that is no number's
pub right-no_number : (G R : Tree) → Has (right G) R → (IsNumberTree R → ⊥) → IsNumberTree G → ⊥
right-no_number G R b f n = let r = num-right n.0 n.1 R (subst (λ t. Has (right t) R) n.2 b) in f (n.0, r.0, r.2)

examples-canonical : IsCanonicalTree star × IsCanonicalTree up × IsCanonicalTree two_switch × IsCanonicalTree tiny
    × IsCanonicalTree star_two
    × IsCanonicalTree (choice one star)
unfolding canonical_test reduced_test kept_test ascends_test free_test le le_within size same text_before lesser_text tree_text text number_of guess num whole count_tree digits_within
examples-canonical = (
  by_canonical_test star refl,
  by_canonical_test up refl,
  by_canonical_test two_switch refl,
  by_canonical_test tiny refl,
  by_canonical_test star_two refl,
  by_canonical_test (choice one star) refl,
)

pub star-canonical : IsCanonicalTree star
star-canonical = examples-canonical.0

pub one_or_star-canonical : IsCanonicalTree (choice (num 0 (pos 1)) star)
unfolding num whole count_tree
one_or_star-canonical = examples-canonical.5

pub star-no_number : IsNumberTree star → ⊥
unfolding le le_within size
star-no_number = option-no_number star zero zero (inl refl) (inl refl) (from-test zero zero refl)

pub one_or_star-no_number : IsNumberTree (choice (num 0 (pos 1)) star) → ⊥
unfolding num whole count_tree le le_within size
one_or_star-no_number = option-no_number (choice (num 0 (pos 1)) star) (num 0 (pos 1)) star (inl refl) (inl refl) (from-test star one refl)

-- what the test tells of two games
apart : (G H : Tree) → le H G ≡ false → G ⧏ᵍ H
apart G H e = not-le H G (λ p. false≢true (sym e ∙ to-test H G p))

less : (G H : Tree) → le G H ≡ true → le H G ≡ false → IsLess G H
less G H e f = (from-test G H e, apart G H f)

confused : (G H : Tree) → le G H ≡ false → le H G ≡ false → AreConfused G H
confused G H e f = (apart G H f, apart H G e)

pub known-order : KnownOrder
unfolding le le_within size
known-order = (less zero half refl refl, less half one refl refl, less zero tiny refl refl, less tiny up refl refl, less up half refl refl, confused zero star refl refl, confused up star refl refl, confused zero star_two refl refl, confused star star_two refl refl, confused one two_switch refl refl)

equal : (G H : Tree) → le G H ≡ true → le H G ≡ true → G ≡ᵍ H
equal G H e f = (from-test G H e, from-test H G f)

pub known-sums : KnownSums
unfolding le le_within size ◌+ᵍ◌
known-sums = (equal (half +ᵍ half) one refl refl, equal (star +ᵍ star) zero refl refl, equal (star_two +ᵍ star_two) zero refl refl, equal (two_switch +ᵍ two_switch) two refl refl)

zero-canonical : IsCanonicalTree zero
unfolding num whole count_tree
zero-canonical = number-canonical 0 (pos 0)

half-canonical : IsCanonicalTree half
unfolding num whole count_tree
half-canonical = number-canonical 1 (pos 1)

pub known-canonical : KnownCanonical
unfolding le le_within size
known-canonical = let (star-is, up-is, switch-is, tiny-is, star_two-is, _) = examples-canonical in (
  zero-canonical,
  half-canonical,
  star-is,
  up-is,
  switch-is,
  tiny-is,
  star_two-is,
  record { canonical = zero-canonical; under = from-test (choice star star) zero refl; over = from-test zero (choice star star) refl },
)

switch-no_number : IsNumberTree two_switch → ⊥
unfolding le le_within size
switch-no_number = option-no_number two_switch two zero (inl refl) (inl refl) (from-test zero two refl)

up-no_number : IsNumberTree up → ⊥
up-no_number = right-no_number up star (inl refl) star-no_number

below_zero-no_number : IsNumberTree (choice zero minus_two) → ⊥
unfolding le le_within size
below_zero-no_number = option-no_number (choice zero minus_two) zero minus_two (inl refl) (inl refl) (from-test minus_two zero refl)

tiny-no_number : IsNumberTree tiny → ⊥
tiny-no_number = right-no_number tiny (choice zero minus_two) (inl refl) below_zero-no_number

star_two-no_number : IsNumberTree star_two → ⊥
star_two-no_number = right-no_number star_two star (inr (inl refl)) star-no_number

no_value : (G : Tree) → IsCanonicalTree G → (IsNumberTree G → ⊥) → IsNumber G → ⊥
no_value G c f n = f (n.0, n.1, canonical-number G c n)

pub known-numbers : KnownNumbers
unfolding num whole count_tree neg le le_within size
known-numbers = (
  refl,
  refl,
  refl,
  refl,
  record {
    number = (0, pos 0, refl);
    fits = record { over_left = λ L h y. elim h [ inl e ↦ false≢true (to-test zero minus_two (subst (λ t. zero ≤ᵍ t) e y)) | inr a ↦ absurd a ]; under_right = λ R h y. elim h [ inl e ↦ false≢true (to-test two zero (subst (λ t. t ≤ᵍ zero) e y)) | inr a ↦ absurd a ] };
    no_left = λ Y h. absurd h;
    no_right = λ Y h. absurd h;
  },
  no_value star star-canonical star-no_number,
  no_value up examples-canonical.1 up-no_number,
  no_value two_switch examples-canonical.2 switch-no_number,
  no_value tiny examples-canonical.3 tiny-no_number,
  no_value star_two examples-canonical.4 star_two-no_number,
)

pub known-fractions : KnownFractions
unfolding num whole count_tree neg
known-fractions = (refl, refl, refl, refl, refl, refl)

pub known-nimbers : KnownNimbers
unfolding nimbers_below le le_within size
known-nimbers = (refl, refl, equal (nimber 2) star_two refl refl)

pub known-ups : KnownUps
unfolding le le_within size ◌+ᵍ◌
known-ups = (less zero up refl refl, confused up star refl refl, less star (up +ᵍ up) refl refl, equal (up +ᵍ up +ᵍ star) (choice zero up) refl refl)

-- one option on each side, which is a number, gives the stop
pub known-stops : KnownStops
unfolding IsLeftStop num whole count_tree
known-stops = (
  inr (switch-no_number, inl refl),
  inr (switch-no_number, inl refl),
  inl refl,
  inl refl,
  star_stop,
  star_stop_right,
  inr (up-no_number, inl refl),
  inr (up-no_number, star_stop),
  inr (tiny-no_number, inl refl),
  inr (tiny-no_number, inr (below_zero-no_number, inl refl)),
  inr (star_two-no_number, (pos 0, (pos 0, inl refl, star_stop_right, omega (arith, ints), omega (arith, ints), inl refl))),
  inr (star_two-no_number, (pos 0, (pos 0, inl refl, star_stop, omega (arith, ints), omega (arith, ints), inl refl))),
)
  where
    star_stop : IsLeftStop 0 star (pos 0)
    star_stop = inr (star-no_number, inl refl)

    star_stop_right : IsRightStop 0 star (pos 0)
    star_stop_right = inr (star-no_number, inl refl)

pub known-game_stops : KnownGameStops
unfolding HasLeftStop num whole count_tree le le_within size
known-game_stops = (
  inl (equal (choice minus_one one) zero refl refl),
  inl (equal (choice minus_one one) zero refl refl),
  inl (equal (choice zero two) one refl refl),
  inl (equal (choice zero two) one refl refl),
  inr (no_value two_switch examples-canonical.2 switch-no_number, inl (le-refl two, le-refl two)),
  inr (no_value two_switch examples-canonical.2 switch-no_number, inl (le-refl zero, le-refl zero)),
)

-- 0 is 0 on each grid
zero-number : (k : ℕ) → zero ≡ num k (pos 0)
zero-number k = sym (num-zero k)

-- where both scaffolds are 0 at 0, both walls are 0 from there on
star-left : (k t : ℕ) → IsLeftWall star k t (pos 0)
unfolding IsLeftWall
star-left k t = inr (star-no_number, inr (0, 0, omega arith, inl (zero-number (0 + k)), inl (zero-number (0 + k))))

star-right : (k t : ℕ) → IsRightWall star k t (pos 0)
unfolding IsLeftWall
star-right k t = inr (star-no_number, inr (0, 0, omega arith, inl (zero-number (0 + k)), inl (zero-number (0 + k))))

up-walls : HasMast up 0 (pos 0)
unfolding IsLeftWall
up-walls t = (
  inr (up-no_number, inr (0, 0, omega arith, inl (zero-number (0 + 0)), star-left (0 + 0) 0)),
  inr (up-no_number, inr (0, 0, omega arith, inl (zero-number (0 + 0)), star-left (0 + 0) 0)),
)

star_two-walls : HasMast star_two 0 (pos 0)
unfolding IsLeftWall
star_two-walls t = (inr (star_two-no_number, inr (0, 0, omega arith, lefts, rights)), inr (star_two-no_number, inr (0, 0, omega arith, lefts, rights)))
  where
    lefts : IsGreatestRightWall (more zero (more star none)) (0 + 0) 0 (pos 0)
    lefts = (pos 0, (pos 0, inl (zero-number (0 + 0)), star-right (0 + 0) 0, omega (arith, ints), omega (arith, ints), inl refl))

    rights : IsLeastLeftWall (more zero (more star none)) (0 + 0) 0 (pos 0)
    rights = (pos 0, (pos 0, inl (zero-number (0 + 0)), star-left (0 + 0) 0, omega (arith, ints), omega (arith, ints), inl refl))

-- {0|-2} has the left wall 0 at 0
below_zero-left : IsLeftWall (choice zero minus_two) 0 0 (pos 0)
unfolding IsLeftWall num whole count_tree neg
below_zero-left = inr (below_zero-no_number, inl (inl refl, (negsuc 1, inl refl, omega (arith, ints))))

tiny-walls : HasMast tiny 0 (pos 0)
unfolding IsLeftWall
tiny-walls t = (
  inr (tiny-no_number, inr (0, 0, omega arith, inl (zero-number (0 + 0)), below_zero-left)),
  inr (tiny-no_number, inr (0, 0, omega arith, inl (zero-number (0 + 0)), below_zero-left)),
)

switch-mast : (t : ℕ) → 1 ≤ t → IsLeftWall two_switch 0 t (pos 1) × IsRightWall two_switch 0 t (pos 1)
unfolding IsLeftWall num whole count_tree
switch-mast t l = let at : 1 ≤ t * 2 ^ 0 = grind (arith, l) in
    (inr (switch-no_number, inr (0, 1, at, inl refl, inl refl)), inr (switch-no_number, inr (0, 1, at, inl refl, inl refl)))

pub known-walls : KnownWalls
unfolding IsLeftWall num whole count_tree
known-walls = (
  inr (switch-no_number, inl (inl refl, (pos 0, inl refl, omega (arith, ints)))),
  inr (switch-no_number, inl (inl refl, (pos 2, inl refl, omega (arith, ints)))),
  inr (switch-no_number, inl (inl refl, (pos 1, inl refl, omega (arith, ints)))),
  inr (switch-no_number, inl (inl refl, (pos 3, inl refl, omega (arith, ints)))),
  switch-mast,
  λ t. (inl refl, inl refl),
  λ t. (star-left 0 t, star-right 0 t),
  up-walls,
  tiny-walls,
  star_two-walls,
)

uneven-no_number : IsNumberTree uneven_switch → ⊥
unfolding le le_within size
uneven-no_number = option-no_number uneven_switch two minus_one (inl refl) (inl refl) (from-test minus_one two refl)

pub known-switch : KnownSwitch
unfolding IsLeftWall num whole count_tree neg
known-switch = (
  inr (uneven-no_number, inl (inl refl, (negsuc 0, inl refl, omega (arith, ints)))),
  inr (uneven-no_number, inl (inl refl, (pos 2, inl refl, omega (arith, ints)))),
  λ t l. (let at : 3 ≤ t * 2 ^ 0 = grind (arith, l) in
      (inr (uneven-no_number, inr (0, 3, at, inl refl, inl refl)), inr (uneven-no_number, inr (0, 3, at, inl refl, inl refl)))),
)

two_steps-no_number : IsNumberTree two_steps → ⊥
two_steps-no_number = right-no_number two_steps two_switch (inl refl) switch-no_number

-- the left wall of {2|0} is 2 at 0 and 1 at 3/2
switch-at_zero : IsLeftWall two_switch 0 0 (pos 2)
unfolding IsLeftWall num whole count_tree
switch-at_zero = inr (switch-no_number, inl (inl refl, (pos 0, inl refl, omega (arith, ints))))

switch-later : IsLeftWall two_switch 1 3 (pos 2)
unfolding IsLeftWall num whole count_tree
switch-later = inr (switch-no_number, inr (0, 2, omega arith, inl refl, inl refl))

pub known-two_steps : KnownTwoSteps
unfolding IsLeftWall num whole count_tree
known-two_steps = let at_one : IsLeftWall two_switch 0 1 (pos 1) = (switch-mast 1 (omega arith)).0 in (
  inr (two_steps-no_number, inl (inl refl, (pos 2, switch-at_zero, omega (arith, ints)))),
  inr (two_steps-no_number, inl (switch-at_zero, (pos 4, inl refl, omega (arith, ints)))),
  inr (two_steps-no_number, inl (inl refl, (pos 2, at_one, omega (arith, ints)))),
  inr (two_steps-no_number, inl (at_one, (pos 3, inl refl, omega (arith, ints)))),
  λ t l. (let at : 3 ≤ t * 2 ^ 0 = grind (arith, l) in
      (inr (two_steps-no_number, inr (0, 3, at, inl refl, switch-later)), inr (two_steps-no_number, inr (0, 3, at, inl refl, switch-later)))),
)
