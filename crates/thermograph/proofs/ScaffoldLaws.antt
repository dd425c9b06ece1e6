-- Scaffolds: the greatest of the walls, where they are straight, where they bend, and where two of them meet.
use Rattle.std.proofs.Common.{ℕ, zero, suc, ◌+◌, ◌<◌, ◌≤◌, ◌≡◌, arith, refl, sym, ◌∙◌, ap, ap₂, subst, ℤ, pos, List, [], ◌∷◌, length, take, get_or, Bool, true, false, nat_eq, cond, Vec, inl, inr, below_more, ◌-◌, ◌^◌, ◌≤ℤ◌, ◌+ℤ◌, ◌-ℤ◌, ◌<ℤ◌, ◌/◌, neg_ℤ, ◌↔◌, Global}
use Rattle.std.specs.Int.{int_max}
use Rattle.std.proofs.lemmas.Int.{ints, clamps, by_lt_z}
use Rattle.std.proofs.lemmas.List.{get_or-map, length-map}
use Rattle.std.proofs.lemmas.Bool.{eqb-true, false_from_ne_true, true≢false, cases_lt}
use Rattle.thermograph.specs.declared.breaks.Break.{Break}
use Rattle.thermograph.specs.declared.side.Side.{Side}
use Rattle.thermograph.specs.declared.side.Side.TheVariants as side
use Rattle.thermograph.specs.inner.Breaks.{IsInRange}
use Rattle.thermograph.specs.inner.Scaffolds.{wall_of, picked, EachWall, IsClear, turned, greatest, rise_at, AreLevel, IsAlong, IsStraight, AreSteady, rise, line, IsKnown, Stays, AreApart, IsCrossing, turned_wall, IsSteadyLine}
use Rattle.thermograph.specs.Breaks.{wall_at, toward, from, Reaches, IsPath}
use Rattle.short_games.specs.WallGrids.{Bends}
use Rattle.thermograph.proofs.WallLaws.{toward-up, toward-down, toward-same, toward-none, at-before, at-after, from-piece, toward-climbs, toward-dives}
use Rattle.short_games.specs.inner.Lines.{Rises}
use Rattle.short_games.proofs.LineLaws.{below-or_at}
use Rattle.thermograph.specs.declared.scaffold.Scaffold.{Scaffold}

-- The greatest of several walls, wall by wall.
-- the wall of an id, as it is read
pub wall-read : (ws : List (Vec Break Global)) (i : ℕ) (w : Vec Break Global) (bs : List Break) → i < length ws → bs ≡ (get_or ws i w).items → bs ≡ wall_of ws i
wall-read ws i w bs h e = e ∙ sym (get_or-map (λ v. v.items) ws i w [] h)

pub pick-read : (ws : List (Vec Break Global)) (is : List ℕ) (j : ℕ) → j < length is → get_or (picked ws is) j [] ≡ wall_of ws (get_or is j 0)
pick-read ws is j h = get_or-map (wall_of ws) is j 0 [] h

pub each-read : (Is : List Break → Type 0) (ws : List (Vec Break Global)) (is : List ℕ) (j : ℕ) → j < length is → EachWall Is (picked ws is) → Is (wall_of ws (get_or is j 0))
each-read Is ws is j h a = subst Is (pick-read ws is j h) (a j (omega (arith, h, length-map is (wall_of ws))))

pub each-picked : (Is : List Break → Type 0) (ws : List (Vec Break Global)) (is : List ℕ)
    → ((j : ℕ) → j < length is → Is (wall_of ws (get_or is j 0))) → EachWall Is (picked ws is)
each-picked Is ws is a j h = let k : j < length is = omega (arith, h, length-map is (wall_of ws)) in subst Is (sym (pick-read ws is j k)) (a j k)

pub clear-step : (ws : List (Vec Break Global)) (is : List ℕ) (start next after i : ℕ) (bs : List Break) → i < length is → ((j : ℕ) → j < i → IsClear start next (get_or (picked ws is) j [])) → after ≤ next → IsClear start after bs → bs ≡ wall_of ws (get_or is i 0)
    → (j : ℕ) → j < i + 1 → IsClear start after (get_or (picked ws is) j [])
clear-step ws is start next after i bs h a o b e = below_more _ i
    (λ j l m k. (elim (a j l m k) [ inl p ↦ inl p | inr p ↦ inr (omega (arith, o, p)) ]))
    (subst (IsClear start after) (e ∙ sym (pick-read ws is i h)) b)

pub turned-range : (s : Side) (x : ℤ) → IsInRange x → IsInRange (turned s x)
turned-range side.Left x h = h
turned-range side.Right x h = (omega (arith, ints, h.1), omega (arith, ints, h.0))

module _ (f : List Break → ℤ) where
  next : (w : List Break) (ws : List (List Break)) (i : ℕ) (d : List Break) → i < length ws → greatest f (w ∷ take (suc i) ws) ≡ int_max (greatest f (w ∷ take i ws)) (f (get_or ws i d))
  unfolding greatest
  next w [] i d h = absurd (omega (arith, h))
  next w (v ∷ ws) zero d h = refl
  next w (v ∷ ws) (suc i) d h = ap (int_max (f w)) (next v ws i d (omega (arith, h))) ∙ omega (arith, ints, clamps)

  step : (ws : List (List Break)) (i : ℕ) (d : List Break) (g h r : ℤ) (b : Bool) → i < length ws → g ≡ greatest f (take i ws) → h ≡ f (get_or ws i d) → b ≡ nat_eq i 0 → r ≡ cond b h (int_max g h) → r ≡ greatest f (take (suc i) ws)
  unfolding greatest
  step [] i d g h r b l p q e k = absurd (omega (arith, l))
  step (w ∷ ws) zero d g h r b l p q e k = k ∙ ap (λ c. cond c h (int_max g h)) e ∙ q
  step (w ∷ ws) (suc i) d g h r b l p q e k = k ∙ ap (λ c. cond c h (int_max g h)) (e ∙ false_from_ne_true _ (λ z. omega (arith, eqb-true _ _ z))) ∙ ap₂ int_max p q ∙ sym (next w ws i d (omega (arith, l)))

  range : (g h r : ℤ) (b : Bool) → IsInRange g → IsInRange h → r ≡ cond b h (int_max g h) → IsInRange r
  range g h r true p q k = (omega (arith, ints, q.0, k), omega (arith, ints, q.1, k))
  range g h r false p q k = (omega (arith, ints, clamps, p.0, q.0, k), omega (arith, ints, clamps, p.1, q.1, k))

  -- what the loop over the walls keeps
  pub record IsRun (ws : List (List Break)) (i : ℕ) (g : ℤ) : Type 0 where
    pub is : g ≡ greatest f (take i ws)
    pub in_range : IsInRange g

  pub run-start : (ws : List (List Break)) → IsRun ws 0 (pos 0)
  unfolding greatest
  run-start ws = record { is = refl; in_range = (omega (arith, ints), omega (arith, ints)) }

  pub run-step : (ws : List (List Break)) (i j : ℕ) (d : List Break) (g h r : ℤ) (b : Bool) → j ≡ suc i → i < length ws → IsRun ws i g → h ≡ f (get_or ws i d) → IsInRange h → b ≡ nat_eq i 0 → r ≡ cond b h (int_max g h) → IsRun ws j r
  run-step ws i j d g h r b s l p q m e k = record { is = step ws i d g h r b l p.is q e k ∙ ap (λ n. greatest f (take n ws)) (sym s); in_range = range g h r b p.in_range m k }

-- How far the walls' greatest and the scaffolds go.
-- what holds of 0 and of each wall's line, and of the greater of two lines of which it holds, holds of the greatest
greatest-of : (P : (ℕ → ℤ) → Type 0) (f : List Break → ℕ → ℤ) (ws : List (List Break)) → P (λ t. pos 0)
    → ((g h : ℕ → ℤ) → P g → P h → P (λ t. int_max (g t) (h t))) → EachWall (λ w. P (f w)) ws → P (λ t. greatest (λ w. f w t) ws)
unfolding greatest
greatest-of P f [] none two a = none
greatest-of P f (w ∷ []) none two a = a 0 (omega arith)
greatest-of P f (w ∷ v ∷ ws) none two a = two (f w) (λ t. greatest (λ w. f w t) (v ∷ ws)) (a 0 (omega arith))
    (greatest-of P f (v ∷ ws) none two (λ j l. a (suc j) (omega (arith, l))))

pub rise-range : (s : Side) (ws : List (List Break)) (t : ℕ) → AreLevel ws → IsInRange (rise_at s ws t)
rise-range s ws t l = greatest-of (λ g. IsInRange (g t)) (λ w t. turned_wall s t w) ws (omega (arith, ints), omega (arith, ints))
    (λ g h a b. (omega (arith, ints, clamps, a.0, b.0), omega (arith, ints, clamps, a.1, b.1))) (λ j h. turned-range s _ (l j h t))

-- walls that rise by 0 or 1 a step have a greatest that does
pub rise-rises : (s : Side) (ws : List (List Break)) → AreSteady s ws → Rises (rise_at s ws)
rise-rises s ws a = greatest-of Rises (λ w t. turned_wall s t w) ws
    (record { no_fall = λ t. omega (arith, ints); by_one = λ t. omega (arith, ints) })
    (λ g h p q. record {
      no_fall = λ t. omega (arith, ints, clamps, p.no_fall t, q.no_fall t);
      by_one = λ t. omega (arith, ints, clamps, p.by_one t, q.by_one t);
    }) (λ j l. (a j l).rises)

-- A line that rises by 0 or 1 a step is straight where it goes on as it began.
rises_to : (f : ℕ → ℤ) → ((t : ℕ) → f t ≤ℤ f (suc t)) → (u v : ℕ) → u ≤ v → f u ≤ℤ f v
rises_to f s u zero h = let i : u ≡ 0 = omega (arith, h) in omega (arith, ints, ap f i)
rises_to f s u (suc v) h = elim (below-or_at u (suc v) h) [
  | inl l ↦ omega (arith, ints, rises_to f s u v (omega (arith, l)), s v)
  | inr i ↦ omega (arith, ints, ap f i)
]

module _ (f : ℕ → ℤ) (rises : Rises f) where
  pub rises-far : (u v : ℕ) → u ≤ v → f u ≤ℤ f v
  rises-far = rises_to f rises.no_fall

  pub rises-slow : (u v : ℕ) → u ≤ v → (f v -ℤ pos v) ≤ℤ (f u -ℤ pos u)
  rises-slow u v h = omega (arith, ints, rises_to (λ t. pos t -ℤ f t) (λ t. omega (arith, ints, rises.by_one t)) u v h)

  -- up to v the line goes as it goes to v
  pub along-between : (rising : Bool) (u v t : ℕ) → IsAlong f rising u v → u ≤ t → t ≤ v → IsAlong f rising u t
  along-between false u v t a h k = omega (arith, ints, a, rises-far u t h, rises-far t v k)
  along-between true u v t a h k = omega (arith, ints, h, k, a, rises-slow u t h, rises-slow t v k)

-- a line doesn't stop both being flat and rising at one place before the end
pub goes_on : (f : ℕ → ℤ) → Rises f → (start end flat steep : ℕ) → start < end → flat ≡ start → steep ≡ start → (flat < end → IsAlong f false start (flat + 1) → ⊥) → (steep < end → IsAlong f true start (steep + 1) → ⊥) → ⊥
goes_on f r start end flat steep h p q a b =
    let s : suc start ≡ start + 1 = omega arith in
    let up : f (start + 1) ≤ℤ (f start +ℤ pos 1) = subst (λ m. f m ≤ℤ (f start +ℤ pos 1)) s (r.by_one start) in
    let down : f start ≤ℤ f (start + 1) = subst (λ m. f start ≤ℤ f m) s (r.no_fall start) in
    let stops = subst (λ n. IsAlong f false start (n + 1) → ⊥) p (a (omega (arith, h, p))) in
    b (omega (arith, h, q)) (subst (λ n. IsAlong f true start (n + 1)) (sym q) (by_lt_z (f start) (f (start + 1))
    (λ l. omega (arith, ints, l, up)) (λ l. absurd (stops (omega (arith, ints, l, down))))))

-- a line bends exactly where it bends with t taken off, and turned over
turned-even : (s : Side) (f : ℕ → ℤ) (t : ℕ) → 0 < t
    → (f (t - 1) +ℤ f (t + 1) ≡ f t +ℤ f t)
    ↔ (turned s (f (t - 1) -ℤ pos (t - 1)) +ℤ turned s (f (t + 1) -ℤ pos (t + 1)) ≡ turned s (f t -ℤ pos t) +ℤ turned s (f t -ℤ pos t))
turned-even side.Left f t p = (λ e. omega (arith, ints, p, e), λ e. omega (arith, ints, p, e))
turned-even side.Right f t p = (λ e. omega (arith, ints, p, e), λ e. omega (arith, ints, p, e))

-- a line goes on as it came exactly where it doesn't bend
along-even : (f : ℕ → ℤ) (rising : Bool) (u t : ℕ) → u < t → IsAlong f rising u (t - 1) → IsAlong f rising u t
    → IsAlong f rising u (t + 1) ↔ (f (t - 1) +ℤ f (t + 1) ≡ f t +ℤ f t)
along-even f true u t h a b = (λ c. omega (arith, ints, h, a, b, c), λ e. omega (arith, ints, h, a, b, e))
along-even f false u t h a b = (λ c. omega (arith, ints, h, a, b, c), λ e. omega (arith, ints, h, a, b, e))

-- the last place to which the line goes as it began is a bend, and there is none before
module _ (s : Side) (f : ℕ → ℤ) (rising : Bool) (r : Rises f) (u v : ℕ) where
  last-bends : u < v → IsAlong f rising u v → (IsAlong f rising u (v + 1) → ⊥) → Bends (λ w. turned s (f w -ℤ pos w)) v
  last-bends h a n e = n ((along-even f rising u v h (along-between f r rising u v (v - 1) a (omega (arith, h)) (omega arith)) a).1
      ((turned-even s f v (omega (arith, h))).1 e))

  even-between : IsAlong f rising u v → (t : ℕ) → u < t → t < v → Bends (λ w. turned s (f w -ℤ pos w)) t → ⊥
  even-between a t h k b =
      let on : (n : ℕ) → u ≤ n → n ≤ v → IsAlong f rising u n = λ n. along-between f r rising u v n a in
      let before = on (t - 1) (omega (arith, h)) (omega (arith, k)) in
      let here = on t (omega (arith, h)) (omega (arith, k)) in
      b ((turned-even s f t (omega (arith, h))).0 ((along-even f rising u t h before here).0
      (on (t + 1) (omega (arith, h)) (omega (arith, k)))))

-- Between neighbouring break points a wall is straight, and the greatest of walls that rise stays and then rises.
-- from u to v the line stays, rises all the way or falls all the way
data IsSlope (f : ℕ → ℤ) (u v : ℕ) : Type 0 where
  stays : ((t : ℕ) → u ≤ t → t ≤ v → f t ≡ f u) → IsSlope f u v
  climbs : ((t : ℕ) → u ≤ t → t ≤ v → f t ≡ f u +ℤ pos (t - u)) → IsSlope f u v
  falls : ((t : ℕ) → u ≤ t → t ≤ v → f t ≡ f u -ℤ pos (t - u)) → IsSlope f u v

slope-same : (f g : ℕ → ℤ) (u v : ℕ) → u ≤ v → ((t : ℕ) → u ≤ t → t ≤ v → g t ≡ f t) → IsSlope f u v → IsSlope g u v
slope-same f g u v o s (stays a) = stays (λ t h k. s t h k ∙ a t h k ∙ sym (s u (omega arith) o))
slope-same f g u v o s (climbs a) = climbs (λ t h k. omega (arith, ints, s t h k, a t h k, s u (omega arith) o))
slope-same f g u v o s (falls a) = falls (λ t h k. omega (arith, ints, s t h k, a t h k, s u (omega arith) o))

toward-slope : (x y : ℤ) (p u v : ℕ) → p ≤ u → IsSlope (λ t. toward x y (t - p)) u v
toward-slope x y p u v o = by_lt_z x y
    (λ l. climbs (λ t h k. omega (arith, ints, o, h, toward-up x y (t - p) l, toward-up x y (u - p) l)))
    (λ l. by_lt_z y x
    (λ m. falls (λ t h k. omega (arith, ints, o, h, toward-down x y (t - p) m, toward-down x y (u - p) m)))
    (λ m. stays (λ t h k. toward-same x y (t - p) (omega (arith, ints, l, m)) ∙ sym (toward-same x y (u - p) (omega (arith, ints, l, m))))))

from-slope : (b : Break) (bs : List Break) (u v : ℕ) → Reaches b bs → b.at ≤ u → u ≤ v → IsClear u v (b ∷ bs) → IsSlope (from b bs) u v
unfolding from
from-slope b [] u v r p o k = stays (λ t _ _. refl)
from-slope b (c ∷ bs) u v r p o k = elim (k 1 (omega arith)) [
  | inl l ↦ slope-same (from c bs) (from b (c ∷ bs)) u v o (λ t h _. at-after t c.at _ _ (omega (arith, h, l)))
      (from-slope c bs u v r.2 l o (λ j h. k (suc j) (omega (arith, h))))
  | inr l ↦ slope-same (λ t. toward b.value c.value (t - b.at)) (from b (c ∷ bs)) u v o
      (λ t _ h. from-piece b c bs t r (omega (arith, h, l))) (toward-slope b.value c.value b.at u v p)
]

-- before its first break point a wall stays too
from-before : (b : Break) (bs : List Break) (t : ℕ) → Reaches b bs → t ≤ b.at → from b bs t ≡ b.value
unfolding from
from-before b [] t r h = refl
from-before b (c ∷ bs) t r h = let z : t - b.at ≡ 0 = omega (arith, h) in at-before t c.at _ _ (omega (arith, h, r.0)) ∙ ap (toward b.value c.value) z ∙ toward-none b.value c.value

wall-slope : (w : List Break) (u v : ℕ) → IsPath w → u ≤ v → IsClear u v w → IsSlope (wall_at w) u v
unfolding wall_at
wall-slope [] u v r o k = stays (λ t _ _. refl)
wall-slope (b ∷ bs) u v r o k = elim (k 0 (omega arith)) [
  | inl l ↦ from-slope b bs u v r l o k
  | inr l ↦ stays (λ t h m. from-before b bs t r (omega (arith, m, l)) ∙ sym (from-before b bs u r (omega (arith, o, l))))
]

-- from u to v the line stays, and then rises to the end
abbrev pub IsHinge : (ℕ → ℤ) → ℕ → ℕ → Type 0
IsHinge f u v = (t : ℕ) → u ≤ t → t ≤ v → f t ≡ int_max (f u) (f v -ℤ pos (v - t))

max-hinges : (a b c d : ℤ) (n : ℕ) → int_max (int_max a (b -ℤ pos n)) (int_max c (d -ℤ pos n)) ≡ int_max (int_max a c) (int_max b d -ℤ pos n)
max-hinges a b c d n = omega (arith, ints, clamps)

slope-turned : (s : Side) (f : ℕ → ℤ) (u v : ℕ) → IsSlope f u v → IsSlope (λ t. turned s (f t)) u v
slope-turned side.Left f u v a = a
slope-turned side.Right f u v (stays a) = stays (λ t h k. ap neg_ℤ (a t h k))
slope-turned side.Right f u v (climbs a) = falls (λ t h k. omega (arith, ints, a t h k))
slope-turned side.Right f u v (falls a) = climbs (λ t h k. omega (arith, ints, a t h k))

-- a line of one slope is straight to each place before the end
slope-straight : (f : ℕ → ℤ) (u v w : ℕ) → u ≤ w → w ≤ v → IsSlope f u v → IsStraight f u w
slope-straight f u v w o p (stays a) t h k = a t h (omega (arith, k, p)) ∙ sym (toward-same (f u) (f w) (t - u) (a w o p))
slope-straight f u v w o p (climbs a) t h k =
    a t h (omega (arith, k, p)) ∙ sym (toward-climbs (f u) (f w) (w - u) (t - u) (a w o p) (omega (arith, k)))
slope-straight f u v w o p (falls a) t h k =
    a t h (omega (arith, k, p)) ∙ sym (toward-dives (f u) (f w) (w - u) (t - u) (a w o p) (omega (arith, k)))

pub straight-short : (f : ℕ → ℤ) (u v w : ℕ) → u ≤ w → w ≤ v → IsStraight f u v → IsStraight f u w
straight-short f u v w o p s =
    slope-straight f u v w o p
    (slope-same (λ t. toward (f u) (f v) (t - u)) f u v (omega (arith, o, p)) s (toward-slope (f u) (f v) u u v (omega arith)))

-- and so is a scaffold where its rise goes on as it began
along-straight : (s : Side) (f : ℕ → ℤ) (rising : Bool) → Rises f → (u v : ℕ) → u ≤ v → IsAlong f rising u v
    → IsStraight (λ t. turned s (f t -ℤ pos t)) u v
along-straight s f rising r u v o a =
    slope-straight (λ t. turned s (f t -ℤ pos t)) u v v o (omega arith)
    (slope-turned s (λ t. f t -ℤ pos t) u v (slope rising (λ t. along-between f r rising u v t a)))
  where
    slope : (rising : Bool) → ((t : ℕ) → u ≤ t → t ≤ v → IsAlong f rising u t) → IsSlope (λ t. f t -ℤ pos t) u v
    slope true on = stays (λ t h k. omega (arith, ints, h, on t h k))
    slope false on = falls (λ t h k. omega (arith, ints, h, on t h k))

-- where a line goes up to v as it began, and no further unless v is the end, its scaffold is straight to v, bends there, and not before
pub goes-straight : (s : Side) (f : ℕ → ℤ) (rising : Bool) → Rises f → (u v end : ℕ) → u < v → IsAlong f rising u v
    → (v < end → IsAlong f rising u (v + 1) → ⊥) → IsStraight (λ t. turned s (f t -ℤ pos t)) u v
    × (v < end → Bends (λ t. turned s (f t -ℤ pos t)) v) × ((t : ℕ) → u < t → t < v → Bends (λ t. turned s (f t -ℤ pos t)) t → ⊥)
goes-straight s f rising r u v end h a last = (
  along-straight s f rising r u v (omega (arith, h)) a,
  λ l. last-bends s f rising r u v h a (last l),
  even-between s f rising r u v a,
)

slope-hinge : (f : ℕ → ℤ) (u v : ℕ) → u < v → Rises f → IsSlope f u v → IsHinge f u v
slope-hinge f u v o r (stays a) t h k = omega (arith, ints, clamps, a t h k, a v (omega (arith, o)) (omega arith))
slope-hinge f u v o r (climbs a) t h k =
    let e : f t ≡ f v -ℤ pos (v - t) = omega (arith, ints, o, h, k, a t h k, a v (omega (arith, o)) (omega arith)) in
    omega (arith, ints, clamps, e, a t h k)
slope-hinge f u v o r (falls a) t h k = absurd (omega (arith, ints, o, a v (omega (arith, o)) (omega arith), rises-far f r u v (omega (arith, o))))

module _ (s : Side) (u v : ℕ) (o : u < v) where
  wall-hinge : (w : List Break) → IsSteadyLine s w → IsClear u v w → IsHinge (λ t. turned_wall s t w) u v
  wall-hinge w a c = slope-hinge (λ t. turned_wall s t w) u v o a.rises (slope-turned s (wall_at w) u v (wall-slope w u v a.path (omega (arith, o)) c))

  pub rise-hinge : (ws : List (List Break)) → AreSteady s ws → EachWall (IsClear u v) ws → IsHinge (rise_at s ws) u v
  rise-hinge ws a c = greatest-of (λ g. IsHinge g u v) (λ w t. turned_wall s t w) ws (λ t h k. omega (arith, ints, clamps))
      (λ g h p q t i k. ap₂ int_max (p t i k) (q t i k) ∙ max-hinges _ _ _ _ (v - t)) (λ j l. wall-hinge _ (a j l) (c j l))

-- where a line that rises stops going on, between two such places
module _ (f : ℕ → ℤ) (rises : Rises f) (start u v : ℕ) (order : start ≤ u) (apart : u < v) (hinge : IsHinge f u v) where
  pub steep-last : (b : Bool) → b ≡ true → IsAlong f b start u → (IsAlong f b start v → ⊥) → IsAlong f b start (u + 1) → ⊥
  steep-last true e a n b = n (omega (arith, ints, clamps, order, apart, a, b, hinge (u + 1) (omega arith) (omega (arith, apart)), rises-slow f rises start v (omega (arith, order, apart))))
  steep-last false e _ _ _ = absurd (true≢false (sym e))

  pub flat-last : (b : Bool) (r : ℕ) → b ≡ false → IsAlong f b start u → (IsAlong f b start v → ⊥) → pos r ≡ pos v -ℤ (f v -ℤ f start)
      → (u ≤ r) × (r < v) × IsAlong f b start r × (IsAlong f b start (r + 1) → ⊥)
  flat-last true r e _ _ _ = absurd (true≢false e)
  flat-last false r _ a n e =
      let above : f start <ℤ f v = by_lt_z (f start) (f v) (λ l. l)
      (λ l. absurd (n (omega (arith, ints, l, rises-far f rises start v (omega (arith, order, apart)))))) in
      let low : u ≤ r = omega (arith, ints, a, e, apart, rises-slow f rises u v (omega (arith, apart))) in
      let high : r < v = omega (arith, ints, e, above) in (
        low,
        high,
        omega (arith, ints, clamps, a, e, low, high, hinge r low (omega (arith, high))),
        λ b. omega (arith, ints, clamps, a, b, e, low, high, hinge (r + 1) (omega (arith, low)) (omega (arith, high))),
      )

-- Where two straight lines meet, of which one doesn't rise and the other doesn't fall.
module _ (f : ℕ → ℤ) (u v : ℕ) (straight : IsStraight f u v) where
  falling : f v <ℤ f u → (t : ℕ) → u ≤ t → t ≤ v → f t ≡ f u -ℤ pos (t - u)
  falling l t h k = omega (arith, ints, straight t h k, toward-down (f u) (f v) (t - u) l)

  rising : f u <ℤ f v → (t : ℕ) → u ≤ t → t ≤ v → pos (t - u) ≡ f t -ℤ f u
  rising l t h k = omega (arith, ints, straight t h k, toward-up (f u) (f v) (t - u) l)

  staying : f v ≡ f u → (t : ℕ) → u ≤ t → t ≤ v → f t ≡ f u
  staying l t h k = omega (arith, ints, straight t h k, toward-same (f u) (f v) (t - u) l)

module _ (L R : ℕ → ℤ) (u v : ℕ) (order : u < v) (left : IsStraight L u v) (right : IsStraight R u v) (apart : R u <ℤ L u) (met : L v ≤ℤ R v) where
  -- lines that come `near n` nearer in n steps first meet after the d steps that this takes
  crosses : (near : ℕ → ℕ) → ((t : ℕ) → u ≤ t → t ≤ v → (L t -ℤ R t) ≡ (L u -ℤ R u) -ℤ pos (near (t - u)))
      → (gap d m : ℕ) → pos gap ≡ L u -ℤ R u → gap ≤ near d → ((n : ℕ) → n < d → near n < gap) → m ≡ u + d → (m ≤ v) × IsCrossing L R u m
  crosses near nearer gap d m g far short i =
      let within : m ≤ v = elim (cases_lt v m) as (λ _. m ≤ v) [
        | inl l ↦ absurd (omega (arith, ints, met, g, nearer v (omega (arith, order)) (omega arith), short (v - u) (omega (arith, order, l, i))))
        | inr l ↦ l
      ] in
      let steps : m - u ≡ d = omega (arith, i) in (
        within,
        record {
          met = omega (arith, ints, g, far, ap near steps, nearer m (omega (arith, i)) within);
          apart = λ t h k. omega (arith, ints, g, nearer t h (omega (arith, k, within)), short (t - u) (omega (arith, h, k, i)));
        },
      )

  -- where both lines move they come nearer by 2 a step
  pub both-cross : (gap d m : ℕ) → L v <ℤ L u → R u <ℤ R v → pos gap ≡ L u -ℤ R u → d ≡ (gap + 1) / 2 → m ≡ u + d → (m ≤ v) × IsCrossing L R u m
  both-cross gap d m p q g e i = crosses (λ n. n + n) (λ t h k. omega (arith, ints, falling L u v left p t h k, rising R u v right q t h k))
      gap d m g (omega (arith, e)) (λ n l. omega (arith, e, l)) i

  -- where one line moves they come nearer by 1 a step
  pub one-crosses : (gap m : ℕ) → L v ≤ℤ L u → R u ≤ℤ R v → (L v <ℤ L u → R u <ℤ R v → ⊥) → pos gap ≡ L u -ℤ R u → m ≡ u + gap → (m ≤ v) × IsCrossing L R u m
  one-crosses gap m p q n g i = crosses (λ n. n) (λ t h k. by_lt_z (L v) (L u)
      (λ a. by_lt_z (R u) (R v) (λ b. absurd (n a b))
      (λ b. omega (arith, ints, falling L u v left a t h k, staying R u v right (omega (arith, ints, b, q)) t h k)))
      (λ a. by_lt_z (R u) (R v) (λ b. omega (arith, ints, staying L u v left (omega (arith, ints, a, p)) t h k, rising R u v right b t h k))
      (λ b. absurd (omega (arith, ints, a, b, apart, met))))) gap gap m g (omega arith) (λ n l. l) i

left-line : (s : Scaffold) → s.side ≡ side.Left → (t : ℕ) → line s t ≡ rise s t -ℤ pos t
left-line s e t = ap (λ d. turned d (rise s t -ℤ pos t)) e

right-line : (s : Scaffold) → s.side ≡ side.Right → (t : ℕ) → line s t ≡ neg_ℤ (rise s t -ℤ pos t)
right-line s e t = ap (λ d. turned d (rise s t -ℤ pos t)) e

-- a left scaffold doesn't rise, and a right one doesn't fall
pub left-falls_to : (s : Scaffold) → IsKnown s → s.side ≡ side.Left → (u v : ℕ) → u ≤ v → line s v ≤ℤ line s u
left-falls_to s k e u v h = omega (arith, ints, left-line s e u, left-line s e v, rises-slow (rise s) k.rises u v h)

pub right-rises_to : (s : Scaffold) → IsKnown s → s.side ≡ side.Right → (u v : ℕ) → u ≤ v → line s u ≤ℤ line s v
right-rises_to s k e u v h = omega (arith, ints, right-line s e u, right-line s e v, rises-slow (rise s) k.rises u v h)

known-range : (s : Scaffold) → IsKnown s → (t : ℕ) → IsInRange (rise s t)
known-range s k t = rise-range s.side (picked s.walls.now s.ids.now) t k.level

-- they have met at the greatest number within the bounds
pub last-met : (l r : Scaffold) → IsKnown l → IsKnown r → l.side ≡ side.Left → r.side ≡ side.Right → line l (2 ^ 120 - 1) ≤ℤ line r (2 ^ 120 - 1)
last-met l r k j d e = let last = 2 ^ 120 - 1 in
    omega (arith, ints, left-line l d last, right-line r e last, (known-range l k last).1, (known-range r j last).1)

-- where they meet, they are within the bounds
pub mean-range : (l r : Scaffold) → IsKnown l → IsKnown r → l.side ≡ side.Left → r.side ≡ side.Right → (m : ℕ) → line l m ≡ line r m → IsInRange (line l m)
mean-range l r k j d e m i = (
  omega (arith, ints, i, right-line r e 0, (known-range r j 0).1, right-rises_to r j e 0 m (omega arith)),
  omega (arith, ints, left-line l d 0, (known-range l k 0).1, left-falls_to l k d 0 m (omega arith)),
)

stays-on : (L R : ℕ → ℤ) → Stays L R → (v m : ℕ) → v ≤ m → L v ≤ℤ R v → L m ≤ℤ R m
stays-on L R s v zero h e = let i : v ≡ 0 = omega (arith, h) in subst (λ n. L n ≤ℤ R n) i e
stays-on L R s v (suc m) h e = elim (below-or_at v (suc m) h) [
  | inl l ↦ s m (stays-on L R s v m (omega (arith, l)) e)
  | inr i ↦ subst (λ n. L n ≤ℤ R n) i e
]

-- where they are still apart, they were so before
pub apart-before : (L R : ℕ → ℤ) → Stays L R → (m : ℕ) → (L m ≤ℤ R m → ⊥) → AreApart L R m
apart-before L R s m n v h = by_lt_z (R v) (L v) (λ k. k) (λ k. absurd (n (stays-on L R s v m (omega (arith, h)) k)))

pub apart-crossing : (L R : ℕ → ℤ) (u m : ℕ) → AreApart L R u → IsCrossing L R u m → AreApart L R m
apart-crossing L R u m a c v h = elim (cases_lt v u) [
  | inl l ↦ a v l
  | inr l ↦ c.apart v l h
]
