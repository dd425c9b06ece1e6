-- Walls as functions of a tree, and that a canonical tree has walls on each grid that is fine enough.
use Rattle.std.proofs.Common.{ℕ, zero, suc, ◌+◌, ◌<◌, ◌≤◌, ◌≡◌, ◌⊎◌, arith, refl, inl, inr, sym, ◌∙◌, ap, subst, ℤ, pos, ◌+ℤ◌, ◌-ℤ◌, ◌<ℤ◌, ◌≤ℤ◌, int_le, Bool, true, false, cond, Option, Some, None}
use Rattle.std.specs.Int.{int_max, int_min}
use Rattle.std.proofs.lemmas.Int.{ints}
use Rattle.std.proofs.lemmas.Bool.{both_ways}
use Rattle.short_games.specs.Tree.{Tree, Trees, node, none, more, left, right}
use Rattle.short_games.specs.Number.{num, IsNumberTree}
use Rattle.short_games.proofs.WallNumberLaws.{number_at, NumberAt, number-cases}
use Rattle.short_games.specs.WallGrids.{IsGreatest, IsLeast, Follow, WallsAre}
use Rattle.short_games.proofs.WallNumberLaws.NumberAt.{is_number, is_none}
use Rattle.short_games.proofs.GreatestLaws.{IsFilled, greatest-filled, least-filled, greatest-one, greatest-more, least-one, least-more}
use Rattle.short_games.specs.WallGrids.Follow.{apart, met}
use Rattle.short_games.specs.WallGrids.WallsAre.{of_number, of_game}
use Rattle.short_games.specs.inner.Lines.{Rises, Falls}
use Rattle.short_games.proofs.LineLaws.{greatest-same, least-same, Doubles, parity, Parity, below-or_at}
use Rattle.short_games.proofs.LineLaws.Parity.{even, odd}

-- the least number that passes, up to t, or t
unfoldable pub until : (ℕ → Bool) → ℕ → ℕ
until test zero = zero
until test (suc t) = cond (test (until test t)) (until test t) (suc t)

record IsUntil (test : ℕ → Bool) (t u : ℕ) : Type 0 where
  within : u ≤ t
  fails : (v : ℕ) → v < u → test v ≡ false
  passes : u < t → test u ≡ true

until_next : (test : ℕ → Bool) (t u : ℕ) → IsUntil test t u → (b : Bool) → test u ≡ b → IsUntil test (suc t) (cond b u (suc t))
until_next test t u h true e = record { within = omega (arith, h.within); fails = h.fails; passes = λ l. e }
until_next test t u h false e = record { within = omega arith; fails = λ v l. at v (below-or_at v t (omega (arith, l))); passes = λ l. absurd (omega (arith, l)) }
  where
    last : u ≡ t
    last = let no : u < t → ⊥ = λ l. both_ways (test u) e (h.passes l) in omega (arith, h.within, no)

    at : (v : ℕ) → (v < t) ⊎ (v ≡ t) → test v ≡ false
    at v (inl l) = h.fails v (omega (arith, l, last))
    at v (inr i) = subst (λ w. test w ≡ false) (last ∙ sym i) e

until-is : (test : ℕ → Bool) (t : ℕ) → IsUntil test t (until test t)
unfolding until
until-is test zero = record { within = omega arith; fails = λ v h. absurd (omega (arith, h)); passes = λ h. absurd (omega (arith, h)) }
until-is test (suc t) = until_next test t (until test t) (until-is test t) (test (until test t)) refl

-- the right line doesn't come to be greater without being equal first
unfoldable pub NoJump : (L R : ℕ → ℤ) → Type 0
NoJump L R = (u : ℕ) → ((v : ℕ) → v < u → R v <ℤ L v) → R u ≤ℤ L u

abbrev meets : (L R : ℕ → ℤ) → ℕ → Bool
meets L R u = int_le (L u) (R u)

follow-until : (L R : ℕ → ℤ) → NoJump L R → (t : ℕ) → Follow L R t (L (until (meets L R) t)) (R (until (meets L R) t))
unfolding NoJump
follow-until L R n t = by (meets L R (until (meets L R) t)) refl
  where
    h : IsUntil (meets L R) t (until (meets L R) t)
    h = until-is (meets L R) t

    before : (v : ℕ) → v < until (meets L R) t → R v <ℤ L v
    before v l = (let f : meets L R v ≡ false = h.fails v l in omega (arith, ints, f))

    all : meets L R (until (meets L R) t) ≡ false → until (meets L R) t ≡ t → (v : ℕ) → (v < t) ⊎ (v ≡ t) → R v <ℤ L v
    all e i v (inl l) = before v (omega (arith, l, i))
    all e i v (inr j) = subst (λ w. R w <ℤ L w) (i ∙ sym j) (omega (arith, ints, e))

    by : (b : Bool) → meets L R (until (meets L R) t) ≡ b → Follow L R t (L (until (meets L R) t)) (R (until (meets L R) t))
    by true e = met (until (meets L R) t) h.within (omega (arith, ints, e, n (until (meets L R) t) before)) before refl refl
    by false e = let no : until (meets L R) t < t → ⊥ = λ l. both_ways _ e (h.passes l) in
        let i : until (meets L R) t ≡ t = omega (arith, h.within, no) in
        apart (λ v l. all e i v (below-or_at v t l)) (ap L i) (ap R i)

pub record Walls : Type 0 where
  pub left_wall : ℕ → ℤ
  pub right_wall : ℕ → ℤ

abbrev unless_number : Option ℤ → Walls → Walls
unless_number (Some x) w = record { left_wall = λ t. x; right_wall = λ t. x }
unless_number None w = w

abbrev follow : (L R : ℕ → ℤ) → Walls
follow L R = record { left_wall = λ t. L (until (meets L R) t); right_wall = λ t. R (until (meets L R) t) }

module _ (k : ℕ) where
  unfoldable mutual
    pub walls : Tree → Walls
    walls (node ls rs) = unless_number (number_at k (node ls rs)) (follow (λ t. greatest_right ls t -ℤ pos t) (λ t. least_left rs t +ℤ pos t))

    pub greatest_right : Trees → ℕ → ℤ
    greatest_right none t = pos 0
    greatest_right (more G none) t = (walls G).right_wall t
    greatest_right (more G (more H Hs)) t = int_max ((walls G).right_wall t) (greatest_right (more H Hs) t)

    pub least_left : Trees → ℕ → ℤ
    least_left none t = pos 0
    least_left (more G none) t = (walls G).left_wall t
    least_left (more G (more H Hs)) t = int_min ((walls G).left_wall t) (least_left (more H Hs) t)

  abbrev pub left_wall : Tree → ℕ → ℤ
  left_wall G = (walls G).left_wall

  abbrev pub right_wall : Tree → ℕ → ℤ
  right_wall G = (walls G).right_wall

  abbrev pub left_scaffold : Tree → ℕ → ℤ
  left_scaffold G t = greatest_right (left G) t -ℤ pos t

  abbrev pub right_scaffold : Tree → ℕ → ℤ
  right_scaffold G t = least_left (right G) t +ℤ pos t

  greatest_right-is : (Gs : Trees) → IsFilled Gs → (t : ℕ) → IsGreatest (λ X. right_wall X t) Gs (greatest_right Gs t)
  unfolding walls
  greatest_right-is none f t = absurd f
  greatest_right-is (more G none) f t = greatest-one (λ X. right_wall X t) G
  greatest_right-is (more G (more H Hs)) f t = greatest-more (λ X. right_wall X t) G (more H Hs) _ (greatest_right-is (more H Hs) tt t)

  least_left-is : (Gs : Trees) → IsFilled Gs → (t : ℕ) → IsLeast (λ X. left_wall X t) Gs (least_left Gs t)
  unfolding walls
  least_left-is none f t = absurd f
  least_left-is (more G none) f t = least-one (λ X. left_wall X t) G
  least_left-is (more G (more H Hs)) f t = least-more (λ X. left_wall X t) G (more H Hs) _ (least_left-is (more H Hs) tt t)

  pub left_scaffold-is : (G : Tree) → IsFilled (left G) → (t : ℕ) → IsGreatest (λ X. right_wall X t) (left G) (left_scaffold G t +ℤ pos t)
  left_scaffold-is G f t = subst (IsGreatest (λ X. right_wall X t) (left G)) (omega (arith, ints)) (greatest_right-is (left G) f t)

  pub right_scaffold-is : (G : Tree) → IsFilled (right G) → (t : ℕ) → IsLeast (λ X. left_wall X t) (right G) (right_scaffold G t -ℤ pos t)
  right_scaffold-is G f t = subst (IsLeast (λ X. left_wall X t) (right G)) (omega (arith, ints)) (least_left-is (right G) f t)

  -- a scaffold by its definition is the one that is drawn
  pub left_same : (G : Tree) (L : ℕ → ℤ) → ((t : ℕ) → IsGreatest (λ X. right_wall X t) (left G) (L t +ℤ pos t)) → (t : ℕ) → L t ≡ left_scaffold G t
  left_same G L h t = omega (
    arith,
    ints,
    greatest-same (λ X. right_wall X t) (λ X. right_wall X t) (left G) _ _ (λ X x. refl) (h t)
        (left_scaffold-is G (greatest-filled _ (left G) _ (h 0)) t),
  )

  pub right_same : (G : Tree) (R : ℕ → ℤ) → ((t : ℕ) → IsLeast (λ X. left_wall X t) (right G) (R t -ℤ pos t)) → (t : ℕ) → R t ≡ right_scaffold G t
  right_same G R h t = omega (
    arith,
    ints,
    least-same (λ X. left_wall X t) (λ X. left_wall X t) (right G) _ _ (λ X x. refl) (h t)
        (right_scaffold-is G (least-filled _ (right G) _ (h 0)) t),
  )

  pub walls-number : (G : Tree) (x : ℤ) → number_at k G ≡ Some x → walls G ≡ record { left_wall = λ t. x; right_wall = λ t. x }
  unfolding walls
  walls-number (node ls rs) x i = ap (λ o. unless_number o (follow (left_scaffold (node ls rs)) (right_scaffold (node ls rs)))) i

  pub walls-game : (G : Tree) → number_at k G ≡ None → walls G ≡ follow (left_scaffold G) (right_scaffold G)
  unfolding walls
  walls-game (node ls rs) i = ap (λ o. unless_number o (follow (left_scaffold (node ls rs)) (right_scaffold (node ls rs)))) i

  -- what is asked of a tree that is no number's
  pub record IsDrawable (G : Tree) : Type 0 where
    pub no_number : IsNumberTree G → ⊥
    pub left_filled : IsFilled (left G)
    pub right_filled : IsFilled (right G)
    pub no_jump : NoJump (left_scaffold G) (right_scaffold G)

  pub walls-at : (G : Tree) → (((x : ℤ) → G ≡ num k x → ⊥) → IsDrawable G) → WallsAre k left_wall right_wall G
  walls-at G f = at (number-cases k G)
    where
      at : NumberAt k G → WallsAre k left_wall right_wall G
      at (is_number x g i) = of_number x g (λ t. ap (λ w. w.left_wall t) (walls-number G x i)) (λ t. ap (λ w. w.right_wall t) (walls-number G x i))
      at (is_none n i) = of_game (f n).no_number (left_scaffold G) (right_scaffold G) (left_scaffold-is G (f n).left_filled) (right_scaffold-is G (f n).right_filled)
          (λ t. subst (λ w. Follow (left_scaffold G) (right_scaffold G) t (w.left_wall t) (w.right_wall t)) (sym (walls-game G i)) (follow-until (left_scaffold G) (right_scaffold G) (f n).no_jump t))

-- on a grid of half steps no two lines cross between the points
pub no_jump-doubled : (L R L' R' : ℕ → ℤ) → Falls L → Rises R → Doubles L L' → Doubles R R' → R' 0 ≤ℤ L' 0 → NoJump L' R'
unfolding NoJump
no_jump-doubled L R L' R' f r d e z u h = at u (parity u) h
  where
    at : (u : ℕ) → Parity u → ((v : ℕ) → v < u → R' v <ℤ L' v) → R' u ≤ℤ L' u
    at _ (even zero) h = z
    at _ (even (suc t)) h = (omega (arith, ints, f.by_one t, r.by_one t, f.no_rise t, r.no_fall t, d.at_odd t, e.at_odd t, d.at_even t, e.at_even t, d.at_even (suc t), e.at_even (suc t), h (t + t) (omega arith), h (suc (t + t)) (omega arith)))
    at _ (odd t) h = omega (arith, ints, f.by_one t, r.by_one t, d.at_odd t, e.at_odd t, d.at_even t, e.at_even t, h (t + t) (omega arith))
