-- Break points past the bounds of a Dyadic: where a game has walls on the grid of 2 ^ -60 there is none.
use Rattle.std.proofs.Common.{ℕ, zero, suc, ap₂, ◌+◌, ◌-◌, ◌*◌, ◌^◌, ◌<◌, ◌≤◌, ◌≡◌, ◌⊎◌, inl, inr, arith, refl, sym, ◌∙◌, ap, subst, List, length, ℤ, pos, ◌+ℤ◌, ◌-ℤ◌, ◌*ℤ◌, ◌<ℤ◌, ◌≤ℤ◌, neg_ℤ, unsigned_abs}
use Rattle.std.proofs.lemmas.Bool.{cases_lt}
use Rattle.std.proofs.lemmas.Int.{ints}
use Rattle.std.proofs.Math.IntN.{pos-*ℤ-pos}
use Rattle.short_games.specs.Tree.{Tree, tree_at}
use Rattle.short_games.specs.Number.{IsNumberTree}
use Rattle.short_games.specs.Parts.{IsFollower, IsOption}
use Rattle.short_games.specs.Parts.IsFollower.{itself, further}
use Rattle.game_store.specs.Forms.{HaveForms}
use Rattle.short_games.specs.WallGrids.{Follow, HasWalls, HasTemperatureBetween, IsMeeting, WallsAre, finer, Bends}
use Rattle.short_games.specs.WallGrids.Follow.{apart, met}
use Rattle.short_games.specs.WallGrids.WallsAre.{of_number, of_game}
use Rattle.thermograph.specs.PastBounds.{IsBreak, IsFractionInBounds, HasBreakPast, IsDrawnPastBounds}
use Rattle.short_games.proofs.PartLaws.{follower-trans}
use Rattle.short_games.proofs.WallBetweenLaws.{none-between}
use Rattle.short_games.proofs.LineLaws.{below-or_at, follow-same, finer-doubles, Parity, parity}
use Rattle.short_games.proofs.LineLaws.Parity.{even, odd}
use Rattle.short_games.proofs.WallMeetingLaws.{meeting-exists}
use Rattle.short_games.proofs.WallSolutionLaws.{all-left, all-right, has_walls-finer, has_walls-unique}
use Rattle.short_games.proofs.WallSteps.{IsBounded, walls-within}
use Rattle.thermograph.proofs.WallLaws.{twice-place, twice-value}
use Rattle.thermograph.proofs.FlagLaws.{IsStored, number-over, store-bounded}

-- the walls of a game with numbers of at most `most` meet at most there
module _ (k : ℕ) (In : Tree → Type 0) (bounded : IsBounded k (pos (2 ^ 120 - 1)) In) where
  meets-within : (P : Tree) (l r : ℕ → ℤ) (u : ℕ) (x : ℤ) → In P → HasWalls k P l r → IsMeeting l r u x → u ≤ 2 ^ 120 - 1
  meets-within P l r zero x in' h m = omega arith
  meets-within P l r (suc v) x in' h m = at (h.all P (itself P))
    where
      at : WallsAre k h.lw h.rw P → suc v ≤ 2 ^ 120 - 1
      at (of_number y i p q) = absurd (omega (arith, ints, m.before v (omega arith), h.left_is v, h.right_is v, p v, q v))
      at (of_game f L R hl hr w) = go (w v)
        where
          low : (L v +ℤ pos v) ≤ℤ pos (2 ^ 120 - 1)
          low =
              let a = (hl v).reached in
              let c = walls-within k (pos (2 ^ 120 - 1)) In h.lw h.rw a.0 bounded (bounded.left_in P a.0 f in' a.1) (all-left k h.lw h.rw P a.0 h.all a.1) v in
              omega (arith, ints, a.2, c.1, c.2)

          high : neg_ℤ (pos (2 ^ 120 - 1)) ≤ℤ (R v -ℤ pos v)
          high =
              let a = (hr v).reached in
              let c = walls-within k (pos (2 ^ 120 - 1)) In h.lw h.rw a.0 bounded (bounded.right_in P a.0 f in' a.1) (all-right k h.lw h.rw P a.0 h.all a.1) v in
              omega (arith, ints, a.2, c.0, c.1)

          go : Follow L R v (h.lw P v) (h.rw P v) → suc v ≤ 2 ^ 120 - 1
          go (apart less e f) = omega (arith, ints, less v (omega arith), low, high)
          go (met t le e less x y) = absurd (omega (arith, ints, m.before v (omega arith), h.left_is v, h.right_is v, x, y, e))

-- past their meeting walls don't bend
after-meeting : (k : ℕ) (P : Tree) (l r : ℕ → ℤ) (u : ℕ) (x : ℤ) → HasWalls k P l r → IsMeeting l r u x → (t : ℕ) → u ≤ t → (l t ≡ x) × (r t ≡ x)
after-meeting k P l r u x h m t le = at (h.all P (itself P))
  where
    at : WallsAre k h.lw h.rw P → (l t ≡ x) × (r t ≡ x)
    at (of_number y i p q) = (
      omega (arith, ints, sym (h.left_is t), p t, sym (h.left_is u), p u, m.left_at),
      omega (arith, ints, sym (h.right_is t), q t, sym (h.right_is u), q u, m.right_at),
    )
    at (of_game f L R hl hr w) = go (w u)
      where
        go : Follow L R u (h.lw P u) (h.rw P u) → (l t ≡ x) × (r t ≡ x)
        go (apart less e f') = absurd (omega (arith, ints, less u (omega arith), e, f', h.left_is u, h.right_is u, m.left_at, m.right_at))
        go (met v lv q less y z) =
            let here = met v (omega (arith, lv, le)) q less (sym m.left_at ∙ sym (h.left_is u) ∙ y) (sym m.right_at ∙ sym (h.right_is u) ∙ z) in
            let same = follow-same L R L R t (h.lw P t) (h.rw P t) x x (λ _. refl) (λ _. refl) (w t) here in
            (sym (h.left_is t) ∙ same.0, sym (h.right_is t) ∙ same.1)

-- break points of the walls on the grid of 2 ^ -60 are within the bounds
module _ (In : Tree → Type 0) (bounded : IsBounded 60 (pos (2 ^ 120 - 1)) In) (P : Tree) (in' : In P) (l r : ℕ → ℤ) (h : HasWalls 60 P l r) where
  -- from some place on both walls are level
  settled : (u : ℕ) × (x : ℤ) × (u ≤ 2 ^ 120 - 1) × ((t : ℕ) → u ≤ t → (l t ≡ x) × (r t ≡ x))
  settled = at (h.all P (itself P))
    where
      at : WallsAre 60 h.lw h.rw P → (u : ℕ) × (x : ℤ) × (u ≤ 2 ^ 120 - 1) × ((t : ℕ) → u ≤ t → (l t ≡ x) × (r t ≡ x))
      at (of_number y i p q) = (0, y, omega arith, λ t _. (sym (h.left_is t) ∙ p t, sym (h.right_is t) ∙ q t))
      at (of_game f L R hl hr w) =
          let (u, x, m) = meeting-exists 60 P l r h f in
          (u, x, meets-within 60 In bounded P l r u x in' h m, after-meeting 60 P l r u x h m)

  place-within : (f : ℕ → ℤ) → ((t : ℕ) → settled.0 ≤ t → f t ≡ settled.1) → (t : ℕ) → IsBreak l r f t → t ≤ 2 ^ 120 - 1
  place-within f level t (inl e) = omega (arith, e)
  place-within f level t (inr (inr (x, m))) = meets-within 60 In bounded P l r t x in' h m
  place-within f level t (inr (inl b)) = elim (cases_lt settled.0 t) as (λ _. t ≤ 2 ^ 120 - 1) [
    | inl lt ↦ absurd (b (omega (arith, ints, level (t - 1) (omega (arith, lt)), level t (omega (arith, lt)), level (t + 1) (omega (arith, lt)))))
    | inr le ↦ omega (arith, le, settled.2)
  ]

  both-within : (f : ℕ → ℤ) → (f ≡ l) ⊎ (f ≡ r) → (t : ℕ) → IsBreak l r f t → (t ≤ 2 ^ 120 - 1) × (unsigned_abs (f t) < 2 ^ 120)
  both-within f one t b = let c = walls-within 60 (pos (2 ^ 120 - 1)) In h.lw h.rw P bounded in' h.all t in
      elim one [
        | inl e ↦ (
          place-within f (λ v le. ap (λ g. g v) e ∙ (settled.3 v le).0) t b,
          omega (arith, ints, c.0, c.1, c.2, h.left_is t, ap (λ g. g t) e),
        )
        | inr e ↦ (
          place-within f (λ v le. ap (λ g. g v) e ∙ (settled.3 v le).1) t b,
          omega (arith, ints, c.0, c.1, c.2, h.right_is t, ap (λ g. g t) e),
        )
      ]

-- from a grid to the next finer one and back: how a line bends at a place of both is the same
bend-finer : (f : ℕ → ℤ) (q : ℕ)
    → (finer f ((suc q + suc q) - 1) +ℤ finer f ((suc q + suc q) + 1)) -ℤ (finer f (suc q + suc q) +ℤ finer f (suc q + suc q))
    ≡ (f (suc q - 1) +ℤ f (suc q + 1)) -ℤ (f (suc q) +ℤ f (suc q))
bend-finer f q =
    let d = finer-doubles f in
    let before : (suc q + suc q) - 1 ≡ suc (q + q) = omega arith in
    let after : (suc q + suc q) + 1 ≡ suc (suc q + suc q) = omega arith in
    let here : suc q - 1 ≡ q = omega arith in
    let next : suc q + 1 ≡ suc (suc q) = omega arith in
    omega (arith, ints, ap (finer f) before, ap (finer f) after, ap f here, ap f next, d.at_odd q, d.at_even (suc q), d.at_odd (suc q))

-- and between two places of the coarser grid it doesn't bend
straight-between : (f : ℕ → ℤ) (q : ℕ) → Bends (finer f) (suc (q + q)) → ⊥
straight-between f q b =
    let d = finer-doubles f in
    let before : suc (q + q) - 1 ≡ q + q = omega arith in
    let after : suc (q + q) + 1 ≡ suc q + suc q = omega arith in
    b (omega (arith, ints, ap (finer f) before, ap (finer f) after, d.at_even q, d.at_odd q, d.at_even (suc q)))

module _ (l r : ℕ → ℤ) where
  meets-finer : (q : ℕ) (x : ℤ) → IsMeeting l r q x → IsMeeting (finer l) (finer r) (q + q) (x +ℤ x)
  meets-finer q x m = record {
    left_at = omega (arith, ints, (finer-doubles l).at_even q, m.left_at);
    right_at = omega (arith, ints, (finer-doubles r).at_even q, m.right_at);
    before = λ v lt. earlier v (parity v) lt;
  }
    where
      upto : (v : ℕ) → v ≤ q → r v ≤ℤ l v
      upto v le = elim (below-or_at v q le) [
        | inl lt ↦ (let less = m.before v lt in omega (arith, ints, less))
        | inr e ↦ omega (arith, ints, ap l e, ap r e, m.left_at, m.right_at)
      ]

      earlier : (v : ℕ) → Parity v → v < q + q → finer r v <ℤ finer l v
      earlier _ (even w) lt = omega (arith, ints, m.before w (omega (arith, lt)), (finer-doubles l).at_even w, (finer-doubles r).at_even w)
      earlier _ (odd w) lt =
          omega (arith, ints, m.before w (omega (arith, lt)), upto (suc w) (omega (arith, lt)), (finer-doubles l).at_odd w, (finer-doubles r).at_odd w)

  meets-coarser : (q : ℕ) (x : ℤ) → IsMeeting (finer l) (finer r) (q + q) x → IsMeeting l r q (l q)
  meets-coarser q x m = record {
    left_at = refl;
    right_at = omega (arith, ints, (finer-doubles l).at_even q, (finer-doubles r).at_even q, m.left_at, m.right_at);
    before = λ v lt. omega (arith, ints, m.before (v + v) (omega (arith, lt)), (finer-doubles l).at_even v, (finer-doubles r).at_even v);
  }

  break-finer : (f : ℕ → ℤ) (q : ℕ) → IsBreak l r f q → IsBreak (finer l) (finer r) (finer f) (q + q)
  break-finer f zero b = inl refl
  break-finer f (suc q) (inl e) = absurd (omega (arith, e))
  break-finer f (suc q) (inr (inl b)) = inr (inl (λ e. b (omega (arith, ints, e, bend-finer f q))))
  break-finer f (suc q) (inr (inr (x, m))) = inr (inr (x +ℤ x, meets-finer (suc q) x m))

  break-coarser : (f : ℕ → ℤ) (q : ℕ) → IsBreak (finer l) (finer r) (finer f) (q + q) → IsBreak l r f q
  break-coarser f zero b = inl refl
  break-coarser f (suc q) (inl e) = absurd (omega (arith, e))
  break-coarser f (suc q) (inr (inl b)) = inr (inl (λ e. b (omega (arith, ints, e, bend-finer f q))))
  break-coarser f (suc q) (inr (inr (x, m))) = inr (inr (l (suc q), meets-coarser (suc q) x m))

powers : (x : ℤ) (j k : ℕ) → (x *ℤ pos (2 ^ j)) *ℤ pos (2 ^ k) ≡ x *ℤ pos (2 ^ (j + k))
powers x j zero = let e : j + 0 ≡ j = omega arith in omega (arith, ints) ∙ ap (λ n. x *ℤ pos (2 ^ n)) (sym e)
powers x j (suc k) = let e : j + suc k ≡ suc (j + k) = omega arith in
    twice-value (x *ℤ pos (2 ^ j)) k ∙ ap₂ ◌+ℤ◌ (powers x j k) (powers x j k) ∙ sym (twice-value x (j + k)) ∙ ap (λ n. x *ℤ pos (2 ^ n)) (sym e)

-- a line on a grid 2 ^ j times as fine
abbrev finest : ℕ → (ℕ → ℤ) → ℕ → ℤ
finest zero f = f
finest (suc j) f = finer (finest j f)

finest-at : (f : ℕ → ℤ) (j t : ℕ) → finest j f (t * 2 ^ j) ≡ f t *ℤ pos (2 ^ j)
finest-at f zero t = let e : t * 2 ^ 0 ≡ t = omega arith in ap f e ∙ omega (arith, ints)
finest-at f (suc j) t = let i = finest-at f j t in
    ap (finer (finest j f)) (twice-place t j) ∙ (finer-doubles (finest j f)).at_even (t * 2 ^ j) ∙ ap₂ ◌+ℤ◌ i i ∙ sym (twice-value (f t) j)

module _ (P : Tree) (k : ℕ) (l r : ℕ → ℤ) (h : HasWalls k P l r) where
  finest-walls : (j : ℕ) → HasWalls (j + k) P (finest j l) (finest j r)
  finest-walls zero = let e : k ≡ 0 + k = omega arith in subst (λ n. HasWalls n P l r) e h
  finest-walls (suc j) = let e : suc (j + k) ≡ suc j + k = omega arith in
      subst (λ n. HasWalls n P (finest (suc j) l) (finest (suc j) r)) e (has_walls-finer (j + k) P (finest j l) (finest j r) (finest-walls j))

  -- a break point on the coarse grid is one on the fine one
  to_fine : (f : ℕ → ℤ) (j t : ℕ) → IsBreak l r f t → IsBreak (finest j l) (finest j r) (finest j f) (t * 2 ^ j)
  to_fine f zero t b = let e : t * 2 ^ 0 ≡ t = omega arith in subst (IsBreak l r f) (sym e) b
  to_fine f (suc j) t b = subst (IsBreak (finest (suc j) l) (finest (suc j) r) (finest (suc j) f)) (sym (twice-place t j))
      (break-finer (finest j l) (finest j r) (finest j f) (t * 2 ^ j) (to_fine f j t b))

  -- and the fine one has no others
  to_coarse : (f : ℕ → ℤ) (j t : ℕ) → IsBreak (finest j l) (finest j r) (finest j f) t → (p : ℕ) × (t ≡ p * 2 ^ j) × IsBreak l r f p
  to_coarse f zero t b = (t, omega arith, b)
  to_coarse f (suc j) t b = at (λ v c. to_coarse f j v c) t (parity t) b
    where
      none : (v : ℕ) → IsBreak (finest (suc j) l) (finest (suc j) r) (finest (suc j) f) (suc (v + v)) → ⊥
      none v (inl e) = omega (arith, e)
      none v (inr (inl c)) = straight-between (finest j f) v c
      none v (inr (inr (x, m))) = none-between (j + k) P P (finest j l) (finest j r) (finest-walls j) (itself P) record {
        left = finest (suc j) l;
        right = finest (suc j) r;
        place = v;
        mean = x;
        walls = has_walls-finer (j + k) P (finest j l) (finest j r) (finest-walls j);
        meets = m;
      }

      at : ((v : ℕ) → IsBreak (finest j l) (finest j r) (finest j f) v → (p : ℕ) × (v ≡ p * 2 ^ j) × IsBreak l r f p)
          → (t : ℕ) → Parity t → IsBreak (finest (suc j) l) (finest (suc j) r) (finest (suc j) f) t → (p : ℕ) × (t ≡ p * 2 ^ suc j) × IsBreak l r f p
      at below _ (even v) b = let i = below v (break-coarser (finest j l) (finest j r) (finest j f) v b) in
          (i.0, ap₂ ◌+◌ i.1 i.1 ∙ sym (twice-place i.0 j), i.2)
      at below _ (odd v) b = absurd (none v b)

-- where a game has walls on the grid of 2 ^ -60 and numbers within the bounds, none of its break points is past them
module _ (In : Tree → Type 0) (bounded : IsBounded 60 (pos (2 ^ 120 - 1)) In) (P : Tree) (in' : In P) (l0 r0 : ℕ → ℤ) (h0 : HasWalls 60 P l0 r0) where
  fine-within : (j : ℕ) (f : ℕ → ℤ) → (f ≡ l0) ⊎ (f ≡ r0) → (t : ℕ) → IsBreak (finest j l0) (finest j r0) (finest j f) t
      → IsFractionInBounds (j + 60) (pos t) × IsFractionInBounds (j + 60) (finest j f t)
  fine-within j f one t b =
      let (p, at, breaks) = to_coarse P 60 l0 r0 h0 f j t b in
      let few = both-within In bounded P in' l0 r0 h0 f one p breaks in (
        (pos p, omega (arith, ints, few.0), ap (λ n. n *ℤ pos (2 ^ 60)) (ap pos at ∙ sym (pos-*ℤ-pos p (2 ^ j))) ∙ powers (pos p) j 60),
        (f p, few.1, ap (λ n. n *ℤ pos (2 ^ 60)) (ap (finest j f) at ∙ finest-at f j p) ∙ powers (f p) j 60),
      )

  coarse-within : (j k : ℕ) → j + k ≡ 60 → (l r f : ℕ → ℤ) → HasWalls k P l r → (f ≡ l) ⊎ (f ≡ r) → (t : ℕ) → IsBreak l r f t
      → IsFractionInBounds k (pos t) × IsFractionInBounds k (f t)
  coarse-within j k e l r f h one t b =
      let walls = subst (λ n. HasWalls n P (finest j l) (finest j r)) e (finest-walls P k l r h j) in
      let one' : (finest j f ≡ finest j l) ⊎ (finest j f ≡ finest j r) = elim one [ inl i ↦ inl (ap (finest j) i) | inr i ↦ inr (ap (finest j) i) ] in
      let few = both-within In bounded P in' (finest j l) (finest j r) walls (finest j f) one' (t * 2 ^ j) (to_fine P k l r h f j t b) in
      let back : (x : ℤ) → x *ℤ pos (2 ^ 60) ≡ (x *ℤ pos (2 ^ j)) *ℤ pos (2 ^ k) = λ x. ap (λ n. x *ℤ pos (2 ^ n)) (sym e) ∙ sym (powers x j k) in (
        (pos (t * 2 ^ j), omega (arith, ints, few.0), back (pos t) ∙ ap (λ n. n *ℤ pos (2 ^ k)) (pos-*ℤ-pos t (2 ^ j))),
        (f t *ℤ pos (2 ^ j), subst (λ n. unsigned_abs n < 2 ^ 120) (finest-at f j t) few.1, back (f t)),
      )

  within : (k : ℕ) (l r f : ℕ → ℤ) → HasWalls k P l r → (f ≡ l) ⊎ (f ≡ r) → (t : ℕ) → IsBreak l r f t → IsFractionInBounds k (pos t) × IsFractionInBounds k (f t)
  within k l r f h one t b = elim (cases_lt k 60) as (λ _. IsFractionInBounds k (pos t) × IsFractionInBounds k (f t)) [
    | inl lt ↦ coarse-within (60 - k) k (omega (arith, lt)) l r f h one t b
    | inr le ↦ fine (k - 60) (omega (arith, le))
  ]
    where
      fine : (j : ℕ) → j + 60 ≡ k → IsFractionInBounds k (pos t) × IsFractionInBounds k (f t)
      fine j e =
          let same = has_walls-unique (j + 60) P l r (finest j l0) (finest j r0) (subst (λ n. HasWalls n P l r) (sym e) h) (finest-walls P 60 l0 r0 h0 j) in
          let left : l ≡ finest j l0 = λ i. λ v. (same v).0 i in
          let right : r ≡ finest j r0 = λ i. λ v. (same v).1 i in
          let at : (g : ℕ → ℤ) → (g ≡ l0) ⊎ (g ≡ r0) → f ≡ finest j g → IsFractionInBounds k (pos t) × IsFractionInBounds k (f t) = λ g which is.
          subst (λ n. IsFractionInBounds n (pos t) × IsFractionInBounds n (f t)) e (subst (λ m. IsFractionInBounds (j + 60) (pos t) × IsFractionInBounds (j + 60) (m t)) (sym is)
          (fine-within j g which t (subst (λ m. IsBreak m (finest j r0) (finest j g) t) left (subst (λ m. IsBreak l m (finest j g) t) right (subst (λ m. IsBreak l r m t) is b))))) in
          elim one [ inl i ↦ at l0 (inl refl) (i ∙ left) | inr i ↦ at r0 (inr refl) (i ∙ right) ]

  none-past : HasBreakPast P → ⊥
  none-past b = let w = within b.grid b.left b.right b.wall b.walls b.one b.place b.breaks in elim b.past [ inl p ↦ p w.0 | inr p ↦ p w.1 ]

-- a game with a temperature is no number
between-no_number : (k : ℕ) (P : Tree) → HasTemperatureBetween k P → IsNumberTree P → ⊥
between-no_number k P b n = at (b.walls.all P (itself P))
  where
    at : WallsAre (suc k) b.walls.lw b.walls.rw P → ⊥
    at (of_number x i p q) = omega (arith, ints, b.meets.before 0 (omega arith), p 0, q 0, b.walls.left_is 0, b.walls.right_is 0)
    at (of_game m _ _ _ _ _) = m n

-- a temperature between two places of that grid is such a point
between-past : (P : Tree) → HasTemperatureBetween 60 P → HasBreakPast P
between-past P b = record {
  grid = 61;
  left = b.left;
  right = b.right;
  walls = b.walls;
  wall = b.left;
  one = inl refl;
  place = suc (b.place + b.place);
  breaks = inr (inr (b.mean, b.meets));
  past = inl (λ (u, small, e). omega (arith, ints, e));
}

-- the parts of a stored game are stored
part-stored : (Ts : List Tree) → HaveForms Ts → (G P : Tree) → IsFollower G P → (IsNumberTree P → ⊥) → IsStored Ts G → IsStored Ts P
part-stored Ts forms _ _ (itself G) f s = s
part-stored Ts forms _ _ (further G H P o g) f s = part-stored Ts forms H P g f (at o)
  where
    hot : IsNumberTree G → ⊥
    hot (e, x, is) = let n = number-over e x G P is (further G H P o g) in f (e, n.0, n.1)

    at : IsOption G H → IsStored Ts H
    at (inl h) = (store-bounded Ts forms).left_in G H hot s h
    at (inr h) = (store-bounded Ts forms).right_in G H hot s h

pub past-bounds_of : (G P : Tree) → IsFollower G P → HasTemperatureBetween 60 P → IsDrawnPastBounds G
past-bounds_of G P f b = (P, inr (f, between-no_number 60 P b), between-past P b)

pub none-past_bounds : (Ts : List Tree) (forms : HaveForms Ts) (id : ℕ) → id < length Ts → (l r : ℕ → ℤ) → HasWalls 60 (tree_at Ts id) l r → IsDrawnPastBounds (tree_at Ts id) → ⊥
none-past_bounds Ts forms id lt l r h (P, which, b) =
    let G = tree_at Ts id in
    let stored : IsStored Ts P = elim which [ inl e ↦ (id, lt, sym e) | inr p ↦ part-stored Ts forms G P p.0 p.1 (id, lt, refl) ] in
    let follows : IsFollower G P = elim which [ inl e ↦ subst (IsFollower G) (sym e) (itself G) | inr part ↦ part.0 ] in
    none-past (IsStored Ts) (store-bounded Ts forms) P stored (h.lw P) (h.rw P)
    (record { lw = h.lw; rw = h.rw; all = λ Q g. h.all Q (follower-trans G P Q follows g); left_is = λ t. refl; right_is = λ t. refl }) b
