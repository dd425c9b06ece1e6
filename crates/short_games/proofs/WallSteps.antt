-- One step of drawing: from the walls of the options to those of the tree.
use Rattle.std.proofs.Common.{ℕ, zero, suc, ◌+◌, ◌<◌, ◌≤◌, ◌≡◌, arith, refl, inl, inr, sym, ◌∙◌, ap, subst, ℤ, pos, neg_ℤ, ◌+ℤ◌, ◌-ℤ◌, ◌<ℤ◌, ◌≤ℤ◌}
use Rattle.std.proofs.lemmas.Int.{ints}
use Rattle.std.proofs.lemmas.Bool.{cases_lt}
use Rattle.short_games.specs.Tree.{Tree, left, right, Has}
use Rattle.short_games.specs.Number.{num, IsNumberTree}
use Rattle.short_games.specs.Parts.{IsOption}
use Rattle.short_games.specs.WallGrids.{IsGreatest, IsLeast, Follow, WallsAre, AllWallsAre, IsMeeting}
use Rattle.short_games.proofs.GreatestLaws.{greatest-filled, least-filled}
use Rattle.short_games.specs.inner.Lines.{Rises, Falls}
use Rattle.short_games.specs.WallGrids.Follow.{apart, met}
use Rattle.short_games.specs.WallGrids.WallsAre.{of_number, of_game}
use Rattle.short_games.proofs.LineLaws.{follow-zero, falls-from, rises-from, Doubles, greatest-same, least-same, follow-same, parity, Parity}
use Rattle.short_games.proofs.LineLaws.Parity.{even, odd}
use Rattle.short_games.proofs.WallSolutionLaws.{by_walls, all-left, all-right, all-from, walls-unique, walls-steady, IsSteady}
use Rattle.short_games.proofs.DrawnWallLaws.{left_same, right_same, left_wall, right_wall, left_scaffold, right_scaffold, left_scaffold-is, right_scaffold-is, NoJump, walls-at}

no_jump-from : (L R l r : ℕ → ℤ) → ((t : ℕ) → Follow L R t (l t) (r t)) → NoJump L R
unfolding NoJump
no_jump-from L R l r w u h = elim (w u) [
  | apart a x y ↦ omega (arith, ints, a u (omega arith))
  | met v k e a x y ↦ (let no : v < u → ⊥ = λ i. omega (arith, ints, h v i, e) in let s : v ≡ u = omega (arith, k, no) in
      subst (λ n. R n ≤ℤ L n) s (omega (arith, ints, e)))
]

no_jump-same : (L R L' R' : ℕ → ℤ) → ((t : ℕ) → L t ≡ L' t) → ((t : ℕ) → R t ≡ R' t) → NoJump L R → NoJump L' R'
unfolding NoJump
no_jump-same L R L' R' p q n u h = omega (arith, ints, p u, q u, n u (λ v k. omega (arith, ints, p v, q v, h v k)))

-- where the scaffolds first meet at u they don't jump
no_jump-met : (L R : ℕ → ℤ) (u : ℕ) → L u ≡ R u → ((v : ℕ) → v < u → R v <ℤ L v) → NoJump L R
unfolding NoJump
no_jump-met L R u e a v h = elim (cases_lt v u) [
  | inl k ↦ omega (arith, ints, a v k)
  | inr k ↦ (let no : u < v → ⊥ = λ i. omega (arith, ints, h u i, e) in let s : u ≡ v = omega (arith, k, no) in
      subst (λ n. R n ≤ℤ L n) s (omega (arith, ints, e)))
]

-- the walls that are drawn are the walls
abbrev pub AllDrawn : ℕ → Tree → Type 0
AllDrawn k G = AllWallsAre k (left_wall k) (right_wall k) G

module _ (k : ℕ) where
  -- any solution is the drawn one
  solved_at : (lw rw : Tree → ℕ → ℤ) (G : Tree) → AllWallsAre k lw rw G → ((X : Tree) → IsOption G X → AllDrawn k X) → WallsAre k lw rw G → WallsAre k (left_wall k) (right_wall k) G
  solved_at lw rw G all f (of_number x i p q) = walls-at k G (λ n. absurd (n x i))
  solved_at lw rw G all f (of_game n L R h h' w) = walls-at k G (λ _. record {
    no_number = n;
    left_filled = greatest-filled _ (left G) _ (h 0);
    right_filled = least-filled _ (right G) _ (h' 0);
    no_jump = no_jump-same L R _ _ lefts rights (no_jump-from L R (lw G) (rw G) w);
  })
    where
      lefts : (t : ℕ) → L t ≡ left_scaffold k G t
      lefts t = omega (arith, ints, greatest-same (λ X. rw X t) (λ X. right_wall k X t) (left G) _ _ (λ X x. (walls-unique k lw rw (left_wall k) (right_wall k) X (all-left k lw rw G X all x) (f X (inl x)) t).1) (h t) (left_scaffold-is k G (greatest-filled _ (left G) _ (h 0)) t))

      rights : (t : ℕ) → R t ≡ right_scaffold k G t
      rights t = omega (arith, ints, least-same (λ X. lw X t) (λ X. left_wall k X t) (right G) _ _ (λ X x. (walls-unique k lw rw (left_wall k) (right_wall k) X (all-right k lw rw G X all x) (f X (inr x)) t).0) (h' t) (right_scaffold-is k G (least-filled _ (right G) _ (h' 0)) t))

  pub solution-drawn : (lw rw : Tree → ℕ → ℤ) (G : Tree) → AllWallsAre k lw rw G → AllWallsAre k (left_wall k) (right_wall k) G
  solution-drawn lw rw = by_walls k lw rw (AllDrawn k) (λ G a f w. all-from k (left_wall k) (right_wall k) G (solved_at lw rw G a f w) f)

  -- two scaffolds that first meet at u, and walls that go along them until there
  pub record IsJoin (G : Tree) (L R l r : ℕ → ℤ) : Type 0 where
    pub no_number : IsNumberTree G → ⊥
    pub left_is : (t : ℕ) → IsGreatest (λ X. right_wall k X t) (left G) (L t +ℤ pos t)
    pub right_is : (t : ℕ) → IsLeast (λ X. left_wall k X t) (right G) (R t -ℤ pos t)
    pub meeting : ℕ
    pub meets : L meeting ≡ R meeting
    pub before : (v : ℕ) → v < meeting → R v <ℤ L v
    pub left_along : (t : ℕ) → t ≤ meeting → l t ≡ L t
    pub left_after : (t : ℕ) → meeting ≤ t → l t ≡ L meeting
    pub right_along : (t : ℕ) → t ≤ meeting → r t ≡ R t
    pub right_after : (t : ℕ) → meeting ≤ t → r t ≡ R meeting

  -- then the tree has these walls
  pub join-drawn : (G : Tree) (L R l r : ℕ → ℤ) → IsJoin G L R l r → ((X : Tree) → Has (left G) X → AllWallsAre k (left_wall k) (right_wall k) X) → ((X : Tree) → Has (right G) X → AllWallsAre k (left_wall k) (right_wall k) X)
      → AllWallsAre k (left_wall k) (right_wall k) G × ((t : ℕ) → (left_wall k G t ≡ l t) × (right_wall k G t ≡ r t))
  join-drawn G L R l r j f g = (all-from k (left_wall k) (right_wall k) G here (λ X o. elim o [ inl x ↦ f X x | inr x ↦ g X x ]), λ t. same t here)
    where
      here : WallsAre k (left_wall k) (right_wall k) G
      here = walls-at k G (λ _. record {
        no_number = j.no_number;
        left_filled = greatest-filled _ (left G) _ (j.left_is 0);
        right_filled = least-filled _ (right G) _ (j.right_is 0);
        no_jump = no_jump-same L R _ _ (left_same k G L j.left_is) (right_same k G R j.right_is) (no_jump-met L R j.meeting j.meets j.before);
      })

      follows : (t : ℕ) → Follow L R t (l t) (r t)
      follows t = elim (cases_lt t j.meeting) [
        | inl h ↦ apart (λ v i. j.before v (omega (arith, h, i))) (j.left_along t (omega (arith, h))) (j.right_along t (omega (arith, h)))
        | inr h ↦ met j.meeting h j.meets j.before (j.left_after t h) (j.right_after t h)
      ]

      same : (t : ℕ) → WallsAre k (left_wall k) (right_wall k) G → (left_wall k G t ≡ l t) × (right_wall k G t ≡ r t)
      same t (of_number x i p q) = absurd (j.no_number (k, x, i))
      same t (of_game n M S h h' w) = follow-same M S L R t _ _ _ _
          (λ v. left_same k G M h v ∙ sym (left_same k G L j.left_is v)) (λ v. right_same k G S h' v ∙ sym (right_same k G R j.right_is v))
          (w t) (follows t)

-- where the right scaffold comes to be greater without a meeting, the two meet in the middle of the last step
pub jump-middle : (L R L' R' : ℕ → ℤ) (u : ℕ) → Falls L → Rises R → Doubles L L' → Doubles R R' → R 0 ≤ℤ L 0 → L u <ℤ R u → ((v : ℕ) → v < u → R v <ℤ L v)
    → (w : ℕ) × (u ≡ suc w) × (L' (suc (w + w)) ≡ R' (suc (w + w))) × ((v : ℕ) → v < suc (w + w) → R' v <ℤ L' v)
jump-middle L R L' R' zero f r d e z p a = absurd (omega (arith, ints, z, p))
jump-middle L R L' R' (suc w) f r d e z p a = (w, refl, omega (arith, ints, p, a w (omega arith), f.by_one w, r.by_one w, d.at_odd w, e.at_odd w), λ v h. at v (parity v) h)
  where
    at : (v : ℕ) → Parity v → v < suc (w + w) → R' v <ℤ L' v
    at _ (even t) h = omega (arith, ints, d.at_even t, e.at_even t, a t (omega (arith, h)))
    at _ (odd t) h = omega (arith, ints, d.at_odd t, e.at_odd t, a t (omega (arith, h)), a (suc t) (omega (arith, h)))

-- walls that follow scaffolds meet where these do
pub follow-meeting : (L R l r : ℕ → ℤ) (m : ℕ) → ((t : ℕ) → Follow L R t (l t) (r t)) → L m ≡ R m → ((v : ℕ) → v < m → R v <ℤ L v) → IsMeeting l r m (L m)
follow-meeting L R l r m w e a = record { left_at = at.0; right_at = at.1; before = λ v h. below v h (w v) }
  where
    at : (l m ≡ L m) × (r m ≡ L m)
    at = elim (w m) [
      | apart b x y ↦ absurd (omega (arith, ints, b m (omega arith), e))
      | met u h i b x y ↦ (let no : u < m → ⊥ = λ k. omega (arith, ints, a u k, i) in
          let s : u ≡ m = omega (arith, h, no) in (x ∙ ap L s, y ∙ ap R s ∙ sym e))
    ]

    below : (v : ℕ) → v < m → Follow L R v (l v) (r v) → r v <ℤ l v
    below v h (apart b x y) = omega (arith, ints, a v h, x, y)
    below v h (met u k i b x y) = absurd (omega (arith, ints, a u (omega (arith, h, k)), i))

-- trees whose numbers are within a bound, and so are the options of those that are no numbers
pub record IsBounded (k : ℕ) (bound : ℤ) (In : Tree → Type 0) : Type 0 where
  pub number : (G : Tree) (x : ℤ) → In G → G ≡ num k x → (neg_ℤ bound ≤ℤ x) × (x ≤ℤ bound)
  pub left_in : (G X : Tree) → (IsNumberTree G → ⊥) → In G → Has (left G) X → In X
  pub right_in : (G X : Tree) → (IsNumberTree G → ⊥) → In G → Has (right G) X → In X

abbrev InBounds : (bound : ℤ) (l r : ℕ → ℤ) → Type 0
InBounds bound l r = (t : ℕ) → (neg_ℤ bound ≤ℤ r t) × (r t ≤ℤ l t) × (l t ≤ℤ bound)

bounds_at : (k : ℕ) (bound : ℤ) (In : Tree → Type 0) (lw rw : Tree → ℕ → ℤ) (G : Tree) → IsSteady (lw G) (rw G) → IsBounded k bound In → In G
    → ((IsNumberTree G → ⊥) → (X : Tree) → IsOption G X → InBounds bound (lw X) (rw X)) → WallsAre k lw rw G → InBounds bound (lw G) (rw G)
bounds_at k bound In lw rw G s b m f (of_number x i p q) t = let c = b.number G x m i in (omega (arith, ints, c.0, q t), s.ordered t, omega (arith, ints, c.1, p t))
bounds_at k bound In lw rw G s b m f (of_game n L R h h' w) t =
    let z = follow-zero L R (lw G 0) (rw G 0) (w 0) in
    let a = (h 0).reached in
    let b = (h' 0).reached in
    let c = f n a.0 (inl a.1) 0 in
    let d = f n b.0 (inr b.1) 0 in (
      omega (arith, ints, rises-from (rw G) s.rises t 0 t (omega arith), z.1, b.2, d.0, d.1),
      s.ordered t,
      omega (arith, ints, falls-from (lw G) s.falls t 0 t (omega arith), z.0, a.2, c.1, c.2),
    )

-- walls are past no bound of the numbers
pub walls-within : (k : ℕ) (bound : ℤ) (In : Tree → Type 0) (lw rw : Tree → ℕ → ℤ) (G : Tree) → IsBounded k bound In → In G → AllWallsAre k lw rw G → (t : ℕ) → (neg_ℤ bound ≤ℤ rw G t) × (rw G t ≤ℤ lw G t) × (lw G t ≤ℤ bound)
walls-within k bound In lw rw G b i a =
    by_walls k lw rw (λ H. In H → InBounds bound (lw H) (rw H)) (λ H all f w m. bounds_at k bound In lw rw H (walls-steady k lw rw H all) b m
    (λ n X o. f X o (elim o [ inl x ↦ b.left_in H X n m x | inr x ↦ b.right_in H X n m x ])) w) G a i
