-- Walls by their rule are the walls on each grid.
use Rattle.std.proofs.Math.Nat.{pow-suc}
use Rattle.std.proofs.Common.{ℕ, zero, suc, ◌+◌, ◌-◌, ◌*◌, ◌^◌, ◌≤◌, ◌≡◌, ◌⊎◌, ◌↔◌, arith, refl, inl, inr, sym, ◌∙◌, ap, subst, ℤ, pos, ◌+ℤ◌, ◌-ℤ◌, ◌*ℤ◌, ◌<ℤ◌, ◌≤ℤ◌}
use Rattle.std.proofs.lemmas.Int.{ints}
use Rattle.std.proofs.lemmas.Bool.{cases_lt}
use Rattle.short_games.specs.Tree.{Tree, node, left, right, size}
use Rattle.short_games.specs.Parts.{IsOption}
use Rattle.short_games.specs.Number.{num, IsNumberTree}
use Rattle.short_games.specs.inner.Lines.{Rises, Falls}
use Rattle.short_games.specs.Walls.{IsLeftWall, IsRightWall, IsGreatestRightWall, IsLeastLeftWall}
use Rattle.short_games.specs.WallGrids.{Follow, WallsAre, AllWallsAre, HasWalls, finer}
use Rattle.short_games.specs.WallGrids.Follow.{apart, met}
use Rattle.short_games.specs.WallGrids.WallsAre.{of_number, of_game}
use Rattle.short_games.proofs.OrderLaws.{by_measure, size-option}
use Rattle.short_games.proofs.StopLaws.{IsChosen, times-twice}
use Rattle.short_games.proofs.WallNumberLaws.{num-one_to_one}
use Rattle.short_games.proofs.GreatestLaws.{to_greatest, to_least, from_greatest, from_least}
use Rattle.short_games.proofs.LineLaws.{falls-from, rises-from, finer-doubles, greatest-same, least-same}
use Rattle.short_games.proofs.WallSolutionLaws.{by_walls, all-here, all-left, all-right, walls-steady, walls-finer, left_scaffold-falls, right_scaffold-rises}

-- the greatest and the least walls of a list
greatest_wall-chosen : (k t : ℕ) → IsChosen (λ y z. y ≤ℤ z) (λ X. IsRightWall X k t) (λ Gs. IsGreatestRightWall Gs k t)
unfolding IsLeftWall
greatest_wall-chosen k t = record { none_is = λ x h. h; one_is = λ G x. (λ h. h, λ h. h); more_is = λ G H Hs x. (λ h. h, λ h. h) }

least_wall-chosen : (k t : ℕ) → IsChosen (λ y z. z ≤ℤ y) (λ X. IsLeftWall X k t) (λ Gs. IsLeastLeftWall Gs k t)
unfolding IsLeftWall
least_wall-chosen k t = record { none_is = λ x h. h; one_is = λ G x. (λ h. h, λ h. h); more_is = λ G H Hs x. (λ h. h, λ h. h) }

-- a number by one power of two and the next
once : (x : ℤ) → (x *ℤ pos (2 ^ 0)) ≡ x
once x = grind (arith, ints)

twice_ℕ : (m a b : ℕ) → b ≡ a + a → m * b ≡ (m + m) * a
twice_ℕ m a b e = grind arith

twice : (m : ℤ) (a b : ℕ) → b ≡ a + a → m *ℤ pos b ≡ (m +ℤ m) *ℤ pos a
twice m a b e = times-twice m a b e ∙ grind (arith, ints)

doubled : (d : ℕ) → 2 ^ suc d ≡ 2 ^ d + 2 ^ d
doubled d = omega (arith, pow-suc 2 d)

same_part : (d : ℕ) (x y : ℤ) → x *ℤ pos (2 ^ d) ≡ y *ℤ pos (2 ^ d) → x ≡ y
same_part zero x y e = sym (once x) ∙ e ∙ once y
same_part (suc d) x y e = let s = same_part d (x +ℤ x) (y +ℤ y) (sym (twice x (2 ^ d) (2 ^ suc d) (doubled d)) ∙ e ∙ twice y (2 ^ d) (2 ^ suc d) (doubled d)) in omega (arith, ints, s)

-- a wall on the grid that is finer by d
abbrev refined : ℕ → (ℕ → ℤ) → ℕ → ℤ
refined zero f = f
refined (suc d) f = refined d (finer f)

refined-at : (d : ℕ) (f : ℕ → ℤ) (t : ℕ) → refined d f (t * 2 ^ d) ≡ f t *ℤ pos (2 ^ d)
refined-at zero f t = ap f (grind arith) ∙ sym (once (f t))
refined-at (suc d) f t = ap (refined d (finer f)) (twice_ℕ t (2 ^ d) (2 ^ suc d) (doubled d)) ∙ refined-at d (finer f) (t + t)
    ∙ ap (λ z. z *ℤ pos (2 ^ d)) ((finer-doubles f).at_even t) ∙ sym (twice (f t) (2 ^ d) (2 ^ suc d) (doubled d))

refined-walls : (d k : ℕ) (lw rw : Tree → ℕ → ℤ) (G : Tree) → AllWallsAre k lw rw G → AllWallsAre (d + k) (λ X. refined d (lw X)) (λ X. refined d (rw X)) G
refined-walls zero k lw rw G a = subst (λ j. AllWallsAre j lw rw G) (omega arith) a
refined-walls (suc d) k lw rw G a = subst (λ j. AllWallsAre j (λ X. refined d (finer (lw X))) (λ X. refined d (finer (rw X))) G) (omega arith)
    (refined-walls d (suc k) (λ X. finer (lw X)) (λ X. finer (rw X)) G (walls-finer k lw rw G a))

-- where the scaffolds are the same at u, both walls are that number from there on
module _ (L R : ℕ → ℤ) (falls : Falls L) (rises : Rises R) where
  later : (x : ℤ) (u t : ℕ) → u ≤ t → L u ≡ x → R u ≡ x → (l r : ℤ) → Follow L R t l r → (l ≡ x) × (r ≡ x)
  later x u t a p q l r (apart c i j) = absurd (omega (arith, ints, p, q, c u a))
  later x u t a p q l r (met v b e c i j) =
      let before : v ≤ u = elim (cases_lt u v) [ inl m ↦ absurd (omega (arith, ints, p, q, c u m)) | inr m ↦ m ] in
      let down = falls-from L falls (u - v) v u (omega (arith, before)) in
      let up = rises-from R rises (u - v) v u (omega (arith, before)) in
      (omega (arith, ints, p, q, e, down, up, i), omega (arith, ints, p, q, e, down, up, j))

  -- and they are the scaffolds where the left one is greater
  ahead : (t : ℕ) → R t <ℤ L t → (l r : ℤ) → Follow L R t l r → (l ≡ L t) × (r ≡ R t)
  ahead t lt l r (apart c i j) = (i, j)
  ahead t lt l r (met u b e c i j) =
      let down = falls-from L falls (t - u) u t (omega (arith, b)) in
      let up = rises-from R rises (t - u) u t (omega (arith, b)) in
      absurd (omega (arith, ints, e, lt, down, up))

-- the rule, for a tree whose lists aren't at hand
abbrev Mast : Tree → (k t : ℕ) → ℤ → Type 0
Mast G k t x = (d u : ℕ) × (u ≤ t * 2 ^ d) × IsGreatestRightWall (left G) (d + k) u ((x *ℤ pos (2 ^ d)) +ℤ pos u) × IsLeastLeftWall (right G) (d + k) u ((x *ℤ pos (2 ^ d)) -ℤ pos u)

abbrev LeftRule : Tree → (k t : ℕ) → ℤ → Type 0
LeftRule G k t x = (G ≡ num k x) ⊎ ((IsNumberTree G → ⊥) × ((IsGreatestRightWall (left G) k t (x +ℤ pos t) × ((y : ℤ) × IsLeastLeftWall (right G) k t (y -ℤ pos t) × (y <ℤ x))) ⊎ Mast G k t x))

abbrev RightRule : Tree → (k t : ℕ) → ℤ → Type 0
RightRule G k t x = (G ≡ num k x) ⊎ ((IsNumberTree G → ⊥) × ((IsLeastLeftWall (right G) k t (x -ℤ pos t) × ((y : ℤ) × IsGreatestRightWall (left G) k t (y +ℤ pos t) × (x <ℤ y))) ⊎ Mast G k t x))

left_rule : (G : Tree) (k t : ℕ) (x : ℤ) → LeftRule G k t x ↔ IsLeftWall G k t x
unfolding IsLeftWall
left_rule (node ls rs) k t x = (λ h. h, λ h. h)

right_rule : (G : Tree) (k t : ℕ) (x : ℤ) → RightRule G k t x ↔ IsRightWall G k t x
unfolding IsLeftWall
right_rule (node ls rs) k t x = (λ h. h, λ h. h)

-- the walls on a grid follow the rule
module _ (k : ℕ) (lw rw : Tree → ℕ → ℤ) where
  abbrev Follows : Tree → Type 0
  Follows G = (t : ℕ) → IsLeftWall G k t (lw G t) × IsRightWall G k t (rw G t)

  follows_at : (G : Tree) → ((X : Tree) → IsOption G X → Follows X) → WallsAre k lw rw G → Follows G
  follows_at G f (of_number x i p q) t = ((left_rule G k t (lw G t)).0 (inl (i ∙ ap (num k) (sym (p t)))), (right_rule G k t (rw G t)).0 (inl (i ∙ ap (num k) (sym (q t)))))
  follows_at G f (of_game n L R h h' w) t = at (w t)
    where
      lefts : (u : ℕ) (x : ℤ) → L u ≡ x → IsGreatestRightWall (left G) k u (x +ℤ pos u)
      lefts u x e = subst (λ z. IsGreatestRightWall (left G) k u (z +ℤ pos u)) e (to_greatest _ _ (greatest_wall-chosen k u) (λ X. rw X u) (left G) (L u +ℤ pos u) (λ X x. (f X (inl x) u).1) (h u))

      rights : (u : ℕ) (x : ℤ) → R u ≡ x → IsLeastLeftWall (right G) k u (x -ℤ pos u)
      rights u x e = subst (λ z. IsLeastLeftWall (right G) k u (z -ℤ pos u)) e (to_least _ _ (least_wall-chosen k u) (λ X. lw X u) (right G) (R u -ℤ pos u) (λ X x. (f X (inr x) u).0) (h' u))

      mast : (u : ℕ) (x : ℤ) → u ≤ t → L u ≡ x → R u ≡ x → Mast G k t x
      mast u x b d e = (
        0,
        u,
        grind (arith, b),
        subst (λ j. IsGreatestRightWall (left G) j u ((x *ℤ pos (2 ^ 0)) +ℤ pos u)) (omega arith) (lefts u (x *ℤ pos (2 ^ 0)) (d ∙ sym (once x))),
        subst (λ j. IsLeastLeftWall (right G) j u ((x *ℤ pos (2 ^ 0)) -ℤ pos u)) (omega arith) (rights u (x *ℤ pos (2 ^ 0)) (e ∙ sym (once x))),
      )

      at : Follow L R t (lw G t) (rw G t) → IsLeftWall G k t (lw G t) × IsRightWall G k t (rw G t)
      at (apart c x y) = (
        (left_rule G k t (lw G t)).0
            (inr (n, inl (lefts t (lw G t) (sym x), (R t, rights t (R t) refl, subst (λ z. R t <ℤ z) (sym x) (c t (omega arith)))))),
        (right_rule G k t (rw G t)).0
            (inr (n, inl (rights t (rw G t) (sym y), (L t, lefts t (L t) refl, subst (λ z. z <ℤ L t) (sym y) (c t (omega arith)))))),
      )
      at (met u b e c x y) = (
        (left_rule G k t (lw G t)).0 (inr (n, inr (mast u (lw G t) b (sym x) (sym e ∙ sym x)))),
        (right_rule G k t (rw G t)).0 (inr (n, inr (mast u (rw G t) b (e ∙ sym y) (sym y)))),
      )

-- and the rule gives nothing else
abbrev Gives : (k : ℕ) (lw rw : Tree → ℕ → ℤ) → Tree → Type 0
Gives k lw rw G = (t : ℕ) (x : ℤ) → (IsLeftWall G k t x → x ≡ lw G t) × (IsRightWall G k t x → x ≡ rw G t)

abbrev OptionsGive : Tree → Type 0
OptionsGive G = (k : ℕ) (lw rw : Tree → ℕ → ℤ) (X : Tree) → IsOption G X → AllWallsAre k lw rw X → Gives k lw rw X

module _ (k : ℕ) (lw rw : Tree → ℕ → ℤ) (G : Tree) (all : AllWallsAre k lw rw G) (give : OptionsGive G) where
  record Scaffolds : Type 0 where
    L : ℕ → ℤ
    R : ℕ → ℤ
    falls : Falls L
    rises : Rises R
    left_is : (t : ℕ) (x : ℤ) → IsGreatestRightWall (left G) k t (x +ℤ pos t) → L t ≡ x
    right_is : (t : ℕ) (x : ℤ) → IsLeastLeftWall (right G) k t (x -ℤ pos t) → R t ≡ x
    follow : (t : ℕ) → Follow L R t (lw G t) (rw G t)

  scaffolds : (IsNumberTree G → ⊥) → WallsAre k lw rw G → Scaffolds
  scaffolds n (of_number x i p q) = absurd (n (k, x, i))
  scaffolds _ (of_game n l r h h' w) = record {
    L = l;
    R = r;
    falls = left_scaffold-falls k lw rw (left G) l (λ X x. walls-steady k lw rw X (all-left k lw rw G X all x)) h;
    rises = right_scaffold-rises k lw rw (right G) r (λ X x. walls-steady k lw rw X (all-right k lw rw G X all x)) h';
    left_is = λ t x g. (
        let e = greatest-same (λ X. rw X t) (λ X. rw X t) (left G) (x +ℤ pos t) (l t +ℤ pos t) (λ X y. refl) (from_greatest _ _ (greatest_wall-chosen k t) (λ X. rw X t) (left G) (x +ℤ pos t) (λ X y z. (give k lw rw X (inl y) (all-left k lw rw G X all y) t z).1) g) (h t) in
        omega (arith, ints, e)
        );
    right_is = λ t x g. (
        let e = least-same (λ X. lw X t) (λ X. lw X t) (right G) (x -ℤ pos t) (r t -ℤ pos t) (λ X y. refl) (from_least _ _ (least_wall-chosen k t) (λ X. lw X t) (right G) (x -ℤ pos t) (λ X y z. (give k lw rw X (inr y) (all-right k lw rw G X all y) t z).0) g) (h' t) in
        omega (arith, ints, e)
        );
    follow = w;
  }

value_at : (k : ℕ) (lw rw : Tree → ℕ → ℤ) (G : Tree) → AllWallsAre k lw rw G → OptionsGive G → Gives k lw rw G
value_at k lw rw G all give t x = (λ h. left_at ((left_rule G k t x).1 h), λ h. right_at ((right_rule G k t x).1 h))
  where
    here : WallsAre k lw rw G
    here = all-here k lw rw G all

    number_walls : (z : ℤ) → G ≡ num k z → WallsAre k lw rw G → (z ≡ lw G t) × (z ≡ rw G t)
    number_walls z e (of_number y i p q) = let s = num-one_to_one k z y (sym e ∙ i) in (s ∙ sym (p t), s ∙ sym (q t))
    number_walls z e (of_game n L R h h' w) = absurd (n (k, z, e))

    mast_walls : (IsNumberTree G → ⊥) → Mast G k t x → (x ≡ lw G t) × (x ≡ rw G t)
    mast_walls n (d, u, b, g, h) =
        let fine = refined-walls d k lw rw G all in
        let s = scaffolds (d + k) (λ X. refined d (lw X)) (λ X. refined d (rw X)) G fine give n (all-here (d + k) (λ X. refined d (lw X)) (λ X. refined d (rw X)) G fine) in
        let v = later s.L s.R s.falls s.rises (x *ℤ pos (2 ^ d)) u (t * 2 ^ d) b (s.left_is u (x *ℤ pos (2 ^ d)) g) (s.right_is u (x *ℤ pos (2 ^ d)) h) _ _ (s.follow (t * 2 ^ d)) in
        (same_part d x (lw G t) (sym v.0 ∙ refined-at d (lw G) t), same_part d x (rw G t) (sym v.1 ∙ refined-at d (rw G) t))

    left_at : LeftRule G k t x → x ≡ lw G t
    left_at (inl e) = (number_walls x e here).0
    left_at (inr (n, inl (g, (y, h, l)))) =
        let s = scaffolds k lw rw G all give n here in
        let a = s.left_is t x g in
        let b = s.right_is t y h in
        sym a ∙ sym (ahead s.L s.R s.falls s.rises t (omega (arith, ints, a, b, l)) _ _ (s.follow t)).0
    left_at (inr (n, inr m)) = (mast_walls n m).0

    right_at : RightRule G k t x → x ≡ rw G t
    right_at (inl e) = (number_walls x e here).1
    right_at (inr (n, inl (g, (y, h, l)))) =
        let s = scaffolds k lw rw G all give n here in
        let a = s.right_is t x g in
        let b = s.left_is t y h in
        sym a ∙ sym (ahead s.L s.R s.falls s.rises t (omega (arith, ints, a, b, l)) _ _ (s.follow t)).1
    right_at (inr (n, inr m)) = (mast_walls n m).1

value : (G : Tree) (k : ℕ) (lw rw : Tree → ℕ → ℤ) → AllWallsAre k lw rw G → Gives k lw rw G
value = by_measure size (λ G. (k : ℕ) (lw rw : Tree → ℕ → ℤ) → AllWallsAre k lw rw G → Gives k lw rw G)
    (λ G ih k lw rw all. value_at k lw rw G all (λ j lw' rw' X o. ih X (size-option G X o) j lw' rw'))

-- the two definitions of walls are one
pub rule-is : (k : ℕ) (G : Tree) (l r : ℕ → ℤ) → HasWalls k G l r → (t : ℕ) (x : ℤ) → (IsLeftWall G k t x ↔ (x ≡ l t)) × (IsRightWall G k t x ↔ (x ≡ r t))
rule-is k G l r h t x =
    let to = by_walls k h.lw h.rw (Follows k h.lw h.rw) (λ P _. follows_at k h.lw h.rw P) G h.all t in
    let from = value G k h.lw h.rw h.all t x in (
      (λ w. from.0 w ∙ h.left_is t, λ e. subst (IsLeftWall G k t) (h.left_is t ∙ sym e) to.0),
      (λ w. from.1 w ∙ h.right_is t, λ e. subst (IsRightWall G k t) (h.right_is t ∙ sym e) to.1),
    )
