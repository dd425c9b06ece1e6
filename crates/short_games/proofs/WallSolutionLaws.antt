-- Walls of one grid: there is one solution, and it goes on to each finer grid.
use Rattle.std.proofs.Common.{ℕ, suc, ◌/◌, ◌≡◌, ◌⊎◌, arith, inl, inr, sym, ◌∙◌, ap₂, subst, ℤ, pos, ◌+ℤ◌, ◌-ℤ◌, ◌≤ℤ◌}
use Rattle.std.proofs.lemmas.Int.{ints}
use Rattle.short_games.specs.Tree.{Tree, Trees, left, right, Has, size}
use Rattle.short_games.specs.Parts.{IsOption, IsFollower}
use Rattle.short_games.specs.Parts.IsFollower.{itself, further}
use Rattle.short_games.proofs.PartLaws.{follower-of}
use Rattle.short_games.proofs.OrderLaws.{by_measure, size-option}
use Rattle.short_games.proofs.NumberLaws.{num-double}
use Rattle.short_games.proofs.WallNumberLaws.{num-one_to_one}
use Rattle.short_games.specs.WallGrids.{IsGreatest, IsLeast, WallsAre, AllWallsAre, HasWalls, finer}
use Rattle.short_games.specs.WallGrids.WallsAre.{of_number, of_game}
use Rattle.short_games.specs.inner.Lines.{Rises, Falls}
use Rattle.short_games.proofs.LineLaws.{Doubles, finer-doubles, greatest-same, least-same, greatest-rises, least-falls, greatest-doubles, least-doubles, follow-same, left-falls, right-rises, walls-ordered, doubled}

pub all-here : (k : ℕ) (lw rw : Tree → ℕ → ℤ) (G : Tree) → AllWallsAre k lw rw G → WallsAre k lw rw G
all-here k lw rw G a = a G (itself G)

pub all-left : (k : ℕ) (lw rw : Tree → ℕ → ℤ) (G X : Tree) → AllWallsAre k lw rw G → Has (left G) X → AllWallsAre k lw rw X
all-left k lw rw G X a h P f = a P (further G X P (inl h) f)

pub all-right : (k : ℕ) (lw rw : Tree → ℕ → ℤ) (G X : Tree) → AllWallsAre k lw rw G → Has (right G) X → AllWallsAre k lw rw X
all-right k lw rw G X a h P f = a P (further G X P (inr h) f)

pub all-from : (k : ℕ) (lw rw : Tree → ℕ → ℤ) (G : Tree) → WallsAre k lw rw G → ((X : Tree) → IsOption G X → AllWallsAre k lw rw X) → AllWallsAre k lw rw G
all-from k lw rw G a f P h = at P (follower-of G P h)
  where
    at : (P : Tree) → (P ≡ G) ⊎ ((H : Tree) × IsOption G H × IsFollower H P) → WallsAre k lw rw P
    at P (inl i) = subst (WallsAre k lw rw) (sym i) a
    at P (inr (H, o, h)) = f H o P h

-- what holds of a tree with walls where it holds of its options, holds of each tree with walls
pub by_walls : (k : ℕ) (lw rw : Tree → ℕ → ℤ) (Q : Tree → Type 0)
    → ((G : Tree) → AllWallsAre k lw rw G → ((X : Tree) → IsOption G X → Q X) → WallsAre k lw rw G → Q G)
    → (G : Tree) → AllWallsAre k lw rw G → Q G
by_walls k lw rw Q step = by_measure size (λ G. AllWallsAre k lw rw G → Q G)
    (λ G ih a. step G a (λ X o. ih X (size-option G X o) (λ P f. a P (further G X P o f))) (all-here k lw rw G a))

-- two solutions agree
abbrev SameWalls : (lw rw lw' rw' : Tree → ℕ → ℤ) → Tree → Type 0
SameWalls lw rw lw' rw' G = (t : ℕ) → (lw G t ≡ lw' G t) × (rw G t ≡ rw' G t)

module _ (k : ℕ) (lw rw lw' rw' : Tree → ℕ → ℤ) where
  unique_at : (G : Tree) → ((X : Tree) → IsOption G X → SameWalls lw rw lw' rw' X) → WallsAre k lw rw G → WallsAre k lw' rw' G → SameWalls lw rw lw' rw' G
  unique_at G f (of_number x i p q) (of_number y j r s) t = let same : x ≡ y = num-one_to_one k x y (sym i ∙ j) in
      (p t ∙ same ∙ sym (r t), q t ∙ same ∙ sym (s t))
  unique_at G f (of_number x i p q) (of_game n L R h h' w) t = absurd (n (k, x, i))
  unique_at G f (of_game n L R h h' w) (of_number x i p q) t = absurd (n (k, x, i))
  unique_at G f (of_game n L R h h' w) (of_game n' M S j j' v) t = follow-same L R M S t _ _ _ _
      (λ u. omega (arith, ints, greatest-same (λ X. rw X u) (λ X. rw' X u) (left G) _ _ (λ X x. (f X (inl x) u).1) (h u) (j u)))
      (λ u. omega (arith, ints, least-same (λ X. lw X u) (λ X. lw' X u) (right G) _ _ (λ X x. (f X (inr x) u).0) (h' u) (j' u))) (w t) (v t)

  pub walls-unique : (G : Tree) → AllWallsAre k lw rw G → AllWallsAre k lw' rw' G → (t : ℕ) → (lw G t ≡ lw' G t) × (rw G t ≡ rw' G t)
  walls-unique = by_walls k lw rw (λ G. AllWallsAre k lw' rw' G → SameWalls lw rw lw' rw' G)
      (λ G _ f w b. unique_at G (λ X o. f X o (λ P h. b P (further G X P o h))) w (all-here k lw' rw' G b))

-- what left walls and right walls are like
pub record IsSteady (l r : ℕ → ℤ) : Type 0 where
  pub falls : Falls l
  pub rises : Rises r
  pub ordered : (t : ℕ) → r t ≤ℤ l t

module _ (k : ℕ) (lw rw : Tree → ℕ → ℤ) where
  pub left_scaffold-falls : (Gs : Trees) (L : ℕ → ℤ) → ((X : Tree) → Has Gs X → IsSteady (lw X) (rw X)) → ((t : ℕ) → IsGreatest (λ X. rw X t) Gs (L t +ℤ pos t)) → Falls L
  left_scaffold-falls Gs L f h = let g = greatest-rises rw Gs (λ t. L t +ℤ pos t) (λ X x. (f X x).rises) h in
      record { no_rise = λ t. omega (arith, ints, g.by_one t); by_one = λ t. omega (arith, ints, g.no_fall t) }

  pub right_scaffold-rises : (Gs : Trees) (R : ℕ → ℤ) → ((X : Tree) → Has Gs X → IsSteady (lw X) (rw X)) → ((t : ℕ) → IsLeast (λ X. lw X t) Gs (R t -ℤ pos t)) → Rises R
  right_scaffold-rises Gs R f h = let g = least-falls lw Gs (λ t. R t -ℤ pos t) (λ X x. (f X x).falls) h in
      record { no_fall = λ t. omega (arith, ints, g.by_one t); by_one = λ t. omega (arith, ints, g.no_rise t) }

  steady_at : (G : Tree) → ((X : Tree) → IsOption G X → IsSteady (lw X) (rw X)) → WallsAre k lw rw G → IsSteady (lw G) (rw G)
  steady_at G f (of_number x i p q) = record {
    falls = record { no_rise = λ t. omega (arith, ints, p t, p (suc t)); by_one = λ t. omega (arith, ints, p t, p (suc t)) };
    rises = record { no_fall = λ t. omega (arith, ints, q t, q (suc t)); by_one = λ t. omega (arith, ints, q t, q (suc t)) };
    ordered = λ t. omega (arith, ints, p t, q t);
  }
  steady_at G f (of_game n L R h h' w) =
      let a = left_scaffold-falls (left G) L (λ X x. f X (inl x)) h in
      let b = right_scaffold-rises (right G) R (λ X x. f X (inr x)) h' in
      record { falls = left-falls L R (lw G) (rw G) a b w; rises = right-rises L R (lw G) (rw G) a b w; ordered = walls-ordered L R (lw G) (rw G) a b w }

  pub walls-steady : (G : Tree) → AllWallsAre k lw rw G → IsSteady (lw G) (rw G)
  walls-steady = by_walls k lw rw (λ G. IsSteady (lw G) (rw G)) (λ G _. steady_at G)

  -- a scaffold at half steps
  pub left_scaffold-doubles : (lw' rw' : Tree → ℕ → ℤ) (Gs : Trees) (L L' : ℕ → ℤ) → ((X : Tree) → Has Gs X → Rises (rw X)) → ((X : Tree) → Has Gs X → Doubles (rw X) (rw' X)) → Doubles L L' → ((t : ℕ) → IsGreatest (λ X. rw X t) Gs (L t +ℤ pos t))
      → (t : ℕ) → IsGreatest (λ X. rw' X t) Gs (L' t +ℤ pos t)
  left_scaffold-doubles lw' rw' Gs L L' f d e h = greatest-doubles rw Gs (λ t. L t +ℤ pos t) rw' (λ t. L' t +ℤ pos t) f d
      record { at_even = λ t. omega (arith, ints, e.at_even t); at_odd = λ t. omega (arith, ints, e.at_odd t) } h

  pub right_scaffold-doubles : (lw' rw' : Tree → ℕ → ℤ) (Gs : Trees) (R R' : ℕ → ℤ) → ((X : Tree) → Has Gs X → Falls (lw X)) → ((X : Tree) → Has Gs X → Doubles (lw X) (lw' X)) → Doubles R R' → ((t : ℕ) → IsLeast (λ X. lw X t) Gs (R t -ℤ pos t))
      → (t : ℕ) → IsLeast (λ X. lw' X t) Gs (R' t -ℤ pos t)
  right_scaffold-doubles lw' rw' Gs R R' f d e h = least-doubles lw Gs (λ t. R t -ℤ pos t) f lw' (λ t. R' t -ℤ pos t) d
      record { at_even = λ t. omega (arith, ints, e.at_even t); at_odd = λ t. omega (arith, ints, e.at_odd t) } h

  finer_at : (G : Tree) → AllWallsAre k lw rw G → WallsAre k lw rw G → WallsAre (suc k) (λ X. finer (lw X)) (λ X. finer (rw X)) G
  finer_at G a (of_number x i p q) = of_number (x +ℤ x) (i ∙ sym (num-double k x)) (λ t. ap₂ ◌+ℤ◌ (p (t / 2)) (p (suc t / 2))) (λ t. ap₂ ◌+ℤ◌ (q (t / 2)) (q (suc t / 2)))
  finer_at G a (of_game n L R h h' w) =
      let lefts : (X : Tree) → Has (left G) X → IsSteady (lw X) (rw X) = λ X x. walls-steady X (all-left k lw rw G X a x) in
      let rights : (X : Tree) → Has (right G) X → IsSteady (lw X) (rw X) = λ X x. walls-steady X (all-right k lw rw G X a x) in
      of_game n (finer L) (finer R)
      (left_scaffold-doubles (λ X. finer (lw X)) (λ X. finer (rw X)) (left G) L (finer L) (λ X x. (lefts X x).rises) (λ X x. finer-doubles (rw X)) (finer-doubles L) h)
      (right_scaffold-doubles (λ X. finer (lw X)) (λ X. finer (rw X)) (right G) R (finer R) (λ X x. (rights X x).falls) (λ X x. finer-doubles (lw X)) (finer-doubles R) h')
      (doubled L R (lw G) (rw G) (left_scaffold-falls (left G) L lefts h) (right_scaffold-rises (right G) R rights h') w (finer L) (finer R) (finer (lw G)) (finer (rw G)) (finer-doubles L) (finer-doubles R) (finer-doubles (lw G)) (finer-doubles (rw G)))

  -- the walls of one grid are those of the next finer one, straight between neighbours
  pub walls-finer : (G : Tree) → AllWallsAre k lw rw G → AllWallsAre (suc k) (λ X. finer (lw X)) (λ X. finer (rw X)) G
  walls-finer = by_walls k lw rw (AllWallsAre (suc k) (λ X. finer (lw X)) (λ X. finer (rw X)))
      (λ G a f w. all-from (suc k) (λ X. finer (lw X)) (λ X. finer (rw X)) G (finer_at G a w) f)

pub has_walls-unique : (k : ℕ) (G : Tree) (l r l' r' : ℕ → ℤ) → HasWalls k G l r → HasWalls k G l' r' → (t : ℕ) → (l t ≡ l' t) × (r t ≡ r' t)
has_walls-unique k G l r l' r' p q t = let s = walls-unique k p.lw p.rw q.lw q.rw G p.all q.all t in
    (sym (p.left_is t) ∙ s.0 ∙ q.left_is t, sym (p.right_is t) ∙ s.1 ∙ q.right_is t)

pub has_walls-finer : (k : ℕ) (G : Tree) (l r : ℕ → ℤ) → HasWalls k G l r → HasWalls (suc k) G (finer l) (finer r)
has_walls-finer k G l r p = record {
  lw = λ X. finer (p.lw X);
  rw = λ X. finer (p.rw X);
  all = walls-finer k p.lw p.rw G p.all;
  left_is = λ t. ap₂ ◌+ℤ◌ (p.left_is (t / 2)) (p.left_is (suc t / 2));
  right_is = λ t. ap₂ ◌+ℤ◌ (p.right_is (t / 2)) (p.right_is (suc t / 2));
}
