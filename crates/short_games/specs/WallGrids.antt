-- Walls of canonical trees on a grid: here t stands for t / 2 ^ k and x for x / 2 ^ k, with one k for all places.
use Rattle.std.specs.Prelude.{ℕ, suc, ◌/◌, ◌+◌, ◌-◌, ◌≡◌, ◌<◌, ◌≤◌, ℤ, pos, ◌+ℤ◌, ◌-ℤ◌, ◌<ℤ◌, ◌≤ℤ◌}
use Rattle.short_games.specs.Tree.{Tree, Trees, left, right, Has}
use Rattle.short_games.specs.Number.{num, IsNumberTree}
use Rattle.short_games.specs.Parts.{IsFollower}

-- x is the greatest of what f gives for the trees of the list
pub record IsGreatest (f : Tree → ℤ) (Gs : Trees) (x : ℤ) : Type 0 where
  pub bound : (G : Tree) → Has Gs G → f G ≤ℤ x
  pub reached : (G : Tree) × Has Gs G × (f G ≡ x)

-- x is the least of what f gives for the trees of the list
pub record IsLeast (f : Tree → ℤ) (Gs : Trees) (x : ℤ) : Type 0 where
  pub bound : (G : Tree) → Has Gs G → x ≤ℤ f G
  pub reached : (G : Tree) × Has Gs G × (f G ≡ x)

-- the walls at t where L and R are the scaffolds: these, as long as the left one is greater, and from their first
-- meeting on what both are there
pub data Follow (L R : ℕ → ℤ) (t : ℕ) (l r : ℤ) : Type 0 where
  apart : ((v : ℕ) → v ≤ t → R v <ℤ L v) → l ≡ L t → r ≡ R t → Follow L R t l r
  met : (u : ℕ) → u ≤ t → L u ≡ R u → ((v : ℕ) → v < u → R v <ℤ L v) → l ≡ L u → r ≡ R u → Follow L R t l r

-- the walls of the canonical tree G, where lw and rw give those of its options. Of a number both are the number; else the left scaffold is
-- the greatest right wall of a Left option, less t, and the right scaffold the least left wall of a Right option, and t
pub data WallsAre (k : ℕ) (lw rw : Tree → ℕ → ℤ) (G : Tree) : Type 0 where
  of_number : (x : ℤ) → G ≡ num k x → ((t : ℕ) → lw G t ≡ x) → ((t : ℕ) → rw G t ≡ x) → WallsAre k lw rw G
  of_game : (IsNumberTree G → ⊥) → (L R : ℕ → ℤ) → ((t : ℕ) → IsGreatest (λ X. rw X t) (left G) (L t +ℤ pos t)) → ((t : ℕ) → IsLeast (λ X. lw X t) (right G) (R t -ℤ pos t))
      → ((t : ℕ) → Follow L R t (lw G t) (rw G t)) → WallsAre k lw rw G

-- lw and rw give the walls of each follower of G, of G itself among them
abbrev pub AllWallsAre : (k : ℕ) (lw rw : Tree → ℕ → ℤ) → Tree → Type 0
AllWallsAre k lw rw G = (P : Tree) → IsFollower G P → WallsAre k lw rw P

-- l and r are the walls of the canonical tree G at all multiples of 2 ^ -k
pub record HasWalls (k : ℕ) (G : Tree) (l r : ℕ → ℤ) : Type 0 where
  pub lw : Tree → ℕ → ℤ
  pub rw : Tree → ℕ → ℤ
  pub all : AllWallsAre k lw rw G
  pub left_is : (t : ℕ) → lw G t ≡ l t
  pub right_is : (t : ℕ) → rw G t ≡ r t

-- a wall on the grid of half the distance, from the one on a grid: straight between two neighbours
abbrev pub finer : (ℕ → ℤ) → ℕ → ℤ
finer f t = f (t / 2) +ℤ f (suc t / 2)

-- the temperature u of a game whose walls are l and r, where they first meet, and the mast's value x there, called the mean
pub record IsMeeting (l r : ℕ → ℤ) (u : ℕ) (x : ℤ) : Type 0 where
  pub left_at : l u ≡ x
  pub right_at : r u ≡ x
  pub before : (v : ℕ) → v < u → r v <ℤ l v

-- the temperature of the canonical tree G lies in the middle of two neighbouring multiples of 2 ^ -k
pub record HasTemperatureBetween (k : ℕ) (G : Tree) : Type 0 where
  pub left : ℕ → ℤ
  pub right : ℕ → ℤ
  pub place : ℕ
  pub mean : ℤ
  pub walls : HasWalls (suc k) G left right
  pub meets : IsMeeting left right (suc (place + place)) mean

-- the slope of the line changes at t
abbrev pub Bends : (ℕ → ℤ) → ℕ → Type 0
Bends f t = (f (t - 1) +ℤ f (t + 1) ≡ f t +ℤ f t → ⊥)
