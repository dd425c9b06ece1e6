-- The line of play: the best stones in regions that are no numbers, one after the other, and what they leave of a threshold.
use Rattle.std.specs.Prelude.{ℕ, ℤ, ◌^◌, ◌≡◌, ◌≤◌, ◌≤ℤ◌, List, [], ◌∷◌, ◌++◌, length, Contains}
use Rattle.go_grid.specs.declared.grid.Cell.{Cell}
use Rattle.go_grid.specs.declared.grid.Colour.{Colour}
use Rattle.go_grid.specs.declared.grid.Colour.TheVariants.{Black, White}
use Rattle.go_grid.specs.Board.{Board}
use Rattle.go_grid.specs.Region.{Region}
use Rattle.whole_rules.specs.declared.states.Move.TheVariants.{Stone}
use Rattle.whole_rules.specs.OpeningWith.{Ground, OpensWith}
use Rattle.whole_rules.specs.Threshold.{IsThreshold, IsThresholdAfter, stones}
use Rattle.whole_rules.specs.Walls.{Plays}
use Rattle.whole_rules.specs.WholeGame.{Whole, IsLegal, IsMove}
use Rattle.region_cut.specs.LocalBoard.{HoldsPosition}
use Rattle.short_games.specs.Tree.{Tree}
use Rattle.short_games.specs.Number.{IsNumber}
use Rattle.local_trees.specs.PositionTree.{IsTreeOf}
use Rattle.endgame_solver.specs.Thresholds.{IsWithoutCycle}

-- no tree of the region's present position is equal to a number
abbrev pub IsHot : Board → Board → Region → Type 0
IsHot g h r = (cells : List Cell) (G : Tree) → HoldsPosition g r cells h → IsTreeOf r.touch (3 ^ length cells) cells G → ¬ IsNumber G

-- a legal stone of the side to move in a hot region
abbrev pub IsHotStone : Board → List Region → Whole → ℕ → Type 0
IsHotStone g regions t p = IsLegal t (Stone p) × ((r : Region) × Contains regions r × Contains r.points p × IsHot g t.board r)

-- to the player who moves the first threshold is at least as good as the second: Black wants a great one, White a small one
abbrev pub IsAsGood : Colour → ℤ → ℤ → Type 0
IsAsGood Black K L = L ≤ℤ K
IsAsGood White K L = K ≤ℤ L

-- the stone is in a hot region of the state that the stones lead to, and no other such stone has a better threshold
pub record IsBestStone (x : Ground) (regions : List Region) (c : Colour) (ps : List ℕ) (t : Whole) (p : ℕ) : Type 0 where
  pub hot : IsHotStone x.board regions t p
  pub best : (q : ℕ) (K L : ℤ) → IsHotStone x.board regions t q → IsThresholdAfter x c (ps ++ p ∷ []) K → IsThresholdAfter x c (ps ++ q ∷ []) L
      → IsAsGood t.side K L

-- of the best stones the first by point
pub record IsFirstBestStone (x : Ground) (regions : List Region) (c : Colour) (ps : List ℕ) (t : Whole) (p : ℕ) : Type 0 where
  pub best : IsBestStone x regions c ps t p
  pub first : (q : ℕ) → IsBestStone x regions c ps t q → p ≤ q

-- no region of the state is hot
abbrev pub NoneIsHot : Board → List Region → Whole → Type 0
NoneIsHot g regions t = (r : Region) → Contains regions r → ¬ IsHot g t.board r

-- From the state that the stones `ps` lead to, the stones `qs` lead on to the last one, and each is the first of the best stones
-- after all those before it.
abbrev pub LeadsByBest : Ground → List Region → Colour → List ℕ → Whole → List ℕ → Whole → Type 0
LeadsByBest x regions c ps s [] t = s ≡ t
LeadsByBest x regions c ps s (q ∷ qs) t =
    IsFirstBestStone x regions c ps s q × ((u : Whole) × IsMove s (Stone q) u × LeadsByBest x regions c (ps ++ q ∷ []) u qs t)

-- the line of an opening: each stone is the first of the best after those before it, and after all of them no region is hot
abbrev pub IsLine : Ground → List Region → Whole → List ℕ → Type 0
IsLine x regions s qs = (t : Whole) × LeadsByBest x regions s.side [] s qs t × NoneIsHot x.board regions t

-- the line of each ground that the state opens with this komi and on which no region has a cycle
abbrev pub IsLineFrom : List Region → Whole → ℤ → List ℕ → Type 0
IsLineFrom regions s k qs = (x : Ground) → IsWithoutCycle x regions → OpensWith x k s.side s → IsLine x regions s qs

-- no stone has a better threshold than the state in which it is played
abbrev pub NoStoneIsBetter : Type 0
NoStoneIsBetter = (x : Ground) (regions : List Region) (k : ℤ) (c : Colour) (s t : Whole) (ps : List ℕ) (p : ℕ) (K L : ℤ)
    → IsWithoutCycle x regions → OpensWith x k c s → Plays s (stones ps) t → IsLegal t (Stone p)
    → IsThresholdAfter x c ps K → IsThresholdAfter x c (ps ++ p ∷ []) L → IsAsGood t.side K L

-- the best stone in a hot region loses nothing: its threshold is that of the state in which it is played
abbrev pub BestStoneLosesNothing : Type 0
BestStoneLosesNothing = (x : Ground) (regions : List Region) (k : ℤ) (c : Colour) (s t : Whole) (ps : List ℕ) (p : ℕ) (K : ℤ)
    → IsWithoutCycle x regions → OpensWith x k c s → Plays s (stones ps) t
    → IsBestStone x regions c ps t p → IsThresholdAfter x c ps K → IsThresholdAfter x c (ps ++ p ∷ []) K

-- a line loses nothing: after its stones, as far as they have been played, the threshold is that of the opening
abbrev pub LineLosesNothing : Type 0
LineLosesNothing = (x : Ground) (regions : List Region) (k : ℤ) (c : Colour) (s t : Whole) (qs : List ℕ) (K : ℤ) → IsWithoutCycle x regions
    → OpensWith x k c s → LeadsByBest x regions c [] s qs t → IsThreshold x c K → IsThresholdAfter x c qs K

-- a state has at most one line
abbrev pub HasOneLine : Type 0
HasOneLine = (x : Ground) (regions : List Region) (s : Whole) (qs rs : List ℕ) → IsLine x regions s qs → IsLine x regions s rs → qs ≡ rs
