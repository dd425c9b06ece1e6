-- What has been drawn so far.
use Rattle.std.specs.declared.alloc.Global.{Global}
use Rattle.std.specs.Prelude.{ℕ, ◌≡◌, ◌<◌, length, ℤ, pos, unsigned_abs, ◌<ℤ◌, Bool, List, Vec, Some}
use Rattle.dyadic_num.specs.declared.TheConstants.{EXPONENT, LIMIT}
use Rattle.short_games.specs.Tree.{Tree, tree_at}
use Rattle.thermograph.specs.declared.breaks.Break.{Break}
use Rattle.thermograph.specs.declared.drawings.Drawing.{Drawing}
use Rattle.short_games.specs.WallGrids.{HasWalls}
use Rattle.thermograph.specs.Breaks.{wall_at, IsPath}
use Rattle.thermograph.specs.inner.Breaks.{IsLevel}
use Rattle.thermograph.specs.inner.Scaffolds.{wall_of, AreApart, IsTraced}
use Rattle.thermograph.specs.inner.Flags.{IsFlagged, IsInnerId}
use Rattle.thermograph.specs.Drawings.{AreBreaks, IsTemperature, end_of}

-- the two lists draw the walls of G
pub record IsDrawn (G : Tree) (l r : List Break) : Type 0 where
  pub walls : HasWalls EXPONENT G (wall_at l) (wall_at r)
  pub left_level : IsLevel l
  pub right_level : IsLevel r
  pub left_path : IsPath l
  pub right_path : IsPath r

-- the drawing is of G: both walls by their break points up to the temperature, the temperature, and the mean
pub record IsDrawing (G : Tree) (g : Drawing) : Type 0 where
  pub drawn : IsDrawn G g.left.items g.right.items
  pub temperature : IsTemperature G (wall_at g.left.items) (wall_at g.right.items) g.temperature g.mean
  pub left_breaks : AreBreaks g.left.items (end_of g.temperature)
  pub right_breaks : AreBreaks g.right.items (end_of g.temperature)
  pub end : end_of g.temperature < unsigned_abs LIMIT

-- the scaffolds first meet at the temperature, and both lists go along them until there
pub record IsJoined (L R : ℕ → ℤ) (g : Drawing) : Type 0 where
  pub meeting : ℕ
  pub early : meeting < unsigned_abs LIMIT
  pub temperature_is : g.temperature ≡ Some (pos meeting)
  pub left_mean : L meeting ≡ g.mean
  pub right_mean : R meeting ≡ g.mean
  pub apart : AreApart L R meeting
  pub left_traced : IsTraced L meeting g.left.items
  pub right_traced : IsTraced R meeting g.right.items

-- the right scaffold comes to be greater without being equal at a place before
pub record Jumps (L R : ℕ → ℤ) : Type 0 where
  pub place : ℕ
  pub passed : L place <ℤ R place
  pub apart : AreApart L R place

-- the walls of the options of a form are among those of the ids below it
pub record AreDrawnBelow (Ts : List Tree) (id : ℕ) (lefts rights : List (Vec Break Global)) : Type 0 where
  pub left_count : length lefts ≡ id
  pub right_count : length rights ≡ id
  pub drawn : (i : ℕ) → IsInnerId Ts id i → IsDrawn (tree_at Ts i) (wall_of lefts i) (wall_of rights i)

-- the walls of the first ids, where those that are flagged are drawn
pub record AreDrawn (Ts : List Tree) (flags : List Bool) (count : ℕ) (lefts rights : List (Vec Break Global)) : Type 0 where
  pub left_count : length lefts ≡ count
  pub right_count : length rights ≡ count
  pub drawn : (i : ℕ) → i < count → IsFlagged flags i → IsDrawn (tree_at Ts i) (wall_of lefts i) (wall_of rights i)
