-- The attacks on the stones of a board: boards that captures reach one after the other, with their placings.
use Rattle.std.specs.Prelude.{◌≡◌, ℕ, List, Contains}
use Rattle.go_grid.specs.declared.grid.Colour.{Colour}
use Rattle.go_grid.specs.declared.grid.Colour.TheVariants.{Black, White}
use Rattle.go_grid.specs.Board.{Board, HasStone, other}
use Rattle.benson_life.specs.Life.{IsAlive}
use Rattle.benson_attack.specs.declared.attacks.Attacks.{Attacks}
use Rattle.benson_attack.specs.declared.captures.Run.{Run}
use Rattle.benson_attack.specs.declared.campaign.Campaign.{Campaign}
use Rattle.benson_attack.specs.Reached.{IsAtRest, HasFewPlacings}

-- each run leads from the board, with no more placings than the colour has stones then
abbrev pub AreRuns : Board → Colour → List Run → Type 0
AreRuns g d runs = (run : Run) → Contains runs run → IsAtRest g d run × HasFewPlacings d run

-- each run leads from the board, and a stone that stands on the boards of all of them is alive
pub record IsCampaign (g : Board) (c : Campaign) : Type 0 where
  pub each : AreRuns g c.by c.runs.items
  pub alive : (s : ℕ) → HasStone g (other c.by) s
      → ((run : Run) → Contains c.runs.items run → HasStone run.board (other c.by) s) → IsAlive g (other c.by) s

-- White attacks Black's stones, and Black White's
pub record AreAttacks (g : Board) (a : Attacks) : Type 0 where
  pub by_white : a.on_black.by ≡ White
  pub by_black : a.on_white.by ≡ Black
  pub on_black : IsCampaign g a.on_black
  pub on_white : IsCampaign g a.on_white
