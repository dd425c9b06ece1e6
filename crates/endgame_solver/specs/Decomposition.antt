-- The decomposition law over whole boards: who loses the whole game is the sign of a sum.
use Rattle.std.specs.Prelude.{ℕ, ℤ, ◌⊎◌, ◌↔◌, ◌^◌, ◌+ℤ◌, List, [], ◌∷◌, length, Contains, Bool}
use Rattle.go_grid.specs.declared.grid.Cell.{Cell}
use Rattle.go_grid.specs.declared.grid.Colour.{Colour}
use Rattle.go_grid.specs.declared.grid.Colour.TheVariants.{Black, White}
use Rattle.go_grid.specs.Chain.{IsSettled}
use Rattle.go_grid.specs.Board.{Board}
use Rattle.go_grid.specs.Region.{Region}
use Rattle.whole_rules.specs.declared.money.Purses.{Purses}
use Rattle.whole_rules.specs.declared.states.Move.{Move}
use Rattle.whole_rules.specs.Opening.{IsOpening}
use Rattle.whole_rules.specs.PlainRecursion.{MoverWins, MoverLoses}
use Rattle.whole_rules.specs.Walls.{Plays}
use Rattle.whole_rules.specs.WholeGame.{Whole}
use Rattle.whole_rules.specs.WholeGame as whole
use Rattle.local_graph.specs.FiniteLocalPlay.{HasNoCycle}
use Rattle.region_cut.specs.Cut.{AreRegionsOfPlay}
use Rattle.region_cut.specs.LocalBoard.{HoldsPosition}
use Rattle.short_games.specs.Tree.{Tree, Trees, none, more}
use Rattle.short_games.specs.Number.{num}
use Rattle.short_games.specs.Sum.{◌+ᵍ◌, total}
use Rattle.game_players.specs.Players.{credit, LosesGame}
use Rattle.local_trees.specs.PositionTree.{IsTreeOf}
use Rattle.endgame_solver.specs.SumGame.{token_tree}

-- the trees of the positions that the board holds in the regions
abbrev pub AreTreesOn : Board → Board → List Region → Trees → Type 0
AreTreesOn g h [] none = Unit {0}
AreTreesOn g h (r ∷ rs) (more G Gs) = ((cells : List Cell) × HoldsPosition g r cells h × IsTreeOf r.touch (3 ^ length cells) cells G) × AreTreesOn g h rs Gs
AreTreesOn g h _ _ = ⊥

-- Black's purse less White's, with the token's half
abbrev pub money_tree : Purses → Tree
money_tree m = num 0 (credit Black m.black +ℤ credit White m.white) +ᵍ token_tree m.token

-- Where no region of a settled board has a cycle, each state that moves reach from the opening has a winner, and there are trees
-- of its regions' positions. Whatever these are, the player to move loses exactly where their sum and the money is at most 0 for
-- Black, at least 0 for White.
abbrev pub WholeDecomposes : Type 0
WholeDecomposes = (g : Board) (regions : List Region) (black white : ℕ) (komi : ℤ) (side : Colour) (tax : Bool) (s t : Whole) (ms : List Move)
    → IsSettled g → AreRegionsOfPlay g regions → ((r : Region) → Contains regions r → HasNoCycle r.touch r.cells)
    → IsOpening g black white komi side tax s → Plays s ms t
    → (MoverWins Whole whole.Leads t ⊎ MoverLoses Whole whole.Leads t)
    × ((trees : Trees) × AreTreesOn g t.board regions trees)
    × ((trees : Trees) → AreTreesOn g t.board regions trees
    → MoverLoses Whole whole.Leads t ↔ LosesGame t.side (total trees +ᵍ money_tree t.purses))
