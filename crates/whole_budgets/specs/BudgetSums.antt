-- Who wins with budgets is the sign of a sum: of trees with these budgets, and of the money.
use Rattle.std.specs.Prelude.{ℕ, ℤ, ◌≡◌, ◌≤◌, ◌⊎◌, ◌↔◌, List, [], ◌∷◌, Bool}
use Rattle.go_grid.specs.declared.grid.Cell.{Cell}
use Rattle.go_grid.specs.declared.grid.Colour.{Colour}
use Rattle.go_grid.specs.Board.{Board, other}
use Rattle.go_grid.specs.Chain.{IsSettled}
use Rattle.go_grid.specs.Region.{Region}
use Rattle.region_cut.specs.Cut.{AreRegionsOfPlay}
use Rattle.region_cut.specs.LocalBoard.{HoldsPosition}
use Rattle.whole_rules.specs.declared.states.Move.{Move}
use Rattle.whole_rules.specs.FirstWinningMove.{IsWinner}
use Rattle.whole_rules.specs.Opening.{IsOpening}
use Rattle.whole_rules.specs.Walls.{Plays}
use Rattle.whole_rules.specs.WholeGame.{Whole}
use Rattle.short_games.specs.Tree.{Tree, Trees, none, more}
use Rattle.short_games.specs.Sum.{◌+ᵍ◌, total}
use Rattle.game_players.specs.Players.{LosesGame}
use Rattle.local_trees.specs.BudgetTree.{IsBudgetTree}
use Rattle.local_trees.specs.Steady.{IsSteady}
use Rattle.endgame_solver.specs.Decomposition.{money_tree}
use Rattle.whole_budgets.specs.BudgetPlay.{WinsWithBudgets}

-- in the region the first budget serves for the second: it is the same, or a smaller one at which the region is steady
abbrev pub ServesFor : Region → Colour → ℕ → ℕ → Type 0
ServesFor r owner j i = (j ≡ i) ⊎ ((j ≤ i) × IsSteady r.touch r.cells owner j)

-- trees of the positions that the board holds in the regions, where the owner has a fit budget in each
abbrev pub AreTreesWith : Board → Board → Colour → (Region → ℕ → Type 0) → List Region → Trees → Type 0
AreTreesWith g h owner IsFit [] none = Unit {0}
AreTreesWith g h owner IsFit (r ∷ rs) (more G Gs) =
    ((cells : List Cell) × HoldsPosition g r cells h × ((j : ℕ) × IsFit r j × IsBudgetTree r.touch owner j cells G))
    × AreTreesWith g h owner IsFit rs Gs
AreTreesWith g h owner IsFit _ _ = ⊥

-- trees with budgets that serve for the owner's
abbrev pub AreBudgetTreesOn : Board → Board → Colour → (Region → ℕ) → List Region → Trees → Type 0
AreBudgetTreesOn g h owner b = AreTreesWith g h owner (λ r j. ServesFor r owner j (b r))

-- trees with budgets at which the regions are steady for the owner
abbrev pub AreSteadyTreesOn : Board → Board → Colour → List Region → Trees → Type 0
AreSteadyTreesOn g h owner = AreTreesWith g h owner (λ r j. IsSteady r.touch r.cells owner j)

-- the player wins the game where the second player moves first
abbrev pub WinsGame : Colour → Colour → Tree → Type 0
WinsGame owner side G = ((owner ≡ side) × ¬ LosesGame side G) ⊎ ((owner ≡ other side) × LosesGame side G)

-- From each state that moves reach from the opening of a settled board: a player wins with budgets exactly where the sum of trees
-- with budgets that serve for them, and of the money, says so.
abbrev pub BudgetsDecompose : Type 0
BudgetsDecompose = (g : Board) (regions : List Region) (black white : ℕ) (komi : ℤ) (side : Colour) (tax : Bool) (s t : Whole) (ms : List Move)
    → IsSettled g → AreRegionsOfPlay g regions → IsOpening g black white komi side tax s → Plays s ms t
    → (owner : Colour) (b : Region → ℕ) (trees : Trees) → AreBudgetTreesOn g t.board owner b regions trees
    → WinsWithBudgets regions owner t b ↔ WinsGame owner t.side (total trees +ᵍ money_tree t.purses)

-- And the player wins by plain recursion exactly where the sum of trees with budgets at which the regions are steady says so.
abbrev pub SteadyDecides : Type 0
SteadyDecides = (g : Board) (regions : List Region) (black white : ℕ) (komi : ℤ) (side : Colour) (tax : Bool) (s t : Whole) (ms : List Move)
    → IsSettled g → AreRegionsOfPlay g regions → IsOpening g black white komi side tax s → Plays s ms t
    → (owner : Colour) (trees : Trees) → AreSteadyTreesOn g t.board owner regions trees
    → IsWinner t owner ↔ WinsGame owner t.side (total trees +ᵍ money_tree t.purses)
