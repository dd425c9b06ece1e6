-- States that moves reach from an opening: what their boards hold, and who wins with budgets.
use Rattle.std.proofs.Common.{ℕ, suc, ◌≡◌, ◌<◌, inl, refl, sym, subst, arith, List, [], ◌∷◌, ◌++◌, length, get_or, Contains}
use Rattle.go_grid.specs.declared.grid.Cell.{Cell}
use Rattle.go_grid.specs.declared.grid.Colour.{Colour}
use Rattle.go_grid.specs.Board.{Board, other}
use Rattle.go_grid.specs.Region.{Region}
use Rattle.go_grid.proofs.DecidedLemmas.{Decided, alike, both, denied, either}
use Rattle.region_cut.specs.LocalBoard.{HoldsPosition}
use Rattle.whole_rules.specs.declared.states.Move.{Move}
use Rattle.whole_rules.specs.Purses.{taken_out}
use Rattle.whole_rules.specs.Walls.{Plays}
use Rattle.whole_rules.specs.WholeGame.{Whole, IsMove}
use Rattle.whole_rules.proofs.WallLaws.{Keeps}
use Rattle.short_games.specs.Tree.{Tree, Trees, none, more}
use Rattle.short_games.specs.Sum.{◌+ᵍ◌, total}
use Rattle.game_players.proofs.PlayerLaws.{loses-or_not}
use Rattle.local_trees.specs.Ending.{EndsWithin}
use Rattle.local_trees.proofs.BudgetTreeLaws.{budget_tree, colour_or_not, enough}
use Rattle.endgame_solver.specs.Decomposition.{money_tree}
use Rattle.endgame_solver.specs.Regions.{no_region}
use Rattle.endgame_solver.proofs.WholeLaws.{HoldsReached}
use Rattle.whole_budgets.specs.BudgetPlay.{Budgeted, LeadsWithin, WinsWithBudgets}
use Rattle.whole_budgets.specs.BudgetSums.{AreTreesWith, ServesFor, WinsGame}
use Rattle.whole_budgets.proofs.BudgetPlayLemmas.{with}
use Rattle.whole_budgets.proofs.BudgetSumLaws.{budget_play_ends, keeps_from, reached_from, wins_by_sum}
use Rattle.whole_budgets.specs.EngineLaws.{IsReached}
use Rattle.whole_budgets.proofs.PurseLemmas.{leads_alike, take_more}

plays_on : (s t u : Whole) (ms : List Move) (m : Move) → Plays s ms t → IsMove t m u → Plays s (ms ++ m ∷ []) u
plays_on s t u [] m e move = (u, subst (λ z. IsMove z m u) (sym e) move, refl)
plays_on s t u (k ∷ ms) m (v, first, rest) move = (v, first, plays_on v t u ms m rest move)

-- whether the player wins the game
game_or_not : (owner side : Colour) (G : Tree) → Decided (WinsGame owner side G)
game_or_not owner side G =
    let loses = loses-or_not side G in
    either _ _ (both _ _ (colour_or_not owner side) (denied _ loses)) (both _ _ (colour_or_not owner (other side)) loses)

-- trees with one kind of budgets are trees with another
pub fits : (g h : Board) (owner : Colour) (F E : Region → ℕ → Type 0) (rs : List Region) (trees : Trees)
    → ((r : Region) → Contains rs r → (j : ℕ) → F r j → E r j) → AreTreesWith g h owner F rs trees → AreTreesWith g h owner E rs trees
fits g h owner F E [] none to on = tt
fits g h owner F E [] (more G Gs) to on = absurd on
fits g h owner F E (r ∷ rs) none to on = absurd on
fits g h owner F E (r ∷ rs) (more G Gs) to ((cells, holds, (j, fit, tree)), on) = (
  (cells, holds, (j, to r (0, omega arith, refl) j fit, tree)),
  fits g h owner F E rs Gs (λ q (k, lt, is). to q (suc k, omega (arith, lt), is)) on,
)

module _ {g : Board} {regions : List Region} {t : Whole} (reached : IsReached g regions t) where
  -- each move leads to such a state
  pub reached_on : (u : Whole) (m : Move) → IsMove t m u → IsReached g regions u
  reached_on u m move =
      let alike = leads_alike t reached.untouched m u reached.less move in record {
        black_prisoners = reached.black_prisoners;
        white_prisoners = reached.white_prisoners;
        komi = reached.komi;
        side = reached.side;
        tax = reached.tax;
        start = reached.start;
        moves = reached.moves ++ m ∷ [];
        untouched = alike.behind;
        settled = reached.settled;
        cut = reached.cut;
        opening = reached.opening;
        plays = plays_on reached.start (record t { purses = reached.untouched }) (record u { purses = alike.behind }) reached.moves m reached.plays alike.move;
        less = alike.less;
      }

  -- and so does taking points out of a purse
  pub reached_less : (c : Colour) (n : ℕ) → IsReached g regions (record t { purses = taken_out c n t.purses })
  reached_less c n = record {
    black_prisoners = reached.black_prisoners;
    white_prisoners = reached.white_prisoners;
    komi = reached.komi;
    side = reached.side;
    tax = reached.tax;
    start = reached.start;
    moves = reached.moves;
    untouched = reached.untouched;
    settled = reached.settled;
    cut = reached.cut;
    opening = reached.opening;
    plays = reached.plays;
    less = take_more c n t.purses reached.untouched reached.less;
  }

  -- the same state with the purses that nothing was taken out of
  abbrev pub rich : Whole
  rich = record t { purses = reached.untouched }

  pub keeps_reached : Keeps g t
  keeps_reached =
      let keeps = keeps_from g reached.settled regions reached.cut reached.black_prisoners reached.white_prisoners reached.komi reached.side
      reached.tax reached.start rich reached.moves reached.opening reached.plays in
      record { walls = keeps.walls; contested = keeps.contested }

  pub board_long : length t.board.cells ≡ length g.cells
  board_long = keeps_reached.walls.long

  pub holds_reached : (j : ℕ) → j < length regions → (cells : List Cell) × HoldsReached g reached.settled regions reached.cut t.board j cells
  holds_reached = reached_from g reached.settled regions reached.cut reached.black_prisoners reached.white_prisoners reached.komi reached.side
      reached.tax reached.start rich reached.moves reached.opening reached.plays

  -- there are trees of the regions' positions with any budgets
  trees_of : (owner : Colour) (b : Region → ℕ) (rs : List Region)
      → ((j : ℕ) → j < length rs → (cells : List Cell) × HoldsPosition g (get_or rs j no_region) cells t.board)
      → (trees : Trees) × AreTreesWith g t.board owner (λ r j. j ≡ b r) rs trees
  trees_of owner b [] w = (none, tt)
  trees_of owner b (r ∷ rs) w =
      let (cells, holds) = w 0 (omega arith) in
      let (G, tree) = budget_tree r.touch owner (enough cells (b r)) (b r) cells in
      let (Gs, on) = trees_of owner b rs (λ j lt. w (suc j) (omega (arith, lt))) in
      (more G Gs, ((cells, holds, (b r, refl, tree)), on))

  pub trees_reached : (owner : Colour) (b : Region → ℕ) → (trees : Trees) × AreTreesWith g t.board owner (λ r j. j ≡ b r) regions trees
  trees_reached owner b = trees_of owner b regions (λ j lt. let (cells, held) = holds_reached j lt in (cells, held.1))

  pub budgets_or_not : (owner : Colour) (b : Region → ℕ) → Decided (WinsWithBudgets regions owner t b)
  budgets_or_not owner b =
      let (trees, on) = trees_reached owner b in
      let told = wins_by_sum g reached.settled regions reached.cut owner t keeps_reached holds_reached b trees
      (fits g t.board owner _ (λ r j. ServesFor r owner j (b r)) regions trees (λ r i j e. inl e) on) in
      alike _ _ told.1 told.0 (game_or_not owner t.side (total trees +ᵍ money_tree t.purses))

  -- play with budgets ends
  pub play_ends : (owner : Colour) (b : Region → ℕ) → (n : ℕ) × EndsWithin Budgeted (LeadsWithin regions owner) n (with t b)
  play_ends owner = budget_play_ends g reached.settled regions reached.cut owner t keeps_reached holds_reached
