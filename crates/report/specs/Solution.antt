-- The text of `solve`.
use Rattle.std.specs.Prelude.{◌≡◌, ◌++◌, ◌∷◌, [], ⊤, ℕ, List, length, sum, codes, decimal, Option, Some, None}
use Rattle.go_grid.specs.declared.grid.Colour.{Colour}
use Rattle.go_grid.specs.declared.grid.Colour.TheVariants.{Black, White}
use Rattle.whole_rules.specs.declared.money.Token.{Token}
use Rattle.whole_rules.specs.declared.money.Token.TheVariants as token
use Rattle.whole_rules.specs.declared.states.Move.{Move}
use Rattle.whole_rules.specs.FirstWinningMove.{IsFirstWinning, IsWinner}
use Rattle.whole_rules.specs.WholeGame.{Whole}
use Rattle.go_grid.specs.Region.{Region}
use Rattle.region_cut.specs.Cut.{lowest}
use Rattle.endgame_solver.specs.Solved.{Solved, IsNumberOfPositions}
use Rattle.whole_rules.specs.Moves.{move_word}
use Rattle.go_grid.specs.Name.{point_name}
use Rattle.board_words.specs.Words.{colour_word, winner_line, word_line}

-- the word for the owner of the token
abbrev pub token_word : Token → List ℕ
token_word token.Nobody = codes "none"
token_word token.Black = colour_word Black
token_word token.White = colour_word White

-- the line of a player's purse
unfoldable pub purse_line : Colour → ℕ → List ℕ
purse_line c n = codes "purse " ++ (colour_word c ++ (codes " " ++ (decimal n ++ codes "\n")))

-- the line of the first winning move, `none` where there is none
abbrev pub move_line : ℕ → Option Move → List ℕ
move_line columns None = word_line (codes "move") (codes "none")
move_line columns (Some m) = word_line (codes "move") (move_word columns m)

-- the lines of the side to move, the purses and the token
abbrev pub state_lines : Whole → List ℕ
state_lines s = word_line (codes "side") (colour_word s.side) ++ (purse_line Black s.purses.black ++ (purse_line White s.purses.white ++ word_line (codes "half") (token_word s.purses.token)))

-- a line of a label and a number
unfoldable pub count_line : List ℕ → ℕ → List ℕ
count_line label n = label ++ (codes " " ++ (decimal n ++ codes "\n"))

-- the line of a region of play: its lowest point, the number of its points and that of its reachable positions
unfoldable pub solved_line : ℕ → ℕ → ℕ → ℕ → List ℕ
solved_line columns p n positions = codes "region " ++ (point_name columns p ++ (codes " points " ++ (decimal n ++ (codes " positions " ++ (decimal positions ++ codes "\n")))))

-- a line for each region with the number of its positions
abbrev pub solved_lines : ℕ → List Region → List ℕ → List ℕ
solved_lines columns (r ∷ regions) (n ∷ numbers) = solved_line columns (lowest r) (length r.points) n ++ solved_lines columns regions numbers
solved_lines columns regions numbers = []

-- how many regions there are, a line for each, and how many positions they have together
abbrev pub regions_text : ℕ → List Region → List ℕ → List ℕ
regions_text columns regions numbers = count_line (codes "regions") (length regions) ++ (solved_lines columns regions numbers ++ count_line (codes "positions") (sum numbers))

-- the text of `solve` for a state, its regions of play with the numbers of their positions, its winner and its first winning move
abbrev pub solve_text : Whole → List Region → List ℕ → Colour → Option Move → List ℕ
solve_text s regions numbers winner move = state_lines s ++ (regions_text s.board.columns regions numbers ++ (winner_line winner ++ move_line s.board.columns move))

-- the numbers of the reachable positions of the regions, one for each
abbrev pub AreNumbersOfPositions : List Region → List ℕ → Type 0
AreNumbersOfPositions [] [] = ⊤
AreNumbersOfPositions (r ∷ regions) (n ∷ numbers) = IsNumberOfPositions r n × AreNumbersOfPositions regions numbers
AreNumbersOfPositions regions numbers = ⊥

-- behind the text stand the lines of the regions, and this is how many positions they have together
pub record HasLines (columns : ℕ) (regions : List Region) (before now : List ℕ) (total : ℕ) : Type 0 where
  pub numbers : List ℕ
  pub counted : AreNumbersOfPositions regions numbers
  pub lines : now ≡ before ++ solved_lines columns regions numbers
  pub whole : total ≡ sum numbers

-- behind the text stands what is said of the regions
pub record HasRegions (columns : ℕ) (regions : List Region) (before now : List ℕ) : Type 0 where
  pub numbers : List ℕ
  pub counted : AreNumbersOfPositions regions numbers
  pub text : now ≡ before ++ regions_text columns regions numbers

-- the text of `solve` for a solved game
pub record IsSolveText (game : Solved) (text : List ℕ) : Type 0 where
  pub numbers : List ℕ
  pub winner : Colour
  pub move : Option Move
  pub counted : AreNumbersOfPositions game.regions numbers
  pub wins : IsWinner game.state winner
  pub first : IsFirstWinning game.state move
  pub is : text ≡ solve_text game.state game.regions numbers winner move
