-- The texts of `margin`, `moves` and `line`, where points are named by `name`.
use Rattle.std.specs.Prelude.{ℕ, zero, suc, ℤ, ◌≡◌, ◌⊎◌, ◌↔◌, ◌++◌, List, [], ◌∷◌, length, Bool, true, false, IsTrue, codes, decimal}
use Rattle.go_grid.specs.declared.grid.Colour.{Colour}
use Rattle.go_grid.specs.declared.grid.Colour.TheVariants.{Black, White}
use Rattle.go_grid.specs.Board.{Board, other}
use Rattle.go_grid.specs.Region.{Region}
use Rattle.whole_rules.specs.declared.states.Move.{Move}
use Rattle.whole_rules.specs.declared.states.Move.TheVariants.{Stone, Spend, Half}
use Rattle.whole_rules.specs.FirstWinningMove.{IsWinner, IsWinning}
use Rattle.whole_rules.specs.WholeGame.{Whole, IsLegal}
use Rattle.board_words.specs.Words.{colour_word, winner_line, word_line}
use Rattle.fault_words.specs.declared.naming.Naming.{Naming}
use Rattle.fault_words.specs.Naming.{name_by}
use Rattle.endgame_solver.specs.PlayLine.{IsLineFrom}
use Rattle.endgame_solver.specs.Thresholds.{IsThresholdFrom}
use Rattle.report.specs.Komi.{komi_line}

-- the name of a point of the board
abbrev pub name_on : Naming → Board → ℕ → List ℕ
name_on naming g = name_by naming g.columns g.rows

-- the lines on the side to move, the komi and the winner
abbrev pub opening_lines : Colour → ℤ → Colour → List ℕ
opening_lines side k winner = word_line (codes "side") (colour_word side) ++ (komi_line (codes "komi") k ++ winner_line winner)

-- the lines on the thresholds of Black and of White moving first
abbrev pub first_lines : ℤ → ℤ → List ℕ
first_lines black white = komi_line (codes "black first") black ++ komi_line (codes "white first") white

-- the text of `margin` for a state that opens with this komi
pub record IsMarginText (s : Whole) (k : ℤ) (text : List ℕ) : Type 0 where
  pub winner : Colour
  pub black : ℤ
  pub white : ℤ
  pub wins : IsWinner s winner
  pub black_first : IsThresholdFrom s k Black [] black
  pub white_first : IsThresholdFrom s k White [] white
  pub is : text ≡ opening_lines s.side k winner ++ first_lines black white

-- the word for a move that wins or doesn't
abbrev pub outcome_word : Bool → List ℕ
outcome_word true = codes "wins"
outcome_word false = codes "loses"

-- the line of a stone: its point, whether it wins, and its threshold
unfoldable pub stone_line : (ℕ → List ℕ) → ℕ → Bool → ℤ → List ℕ
stone_line name p wins K = codes "stone " ++ (name p ++ (codes " " ++ komi_line (outcome_word wins) K))

-- what is said of a stone of the side to move: a line where it is legal, and else nothing
abbrev pub IsStoneText : (ℕ → List ℕ) → Whole → ℤ → ℕ → List ℕ → Type 0
IsStoneText name s k p text = (¬ IsLegal s (Stone p) × (text ≡ []))
    ⊎ (IsLegal s (Stone p) × ((wins : Bool) × ((K : ℤ) × (IsTrue wins ↔ IsWinning s (Stone p)) × IsThresholdFrom s k s.side (p ∷ []) K
    × (text ≡ stone_line name p wins K))))

-- what is said of the stones at the first n points, in their order
abbrev pub AreStoneTexts : (ℕ → List ℕ) → Whole → ℤ → ℕ → List ℕ → Type 0
AreStoneTexts name s k zero text = text ≡ []
AreStoneTexts name s k (suc n) text =
    (before last : List ℕ) × AreStoneTexts name s k n before × IsStoneText name s k n last × (text ≡ before ++ last)

-- what is said of a move that is no stone: a line where it is legal, and else nothing
abbrev pub IsMoveText : Whole → Move → List ℕ → List ℕ → Type 0
IsMoveText s m label text = (¬ IsLegal s m × (text ≡ []))
    ⊎ (IsLegal s m × ((wins : Bool) × (IsTrue wins ↔ IsWinning s m) × (text ≡ word_line label (outcome_word wins))))

-- the text of `moves` for a state that opens with this komi
pub record IsMovesText (name : ℕ → List ℕ) (s : Whole) (k : ℤ) (text : List ℕ) : Type 0 where
  pub winner : Colour
  pub stones : List ℕ
  pub spend : List ℕ
  pub half : List ℕ
  pub wins : IsWinner s winner
  pub each_stone : AreStoneTexts name s k (length s.board.cells) stones
  pub of_spend : IsMoveText s Spend (codes "spend") spend
  pub of_half : IsMoveText s Half (codes "half") half
  pub is : text ≡ opening_lines s.side k winner ++ (stones ++ (spend ++ half))

-- a stone of a line, behind a blank
unfoldable pub played : (ℕ → List ℕ) → Colour → ℕ → List ℕ
played name c p = codes " " ++ (colour_word c ++ (codes ":" ++ name p))

-- the stones of a line, of which this player has the first; the colours alternate
abbrev pub all_played : (ℕ → List ℕ) → Colour → List ℕ → List ℕ
all_played name c [] = []
all_played name c (p ∷ ps) = played name c p ++ all_played name (other c) ps

-- how many stones a line has, and each of them
unfoldable pub stones_line : (ℕ → List ℕ) → Colour → List ℕ → List ℕ
stones_line name c ps = codes "line " ++ (decimal (length ps) ++ (all_played name c ps ++ codes "\n"))

-- the text of `line` for a state that opens with this komi, and whose regions of play these are
pub record IsLineText (name : ℕ → List ℕ) (regions : List Region) (s : Whole) (k : ℤ) (text : List ℕ) : Type 0 where
  pub winner : Colour
  pub threshold : ℤ
  pub stones : List ℕ
  pub wins : IsWinner s winner
  pub mover_first : IsThresholdFrom s k s.side [] threshold
  pub line : IsLineFrom regions s k stones
  pub is : text ≡ opening_lines s.side k winner ++ (komi_line (codes "threshold") threshold ++ stones_line name s.side stones)
