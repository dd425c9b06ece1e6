-- The texts of `margin` and `moves` where kos can arise.
use Rattle.std.specs.Prelude.{ℕ, zero, suc, ℤ, ◌≡◌, ◌⊎◌, ◌++◌, List, [], ◌∷◌, length, codes, Option, Some, None}
use Rattle.go_grid.specs.declared.grid.Colour.{Colour}
use Rattle.go_grid.specs.declared.grid.Colour.TheVariants.{Black, White}
use Rattle.whole_rules.specs.declared.states.Move.{Move}
use Rattle.whole_rules.specs.declared.states.Move.TheVariants.{Stone, Spend, Half}
use Rattle.whole_rules.specs.WholeGame.{Whole, IsLegal}
use Rattle.board_words.specs.Words.{colour_word, word_line}
use Rattle.cycle_solver.specs.declared.thresholds.Thresholds.{Thresholds}
use Rattle.cycle_solver.specs.Thresholds.{AreThresholdsFrom}
use Rattle.cycle_solver.specs.Winner.{TellsWinner, TellsWinnerAfter}
use Rattle.cycle_report.specs.CycleSolution.{winner_or_none}
use Rattle.report.specs.Komi.{komi_line, komi_pair_line}

-- the lines on the side to move, the komi and the winner
abbrev pub cycle_opening_lines : Colour → ℤ → Option Colour → List ℕ
cycle_opening_lines side k winner = word_line (codes "side") (colour_word side) ++ (komi_line (codes "komi") k ++ winner_or_none winner)

-- the line of both players' thresholds, behind a label
abbrev pub thresholds_line : List ℕ → Thresholds → List ℕ
thresholds_line label both = komi_pair_line label both.black both.white

-- the lines on the thresholds of Black and of White moving first
abbrev pub cycle_first_lines : Thresholds → Thresholds → List ℕ
cycle_first_lines black white = thresholds_line (codes "black first") black ++ thresholds_line (codes "white first") white

-- the text of `margin` for a state that opens with this komi
pub record IsCycleMarginText (s : Whole) (k : ℤ) (text : List ℕ) : Type 0 where
  pub winner : Option Colour
  pub black : Thresholds
  pub white : Thresholds
  pub wins : TellsWinner s winner
  pub black_first : AreThresholdsFrom s k Black [] black
  pub white_first : AreThresholdsFrom s k White [] white
  pub is : text ≡ cycle_opening_lines s.side k winner ++ cycle_first_lines black white

-- the word for a move of this side by who wins behind it, if somebody does
abbrev pub cycle_outcome_word : Colour → Option Colour → List ℕ
cycle_outcome_word side None = codes "none"
cycle_outcome_word Black (Some Black) = codes "wins"
cycle_outcome_word White (Some White) = codes "wins"
cycle_outcome_word side (Some winner) = codes "loses"

-- the line of a stone: its point, whether it wins, and both thresholds
unfoldable pub cycle_stone_line : (ℕ → List ℕ) → ℕ → List ℕ → Thresholds → List ℕ
cycle_stone_line name p word both = codes "stone " ++ (name p ++ (codes " " ++ thresholds_line word both))

-- what is said of a stone of the side to move: a line where it is legal, and else nothing
abbrev pub IsCycleStoneText : (ℕ → List ℕ) → Whole → ℤ → ℕ → List ℕ → Type 0
IsCycleStoneText name s k p text = (¬ IsLegal s (Stone p) × (text ≡ []))
    ⊎ (IsLegal s (Stone p) × ((winner : Option Colour) × ((both : Thresholds) × TellsWinnerAfter s (Stone p) winner
    × AreThresholdsFrom s k s.side (p ∷ []) both × (text ≡ cycle_stone_line name p (cycle_outcome_word s.side winner) both))))

-- what is said of the stones at the first n points, in their order
abbrev pub AreCycleStoneTexts : (ℕ → List ℕ) → Whole → ℤ → ℕ → List ℕ → Type 0
AreCycleStoneTexts name s k zero text = text ≡ []
AreCycleStoneTexts name s k (suc n) text =
    (before last : List ℕ) × AreCycleStoneTexts name s k n before × IsCycleStoneText name s k n last × (text ≡ before ++ last)

-- what is said of a move that is no stone: a line where it is legal, and else nothing
abbrev pub IsCycleMoveText : Whole → Move → List ℕ → List ℕ → Type 0
IsCycleMoveText s m label text = (¬ IsLegal s m × (text ≡ []))
    ⊎ (IsLegal s m × ((winner : Option Colour) × TellsWinnerAfter s m winner × (text ≡ word_line label (cycle_outcome_word s.side winner))))

-- the text of `moves` for a state that opens with this komi
pub record IsCycleMovesText (name : ℕ → List ℕ) (s : Whole) (k : ℤ) (text : List ℕ) : Type 0 where
  pub winner : Option Colour
  pub stones : List ℕ
  pub spend : List ℕ
  pub half : List ℕ
  pub wins : TellsWinner s winner
  pub each_stone : AreCycleStoneTexts name s k (length s.board.cells) stones
  pub of_spend : IsCycleMoveText s Spend (codes "spend") spend
  pub of_half : IsCycleMoveText s Half (codes "half") half
  pub is : text ≡ cycle_opening_lines s.side k winner ++ (stones ++ (spend ++ half))
