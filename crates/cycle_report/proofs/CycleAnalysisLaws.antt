-- The texts of `margin` and `moves` where kos can arise, piece by piece.
use Rattle.std.proofs.Common.{ℕ, ℤ, ◌≡◌, ◌+◌, ◌++◌, ◌∷◌, suc, inl, inr, refl, sym, ap, subst, ◌∙◌, arith, List, [], append_assoc, codes, length, Option}
use Rattle.std.proofs.lemmas.List.{append-nil}
use Rattle.go_grid.specs.declared.grid.Colour.{Colour}
use Rattle.go_grid.specs.declared.grid.Colour.TheVariants.{Black, White}
use Rattle.whole_rules.specs.declared.states.Move.{Move}
use Rattle.whole_rules.specs.declared.states.Move.TheVariants.{Half, Spend, Stone}
use Rattle.whole_rules.specs.WholeGame.{Whole, IsLegal}
use Rattle.board_words.specs.Words.{word_line}
use Rattle.cycle_solver.specs.declared.thresholds.Thresholds.{Thresholds}
use Rattle.cycle_solver.specs.Thresholds.{AreThresholdsFrom}
use Rattle.cycle_solver.specs.Winner.{TellsWinnerAfter}
use Rattle.cycle_report.specs.CycleAnalysis.{AreCycleStoneTexts, IsCycleMarginText, IsCycleMovesText, cycle_first_lines, cycle_opening_lines, cycle_outcome_word, cycle_stone_line, thresholds_line}
use Rattle.cycle_report.specs.inner.CycleAnalysis.{HasCycleMove, HasCycleOpening, HasCycleStone, HasCycleStones, HasCycleThresholds}
use Rattle.report.proofs.TextLaws.{four_pieces}

pub cycle_thresholds_are : (s : Whole) (k : ℤ) (b w : Thresholds) (before now after : List ℕ) → AreThresholdsFrom s k Black [] b → AreThresholdsFrom s k White [] w
    → now ≡ before ++ thresholds_line (codes "black first") b → after ≡ now ++ thresholds_line (codes "white first") w → HasCycleThresholds s k before after
cycle_thresholds_are s k b w before now after black white first second = record {
  black = b;
  white = w;
  black_first = black;
  white_first = white;
  text = second ∙ ap (λ t. t ++ thresholds_line (codes "white first") w) first
      ∙ append_assoc before (thresholds_line (codes "black first") b) (thresholds_line (codes "white first") w);
}

pub no_cycle_stone : (name : ℕ → List ℕ) (s : Whole) (k : ℤ) (p : ℕ) (text : List ℕ) → ¬ IsLegal s (Stone p) → HasCycleStone name s k p text text
no_cycle_stone name s k p text illegal = record { said = []; is = inl (illegal, refl); text = sym (append-nil text) }

pub cycle_stone_is : (name name' : ℕ → List ℕ) (s : Whole) (k : ℤ) (p : ℕ) (side : Colour) (winner : Option Colour) (both : Thresholds) (word before now : List ℕ) → IsLegal s (Stone p)
    → TellsWinnerAfter s (Stone p) winner → AreThresholdsFrom s k s.side (p ∷ []) both → word ≡ cycle_outcome_word side winner → side ≡ s.side → name' ≡ name
    → now ≡ before ++ cycle_stone_line name' p word both → HasCycleStone name s k p before now
cycle_stone_is name name' s k p side winner both word before now legal wins thresholds said turn named line = record {
  said = cycle_stone_line name p (cycle_outcome_word s.side winner) both;
  is = inr (legal, (winner, (both, wins, thresholds, refl)));
  text = line ∙ (λ i. before ++ cycle_stone_line (named i) p (said i) both) ∙ ap (λ c. before ++ cycle_stone_line name p (cycle_outcome_word c winner) both) turn;
}

-- one point more
pub cycle_stones_more : (name : ℕ → List ℕ) (s : Whole) (k : ℤ) (n : ℕ) (a b c : List ℕ) → HasCycleStones name s k n a b → HasCycleStone name s k n b c
    → HasCycleStones name s k (n + 1) a c
cycle_stones_more name s k n a b c before last = record {
  said = before.said ++ last.said;
  are = subst (λ m. AreCycleStoneTexts name s k m (before.said ++ last.said)) next both;
  text = last.text ∙ ap (λ t. t ++ last.said) before.text ∙ append_assoc a before.said last.said;
}
  where
    next : suc n ≡ n + 1
    next = omega arith

    both : AreCycleStoneTexts name s k (suc n) (before.said ++ last.said)
    both = (before.said, last.said, before.are, last.is, refl)

pub no_cycle_stones : (name : ℕ → List ℕ) (s : Whole) (k : ℤ) (text : List ℕ) → HasCycleStones name s k 0 text text
no_cycle_stones name s k text = record { said = []; are = refl; text = sym (append-nil text) }

pub no_cycle_move : (s : Whole) (m : Move) (label text : List ℕ) → ¬ IsLegal s m → HasCycleMove s m label text text
no_cycle_move s m label text illegal = record { said = []; is = inl (illegal, refl); text = sym (append-nil text) }

pub cycle_move_is : (s : Whole) (m : Move) (label : List ℕ) (side : Colour) (winner : Option Colour) (word before now : List ℕ) → IsLegal s m → TellsWinnerAfter s m winner
    → word ≡ cycle_outcome_word side winner → side ≡ s.side → now ≡ before ++ word_line label word → HasCycleMove s m label before now
cycle_move_is s m label side winner word before now legal wins named turn line = record {
  said = word_line label (cycle_outcome_word s.side winner);
  is = inr (legal, (winner, wins, refl));
  text = line ∙ ap (λ w. before ++ word_line label w) named ∙ ap (λ c. before ++ word_line label (cycle_outcome_word c winner)) turn;
}

pub cycle_margin_is : (s : Whole) (k : ℤ) (a b c d : List ℕ) → a ≡ [] → HasCycleOpening s k a b → HasCycleThresholds s k b c → d ≡ c → IsCycleMarginText s k d
cycle_margin_is s k a b c d empty opening firsts same = record {
  winner = opening.winner;
  black = firsts.black;
  white = firsts.white;
  wins = opening.wins;
  black_first = firsts.black_first;
  white_first = firsts.white_first;
  is = same ∙ firsts.text ∙ ap (λ t. t ++ cycle_first_lines firsts.black firsts.white)
      (opening.text ∙ ap (λ t. t ++ cycle_opening_lines s.side k opening.winner) empty);
}

pub cycle_moves_are : (name : ℕ → List ℕ) (s : Whole) (k : ℤ) (a b c d e f : List ℕ) → a ≡ [] → HasCycleOpening s k a b
    → HasCycleStones name s k (length s.board.cells) b c → HasCycleMove s Spend (codes "spend") c d → HasCycleMove s Half (codes "half") d e → f ≡ e
    → IsCycleMovesText name s k f
cycle_moves_are name s k a b c d e f empty opening stones spend half same = record {
  winner = opening.winner;
  stones = stones.said;
  spend = spend.said;
  half = half.said;
  wins = opening.wins;
  each_stone = stones.are;
  of_spend = spend.is;
  of_half = half.is;
  is = same
      ∙ four_pieces a b c d e (cycle_opening_lines s.side k opening.winner) stones.said spend.said half.said empty opening.text stones.text spend.text half.text;
}
