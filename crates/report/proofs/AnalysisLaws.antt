-- The texts of `margin`, `moves` and `line`, piece by piece.
use Rattle.std.proofs.Common.{ℕ, ℤ, ◌≡◌, ◌↔◌, ◌+◌, ◌<◌, ◌≤◌, ◌++◌, ◌∷◌, suc, inl, inr, refl, sym, ap, subst, ◌∙◌, arith, Bool, IsTrue, List, [], append_assoc, codes, drop, get_or, length}
use Rattle.std.proofs.lemmas.List.{append-nil, drop_all, drop_more}
use Rattle.go_grid.specs.declared.grid.Colour.{Colour}
use Rattle.go_grid.specs.declared.grid.Colour.TheVariants.{Black, White}
use Rattle.go_grid.specs.Board.{other}
use Rattle.go_grid.specs.Region.{Region}
use Rattle.whole_rules.specs.declared.states.Move.TheVariants.{Half, Spend, Stone}
use Rattle.whole_rules.specs.FirstWinningMove.{IsWinning}
use Rattle.whole_rules.specs.WholeGame.{Whole, IsLegal}
use Rattle.endgame_solver.specs.Thresholds.{IsThresholdFrom}
use Rattle.report.specs.Analysis.{AreStoneTexts, IsLineText, IsMarginText, IsMovesText, all_played, first_lines, opening_lines, played, stone_line, stones_line}
use Rattle.report.specs.Komi.{komi_line}
use Rattle.report.specs.inner.Analysis.{HasLine, HasMove, HasOpening, HasStone, HasStones, HasThreshold, HasThresholds}
use Rattle.report.proofs.TextLaws.{four_pieces}

pub thresholds_are : (s : Whole) (k b w b' w' : ℤ) (before now after : List ℕ) → IsThresholdFrom s k Black [] b → IsThresholdFrom s k White [] w
    → b' ≡ b → w' ≡ w → now ≡ before ++ komi_line (codes "black first") b' → after ≡ now ++ komi_line (codes "white first") w'
    → HasThresholds s k before after
thresholds_are s k b w b' w' before now after black white same same' first second = record {
  black = b;
  white = w;
  black_first = black;
  white_first = white;
  text = second ∙ (λ i. first i ++ komi_line (codes "white first") (same' i))
      ∙ append_assoc before (komi_line (codes "black first") b') (komi_line (codes "white first") w)
      ∙ ap (λ z. before ++ (komi_line (codes "black first") z ++ komi_line (codes "white first") w)) same;
}

pub no_stone : (name : ℕ → List ℕ) (s : Whole) (k : ℤ) (p : ℕ) (text : List ℕ) → ¬ IsLegal s (Stone p) → HasStone name s k p text text
no_stone name s k p text illegal = record { said = []; is = inl (illegal, refl); text = sym (append-nil text) }

pub stone_is : (name name' : ℕ → List ℕ) (s : Whole) (k : ℤ) (p : ℕ) (wins : Bool) (K K' : ℤ) (before now : List ℕ) → IsLegal s (Stone p)
    → IsTrue wins ↔ IsWinning s (Stone p) → IsThresholdFrom s k s.side (p ∷ []) K → K' ≡ K → name' ≡ name
    → now ≡ before ++ stone_line name' p wins K' → HasStone name s k p before now
stone_is name name' s k p wins K K' before now legal winning threshold same named line = record {
  said = stone_line name p wins K;
  is = inr (legal, (wins, (K, winning, threshold, refl)));
  text = line ∙ (λ i. before ++ stone_line (named i) p wins (same i));
}

-- one point more
pub stones_more : (name : ℕ → List ℕ) (s : Whole) (k : ℤ) (n : ℕ) (a b c : List ℕ) → HasStones name s k n a b → HasStone name s k n b c
    → HasStones name s k (n + 1) a c
stones_more name s k n a b c before last = record {
  said = before.said ++ last.said;
  are = subst (λ m. AreStoneTexts name s k m (before.said ++ last.said)) next both;
  text = last.text ∙ ap (λ t. t ++ last.said) before.text ∙ append_assoc a before.said last.said;
}
  where
    next : suc n ≡ n + 1
    next = omega arith

    both : AreStoneTexts name s k (suc n) (before.said ++ last.said)
    both = (before.said, last.said, before.are, last.is, refl)

pub no_stones : (name : ℕ → List ℕ) (s : Whole) (k : ℤ) (text : List ℕ) → HasStones name s k 0 text text
no_stones name s k text = record { said = []; are = refl; text = sym (append-nil text) }

pub margin_is : (s : Whole) (k : ℤ) (a b c d : List ℕ) → a ≡ [] → HasOpening s k a b → HasThresholds s k b c → d ≡ c → IsMarginText s k d
margin_is s k a b c d empty opening firsts same = record {
  winner = opening.winner;
  black = firsts.black;
  white = firsts.white;
  wins = opening.wins;
  black_first = firsts.black_first;
  white_first = firsts.white_first;
  is = same ∙ firsts.text ∙ ap (λ t. t ++ first_lines firsts.black firsts.white)
      (opening.text ∙ ap (λ t. t ++ opening_lines s.side k opening.winner) empty);
}

pub moves_is : (name : ℕ → List ℕ) (s : Whole) (k : ℤ) (a b c d e f : List ℕ) → a ≡ [] → HasOpening s k a b → HasStones name s k (length s.board.cells) b c
    → HasMove s Spend (codes "spend") c d → HasMove s Half (codes "half") d e → f ≡ e → IsMovesText name s k f
moves_is name s k a b c d e f empty opening stones spend half same = record {
  winner = opening.winner;
  stones = stones.said;
  spend = spend.said;
  half = half.said;
  wins = opening.wins;
  each_stone = stones.are;
  of_spend = spend.is;
  of_half = half.is;
  is = same ∙ four_pieces a b c d e (opening_lines s.side k opening.winner) stones.said spend.said half.said empty opening.text stones.text spend.text half.text;
}

-- `line`

pub threshold_is : (s : Whole) (k K K' : ℤ) (before now : List ℕ) → IsThresholdFrom s k s.side [] K → K' ≡ K
    → now ≡ before ++ komi_line (codes "threshold") K' → HasThreshold s k before now
threshold_is s k K K' before now threshold same line = record {
  threshold = K;
  mover_first = threshold;
  text = line ∙ ap (λ z. before ++ komi_line (codes "threshold") z) same;
}

-- one stone more: what is left of the line stands behind it
pub played_more : (name : ℕ → List ℕ) (stones : List ℕ) (n : ℕ) (c d : Colour) (all now next : List ℕ) → n < length stones → d ≡ other c
    → next ≡ now ++ played name c (get_or stones n 0) → all ≡ now ++ all_played name c (drop n stones)
    → all ≡ next ++ all_played name d (drop (n + 1) stones)
played_more name stones n c d all now next lt turn line is =
    is ∙ ap (λ z. now ++ all_played name c z) (drop_more stones n 0 lt)
    ∙ sym (append_assoc now (played name c (get_or stones n 0)) (all_played name (other c) (drop (n + 1) stones)))
    ∙ (λ i. sym line i ++ all_played name (sym turn i) (drop (n + 1) stones))

pub played_end : (name : ℕ → List ℕ) (stones : List ℕ) (n : ℕ) (c : Colour) (all now : List ℕ) → length stones ≤ n
    → all ≡ now ++ all_played name c (drop n stones) → now ≡ all
played_end name stones n c all now le is =
    sym (is ∙ ap (λ z. now ++ all_played name c z) (drop_all n stones le) ∙ append-nil now)

pub line_is : (name : ℕ → List ℕ) (regions : List Region) (s : Whole) (k : ℤ) (a b c d e : List ℕ) → a ≡ [] → HasOpening s k a b → HasThreshold s k b c
    → HasLine name regions s c d → e ≡ d → IsLineText name regions s k e
line_is name regions s k a b c d e empty opening threshold line same = record {
  winner = opening.winner;
  threshold = threshold.threshold;
  stones = line.stones;
  wins = opening.wins;
  mover_first = threshold.mover_first;
  line = line.line k;
  is = same ∙ line.text ∙ ap (λ t. t ++ stones) threshold.text ∙ append_assoc b komi stones
      ∙ ap (λ t. t ++ (komi ++ stones)) (opening.text ∙ ap (λ t. t ++ opening_lines s.side k opening.winner) empty);
}
  where
    komi : List ℕ
    komi = komi_line (codes "threshold") threshold.threshold

    stones : List ℕ
    stones = stones_line name s.side line.stones
