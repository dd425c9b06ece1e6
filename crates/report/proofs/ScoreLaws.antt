-- The score by thresholds and the line of play.
use Rattle.std.proofs.Common.{ℕ, ℤ, pos, ◌≡◌, ◌+ℤ◌, ◌-ℤ◌, ◌<◌, ◌∷◌, ◌∙◌, arith, refl, sym, subst, Bool, IsTrue, true, false, List, [], length}
use Rattle.std.proofs.lemmas.Int.{ints}
use Rattle.std.specs.List.{slice_index_or}
use Rattle.go_grid.specs.declared.grid.Colour.TheVariants.{Black, White}
use Rattle.go_grid.specs.Region.{Region}
use Rattle.whole_rules.specs.WholeGame.{Whole}
use Rattle.endgame_solver.specs.PlayLine.{IsLineFrom}
use Rattle.endgame_solver.specs.Thresholds.{IsThresholdFrom}
use Rattle.report.specs.Score.{IsScore}
use Rattle.report.specs.declared.score.Score.TheVariants.{Halves, Stone, Fraction}

-- the first stone of a line
pub stone_scored : (regions : List Region) (s : Whole) (k : ℤ) (line : List ℕ) (p : ℕ) → 0 < length line → p ≡ slice_index_or line 0 p
    → IsLineFrom regions s k line → IsScore regions s k (Stone p)
stone_scored regions s k [] p some is line = absurd (omega (arith, some))
stone_scored regions s k (q ∷ qs) p some is line = (qs, subst (λ z. IsLineFrom regions s k (z ∷ qs)) (sym is) line)

empty_line : (regions : List Region) (s : Whole) (k : ℤ) (line : List ℕ) → length line ≡ 0 → IsLineFrom regions s k line → IsLineFrom regions s k []
empty_line regions s k [] none line = line
empty_line regions s k (q ∷ qs) none line = absurd (omega (arith, none))

module _ (regions : List Region) (s : Whole) (k : ℤ) (line : List ℕ) (none : length line ≡ 0) (is_line : IsLineFrom regions s k line)
    (black white : ℤ) (black_first : IsThresholdFrom s k Black [] black) (white_first : IsThresholdFrom s k White [] white) where
  -- White's threshold is a half-point above Black's
  pub halves_scored : (n : ℤ) → white ≡ black +ℤ pos 1 → n ≡ white -ℤ k → IsScore regions s k (Halves n)
  halves_scored n half is =
      let there : white ≡ k +ℤ n = omega (arith, ints, is) in
      let here : black ≡ (k +ℤ n) -ℤ pos 1 = omega (arith, ints, is, half) in
      (empty_line regions s k line none is_line, subst (IsThresholdFrom s k White []) there white_first, subst (IsThresholdFrom s k Black []) here black_first)

  -- it isn't
  pub fraction_scored : (white ≡ black +ℤ pos 1 → ⊥) → IsScore regions s k Fraction
  fraction_scored not = (empty_line regions s k line none is_line, (black, white, black_first, white_first, not))
