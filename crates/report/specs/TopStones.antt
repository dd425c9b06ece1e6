-- The best stones of the side to move, by their thresholds.
use Rattle.std.specs.Prelude.{ℕ, zero, suc, ℤ, ◌≡◌, ◌⊎◌, ◌<◌, ◌<ℤ◌, ◌-ℤ◌, ◌++◌, List, [], ◌∷◌, length, codes, flat_map, IfSome, Option, Some, None}
use Rattle.go_grid.specs.declared.grid.Colour.{Colour}
use Rattle.go_grid.specs.declared.grid.Colour.TheVariants.{Black, White}
use Rattle.whole_rules.specs.declared.states.Move.TheVariants.{Stone}
use Rattle.whole_rules.specs.WholeGame.{Whole, IsLegal}
use Rattle.board_words.specs.Komi.{komi_word}
use Rattle.endgame_solver.specs.Thresholds.{IsThresholdFrom}
use Rattle.report.specs.declared.top_stones.RatedStone.{RatedStone}

-- the stone is legal, and this is its threshold in a state that opens with the komi
pub record IsRated (s : Whole) (k : ℤ) (r : RatedStone) : Type 0 where
  pub legal : IsLegal s (Stone r.point)
  pub threshold : IsThresholdFrom s k s.side (r.point ∷ []) r.threshold

-- the first threshold is better for the player than the second
abbrev pub IsBetter : Colour → ℤ → ℤ → Type 0
IsBetter Black K L = L <ℤ K
IsBetter White K L = K <ℤ L

-- the first stone comes before the second: it has the better threshold for the player, or the same one and the lower point
abbrev pub ComesBefore : Colour → RatedStone → RatedStone → Type 0
ComesBefore c a b = IsBetter c a.threshold b.threshold ⊎ ((a.threshold ≡ b.threshold) × (a.point < b.point))

-- the stone comes after the last one, if there was one
abbrev pub IsBehind : Colour → Option RatedStone → RatedStone → Type 0
IsBehind c None r = Unit {0}
IsBehind c (Some last) r = ComesBefore c last r

-- the stone comes before the best one, if there is one
abbrev pub IsAhead : Colour → RatedStone → Option RatedStone → Type 0
IsAhead c r None = Unit {0}
IsAhead c r (Some best) = ComesBefore c r best

-- Of the legal stones at the first n points that come after the last one this one is the best, if there is one.
pub record IsBestBelow (s : Whole) (k : ℤ) (last : Option RatedStone) (n : ℕ) (best : Option RatedStone) : Type 0 where
  pub is : IfSome best (λ r. (r.point < n) × IsRated s k r × IsBehind s.side last r)
  pub others : (q : ℕ) → q < n → IsLegal s (Stone q)
      → (r : RatedStone) × (r.point ≡ q) × IsRated s k r × ¬ (IsBehind s.side last r × IsAhead s.side r best)

-- the best stone after the last one, if there is one
abbrev pub IsNextBest : Whole → ℤ → Option RatedStone → Option RatedStone → Type 0
IsNextBest s k last best = IsBestBelow s k last (length s.board.cells) best

-- the best stones after the last one, no more than n, the best one first
abbrev pub AreBest : Whole → ℤ → ℕ → Option RatedStone → List RatedStone → Type 0
AreBest s k zero last best = best ≡ []
AreBest s k (suc n) last best = (IsNextBest s k last None × (best ≡ []))
    ⊎ ((r : RatedStone) × (more : List RatedStone) × IsNextBest s k last (Some r) × AreBest s k n (Some r) more × (best ≡ r ∷ more))

-- by how much a threshold is better for the player than the komi, in half-points
abbrev pub gain : Colour → ℤ → ℤ → ℤ
gain Black k K = K -ℤ k
gain White k K = k -ℤ K

-- a stone with its gain in points, each with a blank behind it
abbrev pub rated_text : (ℕ → List ℕ) → Colour → ℤ → RatedStone → List ℕ
rated_text name c k r = name r.point ++ (codes " " ++ (komi_word (gain c k r.threshold) ++ codes " "))

-- the text of the ten best stones of the side to move in a state that opens with this komi, or of all where there are fewer
pub record IsTopText (name : ℕ → List ℕ) (s : Whole) (k : ℤ) (text : List ℕ) : Type 0 where
  pub best : List RatedStone
  pub are : AreBest s k 10 None best
  pub is : text ≡ flat_map (rated_text name s.side k) best
