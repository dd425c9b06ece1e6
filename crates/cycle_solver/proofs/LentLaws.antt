-- A question lends the values of the present positions, and leaves what is kept as it was.
use Rattle.std.proofs.Common.{ℕ, ◌≡◌, ◌∙◌, ◌++◌, List, ap, drop, length, subst, sym, take}
use Rattle.go_grid.specs.declared.grid.Colour.{Colour}
use Rattle.go_grid.specs.Region.{Region}
use Rattle.short_games.specs.Tree.{Tree}
use Rattle.whole_rules.specs.WholeGame.{Whole}
use Rattle.cycle_solver.specs.declared.asked.Answered.{Answered}
use Rattle.cycle_solver.specs.declared.region_game.RegionGame.{RegionGame}
use Rattle.cycle_solver.specs.Held.{AreSummed, IsHeld, IsKept, enough}
use Rattle.cycle_solver.specs.inner.Asked.{AreAnswers}
use Rattle.cycle_solver.proofs.SumLaws.{seen_lent}
use Rattle.cycle_solver.proofs.TurnLaws.{refilled}

-- a list that is lent whole and comes back as it was
pub returned : {n : ℕ} {ws xs ys : List ℕ} → ys ≡ xs → length ys ≡ n → ws ≡ ys → take n (ws ++ drop (length ws) xs) ≡ xs
returned lent long same = refilled lent long (ap length (same ∙ lent)) ∙ same ∙ lent

-- what is kept and what was answered, with the lists that came back
pub kept_back : {regions : List Region} {games : List RegionGame} {places low high ls hs : List ℕ} {Ts : List Tree} {s : Whole}
    → IsKept regions games places low high Ts s → ls ≡ low → hs ≡ high → IsKept regions games places ls hs Ts s
kept_back {regions} {games} {places} {Ts = Ts} {s} kept l h = subst (λ T. T) (λ i. IsKept regions games places (sym l i) (sym h i) Ts s) kept

pub answers_back : {Ts : List Tree} {ids js : List ℕ} {c : Colour} {answered : List Answered} → AreAnswers Ts ids c answered → js ≡ ids
    → AreAnswers Ts js c answered
answers_back {Ts} {c = c} {answered} right back = subst (λ z. AreAnswers Ts z c answered) (sym back) right

-- lists that were lent for the player of an arm
pub seen_for : {regions rs : List Region} {games gs : List RegionGame} {places ps ids qs : List ℕ} {Ts : List Tree} {s : Whole} {c d : Colour} → c ≡ d
    → IsHeld regions games places Ts s → AreSummed games places c enough ids → rs ≡ regions → gs ≡ games → ps ≡ places → qs ≡ ids
    → IsHeld rs gs ps Ts s × AreSummed gs ps d enough qs
seen_for {rs = rs} {gs = gs} {ps = ps} {qs = qs} {Ts} {s} same held summed r g p q =
    subst (λ d. IsHeld rs gs ps Ts s × AreSummed gs ps d enough qs) same (seen_lent held summed r g p q)
