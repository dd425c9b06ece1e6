-- A question lends the values of the present positions, and leaves what is kept as it was.
use Rattle.std.proofs.Common.{ℕ, ◌≡◌, ◌∙◌, ◌++◌, List, [], ap, arith, drop, length, subst, sym, take}
use Rattle.std.proofs.Math.ListN.{drop_of_length-le}
use Rattle.std.proofs.Math.Seq.{take-length}
use Rattle.std.proofs.lemmas.List.{append-nil}
use Rattle.go_grid.specs.declared.grid.Colour.{Colour}
use Rattle.short_games.specs.Tree.{Tree}
use Rattle.endgame_solver.specs.declared.asked.Answered.{Answered}
use Rattle.endgame_solver.specs.inner.Asked.{AreAnswers}

-- a list that is lent whole and comes back as it was
pub returned : {n : ℕ} {ws xs ys : List ℕ} → ys ≡ xs → length ys ≡ n → ws ≡ ys → take n (ws ++ drop (length ws) xs) ≡ xs
returned {n} {ws} {xs} lent long same =
    let none : drop (length ws) xs ≡ [] = drop_of_length-le xs (omega (arith, ap length (same ∙ lent))) in
    let size : n ≡ length ws = omega (arith, ap length same, long) in
    (λ i. take (size i) (ws ++ none i)) ∙ ap (take (length ws)) (append-nil ws) ∙ take-length ws ∙ same ∙ lent

-- what was answered, where the values and the answers are lent
pub answers_lent : {Ts : List Tree} {ids js : List ℕ} {c : Colour} {answered lent : List Answered} → AreAnswers Ts ids c answered → js ≡ ids
    → lent ≡ answered → AreAnswers Ts js c lent
answers_lent {Ts} {c = c} right back same = subst (λ T. T) (λ i. AreAnswers Ts (sym back i) c (sym same i)) right
