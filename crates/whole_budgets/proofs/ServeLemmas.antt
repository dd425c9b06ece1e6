-- What the engine keeps serves behind each move.
use Rattle.std.proofs.Common.{ℕ, zero, suc, ◌≡◌, inl, inr, refl, sym, ◌∙◌, subst, List, Option, Some, None}
use Rattle.go_grid.specs.declared.grid.Colour.{Colour}
use Rattle.go_grid.specs.Region.{Region}
use Rattle.whole_rules.specs.declared.states.Move.{Move}
use Rattle.whole_rules.specs.FirstWinningMove.{IsLosing, IsWinner}
use Rattle.whole_rules.specs.WholeGame.{Whole, IsMove}
use Rattle.whole_rules.proofs.PlainLaws.{move_turn}
use Rattle.whole_budgets.specs.BudgetPlay.{WinsWithBudgets}
use Rattle.whole_budgets.specs.EnginePlay.{EngineMoves, Serves, budget_in}
use Rattle.whole_budgets.proofs.BudgetPlayLemmas.{free, other_not, turned, with}
use Rattle.whole_budgets.specs.EngineLaws.{KeptServes}

-- who wins where the other player is to move wins behind each of its moves, with the same budgets
pub wins_behind : (regions : List Region) (c : Colour) (s t : Whole) (m : Move) (b : Region → ℕ) → t.side ≡ c → IsMove s m t
    → WinsWithBudgets regions c s b → WinsWithBudgets regions c t b
wins_behind regions c s t m b e move (inl (own, w)) = absurd (other_not s.side (sym own ∙ sym e ∙ move_turn s t m move))
wins_behind regions c s t m b e move (inr (their, (zero, l))) = absurd (l (with t b) (free regions c s t b (turned c s their) (m, move)))
wins_behind regions c s t m b e move (inr (their, (suc n, l))) = inl (sym e, (n, l (with t b) (free regions c s t b (turned c s their) (m, move))))

-- behind a move of the winner's the other side loses
pub loses_behind : (s t : Whole) (m : Move) → IsMove s m t → IsWinner t s.side → IsLosing t
loses_behind s t m move (inl (e, w)) = absurd (other_not s.side (e ∙ move_turn s t m move))
loses_behind s t m move (inr (e, l)) = l

-- what serves at the other side's turn serves behind each of its moves
pub serves_behind : (regions : List Region) (s t : Whole) (m : Move) (kept : Option (List ℕ)) → IsMove s m t → Serves regions t.side s kept
    → Serves regions t.side t kept
serves_behind regions s t m None move serves = tt
serves_behind regions s t m (Some bs) move (long, wins) = (long, wins_behind regions t.side s t m (budget_in regions bs) refl move wins)

-- what the engine keeps serves behind its move
pub serves_after : (regions : List Region) (s t : Whole) (m : Move) (kept left : Option (List ℕ)) → EngineMoves regions s kept m t left
    → Serves regions s.side t left
serves_after regions s t m kept left (None, has, (choice, move, is)) = subst (Serves regions s.side t) (sym is) tt
serves_after regions s t m kept left (Some bs, has, (cs, ds, reduced, first, is)) =
    subst (Serves regions s.side t) (sym is) (first.keeps.paid.many, first.keeps.wins)

pub kept_serves : KeptServes
kept_serves g regions t u m kept left reached = (serves_after regions t u m kept left, serves_behind regions t u m kept)
