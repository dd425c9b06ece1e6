use Rattle.std.proofs.Common.{arith, inl, inr}
use Rattle.go_grid.proofs.FillLemmas.{if_some}
use Rattle.go_grid.proofs.fills.meet_around.Goals as goal

pub meet-requires-clause-inside : goal.meet-requires-clause-inside
meet-requires-clause-inside c = if_some _ _ (λ q e. c.requires.inside q (inl e))

pub meet-requires-2-clause-inside : goal.meet-requires-2-clause-inside
meet-requires-2-clause-inside c = if_some _ _ (λ q e. c.requires.inside q (inr (inl e)))

pub meet-requires-3-clause-inside : goal.meet-requires-3-clause-inside
meet-requires-3-clause-inside c = if_some _ _ (λ q e. c.requires.inside q (inr (inr (inl e))))

pub meet-requires-4-clause-inside : goal.meet-requires-4-clause-inside
meet-requires-4-clause-inside c = if_some _ _ (λ q e. c.requires.inside q (inr (inr (inr e))))

pub returns-clause-under_way : goal.returns-clause-under_way
returns-clause-under_way c columns start from done before j lf ld s =
    c.meet-4.ensures.under_way columns start from done before (λ p e. j p (inr (inr (inr e)))) (omega arith) (omega arith)
    (c.meet-3.ensures.under_way columns start from done before (λ p e. j p (inr (inr (inl e)))) (omega arith) (omega arith)
    (c.meet-2.ensures.under_way columns start from done before (λ p e. j p (inr (inl e))) (omega arith) (omega arith)
    (c.meet.ensures.under_way columns start from done before (λ p e. j p (inl e)) lf ld s)))
