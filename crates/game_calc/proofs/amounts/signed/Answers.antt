use Rattle.game_calc.proofs.amounts.signed.Goals as goal

pub returns-in-Minus-clause-held : goal.returns-in-Minus-clause-held
returns-in-Minus-clause-held c = c.opposite.ensures.held

pub returns-in-Minus-clause-kept : goal.returns-in-Minus-clause-kept
returns-in-Minus-clause-kept c = c.opposite.ensures.kept
