use Rattle.game_calc.proofs.expressions.read_turn.Goals as goal

pub returns-in-Term-clause-turn : goal.returns-in-Term-clause-turn
returns-in-Term-clause-turn c = c.read_term.ensures.turn

pub returns-in-Term-clause-refusal : goal.returns-in-Term-clause-refusal
returns-in-Term-clause-refusal c = c.read_term.ensures.refusal

pub returns-in-Term-clause-kept : goal.returns-in-Term-clause-kept
returns-in-Term-clause-kept c = c.read_term.ensures.kept

pub returns-in-Behind-clause-turn : goal.returns-in-Behind-clause-turn
returns-in-Behind-clause-turn c = c.read_behind.ensures.turn

pub returns-in-Behind-clause-refusal : goal.returns-in-Behind-clause-refusal
returns-in-Behind-clause-refusal c = c.read_behind.ensures.refusal

pub returns-in-Behind-clause-kept : goal.returns-in-Behind-clause-kept
returns-in-Behind-clause-kept c = c.read_behind.ensures.kept
