use Rattle.game_calc.proofs.pair.form_of.Goals as goal

pub returns-in-Some-clause-parts : goal.returns-in-Some-clause-parts
returns-in-Some-clause-parts c = c.in-Some.ensures.1 c.args.parts_limit c.requires.latest

pub returns-clause-value : goal.returns-clause-value
returns-clause-value c = c.canonical_of_groups.ensures.value

pub returns-clause-parts : goal.returns-clause-parts
returns-clause-parts c = c.canonical_of_groups.ensures.parts

pub returns-clause-refusal : goal.returns-clause-refusal
returns-clause-refusal c = c.canonical_of_groups.ensures.refusal

pub returns-clause-comparisons : goal.returns-clause-comparisons
returns-clause-comparisons c = c.canonical_of_groups.ensures.comparisons

pub returns-clause-kept : goal.returns-clause-kept
returns-clause-kept c = c.canonical_of_groups.ensures.kept
