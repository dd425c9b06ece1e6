use Rattle.game_canon.proofs.canonical_forms.canonical_of_groups.Goals as goal

pub returns-clause-value : goal.returns-clause-value
returns-clause-value c = c.canonical_by.ensures.value

pub returns-clause-bounds : goal.returns-clause-bounds
returns-clause-bounds c = c.canonical_by.ensures.bounds

pub returns-clause-parts : goal.returns-clause-parts
returns-clause-parts c = c.canonical_by.ensures.parts

pub returns-clause-refusal : goal.returns-clause-refusal
returns-clause-refusal c = c.canonical_by.ensures.refusal

pub returns-clause-sizes : goal.returns-clause-sizes
returns-clause-sizes c = c.canonical_by.ensures.sizes

pub returns-clause-comparisons : goal.returns-clause-comparisons
returns-clause-comparisons c = c.canonical_by.ensures.comparisons

pub returns-clause-kept : goal.returns-clause-kept
returns-clause-kept c = c.canonical_by.ensures.kept
