use Rattle.std.proofs.Common.{◌∙◌, arith}
use Rattle.std.proofs.lemmas.List.{get_or-map}
use Rattle.local_graph.proofs.PathLemmas.{look_on, look_more}
use Rattle.local_graph.proofs.search.place_on.Goals as goal

pub looking-preserved : goal.looking-preserved
looking-preserved c = look_more _ _ _ _ c.requires c.looking.invariant c.looking-test.true

pub looking-smaller : goal.looking-smaller
looking-smaller c = omega (arith, look_on c.args.path.now _ _ c.requires c.looking.invariant)

pub returns-clause-inside : goal.returns-clause-inside
returns-clause-inside c = look_on c.args.path.now _ _ c.requires c.looking.invariant

pub returns-clause-there : goal.returns-clause-there
returns-clause-there c = get_or-map (λ f. f.node) c.args.path.now c.looking.place _ 0 (returns-clause-inside c) ∙ c.looking-test.false
