use Rattle.std.proofs.Common.{subst}
use Rattle.sgf_go.specs.Values.{trimmed}
use Rattle.sgf_go.specs.Setup.{For, SetsValue, Follows}
use Rattle.sgf_go.proofs.PartLemmas.{follows_values}
use Rattle.sgf_go.proofs.replay.Replay.set_property.Goals as goal

pub returns-in-Some-clause-follows : goal.returns-in-Some-clause-follows
returns-in-Some-clause-follows c = follows_values c.args.node c.in-Some.cell c.args.property.now c.args.self.now c.set_values.new.self c.set_values.result c.in-Some.ensures
    (subst (λ vs. Follows (For (λ v. SetsValue c.args.node c.in-Some.cell (trimmed v.items)) vs) c.args.self.now c.set_values.new.self c.set_values.result) c.deref.ensures.value c.set_values.ensures.follows)
