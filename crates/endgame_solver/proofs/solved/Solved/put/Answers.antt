use Rattle.whole_rules.specs.declared.states.Move.TheVariants.{Stone}
use Rattle.endgame_solver.proofs.NextStoneLaws.{applied_legal}
use Rattle.endgame_solver.proofs.solved.Solved.put.Goals as goal

pub returns-clause-moved : goal.returns-clause-moved
returns-clause-moved c = applied_legal c.args.self.now.state c.play-played.new.self.state (Stone c.args.point) c.requires c.play-played.result c.play-played.ensures.applied
