use Rattle.whole_rules.proofs.MoveLaws.{refused_not_legal}
use Rattle.engine_player.proofs.PlainLemmas.{chosen_legal}
use Rattle.engine_player.proofs.player.make.Goals as goal

pub unreachable-requires : goal.unreachable-requires
unreachable-requires c =
    refused_not_legal c.args.solved.now.state c.args.chosen c.in-Err.field-0 c.in-Err.ensures.applied.1 (chosen_legal c.args.solved.now.state c.args.chosen c.requires)
