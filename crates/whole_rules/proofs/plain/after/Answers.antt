use Rattle.whole_rules.proofs.MoveLaws.{refused_not_legal}
use Rattle.whole_rules.proofs.plain.after.Goals as goal

pub unreachable-requires : goal.unreachable-requires
unreachable-requires c =
    let r = c.in-Err.ensures in
    refused_not_legal c.in_ok-next.next c.args.chosen c.in-Err.field-0 r.1 (rw c.in_ok-next.ensures c.requires.legal)
