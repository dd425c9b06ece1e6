use Rattle.std.proofs.Common.{arith}
use Rattle.thermograph.specs.inner.Flags.{IsInnerId, IsAmong}
use Rattle.thermograph.proofs.FlagLaws.{added-both, among-inner, inner-listed}
use Rattle.thermograph.proofs.followers.flag_options.Goals as goal

pub returns-in-Options : goal.returns-in-Options
returns-in-Options c =
    let o = c.in-Options.ensures.form in
    added-both (IsAmong c.in-Options.left.now) (IsAmong c.in-Options.right.now) (IsInnerId c.args.store.now c.args.id) _ _ _ c.flag_ids.ensures c.flag_ids-in-Options.ensures
    (λ i h. (
      inner-listed c.args.store.now c.args.id _ _ o c.in-Options.ensures.distinct (omega (arith, c.requires.id, c.requires.flags)) i,
      among-inner c.args.store.now c.args.id _ _ o i,
    ))
