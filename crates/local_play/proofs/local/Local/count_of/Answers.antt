use Rattle.std.proofs.Common.{◌∙◌}
use Rattle.local_play.proofs.PackBitLemmas.{stones_counted}
use Rattle.local_play.proofs.local.Local.count_of.Goals as goal

pub returns : goal.returns
returns c = λ cells is.
    let alone = c.count.ensures.is_alone in
    let stones = c.stones.ensures cells is in
    c.count.ensures.count ∙ stones_counted c.args.colour cells c.count.ensures.alone
    (λ q. (λ on. (stones q).0 ((alone.same q).0 on), λ held. (alone.same q).1 ((stones q).1 held))) alone.between
