use Rattle.std.proofs.Common.{rules, tests}
use Rattle.std.proofs.lemmas.Iterator.{cases_from_any, YieldsList-from_slice}
use Rattle.board_gen.specs.inner.Corridor.{Covers}
use Rattle.board_gen.proofs.CorridorLemmas.{found}
use Rattle.board_gen.proofs.corridors.is_in_corridor.Goals as goal

pub returns : goal.returns
returns c number are =
    let p = c.args.point in
    let by_call = cases_from_any _ _ _ (λ x. Covers x p) (λ x. ¬ Covers x p) c.any.ensures.ran
    (YieldsList-from_slice c.args.corridors.now cc) (λ x q k. search (rules, tests)) (λ x q k. search (rules, tests)) in
    found number p c.args.corridors.now _ are by_call
