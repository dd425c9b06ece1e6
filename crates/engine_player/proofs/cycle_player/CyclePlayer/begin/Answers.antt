use Rattle.engine_player.proofs.FitLemmas.{begin_fit}
use Rattle.std.proofs.Common.{◌∙◌, ◌≤◌, length, subst}
use Rattle.engine_player.proofs.cycle_player.CyclePlayer.begin.Goals as goal

pub invariant_of-result : goal.invariant_of-result
invariant_of-result g c =
    let same = c.regions.ensures in let (black_many, white_many, scratch_many) = c.in-Ok.ensures.many in let nothing = c.in-Ok.ensures.nothing in
    begin_fit c.args.setup.now c.args.tax c.args.limits.now c.args.most c.in_ok-game.game c.in-Ok.begun.black c.in-Ok.begun.white c.in-Ok.begun.scratch.items c.board.ensures.fit
    (subst (λ g. length g.cells ≤ 625) c.board.ensures.board c.size-size.ensures.most) c.in_ok-game.ensures.begun nothing.0 nothing.1
    record { black_many = black_many ∙ same; white_many = white_many ∙ same; scratch_many = scratch_many ∙ same }
