use Rattle.std.proofs.Common.{refl, subst}
use Rattle.engine_player.specs.Played.{EnginePlays, Played}
use Rattle.board_session.specs.Generating.{PayFor, after_passes}
use Rattle.board_session.proofs.CycleAdviceLemmas.{moves_anew}
use Rattle.board_session.proofs.cycle_advice.tell.Goals as goal

pub returns-in-Some : goal.returns-in-Some
returns-in-Some c =
    let p = c.args.game.now in let q : Played = record p { state = after_passes c.args.passes p.state } in
    let (after, plays) = subst (λ v. (after : Played) × EnginePlays v c.in-Some.chosen after) c.take_passes.ensures (c.in-Some.ensures {u = tt}).choice in (
      subst (λ w. PayFor c.args.passes w.purses) c.whole.ensures ((c.if-not-pay.ensures {u = tt}).0 refl),
      moves_anew q after c.in-Some.chosen c.requires.nothing plays,
    )
