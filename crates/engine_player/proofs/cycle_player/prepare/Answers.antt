use Rattle.std.proofs.Common.{ap, subst, sym, ◌∙◌, replicate, None}
use Rattle.whole_budgets.specs.EnginePlay.{WinsWithList}
use Rattle.engine_player.proofs.PreparedLemmas.{least_serve}
use Rattle.engine_player.proofs.cycle_player.prepare.Goals as goal

pub reduce-requires-in-Some-clause-wins : goal.reduce-requires-in-Some-clause-wins
reduce-requires-in-Some-clause-wins c =
    let game = c.args.game.now in let n = c.in-Some.captures in
    let full = c.fill.ensures.after (λ y e. e) ∙ ap (λ k. replicate k n) c.requires.room in
    subst (λ p. WinsWithList p.regions p.state.side p.state c.fill.new.self) (sym c.mover_captures.ensures.same)
    (subst (WinsWithList game.regions game.state.side game.state) (sym full) (least_serve game None c.requires.reached.1 n c.in-Some.ensures.captures))
