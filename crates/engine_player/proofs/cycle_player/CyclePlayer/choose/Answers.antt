use Rattle.std.proofs.Common.{subst, sym, ap, ◌∙◌}
use Rattle.go_grid.specs.declared.grid.Colour.TheVariants.{Black, White}
use Rattle.whole_budgets.specs.EnginePlay.{Serves}
use Rattle.engine_player.specs.inner.Kept.{kept_of}
use Rattle.engine_player.proofs.PreparedLemmas.{played_choice}
use Rattle.engine_player.proofs.cycle_player.CyclePlayer.choose.Goals as goal

pub chosen_move-requires-clause-serves : goal.chosen_move-requires-clause-serves
chosen_move-requires-clause-serves c =
    let side = sym c.in-Black.is ∙ c.side.ensures ∙ ap (λ s. s.side) c.whole.ensures in
    subst (λ d. Serves c.self.inside.game.regions d c.self.inside.game.state (kept_of c.self.inside.black)) side (c.self.invariant.serve Black)

pub chosen_move-requires-in-White-clause-serves : goal.chosen_move-requires-in-White-clause-serves
chosen_move-requires-in-White-clause-serves c =
    let side = sym c.in-White.is ∙ c.side.ensures ∙ ap (λ s. s.side) c.whole.ensures in
    subst (λ d. Serves c.self.inside.game.regions d c.self.inside.game.state (kept_of c.self.inside.white)) side (c.self.invariant.serve White)

pub returns-in-Black-clause-choice : goal.returns-in-Black-clause-choice
returns-in-Black-clause-choice c =
    let side = sym c.in-Black.is ∙ c.side.ensures ∙ ap (λ s. s.side) c.whole.ensures in
    played_choice _ c.args.self.now Black c.self.view_is side c.chosen_move.result c.chosen_move.ensures.choice

pub returns-in-White-clause-choice : goal.returns-in-White-clause-choice
returns-in-White-clause-choice c =
    let side = sym c.in-White.is ∙ c.side.ensures ∙ ap (λ s. s.side) c.whole.ensures in
    played_choice _ c.args.self.now White c.self.view_is side c.chosen_move-in-White.result c.chosen_move-in-White.ensures.choice
