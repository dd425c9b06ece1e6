use Rattle.std.proofs.Common.{ap, subst, sym, ◌∙◌, MatchOption}
use Rattle.endgame_solver.specs.Solved.{Chooses, HasMove}
use Rattle.engine_player.specs.Played.{EnginePlays, Played}
use Rattle.engine_player.specs.EngineGame.{IsEngineMove}
use Rattle.engine_player.specs.inner.Viewed.{seen_of}
use Rattle.engine_player.proofs.PlainLemmas.{cycle_choice, plain_choice}
use Rattle.engine_player.proofs.player.Player.choose.Goals.{in-Plain, in-Cycles}
use Rattle.engine_player.proofs.player.Player.choose.Goals as goal

pub returns-clause-choice : goal.returns-clause-choice
returns-clause-choice c = elim c.match-self.branch [
  | in-Plain w ↦
      let s = w.in-Plain.solved.state in
      subst (λ p. MatchOption c.match-self.result (¬ HasMove p.state) (λ m. IsEngineMove p m)) (ap seen_of (sym w.in-Plain.is) ∙ c.self.view_is)
      (plain_choice s c.match-self.result (subst (λ r. MatchOption r (¬ HasMove s) (λ m. Chooses s m)) (sym w.result-is) w.choose.ensures.choice))
  | in-Cycles w ↦
      let p = w.in-Cycles.game in
      subst (λ p. MatchOption c.match-self.result (¬ HasMove p.state) (λ m. IsEngineMove p m)) (ap seen_of (sym w.in-Cycles.is) ∙ c.self.view_is)
      (cycle_choice p c.match-self.result
      (subst (λ r. MatchOption r (¬ HasMove p.state) (λ m. (after : Played) × EnginePlays p m after)) (sym w.result-is) w.choose-in-Cycles.ensures.choice))
]
