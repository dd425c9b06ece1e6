use Rattle.std.proofs.Common.{ap, refl, subst, sym, ◌∙◌, None, Some}
use Rattle.engine_player.specs.EngineGame.{EngineGoes, IsEngineMove}
use Rattle.engine_player.specs.declared.player.Game.TheVariants.{Cycles, Plain}
use Rattle.engine_player.specs.inner.Viewed.{seen_of}
use Rattle.engine_player.proofs.player.Player.make.Goals.{in-Plain, in-Cycles}
use Rattle.engine_player.proofs.player.Player.make.Goals as goal

pub make-requires : goal.make-requires
make-requires c = (subst (λ p. IsEngineMove p c.args.chosen) (sym (ap seen_of (sym c.in-Plain.is) ∙ c.self.view_is)) c.requires.chosen).1.0

pub make-requires-in-Cycles-clause-chosen : goal.make-requires-in-Cycles-clause-chosen
make-requires-in-Cycles-clause-chosen c =
    let (q, (after, goes, is)) = subst (λ p. IsEngineMove p c.args.chosen) (sym (ap seen_of (sym c.in-Cycles.is) ∙ c.self.view_is)) c.requires.chosen in
    (record { state = q.state; keeping = after }, goes)

pub returns : goal.returns
returns c = record {
  made = elim c.match-self.branch [
    | in-Plain w ↦
        let same = ap seen_of (sym w.in-Plain.is) ∙ c.self.view_is in
        let before = seen_of (Plain w.in-Plain.solved) in
        let chosen = (subst (λ p. IsEngineMove p c.args.chosen) (sym same) c.requires.chosen).1.0 in
        let made : EngineGoes before c.args.chosen (seen_of (Plain w.make.new.solved)) = (chosen, w.make.ensures, refl) in
        subst (λ p. EngineGoes p c.args.chosen (seen_of c.match-self.self-inside.game)) same
        (subst (EngineGoes before c.args.chosen) (ap (λ i. seen_of i.game) (sym w.self-inside-is)) made)
    | in-Cycles w ↦
        let same = ap seen_of (sym w.in-Cycles.is) ∙ c.self.view_is in
        let before = seen_of (Cycles w.in-Cycles.game) in let after = w.make-in-Cycles.new.self in
        let made : EngineGoes before c.args.chosen (seen_of (Cycles after)) = (after.keeping, w.make-in-Cycles.ensures.made, refl) in
        subst (λ p. EngineGoes p c.args.chosen (seen_of c.match-self.self-inside.game)) same
        (subst (EngineGoes before c.args.chosen) (ap (λ i. seen_of i.game) (sym w.self-inside-is)) made)
  ];
}
