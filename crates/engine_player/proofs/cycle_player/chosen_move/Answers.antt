use Rattle.std.proofs.Common.{subst, sym, ap, ◌∙◌, MatchOption, None, Some, true, false}
use Rattle.whole_rules.specs.WholeGame.{IsFirstMove}
use Rattle.cycle_solver.specs.Keeping.{IsFirstOf}
use Rattle.whole_budgets.specs.EnginePlay.{HasAtTurn, HoldsOff, IsFirstKeeping, KeepsWinning}
use Rattle.engine_player.specs.inner.Kept.{IsPrepared, kept_of}
use Rattle.engine_player.proofs.PreparedLemmas.{first_choice, holding_choice, keeping_choice}
use Rattle.engine_player.proofs.cycle_player.chosen_move.Goals as goal

pub returns-then-prepare-clause-choice : goal.returns-then-prepare-clause-choice
returns-then-prepare-clause-choice c =
    let game = c.args.game.now in let kept = kept_of c.args.kept.now in
    keeping_choice game kept c.requires.reached.1 c.prepare.new.scratch (subst (λ b. IsPrepared game kept b c.prepare.new.scratch) c.if-prepare.true c.prepare.ensures.prepared)
    c.keeping_move.result
    (subst (λ p. MatchOption c.keeping_move.result ((m : _) (t : _) (ds : _) → ¬ KeepsWinning p.regions p.state c.prepare.new.scratch m t ds)
    (λ m. (t : _) × (ds : _) × IsFirstKeeping p.regions p.state c.prepare.new.scratch m t ds)) c.prepare.ensures.same c.keeping_move.ensures.first)

pub returns-in-Some-clause-choice : goal.returns-in-Some-clause-choice
returns-in-Some-clause-choice c =
    let game = c.args.game.now in let kept = kept_of c.args.kept.now in
    holding_choice game kept (subst (λ b. IsPrepared game kept b c.prepare.new.scratch) c.if-prepare.false c.prepare.ensures.prepared) c.in-Some.holding
    (subst (λ p. IsFirstOf (HoldsOff p.state) (Some c.in-Some.holding)) c.prepare.ensures.same c.in-Some.ensures.first)

pub returns-in-None-clause-choice : goal.returns-in-None-clause-choice
returns-in-None-clause-choice c =
    let game = c.args.game.now in let kept = kept_of c.args.kept.now in
    first_choice game kept (subst (λ b. IsPrepared game kept b c.prepare.new.scratch) c.if-prepare.false c.prepare.ensures.prepared)
    (subst (λ p. IsFirstOf (HoldsOff p.state) None) c.prepare.ensures.same c.in-None.ensures.first) c.first_move.result
    (subst (λ s. IsFirstMove s c.first_move.result) (c.whole.ensures ∙ ap (λ p. p.state) (c.in-None.ensures.same ∙ c.prepare.ensures.same)) c.first_move.ensures)
