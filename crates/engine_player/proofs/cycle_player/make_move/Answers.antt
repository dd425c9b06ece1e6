use Rattle.std.proofs.Common.{ap, subst, sym, ◌∙◌}
use Rattle.whole_rules.specs.WholeGame.{IsLegal, IsMove}
use Rattle.whole_rules.proofs.MoveLaws.{refused_not_legal}
use Rattle.whole_budgets.specs.EnginePlay.{EngineMoves}
use Rattle.engine_player.specs.inner.Kept.{IsPaid, KeepsPrepared, kept_of}
use Rattle.engine_player.proofs.EngineGameLaws.{engine_moves_moved}
use Rattle.engine_player.proofs.PreparedLemmas.{keeps_if, made_if}
use Rattle.engine_player.proofs.cycle_player.make_move.Goals as goal

pub pay_prepared-requires-clause-keeps : goal.pay_prepared-requires-clause-keeps
pay_prepared-requires-clause-keeps c =
    let p = c.prepare-are_kept in
    subst (λ z. KeepsPrepared z p.result p.new.scratch c.args.chosen) (sym p.ensures.same)
    (keeps_if c.args.game.now (kept_of c.args.kept.now) p.result p.new.scratch c.args.chosen p.ensures.prepared c.requires.chosen)

pub unreachable-requires : goal.unreachable-requires
unreachable-requires c =
    let game = c.args.game.now in let (t, left, moves) = c.requires.chosen in
    let moved = engine_moves_moved game.regions game.state t (kept_of c.args.kept.now) left c.args.chosen moves in
    refused_not_legal c.prepare-are_kept.new.game.state c.args.chosen c.in-Err.field-0 c.in-Err.ensures.applied.1
    (subst (λ z. IsLegal z.state c.args.chosen) (sym c.prepare-are_kept.ensures.same) (t, moved))

pub returns-clause-made : goal.returns-clause-made
returns-clause-made c =
    let game = c.args.game.now in let kept = kept_of c.args.kept.now in let p = c.prepare-are_kept in let m = c.args.chosen in let t = c.play.new.self.state in
    let moved = subst (λ z. IsMove z.state m t) p.ensures.same c.in-Ok.ensures.applied in
    let paid = subst (λ z. IsPaid z p.result m p.new.scratch c.pay_prepared.new.scratch) p.ensures.same c.pay_prepared.ensures.paid in
    subst (λ k. EngineMoves game.regions game.state kept m t k) (sym c.put.ensures.kept)
    (made_if game kept p.result p.new.scratch c.pay_prepared.new.scratch m t p.ensures.prepared c.requires.chosen moved paid)
