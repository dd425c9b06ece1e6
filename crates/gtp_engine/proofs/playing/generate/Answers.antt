use Rattle.std.proofs.Common.{sym, ap, ◌∙◌, subst}
use Rattle.engine_player.specs.EngineGame.{IsEngineMove}
use Rattle.engine_player.specs.Room.{CanTake}
use Rattle.gtp_engine.specs.Moves.{move_text}
use Rattle.gtp_engine.proofs.MoveLemmas.{acted_generated, acted_resigned}
use Rattle.gtp_engine.proofs.playing.generate.Goals as goal

pub make-requires : goal.make-requires
make-requires c = record {
  chosen = subst (λ g. IsEngineMove g c.in-Some.chosen) (sym c.choose.ensures.same) c.in-Some.ensures.choice;
  room = subst (CanTake 1) (sym c.choose.ensures.same) c.requires.room;
}

pub returns-clause-acted : goal.returns-clause-acted
returns-clause-acted c =
    let s = c.args.game.now in let m = c.in-Some.chosen in
    let board = c.board.ensures ∙ ap (λ x. x.board) (c.whole.ensures ∙ ap (λ g. g.state) c.choose.ensures.same) in
    let text = c.as_slice.ensures ∙ c.in_ok-text.ensures ∙ ap (λ n. move_text n c.size.result.rows m) (c.size.ensures.columns ∙ ap (λ b. b.columns) board)
    ∙ ap (λ n. move_text s.state.board.columns n m) (c.size.ensures.rows ∙ ap (λ b. b.rows) board) in
    acted_generated s c.choose.new.self c.make.new.self m c.args.id.now c.in_ok-reply-2.reply c.as_slice.result.now c.choose.ensures.same c.make.ensures.made text c.in_ok-reply-2.ensures

pub returns-in_default-clause-acted : goal.returns-in_default-clause-acted
returns-in_default-clause-acted c =
    acted_resigned c.args.game.now c.choose.new.self c.args.id.now c.in_ok-reply.reply c.in_default.ensures.choice c.choose.ensures.same c.in_ok-reply.ensures
