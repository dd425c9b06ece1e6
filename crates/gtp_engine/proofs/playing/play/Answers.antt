use Rattle.std.proofs.Common.{ap, ◌∙◌}
use Rattle.gtp_engine.specs.Moves.{move_for}
use Rattle.gtp_engine.proofs.MoveLemmas.{acted_none, acted_played, acted_refused}
use Rattle.gtp_engine.proofs.playing.play.Goals as goal

pub returns-in_default-clause-acted : goal.returns-in_default-clause-acted
returns-in_default-clause-acted c =
    let board = c.board.ensures ∙ ap (λ s. s.board) c.whole.ensures in
    let is = c.find_move.ensures ∙ ap (λ n. move_for n c.size.result.rows c.args.wanted) (c.size.ensures.columns ∙ ap (λ b. b.columns) board) ∙ ap (λ n. move_for c.args.game.now.state.board.columns n c.args.wanted) (c.size.ensures.rows ∙ ap (λ b. b.rows) board) in
    acted_none c.args.wanted c.args.game.now c.args.id.now c.in_ok-illegal.illegal c.find_move.result is c.in_default.is c.in_ok-illegal.ensures

pub returns-in-Ok-clause-acted : goal.returns-in-Ok-clause-acted
returns-in-Ok-clause-acted c =
    let board = c.board.ensures ∙ ap (λ s. s.board) c.whole.ensures in
    let is = c.find_move.ensures ∙ ap (λ n. move_for n c.size.result.rows c.args.wanted) (c.size.ensures.columns ∙ ap (λ b. b.columns) board) ∙ ap (λ n. move_for c.args.game.now.state.board.columns n c.args.wanted) (c.size.ensures.rows ∙ ap (λ b. b.rows) board) in
    acted_played c.args.wanted c.args.game.now c.args.id.now c.in_ok-played.played c.find_move.result is c.in-Some.chosen c.play.new.self c.in-Some.is c.in-Ok.ensures c.in_ok-played.ensures

pub returns-in-Err-clause-acted : goal.returns-in-Err-clause-acted
returns-in-Err-clause-acted c =
    let board = c.board.ensures ∙ ap (λ s. s.board) c.whole.ensures in
    let is = c.find_move.ensures ∙ ap (λ n. move_for n c.size.result.rows c.args.wanted) (c.size.ensures.columns ∙ ap (λ b. b.columns) board) ∙ ap (λ n. move_for c.args.game.now.state.board.columns n c.args.wanted) (c.size.ensures.rows ∙ ap (λ b. b.rows) board) in
    acted_refused c.args.wanted c.args.game.now c.args.id.now c.in_ok-illegal.illegal c.find_move.result is c.in-Some.chosen c.play.new.self c.in-Err.field-0 c.in-Some.is c.in-Err.ensures c.in_ok-illegal.ensures
