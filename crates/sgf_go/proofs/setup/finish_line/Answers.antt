use mir.Syntax.{w64}
use Rattle.std.proofs.lemmas.Int.{to_z-of_z}
use Rattle.sgf_go.specs.inner.Setup.{AnswersEnd}
use Rattle.std.proofs.Common.{arith, sym, subst, map}
use Rattle.std.proofs.lemmas.Result.{IfOk-weaker, err_from_is_err_and}
use Rattle.go_grid.specs.Board.{DeclaresNothing}
use Rattle.sgf_tree.specs.Reading.{node_text}
use Rattle.sgf_go.proofs.PositionLemmas.{ends_like, fails_like}
use Rattle.sgf_go.proofs.setup.finish_line.Goals as goal

pub read_territory-requires-clause-black : goal.read_territory-requires-clause-black
read_territory-requires-clause-black c = omega (arith, c.requires.counts.black, c.requires.few)

pub read_territory-requires-clause-white : goal.read_territory-requires-clause-white
read_territory-requires-clause-white c = omega (arith, c.requires.counts.white, c.requires.few)

pub returns-in_err-read_territory-clause-answer : goal.returns-in_err-read_territory-clause-answer
returns-in_err-read_territory-clause-answer c = fails_like c.args.settings.now (map node_text c.args.line.now) c.args.komi c.args.replay c.read_territory.new.self _ c.from_residual.result
    (err_from_is_err_and c.from_residual.result c.from_residual.ensures.1) c.in_err-read_territory.ensures.answer

pub finish-requires-clause-black_taken : goal.finish-requires-clause-black_taken
finish-requires-clause-black_taken c = omega (arith, c.in_ok-read_territory.ensures.black, c.requires.counts.black, c.requires.few)

pub finish-requires-clause-white_taken : goal.finish-requires-clause-white_taken
finish-requires-clause-white_taken c = omega (arith, c.in_ok-read_territory.ensures.white, c.requires.counts.white, c.requires.few)

pub finish-requires-clause-closed : goal.finish-requires-clause-closed
finish-requires-clause-closed c = c.in_ok-read_territory.ensures.closed

pub returns-clause-answer : goal.returns-clause-answer
returns-clause-answer c = ends_like c.args.settings.now (map node_text c.args.line.now) c.args.komi c.args.replay c.read_territory.new.self c.finish.result c.in_ok-read_territory.ensures.answer
    (subst (λ k. AnswersEnd c.args.settings.now k c.read_territory.new.self c.finish.result) (to_z-of_z w64 c.args.komi c.ranges.komi) c.finish.ensures.answer)

pub returns-clause-undeclared : goal.returns-clause-undeclared
returns-clause-undeclared c = IfOk-weaker c.finish.result _ _ (λ s e no. subst DeclaresNothing (sym e) (c.in_ok-read_territory.ensures.undeclared no)) c.finish.ensures.board
