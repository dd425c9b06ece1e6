use Rattle.std.proofs.Common.{refl}
use Rattle.endgame_run.proofs.SessionLaws.{is_over, lines_stop, lines_taken, over_run, read_stops, stopped_run}
use Rattle.endgame_run.proofs.game.play.Goals as goal

pub returns-in-Won-clause-played : goal.returns-in-Won-clause-played
returns-in-Won-clause-played g c =
    over_run c.args.session.now.engine c.args.session.now c.run.new.self (g.S.Source.left c.args.lines.now) (g.S.Source.left c.run.new.lines) _ _ _ _ _ _ c.run.result c.requires.fresh
    (is_over c.run.result c.in-Won.is) c.run.ensures.keeps_win c.run.ensures.text

pub returns-in-ReadFault-clause-played : goal.returns-in-ReadFault-clause-played
returns-in-ReadFault-clause-played g c =
    let r = c.in-ReadFault.ensures in
    stopped_run c.args.session.now.engine c.args.session.now.game (g.S.Source.left c.args.lines.now) _ _ _ _ _ _ _ _ _ c.finish.result _ tt (λ e. absurd cc) (λ e. r.read_fault refl) r.writes_later
    (read_stops c.args.session.now.engine c.args.session.now c.run.new.self (g.S.Source.left c.args.lines.now) (g.S.Source.left c.run.new.lines) _ _ c.requires.fresh r.text) c.finish.ensures.written

pub returns-in-TooManyLines-clause-played : goal.returns-in-TooManyLines-clause-played
returns-in-TooManyLines-clause-played g c =
    let r = c.in-TooManyLines.ensures in
    stopped_run c.args.session.now.engine c.args.session.now.game (g.S.Source.left c.args.lines.now) _ _ _ _ _ _ _ _ _ c.finish-in-TooManyLines.result _ tt (λ e. absurd cc) (λ e. absurd cc) r.writes_later
    (lines_stop c.args.session.now.engine c.args.session.now c.run.new.self (g.S.Source.left c.args.lines.now) (g.S.Source.left c.run.new.lines) _ _ c.requires.fresh r.text) c.finish-in-TooManyLines.ensures.written

pub returns-in-Won-clause-takes : goal.returns-in-Won-clause-takes
returns-in-Won-clause-takes g c = lines_taken c.args.session.now c.run.new.self.held (g.S.Source.left c.args.lines.now) (g.S.Source.left c.run.new.lines) c.requires.fresh c.run.ensures.used c.run.ensures.few_held

pub returns-in-ReadFault-clause-takes : goal.returns-in-ReadFault-clause-takes
returns-in-ReadFault-clause-takes g c = lines_taken c.args.session.now c.run.new.self.held (g.S.Source.left c.args.lines.now) (g.S.Source.left c.run.new.lines) c.requires.fresh c.run.ensures.used c.run.ensures.few_held

pub returns-in-WriteFault-clause-takes : goal.returns-in-WriteFault-clause-takes
returns-in-WriteFault-clause-takes g c = lines_taken c.args.session.now c.run.new.self.held (g.S.Source.left c.args.lines.now) (g.S.Source.left c.run.new.lines) c.requires.fresh c.run.ensures.used c.run.ensures.few_held

pub returns-in-TooManyLines-clause-takes : goal.returns-in-TooManyLines-clause-takes
returns-in-TooManyLines-clause-takes g c = lines_taken c.args.session.now c.run.new.self.held (g.S.Source.left c.args.lines.now) (g.S.Source.left c.run.new.lines) c.requires.fresh c.run.ensures.used c.run.ensures.few_held
