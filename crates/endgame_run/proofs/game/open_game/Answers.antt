use Rattle.desk_io.specs.Desk.{input_of}
use Rattle.std.proofs.Common.{inr}
use Rattle.endgame_run.specs.Game.{question_of_game}
use Rattle.endgame_questions.proofs.StepLaws.{needed_steps}
use Rattle.endgame_run.proofs.TopLaws.{begun_opened, game_needs}
use Rattle.endgame_questions.proofs.AnswerLaws.{found_position}
use Rattle.endgame_questions.proofs.UndeclaredLaws.{position_may_tax}
use Rattle.endgame_run.proofs.game.open_game.Goals as goal

pub returns-in_ok-opened-in-Position-clause-opened : goal.returns-in_ok-opened-in-Position-clause-opened
returns-in_ok-opened-in-Position-clause-opened g c =
    let i = input_of g.H.Shelf g.S.Source c.args.shelf.now c.args.lines.now in
    let j = input_of g.H.Shelf g.S.Source c.find_position.new.shelf c.find_position.new.lines in
    begun_opened c.args.game.now.terms c.args.game.now.cycles c.args.game.now.engine c.args.settings.now c.args.game.now.word.now i j c.in-Position.setup c.in_ok-opened-in-Position.opened
    (found_position c.args.settings.now c.args.game.now.word.now i j c.in_ok-setup.field-0 c.in-Position.setup c.in-Position.is c.in_ok-setup.ensures.found) c.in_ok-opened-in-Position.ensures.begun

pub returns-in_ok-opened-in-Position-clause-steps : goal.returns-in_ok-opened-in-Position-clause-steps
returns-in_ok-opened-in-Position-clause-steps g c =
    let i = input_of g.H.Shelf g.S.Source c.args.shelf.now c.args.lines.now in
    let j = input_of g.H.Shelf g.S.Source c.find_position.new.shelf c.find_position.new.lines in
    let p = found_position c.args.settings.now c.args.game.now.word.now i j c.in_ok-setup.field-0 c.in-Position.setup c.in-Position.is c.in_ok-setup.ensures.found in
    inr (p.file, c.in-Position.setup, p.told_so, p.reads, needed_steps (question_of_game c.args.game.now.cycles) c.args.game.now.terms.limits c.in-Position.setup c.args.steps.now c.begin.new.steps (game_needs c.args.game.now.cycles) c.begin.ensures.steps)

pub begin-requires : goal.begin-requires
begin-requires g c =
    let i = input_of g.H.Shelf g.S.Source c.args.shelf.now c.args.lines.now in
    let j = input_of g.H.Shelf g.S.Source c.find_position.new.shelf c.find_position.new.lines in
    record { taxed = position_may_tax c.args.settings.now c.args.game.now.word.now i j c.in_ok-setup.field-0 c.in-Position.setup c.args.game.now.terms.tax c.in-Position.is c.in_ok-setup.ensures.found c.requires.untaxed }

pub returns-in_err-setup-clause-reads : goal.returns-in_err-setup-clause-reads
returns-in_err-setup-clause-reads g c = c.find_position.ensures.reads

pub returns-in_err-opened-in-Position-clause-reads : goal.returns-in_err-opened-in-Position-clause-reads
returns-in_err-opened-in-Position-clause-reads g c = c.find_position.ensures.reads

pub returns-in_ok-opened-in-Position-clause-reads : goal.returns-in_ok-opened-in-Position-clause-reads
returns-in_ok-opened-in-Position-clause-reads g c = c.find_position.ensures.reads

pub returns-in-Fault-clause-reads : goal.returns-in-Fault-clause-reads
returns-in-Fault-clause-reads g c = c.find_position.ensures.reads
