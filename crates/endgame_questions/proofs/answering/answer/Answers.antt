use Rattle.desk_io.specs.Desk.{input_of}
use Rattle.endgame_questions.proofs.AnswerLaws.{found_position, position_answer}
use Rattle.endgame_questions.proofs.UndeclaredLaws.{position_may_tax}
use Rattle.endgame_questions.proofs.answering.answer.Goals as goal

pub returns-in_ok-report-in-Position-clause-answer : goal.returns-in_ok-report-in-Position-clause-answer
returns-in_ok-report-in-Position-clause-answer g c =
    let i = input_of g.H.Shelf g.S.Source c.args.shelf.now c.args.lines.now in
    let j = input_of g.H.Shelf g.S.Source c.find_position.new.shelf c.find_position.new.lines in
    position_answer c.args.inquiry.now.question c.args.inquiry.now.terms _ _ _ c.args.settings.now c.in-Position.setup c.in_ok-report-in-Position.report.status c.in_ok-report-in-Position.report.text
    (found_position c.args.settings.now c.args.inquiry.now.word.now i j c.in_ok-setup.field-0 c.in-Position.setup c.in-Position.is c.in_ok-setup.ensures.found) c.in_ok-report-in-Position.ensures.answer

pub report_on_position-requires : goal.report_on_position-requires
report_on_position-requires g c =
    let i = input_of g.H.Shelf g.S.Source c.args.shelf.now c.args.lines.now in
    let j = input_of g.H.Shelf g.S.Source c.find_position.new.shelf c.find_position.new.lines in
    record { taxed = position_may_tax c.args.settings.now c.args.inquiry.now.word.now i j c.in_ok-setup.field-0 c.in-Position.setup c.args.inquiry.now.terms.tax c.in-Position.is c.in_ok-setup.ensures.found c.requires.untaxed }

pub returns-in_err-setup-clause-reads : goal.returns-in_err-setup-clause-reads
returns-in_err-setup-clause-reads g c = c.find_position.ensures.reads

pub returns-in_err-report-in-Position-clause-reads : goal.returns-in_err-report-in-Position-clause-reads
returns-in_err-report-in-Position-clause-reads g c = c.find_position.ensures.reads

pub returns-in_ok-report-in-Position-clause-reads : goal.returns-in_ok-report-in-Position-clause-reads
returns-in_ok-report-in-Position-clause-reads g c = c.find_position.ensures.reads

pub returns-in-Fault-clause-reads : goal.returns-in-Fault-clause-reads
returns-in-Fault-clause-reads g c = c.find_position.ensures.reads
