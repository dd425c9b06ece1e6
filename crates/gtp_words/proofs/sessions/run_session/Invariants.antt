use Rattle.std.proofs.Common.{◌≡◌, ◌≤◌, ◌-◌, [], length}
use Rattle.desk_io.specs.declared.lines.TheConstants.{MOST_LINES}
use Rattle.desk_io.specs.Lines.{UsesLines}
use Rattle.gtp_words.specs.Loads.{AreLoads, RoseBy}
use Rattle.gtp_words.specs.Steps.{counted}
use Rattle.gtp_words.proofs.AskingLemmas.{HasAsked}
use Rattle.gtp_words.proofs.StepLemmas.{HasCounted, HasStepped}
use Rattle.gtp_words.proofs.sessions.run_session.Given as goal

abbrev pub invariant-session : goal.invariant-session
invariant-session g l =
    let loaded = g.A.AnswersLines.loaded in let rules = g.A.AnswersLines.rules in let loads = (loaded l.engine).loads in
    HasStepped g.A.AnswersLines.State (g.A.AnswersLines.line_steps (rules l.fn.engine)) (g.A.AnswersLines.replies (rules l.fn.engine) (g.H.Shelf.files l.fn.shelf)) (loaded l.fn.engine).state l.fn.steps
    (g.S.Source.left l.fn.lines) (g.K.Sink.holds l.fn.out) (loaded l.engine) l.steps l._read l.reader (g.S.Source.left l.lines) (g.K.Sink.holds l.out)
    × (rules l.engine ≡ rules l.fn.engine) × AreLoads loads × (loads.count ≤ l._read)
    × RoseBy (length loads.failures) (g.H.Shelf.faults l.fn.shelf) (g.H.Shelf.faults l.shelf)
    × (g.H.Shelf.files l.shelf ≡ g.H.Shelf.files l.fn.shelf) × (g.H.Shelf.faults l.fn.shelf ≤ g.H.Shelf.faults l.shelf)
    × (g.S.Source.faults l.fn.lines ≤ g.S.Source.faults l.lines) × (g.K.Sink.faults l.fn.out ≤ g.K.Sink.faults l.out)
    × UsesLines 1024 0 l._read [] (g.S.Source.left l.fn.lines) l.reader (g.S.Source.left l.lines) × (length l.reader ≤ 1024) × (l._read ≤ MOST_LINES)
    × g.A.AnswersLines.has_room (MOST_LINES - l._read) (loaded l.engine).state
    × HasAsked g.H.Shelf.asks g.A.AnswersLines.names (g.S.Source.left l.fn.lines) l.fn.shelf l.reader (g.S.Source.left l.lines) l.shelf
    × HasCounted g.A.AnswersLines.State (g.A.AnswersLines.line_steps (rules l.fn.engine)) (g.A.AnswersLines.replies (rules l.fn.engine) (g.H.Shelf.files l.fn.shelf))
    (counted (loaded l.fn.engine).state l.fn.steps) l._read (counted (loaded l.engine).state l.steps)
