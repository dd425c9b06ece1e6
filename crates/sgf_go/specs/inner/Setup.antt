-- Where a setup ends.
use Rattle.std.specs.Prelude.{List, Result, Ok, Err, ℤ}
use Rattle.sgf_tree.specs.Grammar.{PropertyText}
use Rattle.sgf_go.specs.declared.replay.Replay.{Replay}
use Rattle.sgf_go.specs.declared.settings.Settings.{Settings}
use Rattle.go_play.specs.Setup.{Setup}
use Rattle.sgf_go.specs.declared.fault.GoError.{GoError}
use Rattle.sgf_go.specs.declared.fault.GoError.TheVariants.{Fault, Memory}
use Rattle.sgf_go.specs.Setup.{EndsMainLine, Part, TerritoryPart}
use Rattle.sgf_go.specs.declared.fault.SetupFault.{SetupFault}

-- what is answered of the end of a line; want of memory may always be answered
abbrev pub AnswersEnd : Settings → ℤ → Replay → Result Setup GoError → Type 0
AnswersEnd settings komi s (Ok setup) = EndsMainLine settings komi (Ok s) (Ok setup)
AnswersEnd settings komi s (Err (Fault f)) = EndsMainLine settings komi (Ok s) (Err f)
AnswersEnd settings komi s (Err (Memory e)) = Unit {0}

-- what a part answers: how things stand behind it, or its fault; want of memory may always be answered
abbrev pub AnswersPart : Part → Replay → Replay → Result (Unit {0}) GoError → Type 0
AnswersPart P s t (Ok u) = P s (Ok t)
AnswersPart P s t (Err (Fault f)) = P s (Err f)
AnswersPart P s t (Err (Memory e)) = Unit {0}

-- what comes of things as they stand behind the line, with its territory
abbrev pub EndsWithTerritory : Settings → List (List PropertyText) → ℤ → Replay → Result Setup SetupFault → Type 0
EndsWithTerritory settings line komi s r = (m : Result Replay SetupFault)
    × TerritoryPart settings.territory line s m × EndsMainLine settings komi m r

-- what is answered of that; want of memory may always be answered
abbrev pub AnswersTerritory : Settings → List (List PropertyText) → ℤ → Replay → Result Setup GoError → Type 0
AnswersTerritory settings line komi s (Ok setup) = EndsWithTerritory settings line komi s (Ok setup)
AnswersTerritory settings line komi s (Err (Fault f)) = EndsWithTerritory settings line komi s (Err f)
AnswersTerritory settings line komi s (Err (Memory e)) = Unit {0}
