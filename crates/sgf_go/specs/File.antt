-- A file of at most 1,048,576 bytes, and the position that it gives under settings, or what is wrong with it.
use Rattle.std.specs.Prelude.{◌≤◌, ℕ, List, length, Result, Ok, Err}
use Rattle.sgf_tree.specs.declared.reader.TheConstants.{MOST_BYTES}
use Rattle.sgf_tree.specs.Grammar.{PropertyText}
use Rattle.sgf_tree.specs.Reading.{IsTreeAnswer}
use Rattle.sgf_tree.specs.Reading.Answer.{line, no_tree, bad_byte, cut_short, too_deep}
use Rattle.sgf_tree.specs.declared.fault.TreeFault.TheVariants.{NoTree, BadByte, CutShort, TooDeep}
use Rattle.sgf_go.specs.Setup.{Gives}
use Rattle.sgf_go.specs.declared.settings.Settings.{Settings}
use Rattle.go_play.specs.Setup.{Setup}
use Rattle.sgf_go.specs.declared.fault.FileFault.{FileFault}
use Rattle.sgf_go.specs.declared.fault.FileFault.TheVariants as fault

-- at most 1,048,576 bytes
abbrev pub HasFewBytes : List ℕ → Type 0
HasFewBytes file = length file ≤ MOST_BYTES

-- the file's main line gives the position by the settings, or this fault
abbrev pub Reads : List ℕ → Settings → Result Setup FileFault → Type 0
Reads file settings (Ok setup) = (l : List (List PropertyText)) × IsTreeAnswer file (line l) × Gives settings l (Ok setup)
Reads file settings (Err (fault.Setup f)) = (l : List (List PropertyText)) × IsTreeAnswer file (line l) × Gives settings l (Err f)
Reads file settings (Err (fault.Tree NoTree)) = IsTreeAnswer file no_tree
Reads file settings (Err (fault.Tree (BadByte at))) = IsTreeAnswer file (bad_byte at)
Reads file settings (Err (fault.Tree CutShort)) = IsTreeAnswer file cut_short
Reads file settings (Err (fault.Tree TooDeep)) = IsTreeAnswer file too_deep
