-- The position that a file gives under settings, or what is wrong with it.
use Rattle.std.specs.Prelude.{◌≡◌, ℕ, List, codes}
use Rattle.sgf_tree.specs.Grammar.{PropertyText}
use Rattle.sgf_tree.specs.Reading.{IsTreeAnswer}
use Rattle.sgf_tree.specs.Reading.Answer.{line}
use Rattle.sgf_tree.specs.declared.fault.TreeFault.{TreeFault}
use Rattle.sgf_tree.specs.declared.fault.TreeFault.TheVariants.{NoTree, BadByte, CutShort, TooDeep}
use Rattle.sgf_go.specs.Setup.{IsBoardSize, value_of, root}
use Rattle.sgf_go.specs.Values.{Extent}
use Rattle.sgf_go.specs.declared.fault.SetupFault.{SetupFault}
use Rattle.sgf_go.specs.declared.fault.SetupFault.TheVariants.{WrongGame, BadSize, BadKomi, BadPoint, BadSide, Occupied, Suicide, MarkedTwice, NoLiberty}
use Rattle.sgf_go.specs.declared.fault.FileFault.{FileFault}
use Rattle.sgf_go.specs.declared.fault.FileFault.TheVariants as fault
use Rattle.go_grid.specs.Name.{point_name}
use Rattle.board_words.specs.Words.{word_line}
use Rattle.endgame_questions.specs.Texts.{fault_line, fault_line_at}

-- the line of a fault of a tree
abbrev pub IsTreeFaultText : TreeFault → List ℕ → Type 0
IsTreeFaultText NoTree text = text ≡ fault_line (codes "no tree")
IsTreeFaultText (BadByte at) text = text ≡ fault_line_at (codes "bad byte") at
IsTreeFaultText CutShort text = text ≡ fault_line (codes "cut short")
IsTreeFaultText TooDeep text = text ≡ fault_line (codes "too deep")

-- the line of a point with a fault, which is named by the size that the main line gives
abbrev pub IsPointFaultText : List (List PropertyText) → List ℕ → ℕ → List ℕ → Type 0
IsPointFaultText l label p text = (e : Extent) × IsBoardSize (value_of (codes "SZ") (root l)) e × (text ≡ word_line label (point_name e.columns p))

-- the line of a fault of a position
abbrev pub IsSetupFaultText : List (List PropertyText) → SetupFault → List ℕ → Type 0
IsSetupFaultText l WrongGame text = text ≡ fault_line (codes "wrong game")
IsSetupFaultText l BadSize text = text ≡ fault_line (codes "bad size")
IsSetupFaultText l BadKomi text = text ≡ fault_line (codes "bad komi")
IsSetupFaultText l (BadPoint node) text = text ≡ fault_line_at (codes "bad point at node") node
IsSetupFaultText l BadSide text = text ≡ fault_line (codes "bad side")
IsSetupFaultText l (Occupied node) text = text ≡ fault_line_at (codes "occupied at node") node
IsSetupFaultText l (Suicide node) text = text ≡ fault_line_at (codes "suicide at node") node
IsSetupFaultText l (MarkedTwice p) text = IsPointFaultText l (codes "fault file marked twice at") p text
IsSetupFaultText l (NoLiberty p) text = IsPointFaultText l (codes "fault file no liberty at") p text

-- the line of a fault of a file
abbrev pub IsFaultText : List ℕ → FileFault → List ℕ → Type 0
IsFaultText file (fault.Tree f) text = IsTreeFaultText f text
IsFaultText file (fault.Setup f) text = (l : List (List PropertyText)) × IsTreeAnswer file (line l) × IsSetupFaultText l f text
