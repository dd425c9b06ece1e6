-- A file gives one position or one fault.
use Rattle.std.proofs.Common.{◌≡◌, ℕ, refl, sym, ap, ◌∙◌, subst, List, Some, None, Result, Ok, Err}
use Rattle.std.specs.Prelude.{Option}
use Rattle.sgf_tree.specs.Grammar.{PropertyText}
use Rattle.sgf_tree.specs.Reading.{Answer, IsTreeAnswer}
use Rattle.sgf_tree.specs.Reading.Answer.{line, no_tree, bad_byte, cut_short, too_deep}
use Rattle.sgf_tree.specs.declared.fault.TreeFault.{TreeFault}
use Rattle.sgf_tree.specs.declared.fault.TreeFault.TheVariants.{NoTree, BadByte, CutShort, TooDeep}
use Rattle.sgf_tree.proofs.OneTreeLemmas.{one_answer}
use Rattle.sgf_go.specs.declared.fault.SetupFault.{SetupFault}
use Rattle.sgf_go.specs.declared.fault.FileFault.{FileFault}
use Rattle.sgf_go.specs.declared.fault.FileFault.TheVariants as fault
use Rattle.sgf_go.specs.declared.settings.Settings.{Settings}
use Rattle.go_play.specs.Setup.{Setup}
use Rattle.sgf_go.specs.Setup.{Gives}
use Rattle.sgf_go.specs.File.{Reads}
use Rattle.sgf_go.proofs.OnePositionLemmas.{one_position}

-- what a fault of a tree is among the answers of a reading, and back
abbrev answer_of : TreeFault → Answer
answer_of NoTree = no_tree
answer_of (BadByte at) = bad_byte at
answer_of CutShort = cut_short
answer_of TooDeep = too_deep

abbrev fault_of : Answer → Option TreeFault
fault_of (line l) = None
fault_of no_tree = Some NoTree
fault_of (bad_byte at) = Some (BadByte at)
fault_of cut_short = Some CutShort
fault_of too_deep = Some TooDeep

there_and_back : (f : TreeFault) → Path (Option TreeFault) (fault_of (answer_of f)) (Some f)
there_and_back NoTree = refl
there_and_back (BadByte at) = refl
there_and_back CutShort = refl
there_and_back TooDeep = refl

tree_read : (file : List ℕ) (settings : Settings) (f : TreeFault) → Reads file settings (Err (fault.Tree f)) → IsTreeAnswer file (answer_of f)
tree_read file settings NoTree h = h
tree_read file settings (BadByte at) h = h
tree_read file settings CutShort h = h
tree_read file settings TooDeep h = h

same_line : (file : List ℕ) (l m : List (List PropertyText)) → IsTreeAnswer file (line l) → IsTreeAnswer file (line m) → m ≡ l
same_line file l m t u = let e : Path Answer (line m) (line l) = one_answer file (line m) (line l) u t in cc

line_or_fault : (file : List ℕ) (settings : Settings) (l : List (List PropertyText)) (f : TreeFault) → IsTreeAnswer file (line l) → Reads file settings (Err (fault.Tree f)) → ⊥
line_or_fault file settings l f t u =
    let e = ap fault_of (one_answer file (line l) (answer_of f) t (tree_read file settings f u)) ∙ there_and_back f in absurd cc

-- a file gives a position or a fault
pub one_fault : (file : List ℕ) (settings : Settings) (f g : FileFault) → Reads file settings (Err f) → Reads file settings (Err g) → f ≡ g
one_fault file settings (fault.Tree f) (fault.Tree g) a b =
    let e = sym (there_and_back f) ∙ ap fault_of (one_answer file (answer_of f) (answer_of g) (tree_read file settings f a) (tree_read file settings g b)) ∙ there_and_back g in
    let same : f ≡ g = cc in ap fault.Tree same
one_fault file settings (fault.Tree f) (fault.Setup g) a (l, t, h) = absurd (line_or_fault file settings l f t a)
one_fault file settings (fault.Setup f) (fault.Tree g) (l, t, h) b = absurd (line_or_fault file settings l g t b)
one_fault file settings (fault.Setup f) (fault.Setup g) (l, t, h) (m, u, k) =
    let e : Path (Result Setup SetupFault) (Err f) (Err g) = one_position settings l (Err f) (Err g) h (subst (λ x. Gives settings x (Err g)) (same_line file l m t u) k) in
    let same : f ≡ g = cc in ap fault.Setup same

pub not_both : (file : List ℕ) (settings : Settings) (p : Setup) (f : FileFault) → Reads file settings (Ok p) → Reads file settings (Err f) → ⊥
not_both file settings p (fault.Tree f) (l, t, h) b = line_or_fault file settings l f t b
not_both file settings p (fault.Setup f) (l, t, h) (m, u, k) =
    let e : Path (Result Setup SetupFault) (Ok p) (Err f) = one_position settings l (Ok p) (Err f) h (subst (λ x. Gives settings x (Err f)) (same_line file l m t u) k) in absurd cc

pub one_setup : (file : List ℕ) (settings : Settings) (a b : Setup) → Reads file settings (Ok a) → Reads file settings (Ok b) → a ≡ b
one_setup file settings a b (l, t, g) (m, u, h) =
    let e : Path (Result Setup SetupFault) (Ok a) (Ok b) = one_position settings l (Ok a) (Ok b) g (subst (λ x. Gives settings x (Ok b)) (same_line file l m t u) h) in cc
