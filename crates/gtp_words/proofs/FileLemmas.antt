-- What files give.
use Rattle.std.proofs.Common.{◌≡◌, ℕ, List, inl, inr, subst, Ok, Err, Result}
use Rattle.sgf_tree.specs.declared.reader.TheConstants.{MOST_BYTES}
use Rattle.desk_io.specs.Files.{Told, Loads}
use Rattle.desk_io.specs.Files.Told.{untold, absent, holding}
use Rattle.desk_io.specs.declared.shelf.Loaded.TheVariants.{Longer}
use Rattle.sgf_tree.specs.Grammar.{PropertyText}
use Rattle.sgf_tree.specs.Reading.{IsTreeAnswer, AnswersFile}
use Rattle.sgf_tree.specs.Reading.Answer.{line}
use Rattle.sgf_tree.specs.declared.fault.SgfError.{SgfError}
use Rattle.sgf_tree.specs.declared.fault.SgfError.TheVariants as sgf
use Rattle.sgf_tree.specs.declared.tree.Tree.{Tree}
use Rattle.sgf_tree.specs.declared.fault.TreeFault.{TreeFault}
use Rattle.sgf_tree.specs.declared.fault.TreeFault.TheVariants.{NoTree, BadByte, CutShort, TooDeep}
use Rattle.sgf_go.specs.declared.fault.FileFault.TheVariants as fault
use Rattle.sgf_go.specs.declared.settings.Settings.{Settings}
use Rattle.sgf_go.specs.File.{Reads}
use Rattle.gtp_words.specs.declared.loading.Loading.{Loading}
use Rattle.gtp_words.specs.declared.loading.Loading.TheVariants.{Position, Nothing, Failed}
use Rattle.gtp_words.specs.inner.Finding.{IsFoundIn, IsFoundOn}
use Rattle.gtp_words.specs.Files.{GivesNone}

-- what is on the main line is in the file
pub found_in : (file : List ℕ) (settings : Settings) (l : List (List PropertyText)) (found : Loading) → IsTreeAnswer file (line l) → IsFoundOn l settings found → IsFoundIn file settings found
found_in file settings l (Position setup) a h = ((l, a, h.0), h.1)
found_in file settings l Nothing a h = (fault.Setup h.0, (l, a, h.1))
found_in file settings l Failed a h = absurd h

-- a tree with a fault gives no position
pub tree_fault : (file : List ℕ) (settings : Settings) (f : TreeFault) (r : Result Tree SgfError) → r ≡ Err (sgf.Fault f) → AnswersFile file r → Reads file settings (Err (fault.Tree f))
tree_fault file settings NoTree r e a = subst (AnswersFile file) e a
tree_fault file settings (BadByte at) r e a = subst (AnswersFile file) e a
tree_fault file settings CutShort r e a = subst (AnswersFile file) e a
tree_fault file settings TooDeep r e a = subst (AnswersFile file) e a

-- a file that is longer
pub too_long : (told : Told) (settings : Settings) (old new : List ℕ) → Loads told MOST_BYTES old new (Ok Longer) → GivesNone told settings
too_long untold settings old new h = inr (inl tt)
too_long absent settings old new h = absurd h
too_long (holding file) settings old new h = inr (inl h.0)
