-- The options of the command line: their names and their values.
use Rattle.std.specs.Prelude.{◌≡◌, ℕ, List, codes}
use Rattle.local_graph.specs.declared.graph.TheConstants.{MOST_POSITIONS}
use Rattle.gd_words.specs.declared.choice.TheConstants.{MOST_MOVES, MOST_PARTS}
use Rattle.sgf_go.specs.declared.settings.TheConstants.{MOST_PRISONERS}
use Rattle.sgf_go.specs.Komi.{IsKomi}
use Rattle.gd_words.specs.declared.choice.Choice.{Choice}
use Rattle.gd_words.specs.declared.choice.Choice.TheVariants.{Komi, Turn, After, BlackPrisoners, WhitePrisoners, Positions, Parts, Engine, Tax, Territory, Cycles, KeepBoard}
use Rattle.gd_words.specs.Value.{IsNumberWithin, answer_word}
use Rattle.board_words.specs.Words.{colour_word}

-- the word that names an option
abbrev pub name_of : Choice → List ℕ
name_of (Komi halves) = codes "--komi"
name_of (Turn colour) = codes "--turn"
name_of (After n) = codes "--after"
name_of (BlackPrisoners n) = codes "--black-prisoners"
name_of (WhitePrisoners n) = codes "--white-prisoners"
name_of (Positions n) = codes "--positions"
name_of (Parts n) = codes "--parts"
name_of (Engine colour) = codes "--as"
name_of (Tax taxed) = codes "--tax"
name_of (Territory declared) = codes "--territory"
name_of (Cycles admitted) = codes "--cycles"
name_of (KeepBoard kept) = codes "--board"

-- the word gives the option its value; a komi has no white space
abbrev pub IsChoiceValue : List ℕ → Choice → Type 0
IsChoiceValue word (Komi halves) = IsKomi word halves
IsChoiceValue word (Turn colour) = word ≡ colour_word colour
IsChoiceValue word (After n) = IsNumberWithin 0 MOST_MOVES word n
IsChoiceValue word (BlackPrisoners n) = IsNumberWithin 0 MOST_PRISONERS word n
IsChoiceValue word (WhitePrisoners n) = IsNumberWithin 0 MOST_PRISONERS word n
IsChoiceValue word (Positions n) = IsNumberWithin 1 MOST_POSITIONS word n
IsChoiceValue word (Parts n) = IsNumberWithin 1 MOST_PARTS word n
IsChoiceValue word (Engine colour) = word ≡ colour_word colour
IsChoiceValue word (Tax taxed) = word ≡ answer_word taxed
IsChoiceValue word (Territory declared) = word ≡ answer_word declared
IsChoiceValue word (Cycles admitted) = word ≡ answer_word admitted
IsChoiceValue word (KeepBoard kept) = word ≡ answer_word kept

-- an option as two words: its name and its value
abbrev pub IsChoice : List ℕ → List ℕ → Choice → Type 0
IsChoice name value choice = (name ≡ name_of choice) × IsChoiceValue value choice
