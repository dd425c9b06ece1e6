-- What a command line asks for: the words that it begins with, and the options that go with it.
use Rattle.std.specs.Prelude.{◌≡◌, ◌≢◌, ◌∷◌, [], ⊤, ℕ, List, Bool, true, false, codes}
use Rattle.gd_words.specs.declared.choice.Choice.{Choice}
use Rattle.gd_words.specs.declared.choice.Choice.TheVariants.{Positions, Parts, Engine, Tax, Territory, Cycles, KeepBoard}
use Rattle.gd_words.specs.declared.job.CycleQuestion.TheVariants as cycle
use Rattle.gd_words.specs.declared.job.Question.{Question}
use Rattle.gd_words.specs.declared.job.Question.TheVariants.{Board, Line, Margin, Moves, Safe, Solve, Values, WithCycles}
use Rattle.gd_words.specs.Value.{IsNumberWithin}

-- the command: a question about the position of a file, a game of a file, the board of a number, an expression, or the engine
pub data Task : Type 0 where
  ask : Question → List ℕ → Task
  play : List ℕ → Task
  trial : ℕ → Task
  calc : List ℕ → Task
  gtp : Task

-- the word of a question; one that admits cycles is said by an option
abbrev pub IsWordOf : Question → List ℕ → Type 0
IsWordOf Solve word = word ≡ codes "solve"
IsWordOf Safe word = word ≡ codes "safe"
IsWordOf Values word = word ≡ codes "values"
IsWordOf Board word = word ≡ codes "board"
IsWordOf Margin word = word ≡ codes "margin"
IsWordOf Moves word = word ≡ codes "moves"
IsWordOf Line word = word ≡ codes "line"
IsWordOf (WithCycles question) word = ⊥

-- the task where regions may have cycles: questions about who wins, by how much, and what regions are worth
abbrev pub with_cycles : Task → Task
with_cycles (ask Solve file) = ask (WithCycles cycle.Solve) file
with_cycles (ask Values file) = ask (WithCycles cycle.Values) file
with_cycles (ask Margin file) = ask (WithCycles cycle.Margin) file
with_cycles (ask Moves file) = ask (WithCycles cycle.Moves) file
with_cycles task = task

-- the task, or the one where regions may have cycles if they are admitted
abbrev pub admitting : Bool → Task → Task
admitting true task = with_cycles task
admitting false task = task

-- the question may be asked where regions have cycles
abbrev pub AdmitsCycles : Question → Type 0
AdmitsCycles Safe = ⊥
AdmitsCycles Board = ⊥
AdmitsCycles Line = ⊥
AdmitsCycles question = ⊤

-- the question is about the regions of play, which are solved for it within the limits
abbrev pub NeedsRegions : Question → Type 0
NeedsRegions Safe = ⊥
NeedsRegions Board = ⊥
NeedsRegions question = ⊤

-- the question is about a position whose regions have no cycles
abbrev pub TakesNoCycles : Question → Type 0
TakesNoCycles (WithCycles question) = ⊥
TakesNoCycles question = ⊤

-- The two words ask for the task. Any word but the empty one is a file, or an expression; `-` is the source, which can't be played.
-- `gtp` has no second word.
abbrev pub AreFor : List ℕ → List ℕ → Task → Type 0
AreFor word argument (ask question file) = IsWordOf question word × (argument ≡ file) × (file ≢ [])
AreFor word argument (play file) = (word ≡ codes "play") × (argument ≡ file) × (file ≢ []) × (file ≢ codes "-")
AreFor word argument (trial n) = (word ≡ codes "trial") × IsNumberWithin 0 4294967295 argument n
AreFor word argument (calc expression) = (word ≡ codes "calc") × (argument ≡ expression) × (expression ≢ [])
AreFor word argument gtp = ⊥

-- the words begin with those of the task, and these come behind them
abbrev pub BeginWith : Task → List (List ℕ) → List (List ℕ) → Type 0
BeginWith gtp words rest = words ≡ codes "gtp" ∷ rest
BeginWith task words rest = (word : List ℕ) × (argument : List ℕ) × (words ≡ word ∷ argument ∷ rest) × AreFor word argument task

-- The option goes with the task: none with `trial`, the parts of a form with `calc`, both limits, declared points, cycles and a kept board
-- with `gtp`, and each but that with `play`. Only `play` has a colour for the engine, and a question that needs no regions has no limits and
-- no tax.
abbrev pub GoesWith : Task → Choice → Type 0
GoesWith (trial n) choice = ⊥
GoesWith (play file) (KeepBoard kept) = ⊥
GoesWith (play file) choice = ⊤
GoesWith (calc expression) (Parts n) = ⊤
GoesWith (calc expression) choice = ⊥
GoesWith gtp (Positions n) = ⊤
GoesWith gtp (Parts n) = ⊤
GoesWith gtp (Territory declared) = ⊤
GoesWith gtp (Cycles admitted) = ⊤
GoesWith gtp (KeepBoard kept) = ⊤
GoesWith gtp choice = ⊥
GoesWith (ask question file) (Positions n) = NeedsRegions question
GoesWith (ask question file) (Parts n) = NeedsRegions question
GoesWith (ask question file) (Tax taxed) = NeedsRegions question
GoesWith (ask question file) (Cycles admitted) = AdmitsCycles question
GoesWith (ask question file) (Engine colour) = ⊥
GoesWith (ask question file) (KeepBoard kept) = ⊥
GoesWith (ask question file) choice = ⊤
