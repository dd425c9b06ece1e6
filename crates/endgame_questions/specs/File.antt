-- A file that is read to its end: from the source where its word is `-`, and else from the shelf.
use Rattle.std.specs.Prelude.{◌≡◌, ◌≢◌, ◌≤◌, ◌+◌, ◌*◌, ◌++◌, ℕ, List, length, codes, Option, Some, if◌then◌else◌}
use Rattle.std.specs.Str.{bytes_eq}
use Rattle.desk_io.specs.declared.lines.TheConstants.{MOST_LINES}
use Rattle.desk_io.specs.declared.outside.Source as Source
use Rattle.desk_io.specs.declared.shelf.Shelf as Shelf
use Rattle.desk_io.specs.Desk.{Input, IsLaterInput, input_of}
use Rattle.desk_io.specs.Files.{Told, told_file, told_source}
use Rattle.sgf_tree.specs.declared.reader.TheConstants.{MOST_BYTES}

-- of the bytes that a source tells at most so many were taken
abbrev pub TakesAtMost : ℕ → Option (List ℕ) → Option (List ℕ) → Type 0
TakesAtMost most before now = (bytes : List ℕ) → before ≡ Some bytes → (taken rest : List ℕ) × (now ≡ Some rest) × (bytes ≡ taken ++ rest) × (length taken ≤ most)

-- the most bytes that a file takes of a source: one more than it may have, by which a longer one is known
abbrev pub most_of_file : ℕ
most_of_file = MOST_BYTES + 1

-- the most bytes that a game takes of its source: 256 for each line, and as many that its reader holds
abbrev pub most_of_game : ℕ
most_of_game = (MOST_LINES + 1) * 256

-- the most bytes that a session of the engine takes: 1,024 for each line, and as many that its reader holds
abbrev pub most_of_engine : ℕ
most_of_engine = (MOST_LINES + 1) * 1024

-- the word of the source
abbrev pub dash : List ℕ
dash = codes "-"

-- what is told of the file of a word
abbrev pub told_of : Input → List ℕ → Told
told_of i word = if bytes_eq word dash then told_source i.left else told_file i.files word

-- how often the object has failed that holds the file of a word
abbrev pub count_of : Input → List ℕ → ℕ
count_of i word = if bytes_eq word dash then i.reads else i.loads

module _ {H S : Type 0} (shelves : Shelf.Ghosts H) (sources : Source.Ghosts S) where
  -- what the reading of the file of a word does: the source is read where the word is `-`, and else the shelf is asked for the file, once
  pub record ReadsFile (word : List ℕ) (shelf : H) (lines : S) (shelf_now : H) (lines_now : S) : Type 0 where
    pub later : IsLaterInput (input_of shelves sources shelf lines) (input_of shelves sources shelf_now lines_now)
    pub taken : TakesAtMost most_of_file (sources.left lines) (sources.left lines_now)
    pub asked : word ≢ dash → shelves.asks shelf word shelf_now
    pub lines_unread : word ≢ dash → lines_now ≡ lines
    pub shelf_unread : word ≡ dash → shelf_now ≡ shelf
