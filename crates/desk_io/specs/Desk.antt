-- The objects of the outside at one moment of a run: a shelf, a source and a sink, and what is known of them.
use Rattle.std.specs.Prelude.{◌≡◌, ◌≤◌, ◌++◌, ℕ, List}
use Rattle.std.specs.declared.option.Option.{Option}
use Rattle.std.specs.declared.option.Option.TheVariants.{Some}
use Rattle.desk_io.specs.declared.outside.Source as Source
use Rattle.desk_io.specs.declared.outside.Sink as Sink
use Rattle.desk_io.specs.declared.shelf.Shelf as Shelf
use Rattle.desk_io.specs.Files.{Files}

-- a shelf, a source and a sink
pub record Desk (H S K : Type 0) : Type 0 where
  pub shelf : H
  pub lines : S
  pub out : K

-- the desk of these objects
abbrev pub desk : {H S K : Type 0} → H → S → K → Desk H S K
desk shelf lines out = record { shelf = shelf; lines = lines; out = out }

-- what is known of the input: the files of the shelf, the bytes that the source has left, and how often a load and a read have failed
pub record Input : Type 0 where
  pub files : Option Files
  pub left : Option (List ℕ)
  pub loads : ℕ
  pub reads : ℕ

-- what is known of a desk: of its input, the bytes that its sink has got, and how often a write has failed
pub record Known : Type 0 where
  pub input : Input
  pub holds : Option (List ℕ)
  pub writes : ℕ

-- by what shelves, sources and sinks of these types are known
pub record Outside (H S K : Type 0) : Type 1 where
  pub shelves : Shelf.Ghosts H
  pub sources : Source.Ghosts S
  pub sinks : Sink.Ghosts K

-- by what objects of these types are known
abbrev pub outside : {H S K : Type 0} → Shelf.Ghosts H → Source.Ghosts S → Sink.Ghosts K → Outside H S K
outside shelves sources sinks = record { shelves = shelves; sources = sources; sinks = sinks }

-- what is known of a shelf and a source
abbrev pub input_of : {H S : Type 0} → Shelf.Ghosts H → Source.Ghosts S → H → S → Input
input_of shelves sources shelf lines = record {
  files = shelves.files shelf;
  left = sources.left lines;
  loads = shelves.faults shelf;
  reads = sources.faults lines;
}

-- what is known of a desk
abbrev pub known : {H S K : Type 0} → Outside H S K → Desk H S K → Known
known o d = record {
  input = input_of o.shelves o.sources d.shelf d.lines;
  holds = o.sinks.holds d.out;
  writes = o.sinks.faults d.out;
}

-- what is left is a rest of what was left, where that was told
abbrev pub IsRest : Option (List ℕ) → Option (List ℕ) → Type 0
IsRest before now = (bytes : List ℕ) → before ≡ Some bytes → (taken rest : List ℕ) × (now ≡ Some rest) × (bytes ≡ taken ++ rest)

-- a later moment of the same input: the files are as before, no count has fallen, and what is left is a rest
pub record IsLaterInput (before now : Input) : Type 0 where
  pub same_files : now.files ≡ before.files
  pub loads : before.loads ≤ now.loads
  pub reads : before.reads ≤ now.reads
  pub rest : IsRest before.left now.left

-- a later moment of the same desk
pub record IsLater (before now : Known) : Type 0 where
  pub input : IsLaterInput before.input now.input
  pub writes : before.writes ≤ now.writes
