-- The files of a shelf that stands in memory.
use Rattle.std.specs.Prelude.{ℕ, map, string_bytes}
use Rattle.std.specs.FinMap.{from_entries}
use Rattle.std.specs.BTreeMap.{BTreeMap}
use Rattle.std.specs.Global.{Global, Vec}
use Rattle.std.specs.declared.string.String.{String}
use Rattle.desk_io.specs.Files.{Files}

-- the files of a map from texts to bytes
unfoldable pub files_in : BTreeMap (String Global) (Vec ℕ) → Files
files_in m = from_entries (map (λ e. (string_bytes e.0, e.1.items)) m.entries)
