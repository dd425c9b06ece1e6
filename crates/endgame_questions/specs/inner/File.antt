-- A whole file, as its reader keeps it.
use Rattle.std.specs.Prelude.{◌≡◌, ℕ, List, Option}
use Rattle.std.specs.Io.KnownBytes.{prepend_known}
use Rattle.desk_io.specs.Outside.{ended}
use Rattle.sgf_go.specs.File.{HasFewBytes}

-- the file is all that was left, and nothing is left now
pub record IsWhole (before now : Option (List ℕ)) (file : List ℕ) : Type 0 where
  pub all : before ≡ prepend_known file now
  pub end : now ≡ ended before
  pub short : HasFewBytes file
