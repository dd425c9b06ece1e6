-- What an engine keeps, and what the reply to a line leaves.
use Rattle.std.specs.Prelude.{◌≡◌, ℕ, List, Bool, Option}
use Rattle.desk_io.specs.Files.{Files}
use Rattle.gtp_words.specs.Loads.{Loads, unloaded}
use Rattle.gtp_words.specs.Sessions.{IsReply, Loaded}
use Rattle.gtp_engine.specs.declared.limits.EngineLimits.{EngineLimits}
use Rattle.gtp_engine.specs.Session.{AnswersLine, Table, first_table}

-- what an engine keeps: its limits, its table, how many loads there were, and the numbers of those that failed
pub record Engine : Type 0 where
  pub limits : EngineLimits
  pub table : Table
  pub loads : Loads

-- the table and the loads
abbrev pub loaded : Engine → Loaded Table
loaded a = record { state = a.table; loads = a.loads }

-- the reply to a line, and what it leaves
abbrev pub IsEngineReply : Option Files → ℕ → ℕ → List ℕ → Engine → List ℕ → Engine → Bool → Type 0
IsEngineReply files before now line a reply b last = IsReply Table (AnswersLine a.limits files) before now line (loaded a) reply (loaded b) last × (b.limits ≡ a.limits)

-- an engine that has answered nothing
abbrev pub unused : EngineLimits → Engine
unused limits = record { limits = limits; table = first_table; loads = unloaded }
