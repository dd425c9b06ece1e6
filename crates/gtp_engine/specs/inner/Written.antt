-- What one command has written.
use Rattle.std.specs.Prelude.{◌≡◌, ℕ, List, Option}
use Rattle.desk_io.specs.Files.{Files}
use Rattle.gtp_engine.specs.Request.{Order, Asked}
use Rattle.gtp_words.specs.Loads.{Fate, NotesFate}
use Rattle.gtp_engine.specs.Session.{Said, Obeys, Meets, reply_text}
use Rattle.gtp_engine.specs.Written.{Engine}

-- the reply to an order, and what it leaves
abbrev pub IsObeyed : Option Files → ℕ → ℕ → List ℕ → Order → Engine → List ℕ → Engine → Type 0
IsObeyed files before now id order a reply b = (fate : Fate) × (said : Said) × Obeys a.limits files order fate a.table said b.table
    × (reply ≡ reply_text id said) × NotesFate before now fate a.loads b.loads × (b.limits ≡ a.limits)

-- the reply to what words ask for, and what it leaves
abbrev pub IsMet : Option Files → ℕ → ℕ → List ℕ → Asked → Engine → List ℕ → Engine → Type 0
IsMet files before now id asked a reply b = (fate : Fate) × (said : Said) × Meets a.limits files asked fate a.table said b.table
    × (reply ≡ reply_text id said) × NotesFate before now fate a.loads b.loads × (b.limits ≡ a.limits)
