-- What single orders leave of an engine.
use Rattle.std.specs.Prelude.{◌≡◌, ℕ, List, Option}
use Rattle.desk_io.specs.Files.{Files}
use Rattle.board_words.specs.Words.{colour_word}
use Rattle.gtp_words.specs.Loads.{Fate, NotesFate, failed_more, made_more}
use Rattle.gtp_words.specs.declared.loading.Loading.{Loading}
use Rattle.gtp_words.specs.declared.loading.Loading.TheVariants.{Failed, Nothing, Position}
use Rattle.board_orders.specs.declared.refusal.Refusal.TheVariants.{CannotLoadFile}
use Rattle.board_orders.specs.Orders.{Asked, BoardOrder}
use Rattle.board_session.specs.Session.{Meets, Obeys}
use Rattle.board_orders.specs.Effects.{Said, done, refused, reply_text}
use Rattle.board_orders.specs.States.{of_setup}
use Rattle.board_session.specs.Written.{BoardEngine}

-- the reply to a load of a file, and what it leaves
abbrev pub IsLoadNoted : List ℕ → Loading → BoardEngine → List ℕ → BoardEngine → Type 0
IsLoadNoted id (Position setup) a reply b = (reply ≡ reply_text id (done (colour_word setup.side)))
    × (b ≡ record a { state = of_setup setup; loads = made_more a.loads })
IsLoadNoted id Nothing a reply b = (reply ≡ reply_text id (refused CannotLoadFile)) × (b ≡ record a { loads = made_more a.loads })
IsLoadNoted id Failed a reply b = (reply ≡ reply_text id (refused CannotLoadFile)) × (b ≡ record a { loads = failed_more a.loads })

-- the reply to an order, and what it leaves
abbrev pub IsObeyed : Option Files → ℕ → ℕ → List ℕ → BoardOrder → BoardEngine → List ℕ → BoardEngine → Type 0
IsObeyed files before now id order a reply b = (fate : Fate) × (said : Said) × Obeys a.limits files order fate a.state said b.state
    × (reply ≡ reply_text id said) × NotesFate before now fate a.loads b.loads × (b.limits ≡ a.limits)

-- the reply to what words ask for, and what it leaves
abbrev pub IsMet : Option Files → ℕ → ℕ → List ℕ → Asked → BoardEngine → List ℕ → BoardEngine → Type 0
IsMet files before now id asked a reply b = (fate : Fate) × (said : Said) × Meets a.limits files asked fate a.state said b.state
    × (reply ≡ reply_text id said) × NotesFate before now fate a.loads b.loads × (b.limits ≡ a.limits)
