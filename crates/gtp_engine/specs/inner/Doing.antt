-- What single orders leave behind.
use Rattle.std.specs.Prelude.{◌≡◌, [], ℕ, List, Some, None}
use Rattle.go_grid.specs.declared.grid.Colour.{Colour}
use Rattle.engine_player.specs.EngineGame.{EngineGame}
use Rattle.gtp_words.specs.declared.loading.Loading.{Loading}
use Rattle.gtp_words.specs.declared.loading.Loading.TheVariants.{Position, Nothing, Failed}
use Rattle.gtp_words.specs.Loads.{failed_more, made_more}
use Rattle.gtp_engine.specs.declared.reply.Refusal.TheVariants.{CannotLoadFile}
use Rattle.gtp_engine.specs.declared.playing.Action.{Action}
use Rattle.gtp_engine.specs.inner.Playing.{Acts}
use Rattle.sgf_go.specs.Komi.{IsInRange}
use Rattle.gtp_engine.specs.Request.{Asked, Order}
use Rattle.gtp_engine.specs.Request.Asked.{something}
use Rattle.gtp_engine.specs.Request.Order.{genmove, komi, loadsgf, play}
use Rattle.gtp_engine.specs.Session.{Does, Said, Table, TakesTurn, done, refused, reply_text}
use Rattle.gtp_engine.specs.Written.{Engine}

-- the engine with another table, and all else as it was
abbrev pub with_table : Engine → Table → Engine
with_table a u = record a { table = u }

-- the reply to an order that loads nothing, and what it leaves
abbrev pub IsDone : Order → List ℕ → Engine → List ℕ → Engine → Type 0
IsDone order id a reply b = (said : Said) × (u : Table) × Does a.limits order a.table said u × (reply ≡ reply_text id said) × (b ≡ with_table a u)

-- the reply to a turn of the colour, and what it leaves
abbrev pub IsTurnTaken : Colour → Action → List ℕ → Engine → List ℕ → Engine → Type 0
IsTurnTaken c action id a reply b = (said : Said) × (u : Table) × TakesTurn a.limits c (Acts action) a.table said u × (reply ≡ reply_text id said) × (b ≡ with_table a u)

-- a game runs
abbrev pub IsRunning : Engine → Type 0
IsRunning a = (p : EngineGame) × (a.table.game ≡ Some p)

-- no game runs
abbrev pub IsFresh : Engine → Type 0
IsFresh a = a.table.game ≡ None

-- the reply to a load of a file, and what it leaves
abbrev pub IsLoadNoted : List ℕ → Loading → Engine → List ℕ → Engine → Type 0
IsLoadNoted id (Position setup) a reply b = (reply ≡ reply_text id (done []))
    × (b ≡ record a { table = record { setup = setup; game = None }; loads = made_more a.loads })
IsLoadNoted id Nothing a reply b = (reply ≡ reply_text id (refused CannotLoadFile)) × (b ≡ record a { loads = made_more a.loads })
IsLoadNoted id Failed a reply b = (reply ≡ reply_text id (refused CannotLoadFile)) × (b ≡ record a { loads = failed_more a.loads })

-- the order asks for neither a file nor a turn
abbrev pub IsPlainOrder : Order → Type 0
IsPlainOrder (loadsgf file after) = ⊥
IsPlainOrder (play c wanted) = ⊥
IsPlainOrder (genmove c) = ⊥
IsPlainOrder order = Unit {0}

-- a komi that is ordered is in range
abbrev pub HasKomiInRange : Order → Type 0
HasKomiInRange (komi halves) = IsInRange halves
HasKomiInRange order = Unit {0}

-- a komi that the words ask for is in range
abbrev pub AsksInRange : Asked → Type 0
AsksInRange (something order) = HasKomiInRange order
AsksInRange asked = Unit {0}
