-- What an engine answers.
use Rattle.std.proofs.Common.{Bool, false, ◌==◌, length, map, ◌≡◌, ◌≢◌, ◌∷◌, ℕ, List, [], inl, inr, refl, sym, ap, ◌∙◌, subst, Option, Ok, Err, Result, IfOk}
use Rattle.std.proofs.lemmas.Bool.{false≢true}
use Rattle.std.specs.Str.{IsUtf8}
use Rattle.desk_io.specs.Files.{Files, told_file}
use Rattle.gtp_words.specs.declared.loading.Loading.{Loading}
use Rattle.gtp_words.specs.declared.loading.Loading.TheVariants.{Position, Nothing, Failed}
use Rattle.gtp_engine.specs.declared.reply.Refusal.TheVariants.{CannotLoadFile, SyntaxError, UnknownCommand}
use Rattle.go_grid.specs.declared.grid.Colour.{Colour}
use Rattle.gtp_engine.specs.declared.playing.Action.{Action}
use Rattle.gtp_engine.specs.inner.Playing.{Acts}
use Rattle.gtp_engine.specs.declared.limits.EngineLimits.{EngineLimits}
use Rattle.gtp_engine.specs.inner.Doing.{IsDone, IsLoadNoted, IsTurnTaken}
use Rattle.gtp_words.specs.Files.{IsLoaded, load_settings}
use Rattle.gtp_engine.specs.Request.{Asked, Asks, Order}
use Rattle.gtp_engine.specs.Request.Asked.{unknown, misfit}
use Rattle.gtp_engine.specs.Request.Order.{protocol_version, name, version, known_command, list_commands, boardsize, clear_board, komi, play, genmove, loadsgf, quit}
use Rattle.gtp_engine.specs.Session.{Does, Obeys, Said, Table, TakesTurn, done, is_last, refused, reply_text}
use Rattle.gtp_words.specs.Loads.Fate.{made, failed, no_load}
use Rattle.gtp_words.specs.Words.{AreWords, HasId, cleaned}
use Rattle.gtp_engine.specs.Written.{Engine, IsEngineReply}
use Rattle.gtp_engine.specs.inner.Written.{IsMet, IsObeyed}

-- a load that was noted
load_obeyed : (files : Option Files) (before now : ℕ) (id file : List ℕ) (after : Option ℕ) (a b : Engine) (loading : Loading) (reply : List ℕ)
    → IsUtf8 file → IsLoaded (told_file files file) (load_settings a.limits.territory after) before now loading → IsLoadNoted id loading a reply b → IsObeyed files before now id (loadsgf file after) a reply b
load_obeyed files before now id file after a b (Position setup) reply text l n =
    (made, done [], (text, inl (setup, l.0, refl, ap (λ x. x.table) n.1)), n.0, ap (λ x. x.loads) n.1, ap (λ x. x.limits) n.1)
load_obeyed files before now id file after a b Nothing reply text l n =
    (made, refused CannotLoadFile, (text, inr (l, (refl, ap (λ x. x.table) n.1))), n.0, ap (λ x. x.loads) n.1, ap (λ x. x.limits) n.1)
load_obeyed files before now id file after a b Failed reply text l n =
    (failed, refused CannotLoadFile, (text, (refl, ap (λ x. x.table) n.1)), n.0, (ap (λ x. x.loads) n.1, l), ap (λ x. x.limits) n.1)

pub loads_obeyed : {E : Type 0} (files : Option Files) (before now : ℕ) (id file : List ℕ) (after : Option ℕ) (a b : Engine) (loading : Loading) (result : Result (List ℕ) E)
    → IsUtf8 file → IsLoaded (told_file files file) (load_settings a.limits.territory after) before now loading → IfOk result (λ reply. IsLoadNoted id loading a reply b)
    → IfOk result (λ reply. IsObeyed files before now id (loadsgf file after) a reply b)
loads_obeyed files before now id file after a b loading (Ok reply) text l n = load_obeyed files before now id file after a b loading reply text l n
loads_obeyed files before now id file after a b loading (Err e) text l n = tt

-- an order that asks for no file
plain_obeys : (limits : EngineLimits) (files : Option Files) (order : Order) (t u : Table) (said : Said) → Does limits order t said u → Obeys limits files order no_load t said u
plain_obeys limits files protocol_version t u said h = (refl, h)
plain_obeys limits files name t u said h = (refl, h)
plain_obeys limits files version t u said h = (refl, h)
plain_obeys limits files (known_command word) t u said h = (refl, h)
plain_obeys limits files list_commands t u said h = (refl, h)
plain_obeys limits files (boardsize n) t u said h = (refl, h)
plain_obeys limits files clear_board t u said h = (refl, h)
plain_obeys limits files (komi halves) t u said h = (refl, h)
plain_obeys limits files (play c wanted) t u said h = (refl, h)
plain_obeys limits files (genmove c) t u said h = (refl, h)
plain_obeys limits files quit t u said h = (refl, h)
plain_obeys limits files (loadsgf file after) t u said h = absurd h

pub plain_obeyed : {E : Type 0} (files : Option Files) (faults : ℕ) (id : List ℕ) (order : Order) (a b : Engine) (result : Result (List ℕ) E)
    → IfOk result (λ reply. IsDone order id a reply b) → IfOk result (λ reply. IsObeyed files faults faults id order a reply b)
plain_obeyed files faults id order a b (Ok reply) (said, u, does, text, is) =
    subst (λ v. IsObeyed files faults faults id order a reply v) (sym is) (no_load, said, plain_obeys a.limits files order a.table u said does, text, refl, refl)
plain_obeyed files faults id order a b (Err e) h = tt

-- a turn
pub obeyed_turn : {E : Type 0} (files : Option Files) (before now : ℕ) (id : List ℕ) (ordered order : Order) (c : Colour) (action : Action) (a b : Engine) (result : Result (List ℕ) E) → ordered ≡ order
    → ((said : Said) (u : Table) → TakesTurn a.limits c (Acts action) a.table said u → Obeys a.limits files order no_load a.table said u)
    → IfOk result (λ reply. IsTurnTaken c action id a reply b) → IfOk result (λ reply. IsObeyed files before now id ordered a reply b)
obeyed_turn files before now id ordered order c action a b (Ok reply) is plain d =
    subst (λ o. IsObeyed files before now id o a reply b) (sym is) (
      no_load,
      d.0,
      subst (λ t. Obeys a.limits files order no_load a.table d.0 t) (sym (ap (λ x. x.table) d.4)) (plain d.0 d.1 d.2),
      d.3,
      ap (λ x. x.loads) d.4,
      ap (λ x. x.limits) d.4,
    )
obeyed_turn files before now id ordered order c action a b (Err e) is plain d = tt

pub met_unknown : (files : Option Files) (before now : ℕ) (id : List ℕ) (asked : Asked) (a : Engine) (reply : List ℕ) → asked ≡ unknown
    → reply ≡ reply_text id (refused UnknownCommand) → IsMet files before now id asked a reply a
met_unknown files before now id asked a reply is said = subst (λ x. IsMet files before now id x a reply a) (sym is) (no_load, refused UnknownCommand, (refl, (refl, refl)), said, refl, refl)

pub met_misfit : (files : Option Files) (before now : ℕ) (id : List ℕ) (asked : Asked) (a : Engine) (reply : List ℕ) → asked ≡ misfit
    → reply ≡ reply_text id (refused SyntaxError) → IsMet files before now id asked a reply a
met_misfit files before now id asked a reply is said = subst (λ x. IsMet files before now id x a reply a) (sym is) (no_load, refused SyntaxError, (refl, (refl, refl)), said, refl, refl)

-- words that were split are some, where their list isn't empty
pub some_words : {A B : Type 0} (f : A → B) (xs : List A) (n : ℕ) (empty : Bool) → empty ≡ false → empty ≡ (n == 0) → length xs ≡ n → map f xs ≢ []
some_words f [] n empty not is len none = absurd (false≢true (sym not ∙ is ∙ ap (λ k. k == 0) (sym len)))
some_words f (x ∷ xs) n empty not is len none = absurd (cc none)

-- a line with words
pub answered_words : (files : Option Files) (before now : ℕ) (line id : List ℕ) (words rest : List (List ℕ)) (asked : Asked) (a b : Engine) (reply : List ℕ) (last : Bool)
    → AreWords (cleaned line) words → words ≢ [] → HasId words id rest → Asks rest asked → IsMet files before now id asked a reply b → last ≡ is_last asked → IsEngineReply files before now line a reply b last
answered_words files before now line id [] rest asked a b reply last are some has asks h end = absurd (some refl)
answered_words files before now line id (word ∷ words) rest asked a b reply last are some has asks h end =
    (record { fate = h.0; answered = (word ∷ words, are, (id, rest, asked, h.1, has, asks, h.2, h.3, end)); noted = h.4 }, h.5)
