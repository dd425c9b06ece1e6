-- What a session answers.
use Rattle.std.proofs.Common.{Bool, false, ◌==◌, ◌+◌, ◌≤◌, length, map, ◌≡◌, ◌≢◌, ◌∷◌, ℕ, List, [], arith, inl, inr, refl, sym, ap, ◌∙◌, subst, Option, Ok, Err, Result, IfOk, OnErr}
use Rattle.std.proofs.lemmas.Bool.{false≢true}
use Rattle.std.proofs.lemmas.List.{length_push}
use Rattle.std.specs.Str.{IsUtf8}
use Rattle.desk_io.specs.Files.{Told, Files, told_file}
use Rattle.sgf_go.specs.declared.settings.Settings.{Settings}
use Rattle.board_words.specs.Words.{colour_word}
use Rattle.go_grid.specs.declared.grid.Colour.{Colour}
use Rattle.gtp_words.specs.declared.loading.Loading.{Loading}
use Rattle.gtp_words.specs.declared.loading.Loading.TheVariants.{Failed, Nothing, Position}
use Rattle.gtp_words.specs.Files.{IsLoaded, load_settings}
use Rattle.gtp_words.specs.Loads.{Fate, Loads}
use Rattle.gtp_words.specs.Loads.Fate.{failed, made, no_load}
use Rattle.gtp_words.specs.Words.{AreWords, HasId, cleaned}
use Rattle.board_session.specs.declared.limits.BoardLimits.{BoardLimits}
use Rattle.board_orders.specs.declared.refusal.Refusal.TheVariants.{CannotLoadFile, SyntaxError, UnknownCommand}
use Rattle.board_orders.specs.declared.topic.Analysis.{Analysis}
use Rattle.board_session.specs.Generating.{Advice, Follows, board_move, chosen, resigned, unopened}
use Rattle.board_session.specs.inner.Analysing.{IsReported}
use Rattle.board_session.specs.inner.Doing.{CanTakeUp, IsGenerated, IsSuggested}
use Rattle.board_orders.specs.Doing.{IsDone}
use Rattle.board_session.specs.inner.Obeying.{IsLoadNoted, IsMet, IsObeyed}
use Rattle.board_orders.specs.Orders.{Asked, Asks, BoardOrder}
use Rattle.board_orders.specs.Orders.BoardOrder.{tell, known, ask, boardsize, clear_board, komi, play, genmove, reg_genmove, analyse, loadsgf, undo, fixed_handicap, free_handicap, quit}
use Rattle.board_orders.specs.Orders.Asked.{something, unknown, misfit}
use Rattle.board_session.specs.Session.{AnswersWords, Meets, Obeys, TakesFile, is_last}
use Rattle.board_orders.specs.Effects.{Does, Said, done, refused, reply_text}
use Rattle.board_orders.specs.States.{BoardState}
use Rattle.board_session.specs.Written.{BoardEngine, IsBoardReply}
use Rattle.board_orders.proofs.OrderLemmas.{order_grown}

-- what was loaded can be taken up
pub loaded_fits : (told : Told) (settings : Settings) (before now : ℕ) (loading : Loading) → IsLoaded told settings before now loading → CanTakeUp loading
loaded_fits told settings before now (Position setup) l = l.1
loaded_fits told settings before now Nothing l = tt
loaded_fits told settings before now Failed l = tt

-- a load that was noted
load_obeyed : (files : Option Files) (before now : ℕ) (id file : List ℕ) (after : Option ℕ) (a b : BoardEngine) (loading : Loading) (reply : List ℕ)
    → IsUtf8 file → IsLoaded (told_file files file) (load_settings a.limits.territory after) before now loading → IsLoadNoted id loading a reply b → IsObeyed files before now id (loadsgf file after) a reply b
load_obeyed files before now id file after a b (Position setup) reply text l n =
    (made, done (colour_word setup.side), (text, inl (setup, l.0, refl, ap (λ x. x.state) n.1)), n.0, ap (λ x. x.loads) n.1, ap (λ x. x.limits) n.1)
load_obeyed files before now id file after a b Nothing reply text l n =
    (made, refused CannotLoadFile, (text, inr (l, (refl, ap (λ x. x.state) n.1))), n.0, ap (λ x. x.loads) n.1, ap (λ x. x.limits) n.1)
load_obeyed files before now id file after a b Failed reply text l n =
    (failed, refused CannotLoadFile, (text, (refl, ap (λ x. x.state) n.1)), n.0, (ap (λ x. x.loads) n.1, l), ap (λ x. x.limits) n.1)

pub loads_obeyed : {E : Type 0} (files : Option Files) (before now : ℕ) (id file : List ℕ) (after : Option ℕ) (a b : BoardEngine) (loading : Loading) (result : Result (List ℕ) E)
    → IsUtf8 file → IsLoaded (told_file files file) (load_settings a.limits.territory after) before now loading → IfOk result (λ reply. IsLoadNoted id loading a reply b)
    → IfOk result (λ reply. IsObeyed files before now id (loadsgf file after) a reply b)
loads_obeyed files before now id file after a b loading (Ok reply) text l n = load_obeyed files before now id file after a b loading reply text l n
loads_obeyed files before now id file after a b loading (Err e) text l n = tt

-- an order that asks for no file
pub plain_obeys : (limits : BoardLimits) (files : Option Files) (order : BoardOrder) (s u : BoardState) (said : Said) → Does order s said u → Obeys limits files order no_load s said u
plain_obeys limits files (tell text) s u said h = (refl, h)
plain_obeys limits files (known word) s u said h = (refl, h)
plain_obeys limits files (ask question) s u said h = (refl, h)
plain_obeys limits files (boardsize n) s u said h = (refl, h)
plain_obeys limits files clear_board s u said h = (refl, h)
plain_obeys limits files (komi halves) s u said h = (refl, h)
plain_obeys limits files (play c w) s u said h = (refl, h)
plain_obeys limits files undo s u said h = (refl, h)
plain_obeys limits files (fixed_handicap n) s u said h = (refl, h)
plain_obeys limits files (free_handicap words) s u said h = (refl, h)
plain_obeys limits files quit s u said h = (refl, h)
plain_obeys limits files (loadsgf file after) s u said h = absurd h
plain_obeys limits files (genmove c) s u said h = absurd h
plain_obeys limits files (reg_genmove c) s u said h = absurd h
plain_obeys limits files (analyse x) s u said h = absurd h

module _ {E : Type 0} (limits : BoardLimits) (loads : Loads) (s u : BoardState) (a : BoardEngine) (is : record { limits = limits; state = s; loads = loads } ≡ a) where
  pub plain_obeyed : (files : Option Files) (faults : ℕ) (id : List ℕ) (order : BoardOrder) (result : Result (List ℕ) E) → IfOk result (λ reply. IsDone order id s reply u)
      → IfOk result (λ reply. IsObeyed files faults faults id order a reply (record { limits = limits; state = u; loads = loads }))
  plain_obeyed files faults id order (Ok reply) (said, does, text) =
      subst (λ v. IsObeyed files faults faults id order v reply (record { limits = limits; state = u; loads = loads })) is
      (no_load, said, plain_obeys limits files order s u said does, text, refl, refl)
  plain_obeyed files faults id order (Err e) h = tt

  pub generated_obeyed : (files : Option Files) (faults : ℕ) (id : List ℕ) (order : BoardOrder) (c : Colour) → order ≡ genmove c → (result : Result (List ℕ) E)
      → IfOk result (λ reply. IsGenerated limits.cycles limits.game c id s reply u)
      → IfOk result (λ reply. IsObeyed files faults faults id order a reply (record { limits = limits; state = u; loads = loads }))
  generated_obeyed files faults id order c asked (Ok reply) (said, generates, text) =
      subst (λ v. IsObeyed files faults faults id order v reply (record { limits = limits; state = u; loads = loads })) is
      (subst (λ o. IsObeyed files faults faults id o (record { limits = limits; state = s; loads = loads }) reply (record { limits = limits; state = u; loads = loads })) (sym asked)
      (no_load, said, (refl, generates), text, refl, refl))
  generated_obeyed files faults id order c asked (Err e) h = tt

  pub suggested_obeyed : (files : Option Files) (faults : ℕ) (id : List ℕ) (order : BoardOrder) (c : Colour) → order ≡ reg_genmove c → (result : Result (List ℕ) E)
      → IfOk result (λ reply. IsSuggested limits.cycles limits.game c id s reply) → IfOk result (λ reply. IsObeyed files faults faults id order a reply a)
  suggested_obeyed files faults id order c asked (Ok reply) (said, suggests, text) =
      subst (λ v. IsObeyed files faults faults id order v reply v) is
      (subst (λ o. IsObeyed files faults faults id o (record { limits = limits; state = s; loads = loads }) reply (record { limits = limits; state = s; loads = loads })) (sym asked)
      (no_load, said, (refl, suggests, refl), text, refl, refl))
  suggested_obeyed files faults id order c asked (Err e) h = tt

  pub reported_obeyed : (files : Option Files) (faults : ℕ) (id : List ℕ) (order : BoardOrder) (x : Analysis) → order ≡ analyse x → (result : Result (List ℕ) E)
      → IfOk result (IsReported limits.cycles limits.game x id s) → IfOk result (λ reply. IsObeyed files faults faults id order a reply a)
  reported_obeyed files faults id order x asked (Ok reply) (said, reports, text) =
      subst (λ v. IsObeyed files faults faults id order v reply v) is
      (subst (λ o. IsObeyed files faults faults id o (record { limits = limits; state = s; loads = loads }) reply (record { limits = limits; state = s; loads = loads })) (sym asked)
      (no_load, said, (refl, reports, refl), text, refl, refl))
  reported_obeyed files faults id order x asked (Err e) h = tt

  pub plain_same : (result : Result (List ℕ) E) → OnErr result (u ≡ s) → OnErr result (record { limits = limits; state = u; loads = loads } ≡ a)
  plain_same (Ok reply) h = tt
  plain_same (Err e) h = ap (λ x. record { limits = limits; state = x; loads = loads }) h ∙ is

pub met_unknown : (files : Option Files) (faults : ℕ) (id : List ℕ) (asked : Asked) (a : BoardEngine) (reply : List ℕ) → asked ≡ unknown
    → reply ≡ reply_text id (refused UnknownCommand) → IsMet files faults faults id asked a reply a
met_unknown files faults id asked a reply is said = subst (λ x. IsMet files faults faults id x a reply a) (sym is) (no_load, refused UnknownCommand, (refl, (refl, refl)), said, refl, refl)

pub met_misfit : (files : Option Files) (faults : ℕ) (id : List ℕ) (asked : Asked) (a : BoardEngine) (reply : List ℕ) → asked ≡ misfit
    → reply ≡ reply_text id (refused SyntaxError) → IsMet files faults faults id asked a reply a
met_misfit files faults id asked a reply is said = subst (λ x. IsMet files faults faults id x a reply a) (sym is) (no_load, refused SyntaxError, (refl, (refl, refl)), said, refl, refl)

-- what is answered adds one move at most
same_grown : (s u : BoardState) → u ≡ s → length u.moves ≤ length s.moves + 1
same_grown s u is = omega (arith, ap (λ x. length x.moves) is)

followed_grown : (c : Colour) (a : Advice) (s u : BoardState) → Follows c a s u → length u.moves ≤ length s.moves + 1
followed_grown c (chosen m) s u (b, makes, is) =
    omega (arith, ap (λ x. length x.moves) is, length_push s.moves (record { colour = c; chosen = board_move m; komi_before = s.komi_halves; after = b }))
followed_grown c resigned s u same = same_grown s u same
followed_grown c (unopened words) s u same = same_grown s u same

file_grown : (settings : Settings) (files : Option Files) (file : List ℕ) (fate : Fate) (s u : BoardState) (said : Said) → TakesFile settings files file fate s said u
    → length u.moves ≤ length s.moves + 1
file_grown settings files file no_load s u said h = same_grown s u h.1.1
file_grown settings files file made s u said (text, inl (setup, gives, is, then)) = omega (arith, ap (λ x. length x.moves) then)
file_grown settings files file made s u said (text, inr (none, (is, same))) = same_grown s u same
file_grown settings files file failed s u said h = same_grown s u h.1.1

obeyed_grown : (limits : BoardLimits) (files : Option Files) (order : BoardOrder) (fate : Fate) (s u : BoardState) (said : Said) → Obeys limits files order fate s said u
    → length u.moves ≤ length s.moves + 1
obeyed_grown limits files (tell text) fate s u said h = order_grown (tell text) s u said h.1
obeyed_grown limits files (known word) fate s u said h = order_grown (known word) s u said h.1
obeyed_grown limits files (ask question) fate s u said h = order_grown (ask question) s u said h.1
obeyed_grown limits files (boardsize n) fate s u said h = order_grown (boardsize n) s u said h.1
obeyed_grown limits files clear_board fate s u said h = order_grown clear_board s u said h.1
obeyed_grown limits files (komi halves) fate s u said h = order_grown (komi halves) s u said h.1
obeyed_grown limits files (play c w) fate s u said h = order_grown (play c w) s u said h.1
obeyed_grown limits files undo fate s u said h = order_grown undo s u said h.1
obeyed_grown limits files (fixed_handicap n) fate s u said h = order_grown (fixed_handicap n) s u said h.1
obeyed_grown limits files (free_handicap words) fate s u said h = order_grown (free_handicap words) s u said h.1
obeyed_grown limits files quit fate s u said h = order_grown quit s u said h.1
obeyed_grown limits files (genmove c) fate s u said (none, (a, advised, is, follows)) = followed_grown c a s u follows
obeyed_grown limits files (reg_genmove c) fate s u said h = same_grown s u h.2
obeyed_grown limits files (analyse x) fate s u said h = same_grown s u h.2
obeyed_grown limits files (loadsgf file after) fate s u said h = file_grown (load_settings limits.territory after) files file fate s u said h

met_grown : (limits : BoardLimits) (files : Option Files) (asked : Asked) (fate : Fate) (s u : BoardState) (said : Said) → Meets limits files asked fate s said u → length u.moves ≤ length s.moves + 1
met_grown limits files (something order) fate s u said h = obeyed_grown limits files order fate s u said h
met_grown limits files unknown fate s u said h = same_grown s u h.1.1
met_grown limits files misfit fate s u said h = same_grown s u h.1.1

words_grown : (limits : BoardLimits) (files : Option Files) (ws : List (List ℕ)) (fate : Fate) (s u : BoardState) (reply : List ℕ) (last : Bool) → AnswersWords limits files ws fate s reply u last
    → length u.moves ≤ length s.moves + 1
words_grown limits files [] fate s u reply last h = same_grown s u h.2
words_grown limits files (word ∷ more) fate s u reply last (id, rest, asked, said, has, asks, met, is, end) = met_grown limits files asked fate s u said met

pub reply_grown : (files : Option Files) (before now : ℕ) (line reply : List ℕ) (a b : BoardEngine) (last : Bool) → IsBoardReply files before now line a reply b last
    → length b.state.moves ≤ length a.state.moves + 1
reply_grown files before now line reply a b last (replied, same) =
    let (ws, are, answered) = replied.answered in words_grown a.limits files ws replied.fate a.state b.state reply last answered

-- words that were split are some, where their list isn't empty
pub some_words : {A B : Type 0} (f : A → B) (xs : List A) (n : ℕ) (empty : Bool) → empty ≡ false → empty ≡ (n == 0) → length xs ≡ n → map f xs ≢ []
some_words f [] n empty not is len none = absurd (false≢true (sym not ∙ is ∙ ap (λ k. k == 0) (sym len)))
some_words f (x ∷ xs) n empty not is len none = absurd (cc none)

-- a line with words
pub answered_words : (files : Option Files) (before now : ℕ) (line id : List ℕ) (words rest : List (List ℕ)) (asked : Asked) (a b : BoardEngine) (reply : List ℕ) (last : Bool)
    → AreWords (cleaned line) words → words ≢ [] → HasId words id rest → Asks rest asked → IsMet files before now id asked a reply b → last ≡ is_last asked → IsBoardReply files before now line a reply b last
answered_words files before now line id [] rest asked a b reply last are some has asks h end = absurd (some refl)
answered_words files before now line id (word ∷ words) rest asked a b reply last are some has asks h end =
    (record { fate = h.0; answered = (word ∷ words, are, (id, rest, asked, h.1, has, asks, h.2, h.3, end)); noted = h.4 }, h.5)

-- a line with words, or memory that is refused
module _ {A E : Type 0} (result : Result A E) (reply : A → List ℕ) (quit : A → Bool) (files : Option Files) (before now : ℕ) (line : List ℕ) where
  pub answered_if_ok : (id : List ℕ) (words rest : List (List ℕ)) (asked : Asked) (a b : BoardEngine) → AreWords (cleaned line) words → words ≢ [] → HasId words id rest → Asks rest asked
      → IfOk result (λ x. IsMet files before now id asked a (reply x) b) → IfOk result (λ x. quit x ≡ is_last asked) → IfOk result (λ x. IsBoardReply files before now line a (reply x) b (quit x))
  answered_if_ok id words rest asked a b are some has asks met last = elim result as (λ r. IfOk r (λ x. IsMet files before now id asked a (reply x) b) → IfOk r (λ x. quit x ≡ is_last asked) → IfOk r (λ x. IsBoardReply files before now line a (reply x) b (quit x))) [
    | Ok x ↦ λ m l. answered_words files before now line id words rest asked a b (reply x) (quit x) are some has asks m l
    | Err e ↦ λ m l. tt
  ] met last

  pub grown_if_ok : (a b : BoardEngine) → IfOk result (λ x. IsBoardReply files before now line a (reply x) b (quit x)) → OnErr result (b ≡ a) → length b.state.moves ≤ length a.state.moves + 1
  grown_if_ok a b answered same = elim result as (λ r. IfOk r (λ x. IsBoardReply files before now line a (reply x) b (quit x)) → OnErr r (b ≡ a) → length b.state.moves ≤ length a.state.moves + 1) [
    | Ok x ↦ λ h s. reply_grown files before now line (reply x) a b (quit x) h
    | Err e ↦ λ h s. same_grown a.state b.state (ap (λ x. x.state) s)
  ] answered same
