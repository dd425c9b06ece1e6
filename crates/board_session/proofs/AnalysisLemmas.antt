-- What the replies to analyses tell.
use Rattle.std.proofs.Common.{◌≡◌, ◌⊎◌, ◌<◌, ℕ, ℤ, Bool, true, false, List, All, length, get_or, Ok, Err, Result, IfOk, inl, inr, refl, sym, ap, ◌∙◌, subst}
use Rattle.std.proofs.lemmas.List.Elements.{Contains-get_or}
use Rattle.go_grid.specs.Board.{Board}
use Rattle.go_grid.specs.Chain.{IsFirstUnsettled, IsSettled}
use Rattle.go_grid.specs.Marks.{IsMarked, Lists, Marks}
use Rattle.go_grid.specs.Region.{Region}
use Rattle.go_grid.proofs.PointsLemmas.{lists_same}
use Rattle.go_grid.specs.declared.grid.Colour.{Colour}
use Rattle.go_grid.specs.declared.grid.Colour.TheVariants.{Black, White}
use Rattle.gtp_words.specs.Vertices.{vertex_text}
use Rattle.fault_words.specs.FaultWords.{AreFaultWords}
use Rattle.go_play.specs.Setup.{Setup}
use Rattle.endgame_solver.specs.declared.faults.SolveError.{SolveError}
use Rattle.endgame_solver.specs.Limits.{Limits}
use Rattle.endgame_solver.specs.Solved.{Begun, Solved}
use Rattle.whole_rules.specs.WholeGame.{Whole}
use Rattle.report.specs.declared.score.Score.{Score}
use Rattle.report.specs.Score.{IsScore}
use Rattle.board_orders.specs.declared.topic.Analysis.{Analysis}
use Rattle.board_orders.specs.declared.topic.Analysis.TheVariants.{Game, Stones}
use Rattle.board_orders.specs.declared.topic.Status.{Status}
use Rattle.board_orders.specs.declared.topic.Status.TheVariants as status
use Rattle.board_orders.specs.declared.topic.Topic.TheVariants as topic
use Rattle.board_orders.specs.declared.topic.Topic.{Topic}
use Rattle.board_session.specs.Analysing.{Finds, FindsBy, FindsStones, FindsText, HasStatus, counted_setup, cycle_topic, found, none_found, scoreless, score_finding}
use Rattle.board_session.specs.Generating.{unsettled_words}
use Rattle.board_orders.specs.Effects.{done, reply_text, unscored}
use Rattle.board_session.specs.Session.{finding_said}
use Rattle.board_orders.specs.States.{BoardState, present}
use Rattle.board_orders.specs.Texts.{vertices_text}
use Rattle.board_session.specs.inner.Analysing.{IsReported, RepliesBy, RepliesIn, RepliesOn, RepliesStones, RepliesTo, ShowsText}

-- a text that is shown is found
pub text_found : {E : Type 0} (IsText : List ℕ → Type 0) (id text : List ℕ) (result : Result (List ℕ) E) → IsText text → IfOk result (ShowsText id text)
    → IfOk result (RepliesTo (FindsText IsText) id)
text_found IsText id text (Ok reply) is (shown, shows, says) = (found shown, (text, shown, is, shows, refl), says)
text_found IsText id text (Err e) is h = tt

-- what is told of the game that a position opens is told of the position
pub replies_in : {E : Type 0} (limits : Limits) (topic : Topic) (setup : Setup) (game : Solved) (id : List ℕ) (result : Result (List ℕ) E) → IsSettled setup.board
    → Begun setup false limits (Ok game) → IfOk result (RepliesOn topic game.regions game.state setup.komi_halves id) → IfOk result (RepliesIn limits topic setup id)
replies_in limits topic setup game id (Ok reply) settled (opening, are_regions, sound) (finding, finds, says) =
    (finding, inl (settled, (game.state, record { regions = game.regions; are_regions = are_regions; sound = sound; opening = opening }, finds)), says)
replies_in limits topic setup game id (Err e) settled begun h = tt

-- the words on a fault are told
pub fault_told : {E : Type 0} (limits : Limits) (topic : Topic) (setup : Setup) (fault : SolveError) (words id : List ℕ) (result : Result (List ℕ) E) → IsSettled setup.board
    → Begun setup false limits (Err fault) → AreFaultWords (vertex_text setup.board.columns setup.board.rows) limits fault words
    → IfOk result (λ reply. reply ≡ reply_text id (finding_said (none_found topic words))) → IfOk result (RepliesIn limits topic setup id)
fault_told limits topic setup fault words id (Ok reply) settled begun are says = (none_found topic words, inr (words, inr (settled, inl (fault, begun, are)), refl), says)
fault_told limits topic setup fault words id (Err e) settled begun are h = tt

-- the words on a board that isn't settled are told
pub unsettled_told : {E : Type 0} (cycles : Bool) (limits : Limits) (about : Topic) (setup : Setup) (p : ℕ) (words id : List ℕ) (result : Result (List ℕ) E)
    → IsFirstUnsettled setup.board p → words ≡ unsettled_words setup.board p → IfOk result (λ reply. reply ≡ reply_text id (finding_said (none_found about words)))
    → IfOk result (RepliesBy (cycle_topic cycles about) limits about setup id)
unsettled_told cycles limits about setup p words id (Err e) first is h = tt
unsettled_told {E} cycles limits about setup p words id (Ok reply) first is says = (none_found about words, found_by cycles about, says)
  where
    found_by : (b : Bool) (t : Topic) → FindsBy (cycle_topic b t) limits t setup (none_found t words)
    found_by false t = inr (words, inl (p, first, is), refl)
    found_by true topic.Best = inr (words, inl (p, first, is), refl)
    found_by true topic.Margin = inr (words, inl (p, first, is), refl)
    found_by true topic.Moves = inr (words, inl (p, first, is), refl)
    found_by true topic.Line = inr (words, inl (p, first, is), refl)
    found_by true topic.Score = inr (words, inl (p, first, is), refl)

-- the points of either colour's set
of_one : {X Y : Type 0} (P : Colour → ℕ → Type 0) (p : ℕ) → (P Black p → X) → (P White p → Y) → (c : Colour) → P c p → X ⊎ Y
of_one P p f g Black h = inl (f h)
of_one P p f g White h = inr (g h)

from_one : {X Y : Type 0} (P : Colour → ℕ → Type 0) (p : ℕ) → (X → P Black p) → (Y → P White p) → X ⊎ Y → (c : Colour) × P c p
from_one P p f g (inl x) = (Black, f x)
from_one P p f g (inr y) = (White, g y)

pub of_either : (P : Colour → ℕ → Type 0) (black white both : List Bool) → Marks black (P Black) → Marks white (P White)
    → Marks both (λ p. IsMarked black p ⊎ IsMarked white p) → Marks both (λ p. (c : Colour) × P c p)
of_either P black white both b w u p = (λ marked. from_one P p (b p).0 (w p).0 ((u p).0 marked), λ (c, h). (u p).1 (of_one P p (b p).1 (w p).1 c h))

-- the points of a set that aren't empty
pub of_stones : (P E : ℕ → Type 0) (all empty stones : List Bool) → Marks all P → Marks empty E → Marks stones (λ p. IsMarked all p × ¬ IsMarked empty p)
    → Marks stones (λ p. P p × ¬ E p)
of_stones P E all empty stones a e s p = (
  λ marked. ((a p).0 ((s p).0 marked).0, λ is. ((s p).0 marked).1 ((e p).1 is)),
  λ (x, y). (s p).1 ((a p).1 x, λ is. y ((e p).0 is)),
)

-- a stone with a status is on the board
status_on_board : (x : Status) (g : Board) (p : ℕ) → HasStatus x g p → p < length g.cells
status_on_board status.Alive g p (c, (S, healthy, among)) = (healthy.stones p among).0
status_on_board status.Dead g p ((c, inl (s, alive, eye)), some) = eye.lacks.0
status_on_board status.Dead g p ((c, inr declared), some) = declared.0
status_on_board status.Seki g p h = absurd h

pub listed_on_board : {T E : Type 0} (result : Result T E) (items : T → List ℕ) (x : Status) (g : Board) (n : ℕ) (marks : List Bool) → length g.cells ≡ n
    → Marks marks (HasStatus x g) → IfOk result (λ v. Lists (items v) (IsMarked marks)) → IfOk result (λ v. All (λ p. p < n) (items v))
listed_on_board (Ok v) items x g n marks area is lists = λ k d lt.
    let own = lists_same (items v) (IsMarked marks) (HasStatus x g) lists is in
    subst (λ m. get_or (items v) k d < m) area (status_on_board x g (get_or (items v) k d) ((own.exact _).0 (Contains-get_or (items v) k d lt)))
listed_on_board (Err e) items x g n marks area is lists = tt

-- the stones of a status are told
pub stones_told : {E : Type 0} (x : Status) (g : Board) (points text id : List ℕ) (result : Result (List ℕ) E) → IsSettled g → Lists points (HasStatus x g)
    → text ≡ vertices_text g.columns g.rows points → IfOk result (λ reply. reply ≡ reply_text id (done text)) → IfOk result (RepliesStones x g id)
stones_told x g points text id (Ok reply) settled lists is says = (found text, inl (settled, (points, lists, ap found is)), says)
stones_told x g points text id (Err e) settled lists is h = tt

pub no_stones_told : {E : Type 0} (x : Status) (g : Board) (p : ℕ) (words id : List ℕ) (result : Result (List ℕ) E) → IsFirstUnsettled g p → words ≡ unsettled_words g p
    → IfOk result (λ reply. reply ≡ reply_text id (unscored words)) → IfOk result (RepliesStones x g id)
no_stones_told x g p words id (Ok reply) first is says = (scoreless words, inr (p, first, ap scoreless is), says)
no_stones_told x g p words id (Err e) first is h = tt

-- a score is told
pub score_told : {E : Type 0} (regions : List Region) (w : Whole) (k : ℤ) (id : List ℕ) (columns rows : ℕ) (score : Score) (result : Result (List ℕ) E)
    → columns ≡ w.board.columns → rows ≡ w.board.rows → IsScore regions w k score
    → IfOk result (λ reply. reply ≡ reply_text id (finding_said (score_finding columns rows score))) → IfOk result (RepliesOn topic.Score regions w k id)
score_told regions w k id columns rows score (Ok reply) across down is says =
    (score_finding w.board.columns w.board.rows score, (score, is, refl), says ∙ (λ i. reply_text id (finding_said (score_finding (across i) (down i) score))))
score_told regions w k id columns rows score (Err e) across down is h = tt

-- an analysis is reported
pub game_reported : {E : Type 0} (cycles : Bool) (limits : Limits) (about : Topic) (c : Colour) (x : Analysis) (s : BoardState) (setup : Setup) (id : List ℕ) (result : Result (List ℕ) E)
    → x ≡ Game about c → setup ≡ counted_setup (present s) s.komi_halves c → IfOk result (RepliesBy (cycle_topic cycles about) limits about setup id)
    → IfOk result (IsReported cycles limits x id s)
game_reported cycles limits about c x s setup id (Ok reply) asked is (finding, finds, says) =
    (finding_said finding, (finding, subst (λ y. Finds cycles limits y s finding) (sym asked) (subst (λ v. FindsBy (cycle_topic cycles about) limits about v finding) is finds), refl), says)
game_reported cycles limits about c x s setup id (Err e) asked is h = tt

pub stones_reported : {E : Type 0} (cycles : Bool) (limits : Limits) (wanted : Status) (x : Analysis) (s : BoardState) (g : Board) (id : List ℕ) (result : Result (List ℕ) E)
    → x ≡ Stones wanted → g ≡ (present s).board → IfOk result (RepliesStones wanted g id) → IfOk result (IsReported cycles limits x id s)
stones_reported cycles limits wanted x s g id (Ok reply) asked is (finding, finds, says) =
    (finding_said finding, (finding, subst (λ y. Finds cycles limits y s finding) (sym asked) (subst (λ v. FindsStones wanted v finding) is finds), refl), says)
stones_reported cycles limits wanted x s g id (Err e) asked is h = tt
