-- What holds of moves that a session generates.
use Rattle.std.proofs.Common.{◌≡◌, ℕ, ℤ, zero, suc, List, arith, inl, inr, refl, sym, ap, ◌∙◌, subst, Err, false}
use Rattle.std.proofs.lemmas.List.Elements.{Contains-get_or}
use Rattle.go_grid.specs.Board.{DeclaresNothing, other}
use Rattle.go_grid.specs.Chain.{IsSettled}
use Rattle.go_grid.specs.declared.grid.Colour.{Colour}
use Rattle.go_grid.specs.Region.{Region}
use Rattle.region_cut.specs.Cut.{AreRegionsOfPlay}
use Rattle.gtp_words.specs.Vertices.{vertex_text}
use Rattle.go_play.specs.Setup.{Setup}
use Rattle.whole_rules.specs.declared.states.Move.{Move}
use Rattle.whole_rules.specs.declared.states.Move.TheVariants.{Stone, Spend, Half}
use Rattle.whole_rules.specs.FirstWinningMove.{IsWinning}
use Rattle.whole_rules.specs.PlainRecursion.{MoverWins, WinsWithin}
use Rattle.whole_rules.specs.WholeGame.{IsMove, Leads, Whole}
use Rattle.endgame_solver.specs.Limits.{Limits}
use Rattle.endgame_solver.specs.declared.faults.SolveError.{SolveError}
use Rattle.endgame_solver.specs.declared.faults.SolveError.TheVariants.{Points, Positions, Cycle, Form, Memory}
use Rattle.endgame_solver.specs.Faults.{AreRefused, AreSound}
use Rattle.endgame_solver.specs.Regions.{no_region, region_at}
use Rattle.endgame_solver.specs.Solved.{Begun, Chooses, HasMove}
use Rattle.endgame_solver.proofs.BeginLaws.{one_regions}
use Rattle.fault_words.specs.FaultWords.{AreFaultWords}
use Rattle.engine_player.proofs.AlikeLaws.{move_back, opened_purses, winning_alike, wins_alike, with_marks}
use Rattle.board_orders.specs.declared.position.BoardMove.TheVariants as made
use Rattle.board_orders.specs.declared.position.Position.{Position}
use Rattle.board_session.specs.GeneratedLaws.{BoardsStaySettled, GameGoesOn, OneKindIsTold, OpensIn, WinIsKept}
use Rattle.board_session.specs.Generating.{OpensLess, OpensNone, chosen, resigned, unopened, PayFor, komi_halved, setup_of}
use Rattle.board_orders.specs.States.{present}
use Rattle.board_orders.specs.Tallies.{Tally, grown}
use Rattle.board_session.proofs.GeneratingLemmas.{chosen_legal}
use Rattle.board_orders.proofs.KeptLemmas.{after_push}
use Rattle.board_session.proofs.OpenedLemmas.{OpensSo, halved_on, opened_alike, spent}
use Rattle.board_session.proofs.SettledLemmas.{placed_declares, placed_settled}

-- a game without cycles is one that its position opens
pub opens_so : {limits : Limits} {setup : Setup} {passes : Tally} {w : Whole} → OpensLess limits setup passes w → OpensSo false setup passes w
opens_so opens = record { start = opens.start; opening = opens.playable.opening; pay = opens.pay; less = opens.less }

-- A move that puts no stone leads to a game of the same board, with the same regions.
module _ {limits : Limits} {a : Position} {k : ℤ} {c : Colour} {w : Whole} (opens : OpensLess limits (setup_of a k c) a.passes w) where
  goes_on : (b : Position) (l : ℤ) (d : Colour) (t : Whole) → b.board ≡ a.board → OpensSo false (setup_of b l d) b.passes t
      → OpensLess limits (setup_of b l d) b.passes t
  goes_on b l d t same so = record {
    settled = subst IsSettled (sym same) opens.settled;
    start = so.start;
    playable = record {
      regions = opens.playable.regions;
      are_regions = subst (λ g. AreRegionsOfPlay g opens.playable.regions) (sym same) opens.playable.are_regions;
      sound = opens.playable.sound;
      opening = so.opening;
    };
    pay = so.pay;
    less = so.less;
  }

pub game_goes_on : GameGoesOn
game_goes_on limits s u c (Stone p) w t none opens move made = absurd none
game_goes_on limits s u c Spend w t none opens move (b, (board, prisoners, passes), is) =
    let same : b ≡ record { board = (present s).board; prisoners = (present s).prisoners; passes = grown c 1 (present s).passes } =
    λ i. record { board = board i; prisoners = prisoners i; passes = passes i } in
    subst (λ x. OpensIn limits x (other c) t) (sym is)
    (subst (λ x. OpensLess limits (setup_of x s.komi_halves (other c)) x.passes t) (sym (after_push s.setup s.moves _ ∙ same))
    (goes_on opens _ s.komi_halves (other c) t refl (spent (opens_so opens) t move)))
game_goes_on limits s u c Half w t none opens move (b, same, is) =
    subst (λ x. OpensIn limits x (other c) t) (sym is)
    (subst (λ x. OpensLess limits (setup_of x (komi_halved c s.komi_halves) (other c)) x.passes t) (sym (after_push s.setup s.moves _ ∙ same))
    (goes_on opens (present s) (komi_halved c s.komi_halves) (other c) t refl (halved_on (opens_so opens) t move)))

-- the move that is chosen wins where one does
chosen_wins : (w : Whole) (m : Move) → Chooses w m → MoverWins Whole Leads w → IsWinning w m
chosen_wins w m (inl first) wins = first.0
chosen_wins w m (inr none) (zero, wins) = absurd wins
chosen_wins w m (inr none) (suc n, wins) = absurd (none.0 wins.1.0 (wins.0, wins.1.1, (n, wins.2)))

pub win_is_kept : WinIsKept
win_is_kept limits s c m w (v, opens, chooses) opened (n, wins) =
    let (same, alike) = opened_alike false _ _ v w (opens_so opens) (opens_so opened) in
    let back : with_marks v w.contested ≡ w = ap (λ z. with_marks z w.contested) same in
    let won = chosen_wins v m chooses (n, subst (WinsWithin Whole Leads n) (sym same) (wins_alike n w v.contested alike wins)) in
    subst (λ z. IsWinning z m) back (winning_alike v w.contested m (λ p. ((alike p).1, (alike p).0)) won)

-- a position that opens a game is told no reason why it opens none
sound_not_refused : (limits : Limits) (rs : List Region) (fault : SolveError) (name : ℕ → List ℕ) (words : List ℕ) → AreSound limits rs → AreRefused limits rs fault
    → AreFaultWords name limits fault words → ⊥
sound_not_refused limits rs (Points p n) name words sound (k, lt, lowest, many, large, before) said =
    let few = (sound (region_at rs k) (Contains-get_or rs k no_region lt)).points in absurd (omega (arith, few, many, large))
sound_not_refused limits rs (Positions p) name words sound (small, (k, lt, (lowest, more), before)) said = (sound (region_at rs k) (Contains-get_or rs k no_region lt)).positions more
sound_not_refused limits rs (Cycle p names back) name words sound (small, (k, lt, (lowest, few, (ms, cycle, different, is)), before)) said =
    (sound (region_at rs k) (Contains-get_or rs k no_region lt)).no_cycle ms back cycle
sound_not_refused limits rs (Form p) name words sound (small, (k, lt, (lowest, few, none, large), before)) said = (sound (region_at rs k) (Contains-get_or rs k no_region lt)).forms large
sound_not_refused limits rs (Memory e) name words sound refused said = said

begun_refused : (limits : Limits) (setup : Setup) (fault : SolveError) (name : ℕ → List ℕ) (words : List ℕ) → Begun setup false limits (Err fault) → AreFaultWords name limits fault words
    → (regions : List Region) × AreRegionsOfPlay setup.board regions × AreRefused limits regions fault
begun_refused limits setup (Points p n) name words begun said = begun
begun_refused limits setup (Positions p) name words begun said = begun
begun_refused limits setup (Cycle p names back) name words begun said = begun
begun_refused limits setup (Form p) name words begun said = begun
begun_refused limits setup (Memory e) name words begun said = absurd said

opens_or_not : (limits : Limits) (setup : Setup) (passes : Tally) (w : Whole) (words : List ℕ) → OpensLess limits setup passes w → OpensNone limits setup passes words → ⊥
opens_or_not limits setup passes w words opens (inl (p, first, is)) = elim first.unsettled [
  | inl (c, stone, choked) ↦ choked (opens.settled.breathe c p stone)
  | inr (c, declared, open') ↦ open' (opens.settled.closed c p declared)
]
opens_or_not limits setup passes w words opens (inr (settled, inl (fault, begun, said))) =
    let (regions, are, refused) = begun_refused limits setup fault (vertex_text setup.board.columns setup.board.rows) words begun said in
    sound_not_refused limits regions fault (vertex_text setup.board.columns setup.board.rows) words
    (subst (AreSound limits) (one_regions setup.board opens.playable.regions regions opens.playable.are_regions are) opens.playable.sound) refused said
opens_or_not limits setup passes w words opens (inr (settled, inr (start, playable, not, is))) =
    not (subst (PayFor passes) (opened_purses false setup opens.start start opens.playable.opening playable.opening) opens.pay)

-- a move is chosen, or there is none
chosen_or_none : (limits : Limits) (setup : Setup) (passes : Tally) (v w : Whole) (m : Move) → OpensLess limits setup passes v → OpensLess limits setup passes w → Chooses v m
    → ¬ HasMove w → ⊥
chosen_or_none limits setup passes v w m a b chooses none =
    let (same, alike) = opened_alike false setup passes v w (opens_so a) (opens_so b) in
    let (t, move) = chosen_legal v m chooses in
    none (m, (with_marks t w.contested, move_back w t v.contested m alike (subst (λ z. IsMove z m t) same move)))

pub one_kind_is_told : OneKindIsTold
one_kind_is_told limits s c (chosen m) (chosen n) a b = tt
one_kind_is_told limits s c (chosen m) resigned (v, opens, chooses) (w, opened, none) = chosen_or_none limits _ _ v w m opens opened chooses none
one_kind_is_told limits s c (chosen m) (unopened words) (v, opens, chooses) b = opens_or_not limits _ _ v words opens b
one_kind_is_told limits s c resigned (chosen m) (w, opened, none) (v, opens, chooses) = chosen_or_none limits _ _ v w m opens opened chooses none
one_kind_is_told limits s c resigned resigned a b = tt
one_kind_is_told limits s c resigned (unopened words) (v, opens, none) b = opens_or_not limits _ _ v words opens b
one_kind_is_told limits s c (unopened words) (chosen m) a (v, opens, chooses) = opens_or_not limits _ _ v words opens a
one_kind_is_told limits s c (unopened words) resigned a (v, opens, none) = opens_or_not limits _ _ v words opens a
one_kind_is_told limits s c (unopened v) (unopened w) a b = tt

pub boards_stay_settled : BoardsStaySettled
boards_stay_settled c (made.Stone p) a b (n, placed, prisoners, passes) none settled =
    (placed_declares a.board c p b.board placed.0 none, placed_settled a.board c p b.board placed.0 none settled)
boards_stay_settled c made.Pass a b (same, prisoners, passes) none settled = (subst DeclaresNothing (sym same) none, subst IsSettled (sym same) settled)
boards_stay_settled c made.Half a b same none settled = (subst (λ x. DeclaresNothing x.board) (sym same) none, subst (λ x. IsSettled x.board) (sym same) settled)
