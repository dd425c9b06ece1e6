-- What holds of moves that a session generates where kos can arise.
use Rattle.std.proofs.Common.{◌≡◌, ℕ, ℤ, List, arith, inl, inr, refl, sym, ap, ◌∙◌, subst, None, Err, false}
use Rattle.std.proofs.lemmas.List.Elements.{Contains-get_or}
use Rattle.go_grid.specs.Board.{other}
use Rattle.go_grid.specs.Chain.{IsSettled}
use Rattle.go_grid.specs.declared.grid.Colour.{Colour}
use Rattle.go_grid.specs.Region.{Region}
use Rattle.region_cut.specs.Cut.{AreRegionsOfPlay}
use Rattle.gtp_words.specs.Vertices.{vertex_text}
use Rattle.go_play.specs.Setup.{Setup}
use Rattle.whole_rules.specs.declared.states.Move.{Move}
use Rattle.whole_rules.specs.declared.states.Move.TheVariants.{Stone, Spend, Half}
use Rattle.whole_rules.specs.FirstWinningMove.{IsWinning}
use Rattle.whole_rules.specs.PlainRecursion.{MoverWins, WinsWithin}
use Rattle.whole_rules.specs.WholeGame.{IsMove, Leads, Whole}
use Rattle.endgame_solver.specs.Limits.{Limits}
use Rattle.endgame_solver.specs.Regions.{no_region, region_at}
use Rattle.endgame_solver.specs.Solved.{HasMove}
use Rattle.endgame_solver.proofs.BeginLaws.{one_regions}
use Rattle.cycle_solver.specs.CycleFaults.{AreRefused, AreSteadyWithin}
use Rattle.cycle_solver.specs.declared.faults.CycleError.{CycleError}
use Rattle.cycle_solver.specs.declared.faults.CycleError.TheVariants.{Points, Positions, Form, Captures, Memory}
use Rattle.cycle_solver.specs.declared.limits.TheConstants.{MOST_CAPTURES}
use Rattle.engine_player.specs.Played.{BeginsPlay}
use Rattle.engine_player.proofs.EngineGameLaws.{engine_moves_lose, engine_moves_moved}
use Rattle.engine_player.proofs.AlikeLaws.{move_back, opened_purses, winning_alike, wins_alike, with_marks}
use Rattle.board_orders.specs.declared.position.Position.{Position}
use Rattle.board_session.specs.Cycles.{AreCycleFaultWords, MovesAnew, OpensNoneWithCycles, OpensWithCycles}
use Rattle.board_session.specs.CycleLaws.{GameGoesOnWithCycles, OneKindIsToldWithCycles, OpensKosIn, WinIsKeptWithCycles}
use Rattle.board_session.specs.Generating.{PayFor, chosen, komi_halved, resigned, setup_of, unopened}
use Rattle.board_orders.specs.States.{present}
use Rattle.board_orders.specs.Tallies.{Tally, grown}
use Rattle.board_session.proofs.CycleAdviceLemmas.{anew_legal, opens_so}
use Rattle.board_orders.proofs.KeptLemmas.{after_push}
use Rattle.board_session.proofs.OpenedLemmas.{OpensSo, halved_on, opened_alike, spent}

-- A move that puts no stone leads to a game of the same board, with the same regions.
module _ {limits : Limits} {a : Position} {k : ℤ} {c : Colour} {w : Whole} (opens : OpensWithCycles limits (setup_of a k c) a.passes w) where
  goes_on : (b : Position) (l : ℤ) (d : Colour) (t : Whole) → b.board ≡ a.board → OpensSo false (setup_of b l d) b.passes t
      → OpensWithCycles limits (setup_of b l d) b.passes t
  goes_on b l d t same so = record {
    settled = subst IsSettled (sym same) opens.settled;
    start = so.start;
    playable = record {
      regions = opens.playable.regions;
      are_regions = subst (λ g. AreRegionsOfPlay g opens.playable.regions) (sym same) opens.playable.are_regions;
      steady = opens.playable.steady;
      opening = so.opening;
    };
    pay = so.pay;
    less = so.less;
  }

pub game_goes_on : GameGoesOnWithCycles
game_goes_on limits s u c (Stone p) w t none opens move made = absurd none
game_goes_on limits s u c Spend w t none opens move (b, (board, prisoners, passes), is) =
    let same : b ≡ record { board = (present s).board; prisoners = (present s).prisoners; passes = grown c 1 (present s).passes } =
    λ i. record { board = board i; prisoners = prisoners i; passes = passes i } in
    subst (λ x. OpensKosIn limits x (other c) t) (sym is)
    (subst (λ x. OpensWithCycles limits (setup_of x s.komi_halves (other c)) x.passes t) (sym (after_push s.setup s.moves _ ∙ same))
    (goes_on opens _ s.komi_halves (other c) t refl (spent (opens_so opens) t move)))
game_goes_on limits s u c Half w t none opens move (b, same, is) =
    subst (λ x. OpensKosIn limits x (other c) t) (sym is)
    (subst (λ x. OpensWithCycles limits (setup_of x (komi_halved c s.komi_halves) (other c)) x.passes t) (sym (after_push s.setup s.moves _ ∙ same))
    (goes_on opens (present s) (komi_halved c s.komi_halves) (other c) t refl (halved_on (opens_so opens) t move)))

-- the engine's move wins where the side to move does
anew_wins : (regions : List Region) (w : Whole) (m : Move) → MovesAnew regions w m → MoverWins Whole Leads w → IsWinning w m
anew_wins regions w m (t, left, moves) wins = (t, engine_moves_moved regions w t None left m moves, engine_moves_lose regions w t None left m (inl (refl, wins)) moves)

pub win_is_kept : WinIsKeptWithCycles
win_is_kept limits s c m w (v, opens, moves) opened (n, wins) =
    let (same, alike) = opened_alike false _ _ v w (opens_so opens) (opens_so opened) in
    let back : with_marks v w.contested ≡ w = ap (λ z. with_marks z w.contested) same in
    let won = anew_wins opens.playable.regions v m moves (n, subst (WinsWithin Whole Leads n) (sym same) (wins_alike n w v.contested alike wins)) in
    subst (λ z. IsWinning z m) back (winning_alike v w.contested m (λ p. ((alike p).1, (alike p).0)) won)

-- a position whose regions are steady has no fault of them
steady_not_refused : (limits : Limits) (rs : List Region) (fault : CycleError) (name : ℕ → List ℕ) (words : List ℕ) → AreSteadyWithin limits MOST_CAPTURES rs
    → AreRefused limits MOST_CAPTURES rs fault → AreCycleFaultWords name limits fault words → ⊥
steady_not_refused limits rs (Points p n) name words steady (k, lt, lowest, many, large, before) said =
    let few = (steady (region_at rs k) (Contains-get_or rs k no_region lt)).points in absurd (omega (arith, few, many, large))
steady_not_refused limits rs (Positions p) name words steady (small, (k, lt, (lowest, more), before)) said =
    (steady (region_at rs k) (Contains-get_or rs k no_region lt)).positions more
steady_not_refused limits rs (Form p) name words steady (small, (k, lt, (lowest, few, large), before)) said =
    (steady (region_at rs k) (Contains-get_or rs k no_region lt)).forms large
steady_not_refused limits rs (Captures p) name words steady (small, (k, lt, (lowest, few, forms, (c, needed)), before)) said =
    let (j, le, least) = (steady (region_at rs k) (Contains-get_or rs k no_region lt)).steady c in
    needed j (omega (arith, le)) least.steady
steady_not_refused limits rs (Memory e) name words steady refused said = said

begun_refused : (limits : Limits) (setup : Setup) (fault : CycleError) (name : ℕ → List ℕ) (words : List ℕ) → BeginsPlay setup false limits MOST_CAPTURES (Err fault)
    → AreCycleFaultWords name limits fault words → (regions : List Region) × AreRegionsOfPlay setup.board regions × AreRefused limits MOST_CAPTURES regions fault
begun_refused limits setup (Points p n) name words begun said = begun
begun_refused limits setup (Positions p) name words begun said = begun
begun_refused limits setup (Form p) name words begun said = begun
begun_refused limits setup (Captures p) name words begun said = begun
begun_refused limits setup (Memory e) name words begun said = absurd said

opens_or_not : (limits : Limits) (setup : Setup) (passes : Tally) (w : Whole) (words : List ℕ) → OpensWithCycles limits setup passes w
    → OpensNoneWithCycles limits setup passes words → ⊥
opens_or_not limits setup passes w words opens (inl (p, first, is)) = elim first.unsettled [
  | inl (c, stone, choked) ↦ choked (opens.settled.breathe c p stone)
  | inr (c, declared, open') ↦ open' (opens.settled.closed c p declared)
]
opens_or_not limits setup passes w words opens (inr (settled, inl (fault, begun, said))) =
    let (regions, are, refused) = begun_refused limits setup fault (vertex_text setup.board.columns setup.board.rows) words begun said in
    steady_not_refused limits regions fault (vertex_text setup.board.columns setup.board.rows) words
    (subst (AreSteadyWithin limits MOST_CAPTURES) (one_regions setup.board opens.playable.regions regions opens.playable.are_regions are) opens.playable.steady) refused said
opens_or_not limits setup passes w words opens (inr (settled, inr (start, playable, not, is))) =
    not (subst (PayFor passes) (opened_purses false setup opens.start start opens.playable.opening playable.opening) opens.pay)

-- a move is chosen, or there is none
chosen_or_none : (limits : Limits) (setup : Setup) (passes : Tally) (v w : Whole) (m : Move) (a : OpensWithCycles limits setup passes v) → OpensWithCycles limits setup passes w
    → MovesAnew a.playable.regions v m → ¬ HasMove w → ⊥
chosen_or_none limits setup passes v w m a b moves none =
    let (same, alike) = opened_alike false setup passes v w (opens_so a) (opens_so b) in
    let (t, move) = anew_legal v a.playable.regions m moves in
    none (m, (with_marks t w.contested, move_back w t v.contested m alike (subst (λ z. IsMove z m t) same move)))

pub one_kind_is_told : OneKindIsToldWithCycles
one_kind_is_told limits s c (chosen m) (chosen n) a b = tt
one_kind_is_told limits s c (chosen m) resigned (v, opens, moves) (w, opened, none) = chosen_or_none limits _ _ v w m opens opened moves none
one_kind_is_told limits s c (chosen m) (unopened words) (v, opens, moves) b = opens_or_not limits _ _ v words opens b
one_kind_is_told limits s c resigned (chosen m) (w, opened, none) (v, opens, moves) = chosen_or_none limits _ _ v w m opens opened moves none
one_kind_is_told limits s c resigned resigned a b = tt
one_kind_is_told limits s c resigned (unopened words) (v, opens, none) b = opens_or_not limits _ _ v words opens b
one_kind_is_told limits s c (unopened words) (chosen m) a (v, opens, moves) = opens_or_not limits _ _ v words opens a
one_kind_is_told limits s c (unopened words) resigned a (v, opens, none) = opens_or_not limits _ _ v words opens a
one_kind_is_told limits s c (unopened v) (unopened w) a b = tt
