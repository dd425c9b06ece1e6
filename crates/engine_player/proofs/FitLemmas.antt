-- What a game with kos holds is fit from its opening on, behind each move, and where points are taken out of a purse.
use Rattle.std.proofs.Common.{◌≡◌, ◌≢◌, ℕ, ◌+◌, ◌*◌, ◌^◌, ◌≤◌, List, [], ◌++◌, take, drop, length, length-append, cond, arith, refl, sym, ap, ◌∙◌, subst, Option, Some, None, Ok, Err, Result, IfOk, OnErr, Bool, true, false}
use Rattle.std.proofs.lemmas.List.{length-drop, length-take}
use Rattle.go_grid.specs.declared.grid.Colour.{Colour}
use Rattle.go_grid.specs.declared.grid.Colour.TheVariants.{Black, White}
use Rattle.go_grid.specs.Board.{Board, other}
use Rattle.go_grid.specs.Region.{Region}
use Rattle.go_play.specs.Setup.{IsFit, Setup}
use Rattle.whole_rules.specs.declared.states.Move.{Move}
use Rattle.whole_rules.specs.declared.states.MoveError.{MoveError}
use Rattle.whole_rules.specs.Purses.{taken_out}
use Rattle.whole_rules.specs.WholeGame.{Applies, IsMove, Whole}
use Rattle.whole_rules.proofs.PlainLaws.{move_turn}
use Rattle.endgame_solver.specs.Solved.{Solved}
use Rattle.endgame_solver.specs.Limits.{Limits}
use Rattle.endgame_solver.proofs.BeginLaws.{purse_few}
use Rattle.endgame_solver.proofs.BookkeepingLaws.{out-less}
use Rattle.whole_budgets.specs.EnginePlay.{Serves}
use Rattle.cycle_solver.specs.Begun.{Begun}
use Rattle.whole_budgets.specs.EngineLaws.{IsReached}
use Rattle.whole_budgets.proofs.ReachedLemmas.{board_long, reached_less, reached_on}
use Rattle.whole_budgets.proofs.ServeLemmas.{serves_behind}
use Rattle.engine_player.specs.declared.cycle_player.TheConstants.{MOST_MOVES}
use Rattle.engine_player.specs.declared.kept.Kept.{Kept}
use Rattle.engine_player.specs.Played.{BothServe}
use Rattle.engine_player.specs.inner.Kept.{HasPurses, HaveBudgets, IsFitPlayer, kept_of, seen_as}
use Rattle.engine_player.proofs.RoomLemmas.{purses_behind}

-- nothing that is kept serves
nothing_serves : (regions : List Region) (c : Colour) (s : Whole) (k : Kept) → k.is_kept ≡ false → Serves regions c s (kept_of k)
nothing_serves regions c s k none = subst (λ b. Serves regions c s (cond b (Some k.budgets.items) None)) (sym none) tt

-- a list that was lent is as long when it is written back
pub written_back : {n : ℕ} (xs ys : List ℕ) (k : ℕ) → k ≡ length xs → length xs ≡ n → length ys ≡ n → length (take k (ys ++ drop (length ys) xs)) ≡ n
written_back xs ys k is long same =
    omega (arith, length-take k (ys ++ drop (length ys) xs), length-append ys (drop (length ys) xs), length-drop (length ys) xs, is, long, same)

both_serve : (game : Solved) (black white : Kept) (moves : ℕ) → Serves game.regions Black game.state (kept_of black)
    → Serves game.regions White game.state (kept_of white) → BothServe (seen_as game black white moves)
both_serve game black white moves for_black for_white Black = for_black
both_serve game black white moves for_black for_white White = for_white

pub begin_fit : (setup : Setup) (tax : Bool) (limits : Limits) (most : ℕ) (game : Solved) (black white : Kept) (scratch : List ℕ) → IsFit setup → length setup.board.cells ≤ 625
    → Begun setup tax limits most (Ok game) → black.is_kept ≡ false → white.is_kept ≡ false → HaveBudgets game.regions black white scratch
    → IsFitPlayer game black white scratch 0
begin_fit setup tax limits most game black white scratch fit small (opening, cut, steady) none nothing many = record {
  board = setup.board;
  reached = record {
    black_prisoners = setup.black_prisoners;
    white_prisoners = setup.white_prisoners;
    komi = setup.komi_halves;
    side = setup.side;
    tax = tax;
    start = game.state;
    moves = [];
    settled = fit.settled;
    cut = cut;
    untouched = game.state.purses;
    opening = opening;
    plays = refl;
    less = record { purses = λ c. omega arith; token = refl };
  };
  small = small;
  many = many;
  serve = both_serve game black white 0 (nothing_serves game.regions Black game.state black none) (nothing_serves game.regions White game.state white nothing);
  few = omega arith;
  purses = λ c. let most = purse_few setup.board setup.black_prisoners setup.white_prisoners setup.komi_halves setup.side tax game.state small opening fit.black fit.white fit.komi c in
      omega (arith, most);
}

module _ (game next : Solved) (black white black' white' : Kept) (scratch scratch' : List ℕ) (moves : ℕ) (fit : IsFitPlayer game black white scratch moves)
    (m : Move) (moved : IsMove game.state m next.state) (same : next.regions ≡ game.regions) (few : moves + 1 ≤ MOST_MOVES)
    (many : HaveBudgets game.regions black' white' scratch') where
  theirs : (c : Colour) (before now : Kept) → c ≢ game.state.side → now ≡ before → Serves game.regions c game.state (kept_of before)
      → Serves game.regions c next.state (kept_of now)
  theirs c before now not is serves =
      let turn : c ≡ next.state.side = not_own c game.state.side not ∙ sym (move_turn game.state next.state m moved) in
      subst (λ k. Serves game.regions c next.state (kept_of k)) (sym is)
      (subst (λ d. Serves game.regions d next.state (kept_of before)) (sym turn)
      (serves_behind game.regions game.state next.state m (kept_of before) moved (subst (λ d. Serves game.regions d game.state (kept_of before)) turn serves)))
    where
      not_own : (c d : Colour) → c ≢ d → c ≡ other d
      not_own Black Black not = absurd (not refl)
      not_own Black White not = refl
      not_own White Black not = refl
      not_own White White not = absurd (not refl)

  fit_behind : Serves game.regions Black next.state (kept_of black') → Serves game.regions White next.state (kept_of white')
      → IsFitPlayer next black' white' scratch' (moves + 1)
  fit_behind for_black for_white = record {
    board = fit.board;
    reached = subst (λ rs. IsReached fit.board rs next.state) (sym same) (reached_on fit.reached next.state m moved);
    small = fit.small;
    many = subst (λ rs. HaveBudgets rs black' white' scratch') (sym same) many;
    serve = both_serve next black' white' (moves + 1) (subst (λ rs. Serves rs Black next.state (kept_of black')) (sym same) for_black)
        (subst (λ rs. Serves rs White next.state (kept_of white')) (sym same) for_white);
    few = few;
    purses = purses_behind game.state next.state m moves (omega (arith, fit.small, board_long fit.reached)) moved fit.purses;
  }

  pub black_behind : game.state.side ≡ Black → Serves game.regions Black next.state (kept_of black') → white' ≡ white
      → IsFitPlayer next black' white' scratch' (moves + 1)
  black_behind turn own is = fit_behind own (theirs White white white' (λ e. absurd (cc (e ∙ turn))) is (fit.serve White))

  pub white_behind : game.state.side ≡ White → Serves game.regions White next.state (kept_of white') → black' ≡ black
      → IsFitPlayer next black' white' scratch' (moves + 1)
  white_behind turn own is = fit_behind (theirs Black black black' (λ e. absurd (cc (e ∙ turn))) is (fit.serve Black)) own

-- by hand, where the move may be refused
module _ (game next : Solved) (black white : Kept) (scratch : List ℕ) (moves now : ℕ) (fit : IsFitPlayer game black white scratch moves) (m : Move)
    (same : next.regions ≡ game.regions) (few : moves + 1 ≤ MOST_MOVES) where
  unmoved : next.state ≡ game.state → now ≡ moves → IsFitPlayer next black white scratch now
  unmoved is count = subst (IsFitPlayer next black white scratch) (sym count) record {
    board = fit.board;
    reached = subst (λ rs. IsReached fit.board rs next.state) (sym same) (subst (IsReached fit.board game.regions) (sym is) fit.reached);
    small = fit.small;
    many = subst (λ rs. HaveBudgets rs black white scratch) (sym same) fit.many;
    serve = both_serve next black white moves
        (subst (λ rs. Serves rs Black next.state (kept_of black)) (sym same) (subst (λ s. Serves game.regions Black s (kept_of black)) (sym is) (fit.serve Black)))
        (subst (λ rs. Serves rs White next.state (kept_of white)) (sym same) (subst (λ s. Serves game.regions White s (kept_of white)) (sym is) (fit.serve White)));
    few = fit.few;
    purses = λ c. subst (λ s. HasPurses s moves) (sym is) fit.purses c;
  }

  abbrev Forgets : Kept → Kept → Result Unit MoveError → Type 0
  Forgets before after r = IfOk r (λ _. (after ≡ record before { is_kept = false }) × (now ≡ moves + 1))

  abbrev Stays : Kept → Kept → Result Unit MoveError → Type 0
  Stays before after r = OnErr r ((after ≡ before) × (now ≡ moves))

  forgotten : (regions : List Region) (c : Colour) (s : Whole) (before after : Kept) → after ≡ record before { is_kept = false } → Serves regions c s (kept_of after)
  forgotten regions c s before after is = nothing_serves regions c s after (ap (λ k. k.is_kept) is)

  pub black_by_hand : (r : Result Unit MoveError) (after : Kept) → game.state.side ≡ Black → Applies game.state m next.state r → Forgets black after r → Stays black after r
      → IsFitPlayer next after white scratch now
  black_by_hand (Ok u) after turn moved (is, count) stays =
      subst (IsFitPlayer next after white scratch) (sym count) (black_behind game next black white after white scratch scratch moves fit m moved same few
      (record { black_many = ap (λ k. length k.budgets.items) is ∙ fit.many.black_many; white_many = fit.many.white_many; scratch_many = fit.many.scratch_many })
      turn (forgotten game.regions Black next.state black after is) refl)
  black_by_hand (Err e) after turn (is, why) forgets (kept, count) = subst (λ k. IsFitPlayer next k white scratch now) (sym kept) (unmoved is count)

  pub white_by_hand : (r : Result Unit MoveError) (after : Kept) → game.state.side ≡ White → Applies game.state m next.state r → Forgets white after r → Stays white after r
      → IsFitPlayer next black after scratch now
  white_by_hand (Ok u) after turn moved (is, count) stays =
      subst (IsFitPlayer next black after scratch) (sym count) (white_behind game next black white black after scratch scratch moves fit m moved same few
      (record { black_many = fit.many.black_many; white_many = ap (λ k. length k.budgets.items) is ∙ fit.many.white_many; scratch_many = fit.many.scratch_many })
      turn (forgotten game.regions White next.state white after is) refl)
  white_by_hand (Err e) after turn (is, why) forgets (kept, count) = subst (λ k. IsFitPlayer next black k scratch now) (sym kept) (unmoved is count)

-- points are taken out of a purse while nothing is kept
pub fit_less : (game : Solved) (black white : Kept) (scratch : List ℕ) (moves : ℕ) → IsFitPlayer game black white scratch moves → (c : Colour) (n : ℕ)
    → kept_of black ≡ None → kept_of white ≡ None
    → IsFitPlayer (record game { state = record game.state { purses = taken_out c n game.state.purses } }) black white scratch moves
fit_less game black white scratch moves fit c n none nothing =
    let state = record game.state { purses = taken_out c n game.state.purses } in record {
      board = fit.board;
      reached = reached_less fit.reached c n;
      small = fit.small;
      many = record { black_many = fit.many.black_many; white_many = fit.many.white_many; scratch_many = fit.many.scratch_many };
      serve = both_serve (record game { state = state }) black white moves (subst (Serves game.regions Black state) (sym none) tt)
          (subst (Serves game.regions White state) (sym nothing) tt);
      few = fit.few;
      purses = λ d. omega (arith, fit.purses d, out-less d c n game.state.purses);
    }
