-- What is kept behind a move that is made, and where points are taken out of a purse.
use Rattle.std.proofs.Common.{ℕ, ◌≡◌, arith, refl, sym, ap, ◌∙◌, subst, List, [], ◌++◌, length, take, drop, Option, None, Some, Result, Ok, Err, length-set, ◌≤◌, ◌^◌}
use Rattle.std.proofs.Math.ListN.{drop_of_length-le}
use Rattle.std.proofs.Math.Seq.{take-length}
use Rattle.std.proofs.lemmas.List.{append-nil}
use Rattle.go_grid.specs.declared.grid.Colour.{Colour}
use Rattle.go_grid.specs.declared.grid.Colour.TheVariants.{Black, White}
use Rattle.go_grid.specs.Region.{Region}
use Rattle.short_games.specs.Tree.{Tree}
use Rattle.whole_rules.specs.Purses.{purse, taken_out}
use Rattle.whole_rules.specs.declared.states.Move.{Move}
use Rattle.whole_rules.specs.declared.states.MoveError.{MoveError}
use Rattle.whole_rules.specs.WholeGame.{Whole, Applies}
use Rattle.whole_rules.proofs.MoveLaws.{refused_not_legal}
use Rattle.endgame_solver.proofs.BookkeepingLaws.{out-less}
use Rattle.cycle_solver.specs.declared.asking.Present.{Present}
use Rattle.cycle_solver.specs.declared.region_game.RegionGame.{RegionGame}
use Rattle.cycle_solver.specs.Changes.{IsBehind, places_after}
use Rattle.cycle_solver.specs.Held.{AreSummed, IsHeld, IsKept, IsSeen, enough}
use Rattle.cycle_solver.specs.Keeping.{HasRoom}

-- a list that is lent whole and comes back as long is what came back
pub refilled : {n : ℕ} {ws xs ys : List ℕ} → ys ≡ xs → length ys ≡ n → length ws ≡ length xs → take n (ws ++ drop (length ws) xs) ≡ ws
refilled {n} {ws} {xs} {ys} lent many long =
    let none : drop (length ws) xs ≡ [] = drop_of_length-le xs (omega (arith, long)) in
    let size : n ≡ length ws = omega (arith, many, ap length lent, long) in
    (λ i. take (size i) (ws ++ none i)) ∙ ap (take (length ws)) (append-nil ws) ∙ take-length ws

pub length_places : (places : List ℕ) (stone : Option (ℕ × ℕ)) → length (places_after places stone) ≡ length places
length_places places None = refl
length_places places (Some x) = length-set places x.0 x.1

module _ {present : Present} {m : Move} {stone : Option (ℕ × ℕ)} {t : Whole} (seen : IsSeen present) (room : HasRoom present.whole.now)
    (behind : IsBehind present m stone) {low high : List ℕ}
    (low_sum : AreSummed present.games.now (places_after present.places.now stone) Black enough low)
    (high_sum : AreSummed present.games.now (places_after present.places.now stone) White enough high) where
  -- the values behind a move are those of the state that it leads to, or of the present one where it is refused
  pub played : (answer : Result Unit MoveError) → Applies present.whole.now m t answer
      → IsKept present.regions.now present.games.now (places_after present.places.now stone) low high present.store.now t
  played (Ok u) move =
      let (g, solved, at) = behind.stands t move in record {
        held = record {
          board = g;
          solved = solved;
          at = at;
          modest = λ c. small c move;
        };
        low_sum = low_sum;
        high_sum = high_sum;
      }
    where
      small : (c : Colour) → Applies present.whole.now m t (Ok u) → purse c t.purses ≤ 2 ^ 41
      small Black moved = omega (arith, behind.grown t moved Black, room.black)
      small White moved = omega (arith, behind.grown t moved White, room.white)
  played (Err e) (same, refuses) = record {
    held = subst (λ o. IsHeld present.regions.now present.games.now (places_after present.places.now o) present.store.now t)
        (sym (behind.still (refused_not_legal present.whole.now m e refuses)))
        (subst (IsHeld present.regions.now present.games.now present.places.now present.store.now) (sym same) seen);
    low_sum = low_sum;
    high_sum = high_sum;
  }

-- points that are taken out of a purse
pub kept_out : {regions : List Region} {games : List RegionGame} {places low high : List ℕ} {Ts : List Tree} {s : Whole}
    → IsKept regions games places low high Ts s → (c : Colour) (n : ℕ) → IsKept regions games places low high Ts (record s { purses = taken_out c n s.purses })
kept_out {s = s} kept c n = record {
  held = record {
    board = kept.held.board;
    solved = kept.held.solved;
    at = record { many = kept.held.at.many; walls = kept.held.at.walls; contested = kept.held.at.contested; shown = kept.held.at.shown };
    modest = λ d. omega (arith, kept.held.modest d, out-less d c n s.purses);
  };
  low_sum = kept.low_sum;
  high_sum = kept.high_sum;
}
