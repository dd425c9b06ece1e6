-- By how much a state is won by a player, and the player's threshold.
use Rattle.std.proofs.Common.{ℕ, ℤ, ◌≡◌, ◌^◌, ◌<◌, ◌≤◌, refl, sym, ◌∙◌, subst, arith, List, [], ◌∷◌, unsigned_abs, ◌+ℤ◌, ◌-ℤ◌}
use Rattle.std.proofs.lemmas.Int.{ints}
use Rattle.go_grid.specs.declared.grid.Colour.{Colour}
use Rattle.go_grid.specs.declared.grid.Colour.TheVariants.{Black, White}
use Rattle.go_grid.specs.Board.{Board, other}
use Rattle.go_grid.specs.Region.{Region}
use Rattle.benson_life.specs.Walls.{WallsStand}
use Rattle.region_cut.specs.LocalBoard.{HoldsPosition}
use Rattle.whole_rules.specs.declared.states.Move.TheVariants.{Stone}
use Rattle.whole_rules.specs.Threshold.{stones}
use Rattle.whole_rules.specs.Walls.{Plays}
use Rattle.whole_rules.specs.WholeGame.{Whole}
use Rattle.short_games.specs.Tree.{Tree}
use Rattle.short_games.specs.Sum.{total}
use Rattle.game_store.specs.Meaning.{pick}
use Rattle.endgame_solver.specs.Regions.{region_at}
use Rattle.endgame_solver.specs.SumGame.{balance}
use Rattle.endgame_solver.specs.Thresholds.{IsLeastWin}
use Rattle.endgame_solver.proofs.MarginLaws.{komi_small, size-plus}
use Rattle.endgame_solver.proofs.ThresholdLaws.{AreAlike, alike_openings, alike_stones, balance_less}
use Rattle.cycle_solver.specs.declared.asking.Present.{Present}
use Rattle.cycle_solver.specs.declared.changes.Change.{Change}
use Rattle.cycle_solver.specs.declared.region_game.RegionGame.{RegionGame}
use Rattle.cycle_solver.specs.Changes.{IsChange, places_after}
use Rattle.cycle_solver.specs.Held.{AreSolved, AreSummed, IsAt, IsHeld, enough}
use Rattle.cycle_solver.specs.Thresholds.{IsMarginFor, IsThresholdFor, IsThresholdForFrom}
use Rattle.cycle_solver.proofs.SumLaws.{wins}
use Rattle.cycle_solver.proofs.ThresholdLaws.{IsWonBeside, threshold_beside}

-- a state with the board and the contested points of another one holds the same positions
at_alike : {g : Board} {regions : List Region} {games : List RegionGame} {places : List ℕ} {gap : ℤ} {t u : Whole} → IsAt g regions games places t
    → AreAlike gap t u → IsAt g regions games places u
at_alike {g} {regions} {games} {places} at alike = record {
  many = at.many;
  walls = subst (WallsStand g) alike.board at.walls;
  contested = λ q. (λ m. (at.contested q).0 ((alike.contested q).1 m), λ c. (alike.contested q).0 ((at.contested q).1 c));
  shown = λ k lt.
      let (cells, has, holds) = at.shown k lt in (cells, has, subst (HoldsPosition g (region_at regions k) cells) alike.board holds);
}

added : (b k n : ℤ) → (b +ℤ k) -ℤ (b -ℤ n) ≡ k +ℤ n
added b k n = omega (arith, ints)

module _ {g : Board} {regions : List Region} {games : List RegionGame} {Ts : List Tree} (are : AreSolved g regions games Ts)
    {t : Whole} {places : List ℕ} (at : IsAt g regions games places t) (d : Colour) (ids : List ℕ) (summed : AreSummed games places d enough ids) where
  -- the sum of the player's present values tells whether the player wins each state that is alike
  won_alike : {gap : ℤ} {u : Whole} → AreAlike gap t u → IsWonBeside d (total (pick Ts ids)) u
  won_alike alike = wins are (at_alike at alike) d enough ids summed (omega arith)

  -- the margin is the balance less the least number beside which Black wins
  pub margin_is : (c : Colour) (n : ℤ) → IsLeastWin c (total (pick Ts ids)) (balance t.purses -ℤ n) → IsMarginFor d t c [] n
  margin_is c n is x k o = subst (IsThresholdFor d x c []) (added (balance t.purses) k n)
      (threshold_beside d x c c [] (total (pick Ts ids)) (balance t.purses +ℤ k) (balance t.purses -ℤ n) is (λ l u v p same.
      let alike = alike_openings x k l t.side c t u o p in
      subst (λ z. IsWonBeside d (total (pick Ts ids)) z × (z.side ≡ c) × (balance z.purses ≡ (balance t.purses +ℤ k) -ℤ l)) same
      (won_alike alike, p.turn, balance_less (balance u.purses) (balance t.purses) k l alike.balance_is)))

  -- after stones it is that of the state that they lead to
  pub margin_after : (s : Whole) (ps : List ℕ) → Plays s (stones ps) t → (n : ℤ) → IsLeastWin t.side (total (pick Ts ids)) (balance t.purses -ℤ n)
      → IsMarginFor d s s.side ps n
  margin_after s ps plays n is x k o = subst (IsThresholdFor d x s.side ps) (added (balance t.purses) k n)
      (threshold_beside d x s.side t.side ps (total (pick Ts ids)) (balance t.purses +ℤ k) (balance t.purses -ℤ n) is (λ l u v p plays'.
      let (alike, turn) = alike_stones (l -ℤ k) ps s u t v (alike_openings x k l s.side s.side s u o p) (sym p.turn) plays plays' in
      (won_alike alike, sym turn, balance_less (balance v.purses) (balance t.purses) k l alike.balance_is)))

-- behind a stone that changes this
pub margin_behind : (present : Present) (x : Change) (d : Colour) (ids : List ℕ) → AreSummed present.games.now (places_after present.places.now x.stone) d enough ids
    → {next : Colour} → next ≡ other present.whole.now.side → (n : ℤ)
    → IsLeastWin next (total (pick present.store.now ids)) (balance x.purses -ℤ n) → (p : ℕ) → IsChange present (Stone p) x
    → IsMarginFor d present.whole.now present.whole.now.side (p ∷ []) n
margin_behind present x d ids summed turn n is p change =
    let (t, move) = change.legal in
    let c = change.each t move in
    let here = subst (λ T. T) (λ i. IsLeastWin ((turn ∙ sym c.turn) i) (total (pick present.store.now ids)) (balance (sym c.purses i) -ℤ n)) is in
    margin_after c.stands.1 c.stands.2 d ids summed present.whole.now (p ∷ []) (t, move, refl) n here

-- the threshold is the komi and the margin
pub threshold_from : {regions : List Region} {games : List RegionGame} {places : List ℕ} {Ts : List Tree} {s : Whole} → IsHeld regions games places Ts s
    → (d c : Colour) (ps : List ℕ) (k n K : ℤ) → unsigned_abs n ≤ 2 ^ 46 → (unsigned_abs (k +ℤ n) < 2 ^ 63 → K ≡ k +ℤ n)
    → IsMarginFor d s c ps n → IsThresholdForFrom d s k c ps K
threshold_from {s = s} held d c ps k n K small is margin x o =
    let few = komi_small k s.purses.black s.purses.white _ _ o.black.2 o.white.2 (omega (arith, held.modest Black)) (omega (arith, held.modest White)) in
    subst (IsThresholdFor d x c ps) (sym (is (omega (arith, ints, few, small, size-plus k n)))) (margin x k o)
