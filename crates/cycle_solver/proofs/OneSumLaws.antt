-- Where one sum has the values of both players, it says for both who wins: White exactly where Black doesn't.
use Rattle.std.proofs.Common.{ℕ, ◌≡◌, ◌<◌, ◌≤◌, inl, inr, refl, sym, subst, arith, List, length, get_or, set, IfSome, Option, None, Some}
use Rattle.std.proofs.lemmas.List.{ext_get_or}
use Rattle.go_grid.specs.declared.grid.Colour.{Colour}
use Rattle.go_grid.specs.declared.grid.Colour.TheVariants.{Black, White}
use Rattle.go_grid.specs.Board.{Board}
use Rattle.go_grid.specs.Region.{Region}
use Rattle.whole_rules.specs.FirstWinningMove.{IsWinner}
use Rattle.whole_rules.specs.declared.states.Move.{Move}
use Rattle.whole_rules.specs.WholeGame.{Whole, IsMove}
use Rattle.short_games.specs.Tree.{Tree}
use Rattle.short_games.specs.Number.{num}
use Rattle.short_games.specs.Sum.{◌+ᵍ◌, total}
use Rattle.game_store.specs.Meaning.{pick}
use Rattle.game_players.proofs.PlayerLaws.{loses-or_not}
use Rattle.endgame_solver.specs.SumGame.{balance}
use Rattle.whole_budgets.specs.BudgetSums.{WinsGame}
use Rattle.cycle_solver.specs.declared.asking.Present.{Present}
use Rattle.cycle_solver.specs.declared.changes.Change.{Change}
use Rattle.cycle_solver.specs.declared.region_game.RegionGame.{RegionGame}
use Rattle.cycle_solver.specs.Changes.{IsChange, places_after}
use Rattle.cycle_solver.specs.GameLists.{game_at}
use Rattle.cycle_solver.specs.Held.{AreSolved, AreSummed, IsAt, enough, ids_with}
use Rattle.cycle_solver.specs.inner.OneSum.{AreValuesOf, HasOneValue, HaveOneSum}
use Rattle.cycle_solver.proofs.ChangeLaws.{summed_put}
use Rattle.cycle_solver.proofs.SumLaws.{one_sum, wins}

-- a game that Black doesn't win White does
white_wins : (side : Colour) (G : Tree) → ¬ WinsGame Black side G → WinsGame White side G
white_wins Black G not = elim (loses-or_not Black G) [
  | inl l ↦ inr (refl, l)
  | inr n ↦ absurd (not (inl (refl, n)))
]
white_wins White G not = elim (loses-or_not White G) [
  | inl l ↦ absurd (not (inr (refl, l)))
  | inr n ↦ inl (refl, n)
]

pub one_here : {games : List RegionGame} {places low high : List ℕ} → AreSummed games places Black enough low → AreSummed games places White enough high
    → low ≡ high → HaveOneSum games places
one_here {games} {places} {low} {high} b w same = (low, λ c. each c)
  where
    each : (c : Colour) → AreSummed games places c enough low
    each Black = b
    each White = subst (AreSummed games places White enough) (sym same) w

-- then each player's values are the other's
pub values_of : {games : List RegionGame} {places : List ℕ} → HaveOneSum games places → (c d : Colour) → AreValuesOf games places c d
values_of {games} {places} (ids, each) c d others summed = subst (AreSummed games places d enough) (one_sum (each c) summed) (each d)

-- and so behind a stone that leads to one value for both
pub one_after : {games : List RegionGame} {places : List ℕ} (n : ℕ) → length places ≡ n → length games ≡ n → (stone : Option (ℕ × ℕ))
    → IfSome stone (λ y. y.0 < n) → HaveOneSum games places → HasOneValue games stone → HaveOneSum games (places_after places stone)
one_after n long many None known one value = one
one_after {games} {places} n long many (Some x) known (ids, each) value = (
  set ids x.0 (get_or (ids_with (game_at games x.0) Black enough) x.1 0),
  λ c. summed_put x.0 x.1 (get_or (ids_with (game_at games x.0) Black enough) x.1 0) (omega (arith, known, long)) (omega (arith, known, many)) (each c) (λ j ne. refl) (is c),
)
  where
    is : (c : Colour) → get_or (ids_with (game_at games x.0) Black enough) x.1 0 ≡ get_or (ids_with (game_at games x.0) c enough) x.1 0
    is Black = refl
    is White = value

-- who doesn't lose to Black wins
pub one_decides : {g : Board} {regions : List Region} {games : List RegionGame} {Ts : List Tree} (are : AreSolved g regions games Ts)
    {s : Whole} {places : List ℕ} (at : IsAt g regions games places s) → HaveOneSum games places → ¬ IsWinner s Black → IsWinner s White
one_decides {Ts = Ts} are {s} at (ids, each) not =
    (wins are at White enough ids (each White) (omega arith)).1
    (white_wins s.side (total (pick Ts ids) +ᵍ num 1 (balance s.purses)) (λ w. not ((wins are at Black enough ids (each Black) (omega arith)).1 w)))

pub one_decides_after : {present : Present} {x : Change} {m : Move} {t : Whole} → IsChange present m x → IsMove present.whole.now m t
    → HaveOneSum present.games.now (places_after present.places.now x.stone) → ¬ IsWinner t Black → IsWinner t White
one_decides_after change move one not = let (g, are, at) = (change.each _ move).stands in one_decides are at one not

-- the lists are as long, and the same below the place
abbrev pub AreSameBelow : {X : Type 0} → X → List X → List X → ℕ → Type 0
AreSameBelow d xs ys n = (length xs ≡ length ys) × ((k : ℕ) → k < n → get_or xs k d ≡ get_or ys k d)

pub same_all : {X : Type 0} (d : X) (xs ys : List X) (n : ℕ) → length xs ≤ n → AreSameBelow d xs ys n → xs ≡ ys
same_all d xs ys n le (long, below) = ext_get_or d xs ys long (λ k lt. below k (omega (arith, lt, le)))
