-- Budgets for regions in a list: who wins with them, and the least of one.
use Rattle.std.proofs.Common.{ℕ, suc, ◌≡◌, ◌+◌, ◌-◌, ◌<◌, ◌↔◌, arith, refl, sym, ap, ◌∙◌, subst, List, [], length, get_or, set, min, Bool, IsTrue, inl, inr}
use Rattle.std.proofs.lemmas.Bool.{cases_eq}
use Rattle.std.proofs.lemmas.List.{get_or-set_other, get_or-set_same, set-get_or}
use Rattle.go_grid.specs.declared.grid.Colour.{Colour}
use Rattle.go_grid.specs.Region.{Region}
use Rattle.short_games.specs.Tree.{Tree}
use Rattle.short_games.specs.Number.{num}
use Rattle.short_games.specs.Sum.{◌+ᵍ◌, total}
use Rattle.game_store.specs.Meaning.{pick}
use Rattle.whole_rules.specs.declared.money.Purses.{Purses}
use Rattle.whole_rules.specs.WholeGame.{Whole}
use Rattle.endgame_solver.specs.SumGame.{balance}
use Rattle.whole_budgets.specs.BudgetSums.{WinsGame}
use Rattle.whole_budgets.specs.EnginePlay.{AreReducedBelow, IsLeastAt, WinsWithList}
use Rattle.cycle_solver.specs.declared.region_game.RegionGame.{RegionGame}
use Rattle.cycle_solver.specs.GameLists.{game_at, layers_for}
use Rattle.cycle_solver.specs.Held.{AreSummedWith, IsHeld, ids_with, place_at}
use Rattle.cycle_solver.proofs.ChangeLaws.{summed_as, summed_put}
use Rattle.cycle_solver.proofs.SumLaws.{told, wins_listed}

module _ {regions : List Region} {games : List RegionGame} {places : List ℕ} {Ts : List Tree} {s : Whole} (held : IsHeld regions games places Ts s) where
  -- a player wins with listed budgets exactly where the search says so
  pub listed_told : (c : Colour) (budgets ids : List ℕ) → AreSummedWith games places c budgets ids → {side : Colour} {m : Purses} {b : Bool}
      → side ≡ s.side → m ≡ s.purses → IsTrue b ↔ WinsGame c side (total (pick Ts ids) +ᵍ num 1 (balance m))
      → IsTrue b ↔ WinsWithList regions c s budgets
  listed_told c budgets ids summed turn purses answer =
      told Ts ids s turn purses answer (wins_listed held.solved held.at c (λ k. get_or budgets k 0) ids summed budgets (λ k lt. refl))

  -- a value with another budget in one region
  pub budget_put : (c : Colour) (budgets ids : List ℕ) (k n v m : ℕ) → k < length regions → length budgets ≡ length regions
      → AreSummedWith games places c (set budgets k m) ids → v ≡ get_or (ids_with (game_at games k) c n) (place_at places k) 0
      → AreSummedWith games places c (set budgets k n) (set ids k v)
  budget_put c budgets ids k n v m lt many summed is =
      let own : get_or (set budgets k n) k 0 ≡ n = get_or-set_same budgets k n 0 (omega (arith, lt, many)) in
      subst (λ ps. AreSummedWith games ps c (set budgets k n) (set ids k v)) (set-get_or places k 0)
      (summed_put k (place_at places k) v (omega (arith, lt, held.at.many)) (omega (arith, lt, held.solved.many)) summed
      (λ j ne. get_or-set_other budgets k j n 0 ne ∙ sym (get_or-set_other budgets k j m 0 ne))
      (is ∙ ap (λ b. get_or (ids_with (game_at games k) c b) (place_at places k) 0) (sym own)))

  -- a budget past the last layer changes nothing
  pub most_wins : (c : Colour) (budgets ids : List ℕ) (k most : ℕ) → k < length regions → length budgets ≡ length regions
      → AreSummedWith games places c budgets ids → most ≡ min (get_or budgets k 0) (length (layers_for (game_at games k) c) - 1)
      → WinsWithList regions c s budgets → WinsWithList regions c s (set budgets k most)
  most_wins c budgets ids k most lt many summed is wins =
      let least = λ (x : ℕ). wins_listed held.solved held.at c (λ j. get_or (set budgets k most) j 0) ids
      (summed_as (λ j short. elim (cases_eq j k) as (λ _. ids_with (game_at games j) c (get_or (set budgets k most) j 0)
      ≡ ids_with (game_at games j) c (get_or budgets j 0)) [
        | inl same ↦ subst (λ z. ids_with (game_at games z) c (get_or (set budgets k most) z 0) ≡ ids_with (game_at games z) c (get_or budgets z 0)) (sym same)
            (ap (ids_with (game_at games k) c) (get_or-set_same budgets k most 0 (omega (arith, lt, many))) ∙ last)
        | inr ne ↦ ap (ids_with (game_at games j) c) (get_or-set_other budgets k j most 0 ne)
      ]) summed) (set budgets k most) (λ j short. refl) in
      (least 0).1 ((wins_listed held.solved held.at c (λ j. get_or budgets j 0) ids summed budgets (λ j short. refl)).0 wins)
    where
      layers : List (List ℕ)
      layers = layers_for (game_at games k) c

      last : ids_with (game_at games k) c most ≡ ids_with (game_at games k) c (get_or budgets k 0)
      last = ap (λ z. get_or layers z []) (omega (arith, is))

-- one more region has got its least budget
pub reduced_more : (regions : List Region) (s : Whole) (k n : ℕ) (bs ds cs : List ℕ) → AreReducedBelow regions s k bs ds → IsLeastAt regions s ds k n
    → cs ≡ set ds k n → AreReducedBelow regions s (k + 1) bs cs
reduced_more regions s k n bs ds cs reduced least is =
    let more : suc k ≡ k + 1 = omega arith in
    subst (λ m. AreReducedBelow regions s m bs cs) more (ds, n, reduced, least, is)
