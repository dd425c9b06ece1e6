-- A list of budgets, one for each region of play, in the place of a function of the regions.
use Rattle.std.proofs.Common.{ℕ, zero, suc, ◌≡◌, ◌<◌, ◌↔◌, arith, refl, sym, ◌∙◌, subst, List, [], ◌∷◌, length, get_or, map, nat_eq, Bool, true, false, AllPairs, Contains}
use Rattle.std.proofs.lemmas.Bool.{cond-true, cond-false, eq-eqb, eqb-true}
use Rattle.std.proofs.lemmas.List.{get_or-map, get_or_default, length-map}
use Rattle.std.proofs.lemmas.List.Elements.{Contains-get_or}
use Rattle.go_grid.specs.declared.grid.Colour.{Colour}
use Rattle.go_grid.specs.Board.{Board}
use Rattle.go_grid.specs.Region.{Region}
use Rattle.region_cut.specs.Cut.{AreRegionsOfPlay, lowest}
use Rattle.whole_rules.specs.declared.states.Move.{Move}
use Rattle.whole_rules.specs.WholeGame.{Whole}
use Rattle.endgame_solver.specs.Regions.{no_region, region_at}
use Rattle.whole_budgets.specs.BudgetPlay.{AreBudgetsAfter, AreSame, IsBudgetAfter, WinsWithBudgets}
use Rattle.whole_budgets.specs.EnginePlay.{AreListedAfter, budget_in}
use Rattle.whole_budgets.proofs.BudgetPlayLemmas.{greater_win}

-- each region has a lower point than all later ones
abbrev Rise : List Region → Type 0
Rise = AllPairs (λ r q. lowest r < lowest q)

there : (rs : List Region) (bs : List ℕ) (k : ℕ) → Rise rs → k < length rs → budget_in rs bs (region_at rs k) ≡ get_or bs k 0
there [] bs k rise lt = absurd (omega (arith, lt))
there (r ∷ rs) [] k rise lt = refl
there (r ∷ rs) (b ∷ bs) zero rise lt = cond-true (nat_eq (lowest r) (lowest r)) b _ (eq-eqb (lowest r) (lowest r) refl)
there (r ∷ rs) (b ∷ bs) (suc k) rise lt =
    let q = region_at rs k in
    let less : lowest r < lowest q = rise 0 (suc k) no_region (omega arith) lt in
    cond-false (nat_eq (lowest r) (lowest q)) b _ (differ (lowest r) (lowest q) less)
    ∙ there rs bs k (λ i j d less' short. rise (suc i) (suc j) d (omega (arith, less')) (omega (arith, short))) (omega (arith, lt))
  where
    differ : (m n : ℕ) → m < n → nat_eq m n ≡ false
    differ m n less = at (nat_eq m n) refl
      where
        at : (b : Bool) → nat_eq m n ≡ b → nat_eq m n ≡ false
        at true e = absurd (omega (arith, less, eqb-true m n e))
        at false e = e

module _ (g : Board) (regions : List Region) (are : AreRegionsOfPlay g regions) where
  -- the list gives each region the budget at its place
  pub budget_there : (bs : List ℕ) (k : ℕ) → k < length regions → budget_in regions bs (region_at regions k) ≡ get_or bs k 0
  budget_there bs k = there regions bs k are.ascending

  -- what holds of the region at each place holds of each region
  pub by_place : (P : Region → Type 0) → ((k : ℕ) → k < length regions → P (region_at regions k)) → (r : Region) → Contains regions r → P r
  by_place P each r (k, lt, is) = subst P (get_or_default regions k no_region r lt ∙ is) (each k lt)

  -- there is a list for each function
  pub list_of : (b : Region → ℕ) → (bs : List ℕ) × (length bs ≡ length regions) × AreSame regions (budget_in regions bs) b
  list_of b = (
    map b regions,
    length-map regions b,
    by_place (λ r. budget_in regions (map b regions) r ≡ b r)
        (λ k lt. budget_there (map b regions) k lt ∙ get_or-map b regions k no_region 0 lt),
  )

  -- the listed budgets after a move are the budgets after it
  pub listed_after : (s t : Whole) (m : Move) (bs cs : List ℕ) → length cs ≡ length regions
      → AreListedAfter regions s m t bs cs ↔ AreBudgetsAfter regions s m t (budget_in regions bs) (budget_in regions cs)
  listed_after s t m bs cs many = (
    λ listed. by_place (λ r. IsBudgetAfter r s m t (budget_in regions bs r) (budget_in regions cs r))
        (λ k lt. rw (budget_there bs k lt, budget_there cs k lt) (listed.each k lt)),
    λ after. record {
      many = many;
      each = λ k lt.
          let r = region_at regions k in
          rw (sym (budget_there bs k lt), sym (budget_there cs k lt)) (after r (Contains-get_or regions k no_region lt));
    },
  )

-- who wins with budgets wins with the same budgets
pub same_wins : (regions : List Region) (owner : Colour) (s : Whole) (b c : Region → ℕ) → AreSame regions b c → WinsWithBudgets regions owner s b
    → WinsWithBudgets regions owner s c
same_wins regions owner s b c same wins = greater_win regions owner s b c (λ r i. omega (arith, same r i)) wins
