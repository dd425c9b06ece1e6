-- What a side has at its turn, and how its budgets are reduced, place by place.
use Rattle.std.proofs.Common.{ℕ, zero, suc, ◌≡◌, ◌≢◌, ◌<◌, ◌≤◌, inl, inr, sym, ap, ◌∙◌, subst, arith, List, length, get_or, replicate, set, length-set, Option, Some, None}
use Rattle.std.proofs.lemmas.Bool.{cases_eq, cases_lt}
use Rattle.std.proofs.lemmas.List.{get_or-replicate, get_or-set_other, get_or-set_same, length-replicate, set-get_or}
use Rattle.go_grid.specs.Board.{Board}
use Rattle.go_grid.specs.Region.{Region}
use Rattle.region_cut.specs.Cut.{AreRegionsOfPlay}
use Rattle.whole_rules.specs.FirstWinningMove.{IsWinner}
use Rattle.whole_rules.specs.WholeGame.{Whole}
use Rattle.whole_budgets.specs.BudgetPlay.{AreAtMost}
use Rattle.whole_budgets.specs.EnginePlay.{AreReducedBelow, HasAtTurn, IsLeastAt, Serves, WinsWithList, budget_in}
use Rattle.whole_budgets.proofs.BudgetListLemmas.{budget_there, by_place}
use Rattle.whole_budgets.proofs.BudgetPlayLemmas.{greater_win}

-- no place of the first list has more than the second has there
abbrev pub AreLess : List ℕ → List ℕ → Type 0
AreLess bs cs = (k : ℕ) → get_or bs k 0 ≤ get_or cs k 0

module _ (regions : List Region) (s : Whole) where
  abbrev Wins : List ℕ → Type 0
  Wins bs = WinsWithList regions s.side s bs

  pub reduced_long : (k : ℕ) (bs cs : List ℕ) → AreReducedBelow regions s k bs cs → length cs ≡ length bs
  reduced_long zero bs cs e = ap (λ zs. length zs) e
  reduced_long (suc k) bs cs (ds, n, before, least, e) = ap (λ zs. length zs) e ∙ length-set ds k n ∙ reduced_long k bs ds before

  -- what is reduced wins too
  pub reduced_wins : (k : ℕ) (bs cs : List ℕ) → AreReducedBelow regions s k bs cs → Wins bs → Wins cs
  reduced_wins zero bs cs e w = subst Wins (sym e) w
  reduced_wins (suc k) bs cs (ds, n, before, least, e) w = subst Wins (sym e) least.wins

  -- the least budget at a place is no more than the one that wins there
  least_less : (bs : List ℕ) (k n : ℕ) → Wins bs → IsLeastAt regions s bs k n → n ≤ get_or bs k 0
  least_less bs k n w least = elim (cases_lt (get_or bs k 0) n) [
    | inl lt ↦ absurd (least.least (get_or bs k 0) lt (subst Wins (sym (set-get_or bs k 0)) w))
    | inr ge ↦ ge
  ]

  -- a list in which one place has no more
  set_less : (bs : List ℕ) (k n : ℕ) → n ≤ get_or bs k 0 → k < length bs → AreLess (set bs k n) bs
  set_less bs k n le lt i = elim (cases_eq i k) [
    | inl e ↦ omega (arith, le, ap (λ z. get_or (set bs k n) z 0) e, ap (λ z. get_or bs z 0) e, get_or-set_same bs k n 0 lt)
    | inr ne ↦ omega (arith, get_or-set_other bs k i n 0 ne)
  ]

  pub reduced_less : (k : ℕ) (bs cs : List ℕ) → AreReducedBelow regions s k bs cs → Wins bs → k ≤ length bs → AreLess cs bs
  reduced_less zero bs cs e w le i = omega (arith, ap (λ zs. get_or zs i 0) e)
  reduced_less (suc k) bs cs (ds, n, before, least, e) w le i =
      let earlier = reduced_less k bs ds before w (omega (arith, le)) i in
      let long = reduced_long k bs ds before in
      let here = set_less ds k n (least_less ds k n (reduced_wins k bs ds before w) least) (omega (arith, long, le)) i in
      omega (arith, earlier, here, ap (λ zs. get_or zs i 0) e)

  -- how the place got its number: it was the least, when no other place had less than in the end
  pub record WasReduced (j : ℕ) (cs : List ℕ) : Type 0 where
    pub before : List ℕ
    pub long : length before ≡ length cs
    pub least : IsLeastAt regions s before j (get_or cs j 0)
    pub greater : (k : ℕ) → k ≢ j → get_or cs k 0 ≤ get_or before k 0

  reduced_here : (k n : ℕ) (ds : List ℕ) → k < length ds → IsLeastAt regions s ds k n → WasReduced k (set ds k n)
  reduced_here k n ds lt least = record {
    before = ds;
    long = sym (length-set ds k n);
    least = subst (IsLeastAt regions s ds k) (sym (get_or-set_same ds k n 0 lt)) least;
    greater = λ i ne. omega (arith, get_or-set_other ds k i n 0 ne);
  }

  reduced_before : (k n j : ℕ) (ds : List ℕ) → j ≢ k → AreLess (set ds k n) ds → WasReduced j ds → WasReduced j (set ds k n)
  reduced_before k n j ds ne less x = record {
    before = x.before;
    long = x.long ∙ sym (length-set ds k n);
    least = subst (IsLeastAt regions s x.before j) (sym (get_or-set_other ds k j n 0 ne)) x.least;
    greater = λ i other_place. (let here = less i in let there = x.greater i other_place in omega (arith, here, there));
  }

  pub was_reduced : (k j : ℕ) (bs cs : List ℕ) → AreReducedBelow regions s k bs cs → Wins bs → k ≤ length bs → j < k → WasReduced j cs
  was_reduced zero j bs cs e w le lt = absurd (omega (arith, lt))
  was_reduced (suc k) j bs cs (ds, n, before, least, e) w le lt =
      let same_long = reduced_long k bs ds before in
      let short : k < length ds = omega (arith, same_long, le) in
      let less = set_less ds k n (least_less ds k n (reduced_wins k bs ds before w) least) short in
      subst (WasReduced j) (sym e) (elim (cases_eq j k) [
        | inl same ↦ subst (λ z. WasReduced z (set ds k n)) (sym same) (reduced_here k n ds short least)
        | inr ne ↦ reduced_before k n j ds ne less (was_reduced k j bs ds before w (omega (arith, le)) (omega (arith, lt, ne)))
      ])

module _ (g : Board) (regions : List Region) (are : AreRegionsOfPlay g regions) where
  pub less_budgets : (bs cs : List ℕ) → AreLess bs cs → AreAtMost regions (budget_in regions bs) (budget_in regions cs)
  less_budgets bs cs less = by_place g regions are (λ r. budget_in regions bs r ≤ budget_in regions cs r)
      (λ k lt. rw (budget_there g regions are bs k lt, budget_there g regions are cs k lt) (less k))

  -- what serves at the side's turn, where it has something
  pub now_serves : (s : Whole) (kept : Option (List ℕ)) (bs : List ℕ) → Serves regions s.side s kept → HasAtTurn regions s kept (Some bs)
      → Serves regions s.side s (Some bs)
  now_serves s (Some cs) bs serves is = subst (Serves regions s.side s) (sym is) serves
  now_serves s None bs serves (n, least, is) = subst (λ z. Serves regions s.side s (Some z)) (sym is) (
    length-replicate (length regions) n,
    greater_win regions s.side s (λ r. n) (budget_in regions (replicate (length regions) n))
        (by_place g regions are (λ r. n ≤ budget_in regions (replicate (length regions) n) r)
        (λ k lt. omega (arith, budget_there g regions are (replicate (length regions) n) k lt, get_or-replicate (length regions) k n 0 lt)))
        least.wins,
  )

-- a side that has nothing at its turn doesn't win
pub has_nothing : (regions : List Region) (s : Whole) (kept : Option (List ℕ)) → HasAtTurn regions s kept None → ¬ IsWinner s s.side
has_nothing regions s None none = none
has_nothing regions s (Some bs) e = cc
