-- Where the engine wins with budgets it has a move.
use Rattle.std.proofs.Common.{ℕ, zero, suc, ◌≡◌, ◌<◌, ◌≤◌, ◌⊎◌, inl, inr, refl, sym, ap, ◌∙◌, subst, arith, List, length, get_or, set, Option, Some, Contains}
use Rattle.std.proofs.lemmas.Bool.{cases_eq, cases_lt}
use Rattle.std.proofs.lemmas.List.{set-get_or}
use Rattle.go_grid.specs.Board.{Board, other}
use Rattle.go_grid.specs.Region.{Region}
use Rattle.go_grid.proofs.DecidedLemmas.{Decided, alike, both, either, some_below}
use Rattle.whole_rules.specs.declared.states.Move.{Move}
use Rattle.whole_rules.specs.declared.states.Move.TheVariants.{Stone, Spend, Half}
use Rattle.whole_rules.specs.WholeGame.{Whole, rank}
use Rattle.whole_rules.proofs.PlainLaws.{move_same, move_turn}
use Rattle.endgame_solver.specs.Regions.{region_at}
use Rattle.whole_budgets.specs.BudgetPlay.{IsBudgetAfter, IsReturningCapture}
use Rattle.whole_budgets.specs.EnginePlay.{AreListedAfter, AreReducedBelow, EngineMoves, IsFirstKeeping, KeepsWinning, WinsWithList, budget_in}
use Rattle.whole_budgets.proofs.BudgetListLemmas.{budget_there, by_place, list_of, listed_after, same_wins}
use Rattle.whole_budgets.proofs.BudgetPartsLemmas.{payable}
use Rattle.whole_budgets.proofs.BudgetPlayLemmas.{other_not, other_twice, returning_or_not}
use Rattle.whole_budgets.proofs.DecidedPlayLemmas.{least_of, move_or_not}
use Rattle.whole_budgets.specs.EngineLaws.{IsReached}
use Rattle.whole_budgets.proofs.OneMoveLemmas.{one_listed}
use Rattle.whole_budgets.proofs.ReachedLemmas.{budgets_or_not, reached_on}
use Rattle.whole_budgets.proofs.ReducedLemmas.{reduced_wins}

-- whether some move of the rank has a property
ranked_or_not : (Q : Move → Type 0) → ((m : Move) → Decided (Q m)) → (k : ℕ) → Decided ((m : Move) × (rank m ≡ k) × Q m)
ranked_or_not Q told k = alike _ _ to from
    (either _ _ (told (Stone k)) (either _ _ (both _ _ (cases_eq (rank Spend) k) (told Spend)) (both _ _ (cases_eq (rank Half) k) (told Half))))
  where
    to : Q (Stone k) ⊎ (((rank Spend ≡ k) × Q Spend) ⊎ ((rank Half ≡ k) × Q Half)) → (m : Move) × (rank m ≡ k) × Q m
    to (inl q) = (Stone k, refl, q)
    to (inr (inl (e, q))) = (Spend, e, q)
    to (inr (inr (e, q))) = (Half, e, q)

    from : (m : Move) × (rank m ≡ k) × Q m → Q (Stone k) ⊎ (((rank Spend ≡ k) × Q Spend) ⊎ ((rank Half ≡ k) × Q Half))
    from (Stone p, e, q) = inl (subst (λ z. Q (Stone z)) e q)
    from (Spend, e, q) = inr (inl (e, q))
    from (Half, e, q) = inr (inr (e, q))

module _ {g : Board} {regions : List Region} {s : Whole} (reached : IsReached g regions s) where
  abbrev Wins : List ℕ → Type 0
  Wins bs = WinsWithList regions s.side s bs

  -- budgets that win can be reduced
  pub can_reduce : (k : ℕ) (bs : List ℕ) → Wins bs → (cs : List ℕ) × AreReducedBelow regions s k bs cs
  can_reduce zero bs w = (bs, refl)
  can_reduce (suc k) bs w =
      let (ds, before) = can_reduce k bs w in
      let (n, le, wins, least) = least_of (λ j. Wins (set ds k j)) (λ j. budgets_or_not reached s.side (budget_in regions (set ds k j)))
      (get_or ds k 0) (subst Wins (sym (set-get_or ds k 0)) (reduced_wins regions s k bs ds before w)) in
      (set ds k n, (ds, n, before, record { wins = wins; least = least }, refl))

  -- a region in which the move is a capture that returns has no budget left
  abbrev IsSpent : Move → Whole → List ℕ → ℕ → Type 0
  IsSpent m t bs k = IsReturningCapture (region_at regions k) s m t × (get_or bs k 0 ≡ 0)

  paid_by_list : (m : Move) (t : Whole) (bs : List ℕ) → ¬ ((k : ℕ) × (k < length regions) × IsSpent m t bs k)
      → (cs : List ℕ) × AreListedAfter regions s m t bs cs
  paid_by_list m t bs none =
      let Uses : Region → Type 0 = λ r. (s.side ≡ s.side) × IsReturningCapture r s m t in
      let have : (r : Region) → Contains regions r → Uses r → 1 ≤ budget_in regions bs r =
      by_place g regions reached.cut (λ r. Uses r → 1 ≤ budget_in regions bs r) (λ k lt (own, returning). elim (cases_eq (get_or bs k 0) 0) [
        | inl spent ↦ absurd (none (k, lt, (returning, spent)))
        | inr some ↦ omega (arith, some, budget_there g regions reached.cut bs k lt)
      ]) in
      let (c, pays) = payable regions s.side s t m (budget_in regions bs) have in
      let (cs, long, same) = list_of g regions reached.cut c in
      elim pays [
        | inr (f, kept) ↦ absurd (f refl)
        | inl (own, after) ↦ (
          cs,
          (listed_after g regions reached.cut s t m bs cs long).1
              (λ r i. subst (IsBudgetAfter r s m t (budget_in regions bs r)) (sym (same r i)) (after r i)),
        )
      ]

  -- whether the listed budgets pay for the move
  listed_or_not : (m : Move) (t : Whole) (bs : List ℕ) → Decided ((cs : List ℕ) × AreListedAfter regions s m t bs cs)
  listed_or_not m t bs =
      let spent_or_not = λ (k : ℕ). both _ _ (returning_or_not (region_at regions k) s t m) (cases_eq (get_or bs k 0) 0) in
      elim (some_below (length regions) (IsSpent m t bs) spent_or_not) [
        | inl (k, lt, (returning, none)) ↦ inr (λ (cs, listed). elim (listed.each k lt) as (λ _. ⊥) [
          | inl (u, e) ↦ omega (arith, e, none)
          | inr (f, e) ↦ f returning
        ])
        | inr none ↦ inl (paid_by_list m t bs none)
      ]

  abbrev Keeps : List ℕ → Move → Type 0
  Keeps bs m = (t : Whole) × (cs : List ℕ) × KeepsWinning regions s bs m t cs

  -- whether the engine wins behind the move
  keeping_or_not : (bs : List ℕ) (m : Move) → Decided (Keeps bs m)
  keeping_or_not bs m = elim (move_or_not (λ t. Unit {0}) (λ t. inl tt) s m) [
    | inr none ↦ inr (λ (t, cs, keeps). none (t, keeps.moved, tt))
    | inl (t, move, _) ↦ elim (listed_or_not m t bs) [
      | inr none ↦ inr (λ (u, cs, keeps). none (cs, subst (λ z. AreListedAfter regions s m z bs cs) (move_same s u t m keeps.moved move) keeps.paid))
      | inl (cs, listed) ↦ elim (budgets_or_not (reached_on reached t m move) s.side (budget_in regions cs)) [
        | inl wins ↦ inl (t, cs, record { moved = move; paid = listed; wins = wins })
        | inr not ↦ inr (λ (u, ds, keeps).
            let state = move_same s u t m keeps.moved move in
            let same = one_listed regions s m t bs ds cs (subst (λ z. AreListedAfter regions s m z bs ds) state keeps.paid) listed in
            not (subst (WinsWithList regions s.side t) same (subst (λ z. WinsWithList regions s.side z ds) state keeps.wins)))
      ]
    ]
  ]

  -- where it wins it does so behind some move
  pub some_keeps : (bs : List ℕ) → Wins bs → (m : Move) × Keeps bs m
  some_keeps bs (inr (e, l)) = absurd (other_not s.side e)
  some_keeps bs (inl (e, (zero, w))) = absurd w
  some_keeps bs (inl (e, (suc n, (q, (m, move, inr (f, same)), l)))) = absurd (f refl)
  some_keeps bs (inl (e, (suc n, (q, (m, move, inl (own, after)), l)))) =
      let (cs, long, same) = list_of g regions reached.cut q.budgets in
      let paid = (listed_after g regions reached.cut s q.state m bs cs long).1
      (λ r i. subst (IsBudgetAfter r s m q.state (budget_in regions bs r)) (sym (same r i)) (after r i)) in
      let turn : s.side ≡ other q.state.side = sym (ap other (move_turn s q.state m move) ∙ other_twice s.side) in
      let wins = same_wins regions s.side q.state q.budgets (budget_in regions cs) (λ r i. sym (same r i)) (inr (turn, (n, l))) in
      (m, (q.state, cs, record { moved = move; paid = paid; wins = wins }))

  -- and so behind a first one
  first_keeps : (bs : List ℕ) → Wins bs → (m : Move) × ((t : Whole) × (cs : List ℕ) × IsFirstKeeping regions s bs m t cs)
  first_keeps bs w =
      let (some, keeping) = some_keeps bs w in
      let (n, le, (m, is, (t, cs, keeps)), least) = least_of (λ k. (m : Move) × (rank m ≡ k) × Keeps bs m)
      (ranked_or_not (Keeps bs) (keeping_or_not bs)) (rank some) (some, refl, keeping) in
      let first : (k : Move) (u : Whole) (es : List ℕ) → KeepsWinning regions s bs k u es → rank m ≤ rank k = λ k u es keeps'.
      elim (cases_lt (rank k) (rank m)) [
        | inl lt ↦ absurd (least (rank k) (omega (arith, lt, is)) (k, refl, (u, es, keeps')))
        | inr ge ↦ ge
      ] in
      (m, (t, cs, record { keeps = keeps; first = first }))

  pub has_move : (bs : List ℕ) → Wins bs → (m : Move) × (t : Whole) × (left : Option (List ℕ)) × EngineMoves regions s (Some bs) m t left
  has_move bs w =
      let (cs, reduced) = can_reduce (length regions) bs w in
      let (m, (t, ds, first)) = first_keeps cs (reduced_wins regions s (length regions) bs cs reduced w) in
      (m, t, Some ds, (Some bs, refl, (cs, ds, reduced, first, refl)))
