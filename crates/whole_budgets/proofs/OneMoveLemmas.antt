-- The engine has one move, and keeps one thing.
use Rattle.std.proofs.Common.{ℕ, zero, suc, ◌≡◌, ◌<◌, ◌≤◌, inl, inr, refl, sym, ap, ◌∙◌, subst, arith, List, length, replicate, set, Option, Some, None}
use Rattle.std.proofs.lemmas.Bool.{cases_eq, cases_lt}
use Rattle.std.proofs.lemmas.List.{ext_get_or}
use Rattle.go_grid.specs.Region.{Region}
use Rattle.whole_rules.specs.declared.states.Move.{Move}
use Rattle.whole_rules.specs.declared.states.Move.TheVariants.{Stone, Spend, Half}
use Rattle.whole_rules.specs.WholeGame.{Whole, IsLegal, IsMove, rank}
use Rattle.whole_rules.proofs.MoveLaws.{half_only, spend_only, stone_only}
use Rattle.whole_rules.proofs.PlainLaws.{move_same}
use Rattle.endgame_solver.specs.Regions.{region_at}
use Rattle.whole_budgets.specs.BudgetPlay.{IsBudgetAfter, WinsWithCaptures}
use Rattle.whole_budgets.specs.EnginePlay.{AreListedAfter, AreReducedBelow, ChoosesUnwon, EngineMoves, HasAtTurn, IsFirstKeeping, IsLeastAt, MovesWith, WinsWithList}
use Rattle.whole_budgets.proofs.BudgetPlayLemmas.{budgets_win}
use Rattle.whole_budgets.specs.EngineLaws.{HasOneMove}
use Rattle.whole_budgets.proofs.ReachedLemmas.{board_long}

-- a least number is one
one_least : (P : ℕ → Type 0) (m n : ℕ) → P m → ((j : ℕ) → j < m → ¬ P j) → P n → ((j : ℕ) → j < n → ¬ P j) → m ≡ n
one_least P m n p below q under = elim (cases_lt m n) as (λ _. m ≡ n) [
  | inl lt ↦ absurd (under m lt p)
  | inr ge ↦ elim (cases_eq m n) as (λ _. m ≡ n) [
    | inl e ↦ e
    | inr ne ↦ absurd (below n (omega (arith, ge, ne)) q)
  ]
]

-- legal moves of one rank are the same
pub same_rank : (s : Whole) (m k : Move) → length s.board.cells ≤ 625 → IsLegal s m → IsLegal s k → rank m ≡ rank k → m ≡ k
same_rank s (Stone p) k le a b e = stone_only p k (omega (arith, le, a.1.1.1.1.1.place)) (sym e)
same_rank s Spend k le a b e = spend_only s k le (sym e) b
same_rank s Half k le a b e = half_only s k le (sym e) b

one_budget : (r : Region) (s t : Whole) (m : Move) (b c d : ℕ) → IsBudgetAfter r s m t b c → IsBudgetAfter r s m t b d → c ≡ d
one_budget r s t m b c d (inl (u, e)) (inl (v, f)) = omega (arith, e, f)
one_budget r s t m b c d (inl (u, e)) (inr (g, f)) = absurd (g u)
one_budget r s t m b c d (inr (g, e)) (inl (v, f)) = absurd (g v)
one_budget r s t m b c d (inr (g, e)) (inr (h, f)) = sym e ∙ f

module _ (regions : List Region) (s : Whole) where
  pub one_listed : (m : Move) (t : Whole) (bs cs ds : List ℕ) → AreListedAfter regions s m t bs cs → AreListedAfter regions s m t bs ds → cs ≡ ds
  one_listed m t bs cs ds a b = ext_get_or 0 cs ds (a.many ∙ sym b.many) (λ k lt.
      let short : k < length regions = omega (arith, lt, a.many) in
      one_budget (region_at regions k) s t m _ _ _ (a.each k short) (b.each k short))

  pub one_reduced : (k : ℕ) (bs cs ds : List ℕ) → AreReducedBelow regions s k bs cs → AreReducedBelow regions s k bs ds → cs ≡ ds
  one_reduced zero bs cs ds e f = e ∙ sym f
  one_reduced (suc k) bs cs ds (xs, m, before, least, e) (ys, n, earlier, under, f) =
      let same = one_reduced k bs xs ys before earlier in
      let least' = subst (λ z. IsLeastAt regions s z k m) same least in
      let number = one_least (λ j. WinsWithList regions s.side s (set ys k j)) m n least'.wins least'.least under.wins under.least in
      e ∙ (λ i. set (same i) k (number i)) ∙ sym f

  -- what the side has at its turn is one
  pub one_now : (kept now then : Option (List ℕ)) → HasAtTurn regions s kept now → HasAtTurn regions s kept then → now ≡ then
  one_now (Some bs) now then e f = e ∙ sym f
  one_now None None None e f = refl
  one_now None None (Some cs) none (n, least, is) = absurd (none (budgets_win regions s.side s (λ r. n) least.wins))
  one_now None (Some bs) None (n, least, is) none = absurd (none (budgets_win regions s.side s (λ r. n) least.wins))
  one_now None (Some bs) (Some cs) (m, a, e) (n, b, f) =
      let number = one_least (WinsWithCaptures regions s.side s) m n a.wins a.least b.wins b.least in
      ap Some (e ∙ ap (replicate (length regions)) number ∙ sym f)

  module _ (few : length s.board.cells ≤ 625) where
    one_keeping : (bs cs ds : List ℕ) (l m : Move) (t u : Whole) → IsFirstKeeping regions s bs l t cs → IsFirstKeeping regions s bs m u ds
        → (l ≡ m) × (t ≡ u) × (cs ≡ ds)
    one_keeping bs cs ds l m t u a b =
        let same = same_rank s l m few (t, a.keeps.moved) (u, b.keeps.moved) (omega (arith, a.first m u ds b.keeps, b.first l t cs a.keeps)) in
        let state = move_same s t u l a.keeps.moved (subst (λ z. IsMove s z u) (sym same) b.keeps.moved) in
        let paid = subst (λ z. AreListedAfter regions s z u bs ds) (sym same) b.keeps.paid in
        (same, state, one_listed l t bs cs ds a.keeps.paid (subst (λ z. AreListedAfter regions s l z bs ds) (sym state) paid))

    one_unwon : (l m : Move) → ChoosesUnwon s l → ChoosesUnwon s m → l ≡ m
    one_unwon l m (inl (a, first)) (inl (b, early)) = same_rank s l m few (a.0, a.1) (b.0, b.1) (omega (arith, first m b, early l a))
    one_unwon l m (inl (a, first)) (inr (none, b)) = absurd (none l a)
    one_unwon l m (inr (none, a)) (inl (b, early)) = absurd (none m b)
    one_unwon l m (inr (none, a)) (inr (nor, b)) = same_rank s l m few a.0 b.0 (omega (arith, a.1 m b.0, b.1 l a.0))

    one_with : (now left then : Option (List ℕ)) (l m : Move) (t u : Whole) → MovesWith regions s now l t left → MovesWith regions s now m u then
        → (l ≡ m) × (t ≡ u) × (left ≡ then)
    one_with None left then l m t u (choice, move, e) (other_choice, other_move, f) =
        let same = one_unwon l m choice other_choice in
        (same, move_same s t u l move (subst (λ z. IsMove s z u) (sym same) other_move), e ∙ sym f)
    one_with (Some bs) left then l m t u (cs, ds, reduced, first, e) (xs, ys, lessened, early, f) =
        let lists = one_reduced (length regions) bs cs xs reduced lessened in
        let (same, state, kept) = one_keeping cs ds ys l m t u first (subst (λ z. IsFirstKeeping regions s z m u ys) (sym lists) early) in
        (same, state, e ∙ ap Some kept ∙ sym f)

    pub one_engine_move : (kept left then : Option (List ℕ)) (l m : Move) (t u : Whole) → EngineMoves regions s kept l t left → EngineMoves regions s kept m u then
        → (l ≡ m) × (t ≡ u) × (left ≡ then)
    one_engine_move kept left then l m t u (now, has, moves) (now', has', moves') =
        let same = one_now kept now' now has' has in
        one_with now left then l m t u moves (subst (λ z. MovesWith regions s z m u then) same moves')

pub has_one_move : HasOneMove
has_one_move g regions t u v l m kept left then small reached a b =
    one_engine_move regions t (subst (λ n. n ≤ 625) (sym (board_long reached)) small) kept left then l m u v a b
