-- Play with budgets beside plain recursion: the owner's moves are fewer, the other player's are the same.
use Rattle.std.proofs.Common.{◌≡◌, ◌≢◌, ℕ, zero, suc, ◌-◌, ◌≤◌, inl, inr, refl, sym, ap, ◌∙◌, arith, List, length, get_or, Contains}
use Rattle.std.proofs.lemmas.Bool.{cases_eq}
use Rattle.go_grid.specs.declared.grid.Colour.{Colour}
use Rattle.go_grid.specs.declared.grid.Colour.TheVariants as colour
use Rattle.go_grid.specs.Board.{other}
use Rattle.go_grid.specs.Region.{Region}
use Rattle.go_grid.proofs.DecidedLemmas.{Decided, alike, both, some_below}
use Rattle.whole_rules.specs.declared.states.Move.{Move}
use Rattle.whole_rules.specs.declared.states.Move.TheVariants.{Stone, Spend, Half}
use Rattle.whole_rules.specs.PlainRecursion.{WinsWithin, LosesWithin}
use Rattle.whole_rules.specs.WholeGame.{Whole, Leads, IsMove}
use Rattle.whole_rules.proofs.PlainLaws.{move_turn, one_winner}
use Rattle.local_trees.proofs.BudgetTreeLaws.{uses_or_not}
use Rattle.whole_rules.specs.FirstWinningMove.{IsWinner}
use Rattle.whole_budgets.specs.BudgetPlay.{Budgeted, WinsWithCaptures, position_on, IsReturningCapture, IsBudgetAfter, AreBudgetsAfter, AreAtMost, LeadsWithin}
use Rattle.whole_budgets.specs.BudgetPlayLaws.{BudgetsWinTheGame, GreaterBudgetsWin, SomeCapturesWin, OneWinsWithBudgets}

pub other_not : (c : Colour) → c ≡ other c → ⊥
other_not colour.Black e = cc
other_not colour.White e = cc

pub other_twice : (c : Colour) → other (other c) ≡ c
other_twice colour.Black = refl
other_twice colour.White = refl

-- whether a point is one of the region's
pub inside_or_not : (r : Region) (p : ℕ) → Decided (Contains r.points p)
inside_or_not r p = some_below (length r.points) (λ k. get_or r.points k p ≡ p) (λ k. cases_eq (get_or r.points k p) p)

-- whether a move is a capture in the region that returns
pub returning_or_not : (r : Region) (s t : Whole) (m : Move) → Decided (IsReturningCapture r s m t)
returning_or_not r s t (Stone p) = alike _ _ (λ (inside, (own, takes, returns)). (inside, takes, returns)) (λ (inside, takes, returns). (inside, (refl, takes, returns)))
    (both _ _ (inside_or_not r p)
    (uses_or_not r.touch colour.Black colour.Black (position_on r s.board) (position_on r t.board)))
returning_or_not r s t Spend = inr (λ u. u)
returning_or_not r s t Half = inr (λ u. u)

-- what is left of a budget after a move
abbrev pub left_of : {P : Type 0} → Decided P → ℕ → ℕ
left_of (inl u) b = b - 1
left_of (inr u) b = b

-- a budget pays for a move if there is one left
pays : (r : Region) (s t : Whole) (m : Move) (n b : ℕ) → suc n ≤ b → (d : Decided (IsReturningCapture r s m t)) → IsBudgetAfter r s m t b (left_of d b) × (n ≤ left_of d b)
pays r s t m n b a (inl u) = (inl (u, omega (arith, a)), omega (arith, a))
pays r s t m n b a (inr u) = (inr (u, refl), omega (arith, a))

-- a greater budget pays for what a smaller one pays for, and stays no less
pays_more : (r : Region) (s t : Whole) (m : Move) (b c d : ℕ) → b ≤ d → IsBudgetAfter r s m t b c → IsBudgetAfter r s m t d (d - (b - c)) × (c ≤ d - (b - c))
pays_more r s t m b c d a (inl (u, e)) = (inl (u, omega (arith, a, e)), omega (arith, a, e))
pays_more r s t m b c d a (inr (u, e)) = (inr (u, omega (arith, a, e)), omega (arith, a, e))

-- a state with budgets
abbrev pub with : Whole → (Region → ℕ) → Budgeted
with s b = record { state = s; budgets = b }

module _ (regions : List Region) (owner : Colour) where
  abbrev Step : Budgeted → Budgeted → Type 0
  Step = LeadsWithin regions owner

  -- after a move of the owner's the other player is to move, and after one of the other's the owner
  pub theirs : (s t : Whole) (m : Move) → s.side ≡ owner → IsMove s m t → t.side ≡ other owner
  theirs s t m e h = move_turn s t m h ∙ ap other e

  pub mine : (s t : Whole) (m : Move) → s.side ≡ other owner → IsMove s m t → t.side ≡ owner
  mine s t m e h = move_turn s t m h ∙ ap other e ∙ other_twice owner

  pub not_mine : (s : Whole) → s.side ≡ other owner → s.side ≢ owner
  not_mine s e o = other_not owner (sym o ∙ e)

  -- each move of the other player's is one with the budgets as they are
  pub free : (s t : Whole) (b : Region → ℕ) → s.side ≡ other owner → Leads s t → Step (with s b) (with t b)
  free s t b e h = (h.0, h.1, inr (not_mine s e, λ r i. refl))

  mutual
    whole_wins : (n : ℕ) (p : Budgeted) → p.state.side ≡ owner → WinsWithin Budgeted Step n p → WinsWithin Whole Leads n p.state
    whole_wins zero p e w = absurd w
    whole_wins (suc n) p e w = (w.0.state, (w.1.0, w.1.1), whole_loses n w.0 (theirs p.state w.0.state w.1.0 e w.1.1) w.2)

    whole_loses : (n : ℕ) (p : Budgeted) → p.state.side ≡ other owner → LosesWithin Budgeted Step n p → LosesWithin Whole Leads n p.state
    whole_loses zero p e l = λ t h. l (with t p.budgets) (free p.state t p.budgets e h)
    whole_loses (suc n) p e l = λ t h. whole_wins n (with t p.budgets) (mine p.state t h.0 e h.1) (l (with t p.budgets) (free p.state t p.budgets e h))

  -- greater budgets pay for what smaller ones pay for, and stay no less
  pub paid_more : (s t : Whole) (m : Move) (b c d : Region → ℕ) → AreAtMost regions b d → AreBudgetsAfter regions s m t b c
      → (e : Region → ℕ) × AreBudgetsAfter regions s m t d e × AreAtMost regions c e
  paid_more s t m b c d a after =
      let e : Region → ℕ = λ r. d r - (b r - c r) in
      let paid : (r : Region) → Contains regions r → IsBudgetAfter r s m t (d r) (e r) × (c r ≤ e r) =
      λ r i. pays_more r s t m (b r) (c r) (d r) (a r i) (after r i) in
      (e, λ r i. (paid r i).0, λ r i. (paid r i).1)

  mutual
    greater_wins : (n : ℕ) (s : Whole) (b d : Region → ℕ) → s.side ≡ owner → AreAtMost regions b d
        → WinsWithin Budgeted Step n (with s b) → WinsWithin Budgeted Step n (with s d)
    greater_wins zero s b d e a w = absurd w
    greater_wins (suc n) s b d e a (q, (m, h, inr (f, same)), l) = absurd (f e)
    greater_wins (suc n) s b d e a (q, (m, h, inl (own, after)), l) =
        let (c, paid, more) = paid_more s q.state m b q.budgets d a after in
        (with q.state c, (m, h, inl (e, paid)), greater_loses n q.state q.budgets c (theirs s q.state m e h) more l)

    greater_loses : (n : ℕ) (s : Whole) (b d : Region → ℕ) → s.side ≡ other owner → AreAtMost regions b d
        → LosesWithin Budgeted Step n (with s b) → LosesWithin Budgeted Step n (with s d)
    greater_loses zero s b d e a l = λ q h. l (with q.state b) (free s q.state b e (h.0, h.1))
    greater_loses (suc n) s b d e a l = λ q h. elim h.2 [
      | inl own ↦ absurd (not_mine s e own.0)
      | inr same ↦ greater_wins n q.state b q.budgets (mine s q.state h.0 e h.1) (λ r i. omega (arith, a r i, same.1 r i))
          (l (with q.state b) (free s q.state b e (h.0, h.1)))
    ]

  -- with at least n for each region, who wins within n moves wins
  abbrev HaveEach : ℕ → (Region → ℕ) → Type 0
  HaveEach n b = (r : Region) → Contains regions r → n ≤ b r

  mutual
    enough_wins : (n : ℕ) (s : Whole) (b : Region → ℕ) → s.side ≡ owner → HaveEach n b
        → WinsWithin Whole Leads n s → WinsWithin Budgeted Step n (with s b)
    enough_wins zero s b e a w = absurd w
    enough_wins (suc n) s b e a (t, (m, h), l) =
        let c : Region → ℕ = λ r. left_of (returning_or_not r s t m) (b r) in
        let paid : (r : Region) → Contains regions r → IsBudgetAfter r s m t (b r) (c r) × (n ≤ c r) =
        λ r i. pays r s t m n (b r) (a r i) (returning_or_not r s t m) in
        (with t c, (m, h, inl (e, λ r i. (paid r i).0)), enough_loses n t c (theirs s t m e h) (λ r i. (paid r i).1) l)

    enough_loses : (n : ℕ) (s : Whole) (b : Region → ℕ) → s.side ≡ other owner → HaveEach n b
        → LosesWithin Whole Leads n s → LosesWithin Budgeted Step n (with s b)
    enough_loses zero s b e a l = λ q h. l q.state (h.0, h.1)
    enough_loses (suc n) s b e a l = λ q h. elim h.2 [
      | inl own ↦ absurd (not_mine s e own.0)
      | inr same ↦ enough_wins n q.state q.budgets (mine s q.state h.0 e h.1) (λ r i. omega (arith, a r i, same.1 r i)) (l q.state (h.0, h.1))
    ]

-- who is the other player's other
pub turned : (c : Colour) (s : Whole) → c ≡ other s.side → s.side ≡ other c
turned c s e = sym (ap other e ∙ other_twice s.side)

pub budgets_win : BudgetsWinTheGame
budgets_win regions c s b (inl (e, (n, w))) = inl (e, (n, whole_wins regions c n (with s b) (sym e) w))
budgets_win regions c s b (inr (e, (n, l))) = inr (e, (n, whole_loses regions c n (with s b) (turned c s e) l))

pub greater_win : GreaterBudgetsWin
greater_win regions c s b d a (inl (e, (n, w))) = inl (e, (n, greater_wins regions c n s b d (sym e) a w))
greater_win regions c s b d a (inr (e, (n, l))) = inr (e, (n, greater_loses regions c n s b d (turned c s e) a l))

pub some_win : SomeCapturesWin
some_win regions c s = (with_some, λ w. budgets_win regions c s (λ r. w.0) w.1)
  where
    with_some : IsWinner s c → (j : ℕ) × WinsWithCaptures regions c s j
    with_some (inl (e, (n, w))) = (n, inl (e, (n, enough_wins regions c n s (λ r. n) (sym e) (λ r i. omega arith) w)))
    with_some (inr (e, (n, l))) = (n, inr (e, (n, enough_loses regions c n s (λ r. n) (turned c s e) (λ r i. omega arith) l)))

pub one_wins : OneWinsWithBudgets
one_wins regions c d s b e x y = one_winner s c d (budgets_win regions c s b x) (budgets_win regions d s e y)
