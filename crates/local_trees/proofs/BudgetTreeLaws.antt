-- Trees of positions with budgets: each position has one, play within a budget is short, and what is steady stays.
use Rattle.std.proofs.Common.{ℕ, zero, suc, ◌+◌, ◌*◌, ◌^◌, ◌≡◌, ◌<◌, ◌≤◌, ◌⊎◌, ◌↔◌, inl, inr, refl, sym, ap, subst, arith, List, [], ◌∷◌, ◌++◌, length, Contains, count_by, ◌-◌, mul-le-mul_right}
use Rattle.std.proofs.lemmas.Bool.{cases_lt}
use Rattle.go_grid.specs.declared.grid.Cell.{Cell}
use Rattle.go_grid.specs.declared.grid.Colour.{Colour}
use Rattle.go_grid.specs.declared.grid.Colour.TheVariants.{Black, White}
use Rattle.go_grid.specs.declared.region.Touch.{Touch}
use Rattle.go_grid.proofs.DecidedLemmas.{Decided, alike, both}
use Rattle.local_play.specs.LocalPlay.{IsLocalMove, is_stone}
use Rattle.local_graph.specs.declared.cycle.CycleMove.{CycleMove}
use Rattle.local_graph.specs.FiniteLocalPlay.{HasNoCycle}
use Rattle.local_graph.specs.LocalGraph.{Plays, IsReachable}
use Rattle.local_graph.specs.Returns.{IsCapture, HasReturningCaptures}
use Rattle.local_graph.proofs.FiniteLemmas.{cycle_of}
use Rattle.local_graph.proofs.PlayLemmas.{plays_long, plays_more, one_after}
use Rattle.local_graph.proofs.ReturnLaws.{short_between_captures}
use Rattle.short_games.specs.Tree.{Tree}
use Rattle.short_games.specs.Order.{◌≡ᵍ◌}
use Rattle.short_games.proofs.OrderLaws.{same-path, same-sym, same-trans}
use Rattle.local_trees.specs.LocalGame.{Step}
use Rattle.local_trees.specs.PositionTree.{PlaysAreShort, IsPlay, IsStep, IsTreeOf}
use Rattle.local_trees.specs.BudgetTree.{Budgeted, UsesBudget, IsBudgetAfter, IsBudgetStep, IsBudgetTreeWithin}
use Rattle.local_trees.specs.Steady.{AreBudgetsAlike, IsSteady}
use Rattle.local_trees.specs.BudgetLaws.{BudgetTreesExist, OneBudgetTree, BudgetDepthIsEnough, SteadyStays, BudgetsNeedCycles}
use Rattle.local_trees.proofs.MoveLaws.{contains-cases, contains-tail, steps, step_in, step_out}
use Rattle.local_trees.proofs.PositionLemmas.{all_cells, all_long, in_all, reachable_or_not}
use Rattle.local_trees.proofs.TreeLaws.{Moves, trees-match, trees-same, depths-agree, step-short, no-move, listed_tree, short_plays, trees-exist}

-- a position with a budget
abbrev pub with_budget : ℕ → List Cell → Budgeted
with_budget j cells = record { cells = cells; budget = j }

-- so many moves are enough
abbrev pub enough : List Cell → ℕ → ℕ
enough cells j = (j + 1) * 3 ^ length cells

pub colour_or_not : (c d : Colour) → Decided (c ≡ d)
colour_or_not Black Black = inl refl
colour_or_not White White = inl refl
colour_or_not Black White = inr (λ e. cc)
colour_or_not White Black = inr (λ e. cc)

module _ (touch : List Touch) (owner : Colour) where
  abbrev BudgetMove : Colour → Budgeted → Step Budgeted → Type 0
  BudgetMove = IsBudgetStep touch owner

  -- whether a move uses up budget
  pub uses_or_not : (c : Colour) (from to : List Cell) → Decided (UsesBudget touch owner c from to)
  uses_or_not c from to = alike _ _ (λ (own, (takes, returns)). (own, takes, returns)) (λ (own, takes, returns). (own, (takes, returns)))
      (both _ _ (colour_or_not c owner) (both _ _ capture (reachable_or_not touch to from)))
    where
      capture : Decided (IsCapture from to)
      capture = elim (cases_lt (count_by is_stone to) (count_by is_stone from + 1)) [
        | inl lt ↦ inl ((count_by is_stone from + 1) - count_by is_stone to, omega (arith, lt), omega (arith, lt))
        | inr le ↦ inr (λ (k, some, number). omega (arith, le, some, number))
      ]

  -- the step without the budget after it
  abbrev plain : Step Budgeted → Step (List Cell)
  plain z = record { to = z.to.cells; taken = z.taken }

  module _ (c : Colour) (from : List Cell) (j : ℕ) where
    abbrev After : Budgeted → Type 0
    After q = IsBudgetAfter touch owner c (with_budget j from) q

    abbrev Uses : Step (List Cell) → Type 0
    Uses x = UsesBudget touch owner c from x.to

  abbrev step_to : ℕ → Step (List Cell) → Step Budgeted
  step_to j x = record { to = with_budget j x.to; taken = x.taken }

  -- the step with the budget after it in front, where the budget allows it
  with_step : (x : Step (List Cell)) → ℕ → {Used : Type 0} → Decided Used → List (Step Budgeted) → List (Step Budgeted)
  with_step x j (inr f) rest = step_to j x ∷ rest
  with_step x zero (inl u) rest = rest
  with_step x (suc j) (inl u) rest = step_to j x ∷ rest

  with_step-out : (c : Colour) (from : List Cell) (j : ℕ) (x : Step (List Cell)) (d : Decided (Uses c from j x)) (rest : List (Step Budgeted)) (z : Step Budgeted)
      → Contains (with_step x j d rest) z → ((x ≡ plain z) × After c from j z.to) ⊎ Contains rest z
  unfolding with_step
  with_step-out c from j x (inr f) rest z h = elim (contains-cases (Step Budgeted) (step_to j x) z rest h) [
    | inl e ↦ inl (ap plain e, subst (λ y. After c from j y.to) e (inr (f, refl)))
    | inr k ↦ inr k
  ]
  with_step-out c from zero x (inl u) rest z h = inr h
  with_step-out c from (suc j) x (inl u) rest z h = elim (contains-cases (Step Budgeted) (step_to j x) z rest h) [
    | inl e ↦ inl (ap plain e, subst (λ y. After c from (suc j) y.to) e (inl (u, omega arith)))
    | inr k ↦ inr k
  ]

  with_step-later : (c : Colour) (from : List Cell) (j : ℕ) (x : Step (List Cell)) (d : Decided (Uses c from j x)) (rest : List (Step Budgeted)) (z : Step Budgeted)
      → Contains rest z → Contains (with_step x j d rest) z
  unfolding with_step
  with_step-later c from j x (inr f) rest z h = contains-tail (Step Budgeted) _ z rest h
  with_step-later c from zero x (inl u) rest z h = h
  with_step-later c from (suc j) x (inl u) rest z h = contains-tail (Step Budgeted) _ z rest h

  with_step-first : (c : Colour) (from : List Cell) (j : ℕ) (x : Step (List Cell)) (d : Decided (Uses c from j x)) (rest : List (Step Budgeted)) (z : Step Budgeted)
      → x ≡ plain z → After c from j z.to → Contains (with_step x j d rest) z
  unfolding with_step
  with_step-first c from j x (inr f) rest z e (inl (u, b)) = absurd (f (subst (Uses c from j) (sym e) u))
  with_step-first c from j x (inr f) rest z e (inr (g, b)) = (0, omega arith, λ i. record { to = record { cells = (e i).to; budget = b i }; taken = (e i).taken })
  with_step-first c from zero x (inl u) rest z e (inl (v, b)) = absurd (omega (arith, b))
  with_step-first c from (suc j) x (inl u) rest z e (inl (v, b)) =
      let same : j ≡ z.to.budget = omega (arith, b) in
      (0, omega arith, λ i. record { to = record { cells = (e i).to; budget = same i }; taken = (e i).taken })
  with_step-first c from j x (inl u) rest z e (inr (g, b)) = absurd (g (subst (Uses c from j) e u))

  -- the steps that the budget allows, each with the budget after it
  with_steps : Colour → List Cell → ℕ → List (Step (List Cell)) → List (Step Budgeted)
  with_steps c from j [] = []
  with_steps c from j (x ∷ xs) = with_step x j (uses_or_not c from x.to) (with_steps c from j xs)

  with_steps-out : (c : Colour) (from : List Cell) (j : ℕ) (xs : List (Step (List Cell))) (z : Step Budgeted)
      → Contains (with_steps c from j xs) z → Contains xs (plain z) × After c from j z.to
  unfolding with_steps
  with_steps-out c from j [] z h = absurd (omega (arith, h.1))
  with_steps-out c from j (x ∷ xs) z h = elim (with_step-out c from j x (uses_or_not c from x.to) (with_steps c from j xs) z h) [
    | inl (e, a) ↦ ((0, omega arith, e), a)
    | inr k ↦ let (among, a) = with_steps-out c from j xs z k in (contains-tail (Step (List Cell)) x (plain z) xs among, a)
  ]

  with_steps-in : (c : Colour) (from : List Cell) (j : ℕ) (xs : List (Step (List Cell))) (z : Step Budgeted)
      → Contains xs (plain z) → After c from j z.to → Contains (with_steps c from j xs) z
  unfolding with_steps
  with_steps-in c from j [] z h a = absurd (omega (arith, h.1))
  with_steps-in c from j (x ∷ xs) z h a = elim (contains-cases (Step (List Cell)) x (plain z) xs h) [
    | inl e ↦ with_step-first c from j x (uses_or_not c from x.to) (with_steps c from j xs) z e a
    | inr k ↦ with_step-later c from j x (uses_or_not c from x.to) (with_steps c from j xs) z (with_steps-in c from j xs z k a)
  ]

  pub budget_moves : Colour → Budgeted → List (Step Budgeted)
  budget_moves c p = with_steps c p.cells p.budget (steps touch p.cells c (List Cell) (λ y. y))

  pub are_listed : (c : Colour) (p : Budgeted) (z : Step Budgeted) → Contains (budget_moves c p) z ↔ BudgetMove c p z
  unfolding budget_moves
  are_listed c p z = (
    λ h.
        (let (among, a) = with_steps-out c p.cells p.budget (steps touch p.cells c (List Cell) (λ y. y)) z h in
        let (y, move, to, taken) = step_out touch p.cells c (List Cell) (λ y. y) (plain z) among in
        (subst (IsStep touch c p.cells) (λ i. record { to = to i; taken = taken i }) move, a)),
    λ (move, a). with_steps-in c p.cells p.budget (steps touch p.cells c (List Cell) (λ y. y)) z (step_in touch p.cells c (List Cell) (λ y. y) (plain z) move) a,
  )

  -- each position has a tree with each budget
  pub budget_tree : (n j : ℕ) (cells : List Cell) → (G : Tree) × IsBudgetTreeWithin touch owner n j cells G
  budget_tree n j cells = (_, listed_tree Budgeted BudgetMove budget_moves are_listed n (with_budget j cells))

pub budget_trees-exist : BudgetTreesExist
budget_trees-exist touch owner n j cells = budget_tree touch owner n j cells

pub one_budget_tree : OneBudgetTree
one_budget_tree touch owner n j cells G H = trees-same Budgeted (IsBudgetStep touch owner) n (with_budget j cells) G H

-- Play within a budget is short.

module _ (touch : List Touch) (owner : Colour) where
  abbrev BudgetMoves : Budgeted → Budgeted → Type 0
  BudgetMoves = Moves Budgeted (IsBudgetStep touch owner)

  -- play as a list of moves, with no more captures that return than the budget
  record IsPlayed (p : Budgeted) (long : ℕ) : Type 0 where
    moves : List CycleMove
    end : List Cell
    plays : Plays touch p.cells moves end
    as_long : length moves ≡ long
    within : (n : ℕ) → HasReturningCaptures touch owner p.cells moves n → n ≤ p.budget

  played : (p : Budgeted) (qs : List Budgeted) → IsPlay Budgeted BudgetMoves p qs → IsPlayed p (length qs)
  played p [] w = record { moves = []; end = p.cells; plays = refl; as_long = refl; within = λ n e. omega (arith, e) }
  played p (q ∷ qs) ((c, (taken, ((place, move, number), after))), w) =
      let rest = played q qs w in
      let m : CycleMove = record { colour = c; place = place } in record {
        moves = m ∷ rest.moves;
        end = rest.end;
        plays = (q.cells, move, rest.plays);
        as_long = ap suc rest.as_long;
        within = λ n (next, move', count). counted next (one_after touch p.cells next q.cells c place move' move) n rest.moves rest.within count;
      }
    where
      counted : (next : List Cell) → next ≡ q.cells → (n : ℕ) (ms : List CycleMove)
          → ((n : ℕ) → HasReturningCaptures touch owner q.cells ms n → n ≤ q.budget)
          → (UsesBudget touch owner c p.cells next × ((k : ℕ) × (n ≡ k + 1) × HasReturningCaptures touch owner next ms k))
          ⊎ (¬ UsesBudget touch owner c p.cells next × HasReturningCaptures touch owner next ms n) → n ≤ p.budget
      counted next e n ms within (inl (u, (k, more, later))) = elim after [
        | inl (v, less) ↦ let few = within k (subst (λ z. HasReturningCaptures touch owner z ms k) e later) in omega (arith, few, less, more)
        | inr (f, same) ↦ absurd (f (subst (UsesBudget touch owner c p.cells) e u))
      ]
      counted next e n ms within (inr (f, later)) = elim after [
        | inl (v, less) ↦ absurd (f (subst (UsesBudget touch owner c p.cells) (sym e) v))
        | inr (g, same) ↦ let few = within n (subst (λ z. HasReturningCaptures touch owner z ms n) e later) in omega (arith, few, same)
      ]

  pub budget_short : (cells : List Cell) (j n : ℕ) → enough cells j ≤ n → PlaysAreShort Budgeted BudgetMoves n (with_budget j cells)
  budget_short cells j n deep qs w =
      let p = played (with_budget j cells) qs w in
      let less = short_between_captures touch cells (all_cells (length cells)) every cells p.end p.moves ([], refl) p.plays owner j p.within in
      let all : (j + 1) * length (all_cells (length cells)) ≡ (j + 1) * 3 ^ length cells = ap (λ k. (j + 1) * k) (all_long (length cells)) in
      omega (arith, less, all, deep, p.as_long)
    where
      every : (x : List Cell) → IsReachable touch cells x → Contains (all_cells (length cells)) x
      every x (ms, plays) = subst (λ k. Contains (all_cells k) x) (plays_long touch cells x ms plays) (in_all x)

  -- enough moves are as good as more
  pub budget_depths : (cells : List Cell) (j n m : ℕ) (G H : Tree) → enough cells j ≤ n → enough cells j ≤ m
      → IsBudgetTreeWithin touch owner n j cells G → IsBudgetTreeWithin touch owner m j cells H → G ≡ᵍ H
  budget_depths cells j n m G H deep deep' =
      depths-agree Budgeted (IsBudgetStep touch owner) n m (with_budget j cells) G H (budget_short cells j n deep) (budget_short cells j m deep')

pub budget_depth-is_enough : BudgetDepthIsEnough
budget_depth-is_enough touch owner n j cells G H deep = budget_depths touch owner cells j (enough cells j) n G H (omega arith) deep

-- What is steady stays.

-- reachable positions have as many places
same_long : (touch : List Touch) (opening cells : List Cell) → IsReachable touch opening cells → length cells ≡ length opening
same_long touch opening cells (ms, plays) = plays_long touch opening cells ms plays

-- a position after a step is reachable too
reach_on : (touch : List Touch) (opening from to : List Cell) (c : Colour) (p : ℕ) → IsReachable touch opening from → IsLocalMove touch from c p to
    → IsReachable touch opening to
reach_on touch opening from to c p (ms, plays) move =
    let m : CycleMove = record { colour = c; place = p } in
    (ms ++ m ∷ [], plays_more touch opening from to ms m plays move)

module _ (touch : List Touch) (opening : List Cell) (owner : Colour) where
  abbrev TreeFor : ℕ → ℕ → List Cell → Tree → Type 0
  TreeFor n j cells G = IsBudgetTreeWithin touch owner n j cells G

  -- so many moves are enough for the budget at each reachable position
  abbrev room : ℕ → ℕ
  room j = (j + 1) * 3 ^ length opening

  room_enough : (cells : List Cell) (j n : ℕ) → IsReachable touch opening cells → room j ≤ n → enough cells j ≤ n
  room_enough cells j n reach le = subst (λ k. (j + 1) * 3 ^ k ≤ n) (sym (same_long touch opening cells reach)) le

  -- budgets that are alike are so at each depth that is enough
  alike_deep : (j i n m : ℕ) (cells : List Cell) (G H : Tree) → AreBudgetsAlike touch opening owner j i → IsReachable touch opening cells
      → enough cells j ≤ n → enough cells i ≤ m → TreeFor n j cells G → TreeFor m i cells H → G ≡ᵍ H
  alike_deep j i n m cells G H alike reach deep deep' g h =
      let (A, a) = budget_tree touch owner (enough cells j) j cells in
      let (B, b) = budget_tree touch owner (enough cells i) i cells in
      same-trans _ _ _ (budget_depths touch owner cells j n (enough cells j) G A deep (omega arith) g a)
      (same-trans _ _ _ (alike cells reach A B a b) (budget_depths touch owner cells i (enough cells i) m B H (omega arith) deep' b h))

  module _ (j : ℕ) (steady : IsSteady touch opening owner j) where
    -- a step with the greater budget takes one with the less, and the other way round
    more-step : (c : Colour) (cells : List Cell) (x : Step Budgeted) → IsBudgetStep touch owner c (with_budget (j + 1) cells) x
        → IsBudgetStep touch owner c (with_budget (j + 1 + 1) cells) (record { to = with_budget (x.to.budget + 1) x.to.cells; taken = x.taken })
    more-step c cells x (step, after) = (
      step,
      elim after [
        | inl (u, e) ↦ inl (u, omega (arith, e))
        | inr (f, e) ↦ inr (f, omega (arith, e))
      ],
    )

    less-step : (c : Colour) (cells : List Cell) (y : Step Budgeted) → IsBudgetStep touch owner c (with_budget (j + 1 + 1) cells) y
        → (k : ℕ) × (y.to.budget ≡ k + 1) × IsBudgetStep touch owner c (with_budget (j + 1) cells) (record { to = with_budget k y.to.cells; taken = y.taken })
    less-step c cells y (step, after) = elim after [
      | inl (u, e) ↦ (j, omega (arith, e), (step, inl (u, refl)))
      | inr (f, e) ↦ (j + 1, omega (arith, e), (step, inr (f, refl)))
    ]

    -- trees after a step are equal, where those for the next two budgets are after a step that uses none
    after_step : (n N : ℕ) (cells : List Cell) (c : Colour) (x : Step Budgeted) → IsReachable touch opening cells
        → PlaysAreShort Budgeted (BudgetMoves touch owner) n (with_budget (j + 1) cells) → n + room (j + 1 + 1) ≤ N
        → IsBudgetStep touch owner c (with_budget (j + 1) cells) x → (X Y : Tree)
        → ((m : ℕ) → m + room (j + 1 + 1) < N → PlaysAreShort Budgeted (BudgetMoves touch owner) m (with_budget (j + 1) x.to.cells)
        → TreeFor N (j + 1) x.to.cells X → TreeFor N (j + 1 + 1) x.to.cells Y → X ≡ᵍ Y)
        → TreeFor N x.to.budget x.to.cells X → TreeFor N (x.to.budget + 1) x.to.cells Y → X ≡ᵍ Y
    after_step zero N cells c x reach short le s X Y again a b = absurd (no-move Budgeted (IsBudgetStep touch owner) (with_budget (j + 1) cells) c x s short)
    after_step (suc n) N cells c x reach short le s X Y again a b = elim s.1 [
      | inl (u, e) ↦ (
          let same : j ≡ x.to.budget = omega (arith, e) in
          alike_deep j (j + 1) N N x.to.cells X Y steady there (room_enough x.to.cells j N there (deep j (omega arith)))
          (room_enough x.to.cells (j + 1) N there (deep (j + 1) (omega arith)))
          (subst (λ i. TreeFor N i x.to.cells X) (sym same) a) (subst (λ i. TreeFor N (i + 1) x.to.cells Y) (sym same) b)
          )
      | inr (f, e) ↦ again n (omega (arith, le))
          (subst (λ i. PlaysAreShort Budgeted (BudgetMoves touch owner) n (with_budget i x.to.cells)) (sym e)
          (step-short Budgeted (IsBudgetStep touch owner) n (with_budget (j + 1) cells) c x s short))
          (subst (λ i. TreeFor N i x.to.cells X) (sym e) a) (subst (λ i. TreeFor N (i + 1) x.to.cells Y) (sym e) b)
    ]
      where
        there : IsReachable touch opening x.to.cells
        there = reach_on touch opening cells x.to.cells c s.0.0 reach s.0.1

        deep : (i : ℕ) → i ≤ j + 1 + 1 → room i ≤ N
        deep i less =
            let most : (i + 1) * 3 ^ length opening ≤ (j + 1 + 1 + 1) * 3 ^ length opening = mul-le-mul_right (3 ^ length opening) (omega (arith, less)) in
            omega (arith, most, le)

    -- trees for the next two budgets are equal
    next_alike : (n N : ℕ) (cells : List Cell) (G H : Tree) → IsReachable touch opening cells
        → PlaysAreShort Budgeted (BudgetMoves touch owner) n (with_budget (j + 1) cells) → n + room (j + 1 + 1) < N
        → TreeFor N (j + 1) cells G → TreeFor N (j + 1 + 1) cells H → G ≡ᵍ H
    next_alike n zero cells G H reach short lt g h = absurd (omega (arith, lt))
    next_alike n (suc N) cells G H reach short lt g h =
        let later = λ (c : Colour) (x : Step Budgeted) (s : IsBudgetStep touch owner c (with_budget (j + 1) cells) x) (X Y : Tree).
        after_step n N cells c x reach short (omega (arith, lt)) s X Y
        (λ m less short'. next_alike m N x.to.cells X Y (reach_on touch opening cells x.to.cells c s.0.0 reach s.0.1) short' less) in
        trees-match Budgeted Budgeted (IsBudgetStep touch owner) (IsBudgetStep touch owner) N N (with_budget (j + 1) cells) (with_budget (j + 1 + 1) cells) G H g h
        (λ c x s. (record { to = with_budget (x.to.budget + 1) x.to.cells; taken = x.taken }, more-step c cells x s, (refl, later c x s)))
        (λ c y s.
        let (k, e, s') = less-step c cells y s in
        let x : Step Budgeted = record { to = with_budget k y.to.cells; taken = y.taken } in
        (x, s', (refl, λ X Y a b. later c x s' X Y a (subst (λ i. TreeFor N i y.to.cells Y) e b))))

    pub next_steady : IsSteady touch opening owner (j + 1)
    next_steady cells reach G H g h =
        let n = enough cells (j + 1) in
        let N = suc (n + room (j + 1 + 1)) in
        let (A, a) = budget_tree touch owner N (j + 1) cells in
        let (B, b) = budget_tree touch owner N (j + 1 + 1) cells in
        let deep = room_enough cells (j + 1 + 1) N reach (omega arith) in
        same-trans _ _ _ (budget_depths touch owner cells (j + 1) n N G A (omega arith) (omega arith) g a)
        (same-trans _ _ _ (next_alike n N cells A B reach (budget_short touch owner cells (j + 1) n (omega arith)) (omega arith) a b)
        (budget_depths touch owner cells (j + 1 + 1) N (enough cells (j + 1 + 1)) B H deep (omega arith) b h))

  stays_steady : (k j i : ℕ) → j + k ≡ i → IsSteady touch opening owner j → IsSteady touch opening owner i × AreBudgetsAlike touch opening owner j i
  stays_steady zero j i e steady =
      let same : j ≡ i = omega (arith, e) in (
        subst (IsSteady touch opening owner) same steady,
        subst (AreBudgetsAlike touch opening owner j) same (λ cells reach G H.
            budget_depths touch owner cells j (enough cells j) (enough cells j) G H (omega arith) (omega arith)),
      )
  stays_steady (suc k) j i e steady =
      let (still, alike) = stays_steady k j (j + k) refl steady in
      let next : j + k + 1 ≡ i = omega (arith, e) in (
        subst (IsSteady touch opening owner) next (next_steady (j + k) still),
        subst (AreBudgetsAlike touch opening owner j) next (λ cells reach G H g h.
            let (A, a) = budget_tree touch owner (enough cells (j + k)) (j + k) cells in
            same-trans _ _ _ (alike cells reach G A g a) (still cells reach A H a h)),
      )

pub steady_stays : SteadyStays
steady_stays touch opening owner j i steady le = (stays_steady touch opening owner (i - j) j i (omega (arith, le)) steady).1

-- Without a cycle no budget is used.

module _ (touch : List Touch) (opening : List Cell) (owner : Colour) (none : HasNoCycle touch opening) where
  never_used : (from to : List Cell) (c : Colour) (p : ℕ) → IsReachable touch opening from → IsLocalMove touch from c p to → UsesBudget touch owner c from to → ⊥
  never_used from to c p (ms, plays) move (own, takes, (back, returns)) =
      let m : CycleMove = record { colour = c; place = p } in
      none (ms ++ m ∷ back) (length ms) (cycle_of touch opening from ms (m ∷ back) plays (to, move, returns) (omega arith))

  unused : (n j : ℕ) (cells : List Cell) (G H : Tree) → IsReachable touch opening cells → IsBudgetTreeWithin touch owner n j cells G → IsTreeOf touch n cells H → G ≡ᵍ H
  unused zero j cells G H reach g h = same-trans _ _ _ (same-path _ _ g) (same-sym _ _ (same-path _ _ h))
  unused (suc n) j cells G H reach g h = trees-match Budgeted (List Cell) (IsBudgetStep touch owner) (IsStep touch) n n (with_budget j cells) cells G H g h
      (λ c x (step, after). (plain touch owner x, step, (refl, λ X Y a b. unused n x.to.budget x.to.cells X Y (on c (plain touch owner x) step) a b)))
      (λ c y step. (
        record { to = with_budget j y.to; taken = y.taken },
        (step, inr (never_used cells y.to c step.0 reach step.1, refl)),
        (refl, λ X Y a b. unused n j y.to X Y (on c y step) a b),
      ))
    where
      on : (c : Colour) (y : Step (List Cell)) → IsStep touch c cells y → IsReachable touch opening y.to
      on c y step = reach_on touch opening cells y.to c step.0 reach step.1

pub budgets-need_cycles : BudgetsNeedCycles
budgets-need_cycles touch opening owner j none cells reach G H g h =
    let n = enough cells j in
    let (A, a) = trees-exist touch cells n in
    let short = short_plays touch opening none cells reach in
    let long = same_long touch opening cells reach in
    let power : 3 ^ length cells ≡ 3 ^ length opening = ap (λ k. 3 ^ k) long in
    let one : 1 * 3 ^ length cells ≤ (j + 1) * 3 ^ length cells = mul-le-mul_right (3 ^ length cells) (omega arith) in
    same-trans _ _ _ (unused touch opening owner none n j cells G A reach g a)
    (depths-agree (List Cell) (IsStep touch) n (3 ^ length cells) cells A H
    (λ qs w. omega (arith, short qs w, power, one)) (λ qs w. omega (arith, short qs w, power)) a h)
