-- Regions' positions with budgets as the positions of a game of parts: its moves are the local moves that the budgets allow.
use Rattle.std.proofs.Common.{ℕ, zero, suc, ◌+◌, ◌*◌, ◌^◌, ◌≡◌, ◌≢◌, ◌<◌, ◌≤◌, arith, inl, inr, refl, sym, ap, subst, List, [], ◌∷◌, length, get_or, Contains}
use Rattle.std.proofs.lemmas.Bool.{cases_lt}
use Rattle.std.proofs.lemmas.List.{ext_get_or}
use Rattle.std.proofs.Math.Nat.{mul-le-mul_left, mul-le-mul_right, pow-le-pow_right}
use Rattle.go_grid.specs.declared.grid.Cell.{Cell}
use Rattle.go_grid.specs.declared.grid.Colour.{Colour}
use Rattle.go_grid.specs.Region.{Region}
use Rattle.go_grid.proofs.PlayLemmas.{long_after}
use Rattle.short_games.specs.Tree.{Tree}
use Rattle.short_games.specs.Order.{◌≡ᵍ◌}
use Rattle.local_trees.specs.BudgetTree.{Budgeted, IsBudgetStep, IsBudgetTree}
use Rattle.local_trees.specs.Ending.{EndsWithin}
use Rattle.local_trees.specs.LocalGame.{Step, StepsTo, tree_within}
use Rattle.local_trees.proofs.BudgetTreeLaws.{are_listed, budget_moves, budget_short, enough}
use Rattle.local_trees.proofs.MoveLaws.{contains-cases, contains-head, contains-tail}
use Rattle.local_trees.proofs.TreeLaws.{stands_end, stands_same}
use Rattle.endgame_solver.specs.Regions.{region_at}
use Rattle.endgame_solver.specs.SumGame.{StepIn}
use Rattle.endgame_solver.proofs.WholeLaws.{limited, limited-in, limited-is}

-- A step in one of the parts, by the part's number.
module _ (P : Type 0) (moves : Colour → P → List (Step P)) (d : P) (c : Colour) where
  pub step_at : (j : ℕ) (ps qs : List P) (x : Step P) → j < length ps → length qs ≡ length ps → Contains (moves c (get_or ps j d)) x
      → x.to ≡ get_or qs j d → ((i : ℕ) → i ≢ j → get_or qs i d ≡ get_or ps i d) → StepIn P moves c ps qs x.taken
  step_at j [] qs x lt long among to same = absurd (omega (arith, lt))
  step_at j (p ∷ ps) [] x lt long among to same = absurd (omega (arith, long))
  step_at zero (p ∷ ps) (q ∷ qs) x lt long among to same =
      inl ((x, among, to, refl), ext_get_or d ps qs (omega (arith, long)) (λ i l. sym (same (suc i) (λ e. omega (arith, e)))))
  step_at (suc j) (p ∷ ps) (q ∷ qs) x lt long among to same =
      let first : q ≡ p = same 0 (λ e. omega (arith, e)) in
      let later : (i : ℕ) → i ≢ j → get_or qs i d ≡ get_or ps i d = λ i ne. same (suc i) (λ e. ne (omega (arith, e))) in
      inr (sym first, step_at j ps qs x (omega (arith, lt)) (omega (arith, long)) among to later)

  -- the step is in the part of this number, and the others stay
  pub record IsStepAt (ps qs : List P) (n : ℕ) : Type 0 where
    pub part : ℕ
    pub inside : part < length ps
    pub long : length qs ≡ length ps
    pub step : Step P
    pub among : Contains (moves c (get_or ps part d)) step
    pub to : step.to ≡ get_or qs part d
    pub taken : step.taken ≡ n
    pub same : (i : ℕ) → i ≢ part → get_or qs i d ≡ get_or ps i d

  pub at_step : (ps qs : List P) (n : ℕ) → StepIn P moves c ps qs n → IsStepAt ps qs n
  at_step [] qs n h = absurd h
  at_step (p ∷ ps) [] n h = absurd h
  at_step (p ∷ ps) (q ∷ qs) n (inl ((x, among, to, taken), e)) =
      record { part = 0; inside = omega arith; long = ap suc (sym (ap length e)); step = x; among = among; to = to; taken = taken; same = later }
    where
      later : (i : ℕ) → i ≢ 0 → get_or (q ∷ qs) i d ≡ get_or (p ∷ ps) i d
      later zero ne = absurd (ne refl)
      later (suc i) ne = ap (λ z. get_or z i d) (sym e)
  at_step (p ∷ ps) (q ∷ qs) n (inr (e, h)) =
      let w = at_step ps qs n h in
      record { part = suc w.part; inside = omega (arith, w.inside); long = ap suc w.long; step = w.step; among = w.among; to = w.to; taken = w.taken; same = later w }
    where
      later : (w : IsStepAt ps qs n) (i : ℕ) → i ≢ suc w.part → get_or (q ∷ qs) i d ≡ get_or (p ∷ ps) i d
      later w zero ne = sym e
      later w (suc i) ne = w.same i (λ f. ne (ap suc f))

-- which region, a local position of it, and a budget
pub record Spot : Type 0 where
  pub region : ℕ
  pub cells : List Cell
  pub budget : ℕ

abbrev pub no_spot : Spot
no_spot = record { region = 0; cells = []; budget = 0 }

abbrev pub spot_in : ℕ → Budgeted → Spot
spot_in k p = record { region = k; cells = p.cells; budget = p.budget }

abbrev pub local_of : Spot → Budgeted
local_of q = record { cells = q.cells; budget = q.budget }

pub spot_is : (k : ℕ) (q : Spot) → q.region ≡ k → spot_in k (local_of q) ≡ q
spot_is k q e = λ i. record { region = sym e i; cells = q.cells; budget = q.budget }

abbrev pub step_in : ℕ → Step Budgeted → Step Spot
step_in k x = record { to = spot_in k x.to; taken = x.taken }

steps_in : ℕ → List (Step Budgeted) → List (Step Spot)
steps_in k [] = []
steps_in k (x ∷ xs) = step_in k x ∷ steps_in k xs

steps_in-out : (k : ℕ) (xs : List (Step Budgeted)) (z : Step Spot) → Contains (steps_in k xs) z → (x : Step Budgeted) × Contains xs x × (step_in k x ≡ z)
unfolding steps_in
steps_in-out k [] z h = absurd (omega (arith, h.1))
steps_in-out k (x ∷ xs) z h = elim (contains-cases (Step Spot) (step_in k x) z (steps_in k xs) h) [
  | inl e ↦ (x, contains-head (Step Budgeted) x xs, e)
  | inr later ↦ let (y, among, e) = steps_in-out k xs z later in (y, contains-tail (Step Budgeted) x y xs among, e)
]

steps_in-in : (k : ℕ) (xs : List (Step Budgeted)) (x : Step Budgeted) → Contains xs x → Contains (steps_in k xs) (step_in k x)
unfolding steps_in
steps_in-in k [] x h = absurd (omega (arith, h.1))
steps_in-in k (y ∷ xs) x h = elim (contains-cases (Step Budgeted) y x xs h) [
  | inl e ↦ subst (λ z. Contains (step_in k y ∷ steps_in k xs) (step_in k z)) e (contains-head (Step Spot) (step_in k y) (steps_in k xs))
  | inr later ↦ contains-tail (Step Spot) (step_in k y) (step_in k x) (steps_in k xs) (steps_in-in k xs x later)
]

-- the moves of a spot of at most b places
pub spot_moves : List Region → Colour → ℕ → Colour → Spot → List (Step Spot)
spot_moves regions owner b c q =
    limited b (length q.cells) (cases_lt b (length q.cells)) (steps_in q.region (budget_moves (region_at regions q.region).touch owner c (local_of q)))

module _ (regions : List Region) (owner : Colour) (b : ℕ) where
  abbrev Moves : Colour → Spot → List (Step Spot)
  Moves = spot_moves regions owner b

  abbrev IsMoveIn : ℕ → Colour → Budgeted → Step Budgeted → Type 0
  IsMoveIn k = IsBudgetStep (region_at regions k).touch owner

  pub moves-out : (k : ℕ) (c : Colour) (p : Budgeted) (z : Step Spot) → Contains (Moves c (spot_in k p)) z
      → (length p.cells ≤ b) × ((x : Step Budgeted) × IsMoveIn k c p x × (step_in k x ≡ z))
  unfolding spot_moves
  moves-out k c p z h =
      let (le, among) = limited-in b (length p.cells) (cases_lt b (length p.cells)) _ z h in
      let (x, among', e) = steps_in-out k _ z among in
      (le, (x, (are_listed (region_at regions k).touch owner c p x).0 among', e))

  pub moves-in : (k : ℕ) (c : Colour) (p : Budgeted) (x : Step Budgeted) → length p.cells ≤ b → IsMoveIn k c p x
      → Contains (Moves c (spot_in k p)) (step_in k x)
  unfolding spot_moves
  moves-in k c p x le move =
      let touch = (region_at regions k).touch in
      let steps = steps_in k (budget_moves touch owner c p) in
      subst (λ xs. Contains xs (step_in k x)) (sym (limited-is b (length p.cells) (cases_lt b (length p.cells)) steps le))
      (steps_in-in k (budget_moves touch owner c p) x ((are_listed touch owner c p x).1 move))

  -- the spot stands for the position with the budget
  abbrev pub Stands : ℕ → Spot → Budgeted → Type 0
  Stands k q p = (spot_in k p ≡ q) × (length p.cells ≤ b)

  stands-out : (k : ℕ) (q : Spot) (p : Budgeted) (c : Colour) (z : Step Spot) → Stands k q p → Contains (Moves c q) z
      → (x : Step Budgeted) × IsMoveIn k c p x × (x.taken ≡ z.taken) × Stands k z.to x.to
  stands-out k q p c z (e, le) h =
      let (le', (x, move, is)) = moves-out k c p z (subst (λ y. Contains (Moves c y) z) (sym e) h) in
      (x, move, ap (λ y. y.taken) is, (ap (λ y. y.to) is, omega (arith, le, long_after move.0.1)))

  stands-back : (k : ℕ) (q : Spot) (p : Budgeted) (c : Colour) (x : Step Budgeted) → Stands k q p → IsMoveIn k c p x
      → (z : Step Spot) × Contains (Moves c q) z × (z.taken ≡ x.taken) × Stands k z.to x.to
  stands-back k q p c x (e, le) move = (
    step_in k x,
    subst (λ y. Contains (Moves c y) (step_in k x)) e (moves-in k c p x le move),
    refl,
    (refl, omega (arith, le, long_after move.0.1)),
  )

  -- moves enough for each budget up to the greatest, in each region
  abbrev pub depth : ℕ → ℕ
  depth most = (most + 1) * 3 ^ b

  deep : (p : Budgeted) (most : ℕ) → length p.cells ≤ b → p.budget ≤ most → enough p.cells p.budget ≤ depth most
  deep p most le few =
      let three : 0 < 3 = omega arith in
      let power = mul-le-mul_left (p.budget + 1) (pow-le-pow_right {n = 3} three le) in
      let more : p.budget + 1 ≤ most + 1 = omega (arith, few) in
      let wide = mul-le-mul_right (3 ^ b) more in
      omega (arith, power, wide)

  -- play ends at a spot
  pub spot_ends : (k most : ℕ) (q : Spot) (p : Budgeted) → Stands k q p → p.budget ≤ most → EndsWithin Spot (StepsTo Spot Moves) (depth most) q
  spot_ends k most q p stands few =
      let touch = (region_at regions k).touch in
      stands_end Spot Budgeted (IsMoveIn k) Moves (Stands k) (stands-out k) (stands-back k) (depth most) q p stands
      (budget_short touch owner p.cells p.budget (depth most) (deep p most stands.1 few))

  -- a tree of the position with the budget is as good as that over the spot's moves
  pub spot_tree : (k most : ℕ) (q : Spot) (p : Budgeted) (G : Tree) → Stands k q p → p.budget ≤ most
      → IsBudgetTree (region_at regions k).touch owner p.budget p.cells G → G ≡ᵍ tree_within Spot Moves (depth most) q
  spot_tree k most q p G stands few tree =
      let touch = (region_at regions k).touch in
      stands_same Spot Budgeted (IsMoveIn k) Moves (Stands k) (stands-out k) (stands-back k) (depth most) (enough p.cells p.budget) q p G stands
      (budget_short touch owner p.cells p.budget (enough p.cells p.budget) (omega arith))
      (budget_short touch owner p.cells p.budget (depth most) (deep p most stands.1 few)) tree
