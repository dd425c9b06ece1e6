-- Whole play with budgets is play in the parts: each region's position, with its budget.
use Rattle.std.proofs.Common.{ℕ, ◌+◌, ◌≡◌, ◌≢◌, ◌<◌, ◌≤◌, ◌⊎◌, ◌↔◌, arith, inl, inr, refl, sym, ap, ◌∙◌, subst, List, length, get_or, set, Contains, length-set}
use Rattle.std.proofs.lemmas.Bool.{cases_eq}
use Rattle.std.proofs.lemmas.List.{get_or-set_same, get_or-set_other, get_or_default}
use Rattle.std.proofs.lemmas.List.Elements.{Contains-get_or}
use Rattle.go_grid.specs.declared.grid.Cell.{Cell}
use Rattle.go_grid.specs.declared.grid.Colour.{Colour}
use Rattle.go_grid.specs.Board.{Board, other}
use Rattle.go_grid.specs.Chain.{IsSettled}
use Rattle.go_grid.specs.Region.{Region}
use Rattle.go_grid.proofs.DecidedLemmas.{Decided}
use Rattle.go_play.specs.Place.{IsPlaced}
use Rattle.whole_rules.specs.declared.money.Purses.{Purses}
use Rattle.whole_rules.specs.declared.states.Move.{Move}
use Rattle.whole_rules.specs.declared.states.Move.TheVariants.{Stone, Spend, Half}
use Rattle.whole_rules.specs.Purses.{purse, paid_in, paid_out, halved}
use Rattle.whole_rules.specs.WholeGame.{Whole, IsMove}
use Rattle.whole_rules.specs.WholeGame as whole
use Rattle.whole_rules.proofs.WallLaws.{Keeps, keeps_move}
use Rattle.local_graph.specs.Returns.{IsCapture, Returns}
use Rattle.region_cut.specs.Cut.{AreRegionsOfPlay}
use Rattle.region_cut.proofs.LocalBoardLemmas.{one_region, placing_is_local, plays_locally}
use Rattle.local_trees.specs.LocalGame.{Step}
use Rattle.local_trees.specs.BudgetTree as tree
use Rattle.local_trees.proofs.BudgetTreeLaws.{colour_or_not}
use Rattle.endgame_solver.specs.Regions.{no_region, region_at}
use Rattle.endgame_solver.specs.SumGame.{State, Leads, StepIn}
use Rattle.endgame_solver.proofs.PartsLaws.{Matches}
use Rattle.endgame_solver.proofs.WholeLaws.{IsHeld, Position, cell_play, held_after, held_long, position_in, region_in}
use Rattle.whole_budgets.specs.BudgetPlay.{Budgeted, position_on, IsReturningCapture, AreBudgetsAfter, AreSame, LeadsWithin}
use Rattle.whole_budgets.proofs.BudgetPlayLemmas.{left_of, returning_or_not}
use Rattle.whole_budgets.proofs.RegionLemmas.{position_is}
use Rattle.whole_budgets.proofs.SpotLemmas.{Spot, at_step, local_of, moves-in, moves-out, no_spot, spot_in, spot_is, spot_moves, step_at}

-- What a move does to the owner's budgets.
module _ (regions : List Region) (owner : Colour) where
  -- the move uses up budget for the region: it is the owner's, and a capture there that returns
  abbrev pub Uses : Region → Whole → Move → Whole → Type 0
  Uses r s m t = (s.side ≡ owner) × IsReturningCapture r s m t

  -- the budgets before the move pay for it and leave those after it
  abbrev pub Pays : Whole → Move → Whole → (Region → ℕ) → (Region → ℕ) → Type 0
  Pays s m t b c = ((s.side ≡ owner) × AreBudgetsAfter regions s m t b c) ⊎ ((s.side ≢ owner) × AreSame regions b c)

  -- one less where the move uses budget up, else as before
  abbrev pub IsSpent : Region → Whole → Move → Whole → (Region → ℕ) → (Region → ℕ) → Type 0
  IsSpent r s m t b c = (Uses r s m t × (b r ≡ c r + 1)) ⊎ (¬ Uses r s m t × (b r ≡ c r))

  pub spent : (s t : Whole) (m : Move) (b c : Region → ℕ) → Pays s m t b c → (r : Region) → Contains regions r → IsSpent r s m t b c
  spent s t m b c (inl (own, after)) r i = elim (after r i) [
    | inl (u, e) ↦ inl ((own, u), e)
    | inr (f, e) ↦ inr (λ u. f u.1, e)
  ]
  spent s t m b c (inr (f, same)) r i = inr (λ u. f u.0, same r i)

  -- budgets pay where each region in which the move uses one up has one
  pub payable : (s t : Whole) (m : Move) (b : Region → ℕ) → ((r : Region) → Contains regions r → Uses r s m t → 1 ≤ b r)
      → (c : Region → ℕ) × Pays s m t b c
  payable s t m b have = by_turn (colour_or_not s.side owner)
    where
      by_turn : Decided (s.side ≡ owner) → (c : Region → ℕ) × Pays s m t b c
      by_turn (inr f) = (b, inr (f, λ r i. refl))
      by_turn (inl own) = (λ r. left_of (returning_or_not r s t m) (b r), inl (own, λ r i. at r i (returning_or_not r s t m)))
        where
          at : (r : Region) → Contains regions r → (d : Decided (IsReturningCapture r s m t))
              → (IsReturningCapture r s m t × (b r ≡ left_of d (b r) + 1)) ⊎ (¬ IsReturningCapture r s m t × (b r ≡ left_of d (b r)))
          at r i (inl u) = let some = have r i (own, u) in inl (u, omega (arith, some))
          at r i (inr f) = inr (f, refl)

  -- a move that is no stone uses nothing up
  pub pays_still : (s t : Whole) (m : Move) (b : Region → ℕ) → ((r : Region) → ¬ IsReturningCapture r s m t) → Pays s m t b b
  pays_still s t m b none = elim (colour_or_not s.side owner) [
    | inl own ↦ inl (own, λ r i. inr (none r, refl))
    | inr f ↦ inr (f, λ r i. refl)
  ]

-- a stone uses budget up for its region exactly where its local move does
uses_here : (owner : Colour) (r : Region) (s t : Whole) (x : ℕ) (before after : List Cell) → Contains r.points x → position_on r s.board ≡ before
    → position_on r t.board ≡ after → ((s.side ≡ owner) × IsReturningCapture r s (Stone x) t) ↔ tree.UsesBudget r.touch owner s.side before after
uses_here owner r s t x before after in' e f = (
  λ (own, (here, takes, returns)). (
    own,
    subst (λ z. IsCapture z after) e (subst (IsCapture (position_on r s.board)) f takes),
    subst (λ z. Returns r.touch z after) e (subst (Returns r.touch (position_on r s.board)) f returns),
  ),
  λ (own, takes, returns). (
    own,
    (
      in',
      subst (λ z. IsCapture z (position_on r t.board)) (sym e) (subst (IsCapture before) (sym f) takes),
      subst (λ z. Returns r.touch z (position_on r t.board)) (sym e) (subst (Returns r.touch before) (sym f) returns),
    ),
  ),
)

module _ (g : Board) (settled : IsSettled g) (regions : List Region) (are : AreRegionsOfPlay g regions) (owner : Colour) where
  abbrev pub Most : ℕ
  Most = length g.cells

  abbrev pub Moves : Colour → Spot → List (Step Spot)
  Moves = spot_moves regions owner Most

  -- the board holds the spot's position in region `k`, and its budget is the region's
  pub record IsSpotOn (h : Board) (b : Region → ℕ) (k : ℕ) (q : Spot) : Type 0 where
    pub region : q.region ≡ k
    pub budget : q.budget ≡ b (region_at regions k)
    pub held : IsHeld g regions h k (position_in k q.cells)

  abbrev pub part : List Spot → ℕ → Spot
  part qs k = get_or qs k no_spot

  -- the state with budgets is seen as these parts
  pub record Shows (p : Budgeted) (u : State Spot) : Type 0 where
    pub keeps : Keeps g p.state
    pub count : length u.parts ≡ length regions
    pub each : (k : ℕ) → k < length regions → IsSpotOn p.state.board p.budgets k (part u.parts k)
    pub purses : p.state.purses ≡ u.purses
    pub turn : p.state.side ≡ u.side

  abbrev Steps : Budgeted → Budgeted → Type 0
  Steps = LeadsWithin regions owner

  -- a stone uses up budget for no region but its own
  only_here : (s t : Whole) (x j k : ℕ) → j < length regions → k < length regions → Contains (region_at regions j).points x → k ≢ j
      → ¬ Uses regions owner (region_at regions k) s (Stone x) t
  only_here s t x j k lj lk in' ne (own, (of', takes, returns)) = ne (one_region g regions are k j x no_region lk lj of' in')

  -- A stone in region `j` leads to the next position there, others keep theirs, and the budgets pay for it.
  record IsPlayed (s t : Whole) (x j : ℕ) (b c : Region → ℕ) (a : Spot) (next : List Cell) : Type 0 where
    known : j < length regions
    inside : Contains (region_at regions j).points x
    before : IsSpotOn s.board b j a
    held : IsHeld g regions t.board j (position_in j next)
    stay : (l : ℕ) (q : Position) → l ≢ j → IsHeld g regions s.board l q → IsHeld g regions t.board l q
    paid : Pays regions owner s (Stone x) t b c

  module _ {s t : Whole} {x j : ℕ} {b c : Region → ℕ} {a : Spot} {next : List Cell} (w : IsPlayed s t x j b c a next) where
    abbrev own : Region
    own = region_at regions j

    uses : Uses regions owner own s (Stone x) t ↔ tree.UsesBudget own.touch owner s.side a.cells next
    uses = uses_here owner own s t x a.cells next w.inside
        (position_is own s.board a.cells w.before.held.holds.long w.before.held.holds.local)
        (position_is own t.board next w.held.holds.long w.held.holds.local)

    -- its budget follows the local move
    budget_after : tree.IsBudgetAfter own.touch owner s.side (local_of a) (record { cells = next; budget = c own })
    budget_after = elim (spent regions owner s t (Stone x) b c w.paid own (region_in g settled regions are j w.known)) [
      | inl (u, e) ↦ inl (uses.0 u, w.before.budget ∙ e)
      | inr (f, e) ↦ inr (λ v. f (uses.1 v), w.before.budget ∙ e)
    ]

    -- what the local move leaves of the budget is the region's
    budget_is : (m : ℕ) → tree.IsBudgetAfter own.touch owner s.side (local_of a) (record { cells = next; budget = m }) → m ≡ c own
    budget_is m (inl (u, e)) = elim budget_after as (λ _. m ≡ c own) [
      | inl (v, f) ↦ omega (arith, e, f)
      | inr (g, f) ↦ absurd (g u)
    ]
    budget_is m (inr (g, e)) = elim budget_after as (λ _. m ≡ c own) [
      | inl (v, f) ↦ absurd (g v)
      | inr (h, f) ↦ omega (arith, e, f)
    ]

    -- the spots after it are on the board
    shown_after : (qs rs : List Spot) → ((k : ℕ) → k < length regions → IsSpotOn s.board b k (part qs k))
        → spot_in j (record { cells = next; budget = c own }) ≡ part rs j → ((k : ℕ) → k ≢ j → part rs k ≡ part qs k)
        → (k : ℕ) → k < length regions → IsSpotOn t.board c k (part rs k)
    shown_after qs rs on here others k lt = elim (cases_eq k j) [
      | inl e ↦ subst (λ z. IsSpotOn t.board c z (part rs z)) (sym e)
          (subst (IsSpotOn t.board c j) here (record { region = refl; budget = refl; held = w.held }))
      | inr ne ↦
          let q = on k lt in
          let kept = elim (spent regions owner s t (Stone x) b c w.paid (region_at regions k) (region_in g settled regions are k lt))
          as (λ _. b (region_at regions k) ≡ c (region_at regions k)) [
            | inl (u, e) ↦ absurd (only_here s t x j k w.known lt w.inside ne u)
            | inr (f, e) ↦ e
          ] in
          subst (IsSpotOn t.board c k) (sym (others k ne))
          (record { region = q.region; budget = q.budget ∙ kept; held = w.stay k (position_in k (part qs k).cells) ne q.held })
    ]

  -- a board that is another one holds what that one holds
  on_board : {h k : Board} (j : ℕ) (next : List Cell) → k ≡ h → IsHeld g regions h j (position_in j next) → IsHeld g regions k j (position_in j next)
  on_board j next e held = subst (λ z. IsHeld g regions z j (position_in j next)) (sym e) held

  -- a move on the purses leaves the parts
  still_shown : (p q : Budgeted) (u : State Spot) (m : Move) (ms : Purses) → Shows p u → IsMove p.state m q.state
      → q.state ≡ whole.after p.state.board ms p.state → ((r : Region) → ¬ IsReturningCapture r p.state m q.state)
      → Pays regions owner p.state m q.state p.budgets q.budgets → (ns : Purses) → ms ≡ ns
      → Shows q (record { parts = u.parts; purses = ns; side = other u.side })
  still_shown p q u m ms w move is none pays ns e = record {
    keeps = keeps_move g settled p.state q.state m w.keeps move;
    count = w.count;
    each = λ k lt.
        let a = w.each k lt in
        let kept = elim (spent regions owner p.state q.state m p.budgets q.budgets pays (region_at regions k) (region_in g settled regions are k lt))
        as (λ _. p.budgets (region_at regions k) ≡ q.budgets (region_at regions k)) [
          | inl (u, e) ↦ absurd (none (region_at regions k) u.1)
          | inr (f, e) ↦ e
        ] in
        record { region = a.region; budget = a.budget ∙ kept; held = on_board k (part u.parts k).cells (ap (λ z. z.board) is) a.held };
    purses = ap (λ z. z.purses) is ∙ e;
    turn = ap (λ z. z.side) is ∙ ap other w.turn;
  }

  stone_forth : (p q : Budgeted) (u : State Spot) (x : ℕ) → Shows p u → IsMove p.state (Stone x) q.state
      → Pays regions owner p.state (Stone x) q.state p.budgets q.budgets → (v : State Spot) × Leads Spot Moves u v × Shows q v
  stone_forth p q u x w (mark, (h, (n, placed, number, is))) pays =
      let s = p.state in
      let there : q.state.board ≡ h = ap (λ z. z.board) is in
      let local_play = cell_play g settled regions are in
      let (j, lt, (i, short, at)) = local_play.covers x ((w.keeps.contested x).0 mark) in
      let r = region_at regions j in
      let a = part u.parts j in
      let on = w.each j lt in
      let here : get_or r.points i 0 ≡ x = get_or_default r.points i 0 x short ∙ at in
      let placed' = subst (λ z. IsPlaced s.board z s.side h) (sym here) placed in
      let (next, move, local) = placing_is_local g r settled (are.each r (region_in g settled regions are j lt)) on.held.holds i short s.side h placed' in
      let (held, stay) = held_after g settled regions are s.board h j (position_in j a.cells) next s.side i (get_or r.points i 0) on.held placed' move local in
      let played : IsPlayed s q.state x j p.budgets q.budgets a next = record {
        known = lt;
        inside = (i, short, at);
        before = on;
        held = on_board j next there held;
        stay = λ l y ne e. subst (λ z. IsHeld g regions z l y) (sym there) (stay l y ne e);
        paid = pays;
      } in
      let b : Spot = spot_in j (record { cells = next; budget = q.budgets r }) in
      let step : tree.IsBudgetStep r.touch owner s.side (local_of a) (record { to = local_of b; taken = n }) =
      ((i, move, (local.taken n).0 number), budget_after played) in
      let few = held_long g settled regions are s.board j (position_in j a.cells) on.held in
      let among = moves-in regions owner Most j s.side (local_of a) (record { to = local_of b; taken = n }) few step in
      let among' = subst (λ z. Contains (Moves s.side z) (record { to = b; taken = n })) (spot_is j a on.region) among in
      let long : j < length u.parts = omega (arith, lt, w.count) in
      let one = step_at Spot Moves no_spot s.side j u.parts (set u.parts j b) (record { to = b; taken = n }) long (length-set u.parts j b) among'
      (sym (get_or-set_same u.parts j b no_spot long)) (λ k ne. get_or-set_other u.parts j k b no_spot ne) in (
        record { parts = set u.parts j b; purses = paid_in u.side n u.purses; side = other u.side },
        record { turn = refl; move = inl (n, subst (λ z. StepIn Spot Moves z u.parts (set u.parts j b) n) w.turn one, refl) },
        record {
          keeps = keeps_move g settled s q.state (Stone x) w.keeps (mark, (h, (n, placed, number, is)));
          count = length-set u.parts j b ∙ w.count;
          each = shown_after played u.parts (set u.parts j b) w.each (sym (get_or-set_same u.parts j b no_spot long))
              (λ k ne. get_or-set_other u.parts j k b no_spot ne);
          purses = ap (λ z. z.purses) is ∙ (λ y. paid_in (w.turn y) n (w.purses y));
          turn = ap (λ z. z.side) is ∙ ap other w.turn;
        },
      )

  pub forth : (p q : Budgeted) (u : State Spot) → Shows p u → Steps p q → (v : State Spot) × Leads Spot Moves u v × Shows q v
  forth p q u w (Stone x, move, pays) = stone_forth p q u x w move pays
  forth p q u w (Spend, move, pays) =
      let some = subst (λ c. 1 ≤ purse c p.state.purses) w.turn move.0 in
      let money : paid_out p.state.side p.state.purses ≡ paid_out u.side u.purses = λ i. paid_out (w.turn i) (w.purses i) in (
        record { parts = u.parts; purses = paid_out u.side u.purses; side = other u.side },
        record { turn = refl; move = inr (inl (subst (λ m. 1 ≤ purse u.side m) w.purses some, refl, refl)) },
        still_shown p q u Spend (paid_out p.state.side p.state.purses) w move move.1 (λ r f. f) pays (paid_out u.side u.purses) money,
      )
  forth p q u w (Half, move, pays) =
      let money : halved p.state.side p.state.purses ≡ halved u.side u.purses = λ i. halved (w.turn i) (w.purses i) in (
        record { parts = u.parts; purses = halved u.side u.purses; side = other u.side },
        record { turn = refl; move = inr (inr (λ e. move.0 (ap (λ z. z.token) w.purses ∙ e), refl, refl)) },
        still_shown p q u Half (halved p.state.side p.state.purses) w move move.1 (λ r f. f) pays (halved u.side u.purses) money,
      )

  stone_back : (p : Budgeted) (u v : State Spot) (n : ℕ) → Shows p u → v.side ≡ other u.side → StepIn Spot Moves u.side u.parts v.parts n
      → v.purses ≡ paid_in u.side n u.purses → (q : Budgeted) × Steps p q × Shows q v
  stone_back p u v n w turn one money =
      let s = p.state in
      let at = at_step Spot Moves no_spot u.side u.parts v.parts n one in
      let j = at.part in
      let lt : j < length regions = omega (arith, at.inside, w.count) in
      let r = region_at regions j in
      let a = part u.parts j in
      let on = w.each j lt in
      let among : Contains (Moves s.side (spot_in j (local_of a))) at.step =
      subst (λ z. Contains (Moves s.side z) at.step) (sym (spot_is j a on.region)) (subst (λ c. Contains (Moves c a) at.step) (sym w.turn) at.among) in
      let (few, (y, ((i, move, number), after), to)) = moves-out regions owner Most j s.side (local_of a) at.step among in
      let short : i < length r.points = omega (arith, move.place, on.held.holds.long) in
      let plays = plays_locally g r settled (are.each r (region_in g settled regions are j lt)) in
      let (h, placed) = (plays.legal a.cells s.board s.side i on.held.holds short).1 (y.to.cells, move) in
      let local = plays.local a.cells y.to.cells s.board h s.side i on.held.holds short placed move in
      let x = get_or r.points i 0 in
      let inside : Contains r.points x = Contains-get_or r.points i 0 short in
      let (held, stay) = held_after g settled regions are s.board h j (position_in j a.cells) y.to.cells s.side i x on.held placed move local in
      let t = whole.after h (paid_in s.side y.taken s.purses) s in
      let made : IsMove s (Stone x) t = ((w.keeps.contested x).1 ((cell_play g settled regions are).within j x lt inside), (h, (y.taken, placed, (local.taken y.taken).1 number, refl))) in
      let uses = uses_here owner r s t x a.cells y.to.cells inside (position_is r s.board a.cells on.held.holds.long on.held.holds.local)
      (position_is r h y.to.cells held.holds.long held.holds.local) in
      let some : Uses regions owner r s (Stone x) t → 1 ≤ p.budgets r = λ spent_here. elim after as (λ _. 1 ≤ p.budgets r) [
        | inl (v, e) ↦ omega (arith, e, on.budget)
        | inr (f, e) ↦ absurd (f (uses.0 spent_here))
      ] in
      let have : (r' : Region) → Contains regions r' → Uses regions owner r' s (Stone x) t → 1 ≤ p.budgets r' = λ r' (k, lk, is) spent_here.
      let there : region_at regions k ≡ r' = get_or_default regions k no_region r' lk ∙ is in
      let same : k ≡ j = one_region g regions are k j x no_region lk lt (subst (λ z. Contains z.points x) (sym there) spent_here.1.0) inside in
      let mine : r ≡ r' = ap (region_at regions) (sym same) ∙ there in
      subst (λ z. Uses regions owner z s (Stone x) t → 1 ≤ p.budgets z) mine some spent_here in
      let (c, pays) = payable regions owner s t (Stone x) p.budgets have in
      let played : IsPlayed s t x j p.budgets c a y.to.cells =
      record { known = lt; inside = inside; before = on; held = held; stay = stay; paid = pays } in
      let taken : y.taken ≡ n = ap (λ z. z.taken) to ∙ at.taken in
      let left : y.to.budget ≡ c r = budget_is played y.to.budget after in
      let here : spot_in j (record { cells = y.to.cells; budget = c r }) ≡ part v.parts j =
      ap (λ m. spot_in j (record { cells = y.to.cells; budget = m })) (sym left) ∙ ap (λ z. z.to) to ∙ at.to in (
        record { state = t; budgets = c },
        (Stone x, made, pays),
        record {
          keeps = keeps_move g settled s t (Stone x) w.keeps made;
          count = at.long ∙ w.count;
          each = shown_after played u.parts v.parts w.each here at.same;
          purses = (λ z. paid_in (w.turn z) (taken z) (w.purses z)) ∙ sym money;
          turn = ap other w.turn ∙ sym turn;
        },
      )

  pub back : (p : Budgeted) (u v : State Spot) → Shows p u → Leads Spot Moves u v → (q : Budgeted) × Steps p q × Shows q v
  back p u v w l = elim l.move [
    | inl (n, one, money) ↦ stone_back p u v n w l.turn one money
    | inr (inl (some, same, money)) ↦
        let some' = subst (λ m. 1 ≤ purse p.state.side m) (sym w.purses) (subst (λ c. 1 ≤ purse c u.purses) (sym w.turn) some) in
        still Spend (paid_out p.state.side p.state.purses) (paid_out u.side u.purses) (λ i. paid_out (w.turn i) (w.purses i)) same money (λ r f. f) (some', refl)
    | inr (inr (some, same, money)) ↦
        still Half (halved p.state.side p.state.purses) (halved u.side u.purses) (λ i. halved (w.turn i) (w.purses i)) same money (λ r f. f)
        (λ e. some (ap (λ z. z.token) (sym w.purses) ∙ e), refl)
  ]
    where
      still : (m : Move) (ms ns : Purses) → ms ≡ ns → v.parts ≡ u.parts → v.purses ≡ ns
          → let t = whole.after p.state.board ms p.state in
          ((r : Region) → ¬ IsReturningCapture r p.state m t) → IsMove p.state m t → (q : Budgeted) × Steps p q × Shows q v
      still m ms ns e same money none made =
          let t = whole.after p.state.board ms p.state in
          let pays = pays_still regions owner p.state t m p.budgets none in
          let q : Budgeted = record { state = t; budgets = p.budgets } in (
            q,
            (m, made, pays),
            subst (Shows q) (λ i. record { parts = sym same i; purses = sym money i; side = sym l.turn i })
                (still_shown p q u m ms w made refl none pays ns e),
          )

  -- play with budgets and play in the parts match
  pub matches : Matches Budgeted (State Spot) Steps (Leads Spot Moves) Shows
  matches = record { forth = λ p q u w h. forth p q u w h; back = λ p u v w l. back p u v w l }

  pub matches_back : Matches (State Spot) Budgeted (Leads Spot Moves) Steps (λ u p. Shows p u)
  matches_back = record { forth = λ u v p w l. back p u v w l; back = λ u p q w h. forth p q u w h }
