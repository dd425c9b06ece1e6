-- Who wins with budgets is the sign of the sum of trees with these budgets, and with steady regions so is who wins.
use Rattle.std.proofs.Common.{ℕ, zero, suc, ◌+◌, ◌≡◌, ◌<◌, ◌≤◌, ◌↔◌, arith, inl, inr, refl, sym, ap, ◌∙◌, subst, List, [], ◌∷◌, length, get_or, map, max, ℤ, Bool}
use Rattle.std.specs.List.{sum_by}
use Rattle.std.proofs.lemmas.List.{length-map, get_or-map}
use Rattle.std.proofs.lemmas.List.Sums.{get_or-le-sum_by}
use Rattle.go_grid.specs.declared.grid.Cell.{Cell}
use Rattle.go_grid.specs.declared.grid.Colour.{Colour}
use Rattle.go_grid.specs.Board.{Board}
use Rattle.go_grid.specs.Chain.{IsSettled}
use Rattle.go_grid.specs.Region.{Region}
use Rattle.whole_rules.specs.FirstWinningMove.{IsWinner}
use Rattle.whole_rules.specs.PlainRecursion.{MoverLoses}
use Rattle.whole_rules.specs.declared.states.Move.{Move}
use Rattle.whole_rules.specs.Opening.{IsOpening}
use Rattle.whole_rules.specs.Walls.{Plays}
use Rattle.whole_rules.specs.WholeGame.{Whole}
use Rattle.whole_rules.proofs.WallLaws.{Keeps, keeps_plays, keeps_start}
use Rattle.whole_rules.proofs.OutcomeLaws.{wins-not_loses}
use Rattle.region_cut.specs.Cut.{AreRegionsOfPlay}
use Rattle.region_cut.specs.LocalBoard.{HoldsPosition}
use Rattle.short_games.specs.Tree.{Tree, Trees, none, more, node}
use Rattle.short_games.specs.Order.{◌≡ᵍ◌}
use Rattle.short_games.specs.Sum.{◌+ᵍ◌, total}
use Rattle.short_games.proofs.OrderLaws.{same-refl, same-sym, same-trans}
use Rattle.short_games.proofs.SumLaws.{same-plus}
use Rattle.game_players.specs.Players.{LosesGame}
use Rattle.game_players.proofs.PlayerLaws.{loses-same}
use Rattle.local_trees.specs.BudgetTree.{IsBudgetTree}
use Rattle.local_trees.specs.Ending.{EndsWithin}
use Rattle.local_trees.proofs.BudgetTreeLaws.{budget_tree, enough, steady_stays}
use Rattle.local_trees.specs.LocalGame.{tree_within}
use Rattle.endgame_solver.specs.Decomposition.{money_tree}
use Rattle.endgame_solver.specs.Regions.{no_region, region_at}
use Rattle.endgame_solver.specs.SumGame.{AllEnd, IsDecidedBy, Leads, State, parts_tree, purses_tree, state_tree}
use Rattle.endgame_solver.specs.inner.Regions.{IsPointOf}
use Rattle.endgame_solver.specs.inner.WholeParts.{AllShown}
use Rattle.endgame_solver.proofs.PartsLaws.{decomposes, loses-forth, play-ends, wins-forth}
use Rattle.endgame_solver.proofs.WholeLaws.{IsHeld, Position, held_long, money_same, moves_of, one_cells, position_in, HoldsReached, SeenAs, seen_from_opening, seen_now}
use Rattle.whole_budgets.specs.BudgetPlay.{Budgeted, LeadsWithin, WinsWithBudgets}
use Rattle.whole_budgets.specs.BudgetSums.{AreBudgetTreesOn, AreSteadyTreesOn, BudgetsDecompose, ServesFor, SteadyDecides, WinsGame}
use Rattle.whole_budgets.proofs.BudgetPlayLemmas.{budgets_win, greater_win, some_win, with}
use Rattle.whole_budgets.proofs.SpotLemmas.{Spot, Stands, depth, local_of, no_spot, spot_ends, spot_is, spot_tree}
use Rattle.whole_budgets.proofs.BudgetPartsLemmas.{IsSpotOn, Moves, Shows, forth, matches, matches_back, part}

-- who wins one game wins an equal one
pub wins-same : (owner side : Colour) (G H : Tree) → G ≡ᵍ H → WinsGame owner side G → WinsGame owner side H
wins-same owner side G H e (inl (own, f)) = inl (own, λ l. f (loses-same side H G (same-sym G H e) l))
wins-same owner side G H e (inr (other_one, l)) = inr (other_one, loses-same side G H e l)

module _ (g : Board) (settled : IsSettled g) (regions : List Region) (are : AreRegionsOfPlay g regions) (owner : Colour) (d : Region → ℕ) where
  -- a budget that no region's is greater than
  abbrev most : ℕ
  most = sum_by d regions

  most_is : (k : ℕ) → k < length regions → d (region_at regions k) ≤ most
  most_is k lt = get_or-le-sum_by d regions k no_region lt

  abbrev Deep : ℕ
  Deep = depth regions owner (length g.cells) most

  abbrev AreOn : Board → ℕ → List Spot → Type 0
  AreOn h k qs = (i : ℕ) → i < length qs → IsSpotOn g settled regions are owner h d (k + i) (part g settled regions are owner qs i)

  -- a spot on the board stands for its position
  stands : (h : Board) (k : ℕ) (q : Spot) → IsSpotOn g settled regions are owner h d k q → Stands regions owner (length g.cells) k q (local_of q)
  stands h k q on = (spot_is k q on.region, held_long g settled regions are h k (position_in k q.cells) on.held)

  few : (h : Board) (k : ℕ) (q : Spot) → IsSpotOn g settled regions are owner h d k q → q.budget ≤ most
  few h k q on = let le = most_is k on.held.known in omega (arith, on.budget, le)

  later : (h : Board) (k : ℕ) (q : Spot) (qs : List Spot) → AreOn h k (q ∷ qs) → AreOn h (suc k) qs
  later h k q qs on i lt = subst (λ z. IsSpotOn g settled regions are owner h d z (part g settled regions are owner qs i)) (omega arith) (on (suc i) (omega (arith, lt)))

  first : (h : Board) (k : ℕ) (q : Spot) (qs : List Spot) → AreOn h k (q ∷ qs) → IsSpotOn g settled regions are owner h d k q
  first h k q qs on = subst (λ z. IsSpotOn g settled regions are owner h d z q) (omega arith) (on 0 (omega arith))

  -- play ends in each part
  all_end : (h : Board) (k : ℕ) (qs : List Spot) → AreOn h k qs → AllEnd Spot (Moves g settled regions are owner) Deep qs
  all_end h k [] on = tt
  all_end h k (q ∷ qs) on =
      let here = first h k q qs on in
      (spot_ends regions owner (length g.cells) k most q (local_of q) (stands h k q here) (few h k q here), all_end h (suc k) qs (later h k q qs on))

  abbrev tree_at_spot : Spot → Tree
  tree_at_spot q = tree_within Spot (Moves g settled regions are owner) Deep q

  -- a tree of the position with a budget that serves is as good as that over the spot's moves
  tree_for : (h : Board) (k j : ℕ) (q : Spot) (G : Tree) → IsSpotOn g settled regions are owner h d k q → ServesFor (region_at regions k) owner j q.budget
      → IsBudgetTree (region_at regions k).touch owner j q.cells G → G ≡ᵍ tree_at_spot q
  tree_for h k j q G on serves tree = elim serves [
    | inl e ↦ own G (subst (λ i. IsBudgetTree r.touch owner i q.cells G) e tree)
    | inr (le, steady) ↦
        let (H, tree') = budget_tree r.touch owner (enough q.cells q.budget) q.budget q.cells in
        same-trans _ _ _ (steady_stays r.touch r.cells owner j q.budget steady le q.cells on.held.reachable G H tree tree') (own H tree')
  ]
    where
      r : Region
      r = region_at regions k

      own : (H : Tree) → IsBudgetTree r.touch owner q.budget q.cells H → H ≡ᵍ tree_at_spot q
      own H tree' = spot_tree regions owner (length g.cells) k most q (local_of q) H (stands h k q on) (few h k q on) tree'

  -- and so are their sums
  trees_for : (h : Board) (k : ℕ) (rs : List Region) (trees : Trees) (qs : List Spot)
      → ((j : ℕ) → j < length rs → region_at regions (k + j) ≡ get_or rs j no_region)
      → AreBudgetTreesOn g h owner d rs trees → length qs ≡ length rs → AreOn h k qs
      → total trees ≡ᵍ parts_tree Spot (Moves g settled regions are owner) Deep qs
  unfolding total parts_tree
  trees_for h k [] none [] at w e on = same-refl (node none none)
  trees_for h k [] none (q ∷ qs) at w e on = absurd (omega (arith, e))
  trees_for h k [] (more G Gs) qs at w e on = absurd w
  trees_for h k (r ∷ rs) none qs at w e on = absurd w
  trees_for h k (r ∷ rs) (more G Gs) [] at w e on = absurd (omega (arith, e))
  trees_for h k (r ∷ rs) (more G Gs) (q ∷ qs) at ((cells, holds, (j, serves, tree)), w) e on =
      let here : region_at regions k ≡ r = ap (λ j. region_at regions j) (omega arith) ∙ at 0 (omega arith) in
      let own = first h k q qs on in
      let holds' = subst (λ x. HoldsPosition g x cells h) (sym here) holds in
      let same : cells ≡ q.cells = one_cells (region_at regions k) cells q.cells h (holds'.long, holds'.local) (own.held.holds.long, own.held.holds.local) in
      let tree' = subst (λ x. IsBudgetTree x.touch owner j cells G) (sym here) tree in
      let serves' = subst (ServesFor (region_at regions k) owner j) (sym own.budget) (subst (λ x. ServesFor x owner j (d x)) (sym here) serves) in
      let one = tree_for h k j q G own serves' (subst (λ x. IsBudgetTree (region_at regions k).touch owner j x G) same tree') in
      let rest = trees_for h (suc k) rs Gs qs (λ j lt. ap (λ i. region_at regions i) (omega arith) ∙ at (suc j) (omega (arith, lt))) w
      (omega (arith, e)) (later h k q qs on) in
      same-plus _ _ _ _ one rest

  abbrev Play : Budgeted → Budgeted → Type 0
  Play = LeadsWithin regions owner

  abbrev PartsPlay : State Spot → State Spot → Type 0
  PartsPlay = Leads Spot (Moves g settled regions are owner)

  parts_on : (t : Whole) (u : State Spot) → Shows g settled regions are owner (with t d) u → AreOn t.board 0 u.parts
  parts_on t u w i lt = subst (λ z. IsSpotOn g settled regions are owner t.board d z (part g settled regions are owner u.parts i)) (omega arith)
      (w.each i (omega (arith, lt, w.count)))

  -- who wins with the budgets is told by the sum
  decided : (t : Whole) (u : State Spot) (trees : Trees) → Shows g settled regions are owner (with t d) u
      → AreBudgetTreesOn g t.board owner d regions trees → WinsWithBudgets regions owner t d ↔ WinsGame owner t.side (total trees +ᵍ money_tree t.purses)
  decided t u trees w on = (to, from)
    where
      G : Tree
      G = state_tree Spot (Moves g settled regions are owner) Deep u

      on_board : AreOn t.board 0 u.parts
      on_board = parts_on t u w

      is : IsDecidedBy Spot (Moves g settled regions are owner) G u
      is = decomposes Spot (Moves g settled regions are owner) Deep u (all_end t.board 0 u.parts on_board)

      same : G ≡ᵍ (total trees +ᵍ money_tree t.purses)
      same =
          let sum = trees_for t.board 0 regions trees u.parts (λ j lt. ap (region_at regions) (omega arith)) on w.count on_board in
          same-plus _ _ _ _ (same-sym _ _ sum) (subst (λ m. purses_tree u.purses ≡ᵍ money_tree m) (sym w.purses) (money_same u.purses))

      Wins : Tree → Type 0
      Wins H = WinsGame owner t.side H

      to : WinsWithBudgets regions owner t d → WinsGame owner t.side (total trees +ᵍ money_tree t.purses)
      to h = wins-same owner t.side G (total trees +ᵍ money_tree t.purses) same (by h)
        where
          by : WinsWithBudgets regions owner t d → WinsGame owner t.side G
          by (inl (own, (n, x))) =
              let x' = wins-forth Budgeted (State Spot) Play PartsPlay (Shows g settled regions are owner) (matches g settled regions are owner) n (with t d) u w x in
              inl (own, λ l. (let y = is.loser.1 (subst (λ c. LosesGame c G) w.turn l) in wins-not_loses (State Spot) PartsPlay n y.0 u x' y.1))
          by (inr (other_one, (n, x))) =
              let x' = loses-forth Budgeted (State Spot) Play PartsPlay (Shows g settled regions are owner) (matches g settled regions are owner) n (with t d) u w x in
              inr (other_one, subst (λ c. LosesGame c G) (sym w.turn) (is.loser.0 (n, x')))

      from : WinsGame owner t.side (total trees +ᵍ money_tree t.purses) → WinsWithBudgets regions owner t d
      from h = by (wins-same owner t.side (total trees +ᵍ money_tree t.purses) G (same-sym _ _ same) h)
        where
          loses : LosesGame t.side G → MoverLoses Budgeted Play (with t d)
          loses l =
              let y = is.loser.1 (subst (λ c. LosesGame c G) w.turn l) in
              (y.0, loses-forth (State Spot) Budgeted PartsPlay Play (λ v p. Shows g settled regions are owner p v) (matches_back g settled regions are owner) y.0 u (with t d) w y.1)

          by : WinsGame owner t.side G → WinsWithBudgets regions owner t d
          by (inl (own, f)) = elim is.has_winner [
            | inl x ↦ inl (
              own,
              (
                x.0,
                wins-forth (State Spot) Budgeted PartsPlay Play (λ v p. Shows g settled regions are owner p v)
                    (matches_back g settled regions are owner) x.0 u (with t d) w x.1,
              ),
            )
            | inr x ↦ absurd (f (subst (λ c. LosesGame c G) (sym w.turn) (is.loser.0 x)))
          ]
          by (inr (other_one, l)) = inr (other_one, loses l)

  -- play with the budgets ends
  ends_by : (n : ℕ) (p : Budgeted) (u : State Spot) → Shows g settled regions are owner p u → EndsWithin (State Spot) PartsPlay n u
      → EndsWithin Budgeted Play n p
  ends_by zero p u w e = λ q h. let (v, leads, shows) = forth g settled regions are owner p q u w h in e v leads
  ends_by (suc n) p u w e = λ q h. let (v, leads, shows) = forth g settled regions are owner p q u w h in ends_by n q v shows (e v leads)

  play_ends : (t : Whole) (u : State Spot) → Shows g settled regions are owner (with t d) u → (n : ℕ) × EndsWithin Budgeted Play n (with t d)
  play_ends t u w =
      let (n, e) = play-ends Spot (Moves g settled regions are owner) Deep u (all_end t.board 0 u.parts (parts_on t u w)) in
      (n, ends_by n (with t d) u w e)

-- Each state that is seen as its regions' positions is seen as these with their budgets.
module _ (g : Board) (regions : List Region) where
  abbrev Shown : Board → ℕ → List Position → Type 0
  Shown h k qs = AllShown Position (moves_of regions (length g.cells)) (IsPointOf regions) (IsHeld g regions) h k qs

  shown_at : (h : Board) (k : ℕ) (qs : List Position) (nought : Position) → Shown h k qs → (i : ℕ) → i < length qs → IsHeld g regions h (k + i) (get_or qs i nought)
  shown_at h k [] nought w i lt = absurd (omega (arith, lt))
  shown_at h k (q ∷ qs) nought w zero lt = subst (λ z. IsHeld g regions h z q) (omega arith) w.0
  shown_at h k (q ∷ qs) nought w (suc i) lt =
      subst (λ z. IsHeld g regions h z (get_or qs i nought)) (omega arith) (shown_at h (suc k) qs nought w.1 i (omega (arith, lt)))

module _ (g : Board) (settled : IsSettled g) (regions : List Region) (are : AreRegionsOfPlay g regions) (owner : Colour) (d : Region → ℕ) where
  abbrev with_budget : Position → Spot
  with_budget q = record { region = q.region; cells = q.cells; budget = d (region_at regions q.region) }

  budget_spots : (t : Whole) (v : State Position) → SeenAs g settled regions are t v → (u : State Spot) × Shows g settled regions are owner (with t d) u
  budget_spots t v (keeps, seen) = (
    record { parts = map with_budget v.parts; purses = v.purses; side = v.side },
    record {
      keeps = keeps;
      count = length-map v.parts with_budget ∙ seen.count;
      each = λ k lt.
          let inside : k < length v.parts = omega (arith, lt, seen.count) in
          let nought = position_in 0 [] in
          let q = get_or v.parts k nought in
          let held : IsHeld g regions t.board k q =
          subst (λ z. IsHeld g regions t.board z q) (omega arith) (shown_at g regions t.board 0 v.parts nought seen.shown k inside) in
          let there : IsSpotOn g settled regions are owner t.board d k (with_budget q) = record {
            region = held.region;
            budget = ap (λ z. d (region_at regions z)) held.region;
            held = record { region = refl; known = held.known; reachable = held.reachable; holds = held.holds };
          } in
          subst (IsSpotOn g settled regions are owner t.board d k) (sym (get_or-map with_budget v.parts k nought no_spot inside)) there;
      purses = seen.purses;
      turn = seen.turn;
    },
  )

module _ (g h : Board) (owner : Colour) where
  -- a budget that none of the trees is greater than
  greatest : (rs : List Region) (trees : Trees) → AreSteadyTreesOn g h owner rs trees → ℕ
  greatest [] none w = 0
  greatest [] (more G Gs) w = absurd w
  greatest (r ∷ rs) none w = absurd w
  greatest (r ∷ rs) (more G Gs) ((cells, holds, (j, steady, tree)), w) = max j (greatest rs Gs w)

  -- steady trees serve for each budget that is at least as great
  serving : (rs : List Region) (trees : Trees) (w : AreSteadyTreesOn g h owner rs trees) (d : ℕ) → greatest rs trees w ≤ d → AreBudgetTreesOn g h owner (λ r. d) rs trees
  unfolding greatest
  serving [] none w d le = tt
  serving [] (more G Gs) w d le = absurd w
  serving (r ∷ rs) none w d le = absurd w
  serving (r ∷ rs) (more G Gs) ((cells, holds, (j, steady, tree)), w) d le =
      ((cells, holds, (j, inr (omega (arith, le), steady), tree)), serving rs Gs w d (omega (arith, le)))

-- A state that keeps its walls, with reachable positions in the regions.
module _ (g : Board) (settled : IsSettled g) (regions : List Region) (are : AreRegionsOfPlay g regions) (owner : Colour) (t : Whole) (keeps : Keeps g t)
    (reached : (j : ℕ) → j < length regions → (cells : List Cell) × HoldsReached g settled regions are t.board j cells) where
  -- who wins with budgets is told by the sum of trees that serve for them
  pub wins_by_sum : (b : Region → ℕ) (trees : Trees) → AreBudgetTreesOn g t.board owner b regions trees
      → WinsWithBudgets regions owner t b ↔ WinsGame owner t.side (total trees +ᵍ money_tree t.purses)
  wins_by_sum b trees on =
      let (v, seen) = seen_now g settled regions are t keeps reached in
      let (u, shows) = budget_spots g settled regions are owner b t v seen in
      decided g settled regions are owner b t u trees shows on

  -- play with budgets ends
  pub budget_play_ends : (b : Region → ℕ) → (n : ℕ) × EndsWithin Budgeted (LeadsWithin regions owner) n (with t b)
  budget_play_ends b =
      let (v, seen) = seen_now g settled regions are t keeps reached in
      let (u, shows) = budget_spots g settled regions are owner b t v seen in
      play_ends g settled regions are owner b t u shows

  -- who wins is told by the sum of steady trees
  pub winner_by_sum : (trees : Trees) → AreSteadyTreesOn g t.board owner regions trees
      → IsWinner t owner ↔ WinsGame owner t.side (total trees +ᵍ money_tree t.purses)
  winner_by_sum trees on =
      let most = greatest g t.board owner regions trees on in
      let told = λ (d : ℕ) (le : most ≤ d). wins_by_sum (λ r. d) trees (serving g t.board owner regions trees on d le) in (
        λ wins.
            let (j, w) = (some_win regions owner t).0 wins in
            (told (max most j) (omega arith)).0 (greater_win regions owner t (λ r. j) (λ r. max most j) (λ r i. omega arith) w),
        λ w. budgets_win regions owner t (λ r. most) ((told most (omega arith)).1 w),
      )

-- each state that moves reach from an opening is such a state
module _ (g : Board) (settled : IsSettled g) (regions : List Region) (are : AreRegionsOfPlay g regions) (black white : ℕ) (komi : ℤ)
    (side : Colour) (tax : Bool) (s t : Whole) (ms : List Move) (opens : IsOpening g black white komi side tax s) (plays : Plays s ms t) where
  pub reached_from : (j : ℕ) → j < length regions → (cells : List Cell) × HoldsReached g settled regions are t.board j cells
  reached_from j lt =
      let (v, (keeps, seen)) = seen_from_opening g settled regions are black white komi side tax s t ms opens plays in
      let nought = position_in 0 [] in
      let held : IsHeld g regions t.board j (get_or v.parts j nought) =
      subst (λ z. IsHeld g regions t.board z (get_or v.parts j nought)) (omega arith) (shown_at g regions t.board 0 v.parts nought seen.shown j (omega (arith, lt, seen.count))) in
      ((get_or v.parts j nought).cells, (held.reachable, held.holds))

  pub keeps_from : Keeps g t
  keeps_from = keeps_plays g settled s t ms (keeps_start g black white komi side tax s opens) plays

pub budgets_decompose : BudgetsDecompose
budgets_decompose g regions black white komi side tax s t ms settled are opens plays owner =
    wins_by_sum g settled regions are owner t (keeps_from g settled regions are black white komi side tax s t ms opens plays)
    (reached_from g settled regions are black white komi side tax s t ms opens plays)

pub steady_decides : SteadyDecides
steady_decides g regions black white komi side tax s t ms settled are opens plays owner =
    winner_by_sum g settled regions are owner t (keeps_from g settled regions are black white komi side tax s t ms opens plays)
    (reached_from g settled regions are black white komi side tax s t ms opens plays)
