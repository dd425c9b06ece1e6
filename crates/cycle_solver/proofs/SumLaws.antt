-- The values of a player tell whether the player wins: the sum of those of the present positions, beside what the purses are worth.
use Rattle.std.proofs.Common.{ℕ, ℤ, ◌≡◌, ◌-◌, ◌↔◌, ◌<◌, ◌≤◌, ◌^◌, ◌*ℤ◌, arith, pos, inl, inr, refl, sym, ap, ◌∙◌, subst, List, [], ◌∷◌, length, get_or, set, min, Bool, IsTrue, suc, ◌+◌, below_more, length-set, replicate}
use Rattle.std.proofs.lemmas.List.{ext_get_or, get_or-replicate, get_or-set_other, get_or-set_same, length-replicate}
use Rattle.go_grid.specs.declared.grid.Cell.{Cell}
use Rattle.go_grid.specs.declared.grid.Colour.{Colour}
use Rattle.go_grid.specs.declared.grid.Colour.TheVariants.{Black, White}
use Rattle.go_grid.specs.Board.{Board, other}
use Rattle.go_grid.specs.Region.{Region}
use Rattle.region_cut.specs.LocalBoard.{HoldsPosition}
use Rattle.whole_rules.specs.declared.money.Purses.{Purses}
use Rattle.whole_rules.specs.FirstWinningMove.{IsWinner}
use Rattle.whole_rules.specs.WholeGame.{Whole}
use Rattle.whole_rules.proofs.WallLaws.{Keeps}
use Rattle.short_games.specs.Tree.{Tree, Trees, none, more, node, tree_at}
use Rattle.short_games.specs.Number.{num, number_tree}
use Rattle.short_games.specs.Order.{◌≡ᵍ◌}
use Rattle.short_games.specs.Sum.{◌+ᵍ◌, total}
use Rattle.short_games.proofs.OrderLaws.{same-refl, same-sym, same-trans}
use Rattle.short_games.proofs.StopLaws.{num-scaled}
use Rattle.short_games.proofs.SumLaws.{same-plus}
use Rattle.game_store.specs.Meaning.{pick}
use Rattle.game_canon.specs.Outcomes.{AreWithin}
use Rattle.game_players.specs.Players.{LosesGame}
use Rattle.sum_outcome.specs.Sums.{IsBounded, sum_tree}
use Rattle.local_trees.specs.Steady.{IsBudgetValue, IsSteady}
use Rattle.endgame_solver.specs.Decomposition.{money_tree}
use Rattle.endgame_solver.specs.ModestGames.{AreModestGames, most_value}
use Rattle.endgame_solver.specs.Regions.{no_region, region_at}
use Rattle.endgame_solver.specs.SumGame.{AreModest, balance}
use Rattle.endgame_solver.proofs.HeldLaws.{small_bounded, small_units}
use Rattle.endgame_solver.proofs.PartsLaws.{purses-balance}
use Rattle.endgame_solver.proofs.WholeLaws.{HoldsReached, money_same}
use Rattle.whole_budgets.specs.BudgetPlay.{WinsWithBudgets, WinsWithCaptures}
use Rattle.whole_budgets.specs.BudgetSums.{AreTreesWith, ServesFor, WinsGame}
use Rattle.whole_budgets.specs.EnginePlay.{WinsWithList, budget_in}
use Rattle.whole_budgets.proofs.BudgetListLemmas.{budget_there}
use Rattle.whole_budgets.proofs.BudgetPlayLemmas.{other_not}
use Rattle.whole_budgets.proofs.BudgetSumLaws.{winner_by_sum, wins-same, wins_by_sum}
use Rattle.cycle_solver.specs.declared.region_game.RegionGame.{RegionGame}
use Rattle.cycle_solver.specs.GameLists.{game_at, layers_for}
use Rattle.cycle_solver.specs.Held.{AreSolved, AreSummed, AreSummedBy, HaveOpenings, HavePlaces, IsAt, IsHeld, enough, ids_with, place_at}

-- values of positions that a board holds are as good as some trees of them
module _ (g h : Board) (c : Colour) (IsFit : Region → ℕ → Type 0) (Ts : List Tree) where
  abbrev pub IsValuedAt : Region → ℕ → Type 0
  IsValuedAt r id = (cells : List Cell) × HoldsPosition g r cells h × ((j : ℕ) × IsFit r j × IsBudgetValue r.touch c j cells (tree_at Ts id))

  valued : (rs : List Region) (ids : List ℕ) → length ids ≡ length rs
      → ((k : ℕ) → k < length rs → IsValuedAt (get_or rs k no_region) (get_or ids k 0))
      → (trees : Trees) × AreTreesWith g h c IsFit rs trees × (total trees ≡ᵍ total (pick Ts ids))
  unfolding total
  valued [] [] e w = (none, tt, same-refl (node none none))
  valued [] (id ∷ ids) e w = absurd (omega (arith, e))
  valued (r ∷ rs) [] e w = absurd (omega (arith, e))
  valued (r ∷ rs) (id ∷ ids) e w =
      let (cells, holds, (j, fit, value)) = w 0 (omega arith) in
      let (trees, on, same) = valued rs ids (omega (arith, e)) (λ k lt. w (suc k) (omega (arith, lt))) in
      (more value.tree trees, ((cells, holds, (j, fit, value.of_position)), on), same-plus _ _ _ _ value.same same)

-- the purses beside a sum are worth their balance
pub beside : (c side : Colour) (G H : Tree) (m : Purses) → G ≡ᵍ H → WinsGame c side (G +ᵍ money_tree m) ↔ WinsGame c side (H +ᵍ num 1 (balance m))
beside c side G H m e =
    let same : (G +ᵍ money_tree m) ≡ᵍ (H +ᵍ num 1 (balance m)) =
    same-plus _ _ _ _ e (same-trans _ _ _ (same-sym _ _ (money_same m)) (purses-balance m)) in
    (wins-same c side _ _ same, wins-same c side _ _ (same-sym _ _ same))

module _ {g : Board} {regions : List Region} {games : List RegionGame} {Ts : List Tree} (are : AreSolved g regions games Ts)
    {s : Whole} {places : List ℕ} (at : IsAt g regions games places s) where
  pub keeps : Keeps g s
  keeps = record { walls = at.walls; contested = at.contested }

  reached : (k : ℕ) → k < length regions → (cells : List Cell) × HoldsReached g are.settled regions are.cut s.board k cells
  reached k lt = let (cells, has, holds) = at.shown k lt in (cells, (has.reachable, holds))

  module _ (c : Colour) (budget : ℕ → ℕ) (ids : List ℕ) (summed : AreSummedBy games places c budget ids) where
    as_many : length ids ≡ length regions
    as_many = summed.many ∙ are.many

    -- an id is that of the value with each budget that its layer serves
    value_with : (IsFit : Region → ℕ → Type 0) (j k : ℕ) → k < length regions → IsFit (region_at regions k) j
        → ids_with (game_at games k) c (budget k) ≡ ids_with (game_at games k) c j
        → IsValuedAt g s.board c IsFit Ts (region_at regions k) (get_or ids k 0)
    value_with IsFit j k lt fit same =
        let r = region_at regions k in
        let (cells, has, holds) = at.shown k lt in
        let there : get_or ids k 0 ≡ get_or (ids_with (game_at games k) c j) (place_at places k) 0 =
        summed.each k (omega (arith, lt, are.many)) ∙ ap (λ xs. get_or xs (place_at places k) 0) same in
        let values = ((are.each k lt).layers c).values j in
        (cells, holds, (j, fit, subst (λ z. IsBudgetValue r.touch c j cells (tree_at Ts z)) (sym there) (values.each (place_at places k) cells has)))

    -- with these budgets the player wins where the sum says so
    pub wins_with : (b : Region → ℕ) → ((k : ℕ) → k < length regions → b (region_at regions k) ≡ budget k)
        → WinsWithBudgets regions c s b ↔ WinsGame c s.side (total (pick Ts ids) +ᵍ num 1 (balance s.purses))
    wins_with b agree =
        let (trees, on, same) = valued g s.board c (λ r j. ServesFor r c j (b r)) Ts regions ids as_many
        (λ k lt. value_with (λ r j. ServesFor r c j (b r)) (budget k) k lt (inl (sym (agree k lt))) refl) in
        let sum = wins_by_sum g are.settled regions are.cut c s keeps reached b trees on in
        let money = beside c s.side (total trees) (total (pick Ts ids)) s.purses same in
        (λ w. money.0 (sum.0 w), λ w. sum.1 (money.1 w))

    -- and so with a list of them
    pub wins_listed : (bs : List ℕ) → ((k : ℕ) → k < length regions → budget k ≡ get_or bs k 0)
        → WinsWithList regions c s bs ↔ WinsGame c s.side (total (pick Ts ids) +ᵍ num 1 (balance s.purses))
    wins_listed bs agree = wins_with (budget_in regions bs) (λ k lt. budget_there g regions are.cut bs k lt ∙ sym (agree k lt))

  module _ (c : Colour) (budget : ℕ) (ids : List ℕ) (summed : AreSummed games places c budget ids) where
    -- with a budget that no region needs more than the sum says where the player wins
    pub wins : enough ≤ budget → IsWinner s c ↔ WinsGame c s.side (total (pick Ts ids) +ᵍ num 1 (balance s.purses))
    wins le =
        let IsFit : Region → ℕ → Type 0 = λ r j. IsSteady r.touch r.cells c j in
        let (trees, on, same) = valued g s.board c IsFit Ts regions ids (summed.many ∙ are.many) (λ k lt.
        let w = (are.each k lt).layers c in
        let layer : (j : ℕ) → w.budget ≤ j → min j (length (layers_for (game_at games k) c) - 1) ≡ w.budget = λ j more. omega (arith, more, w.many) in
        let last : ids_with (game_at games k) c budget ≡ ids_with (game_at games k) c w.budget =
        ap (λ z. get_or (layers_for (game_at games k) c) z []) (layer budget (omega (arith, le, w.few)) ∙ sym (layer w.budget (omega arith))) in
        value_with c (λ j. budget) ids summed IsFit w.budget k lt w.least.steady last) in
        let sum = winner_by_sum g are.settled regions are.cut c s keeps reached trees on in
        let money = beside c s.side (total trees) (total (pick Ts ids)) s.purses same in
        (λ w. money.0 (sum.0 w), λ w. sum.1 (money.1 w))

-- What a search answers of a sum, as who wins.

other_one : (c d : Colour) → ¬ (c ≡ d) → d ≡ other c
other_one Black Black not = absurd (not refl)
other_one Black White not = refl
other_one White Black not = refl
other_one White White not = absurd (not refl)

abbrev Beside : List Tree → List ℕ → Purses → Tree
Beside Ts ids m = total (pick Ts ids) +ᵍ num 1 (balance m)

module _ (Ts : List Tree) (ids : List ℕ) (m : Purses) {x : ℤ} (number : x ≡ balance m *ℤ pos (2 ^ 59)) (side player : Colour) {b : Bool}
    (answer : IsTrue b ↔ LosesGame side (sum_tree Ts ids x)) where
  there : sum_tree Ts ids x ≡ Beside Ts ids m
  there = ap (λ z. total (pick Ts ids) +ᵍ number_tree z) number ∙ ap (λ t. total (pick Ts ids) +ᵍ t) (num-scaled 59 1 (balance m))

  lost : IsTrue b ↔ LosesGame side (Beside Ts ids m)
  lost = (λ h. subst (LosesGame side) there (answer.0 h), λ l. answer.1 (subst (LosesGame side) (sym there) l))

  pub other_wins : ¬ (side ≡ player) → IsTrue b ↔ WinsGame player side (Beside Ts ids m)
  other_wins not = (
    λ h. inr (other_one side player not, lost.0 h),
    λ w. elim w [
      | inl (same, f) ↦ absurd (not (sym same))
      | inr (theirs, l) ↦ lost.1 l
    ],
  )

  pub mover_wins : {r : Bool} → IsTrue r ↔ (¬ IsTrue b) → side ≡ player → IsTrue r ↔ WinsGame player side (Beside Ts ids m)
  mover_wins turned same = (
    λ h. inl (sym same, λ l. turned.0 h (lost.1 l)),
    λ w. elim w [
      | inl (is, f) ↦ turned.1 (λ h. f (lost.0 h))
      | inr (theirs, l) ↦ absurd (other_not side (same ∙ theirs))
    ],
  )

-- a sum of games with small numbers fits a search, beside small purses
pub sum_bounded : {Ts : List Tree} {ids : List ℕ} {m : Purses} {x : ℤ} → AreModestGames Ts ids → AreModest m → x ≡ balance m *ℤ pos (2 ^ 59)
    → IsBounded (pick Ts ids) x
sum_bounded {Ts} {ids} {m} {x} games small number =
    subst (IsBounded (pick Ts ids)) (sym number) (small_bounded most_value Ts ids (balance m *ℤ pos (2 ^ 59)) (omega arith) games.few games.within (small_units m small))

module _ {g : Board} {regions : List Region} {games : List RegionGame} {Ts : List Tree} (are : AreSolved g regions games Ts)
    {s : Whole} {places : List ℕ} (at : IsAt g regions games places s) (c : Colour) where
  place_inside : (budget k : ℕ) → k < length games → place_at places k < length (ids_with (game_at games k) c budget)
  place_inside budget k lt =
      let known : k < length regions = omega (arith, lt, are.many) in
      omega (arith, (at.shown k known).1.inside, (((are.each k known).layers c).values budget).long)

  -- each region's present position has a value
  pub have_places : (budget : ℕ) → HavePlaces games places c budget
  have_places budget = record { many = at.many ∙ sym are.many; inside = place_inside budget }

  -- the games of the sum are small
  pub modest_games : (budget : ℕ → ℕ) (ids : List ℕ) → AreSummedBy games places c budget ids → AreModestGames Ts ids
  modest_games budget ids summed = record {
    known = λ j lt. subst (λ z. z < length Ts) (sym (summed.each j (short j lt)))
        ((((are.each j (known j lt)).layers c).values (budget j)).known (place_at places j) (place_inside (budget j) j (short j lt)));
    few = omega (arith, summed.many, are.many, are.few);
    within = λ j lt. subst (λ z. AreWithin most_value (tree_at Ts z)) (sym (summed.each j (short j lt)))
        (((are.each j (known j lt)).layers c).within (budget j) (place_at places j) (at.shown j (known j lt)).1.inside);
  }
    where
      short : (j : ℕ) → j < length ids → j < length games
      short j lt = omega (arith, lt, summed.many)

      known : (j : ℕ) → j < length ids → j < length regions
      known j lt = omega (arith, lt, summed.many, are.many)

-- ids are summed one after the other
abbrev pub SummedBelow : List RegionGame → List ℕ → Colour → (ℕ → ℕ) → ℕ → List ℕ → Type 0
SummedBelow games places c budget n ids = (length ids ≡ length games)
    × ((k : ℕ) → k < n → get_or ids k 0 ≡ get_or (ids_with (game_at games k) c (budget k)) (place_at places k) 0)

pub summed_more : (games : List RegionGame) (places : List ℕ) (c : Colour) (budget : ℕ → ℕ) (n : ℕ) (ids : List ℕ) (id : ℕ) → n < length games
    → SummedBelow games places c budget n ids → id ≡ get_or (ids_with (game_at games n) c (budget n)) (place_at places n) 0
    → SummedBelow games places c budget (n + 1) (set ids n id)
summed_more games places c budget n ids id lt (many, each) is = (
  length-set ids n id ∙ many,
  below_more (λ k. get_or (set ids n id) k 0 ≡ get_or (ids_with (game_at games k) c (budget k)) (place_at places k) 0) n
      (λ k less. get_or-set_other ids n k id 0 (λ e. omega (arith, less, e)) ∙ each k less)
      (get_or-set_same ids n id 0 (omega (arith, lt, many)) ∙ is),
)

-- and are compared one after the other
pub summed_on : (games : List RegionGame) (places : List ℕ) (c : Colour) (budget : ℕ → ℕ) (n : ℕ) (ids : List ℕ)
    → SummedBelow games places c budget n ids → get_or ids n 0 ≡ get_or (ids_with (game_at games n) c (budget n)) (place_at places n) 0
    → SummedBelow games places c budget (n + 1) ids
summed_on games places c budget n ids (many, each) is =
    (many, below_more (λ k. get_or ids k 0 ≡ get_or (ids_with (game_at games k) c (budget k)) (place_at places k) 0) n each is)

-- two lists of the same player's values are one
pub one_sum : {games : List RegionGame} {places : List ℕ} {c : Colour} {budget : ℕ → ℕ} {ids others : List ℕ} → AreSummedBy games places c budget ids
    → AreSummedBy games places c budget others → ids ≡ others
one_sum {ids = ids} {others} a b = ext_get_or 0 ids others (a.many ∙ sym b.many)
    (λ k lt. let short = subst (λ n. k < n) a.many lt in a.each k short ∙ sym (b.each k short))

-- what is asked of the present state's side and purses
pub told : (Ts : List Tree) (ids : List ℕ) (s : Whole) {c side : Colour} {m : Purses} {b : Bool} {Wins : Type 0} → side ≡ s.side → m ≡ s.purses
    → IsTrue b ↔ WinsGame c side (total (pick Ts ids) +ᵍ num 1 (balance m))
    → Wins ↔ WinsGame c s.side (total (pick Ts ids) +ᵍ num 1 (balance s.purses)) → IsTrue b ↔ Wins
told Ts ids s {c} {side} {m} {b} {Wins} turn purses answer by_sum =
    let there : IsTrue b ↔ WinsGame c s.side (Beside Ts ids s.purses) =
    subst (λ d. IsTrue b ↔ WinsGame c d (Beside Ts ids s.purses)) turn (subst (λ z. IsTrue b ↔ WinsGame c side (Beside Ts ids z)) purses answer) in
    (λ h. by_sum.1 (there.0 h), λ w. there.1 (by_sum.0 w))

module _ {regions : List Region} {games : List RegionGame} {places : List ℕ} {Ts : List Tree} {s : Whole} (held : IsHeld regions games places Ts s) where
  pub held_modest : {m : Purses} → m ≡ s.purses → AreModest m
  held_modest is = subst AreModest (sym is) record { black = omega (arith, held.modest Black); white = omega (arith, held.modest White) }

  -- the winner wins with a budget whose values are those with one that no region needs more than
  pub filled_wins : (c : Colour) → IsWinner s c → (budget : ℕ) (ids : List ℕ) → AreSummed games places c budget ids → AreSummed games places c enough ids
      → WinsWithCaptures regions c s budget
  filled_wins c winner budget ids filled summed =
      (wins_with held.solved held.at c (λ k. budget) ids filled (λ r. budget) (λ k lt. refl)).1 ((wins held.solved held.at c enough ids summed (omega arith)).0 winner)

  pub enough_wins : (c : Colour) → IsWinner s c → (ids : List ℕ) → AreSummed games places c enough ids → WinsWithCaptures regions c s enough
  enough_wins c winner ids summed = filled_wins c winner enough ids summed summed

-- the openings stand first
pub first_places : {games : List RegionGame} {places : List ℕ} (c : Colour) (budget : ℕ) → HaveOpenings games → places ≡ replicate (length games) 0
    → HavePlaces games places c budget
first_places {games} {places} c budget have first = record {
  many = ap length first ∙ length-replicate (length games) 0;
  inside = λ k lt.
      let zero : place_at places k ≡ 0 = ap (λ xs. place_at xs k) first ∙ get_or-replicate (length games) k 0 0 lt in
      let some = have c budget k lt in
      omega (arith, zero, some);
}

-- lists that were lent whole are what they were
pub seen_lent : {regions rs : List Region} {games gs : List RegionGame} {places ps ids qs : List ℕ} {Ts : List Tree} {s : Whole} {c : Colour}
    → IsHeld regions games places Ts s → AreSummed games places c enough ids → rs ≡ regions → gs ≡ games → ps ≡ places → qs ≡ ids
    → IsHeld rs gs ps Ts s × AreSummed gs ps c enough qs
seen_lent {Ts = Ts} {s} {c} held summed r g p q =
    subst (λ T. T) (λ i. IsHeld (sym r i) (sym g i) (sym p i) Ts s × AreSummed (sym g i) (sym p i) c enough (sym q i)) (held, summed)
