-- All positions of so many places, and whether local moves lead from the one to the other.
use Rattle.std.proofs.Common.{ℕ, zero, suc, ◌^◌, ◌≡◌, ◌<◌, ◌⊎◌, inl, inr, refl, sym, ap, ◌∙◌, subst, arith, List, [], ◌∷◌, ◌++◌, length, get_or, map, length-append, Contains}
use Rattle.std.proofs.Math.Nat.{pow-suc}
use Rattle.std.proofs.lemmas.Bool.{cases_lt}
use Rattle.std.proofs.lemmas.List.{length-map, get_or-map, get_or_default}
use Rattle.std.proofs.lemmas.List.Elements.{Contains-append_left, Contains-append_right}
use Rattle.go_grid.specs.declared.grid.Cell.{Cell}
use Rattle.go_grid.specs.declared.grid.Cell.TheVariants as cell
use Rattle.go_grid.specs.declared.grid.Colour.{Colour}
use Rattle.go_grid.specs.declared.grid.Colour.TheVariants.{Black, White}
use Rattle.go_grid.specs.declared.region.Touch.{Touch}
use Rattle.go_grid.specs.Path.{HasPath}
use Rattle.go_grid.proofs.DecidedLemmas.{Decided, alike, both, either, leads_or_not, some_below}
use Rattle.go_grid.proofs.PathLemmas.{carried, leads_end, leads_here, leads_step}
use Rattle.go_grid.proofs.PlayLemmas.{long_after}
use Rattle.local_play.specs.LocalPlay.{IsLocalMove}
use Rattle.local_graph.specs.declared.cycle.CycleMove.{CycleMove}
use Rattle.local_graph.specs.LocalGraph.{Plays, IsReachable}
use Rattle.local_graph.proofs.PlayLemmas.{plays_more}
use Rattle.local_trees.proofs.MoveLaws.{move_or_not, same_cells_or_not}

-- the positions with a cell in front
fronted : Cell → List (List Cell) → List (List Cell)
fronted x = map (λ cells. x ∷ cells)

-- all positions of so many places
pub all_cells : ℕ → List (List Cell)
all_cells zero = [] ∷ []
all_cells (suc n) = fronted cell.Empty (all_cells n) ++ (fronted cell.Black (all_cells n) ++ fronted cell.White (all_cells n))

in_fronted : (x : Cell) (cells : List Cell) (found : List (List Cell)) → Contains found cells → Contains (fronted x found) (x ∷ cells)
unfolding fronted
in_fronted x cells found (k, lt, at) =
    (k, omega (arith, lt, length-map found (λ cs. x ∷ cs)), get_or-map (λ cs. x ∷ cs) found k cells (x ∷ cells) lt ∙ ap (λ cs. x ∷ cs) at)

pub in_all : (cells : List Cell) → Contains (all_cells (length cells)) cells
unfolding all_cells
in_all [] = (0, omega arith, refl)
in_all (x ∷ cells) = at x (in_fronted x cells (all_cells (length cells)) (in_all cells))
  where
    at : (y : Cell) → Contains (fronted y (all_cells (length cells))) (y ∷ cells) → Contains (all_cells (suc (length cells))) (y ∷ cells)
    at cell.Empty h = Contains-append_left _ _ _ h
    at cell.Black h = Contains-append_right (fronted cell.Empty (all_cells (length cells))) _ _ (Contains-append_left _ _ _ h)
    at cell.White h =
        Contains-append_right (fronted cell.Empty (all_cells (length cells))) _ _
        (Contains-append_right (fronted cell.Black (all_cells (length cells))) _ _ h)

pub all_long : (n : ℕ) → length (all_cells n) ≡ 3 ^ n
unfolding all_cells fronted
all_long zero = omega arith
all_long (suc n) =
    let rest = all_long n in
    let found = all_cells n in
    rw pow-suc (omega (
      arith,
      rest,
      length-map found (λ cs. cell.Empty ∷ cs),
      length-map found (λ cs. cell.Black ∷ cs),
      length-map found (λ cs. cell.White ∷ cs),
      length-append (map (λ cs. cell.Empty ∷ cs) found) (map (λ cs. cell.Black ∷ cs) found ++ map (λ cs. cell.White ∷ cs) found),
      length-append (map (λ cs. cell.Black ∷ cs) found) (map (λ cs. cell.White ∷ cs) found),
    ))

module _ (touch : List Touch) (n : ℕ) where
  at : ℕ → List Cell
  at i = get_or (all_cells n) i []

  abbrev Inside : ℕ → Type 0
  Inside i = i < length (all_cells n)

  -- some local move leads from the one to the other
  abbrev Leads : ℕ → ℕ → Type 0
  Leads i j = (c : Colour) × ((p : ℕ) × IsLocalMove touch (at i) c p (at j))

  leads-or-not : (i j : ℕ) → Decided (Leads i j)
  leads-or-not i j = alike _ _ (λ w. elim w [ inl (p, m) ↦ (Black, (p, m)) | inr (p, m) ↦ (White, (p, m)) ])
      (λ (c, w). of_colour c w) (either _ _ (move_or_not touch (at i) Black (at j)) (move_or_not touch (at i) White (at j)))
    where
      of_colour : (c : Colour) → ((p : ℕ) × IsLocalMove touch (at i) c p (at j))
          → ((p : ℕ) × IsLocalMove touch (at i) Black p (at j)) ⊎ ((p : ℕ) × IsLocalMove touch (at i) White p (at j))
      of_colour Black w = inl w
      of_colour White w = inr w

  place_of : (cells : List Cell) → length cells ≡ n → (i : ℕ) × Inside i × (at i ≡ cells)
  unfolding at
  place_of cells long =
      let (i, lt, e) = subst (λ m. Contains (all_cells m) cells) long (in_all cells) in
      (i, lt, get_or_default (all_cells n) i [] cells lt ∙ e)

  -- a path of places is local play
  path_plays : (i j : ℕ) → Inside i → HasPath Leads Inside i j → IsReachable touch (at i) (at j)
  path_plays i j lt path = carried Leads Inside (λ k. IsReachable touch (at i) (at k))
      (λ k l (ms, plays) (c, (p, move)) _.
      let m : CycleMove = record { colour = c; place = p } in
      (ms ++ m ∷ [], plays_more touch (at i) (at k) (at l) ms m plays move)) i j ([], refl) path

  -- and local play is a path of places
  plays_path : (start i : ℕ) (from to : List Cell) (ms : List CycleMove) → HasPath Leads Inside start i → at i ≡ from → length from ≡ n
      → Plays touch from ms to → (j : ℕ) × Inside j × (HasPath Leads Inside start j × (at j ≡ to))
  plays_path start i from to [] path is long e = (i, leads_end Leads Inside start i path, (path, is ∙ e))
  plays_path start i from to (m ∷ ms) path is long (next, move, rest) =
      let long' : length next ≡ n = long_after move ∙ long in
      let (k, lt, there) = place_of next long' in
      let step : Leads i k = (
        m.colour,
        (
          m.place,
          subst (λ z. IsLocalMove touch (at i) m.colour m.place z) (sym there)
              (subst (λ z. IsLocalMove touch z m.colour m.place next) (sym is) move),
        ),
      ) in
      plays_path start k next to ms (leads_step Leads Inside start i k path step lt) there long' rest

  reached : (i : ℕ) → Inside i → length (at i) ≡ n → (to : List Cell) → Decided (IsReachable touch (at i) to)
  reached i lt long to = alike _ _
      (λ (j, _, (path, is)). subst (IsReachable touch (at i)) is (path_plays i j lt path))
      (λ (ms, plays). plays_path i i (at i) to ms (leads_here Leads Inside i lt) refl long plays)
      (some_below (length (all_cells n)) (λ j. HasPath Leads Inside i j × (at j ≡ to)) (λ j. both _ _
      (leads_or_not Leads Inside (length (all_cells n)) (λ k h. h) leads-or-not inside_or_not i j) (same_cells_or_not (at j) to)))
    where
      inside_or_not : (k : ℕ) → Decided (Inside k)
      inside_or_not k = elim (cases_lt k (length (all_cells n))) [ inl less ↦ inl less | inr le ↦ inr (λ less. omega (arith, less, le)) ]

-- whether a position is reachable from another
pub reachable_or_not : (touch : List Touch) (from to : List Cell) → Decided (IsReachable touch from to)
reachable_or_not touch from to =
    let (i, lt, is) = place_of touch (length from) from refl in
    subst (λ z. Decided (IsReachable touch z to)) is (reached touch (length from) i lt (ap length is) to)
