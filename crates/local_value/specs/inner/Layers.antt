-- Edges as they are followed in one layer, where a list of ids has those of the layer and behind them those of the layer before.
use Rattle.std.specs.Prelude.{ℕ, ◌+◌, ◌-◌, ◌*◌, ◌^◌, ◌≡◌, ◌<◌, ◌≤◌, ◌⊎◌, List, [], ◌++◌, Bool, true, false, Option, None, Some, Result, Ok, Err, Contains, length, slice_index, slice_index_or}
use Rattle.dyadic_num.specs.declared.TheConstants.{EXPONENT}
use Rattle.go_grid.specs.declared.grid.Cell.{Cell}
use Rattle.go_grid.specs.Region.{Region}
use Rattle.short_games.specs.Tree.{Tree, tree_at}
use Rattle.short_games.specs.TextOrder.{IsCanonicalFor}
use Rattle.short_games.specs.Parts.{HasMoreParts}
use Rattle.game_canon.specs.Outcomes.{AreWithin, IsCanonicalId}
use Rattle.local_trees.specs.BudgetTree.{IsBudgetTree}
use Rattle.local_value.specs.BudgetValues.{plain_graph, Valued}
use Rattle.local_value.specs.declared.budgets.BudgetError.{BudgetError}
use Rattle.local_trees.specs.GraphPlaces.{IsPlaceOf}
use Rattle.local_value.specs.inner.Valuing.{AreWithinAfter, HasEdges}
use Rattle.go_grid.specs.declared.grid.Colour.{Colour}
use Rattle.local_graph.specs.declared.graph.Edge.{Edge}
use Rattle.local_graph.specs.ReturnGraph.{ReturnGraph, IsReturningCaptureAt}

-- by place what is marked where a move of the position may be a capture by the owner that returns
abbrev pub AreMarked : Colour → ReturnGraph → List Bool → Type 0
AreMarked owner g marks = (i : ℕ) → slice_index_or marks i true ≡ false → (e : Edge) → Contains (slice_index_or g.edges i []) e
    → ¬ IsReturningCaptureAt owner g.components i e

-- the edge to the layer before, whose ids stand behind so many
abbrev pub led_back : ℕ → Edge → Edge
led_back count e = record { next = e.next + count; colour = e.colour; place = e.place; taken = e.taken }

-- the edge as it is followed: a returning capture by the owner leads to the layer before, if there is one, and all else is as it is
abbrev pub IsFollowed : Colour → Option (List ℕ) → ℕ → ℕ → Bool → Edge → Option Edge → Type 0
IsFollowed owner components i count budget e None = IsReturningCaptureAt owner components i e × (budget ≡ false)
IsFollowed owner components i count budget e (Some f) = (¬ IsReturningCaptureAt owner components i e × (f ≡ e))
    ⊎ (IsReturningCaptureAt owner components i e × ((budget ≡ true) × (f ≡ led_back count e)))

-- the edges of a place as they are followed
pub record AreFollowed (owner : Colour) (components : Option (List ℕ)) (i count : ℕ) (budget : Bool) (es fs : List Edge) : Type 0 where
  pub from : (f : Edge) → Contains fs f → (e : Edge) × Contains es e × IsFollowed owner components i count budget e (Some f)
  pub to : (e : Edge) → Contains es e → (o : Option Edge) × IsFollowed owner components i count budget e o
      × ((f : Edge) → o ≡ Some f → Contains fs f)

-- the id is that of the value of the position at the place with a budget, whose numbers have a size of at most `size`
pub record IsLayerValue (r : Region) (g : ReturnGraph) (owner : Colour) (limit budget size : ℕ) (Ts : List Tree) (i id : ℕ) : Type 0 where
  pub known : id < length Ts
  pub canonical : (cells : List Cell) → IsPlaceOf r (plain_graph g) i cells → (G : Tree) → IsBudgetTree r.touch owner budget cells G
      → IsCanonicalFor G (tree_at Ts id)
  pub sizes : AreWithin size (tree_at Ts id)
  pub parts : HasMoreParts (tree_at Ts id) limit → ⊥

-- so large are the numbers of the values of the first `count` places of a layer at most, in the parts of a Dyadic
abbrev pub layer_size : Region → ReturnGraph → ℕ → ℕ → ℕ
layer_size r g budget count = ((budget * length g.positions + count) * (length r.cells + 1)) * 2 ^ EXPONENT

-- the ids are those of the values with the budget, by place
pub record IsLayer (r : Region) (g : ReturnGraph) (owner : Colour) (limit budget : ℕ) (Ts : List Tree) (ids : List ℕ) : Type 0 where
  pub long : length ids ≡ length g.positions
  pub each : (i : ℕ) → i < length g.positions
      → IsLayerValue r g owner limit budget (layer_size r g budget (length g.positions)) Ts i (slice_index ids i)

-- the lists are those of the values with each budget below their number
pub record AreLayers (r : Region) (g : ReturnGraph) (owner : Colour) (limit : ℕ) (Ts : List Tree) (layers : List (List ℕ)) : Type 0 where
  pub each : (j : ℕ) → j < length layers → IsLayer r g owner limit j Ts (slice_index_or layers j [])

-- the budget is 0, or there is one less
abbrev pub IsBudgetLeft : Bool → ℕ → Type 0
IsBudgetLeft false j = j ≡ 0
IsBudgetLeft true j = (k : ℕ) × (j ≡ k + 1)

-- the list stands so far from the end, or there is none and it is empty
abbrev pub IsLayerBack : List (List ℕ) → ℕ → List ℕ → Type 0
IsLayerBack layers back layer = ((back ≤ length layers) × (layer ≡ slice_index_or layers (length layers - back) []))
    ⊎ ((length layers < back) × (layer ≡ []))

-- so many ids, behind them those of the last layer, and behind these those of the layer before it
pub record IsRoom (count : ℕ) (layers : List (List ℕ)) (ids : List ℕ) : Type 0 where
  pub own : List ℕ
  pub last : List ℕ
  pub earlier : List ℕ
  pub many : length own ≡ count
  pub last_is : IsLayerBack layers 1 last
  pub earlier_is : IsLayerBack layers 2 earlier
  pub is : ids ≡ (own ++ last) ++ earlier

-- the id behind the edge is as it was one layer before
abbrev pub IsUnchanged : ℕ → List ℕ → Edge → Type 0
IsUnchanged count ids f = (f.next + count < length ids) × (slice_index ids (f.next + count) ≡ slice_index ids f.next)

-- the id is that of the place one layer before, and behind none of its followed edges did an id change
pub record IsKept (count : ℕ) (ids : List ℕ) (i : ℕ) (fs : List Edge) (id : ℕ) : Type 0 where
  pub there : i + count < length ids
  pub is : slice_index ids (i + count) ≡ id
  pub unchanged : (f : Edge) → Contains fs f → IsUnchanged count ids f

-- the id is that of the form of the games with these edges, made as the store grew
pub record IsMade (Ts Us : List Tree) (ids : List ℕ) (limit : ℕ) (fs : List Edge) (id : ℕ) : Type 0 where
  pub value : (G : Tree) → HasEdges Ts ids fs G → IsCanonicalId Us G id
  pub parts : HasMoreParts (tree_at Us id) limit → ⊥
  pub sizes : (b : ℕ) → AreWithinAfter b Ts ids fs → AreWithin (b + 2 ^ EXPONENT) (tree_at Us id)

-- what the layers are worth as an answer, or why there is none
abbrev pub AreValued : Region → ReturnGraph → Colour → ℕ → ℕ → List Tree → List (List ℕ) → Result (Unit {0}) BudgetError → Type 0
AreValued r g owner most limit Ts layers (Ok done) = Valued r g owner most limit Ts (Ok layers)
AreValued r g owner most limit Ts layers (Err e) = Valued r g owner most limit Ts (Err e)
