-- What a pass over a graph notes of its places, and what it makes of the edges of one.
use Rattle.std.specs.Prelude.{ℕ, ◌+◌, ◌-◌, ◌*◌, ◌^◌, ◌≡◌, ◌<◌, ◌≤◌, List, length, Contains, ℤ, unsigned_abs, slice_index}
use Rattle.dyadic_num.specs.declared.TheConstants.{EXPONENT, LIMIT}
use Rattle.go_grid.specs.declared.grid.Colour.{Colour}
use Rattle.go_grid.specs.declared.grid.Colour.TheVariants.{Black, White}
use Rattle.local_graph.specs.declared.graph.Edge.{Edge}
use Rattle.short_games.specs.Tree.{Tree, Has, tree_at}
use Rattle.short_games.specs.Order.{◌≡ᵍ◌}
use Rattle.short_games.specs.Sum.{◌+ᵍ◌}
use Rattle.short_games.specs.TextOrder.{IsCanonicalFor}
use Rattle.short_games.specs.Parts.{IsNumberOf}
use Rattle.game_canon.specs.Outcomes.{AreWithin}
use Rattle.game_players.specs.Players.{options, gain}

-- the tree that is noted for a place
abbrev pub noted : List Tree → List ℕ → ℕ → Tree
noted Ts ids i = tree_at Ts (slice_index ids i)

-- an id is noted for the place
abbrev pub IsNoted : List Tree → List ℕ → ℕ → Type 0
IsNoted Ts ids i = (i < length ids) × (slice_index ids i < length Ts)

-- the tree after an edge, with the stones that it takes
abbrev pub tree_after : List Tree → List ℕ → Edge → Tree
tree_after Ts ids e = noted Ts ids e.next +ᵍ gain e.colour e.taken

-- the numbers that are noted for the edge's end have a size of at most b with the stones added, in the parts of a Dyadic
abbrev pub IsWithinAfter : ℕ → List Tree → List ℕ → Edge → Type 0
IsWithinAfter b Ts ids e = (x : ℤ) → IsNumberOf (noted Ts ids e.next) x → unsigned_abs x + e.taken * 2 ^ EXPONENT ≤ b

-- the numbers that are noted for the end of each edge have a size of at most b with its stones added, in the parts of a Dyadic
abbrev pub AreWithinAfter : ℕ → List Tree → List ℕ → List Edge → Type 0
AreWithinAfter b Ts ids es = (e : Edge) → Contains es e → IsWithinAfter b Ts ids e

-- the greatest size of a number within the bounds, in the parts of a Dyadic
abbrev pub most_units : ℕ
most_units = unsigned_abs LIMIT - 1

-- an id of Us, which extends Ts: that of the canonical tree after the edge
pub record IsAfter (Ts Us : List Tree) (ids : List ℕ) (e : Edge) (id : ℕ) : Type 0 where
  pub known : id < length Us
  pub canonical : IsCanonicalFor (tree_after Ts ids e) (tree_at Us id)
  pub sizes : (b : ℕ) → IsWithinAfter b Ts ids e → AreWithin b (tree_at Us id)

-- the ids are those after the player's edges
pub record AreAfter (Ts Us : List Tree) (ids : List ℕ) (c : Colour) (es : List Edge) (afters : List ℕ) : Type 0 where
  pub from : (j : ℕ) → j < length afters → (e : Edge) × Contains es e × (e.colour ≡ c) × IsAfter Ts Us ids e (slice_index afters j)
  pub to : (e : Edge) → Contains es e → e.colour ≡ c → (j : ℕ) × (j < length afters) × IsAfter Ts Us ids e (slice_index afters j)

-- the ids are those after the edges, by player
pub record AreBothAfter (Ts Us : List Tree) (ids : List ℕ) (es : List Edge) (ls rs : List ℕ) : Type 0 where
  pub left : AreAfter Ts Us ids Black es ls
  pub right : AreAfter Ts Us ids White es rs

-- the options of G are equal to the trees after the edges
pub record HasEdges (Ts : List Tree) (ids : List ℕ) (es : List Edge) (G : Tree) : Type 0 where
  pub from : (c : Colour) (X : Tree) → Has (options c G) X → (e : Edge) × Contains es e × (e.colour ≡ c) × (X ≡ᵍ tree_after Ts ids e)
  pub to : (e : Edge) → Contains es e → (X : Tree) × Has (options e.colour G) X × (X ≡ᵍ tree_after Ts ids e)
