-- How the game of one region serves another of the same shape: its positions, its moves and its values, turned.
use Rattle.std.specs.Prelude.{ℕ, zero, suc, ◌+◌, ◌/◌, ◌%◌, cond, eqb, ltb, Bool, true, false, List, [], ◌∷◌, map, slice_index, slice_index_or, Option, None, Some}
use Rattle.std.specs.List.{position_or_len, range_with_len}
use Rattle.go_grid.specs.declared.grid.Cell.{Cell}
use Rattle.go_grid.specs.declared.grid.Cell.TheVariants as cell
use Rattle.go_grid.specs.declared.grid.Colour.{Colour}
use Rattle.go_grid.specs.declared.grid.Colour.TheVariants.{Black, White}
use Rattle.local_play.specs.LocalPlay.{held_at}
use Rattle.local_play.specs.Packed.{pack}
use Rattle.local_graph.specs.declared.graph.Edge.{Edge}
use Rattle.local_graph.specs.ReturnGraph.{ReturnGraph, order_for}
use Rattle.region_book.specs.Shape.{cell_after, colour_after}
use Rattle.cycle_solver.specs.declared.book.Book.{Book}
use Rattle.cycle_solver.specs.declared.region_game.RegionGame.{RegionGame}
use Rattle.cycle_solver.specs.declared.views.View.{View}
use Rattle.cycle_solver.specs.GameLists.{game_at, layers_for}

-- the move of the region that an edge of the game's graph stands for
abbrev pub own : View → Edge → Edge
own v e = record { next = e.next; colour = colour_after v.colours e.colour; place = slice_index v.places e.place; taken = e.taken }

-- where a move stands in its list: Black's before White's, and those of a colour by place
abbrev pub key_of : Colour → ℕ → ℕ
key_of Black place = place
key_of White place = 32 + place

abbrev pub key : Edge → ℕ
key e = key_of e.colour e.place

-- a list of moves in order with one more
abbrev pub put : Edge → List Edge → List Edge
put e [] = e ∷ []
put e (f ∷ fs) = cond (ltb (key f) (key e)) (f ∷ put e fs) (e ∷ (f ∷ fs))

-- the moves that edges stand for, in order
abbrev pub own_edges : View → List Edge → List Edge
own_edges v [] = []
own_edges v (e ∷ es) = put (own v e) (own_edges v es)

-- the cell of a digit
abbrev pub cell_of : ℕ → Cell
cell_of zero = cell.Empty
cell_of (suc zero) = cell.Black
cell_of (suc (suc n)) = cell.White

-- the cells of the first k places of the position with the number
unfoldable pub cells_of : ℕ → ℕ → List Cell
cells_of zero n = []
cells_of (suc k) n = cell_of (n % 4) ∷ cells_of k (n / 4)

-- what a place of the region holds, by what the places of the game hold
abbrev pub own_cell : View → List Cell → ℕ → Cell
own_cell v cells i = cell_after v.colours (held_at cells (position_or_len (λ p. eqb p i) v.places))

-- the number of the region's position, by that of the game's
unfoldable pub own_number : View → ℕ → ℕ
own_number v n = pack (map (own_cell v (cells_of 32 n)) (range_with_len 0 32))

-- the region's graph, by that of the game
abbrev pub own_graph : View → ReturnGraph → ReturnGraph
own_graph v g = record {
  positions = map (own_number v) g.positions;
  edges = map (own_edges v) g.edges;
  components = g.components;
  black_order = order_for g (colour_after v.colours Black);
  white_order = order_for g (colour_after v.colours White);
}

-- the number, or 0 where there is none
abbrev pub or_zero : Option ℕ → ℕ
or_zero None = 0
or_zero (Some n) = n

-- the noted negative of an id, or 0 where none is
abbrev pub negative_in : List (Option ℕ) → ℕ → ℕ
negative_in known id = or_zero (slice_index_or known id None)

-- the id, or that of the negative where colours are exchanged
abbrev pub id_after : Bool → List (Option ℕ) → ℕ → ℕ
id_after false known id = id
id_after true known id = negative_in known id

-- the same for each id of the layers
abbrev pub layers_after : Bool → List (Option ℕ) → List (List ℕ) → List (List ℕ)
layers_after colours known layers = map (map (id_after colours known)) layers

-- the region's game, by the one that the view names
abbrev pub own_game : List (Option ℕ) → View → RegionGame → RegionGame
own_game known v game = record {
  graph = own_graph v game.graph;
  black = layers_after v.colours known (layers_for game (colour_after v.colours Black));
  white = Some (layers_after v.colours known (layers_for game (colour_after v.colours White)));
}

-- the game of each region
abbrev pub shown : Book → List RegionGame
shown book = map (λ v. own_game book.negatives.items v (game_at book.games.items v.game)) book.views.items
