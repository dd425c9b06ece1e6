-- The edges of a graph as the steps of a game, where `to` is the position of a place.
use Rattle.std.specs.Prelude.{ℕ, List, [], ◌∷◌}
use Rattle.go_grid.specs.declared.grid.Colour.{Colour}
use Rattle.go_grid.specs.declared.grid.Colour.TheVariants.{Black, White}
use Rattle.local_graph.specs.declared.graph.Edge.{Edge}
use Rattle.local_trees.specs.LocalGame.{Step}

module _ (P : Type 0) (to : ℕ → P) where
  -- the step of an edge
  abbrev pub step_of : Edge → Step P
  step_of e = record { to = to e.next; taken = e.taken }

  -- the steps with that of an edge in front, where the edge is the player's
  abbrev pub step_for : Colour → Edge → Colour → List (Step P) → List (Step P)
  step_for Black e Black steps = step_of e ∷ steps
  step_for White e White steps = step_of e ∷ steps
  step_for _ e _ steps = steps

  -- the steps of a player
  abbrev pub steps_of : Colour → List Edge → List (Step P)
  steps_of c [] = []
  steps_of c (e ∷ es) = step_for c e e.colour (steps_of c es)
