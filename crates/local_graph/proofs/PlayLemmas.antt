-- Lists of local moves.
use Rattle.std.proofs.Common.{◌≡◌, ℕ, refl, sym, ap, ◌∙◌, List, [], ◌∷◌, ◌++◌, length, subst}
use Rattle.go_grid.specs.declared.grid.Cell.{Cell}
use Rattle.go_grid.specs.declared.grid.Colour.{Colour}
use Rattle.go_grid.specs.declared.region.Touch.{Touch}
use Rattle.local_play.specs.LocalPlay.{IsLocalMove}
use Rattle.local_graph.specs.declared.cycle.CycleMove.{CycleMove}
use Rattle.local_graph.specs.LocalGraph.{Plays}
use Rattle.go_grid.proofs.PlayLemmas.{long_after, one_outcome}

pub plays_long : (touch : List Touch) (from to : List Cell) (ms : List CycleMove) → Plays touch from ms to → length to ≡ length from
plays_long touch from to [] p = ap length (sym p)
plays_long touch from to (m ∷ ms) (next, move, rest) = plays_long touch next to ms rest ∙ long_after move

-- one move more
pub plays_more : (touch : List Touch) (from between to : List Cell) (ms : List CycleMove) (m : CycleMove)
    → Plays touch from ms between → IsLocalMove touch between m.colour m.place to → Plays touch from (ms ++ m ∷ []) to
plays_more touch from between to [] m p move = (to, subst (λ x. IsLocalMove touch x m.colour m.place to) (sym p) move, refl)
plays_more touch from between to (n ∷ ms) m (next, first, rest) move = (next, first, plays_more touch next between to ms m rest move)

-- one list and then another
pub plays_both : (touch : List Touch) (from between to : List Cell) (ms ns : List CycleMove)
    → Plays touch from ms between → Plays touch between ns to → Plays touch from (ms ++ ns) to
plays_both touch from between to [] ns p q = subst (λ x. Plays touch x ns to) (sym p) q
plays_both touch from between to (m ∷ ms) ns (next, first, rest) q = (next, first, plays_both touch next between to ms ns rest q)

-- a local move leads to one position
pub one_after : (touch : List Touch) (cells a b : List Cell) (c : Colour) (p : ℕ) → IsLocalMove touch cells c p a
    → IsLocalMove touch cells c p b → a ≡ b
one_after touch cells a b c p m n = one_outcome m n
