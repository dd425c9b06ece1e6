-- Where an alive stone of one colour is next to each place, local play doesn't return.
use Rattle.std.proofs.Common.{◌≡◌, ℕ, ◌-◌, ◌<◌, ◌⊎◌, inl, inr, refl, sym, ap, ◌∙◌, subst, arith, List, [], ◌∷◌, length, take, drop, get_or-set_same, get_or-set_other}
use Rattle.std.proofs.lemmas.Bool.{cases_lt}
use Rattle.std.proofs.lemmas.List.{get_or_past, length-drop, length-set}
use Rattle.go_grid.proofs.PathLemmas.{leads_end, leads_here, leads_start}
use Rattle.go_grid.specs.declared.grid.Cell.{Cell}
use Rattle.go_grid.specs.declared.grid.Cell.TheVariants as cell
use Rattle.go_grid.specs.declared.grid.Colour.{Colour}
use Rattle.go_grid.specs.declared.grid.Colour.TheVariants as colour
use Rattle.go_grid.specs.declared.region.Touch.{Touch}
use Rattle.go_grid.specs.Board.{stone, other}
use Rattle.local_play.specs.LocalPlay.{Holds, IsBeside, IsLocalMove, held_at, with_stone}
use Rattle.local_play.specs.inner.LocalPlay.{IsRemoved}
use Rattle.local_graph.specs.declared.cycle.CycleMove.{CycleMove}
use Rattle.local_graph.specs.LocalGraph.{Plays}
use Rattle.local_graph.specs.FiniteLocalPlay.{HasNoCycle}
use Rattle.go_grid.proofs.PlayLemmas.{long_after}
use Rattle.go_grid.proofs.BoardLemmas.{empty_not_stone, not_other}

-- one colour or the other
pub same_or_other : (c d : Colour) → (d ≡ c) ⊎ (c ≡ other d)
same_or_other colour.Black colour.Black = inl refl
same_or_other colour.White colour.White = inl refl
same_or_other colour.Black colour.White = inr refl
same_or_other colour.White colour.Black = inr refl

turn : (c d : Colour) → c ≡ other d → d ≡ other c
turn colour.Black colour.Black e = absurd cc
turn colour.Black colour.White e = refl
turn colour.White colour.Black e = refl
turn colour.White colour.White e = absurd cc

-- an alive stone of the colour is next to each of the first `n` places
abbrev pub AreWalled : List Touch → ℕ → Colour → Type 0
AreWalled touch n c = (i : ℕ) → i < n → IsBeside touch c i

-- the point with a new stone
stone_there : (cells : List Cell) (p : ℕ) (d : Colour) → p < length cells → Holds (with_stone cells p d) d p
stone_there cells p d lt = get_or-set_same cells p (stone d) cell.Empty lt

-- the others hold what they held
stone_elsewhere : (cells : List Cell) (p i : ℕ) (c d : Colour) → held_at cells p ≡ cell.Empty → Holds cells c i
    → Holds (with_stone cells p d) c i
stone_elsewhere cells p i c d empty h =
    get_or-set_other cells p i (stone d) cell.Empty (λ e. empty_not_stone c (sym empty ∙ subst (λ k. held_at cells k ≡ stone c) e h)) ∙ h

pub plays_long : (touch : List Touch) (ms : List CycleMove) (from to : List Cell) → Plays touch from ms to → length to ≡ length from
plays_long touch [] from to same = ap length (sym same)
plays_long touch (m ∷ ms) from to (next, move, rest) = plays_long touch ms next to rest ∙ long_after move

module _ (touch : List Touch) (n : ℕ) (c : Colour) (walled : AreWalled touch n c) where
  -- no stone of the colour is removed
  none_removed : (cells : List Cell) (p j : ℕ) → length cells ≡ n → ¬ IsRemoved touch cells p c j
  none_removed cells p j long (i, linked, chain, choked) =
      let held = leads_start _ _ i j chain in
      elim (cases_lt i n) [
        | inl lt ↦ choked (i, leads_here _ _ i held, inr (walled i lt))
        | inr past ↦ empty_not_stone c (sym (get_or_past cells i cell.Empty (omega (arith, past, long))) ∙ held)
      ]

  -- a stone of the other colour is removed by none of that colour's moves, and the new stone stands
  none_own : (cells : List Cell) (p i : ℕ) (d : Colour) → Holds cells d i → ¬ IsRemoved touch cells p (other d) i
  none_own cells p i d held (j, linked, chain, choked) = not_other d (sym held ∙ leads_end _ _ j i chain)

  with_long : (cells : List Cell) (p : ℕ) (d : Colour) → length cells ≡ n → length (with_stone cells p d) ≡ n
  with_long cells p d long = length-set cells p (stone d) ∙ long

  pub placed : (cells after : List Cell) (d : Colour) (p : ℕ) → IsLocalMove touch cells d p after → Holds after d p
  placed cells after d p m =
      let there = stone_there cells p d m.place in
      m.without.kept p (none_own (with_stone cells p d) p p d there) ∙ there

  -- the colour's stones stay
  pub owner_stays : (cells after : List Cell) (d : Colour) (p i : ℕ) → length cells ≡ n → IsLocalMove touch cells d p after
      → Holds cells c i → Holds after c i
  owner_stays cells after d p i long m h =
      let there = stone_elsewhere cells p i c d m.free h in
      m.without.kept i (elim (same_or_other c d) [
        | inl same ↦ none_own (with_stone cells p d) p i d (subst (λ k. Holds (with_stone cells p d) k i) (sym same) there)
        | inr o ↦ (λ r. none_removed (with_stone cells p d) p i (with_long cells p d long)
            (subst (λ k. IsRemoved touch (with_stone cells p d) p k i) (sym o) r))
      ]) ∙ there

  -- and where the other colour moves all stones stay
  pub all_stay : (cells after : List Cell) (d e : Colour) (p i : ℕ) → length cells ≡ n → c ≡ other d → IsLocalMove touch cells d p after
      → Holds cells e i → Holds after e i
  all_stay cells after d e p i long o m h =
      let there = stone_elsewhere cells p i e d m.free h in
      m.without.kept i (λ r. none_removed (with_stone cells p d) p i (with_long cells p d long)
      (subst (λ k. IsRemoved touch (with_stone cells p d) p k i) (sym o) r)) ∙ there

  owner_stays_along : (ms : List CycleMove) (from to : List Cell) (i : ℕ) → length from ≡ n → Plays touch from ms to
      → Holds from c i → Holds to c i
  owner_stays_along [] from to i long same h = subst (λ x. Holds x c i) same h
  owner_stays_along (m ∷ ms) from to i long (next, move, rest) h =
      owner_stays_along ms next to i (long_after move ∙ long) rest (owner_stays from next m.colour m.place i long move h)

  -- a stone of the other colour where `to` has none isn't gone at the end, if the colour's stones of `to` are there already
  not_back : (ms : List CycleMove) (from to : List Cell) (p : ℕ) → length from ≡ n → Plays touch from ms to
      → ((i : ℕ) → Holds to c i → Holds from c i) → Holds from (other c) p → held_at to p ≡ cell.Empty → ⊥
  not_back [] from to p long same had h empty = empty_not_stone (other c) (sym empty ∙ subst (λ x. Holds x (other c) p) same h)
  not_back (m ∷ ms) from to p long (next, move, rest) had h empty = elim (same_or_other c m.colour) [
    | inl same ↦ empty_not_stone c (sym move.free ∙ had m.place (owner_stays_along ms next to m.place (long_after move ∙ long) rest
        (subst (λ k. Holds next k m.place) same (placed from next m.colour m.place move))))
    | inr o ↦ not_back ms next to p (long_after move ∙ long) rest (λ i held. owner_stays from next m.colour m.place i long move (had i held))
        (all_stay from next m.colour (other c) m.place p long o move h) empty
  ]

  no_return : (m : CycleMove) (ms : List CycleMove) (cells : List Cell) → length cells ≡ n → Plays touch cells (m ∷ ms) cells → ⊥
  no_return m ms cells long (next, move, rest) = elim (same_or_other c m.colour) [
    | inl same ↦ empty_not_stone c (sym move.free ∙ owner_stays_along ms next cells m.place (long_after move ∙ long) rest
        (subst (λ k. Holds next k m.place) same (placed cells next m.colour m.place move)))
    | inr o ↦ not_back ms next cells m.place (long_after move ∙ long) rest (λ i held. owner_stays cells next m.colour m.place i long move held)
        (subst (λ k. Holds next k m.place) (turn c m.colour o) (placed cells next m.colour m.place move)) move.free
  ]

  pub no_cycle : (opening : List Cell) → length opening ≡ n → HasNoCycle touch opening
  no_cycle opening long ms back cycle =
      at (drop back ms) (length-drop back ms) cycle.again
    where
      at : (left : List CycleMove) → length left ≡ length ms - back → Plays touch cycle.returns_to left cycle.returns_to → ⊥
      at [] e plays = omega (arith, e, cycle.before_end)
      at (m ∷ rest) e plays = no_return m rest cycle.returns_to (plays_long touch (take back ms) opening cycle.returns_to cycle.there ∙ long) plays
