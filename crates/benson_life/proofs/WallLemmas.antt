-- Alive chains keep a liberty on each board on which the alive stones stand and the counted points hold what they held.
use Rattle.std.proofs.Common.{ℕ, ◌<◌, inl, inr, sym, ◌∙◌, subst, List, length}
use Rattle.std.specs.List.{Contains}
use Rattle.go_grid.specs.declared.grid.Colour.{Colour}
use Rattle.go_grid.specs.Board.{Board, NextTo, HasStone, IsClosedOff, Lacks}
use Rattle.go_grid.specs.Walk.{Joined}
use Rattle.go_grid.specs.Chain.{IsLiberty, IsSettled}
use Rattle.go_grid.proofs.DeclaredLemmas.{declared_lacks, declared_region}
use Rattle.go_grid.proofs.NearLemmas.{next_back}
use Rattle.go_grid.proofs.WalkLemmas.{joined_end, joined_here, joined_join}
use Rattle.benson_life.specs.Life.{InRegion, IsAlive, IsCounted, IsEye, IsHealthy, IsInEye}
use Rattle.benson_life.specs.Walls.{WallsStand, WallsBreathe}
use Rattle.benson_life.proofs.StandLemmas.{joined_along, region_empty}
use Rattle.benson_life.proofs.StrikingLemmas.{beside_declared}

-- a point in the region of one in an eye
in_eye_region : (g : Board) (c : Colour) (p q : ℕ) → IsInEye g c p → InRegion g c p q → IsInEye g c q
in_eye_region g c p q w j = (
  w.0,
  w.1,
  record {
    lacks = joined_end g.columns (Lacks g c) p q j;
    vital = λ x k e. w.2.vital x (joined_join g.columns (Lacks g c) p q x j k) e;
    walled = λ x s k n h. w.2.walled x s (joined_join g.columns (Lacks g c) p q x j k) n h;
  },
)

-- a point of the region of a counted point is counted
pub counted_region : (g : Board) → IsClosedOff g → (c : Colour) (p q : ℕ) → IsCounted g c p → InRegion g c p q → IsCounted g c q
counted_region g closed c p q (inl eye) j = inl (in_eye_region g c p q eye j)
counted_region g closed c p q (inr declared) j = inr (declared_region g closed c p q declared j)

-- a counted point is on the board, and holds no stone of the colour
pub counted_inside : (g : Board) (c : Colour) (p : ℕ) → IsCounted g c p → p < length g.cells
counted_inside g c p (inl eye) = eye.2.lacks.0
counted_inside g c p (inr declared) = declared.0

pub counted_lacks : (g : Board) → IsClosedOff g → (c : Colour) (p : ℕ) → IsCounted g c p → Lacks g c p
counted_lacks g closed c p (inl eye) = eye.2.lacks
counted_lacks g closed c p (inr declared) = declared_lacks g closed c p declared

-- a stone of the colour next to a counted point is alive
pub counted_walled : (g : Board) → IsClosedOff g → (c : Colour) (p s : ℕ) → IsCounted g c p → NextTo g.columns p s → HasStone g c s
    → IsAlive g c s
counted_walled g closed c p s (inl eye) next stone = eye.2.walled p s (joined_here g.columns (Lacks g c) p eye.2.lacks) next stone
counted_walled g closed c p s (inr declared) next stone =
    beside_declared g c s stone
    (p, declared, ((closed c p declared).empty, (s, joined_here g.columns (HasStone g c) s stone, next_back g.columns p s next)))

-- an eye of an alive stone has a counted point that is a liberty of the stone's chain
pub eye_point : (g : Board) (c : Colour) (s r : ℕ) (S : List ℕ) → IsSettled g → IsHealthy g c S → Contains S s → IsEye g c (Contains S) s r
    → (p : ℕ) × InRegion g c r p × IsCounted g c p × IsLiberty g c s p
eye_point g c s r S settled healthy among eye =
    let (p, at, empty) = region_empty g c r settled eye.lacks in
    let counted : IsInEye g c r = (
      s,
      (S, healthy, among),
      record {
        lacks = eye.lacks;
        vital = eye.vital;
        walled = λ x t j n own. (S, healthy, eye.walled x t j n own);
      },
    ) in (p, at, inl (in_eye_region g c r p counted at), eye.vital p at empty)

-- an alive stone's chain has a counted liberty
counted_liberty : (g : Board) (c : Colour) (s : ℕ) (S : List ℕ) → IsSettled g → IsHealthy g c S → Contains S s
    → (p : ℕ) × IsCounted g c p × IsLiberty g c s p
counted_liberty g c s S settled healthy among = elim (healthy.room s among) as (λ _. (p : ℕ) × IsCounted g c p × IsLiberty g c s p) [
  | inl (p, declared, liberty) ↦ (p, inr declared, liberty)
  | inr (r, _, eye, _, _) ↦ let (p, _, here, liberty) = eye_point g c s r S settled healthy among eye in (p, here, liberty)
]

pub walls_breathe : (g : Board) → IsSettled g → (h : Board) → WallsStand g h → WallsBreathe g h
walls_breathe g settled h walls c s (S, healthy, among) =
    let (p, here, (on, (t, chain, next))) = counted_liberty g c s S settled healthy among in
    let chain' = joined_along g.columns (HasStone g c) (HasStone h c) s t
    (λ x j. walls.stones c x (S, healthy, healthy.whole s x among j)) chain in (
      p,
      here,
      (
        (subst (λ n. p < n) (sym walls.long) on.0, walls.counted c p here ∙ on.1),
        (t, subst (λ n. Joined n (HasStone h c) s t) (sym walls.columns) chain', subst (λ n. NextTo n t p) (sym walls.columns) next),
      ),
    )
