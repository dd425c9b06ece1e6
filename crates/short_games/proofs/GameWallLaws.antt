-- Walls of games in any form.
use Rattle.std.proofs.Common.{ℕ, ◌+◌, ◌≤◌, ◌≡◌, arith, refl, sym, ◌∙◌, subst, ℤ}
use Rattle.std.proofs.lemmas.Int.{ints}
use Rattle.short_games.specs.Tree.{Tree, size}
use Rattle.short_games.specs.Order.{◌≡ᵍ◌}
use Rattle.short_games.specs.Number.{num, IsNumber}
use Rattle.short_games.specs.TextOrder.{TextBefore}
use Rattle.short_games.specs.GameStops.{HasLeftStop, HasRightStop}
use Rattle.short_games.specs.WallGrids.{HasWalls, WallsAre, IsMeeting}
use Rattle.short_games.specs.WallGrids.WallsAre.{of_number, of_game}
use Rattle.short_games.specs.GameWalls.{AreWallsOf}
use Rattle.short_games.proofs.OrderLaws.{le-trans, same-path}
use Rattle.short_games.proofs.TextOrderLaws.{text-order}
use Rattle.short_games.proofs.ReductionLaws.{canonical-number, canonical-same}
use Rattle.short_games.proofs.ExistenceLaws.{canon}
use Rattle.short_games.proofs.ExponentLaws.{over-size}
use Rattle.short_games.proofs.WallNumberLaws.{num-one_to_one}
use Rattle.short_games.proofs.DrawnWallLaws.{left_wall, right_wall}
use Rattle.short_games.proofs.WallExistenceLaws.{walls-zero, walls-exist}
use Rattle.short_games.proofs.WallMeetingLaws.{meeting-exists}
use Rattle.short_games.proofs.WallSolutionLaws.{all-here, has_walls-unique}
use Rattle.short_games.proofs.GameStopLaws.{left-agrees, right-agrees, stops-keep}

pub game-walls_exist : (G : Tree) → (e : ℕ) × ((k : ℕ) → e ≤ k → (l : ℕ → ℤ) × (r : ℕ → ℤ) × AreWallsOf k G l r)
game-walls_exist G = let c = canon TextBefore text-order.total G in (
  size c.tree + size c.tree,
  λ k h. (
    left_wall k c.tree,
    right_wall k c.tree,
    record {
      canonical = c.tree;
      is_canonical = record { canonical = c.canonical; under = c.under; over = c.over };
      walls = record { lw = left_wall k; rw = right_wall k; all = walls-exist (size c.tree) k c.tree h (c.canonical, over-size c.tree); left_is = λ t. refl; right_is = λ t. refl };
    },
  ),
)

pub game-walls_same : (k : ℕ) (G H : Tree) (l r l' r' : ℕ → ℤ) → G ≡ᵍ H → AreWallsOf k G l r → AreWallsOf k H l' r' → (t : ℕ) → (l t ≡ l' t) × (r t ≡ r' t)
game-walls_same k G H l r l' r' s a b =
    let c = a.is_canonical in
    let d = b.is_canonical in
    let i : a.canonical ≡ b.canonical = canonical-same a.canonical b.canonical c.canonical d.canonical
    (le-trans _ G _ c.over (le-trans G H _ s.0 d.under)) (le-trans _ H _ d.over (le-trans H G _ s.1 c.under)) in
    has_walls-unique k b.canonical l r l' r' (subst (λ t. HasWalls k t l r) i a.walls) b.walls

pub game-walls_begin : (k : ℕ) (G : Tree) (l r : ℕ → ℤ) → AreWallsOf k G l r → (x : ℤ) → (HasLeftStop k G x → x ≡ l 0) × (HasRightStop k G x → x ≡ r 0)
game-walls_begin k G l r a x =
    let c = a.is_canonical in
    let C = a.canonical in
    let w = a.walls in
    let z = walls-zero k w.lw w.rw C w.all in
    let left_is : HasLeftStop k C (w.lw C 0) = (left-agrees k C (w.lw C 0) c.canonical).0 z.0 in
    let right_is : HasRightStop k C (w.rw C 0) = (right-agrees k C (w.rw C 0) c.canonical).0 z.1 in (
      λ s. omega (arith, ints, w.left_is 0, (stops-keep k G C x (w.lw C 0) c.under).0 s left_is, (stops-keep k C G (w.lw C 0) x c.over).0 left_is s),
      λ s. omega (arith, ints, w.right_is 0, (stops-keep k G C x (w.rw C 0) c.under).1 s right_is, (stops-keep k C G (w.rw C 0) x c.over).1 right_is s),
    )

-- the walls of a number's tree
number-walls : (k : ℕ) (lw rw : Tree → ℕ → ℤ) (G : Tree) (x : ℤ) → G ≡ num k x → WallsAre k lw rw G → (t : ℕ) → (lw G t ≡ x) × (rw G t ≡ x)
number-walls k lw rw G x i (of_number y j p q) t = let same : y ≡ x = num-one_to_one k y x (sym j ∙ i) in (p t ∙ same, q t ∙ same)
number-walls k lw rw G x i (of_game n L R h h' w) t = absurd (n (k, x, i))

pub numbers-masts : (k : ℕ) (G : Tree) (x : ℤ) (l r : ℕ → ℤ) → G ≡ᵍ num k x → AreWallsOf k G l r → (t : ℕ) → (l t ≡ x) × (r t ≡ x)
numbers-masts k G x l r s a t =
    let c = a.is_canonical in
    let C = a.canonical in
    let w = a.walls in
    let i : C ≡ num k x = canonical-number C c.canonical (k, x, le-trans C G _ c.over s.0, le-trans _ G C s.1 c.under) in
    let v = number-walls k w.lw w.rw C x i (all-here k w.lw w.rw C w.all) t in
    (sym (w.left_is t) ∙ v.0, sym (w.right_is t) ∙ v.1)

pub game-temperature : (k : ℕ) (G : Tree) (l r : ℕ → ℤ) → (IsNumber G → ⊥) → AreWallsOf k G l r → (u : ℕ) × (x : ℤ) × IsMeeting l r u x
game-temperature k G l r n a = meeting-exists k a.canonical l r a.walls (λ i. (let s = same-path a.canonical (num i.0 i.1) i.2 in
    n (i.0, i.1, le-trans G a.canonical _ a.is_canonical.under s.0, le-trans _ a.canonical G s.1 a.is_canonical.over)))
