-- Where a game has walls on a grid, no follower's temperature lies between two places of it.
use Rattle.std.proofs.Common.{ℕ, suc, ◌+◌, ◌-◌, ◌≡◌, arith, refl, ap, ℤ}
use Rattle.std.proofs.lemmas.Int.{ints}
use Rattle.short_games.specs.Tree.{Tree}
use Rattle.short_games.specs.Parts.{IsFollower}
use Rattle.short_games.specs.WallGrids.{AllWallsAre, HasWalls, HasTemperatureBetween, finer, Bends}
use Rattle.short_games.proofs.PartLaws.{follower-trans}
use Rattle.short_games.proofs.LineLaws.{finer-doubles}
use Rattle.short_games.proofs.WallSolutionLaws.{walls-steady, has_walls-finer, has_walls-unique}

pub none-between : (k : ℕ) (G P : Tree) (l r : ℕ → ℤ) → HasWalls k G l r → IsFollower G P → HasTemperatureBetween k P → ⊥
none-between k G P l r h f b = omega (
  arith,
  ints,
  (walls-steady k h.lw h.rw P drawn).ordered (suc b.place),
  (finer-doubles (h.lw P)).at_even b.place,
  (finer-doubles (h.rw P)).at_even b.place,
  (finer-doubles (h.lw P)).at_odd b.place,
  (finer-doubles (h.rw P)).at_odd b.place,
  same (b.place + b.place),
  same (suc (b.place + b.place)),
  b.meets.left_at,
  b.meets.right_at,
  b.meets.before (b.place + b.place) (omega arith),
)
  where
    drawn : AllWallsAre k h.lw h.rw P
    drawn Q g = h.all Q (follower-trans G P Q f g)

    same : (t : ℕ) → (finer (h.lw P) t ≡ b.left t) × (finer (h.rw P) t ≡ b.right t)
    same = has_walls-unique (suc k) P (finer (h.lw P)) (finer (h.rw P)) b.left b.right (has_walls-finer k P (h.lw P) (h.rw P) (record { lw = h.lw; rw = h.rw; all = drawn; left_is = λ t. refl; right_is = λ t. refl })) b.walls

bends-nowhere : (f g : ℕ → ℤ) (t : ℕ) → ((v : ℕ) → finer f v ≡ g v) → Bends g (suc (t + t)) → ⊥
bends-nowhere f g t e b = let d = finer-doubles f in
    let before : suc (t + t) - 1 ≡ t + t = omega arith in
    let after : suc (t + t) + 1 ≡ suc t + suc t = omega arith in
    b (omega (arith, ints, ap g before, ap g after, e (t + t), e (suc (t + t)), e (suc t + suc t), d.at_even t, d.at_odd t, d.at_even (suc t)))

pub none-bends : (k : ℕ) (G : Tree) (l r l' r' : ℕ → ℤ) → HasWalls k G l r → HasWalls (suc k) G l' r' → (t : ℕ) → (Bends l' (suc (t + t)) → ⊥) × (Bends r' (suc (t + t)) → ⊥)
none-bends k G l r l' r' h h' t =
    let same = has_walls-unique (suc k) G (finer l) (finer r) l' r' (has_walls-finer k G l r h) h' in
    (bends-nowhere l l' t (λ v. (same v).0), bends-nowhere r r' t (λ v. (same v).1))
