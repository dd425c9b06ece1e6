-- A game that is no number and has walls has a temperature.
use Rattle.std.proofs.Common.{ℕ, ◌+◌, ◌≤◌, ◌≡◌, inl, inr, arith, sym, ◌∙◌, ap, subst, ℤ, pos, negsuc, neg_ℤ, nat_abs, ◌≤ℤ◌}
use Rattle.std.proofs.lemmas.Int.{ints}
use Rattle.short_games.specs.Tree.{Tree, Trees, node, none, more, Has}
use Rattle.short_games.specs.Parts.{IsOption}
use Rattle.short_games.specs.Number.{IsNumberTree}
use Rattle.short_games.proofs.WallNumberLaws.{numerator, numerator-num}
use Rattle.short_games.specs.WallGrids.{WallsAre, AllWallsAre, HasWalls, IsMeeting}
use Rattle.short_games.specs.WallGrids.Follow.{apart, met}
use Rattle.short_games.specs.WallGrids.WallsAre.{of_number, of_game}
use Rattle.short_games.proofs.WallSolutionLaws.{all-here, all-left, all-right}
use Rattle.short_games.proofs.WallSteps.{IsBounded, walls-within, follow-meeting}

-- a bound for the numbers of a tree and its followers
mutual
  reach : ℕ → Tree → ℕ
  reach k (node ls rs) = nat_abs (numerator k (node ls rs)) + (reaches k ls + reaches k rs)

  reaches : ℕ → Trees → ℕ
  reaches k none = 0
  reaches k (more G Gs) = reach k G + reaches k Gs

abs-within : (x : ℤ) (m : ℕ) → nat_abs x ≤ m → (neg_ℤ (pos m) ≤ℤ x) × (x ≤ℤ pos m)
abs-within (pos n) m h = (omega (arith, ints), omega (arith, ints))
abs-within (negsuc n) m h = (omega (arith, ints), omega (arith, ints))

reaches-has : (k : ℕ) (Gs : Trees) (X : Tree) → Has Gs X → reach k X ≤ reaches k Gs
unfolding reach
reaches-has k none X h = absurd h
reaches-has k (more G Gs) X (inl i) = let e : reach k X ≡ reach k G = ap (reach k) i in omega (arith, e)
reaches-has k (more G Gs) X (inr h) = omega (arith, reaches-has k Gs X h)

reach-option : (k : ℕ) (G X : Tree) → IsOption G X → reach k X ≤ reach k G
unfolding reach
reach-option k (node ls rs) X (inl h) = omega (arith, reaches-has k ls X h)
reach-option k (node ls rs) X (inr h) = omega (arith, reaches-has k rs X h)

reach-number : (k : ℕ) (P : Tree) → nat_abs (numerator k P) ≤ reach k P
unfolding reach
reach-number k (node ls rs) = omega arith

-- the trees of which this bounds the numbers
abbrev IsReached : ℕ → ℕ → Tree → Type 0
IsReached k m G = reach k G ≤ m

reach-bounds : (k m : ℕ) → IsBounded k (pos m) (IsReached k m)
reach-bounds k m = record {
  number = λ G x h i. abs-within x m (let e : numerator k G ≡ x = ap (numerator k) i ∙ numerator-num k x in subst (λ y. nat_abs y ≤ m) e (omega (arith, h, reach-number k G)));
  left_in = λ G X n h x. omega (arith, h, reach-option k G X (inl x));
  right_in = λ G X n h x. omega (arith, h, reach-option k G X (inr x));
}

meeting_of : (k m : ℕ) (lw rw : Tree → ℕ → ℤ) (G : Tree) → IsReached k m G → AllWallsAre k lw rw G → (IsNumberTree G → ⊥) → WallsAre k lw rw G → (u : ℕ) × (x : ℤ) × IsMeeting (lw G) (rw G) u x
meeting_of k m lw rw G b all n (of_number x i p q) = absurd (n (k, x, i))
meeting_of k m lw rw G b all n (of_game _ L R h h' w) = elim (w m) [
  | apart c x y ↦ absurd (omega (arith, ints, c m (omega arith), low, high))
  | met u c d e x y ↦ (u, L u, follow-meeting L R (lw G) (rw G) u w d e)
]
  where
    low : L m ≤ℤ pos 0
    low = let a = (h m).reached in let c = walls-within k (pos m) (IsReached k m) lw rw a.0 (reach-bounds k m) ((reach-bounds k m).left_in G a.0 n b a.1) (all-left k lw rw G a.0 all a.1) m in omega (arith, ints, a.2, c.1, c.2)

    high : pos 0 ≤ℤ R m
    high = let a = (h' m).reached in let c = walls-within k (pos m) (IsReached k m) lw rw a.0 (reach-bounds k m) ((reach-bounds k m).right_in G a.0 n b a.1) (all-right k lw rw G a.0 all a.1) m in omega (arith, ints, a.2, c.0, c.1)

pub meeting-exists : (k : ℕ) (G : Tree) (l r : ℕ → ℤ) → HasWalls k G l r → (IsNumberTree G → ⊥) → (u : ℕ) × (x : ℤ) × IsMeeting l r u x
meeting-exists k G l r h n = let m = meeting_of k (reach k G) h.lw h.rw G (omega arith) h.all n (all-here k h.lw h.rw G h.all) in (
  m.0,
  m.1,
  record { left_at = sym (h.left_is m.0) ∙ m.2.left_at; right_at = sym (h.right_is m.0) ∙ m.2.right_at; before = λ v i. omega (arith, ints, h.left_is v, h.right_is v, m.2.before v i) },
)
