-- What walls are like: upright or diagonal up to the temperature, and the mast from there on.
use Rattle.std.proofs.Common.{ℕ, suc, ◌≤◌, ◌≡◌, ◌⊎◌, inl, inr, arith, refl, sym, ◌∙◌, ℤ, pos, ◌+ℤ◌, ◌≤ℤ◌}
use Rattle.std.proofs.lemmas.Int.{ints, by_lt_z}
use Rattle.short_games.specs.Tree.{Tree}
use Rattle.short_games.specs.WallGrids.{WallsAre, Follow, HasWalls, IsMeeting}
use Rattle.short_games.specs.WallGrids.Follow.{apart, met}
use Rattle.short_games.specs.WallGrids.WallsAre.{of_number, of_game}
use Rattle.short_games.proofs.LineLaws.{follow-same}
use Rattle.short_games.proofs.WallSolutionLaws.{all-here, walls-steady}

-- where walls that follow two scaffolds have met, they stay
followed : (L R l r : ℕ → ℤ) → ((t : ℕ) → Follow L R t (l t) (r t)) → (u : ℕ) (x : ℤ) → IsMeeting l r u x → (t : ℕ) → u ≤ t → (l t ≡ x) × (r t ≡ x)
followed L R l r w u x m t h = elim (w u) [
  | apart a p q ↦ absurd (omega (arith, ints, a u (omega arith), p, q, m.left_at, m.right_at))
  | met v i e b p q ↦ (let s = follow-same L R L R t (l t) (r t) (L v) (R v) (λ _. refl) (λ _. refl) (w t) (met v (omega (arith, h, i)) e b refl refl) in
      (s.0 ∙ sym p ∙ m.left_at, s.1 ∙ sym q ∙ m.right_at))
]

walls-stay : (k : ℕ) (lw rw : Tree → ℕ → ℤ) (G : Tree) → WallsAre k lw rw G → (u : ℕ) (x : ℤ) → IsMeeting (lw G) (rw G) u x
    → (t : ℕ) → u ≤ t → (lw G t ≡ x) × (rw G t ≡ x)
walls-stay k lw rw G (of_number y i p q) u x m t h = (p t ∙ sym (p u) ∙ m.left_at, q t ∙ sym (q u) ∙ m.right_at)
walls-stay k lw rw G (of_game n L R a b w) u x m t h = followed L R (lw G) (rw G) w u x m t h

pub mast-stands : (k : ℕ) (G : Tree) (l r : ℕ → ℤ) → HasWalls k G l r → (u : ℕ) (x : ℤ) → IsMeeting l r u x → (t : ℕ) → u ≤ t → (l t ≡ x) × (r t ≡ x)
mast-stands k G l r h u x m t b =
    let s = walls-stay k h.lw h.rw G (all-here k h.lw h.rw G h.all) u x (record {
      left_at = h.left_is u ∙ m.left_at;
      right_at = h.right_is u ∙ m.right_at;
      before = λ v i. omega (arith, ints, h.left_is v, h.right_is v, m.before v i);
    }) t b in
    (sym (h.left_is t) ∙ s.0, sym (h.right_is t) ∙ s.1)

pub walls-in_order : (k : ℕ) (G : Tree) (l r : ℕ → ℤ) → HasWalls k G l r → (t : ℕ) → r t ≤ℤ l t
walls-in_order k G l r h t = let s = (walls-steady k h.lw h.rw G h.all).ordered t in omega (arith, ints, h.left_is t, h.right_is t, s)

-- of two numbers that are at most one apart
one-apart : (x y : ℤ) → x ≤ℤ y → y ≤ℤ (x +ℤ pos 1) → (x ≡ y) ⊎ (x +ℤ pos 1 ≡ y)
one-apart x y a b = by_lt_z x y (λ l. inr (omega (arith, ints, l, b))) (λ l. inl (omega (arith, ints, l, a)))

pub upright-or_diagonal : (k : ℕ) (G : Tree) (l r : ℕ → ℤ) → HasWalls k G l r
    → (t : ℕ) → ((l (suc t) ≡ l t) ⊎ (l (suc t) +ℤ pos 1 ≡ l t)) × ((r (suc t) ≡ r t) ⊎ (r (suc t) ≡ r t +ℤ pos 1))
upright-or_diagonal k G l r h t =
    let s = walls-steady k h.lw h.rw G h.all in (
      one-apart (l (suc t)) (l t) (omega (arith, ints, h.left_is t, h.left_is (suc t), s.falls.no_rise t)) (omega (arith, ints, h.left_is t, h.left_is (suc t), s.falls.by_one t)),
      elim (one-apart (r t) (r (suc t)) (omega (arith, ints, h.right_is t, h.right_is (suc t), s.rises.no_fall t)) (omega (arith, ints, h.right_is t, h.right_is (suc t), s.rises.by_one t))) [
        | inl i ↦ inl (sym i)
        | inr i ↦ inr (sym i)
      ],
    )
