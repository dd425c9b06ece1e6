-- Lists that have a tree, the greatest and the least of a list with one more tree, and of stops and walls.
use Rattle.std.proofs.Common.{◌≡◌, arith, refl, inl, inr, sym, subst, ℤ, neg_ℤ, ◌≤ℤ◌}
use Rattle.std.specs.Int.{int_max, int_min}
use Rattle.std.proofs.lemmas.Int.{ints, clamps, by_lt_z}
use Rattle.short_games.specs.Tree.{Tree, Trees, none, more, Has}
use Rattle.short_games.specs.WallGrids.{IsGreatest, IsLeast}
use Rattle.short_games.proofs.LineLaws.{greatest-negated, least-negated}
use Rattle.short_games.proofs.StopLaws.{IsChosen, chosen, chosen-most, upwards, downwards}

-- a list that has a tree
abbrev pub IsFilled : Trees → Type 0
IsFilled none = ⊥
IsFilled (more G Gs) = Unit {0}

pub filled : (Gs : Trees) (G : Tree) → Has Gs G → IsFilled Gs
filled none G h = absurd h
filled (more H Hs) G h = tt

pub greatest-filled : (f : Tree → ℤ) (Gs : Trees) (x : ℤ) → IsGreatest f Gs x → IsFilled Gs
greatest-filled f Gs x g = filled Gs g.reached.0 g.reached.1

pub least-filled : (f : Tree → ℤ) (Gs : Trees) (x : ℤ) → IsLeast f Gs x → IsFilled Gs
least-filled f Gs x g = filled Gs g.reached.0 g.reached.1

-- the greatest and the least of a list with one more tree
pub greatest-one : (f : Tree → ℤ) (G : Tree) → IsGreatest f (more G none) (f G)
greatest-one f G = record { bound = λ X h. elim h [ inl i ↦ subst (λ t. f t ≤ℤ f G) (sym i) (omega (arith, ints)) | inr k ↦ absurd k ]; reached = (G, inl refl, refl) }

pub greatest-more : (f : Tree → ℤ) (G : Tree) (Gs : Trees) (x : ℤ) → IsGreatest f Gs x → IsGreatest f (more G Gs) (int_max (f G) x)
greatest-more f G Gs x g = record {
  bound = λ X h. elim h [
    | inl i ↦ subst (λ t. f t ≤ℤ int_max (f G) x) (sym i) (omega (arith, ints, clamps))
    | inr k ↦ omega (arith, ints, clamps, g.bound X k)
  ];
  reached = by_lt_z (f G) x (λ l. (g.reached.0, inr g.reached.1, omega (arith, ints, clamps, l, g.reached.2)))
      (λ l. (G, inl refl, omega (arith, ints, clamps, l)));
}

pub least-one : (f : Tree → ℤ) (G : Tree) → IsLeast f (more G none) (f G)
least-one f G = least-negated f (more G none) (f G) (greatest-one (λ X. neg_ℤ (f X)) G)

pub least-more : (f : Tree → ℤ) (G : Tree) (Gs : Trees) (x : ℤ) → IsLeast f Gs x → IsLeast f (more G Gs) (int_min (f G) x)
least-more f G Gs x l = least-negated f (more G Gs) (int_min (f G) x)
    (subst (IsGreatest (λ X. neg_ℤ (f X)) (more G Gs)) (omega (arith, ints, clamps))
    (greatest-more (λ X. neg_ℤ (f X)) G Gs (neg_ℤ x) (greatest-negated f Gs x l)))

-- the greatest and the least that f gives, where f gives the stops or the walls
module _ (P : Tree → ℤ → Type 0) (Is : Trees → ℤ → Type 0) (c : IsChosen (λ y z. y ≤ℤ z) P Is) (f : Tree → ℤ) (Gs : Trees) (x : ℤ) where
  pub to_greatest : ((X : Tree) → Has Gs X → P X (f X)) → IsGreatest f Gs x → Is Gs x
  to_greatest s g =
      let r = chosen _ upwards P Is c (λ X y. f X ≡ y) Gs (λ X h. (f X, s X h, refl)) g.reached.0 g.reached.1 in
      let a = r.2.bound g.reached.0 g.reached.1 in
      let b = r.2.reached in
      subst (Is Gs) (omega (arith, ints, a.1, a.2, g.reached.2, b.2, g.bound b.0 b.1)) r.1

  pub from_greatest : ((X : Tree) → Has Gs X → (y : ℤ) → P X y → y ≡ f X) → Is Gs x → IsGreatest f Gs x
  from_greatest s h = let m = chosen-most _ upwards P Is c Gs x h in record {
    bound = λ X k. (let b = m.bound X k in omega (arith, ints, s X k b.0 b.1, b.2));
    reached = (m.reached.0, m.reached.1, sym (s m.reached.0 m.reached.1 x m.reached.2));
  }

module _ (P : Tree → ℤ → Type 0) (Is : Trees → ℤ → Type 0) (c : IsChosen (λ y z. z ≤ℤ y) P Is) (f : Tree → ℤ) (Gs : Trees) (x : ℤ) where
  pub to_least : ((X : Tree) → Has Gs X → P X (f X)) → IsLeast f Gs x → Is Gs x
  to_least s g =
      let r = chosen _ downwards P Is c (λ X y. f X ≡ y) Gs (λ X h. (f X, s X h, refl)) g.reached.0 g.reached.1 in
      let a = r.2.bound g.reached.0 g.reached.1 in
      let b = r.2.reached in
      subst (Is Gs) (omega (arith, ints, a.1, a.2, g.reached.2, b.2, g.bound b.0 b.1)) r.1

  pub from_least : ((X : Tree) → Has Gs X → (y : ℤ) → P X y → y ≡ f X) → Is Gs x → IsLeast f Gs x
  from_least s h = let m = chosen-most _ downwards P Is c Gs x h in record {
    bound = λ X k. (let b = m.bound X k in omega (arith, ints, s X k b.0 b.1, b.2));
    reached = (m.reached.0, m.reached.1, sym (s m.reached.0 m.reached.1 x m.reached.2));
  }
