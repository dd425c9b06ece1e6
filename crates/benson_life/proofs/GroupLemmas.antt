-- Groups are the parts of the set of alive stones and counted points.
use Rattle.std.proofs.Common.{◌↔◌, ◌≡◌, ℕ, ◌≤◌, ◌⊎◌, inl, inr, List, Bool}
use Rattle.go_grid.specs.declared.grid.Colour.{Colour}
use Rattle.go_grid.specs.Board.{Board, NextTo, HasStone, IsClosedOff, Lacks}
use Rattle.go_grid.specs.Marks.{IsMarked, Marks}
use Rattle.go_grid.specs.Parts.{ArePartLabels, label}
use Rattle.go_grid.specs.Walk.{Joined}
use Rattle.go_grid.proofs.NearLemmas.{next_back}
use Rattle.go_grid.proofs.PathLemmas.{leads_end, leads_here, leads_step}
use Rattle.go_grid.proofs.PathLemmas as path
use Rattle.go_grid.proofs.WalkLemmas.{carried, joined_back, joined_here, joined_join, joined_step}
use Rattle.benson_life.specs.Groups.{InGroup, IsLeader, IsLinkedInGroup}
use Rattle.benson_life.specs.Life.{InRegion, IsAlive, IsCounted}
use Rattle.benson_life.proofs.PartsLemmas.{one_part, parts_over}
use Rattle.benson_life.proofs.StandLemmas.{joined_along}
use Rattle.benson_life.proofs.StrikingLemmas.{alive_stone, alive_whole}
use Rattle.benson_life.proofs.WallLemmas.{counted_lacks, counted_region}

module _ (g : Board) (c : Colour) (closed : IsClosedOff g) where
  -- an alive stone or a counted point
  abbrev IsSafe : ℕ → Type 0
  IsSafe p = IsAlive g c p ⊎ IsCounted g c p

  link_joined : (s t : ℕ) → IsAlive g c s → IsAlive g c t → IsLinkedInGroup g c s t → Joined g.columns IsSafe s t
  link_joined s t a b (inl chain) = joined_along g.columns (HasStone g c) IsSafe s t (λ x j. inl (alive_whole g c s x a j)) chain
  link_joined s t a b (inr (p, q, counted, at, n, m)) =
      let over = joined_along g.columns (Lacks g c) IsSafe p q (λ x j. inr (counted_region g closed c p x counted j)) at in
      let first = joined_step g.columns IsSafe s s p (joined_here g.columns IsSafe s (inl a)) (next_back g.columns p s n) (inr counted) in
      joined_step g.columns IsSafe s q t (joined_join g.columns IsSafe s p q first over) m (inl b)

  group_joined : (s t : ℕ) → IsAlive g c s → InGroup g c s t → Joined g.columns IsSafe s t
  group_joined s t a j =
      let both = path.carried (IsLinkedInGroup g c) (IsAlive g c) (λ x. IsAlive g c x × Joined g.columns IsSafe s x)
      (λ x y w l b. (b, joined_join g.columns IsSafe s x y w.1 (link_joined x y w.0 b l)))
      s t (a, joined_here g.columns IsSafe s (inl a)) j in
      both.1

  -- a walk from `s` comes to stones of its group, and to counted points whose region a stone of the group is next to
  abbrev Meets : ℕ → ℕ → Type 0
  Meets s p = (IsAlive g c p × InGroup g c s p)
      ⊎ (IsCounted g c p × ((u z : ℕ) × InGroup g c s u × InRegion g c p z × NextTo g.columns z u))

  meets_next : (s x y : ℕ) → Meets s x → NextTo g.columns x y → IsSafe y → Meets s y
  meets_next s x y (inl (a, j)) n (inl b) =
      let chain = joined_step g.columns (HasStone g c) x x y (joined_here g.columns (HasStone g c) x (alive_stone g c x a)) n (alive_stone g c y b) in
      inl (b, leads_step (IsLinkedInGroup g c) (IsAlive g c) s x y j (inl chain) b)
  meets_next s x y (inl (a, j)) n (inr d) =
      inr (d, (x, y, j, joined_here g.columns (Lacks g c) y (counted_lacks g closed c y d), next_back g.columns x y n))
  meets_next s x y (inr (d, (u, z, j, at, m))) n (inl b) =
      let link : IsLinkedInGroup g c u y =
      inr (z, x, counted_region g closed c x z d at, joined_back g.columns (Lacks g c) x z at, m, n) in
      inl (b, leads_step (IsLinkedInGroup g c) (IsAlive g c) s u y j link b)
  meets_next s x y (inr (d, (u, z, j, at, m))) n (inr e) =
      let step = joined_step g.columns (Lacks g c) y y x (joined_here g.columns (Lacks g c) y (counted_lacks g closed c y e)) (next_back g.columns x y n) (counted_lacks g closed c x d) in
      inr (e, (u, z, j, joined_join g.columns (Lacks g c) y x z step at, m))

  joined_group : (s t : ℕ) → IsAlive g c s → IsAlive g c t → Joined g.columns IsSafe s t → InGroup g c s t
  joined_group s t a b j =
      elim (carried g.columns IsSafe (Meets s) (meets_next s) s t (inl (a, leads_here (IsLinkedInGroup g c) (IsAlive g c) s a)) j) as (λ _. InGroup g c s t) [
        | inl w ↦ w.1
        | inr w ↦ absurd ((counted_lacks g closed c t w.0).1 (alive_stone g c t b).1)
      ]

  -- the lowest alive stone of each part is the lowest of its group
  pub leaders_are : (alive counted all found : List Bool) (labels : List ℕ) → Marks alive (IsAlive g c) → Marks counted (IsCounted g c)
      → Marks all (λ p. IsMarked alive p ⊎ IsMarked counted p) → ArePartLabels g.columns (IsMarked all) labels
      → Marks found (λ p. IsMarked alive p × ((q : ℕ) → IsMarked alive q → label labels q ≡ label labels p → p ≤ q))
      → Marks found (IsLeader g c)
  leaders_are alive counted all found labels isa isc is parts firsts p = (
    λ m.
        let w = (firsts p).0 m in
        let a = (isa p).0 w.0 in (
          a,
          λ q j. w.1 q ((isa q).1 (leads_end (IsLinkedInGroup g c) (IsAlive g c) p q j))
              (over.same q p (joined_back g.columns IsSafe p q (group_joined p q a j))),
        ),
    λ l. (firsts p).1 (
      (isa p).1 l.0,
      λ q m e. let b = (isa q).0 m in
          l.1 q (joined_group p q l.0 b (joined_back g.columns IsSafe q p (one_part g.columns IsSafe labels q p over (inl b) (inl l.0) e))),
    ),
  )
    where
      safe_is : (p : ℕ) → IsMarked all p ↔ IsSafe p
      safe_is p = (
        λ m. elim ((is p).0 m) as (λ _. IsSafe p) [ inl a ↦ inl ((isa p).0 a) | inr d ↦ inr ((isc p).0 d) ],
        λ w. elim w as (λ _. IsMarked all p) [ inl a ↦ (is p).1 (inl ((isa p).1 a)) | inr d ↦ (is p).1 (inr ((isc p).1 d)) ],
      )

      over : ArePartLabels g.columns IsSafe labels
      over = parts_over g.columns (IsMarked all) IsSafe labels safe_is parts
