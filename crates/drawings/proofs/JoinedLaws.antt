-- The points of a drawing that walks join are a region.
use Rattle.std.proofs.Common.{◌≡◌, ℕ, ◌+◌, ◌*◌, ◌<◌, sym, ◌∙◌, arith, refl, subst, List, [], ◌∷◌, ◌++◌, Bool, length, get_or, Option, None, Some, below_more}
use Rattle.std.proofs.lemmas.List.{get_or_append_left, get_or_push}
use Rattle.std.specs.List.{Contains}
use Rattle.std.specs.Prelude.{IfNone, IfSome}
use Rattle.go_grid.specs.declared.grid.Cell.{Cell}
use Rattle.go_grid.specs.declared.region.Touch.{Touch}
use Rattle.go_grid.specs.Board.{AreNear, IsAbove, IsLeftOf, IsThe, NextTo}
use Rattle.go_grid.specs.Marks.{IsMarked, IsWithin, Lists}
use Rattle.go_grid.specs.Region.{AreLinks, IsLink, IsRegion, nothing_near, touch_at}
use Rattle.go_grid.specs.Walk.{Joined}
use Rattle.go_grid.proofs.WalkLemmas.{carried, joined_here, joined_step, joined_back, joined_join, joined_end}
use Rattle.go_grid.proofs.LinkLemmas.{same_point}

-- the place of a neighbour is the link
link_from : (area : ℕ) (points : List ℕ) (Near : ℕ → Type 0) (o r : Option ℕ) → ((p : ℕ) → Contains points p → p < area)
    → ((q s : ℕ) → Near q → Near s → q ≡ s) → IsThe area Near o
    → IfSome r (λ j. (j < length points) × (o ≡ Some (get_or points j 0))) → IfNone r ((p : ℕ) → o ≡ Some p → ¬ Contains points p)
    → IsLink points Near r
link_from area points Near o (Some j) inside one the some none = (some.0, (subst (IsThe area Near) some.1 the).1)
link_from area points Near None None inside one the some none = λ q h near. the q (inside q h) near
link_from area points Near (Some s) None inside one the some none =
    λ q h near. none s refl (subst (Contains points) (one q s near the.1) h)

-- what the place of a point is
abbrev pub IsPlaceOf : List ℕ → Option ℕ → Option ℕ → Type 0
IsPlaceOf points o r =
    IfSome r (λ j. (j < length points) × (o ≡ Some (get_or points j 0))) × IfNone r ((p : ℕ) → o ≡ Some p → ¬ Contains points p)

pub links_from : (c area p : ℕ) (points : List ℕ) (u l r d : Option ℕ) (t : Touch) → ((q : ℕ) → Contains points q → q < area)
    → AreNear c area p u l r d → IsPlaceOf points u t.up → IsPlaceOf points l t.left → IsPlaceOf points r t.right
    → IsPlaceOf points d t.down → AreLinks c points p t
links_from c area p points u l r d t inside near pu pl pr pd = record {
  up = link_from area points (λ q. IsAbove c p q) u t.up inside
      (λ q s a b. same_point c q s (omega (arith, a.0, b.0)) (a.1 ∙ sym b.1)) near.above pu.0 pu.1;
  left = link_from area points (λ q. IsLeftOf c p q) l t.left inside
      (λ q s a b. same_point c q s (a.0 ∙ sym b.0) (omega (arith, a.1, b.1))) near.before pl.0 pl.1;
  right = link_from area points (λ q. IsLeftOf c q p) r t.right inside
      (λ q s a b. same_point c q s (sym a.0 ∙ b.0) (sym a.1 ∙ b.1)) near.after pr.0 pr.1;
  down = link_from area points (λ q. IsAbove c q p) d t.down inside
      (λ q s a b. same_point c q s (sym a.0 ∙ b.0) (sym a.1 ∙ b.1)) near.below pd.0 pd.1;
}

pub part_inside : (c area start : ℕ) (marks : List Bool) (points : List ℕ) → IsWithin area marks
    → Lists points (Joined c (IsMarked marks) start) → (p : ℕ) → Contains points p → p < area
part_inside c area start marks points within lists p h = within p (joined_end c (IsMarked marks) start p ((lists.exact p).0 h))

pub part_is_region : (c rows start : ℕ) (marks : List Bool) (points : List ℕ) (cells : List Cell) (touch : List Touch)
    → IsWithin (c * rows) marks → IsMarked marks start → Lists points (Joined c (IsMarked marks) start) → length cells ≡ length points
    → length touch ≡ length points → ((i : ℕ) → i < length points → AreLinks c points (get_or points i 0) (touch_at touch i))
    → IsRegion c rows points cells touch
part_is_region c rows start marks points cells touch within starts lists full beside links = record {
  some = let h = (lists.exact start).1 (joined_here c (IsMarked marks) start starts) in omega (arith, h.1);
  full = full;
  beside = beside;
  ascending = lists.ascending;
  on_board = part_inside c (c * rows) start marks points within lists;
  joined = λ p q hp hq. carried c (IsMarked marks) (Joined c (Contains points) p) (onward p) p q
      (joined_here c (Contains points) p hp)
      (joined_join c (IsMarked marks) p start q (joined_back c (IsMarked marks) start p ((lists.exact p).0 hp)) ((lists.exact q).0 hq));
  links = links;
}
  where
    onward : (p x y : ℕ) → Joined c (Contains points) p x → NextTo c x y → IsMarked marks y → Joined c (Contains points) p y
    onward p x y at next h =
        let here = joined_end c (Contains points) p x at in
        joined_step c (Contains points) p x y at next
        ((lists.exact y).1 (joined_step c (IsMarked marks) start x y ((lists.exact x).0 here) next h))

pub links_push : (c : ℕ) (points : List ℕ) (n : ℕ) (touch : List Touch) (t : Touch) → length touch ≡ n
    → ((i : ℕ) → i < n → AreLinks c points (get_or points i 0) (touch_at touch i)) → AreLinks c points (get_or points n 0) t
    → (i : ℕ) → i < n + 1 → AreLinks c points (get_or points i 0) (touch_at (touch ++ t ∷ []) i)
links_push c points n touch t long old new =
    below_more (λ i. AreLinks c points (get_or points i 0) (touch_at (touch ++ t ∷ []) i)) n
    (λ i lt. subst (AreLinks c points (get_or points i 0)) (sym (get_or_append_left touch (t ∷ []) nothing_near i (omega (arith, long, lt)))) (old i lt))
    (subst (AreLinks c points (get_or points n 0)) (sym (get_or_push touch t nothing_near n long)) new)
