-- The lines of chains and of counted regions.
use Rattle.std.proofs.Common.{◌≡◌, ◌≢◌, ℕ, ◌+◌, ◌*◌, ◌<◌, ◌≤◌, inl, inr, sym, refl, ◌∙◌, arith, subst, List, length, get_or, Bool, sum_by, [], ◌++◌, flat_map, ap, append_assoc}
use Rattle.std.specs.List.{Contains}
use Rattle.std.specs.List.Sorted.{IsStrictlyIncreasing}
use Rattle.std.proofs.lemmas.Bool.{cases_lt}
use Rattle.std.proofs.lemmas.List.{get_or_default}
use Rattle.std.proofs.lemmas.List.Elements.{Contains-get_or}
use Rattle.std.proofs.lemmas.Map.Keys.{sorted_from_strictly_increasing, below_from_sorted}
use Rattle.go_grid.specs.declared.grid.Colour.{Colour}
use Rattle.go_grid.specs.declared.grid.Colour.TheVariants.{Black, White}
use Rattle.go_grid.specs.Board.{Board, IsClosedOff, Lacks}
use Rattle.go_grid.specs.Walk.{Joined}
use Rattle.go_grid.proofs.PointsLemmas.{lists_same}
use Rattle.go_grid.proofs.WalkLemmas.{joined_end, joined_here, marks_joined}
use Rattle.go_grid.specs.Marks.{IsMarked, Marks, Lists}
use Rattle.benson_life.specs.Groups.{IsNumberOfGroups}
use Rattle.benson_life.specs.Held.{worth}
use Rattle.benson_life.specs.Life.{InRegion, IsCounted}
use Rattle.benson_life.proofs.WallLemmas.{counted_inside, counted_lacks}
use Rattle.go_grid.specs.Region.{Region}
use Rattle.region_cut.specs.Cut.{AreRegionsOfPlay}
use Rattle.report.proofs.TextLaws.{three_pieces}
use Rattle.report.specs.declared.chains.ChainLine.{ChainLine}
use Rattle.report.specs.declared.safety.CountedLine.{CountedLine}
use Rattle.report.specs.Chains.{AreChainLines, chain_lines}
use Rattle.report.specs.Safety.{AreCountedLines, IsSafeText, counted_line, groups_line, region_line, IsLowestCounted, IsCountedLine, IsCountedKey, turn}

-- a list that has a point isn't empty, and its first point is the least
pub has_first : (points : List ℕ) (p : ℕ) → Contains points p → 0 < length points
has_first points p (k, lt, e) = omega (arith, lt)

pub first_least : (points : List ℕ) (p : ℕ) → IsStrictlyIncreasing points → Contains points p → get_or points 0 0 ≤ p
first_least points p rising (k, lt, e) =
    let at : get_or points k 0 ≡ p = get_or_default points k 0 p lt ∙ e in
    elim (cases_lt 0 k) as (λ _. get_or points 0 0 ≤ p) [
      | inl more ↦ let less = below_from_sorted points 0 k 0 (sorted_from_strictly_increasing points rising) more lt in omega (arith, less, at)
      | inr none ↦ let z : k ≡ 0 = omega arith in let w = subst (λ n. get_or points n 0 ≡ p) z at in omega (arith, w)
    ]

-- the least point of a list stands first
pub is_first : (points : List ℕ) (p : ℕ) → IsStrictlyIncreasing points → Contains points p → ((q : ℕ) → Contains points q → p ≤ q) → get_or points 0 0 ≡ p
is_first points p rising has least =
    let low = least (get_or points 0 0) (Contains-get_or points 0 0 (has_first points p has)) in
    let high = first_least points p rising has in omega (arith, low, high)

-- a key has one point and one colour
one_key : (c d : Colour) (p q : ℕ) → 2 * p + turn c ≡ 2 * q + turn d → (c ≡ d) × (p ≡ q)
one_key Black Black p q e = (refl, omega (arith, e))
one_key White White p q e = (refl, omega (arith, e))
one_key Black White p q e = absurd (omega (arith, e))
one_key White Black p q e = absurd (omega (arith, e))

key_is : (g : Board) (c : Colour) (p : ℕ) → IsCountedKey g (2 * p + turn c) → IsLowestCounted g c p
key_is g c p (d, q, e, w) =
    let k = one_key c d p q e in
    subst (λ x. IsLowestCounted g x p) (sym k.0) (subst (λ x. IsLowestCounted g d x) (sym k.1) w)

-- the region of a counted point
pub region_lists : (g : Board) (c : Colour) (k p : ℕ) (within filled : List Bool) (points : List ℕ) → k ≡ g.columns → Marks within (Lacks g c)
    → Marks filled (Joined k (IsMarked within) p) → Lists points (IsMarked filled) → Lists points (InRegion g c p)
region_lists g c k p within filled points e is f lists =
    let joined = subst (λ n. Marks filled (Joined n (IsMarked within) p)) e f in
    lists_same points (IsMarked filled) (InRegion g c p) lists (marks_joined g.columns p within filled (Lacks g c) is joined)

pub region_has_first : (g : Board) → IsClosedOff g → (c : Colour) (p : ℕ) (points : List ℕ) → IsCounted g c p → Lists points (InRegion g c p) → 0 < length points
region_has_first g closed c p points h lists =
    has_first points p ((lists.exact p).1 (joined_here g.columns (Lacks g c) p (counted_lacks g closed c p h)))

pub region_on_board : (g : Board) (c : Colour) (p : ℕ) (points : List ℕ) → Lists points (InRegion g c p) → (k d : ℕ) → k < length points → get_or points k d < length g.cells
region_on_board g c p points lists k d lt = (joined_end g.columns (Lacks g c) p (get_or points k d) ((lists.exact _).0 (Contains-get_or points k d lt))).0

pub no_key_unmarked : (g : Board) (c : Colour) (p : ℕ) (marks : List Bool) → Marks marks (IsCounted g c) → ¬ IsMarked marks p → ¬ IsCountedKey g (2 * p + turn c)
no_key_unmarked g c p marks is un w = un ((is p).1 (key_is g c p w).0)

pub no_key_from : (g : Board) → IsClosedOff g → (c : Colour) (p : ℕ) (points : List ℕ) → IsCounted g c p → Lists points (InRegion g c p) → get_or points 0 0 ≢ p
    → ¬ IsCountedKey g (2 * p + turn c)
no_key_from g closed c p points h lists other w =
    other (is_first points p lists.ascending ((lists.exact p).1 (joined_here g.columns (Lacks g c) p (counted_lacks g closed c p h))) (λ q i. (key_is g c p w).1 q ((lists.exact q).0 i)))

pub counted_line_is : (g : Board) (c : Colour) (p n held : ℕ) (points : List ℕ) → IsCounted g c p → Lists points (InRegion g c p)
    → get_or points 0 0 ≡ p → length points ≡ n → held ≡ sum_by (worth g c) points → IsCountedLine g (record { lowest = p; colour = c; points = n; held = held })
counted_line_is g c p n held points h lists first long e = record {
  lowest = (h, λ q i. subst (λ x. x ≤ q) first (first_least points q lists.ascending ((lists.exact q).1 i)));
  within = points;
  lists = lists;
  points = sym long;
  held = e;
}

-- the lines name points of the board
pub counted_on_board : (g : Board) (ls : List CountedLine) → AreCountedLines g ls → (k : ℕ) (d : CountedLine) → k < length ls → (get_or ls k d).lowest < length g.cells
counted_on_board g ls are k d lt = counted_inside g (get_or ls k d).colour (get_or ls k d).lowest (are.each (get_or ls k d) (Contains-get_or ls k d lt)).0.lowest.0

-- the text of the lines of a board
pub safe_text_is : (g : Board) (k : ℕ) (chains : List ChainLine) (counted : List CountedLine) (black white : ℕ) (regions : List Region) (t u v x y w text : List ℕ)
    → k ≡ g.columns → AreChainLines g chains → AreCountedLines g counted → IsNumberOfGroups g Black black → IsNumberOfGroups g White white → AreRegionsOfPlay g regions → t ≡ [] → u ≡ t ++ flat_map (chain_lines k) chains
    → v ≡ u ++ flat_map (counted_line k) counted → x ≡ v ++ groups_line Black black → y ≡ x ++ groups_line White white → w ≡ y ++ flat_map (region_line k) regions
    → text ≡ w → IsSafeText g text
safe_text_is g k chains counted black white regions t u v x y w text e a b m n r empty first second third fourth fifth is =
    let groups = groups_line Black black ++ groups_line White white in
    let both : y ≡ v ++ groups = fourth ∙ ap (λ z. z ++ groups_line White white) third ∙ append_assoc v (groups_line Black black) (groups_line White white) in
    let rest : w ≡ v ++ (groups ++ flat_map (region_line k) regions) = fifth ∙ ap (λ z. z ++ flat_map (region_line k) regions) both
    ∙ append_assoc v groups (flat_map (region_line k) regions) in
    let three = three_pieces t u v w (flat_map (chain_lines k) chains) (flat_map (counted_line k) counted) (groups ++ flat_map (region_line k) regions) empty first second rest in record {
      chains = chains;
      counted = counted;
      black_groups = black;
      white_groups = white;
      regions = regions;
      are_chains = a;
      are_counted = b;
      are_black = m;
      are_white = n;
      are_regions = r;
      is = is ∙ subst (λ j. w ≡ flat_map (chain_lines j) chains ++ (flat_map (counted_line j) counted ++ (groups ++ flat_map (region_line j) regions))) e three;
    }

-- the regions are on the board
pub regions_on_board : (g : Board) (rs : List Region) → AreRegionsOfPlay g rs → (k : ℕ) (d : Region) → k < length rs → ((get_or rs k d).columns ≡ g.columns) × ((get_or rs k d).rows ≡ g.rows)
regions_on_board g rs are k d lt = let r = are.each (get_or rs k d) (Contains-get_or rs k d lt) in (r.columns, r.rows)
