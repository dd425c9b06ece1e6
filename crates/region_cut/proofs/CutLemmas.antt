-- Regions of play: what stands next to them, their links, and all of them, lowest point by lowest point.
use Rattle.std.proofs.Common.{ℕ, zero, suc, inl, inr, ◌≡◌, ◌+◌, ◌<◌, sym, ◌∙◌, arith, refl, subst, List, [], ◌∷◌, ◌++◌, length, get_or, Option, None, Some, below_more, ◌↔◌, ◌*◌, ◌≤◌, ◌⊎◌, Bool, true, false, Contains, AllPairs}
use Rattle.go_grid.specs.declared.grid.Colour.{Colour}
use Rattle.go_grid.specs.declared.grid.Colour.TheVariants as colour
use Rattle.go_grid.specs.Board.{Board, NextTo, IsClosedOff, Lacks, cell_at, stone, IsAbove, IsLeftOf, IsThe, AreNear}
use Rattle.go_grid.proofs.NearLemmas.{next_back}
use Rattle.go_grid.proofs.WalkLemmas.{joined_here, joined_step, carried, joined_back, joined_join, joined_end, marks_joined}
use Rattle.benson_life.proofs.WallLemmas.{counted_lacks, counted_region, counted_walled}
use Rattle.benson_life.specs.Life.{IsAlive, IsCounted}
use Rattle.benson_life.specs.Region.{IsContested, InRegionOfPlay}
use Rattle.go_grid.proofs.BoardLemmas.{same_or_not}
use Rattle.std.proofs.lemmas.List.{get_or_append_left, get_or_push, get_or_default}
use Rattle.go_grid.specs.declared.region.Touch.{Touch}
use Rattle.go_grid.specs.Region.{IsLink, AreLinks, Region, IsRegion, touch_at, IsBeside}
use Rattle.go_grid.proofs.LinkLemmas.{same_point, link_at, linked_to}
use Rattle.region_cut.specs.inner.Places.{IsPlace, IsTouch}
use Rattle.local_play.specs.LocalPlay.{IsLinked}
use Rattle.std.specs.List.Sorted.{IsStrictlyIncreasing}
use Rattle.std.proofs.lemmas.Bool.{both_ways, cases_Bool, cases_eq, true_from_ne_false}
use Rattle.std.proofs.lemmas.List.Elements.{Contains-get_or, Contains-push, Contains-push_cases, Contains-append_left}
use Rattle.std.proofs.lemmas.Map.Keys.{sorted_from_strictly_increasing, below_from_sorted}
use Rattle.go_grid.specs.declared.grid.Cell.{Cell}
use Rattle.go_grid.specs.declared.grid.Cell.TheVariants.{Empty}
use Rattle.go_grid.specs.declared.grid.Colour.TheVariants.{Black, White}
use Rattle.go_grid.specs.Marks.{IsMarked, Marks, Lists}
use Rattle.go_grid.specs.Walk.{Joined}
use Rattle.go_grid.proofs.PointsLemmas.{lists_same}
use Rattle.region_cut.specs.Cut.{IsRegionOfPlay, IsWalledIn, lowest, AreRegionsOfPlay}
use Rattle.std.proofs.lemmas.List.Quantifiers.{all_pairs_push}
use Rattle.go_grid.specs.Parts.{ArePartLabels, label}
use Rattle.go_grid.proofs.PartsLemmas.{label_in}
use Rattle.benson_life.proofs.PartsLemmas.{parts_over}

-- What stands next to a contested point.

pub not_alive : (g : Board) (c : Colour) (p : ℕ) → IsContested g p → ¬ IsAlive g c p
not_alive g colour.Black p h = h.1
not_alive g colour.White p h = h.2

pub not_counted : (g : Board) (c : Colour) (p : ℕ) → IsContested g p → ¬ IsCounted g c p
not_counted g colour.Black p h = h.3
not_counted g colour.White p h = h.4

-- no point next to a contested one is counted
pub never_next_to_counted : (g : Board) → IsClosedOff g → (c : Colour) (p q : ℕ) → IsContested g p → NextTo g.columns p q → ¬ IsCounted g c q
never_next_to_counted g closed c p q contested next counted =
    let here = joined_here g.columns (Lacks g c) q (counted_lacks g closed c q counted) in
    let back = next_back g.columns p q next in
    elim (same_or_not (cell_at g p) (stone c)) [
      | inl e ↦ not_alive g c p contested (counted_walled g closed c q p counted back (contested.0, e))
      | inr ne ↦
          let lacks : Lacks g c p = (contested.0, ne) in
          not_counted g c p contested (counted_region g closed c q p counted (joined_step g.columns (Lacks g c) q q p here back lacks))
    ]

-- Places of points, and lists that are made item by item.

-- one more item that fits
pub push_more : {X : Type 0} (xs : List X) (x d : X) (n : ℕ) (Fits : ℕ → X → Type 0) → length xs ≡ n
    → ((i : ℕ) → i < n → Fits i (get_or xs i d)) → Fits n x → (i : ℕ) → i < n + 1 → Fits i (get_or (xs ++ x ∷ []) i d)
push_more xs x d n Fits long old new =
    below_more (λ i. Fits i (get_or (xs ++ x ∷ []) i d)) n
    (λ i lt. let short : i < length xs = omega arith in rw (get_or_append_left xs (x ∷ []) d i short) (old i lt))
    (rw (get_or_push xs x d n long) new)

link_from : (area : ℕ) (points : List ℕ) (Near : ℕ → Type 0) (o r : Option ℕ) → ((p : ℕ) → Contains points p → p < area)
    → ((q s : ℕ) → Near q → Near s → q ≡ s) → IsThe area Near o → IsPlace points o r → IsLink points Near r
link_from area points Near o (Some j) inside one the place = (place.0, (subst (IsThe area Near) place.1 the).1)
link_from area points Near None None inside one the place = λ q h near. the q (inside q h) near
link_from area points Near (Some s) None inside one the place =
    λ q h near. place s refl (subst (Contains points) (one q s near the.1) h)

-- the places of the four neighbours are the links
pub links_from : (c area p : ℕ) (points : List ℕ) (u l r d : Option ℕ) (t : Touch) → ((q : ℕ) → Contains points q → q < area)
    → AreNear c area p u l r d → IsPlace points u t.up → IsPlace points l t.left → IsPlace points r t.right
    → IsPlace points d t.down → AreLinks c points p t
links_from c area p points u l r d t inside near pu pl pr pd = record {
  up = link_from area points (λ q. IsAbove c p q) u t.up inside
      (λ q s a b. same_point c q s (omega (arith, a.0, b.0)) (a.1 ∙ sym b.1)) near.above pu;
  left = link_from area points (λ q. IsLeftOf c p q) l t.left inside
      (λ q s a b. same_point c q s (a.0 ∙ sym b.0) (omega (arith, a.1, b.1))) near.before pl;
  right = link_from area points (λ q. IsLeftOf c q p) r t.right inside
      (λ q s a b. same_point c q s (sym a.0 ∙ b.0) (sym a.1 ∙ b.1)) near.after pr;
  down = link_from area points (λ q. IsAbove c q p) d t.down inside
      (λ q s a b. same_point c q s (sym a.0 ∙ b.0) (sym a.1 ∙ b.1)) near.below pd;
}

-- the links of the region are exactly its points' being next to each other
pub links_are_next : (r : Region) → IsRegion r.columns r.rows r.points r.cells r.touch → (i j : ℕ) → i < length r.points → IsLinked r.touch i j
    ↔ ((j < length r.points) × NextTo r.columns (get_or r.points i 0) (get_or r.points j 0))
links_are_next r reg i j lt =
    let c = r.columns in
    let p = get_or r.points i 0 in
    let links = reg.links i lt in
    let t = touch_at r.touch i in (
      λ link. elim link [
        | inl e ↦ let w = link_at r.points _ t.up j links.up e in (w.0, inr (sym w.1.1, inr w.1.0))
        | inr (inl e) ↦ let w = link_at r.points _ t.left j links.left e in (w.0, inl (sym w.1.0, inr w.1.1))
        | inr (inr (inl e)) ↦ let w = link_at r.points _ t.right j links.right e in (w.0, inl (w.1.0, inl w.1.1))
        | inr (inr (inr e)) ↦ let w = link_at r.points _ t.down j links.down e in (w.0, inr (w.1.1, inl w.1.0))
      ],
      λ (ltj, next). elim next [
        | inl (row, inl e) ↦ inr (inr (inl (linked_to r.points (λ q. IsLeftOf c q p) t.right j reg.ascending links.right
            (λ q s a b. same_point c q s (sym a.0 ∙ b.0) (sym a.1 ∙ b.1)) ltj (row, e))))
        | inl (row, inr e) ↦ inr (inl (linked_to r.points (λ q. IsLeftOf c p q) t.left j reg.ascending links.left
            (λ q s a b. same_point c q s (a.0 ∙ sym b.0) (omega (arith, a.1, b.1))) ltj (sym row, e)))
        | inr (column, inl e) ↦ inr (inr (inr (linked_to r.points (λ q. IsAbove c q p) t.down j reg.ascending links.down
            (λ q s a b. same_point c q s (sym a.0 ∙ b.0) (sym a.1 ∙ b.1)) ltj (e, column))))
        | inr (column, inr e) ↦ inl (linked_to r.points (λ q. IsAbove c p q) t.up j reg.ascending links.up
            (λ q s a b. same_point c q s (omega (arith, a.0, b.0)) (a.1 ∙ sym b.1)) ltj (e, sym column))
      ],
    )

-- The region of a contested point.

-- the lowest of ascending points stands first
pub first_is : (points : List ℕ) (start : ℕ) → IsStrictlyIncreasing points → Contains points start
    → ((p : ℕ) → Contains points p → start ≤ p) → get_or points 0 0 ≡ start
first_is points start rising (zero, lt, e) least = get_or_default points 0 0 start lt ∙ e
first_is points start rising (suc k, lt, e) least =
    let low = least (get_or points 0 0) (Contains-get_or points 0 0 (omega (arith, lt))) in
    let at : get_or points (suc k) 0 ≡ start = get_or_default points (suc k) 0 start lt ∙ e in
    let less = below_from_sorted points 0 (suc k) 0 (sorted_from_strictly_increasing points rising) (omega arith) lt in
    absurd (omega (arith, less, at, low))

-- the listed points are those of the region
pub region_lists : (g : Board) {k start : ℕ} (within part : List Bool) {points : List ℕ} → k ≡ g.columns → Marks within (IsContested g)
    → Marks part (Joined k (IsMarked within) start) → Lists points (IsMarked part) → Lists points (InRegionOfPlay g start)
region_lists g {k} {start} within part {points} e is filled lists =
    lists_same points (IsMarked part) (InRegionOfPlay g start) lists
    (subst (λ n. Marks part (Joined n (IsContested g) start)) e (marks_joined k start within part (IsContested g) is filled))

module _ (g : Board) (start : ℕ) {points : List ℕ} (lists : Lists points (InRegionOfPlay g start)) where
  -- each of them is on the board
  pub region_inside : (k d : ℕ) → k < length points → get_or points k d < length g.cells
  region_inside k d lt =
      (joined_end g.columns (IsContested g) start (get_or points k d) ((lists.exact _).0 (Contains-get_or points k d lt))).0

  -- the lowest of them stands first
  pub region_first : IsContested g start → ((p : ℕ) → InRegionOfPlay g start p → start ≤ p) → get_or points 0 0 ≡ start
  region_first contested least =
      first_is points start lists.ascending ((lists.exact start).1 (joined_here g.columns (IsContested g) start contested))
      (λ p h. least p ((lists.exact p).0 h))

  -- with what they hold and touch
  module _ (contested : IsContested g start) {k r : ℕ} (cells : List Cell) (touch : List Touch) {black white : List Bool}
      (ek : k ≡ g.columns) (er : r ≡ g.rows) (area : length g.cells ≡ g.columns * g.rows)
      (lc : length cells ≡ length points) (lt : length touch ≡ length points)
      (each : (i : ℕ) → i < length points → IsTouch k points black white (get_or points i 0) (touch_at touch i)) where
    touches : (i : ℕ) → i < length points → IsTouch g.columns points black white (get_or points i 0) (touch_at touch i)
    touches i l = subst (λ n. IsTouch n points black white (get_or points i 0) (touch_at touch i)) ek (each i l)

    is_region : IsRegion g.columns g.rows points cells touch
    is_region =
        let c = g.columns in
        let onward : (p x y : ℕ) → Joined c (Contains points) p x → NextTo c x y → IsContested g y → Joined c (Contains points) p y
        = λ p x y at next h.
        let here = joined_end c (Contains points) p x at in
        joined_step c (Contains points) p x y at next
        ((lists.exact y).1 (joined_step c (IsContested g) start x y ((lists.exact x).0 here) next h)) in record {
          some = let h = (lists.exact start).1 (joined_here c (IsContested g) start contested) in omega (arith, h.1);
          full = lc;
          beside = lt;
          ascending = lists.ascending;
          on_board = λ p h. rw area at (joined_end c (IsContested g) start p ((lists.exact p).0 h)).0;
          joined = λ p q hp hq. carried c (IsContested g) (Joined c (Contains points) p) (onward p) p q
              (joined_here c (Contains points) p hp)
              (joined_join c (IsContested g) p start q (joined_back c (IsContested g) start p ((lists.exact p).0 hp))
              ((lists.exact q).0 hq));
          links = λ i l. (touches i l).links;
        }

    walls_of : Marks black (IsAlive g Black) → Marks white (IsAlive g White) → (i : ℕ) (c : Colour) → i < length points
        → IsBeside c (touch_at touch i) ↔ ((s : ℕ) × NextTo g.columns (get_or points i 0) s × IsAlive g c s)
    walls_of isb isw i Black l = (
      λ e. let h = (touches i l).black.0 e in (h.0, h.1, (isb h.0).0 h.2),
      λ h. (touches i l).black.1 (h.0, h.1, (isb h.0).1 h.2),
    )
    walls_of isb isw i White l = (
      λ e. let h = (touches i l).white.0 e in (h.0, h.1, (isw h.0).0 h.2),
      λ h. (touches i l).white.1 (h.0, h.1, (isw h.0).1 h.2),
    )

    -- the region of a contested point that is its lowest
    pub is_region_of_play : ((p : ℕ) → InRegionOfPlay g start p → start ≤ p)
        → ((i : ℕ) → i < length points → get_or cells i Empty ≡ cell_at g (get_or points i 0))
        → Marks black (IsAlive g Black) → Marks white (IsAlive g White)
        → IsRegionOfPlay g (record { columns = k; rows = r; points = points; cells = cells; touch = touch })
    is_region_of_play least read isb isw =
        let first = region_first contested least in record {
          columns = ek;
          rows = er;
          proper = rw (ek, er) is_region;
          points = λ p. subst (λ s. Contains points p ↔ InRegionOfPlay g s p) (sym first) (lists.exact p);
          first = λ p h. subst (λ s. s ≤ p) (sym first) (least p ((lists.exact p).0 h));
          cells = read;
          walls = walls_of isb isw;
        }

pub true_stable : (b : Bool) → ¬ ¬ (b ≡ true) → b ≡ true
true_stable b never = true_from_ne_false b (λ f. never (λ t. both_ways b f t))

-- what stands next to the region and outside it can't but be an alive stone
pub never_open : (g : Board) (r : Region) → IsClosedOff g → IsRegionOfPlay g r → (p q : ℕ) → Contains r.points p → NextTo g.columns p q
    → q < length g.cells → ¬ Contains r.points q → ¬ ((c : Colour) → ¬ IsAlive g c q)
never_open g r closed play p q h next lt out dead =
    let start = lowest r in
    let from = (play.points p).0 h in
    let here = joined_end g.columns (IsContested g) start p from in
    let contested : IsContested g q = (
      lt,
      dead Black,
      dead White,
      never_next_to_counted g closed Black p q here next,
      never_next_to_counted g closed White p q here next,
    ) in
    out ((play.points q).1 (joined_step g.columns (IsContested g) start p q from next contested))

-- it is one, which marks of the alive stones tell
pub walled_in : (g : Board) (r : Region) (black white : List Bool) → Marks black (IsAlive g Black) → Marks white (IsAlive g White)
    → IsClosedOff g → IsRegionOfPlay g r → IsWalledIn g r
walled_in g r black white isb isw closed play p q h next lt out =
    elim (cases_Bool (get_or black q false)) as (λ _. IsAlive g Black q ⊎ IsAlive g White q) [
      | inl m ↦ inl ((isb q).0 m)
      | inr nb ↦ elim (cases_Bool (get_or white q false)) as (λ _. IsAlive g Black q ⊎ IsAlive g White q) [
        | inl m ↦ inr ((isw q).0 m)
        | inr nw ↦ absurd (never_open g r closed play p q h next lt out (dead nb nw))
      ]
    ]
  where
    dead : get_or black q false ≡ false → get_or white q false ≡ false → (c : Colour) → ¬ IsAlive g c q
    dead nb nw Black a = both_ways _ nb ((isb q).1 a)
    dead nb nw White a = both_ways _ nw ((isw q).1 a)

-- Regions of play, lowest point by lowest point.

-- a region of play between alive stones
pub record IsCut (g : Board) (r : Region) : Type 0 where
  pub play : IsRegionOfPlay g r
  pub walled : IsWalledIn g r

-- the regions whose lowest point is below `n`
pub record CutBelow (g : Board) (parts : List ℕ) (regions : List Region) (n : ℕ) : Type 0 where
  pub each : (r : Region) → Contains regions r → IsCut g r × (lowest r < n)
  pub every : (p : ℕ) → IsContested g p → label parts p < n → (r : Region) × Contains regions r × Contains r.points p
  pub ascending : AllPairs (λ r s. lowest r < lowest s) regions

module _ {g : Board} {parts : List ℕ} {regions : List Region} {n : ℕ} (are : ArePartLabels g.columns (IsContested g) parts) (s : CutBelow g parts regions n) where
  pub cut_skip : (IsContested g n → ¬ (label parts n ≡ n)) → CutBelow g parts regions (n + 1)
  cut_skip other = record {
    each = λ r h. let w = s.each r h in (w.0, omega (arith, w.1));
    every = λ p h lt. elim (cases_eq (label parts p) n) as (λ _. (r : Region) × Contains regions r × Contains r.points p) [
      | inl e ↦
          let own = label_in g.columns (IsContested g) parts are p h in
          absurd (other (subst (IsContested g) e own.0) (subst (λ x. label parts x ≡ x) e own.1))
      | inr ne ↦ s.every p h (omega arith)
    ];
    ascending = s.ascending;
  }

  pub cut_push : (r : Region) → IsCut g r → lowest r ≡ n → CutBelow g parts (regions ++ r ∷ []) (n + 1)
  cut_push r is first = record {
    each = λ t h. elim (Contains-push_cases regions r t h) as (λ _. IsCut g t × (lowest t < n + 1)) [
      | inl old ↦ let w = s.each t old in (w.0, omega (arith, w.1))
      | inr e ↦ subst (λ (x : Region). IsCut g x × (lowest x < n + 1)) e (is, omega arith)
    ];
    every = λ p h lt. elim (cases_eq (label parts p) n)
        as (λ _. (t : Region) × Contains (regions ++ r ∷ []) t × Contains t.points p) [
          | inl e ↦
              let from : InRegionOfPlay g p (lowest r) = subst (InRegionOfPlay g p) (e ∙ sym first) (are.joined p h) in
              (r, Contains-push regions r, (is.play.points p).1 (joined_back g.columns (IsContested g) p (lowest r) from))
          | inr ne ↦ let w = s.every p h (omega arith) in (w.0, Contains-append_left regions (r ∷ []) w.0 w.1, w.2)
        ];
    ascending = all_pairs_push (λ r s. lowest r < lowest s) regions r s.ascending
        (λ k d lt. let w = (s.each (get_or regions k d) (Contains-get_or regions k d lt)).1 in omega (arith, w, first));
  }

  pub cut_all : length g.cells ≡ n → AreRegionsOfPlay g regions
  cut_all full = record {
    each = λ r h. (s.each r h).0.play;
    every = λ p h. s.every p h (let low = are.lowest p h in omega (arith, h.0, low));
    ascending = s.ascending;
  }

-- a point that is its own label is the lowest of its region
pub lowest_is : (g : Board) (parts : List ℕ) (n p : ℕ) → ArePartLabels g.columns (IsContested g) parts → label parts n ≡ n
    → IsContested g p → InRegionOfPlay g n p → n ≤ p
lowest_is g parts n p are e h j = let same = are.same n p j in let low = are.lowest p h in omega (arith, same, low, e)

-- the parts of the contested points
pub parts_of : (g : Board) (within : List Bool) {k : ℕ} {parts : List ℕ} → k ≡ g.columns → Marks within (IsContested g)
    → ArePartLabels k (IsMarked within) parts → ArePartLabels g.columns (IsContested g) parts
parts_of g within {k} {parts} e is w =
    subst (λ n. ArePartLabels n (IsContested g) parts) e (parts_over k (IsMarked within) (IsContested g) parts is w)
