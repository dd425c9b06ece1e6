-- In a region of play local play is play on the board, and it leaves the other regions as they were.
use Rattle.std.proofs.Common.{◌≡◌, ◌≢◌, ℕ, zero, suc, ◌+◌, ◌<◌, ◌≤◌, inl, inr, refl, sym, ap, subst, ◌∙◌, arith, List, length, get_or, set, take, cond, Bool, ◌⊎◌, ◌↔◌, nat_eq, map, []}
use Rattle.std.specs.List.{count_by, sum_by, Contains, list_any}
use Rattle.std.specs.List.Sorted.{IsStrictlyIncreasing}
use Rattle.std.proofs.lemmas.Bool.{cases_eq, cases_Bool, both_ways, eqb-true, cases_lt}
use Rattle.std.proofs.lemmas.List.{get_or-set_same, get_or-set_other, length-set, get_or_default, ext_get_or, get_or-map, get_or_past, length-map, take_all}
use Rattle.std.proofs.lemmas.List.Sums.{sum_by-set, sum_by_more}
use Rattle.go_grid.specs.declared.grid.Cell.{Cell}
use Rattle.go_grid.specs.declared.grid.Cell.TheVariants.{Empty}
use Rattle.go_grid.proofs.LinkLemmas.{one_place}
use Rattle.std.specs.Cmp.{nat_eq_equiv}
use Rattle.std.proofs.lemmas.List.Elements.{Contains-get_or}
use Rattle.std.proofs.lemmas.Map.Views.{Contains-from_any, list_any-from_Contains}
use Rattle.go_grid.specs.declared.grid.Colour.{Colour}
use Rattle.go_grid.specs.declared.grid.Colour.TheVariants as colour
use Rattle.go_grid.specs.declared.region.Touch.{Touch}
use Rattle.go_grid.specs.Board.{Board, NextTo, cell_at, stone, other}
use Rattle.go_grid.specs.Region.{Region, IsBeside, touch_at}
use Rattle.go_grid.specs.Chain.{IsSettled}
use Rattle.go_grid.proofs.BoardLemmas.{empty_not_stone, same_stone}
use Rattle.go_grid.proofs.WalkLemmas.{joined_end, joined_back, joined_join}
use Rattle.go_grid.specs.Play.{held_at, Holds, InChain, IsTaken as IsTakenBy, is_stone, with_stone as with_cell}
use Rattle.go_play.specs.Place.{IsBy, Never, Breathes, IsSameGround, IsPlaced, IsTaken}
use Rattle.go_play.proofs.BoardPlayLemmas.{stands_from, placed_long}
use Rattle.benson_life.specs.Life.{IsAlive}
use Rattle.benson_life.specs.Region.{IsContested}
use Rattle.benson_life.proofs.WallLemmas.{walls_breathe}
use Rattle.local_play.specs.LocalPlay.{IsLinked, IsBeside as IsBesidePlace, IsLocalMove}
use Rattle.local_play.specs.inner.LocalPlay.{InLocalChain, IsFree, IsRemoved}
use Rattle.go_grid.proofs.PathLemmas.{carried, leads_here, leads_join, leads_start, leads_step}
use Rattle.region_cut.specs.Cut.{IsRegionOfPlay, lowest, AreRegionsOfPlay}
use Rattle.region_cut.specs.LocalBoard.{HoldsPosition, IsLocal, PlaysLocally}
use Rattle.region_cut.proofs.CutLemmas.{links_are_next, never_open, true_stable, not_alive, not_counted}
use Rattle.go_grid.specs.declared.grid.Cell.TheVariants as cell
use Rattle.go_play.specs.inner.Place.{with_stone}
use Rattle.go_grid.proofs.PlayLemmas.{long_after, one_outcome}

-- A board with other cells written at a list of points.

one_more : (f : Cell → ℕ) (zs : List Cell) (n : ℕ) → n < length zs → sum_by f (take (suc n) zs) ≡ sum_by f (take n zs) + f (get_or zs n Empty)
one_more f zs n lt =
    let e : n + 1 ≡ suc n = omega arith in
    subst (λ m. sum_by f (take m zs) ≡ sum_by f (take n zs) + f (get_or zs n Empty)) e (sum_by_more f zs n Empty lt)

module _ (points : List ℕ) (rising : IsStrictlyIncreasing points) (xs ys : List Cell) where
  -- the first `n` of the cells `ys` written at the first `n` points
  abbrev pub written : ℕ → List Cell
  written zero = xs
  written (suc n) = set (written n) (get_or points n 0) (get_or ys n Empty)

  pub length-written : (n : ℕ) → length (written n) ≡ length xs
  length-written zero = refl
  length-written (suc n) = length-set (written n) (get_or points n 0) (get_or ys n Empty) ∙ length-written n

  pub written_outside : (n q : ℕ) → ((i : ℕ) → i < n → get_or points i 0 ≢ q) → get_or (written n) q Empty ≡ get_or xs q Empty
  written_outside zero q out = refl
  written_outside (suc n) q out =
      get_or-set_other (written n) (get_or points n 0) q (get_or ys n Empty) Empty (λ e. out n (omega arith) (sym e))
      ∙ written_outside n q (λ i lt. out i (omega (arith, lt)))

  module _ (on : (i : ℕ) → i < length points → get_or points i 0 < length xs) where
    pub written_at : (n i : ℕ) → n ≤ length points → i < n → get_or (written n) (get_or points i 0) Empty ≡ get_or ys i Empty
    written_at zero i le lt = absurd (omega (arith, lt))
    written_at (suc n) i le lt = elim (cases_eq i n) as (λ _. get_or (written (suc n)) (get_or points i 0) Empty ≡ get_or ys i Empty) [
      | inl e ↦
          subst (λ z. get_or (written (suc n)) (get_or points z 0) Empty ≡ get_or ys z Empty) (sym e)
          (get_or-set_same (written n) (get_or points n 0) (get_or ys n Empty) Empty
          (omega (arith, length-written n, on n (omega (arith, le)))))
      | inr ne ↦
          let less : i < n = omega (arith, lt, ne) in
          let other : get_or points i 0 ≢ get_or points n 0 = λ e. ne (one_place points i n rising (omega (arith, less, le)) (omega (arith, le)) e) in
          get_or-set_other (written n) (get_or points n 0) (get_or points i 0) (get_or ys n Empty) Empty other
          ∙ written_at n i (omega (arith, le)) less
    ]

    -- how many cells are such, before and after
    pub count_written : (is : Cell → Bool) (zs : List Cell) → length ys ≡ length points → length zs ≡ length points
        → ((i : ℕ) → i < length points → get_or xs (get_or points i 0) Empty ≡ get_or zs i Empty) → (n : ℕ) → n ≤ length points
        → count_by is (written n) + count_by is (take n zs) ≡ count_by is xs + count_by is (take n ys)
    count_written is zs ly lz held zero le = refl
    count_written is zs ly lz held (suc n) le =
        let f : Cell → ℕ = λ x. cond (is x) 1 0 in
        let p = get_or points n 0 in
        let y = get_or ys n Empty in
        let ih = count_written is zs ly lz held n (omega (arith, le)) in
        let kept = written_outside n p (λ i lt e. let same = one_place points i n rising (omega (arith, lt, le)) (omega (arith, le)) e in omega (arith, same, lt)) in
        let set' = sum_by-set f (written n) p y Empty (omega (arith, length-written n, on n (omega (arith, le)))) in
        let was = ap f (kept ∙ held n (omega (arith, le))) in
        let zs' = one_more f zs n (omega (arith, lz, le)) in
        let ys' = one_more f ys n (omega (arith, ly, le)) in
        omega (arith, ih, set', was, zs', ys')

-- On each board that holds a local position the local chains are free exactly where they have a liberty.

-- a number is in a list or not
pub among_or_not : (ns : List ℕ) (q : ℕ) → Contains ns q ⊎ (¬ Contains ns q)
among_or_not ns q = elim (cases_Bool (list_any (nat_eq q) ns)) [
  | inl on ↦ inl (Contains-from_any {eq = nat_eq} eqb-true q ns on)
  | inr off ↦ inr (λ h. both_ways _ off (list_any-from_Contains nat_eq_equiv q ns h))
]

-- the two ways of saying that an alive stone of the colour is next to a place
beside_is : (touch : List Touch) (c : Colour) (i : ℕ) → IsBesidePlace touch c i ↔ IsBeside c (touch_at touch i)
beside_is touch colour.Black i = (λ e. e, λ e. e)
beside_is touch colour.White i = (λ e. e, λ e. e)

beside_stable : (touch : List Touch) (c : Colour) (i : ℕ) → ¬ ¬ IsBeside c (touch_at touch i) → IsBeside c (touch_at touch i)
beside_stable touch colour.Black i = true_stable (touch_at touch i).black
beside_stable touch colour.White i = true_stable (touch_at touch i).white

pub point_contested : (g : Board) (r : Region) → IsRegionOfPlay g r → (q : ℕ) → Contains r.points q → IsContested g q
point_contested g r play q h = joined_end g.columns (IsContested g) (lowest r) q ((play.points q).0 h)

-- In a region of play local play is play on the board.

-- a board holds a local position where it has as much outside the region as one that does
pub holds_after : (g : Board) (r : Region) (cells next : List Cell) (h after : Board) → IsRegionOfPlay g r → HoldsPosition g r cells h
    → after.columns ≡ h.columns → length after.cells ≡ length h.cells → length next ≡ length cells
    → ((i : ℕ) → i < length r.points → cell_at after (get_or r.points i 0) ≡ held_at next i)
    → ((p : ℕ) → ¬ Contains r.points p → cell_at after p ≡ cell_at h p) → HoldsPosition g r next after
holds_after g r cells next h after play holds columns full long within outside = record {
  walls = record {
    columns = columns ∙ holds.walls.columns;
    long = full ∙ holds.walls.long;
    stones = λ c s a.
        let own = holds.walls.stones c s a in
        (subst (λ n. s < n) (sym full) own.0, outside s (λ in'. not_alive g c s (point_contested g r play s in') a) ∙ own.1);
    counted = λ c p w. outside p (λ in'. not_counted g c p (point_contested g r play p in') w) ∙ holds.walls.counted c p w;
  };
  long = long ∙ holds.long;
  local = within;
}

same_size : (h : Board) {cells : List Cell} → IsSameGround h (record h { cells = cells })
same_size h = record { columns = refl; rows = refl; declared = refl }

module _ (g : Board) (r : Region) (settled : IsSettled g) (play : IsRegionOfPlay g r) where
  abbrev at : ℕ → ℕ
  at i = get_or r.points i 0

  -- the board `h` holds a position, and `f` is a board of its size, whose points are next to each other in the same way
  module _ {cells : List Cell} {h : Board} (holds : HoldsPosition g r cells h) {f : Board} (size : IsSameGround f h)
      (long : length h.cells ≡ length f.cells) where
    same_columns : r.columns ≡ f.columns
    same_columns = play.columns ∙ sym holds.walls.columns ∙ size.columns

    pub inside : (i : ℕ) → i < length r.points → at i < length f.cells
    inside i lt =
        let on = point_contested g r play (at i) (Contains-get_or r.points i 0 lt) in
        omega (arith, on.0, long, holds.walls.long)

    next_of : (i j : ℕ) → i < length r.points → IsLinked r.touch i j → (j < length r.points) × IsBy f (at i) (at j)
    next_of i j lt link =
        let (ltj, next) = (links_are_next r play.proper i j lt).0 link in
        (ltj, (inside j ltj, subst (λ n. NextTo n (at i) (at j)) same_columns next))

    -- a neighbour in the region is linked
    linked : (k y : ℕ) → k < length r.points → IsBy f (at k) y → Contains r.points y
        → (m : ℕ) × (m < length r.points) × (at m ≡ y) × IsLinked r.touch k m
    linked k y lt next (m, ltm, e) =
        let here = get_or_default r.points m 0 y ltm ∙ e in
        let next' = subst (λ x. NextTo f.columns (at k) x) (sym here) next.1 in
        (m, ltm, here, (links_are_next r play.proper k m lt).1 (ltm, subst (λ n. NextTo n (at k) (at m)) (sym same_columns) next'))

    -- a neighbour outside it is an alive stone, though which list of stones lives there isn't known
    outside : (k y : ℕ) → k < length r.points → IsBy f (at k) y → ¬ Contains r.points y
        → ¬ ¬ ((c : Colour) × IsAlive g c y × NextTo g.columns (at k) y)
    outside k y lt next none never =
        let next' = subst (λ n. NextTo n (at k) y) (sym size.columns ∙ holds.walls.columns) next.1 in
        never_open g r settled.closed play (at k) y (Contains-get_or r.points k 0 lt) next' (omega (arith, next.0, long, holds.walls.long)) none
        (λ c alive. never (c, alive, next'))

    module _ (d : Colour) where
      breathes : (s : ℕ) → IsAlive g d s → Breathes f h.cells d s
      breathes s alive = let w = walls_breathe g settled h holds.walls d s alive in stands_from f s d h size long (w.0, w.2)

      chain_up : (i j : ℕ) → i < length r.points → InLocalChain r.touch cells d i j
          → (j < length r.points) × InChain (IsBy f) h.cells d (at i) (at j)
      chain_up i j lt chain =
          carried (IsLinked r.touch) (Holds cells d) (λ x. (x < length r.points) × InChain (IsBy f) h.cells d (at i) (at x))
          (λ x y w link own.
          let next = next_of x y w.0 link in
          (next.0, leads_step (IsBy f) (Holds h.cells d) (at i) (at x) (at y) w.1 next.1 (holds.local y next.0 ∙ own)))
          i j (lt, leads_here (IsBy f) (Holds h.cells d) (at i) (holds.local i lt ∙ leads_start (IsLinked r.touch) (Holds cells d) i j chain)) chain

      -- a free local chain has a liberty on the board
      pub free_up : (i : ℕ) → i < length r.points → IsFree r.touch cells d i → Breathes f h.cells d (at i)
      free_up i lt (j, chain, breath) =
          let up = chain_up i j lt chain in
          elim breath [
            | inl (k, link, empty) ↦ let next = next_of j k up.0 link in (at j, up.1, inl (at k, next.1, holds.local k next.0 ∙ empty))
            | inr beside ↦
                let (s, next, alive) = (play.walls j d up.0).0 ((beside_is r.touch d j).0 beside) in
                let stone' = holds.walls.stones d s alive in
                let by : IsBy f (at j) s = (omega (arith, stone'.0, long), subst (λ n. NextTo n (at j) s) (sym holds.walls.columns ∙ size.columns) next) in
                let there = leads_step (IsBy f) (Holds h.cells d) (at i) (at j) s up.1 by stone'.1 in
                let (q, walk, free) = breathes s alive in
                (q, leads_join (IsBy f) (Holds h.cells d) (at i) s q there walk, free)
          ]

      -- what a walk from a place over stones of the colour comes to
      abbrev Reaches : ℕ → ℕ → Type 0
      Reaches i x = IsFree r.touch cells d i ⊎ ((k : ℕ) × (k < length r.points) × (at k ≡ x) × InLocalChain r.touch cells d i k)

      reach : (i x y : ℕ) → Reaches i x → IsBy f x y → Holds h.cells d y → Reaches i y
      reach i x y (inl free) next own = inl free
      reach i x y (inr (k, lt, e, chain)) next own =
          let next' = subst (λ z. IsBy f z y) (sym e) next in
          elim (among_or_not r.points y) [
            | inl among ↦
                let w = linked k y lt next' among in
                let own' : Holds cells d w.0 = sym (holds.local w.0 w.1) ∙ ap (held_at h.cells) w.2 ∙ own in
                inr (w.0, w.1, w.2, leads_step (IsLinked r.touch) (Holds cells d) i k w.0 chain w.3 own')
            | inr none ↦
                let beside = beside_stable r.touch d k (λ never. outside k y lt next' none (λ (c, alive, near).
                let same = same_stone c d (sym (holds.walls.stones c y alive).1 ∙ own) in
                never ((play.walls k d lt).1 (y, near, subst (λ c. IsAlive g c y) same alive)))) in
                inl (k, chain, inr ((beside_is r.touch d k).1 beside))
          ]

      reaches : (i q : ℕ) → i < length r.points → Holds cells d i → InChain (IsBy f) h.cells d (at i) q → Reaches i q
      reaches i q lt own walk =
          carried (IsBy f) (Holds h.cells d) (Reaches i) (reach i) (at i) q
          (inr (i, lt, refl, leads_here (IsLinked r.touch) (Holds cells d) i own)) walk

      -- and a chain with a liberty on the board is free
      pub free_down : (i : ℕ) → i < length r.points → Holds cells d i → Breathes f h.cells d (at i) → IsFree r.touch cells d i
      free_down i lt own (q, walk, inr never) = absurd never
      free_down i lt own (q, walk, inl (e, near, empty)) =
          elim (reaches i q lt own walk) [
            | inl free ↦ free
            | inr (k, ltk, there, chain) ↦
                let near' = subst (λ z. IsBy f z e) (sym there) near in
                elim (among_or_not r.points e) [
                  | inl among ↦
                      let w = linked k e ltk near' among in
                      (k, chain, inl (w.0, w.3, sym (holds.local w.0 w.1) ∙ ap (held_at h.cells) w.2 ∙ empty))
                  | inr none ↦
                      absurd (outside k e ltk near' none (λ (c, alive, _). empty_not_stone c (sym empty ∙ (holds.walls.stones c e alive).1)))
                ]
          ]

      -- what is removed next to a place is taken on the board
      pub removed_up : (i j : ℕ) → i < length r.points → IsRemoved r.touch cells i d j
          → (j < length r.points) × IsTakenBy (IsBy f) Never h.cells (at i) d (at j)
      removed_up i j lt (k, link, chain, bound) =
          let next = next_of i k lt link in
          let up = chain_up k j next.0 chain in
          let own = leads_start (IsLinked r.touch) (Holds cells d) k j chain in
          (up.0, (at k, next.1, up.1, λ free. bound (free_down k next.0 own free)))

      -- and what is taken on the board is a removed place
      pub taken_down : (i q : ℕ) → i < length r.points → IsTakenBy (IsBy f) Never h.cells (at i) d q
          → (j : ℕ) × (j < length r.points) × (at j ≡ q) × IsRemoved r.touch cells i d j
      taken_down i q lt (s, near, walk, bound) =
          let own = leads_start (IsBy f) (Holds h.cells d) s q walk in
          elim (among_or_not r.points s) [
            | inl among ↦
                let w = linked i s lt near among in
                let here : Holds cells d w.0 = sym (holds.local w.0 w.1) ∙ ap (held_at h.cells) w.2 ∙ own in
                let bound' : ¬ IsFree r.touch cells d w.0 = λ free. bound (subst (Breathes f h.cells d) w.2 (free_up w.0 w.1 free)) in
                elim (reaches w.0 q w.1 here (subst (λ z. InChain (IsBy f) h.cells d z q) (sym w.2) walk)) [
                  | inl free ↦ absurd (bound' free)
                  | inr (j, ltj, there, chain) ↦ (j, ltj, there, (w.0, w.3, chain, bound'))
                ]
            | inr none ↦
                absurd (outside i s lt near none (λ (c, alive, _).
                let same = same_stone c d (sym (holds.walls.stones c s alive).1 ∙ own) in
                bound (breathes s (subst (λ x. IsAlive g x s) same alive))))
          ]

  module _ {cells : List Cell} {h : Board} (holds : HoldsPosition g r cells h) where
    own : (i : ℕ) → i < length r.points → at i < length h.cells
    own = inside holds (same_size h) refl

    -- a position's cells written at the region's points
    module _ (next : List Cell) where
      abbrev put : List Cell
      put = written r.points play.proper.ascending h.cells next (length r.points)

      length-put : length put ≡ length h.cells
      length-put = length-written r.points play.proper.ascending h.cells next (length r.points)

      put_at : (j : ℕ) → j < length r.points → get_or put (at j) cell.Empty ≡ held_at next j
      put_at j l = written_at r.points play.proper.ascending h.cells next own (length r.points) j (omega arith) l

      put_outside : (q : ℕ) → ¬ Contains r.points q → get_or put q cell.Empty ≡ cell_at h q
      put_outside q out =
          written_outside r.points play.proper.ascending h.cells next (length r.points) q
          (λ j l e. out (subst (Contains r.points) e (Contains-get_or r.points j 0 l)))

    -- the number taken on the board is the local one
    is_local : (after : Board) (next : List Cell) → length after.cells ≡ length h.cells → length next ≡ length cells
        → ((i : ℕ) → i < length r.points → cell_at after (at i) ≡ held_at next i)
        → ((p : ℕ) → ¬ Contains r.points p → cell_at after p ≡ cell_at h p) → IsLocal r h after cells next
    is_local after next full long within outside =
        let same : (q : ℕ) → get_or after.cells q cell.Empty ≡ get_or (put next) q cell.Empty = λ q. elim (among_or_not r.points q) [
          | inl (j, lt, e) ↦
              subst (λ z. get_or after.cells z cell.Empty ≡ get_or (put next) z cell.Empty) (get_or_default r.points j 0 q lt ∙ e)
              (within j lt ∙ sym (put_at next j lt))
          | inr out ↦ outside q out ∙ sym (put_outside next q out)
        ] in
        let equal : after.cells ≡ put next = ext_get_or cell.Empty after.cells (put next) (full ∙ sym (length-put next)) (λ q _. same q) in
        let ln : length next ≡ length r.points = long ∙ holds.long in
        let w = count_written r.points play.proper.ascending h.cells next own is_stone cells ln holds.long (λ i lt. holds.local i lt)
        (length r.points) (omega arith) in
        let count : count_by is_stone after.cells + count_by is_stone cells ≡ count_by is_stone h.cells + count_by is_stone next = omega (
          arith,
          w,
          ap (count_by is_stone) equal,
          ap (count_by is_stone) (take_all (length r.points) cells (omega (arith, holds.long))),
          ap (count_by is_stone) (take_all (length r.points) next (omega (arith, ln))),
        ) in
        record { inside = within; outside = outside; taken = λ n. (λ e. omega (arith, e, count), λ e. omega (arith, e, count)) }

    module _ (i : ℕ) (lt : i < length r.points) (c : Colour) where
      abbrev b : Board
      b = with_stone h (at i) c

      abbrev more : List Cell
      more = with_cell cells i c

      short : i < length cells
      short = omega (arith, lt, holds.long)

      elsewhere : (q : ℕ) → q ≢ at i → cell_at b q ≡ cell_at h q
      elsewhere q ne = get_or-set_other h.cells (at i) q (stone c) cell.Empty ne

      -- the board with the new stone holds the position with it
      holds_more : HoldsPosition g r more b
      holds_more =
          holds_after g r cells more h b play holds refl (length-set h.cells (at i) (stone c)) (length-set cells i (stone c))
          (λ j l. elim (cases_eq j i) as (λ _. cell_at b (at j) ≡ held_at more j) [
            | inl e ↦
                subst (λ z. cell_at b (at z) ≡ held_at more z) (sym e)
                (get_or-set_same h.cells (at i) (stone c) cell.Empty (own i lt)
                ∙ sym (get_or-set_same cells i (stone c) cell.Empty short))
            | inr ne ↦
                elsewhere (at j) (λ e. ne (one_place r.points j i play.proper.ascending l lt e)) ∙ holds.local j l
                ∙ sym (get_or-set_other cells i j (stone c) cell.Empty ne)
          ])
          (λ q out. elsewhere q (λ e. out (subst (Contains r.points) (sym e) (Contains-get_or r.points i 0 lt))))

      abbrev Taken : ℕ → Type 0
      Taken q = IsTaken h (at i) c q

      abbrev Removed : ℕ → Type 0
      Removed j = IsRemoved r.touch more i (other c) j

      up : (j : ℕ) → Removed j → (j < length r.points) × Taken (at j)
      up j t = removed_up holds_more (same_size h) (length-set h.cells (at i) (stone c)) (other c) i j lt t

      down : (q : ℕ) → Taken q → (j : ℕ) × (j < length r.points) × (at j ≡ q) × Removed j
      down q t = taken_down holds_more (same_size h) (length-set h.cells (at i) (stone c)) (other c) i q lt t

      down_at : (j : ℕ) → j < length r.points → Taken (at j) → Removed j
      down_at j l t = let w = down (at j) t in subst (λ z. Removed z) (one_place r.points w.0 j play.proper.ascending w.1 l w.2) w.3

      -- a placing is a local move
      pub placing_is_local : (after : Board) → IsPlaced h (at i) c after
          → (next : List Cell) × IsLocalMove r.touch cells c i next × IsLocal r h after cells next
      placing_is_local after placed =
          let next : List Cell = map (cell_at after) r.points in
          let long : length next ≡ length cells = length-map r.points (cell_at after) ∙ sym holds.long in
          let full : length after.cells ≡ length h.cells = placed_long h (at i) c after placed in
          let within : (j : ℕ) → j < length r.points → cell_at after (at j) ≡ held_at next j = λ j l.
          sym (get_or-map (cell_at after) r.points j 0 cell.Empty l) in
          let outside : (q : ℕ) → ¬ Contains r.points q → cell_at after q ≡ cell_at h q = λ q out.
          placed.1.without.kept q (λ t. (let w = down q t in out (subst (Contains r.points) w.2 (Contains-get_or r.points w.0 0 w.1))))
          ∙ elsewhere q (λ e. out (subst (Contains r.points) (sym e) (Contains-get_or r.points i 0 lt))) in
          let kept : (j : ℕ) → ¬ Removed j → held_at next j ≡ held_at more j = λ j out.
          elim (cases_lt j (length r.points)) as (λ _. held_at next j ≡ held_at more j) [
            | inl l ↦ sym (within j l) ∙ placed.1.without.kept (at j) (λ t. out (down_at j l t)) ∙ holds_more.local j l
            | inr past ↦
                get_or_past next j cell.Empty (omega (arith, past, long, holds.long))
                ∙ sym (get_or_past more j cell.Empty (omega (arith, past, holds_more.long)))
          ] in
          let move : IsLocalMove r.touch cells c i next = record {
            place = short;
            free = sym (holds.local i lt) ∙ placed.1.free;
            without = record {
              long = long ∙ sym (length-set cells i (stone c));
              gone = λ j t. (let w = up j t in sym (within j w.0) ∙ placed.1.without.gone (at j) w.1);
              kept = kept;
            };
            stands = free_down
                (holds_after g r cells next h after play holds placed.0.columns full long within outside) placed.0 full c i lt
                (sym (within i lt) ∙ leads_start _ _ (at i) placed.1.stands.0 placed.1.stands.1) placed.1.stands;
          } in
          (next, move, is_local after next full long within outside)

      -- a local move is a placing
      pub local_is_placing : (next : List Cell) → IsLocalMove r.touch cells c i next
          → (after : Board) × IsPlaced h (at i) c after
      local_is_placing next move =
          let after : Board = record h { cells = put next } in
          let kept : (q : ℕ) → ¬ Taken q → cell_at after q ≡ cell_at b q = λ q out. elim (among_or_not r.points q) [
            | inl (j, l, e) ↦
                let here = get_or_default r.points j 0 q l ∙ e in
                let stays : ¬ Removed j = λ t. out (subst (λ z. Taken z) here (up j t).1) in
                subst (λ z. cell_at after z ≡ cell_at b z) here (put_at next j l ∙ move.without.kept j stays ∙ sym (holds_more.local j l))
            | inr none ↦
                put_outside next q none ∙ sym (elsewhere q (λ e. none (subst (Contains r.points) (sym e) (Contains-get_or r.points i 0 lt))))
          ] in
          let placed : IsPlaced h (at i) c after = (
            same_size h,
            record {
              place = own i lt;
              free = holds.local i lt ∙ move.free;
              without = record {
                long = length-put next ∙ sym (length-set h.cells (at i) (stone c));
                gone = λ q t. (let w = down q t in subst (λ z. cell_at after z ≡ cell.Empty) w.2 (put_at next w.0 w.1 ∙ move.without.gone w.0 w.3));
                kept = kept;
              };
              stands = free_up
                  (holds_after g r cells next h after play holds refl (length-put next) (long_after move) (put_at next) (put_outside next))
                  (same_size h) (length-put next) c i lt move.stands;
            },
          ) in
          (after, placed)

pub plays_locally : (g : Board) (r : Region) → IsSettled g → IsRegionOfPlay g r → PlaysLocally g r
plays_locally g r settled play = record {
  legal = λ cells h c i holds lt. (
    λ (after, placed). let w = placing_is_local g r settled play holds i lt c after placed in (w.0, w.1),
    λ (next, move). local_is_placing g r settled play holds i lt c next move,
  );
  local = λ cells next h after c i holds lt placed move.
      let (next', move', local) = placing_is_local g r settled play holds i lt c after placed in
      subst (λ x. IsLocal r h after cells x) (one_outcome move' move) local;
}

-- Two regions of play share no point, so a placing in one leaves the others as they were.

-- a region that shares a point with another begins no later
not_later : (g : Board) (r s : Region) (p : ℕ) → IsRegionOfPlay g r → IsRegionOfPlay g s → Contains r.points p → Contains s.points p
    → ¬ (lowest s < lowest r)
not_later g r s p a b in' of' lt =
    let there = (a.points p).0 in' in
    let back = joined_back g.columns (IsContested g) (lowest s) p ((b.points p).0 of') in
    let least = a.first (lowest s) ((a.points (lowest s)).1 (joined_join g.columns (IsContested g) (lowest r) p (lowest s) there back)) in
    absurd (omega (arith, least, lt))

-- the board as it was when it was cut holds the cells of the region
pub holds_start : (g : Board) (r : Region) → IsRegionOfPlay g r → length r.cells ≡ length r.points → HoldsPosition g r r.cells g
holds_start g r play full = record {
  walls = record { columns = refl; long = refl; stones = λ c s a. a.1.stones s a.2; counted = λ c p w. refl };
  long = full;
  local = λ i lt. sym (play.cells i lt);
}

module _ (g : Board) (regions : List Region) (are : AreRegionsOfPlay g regions) where
  -- a point is in one region at most
  pub one_region : (k l p : ℕ) (d : Region) → k < length regions → l < length regions
      → Contains (get_or regions k d).points p → Contains (get_or regions l d).points p → k ≡ l
  one_region k l p d lk ll in' of' =
      let r = get_or regions k d in
      let s = get_or regions l d in
      let a = are.each r (Contains-get_or regions k d lk) in
      let b = are.each s (Contains-get_or regions l d ll) in
      elim (cases_lt k l) as (λ _. k ≡ l) [
        | inl lt ↦ absurd (not_later g s r p b a of' in' (are.ascending k l d lt ll))
        | inr ge ↦ elim (cases_lt l k) as (λ _. k ≡ l) [
          | inl lt ↦ absurd (not_later g r s p a b in' of' (are.ascending l k d lt lk))
          | inr le ↦ omega (arith, ge, le)
        ]
      ]

  -- and each contested point in exactly one
  pub only_region : (p : ℕ) (d : Region) → IsContested g p → (k : ℕ) × (k < length regions) × Contains (get_or regions k d).points p
      × ((l : ℕ) → l < length regions → Contains (get_or regions l d).points p → l ≡ k)
  only_region p d contested =
      let (r, (k, lt, e), among) = are.every p contested in
      let here : get_or regions k d ≡ r = get_or_default regions k d r lt ∙ e in
      let among' = subst (λ x. Contains x.points p) (sym here) among in
      (k, lt, among', λ l ll of'. one_region l k p d ll lt of' among')

  -- what is local to one region leaves the points of the others as they were
  pub other_kept : (k l : ℕ) (d : Region) (h after : Board) (cells next : List Cell) → k < length regions → l < length regions → l ≢ k
      → IsLocal (get_or regions k d) h after cells next → (p : ℕ) → Contains (get_or regions l d).points p → cell_at after p ≡ cell_at h p
  other_kept k l d h after cells next lk ll ne local p of' = local.outside p (λ in'. ne (one_region l k p d ll lk of' in'))

  -- the board holds in each region a position of its own
  pub record HoldPositions (positions : List (List Cell)) (h : Board) : Type 0 where
    pub many : length positions ≡ length regions
    pub each : (k : ℕ) (d : Region) → k < length regions → HoldsPosition g (get_or regions k d) (get_or positions k []) h

  -- after a placing in one region it has the next one there, and the same elsewhere
  pub positions_after : (positions : List (List Cell)) (next : List Cell) (h after : Board) (k p : ℕ) (c : Colour) (d : Region)
      → HoldPositions positions h → k < length regions → IsPlaced h p c after → length next ≡ length (get_or positions k [])
      → IsLocal (get_or regions k d) h after (get_or positions k []) next → HoldPositions (set positions k next) after
  positions_after positions next h after k p c d all lk placed long local =
      let Holds' : ℕ → Type 0 = λ l. HoldsPosition g (get_or regions l d) (get_or (set positions k next) l []) after in
      let r = get_or regions k d in
      let own : HoldsPosition g r next after =
      holds_after g r (get_or positions k []) next h after (are.each r (Contains-get_or regions k d lk)) (all.each k d lk)
      placed.0.columns (placed_long h p c after placed) long local.inside local.outside in
      let kept : (l : ℕ) → l < length regions → l ≢ k → HoldsPosition g (get_or regions l d) (get_or positions l []) after = λ l ll ne.
      let s = get_or regions l d in
      let was = all.each l d ll in record {
        walls = own.walls;
        long = was.long;
        local = λ i lt.
            other_kept k l d h after (get_or positions k []) next lk ll ne local (get_or s.points i 0) (Contains-get_or s.points i 0 lt)
            ∙ was.local i lt;
      } in
      let at : (l : ℕ) → l < length regions → Holds' l = λ l ll. elim (cases_eq l k) as (λ _. Holds' l) [
        | inl same ↦
            subst Holds' (sym same)
            (subst (λ x. HoldsPosition g r x after) (sym (get_or-set_same positions k next [] (omega (arith, lk, all.many)))) own)
        | inr ne ↦ subst (λ x. HoldsPosition g (get_or regions l d) x after) (sym (get_or-set_other positions k l next [] ne)) (kept l ll ne)
      ] in record {
        many = length-set positions k next ∙ all.many;
        each = λ l e ll. subst (λ s. HoldsPosition g s (get_or (set positions k next) l []) after)
            (get_or_default regions l d e ll) (at l ll);
      }
