-- A board has one list of regions of play; what beginning answers, and what a solved game keeps at the opening.
use Rattle.std.proofs.Common.{◌≡◌, ℕ, suc, ◌+◌, ◌<◌, ◌≤◌, refl, sym, ap, ◌∙◌, subst, arith, List, [], ◌∷◌, length, get_or, map, ◌*◌, ◌↔◌, inl, inr, Bool, true, false, Option, Some, None, ℤ, unsigned_abs, ◌^◌, Err, pos, negsuc, replicate, All, AllPairs, Contains, sum_by}
use Rattle.std.specs.List.Sorted.{IsStrictlyIncreasing}
use Rattle.std.proofs.lemmas.List.{ext_get_or, get_or-map, get_or_default, length-map, get_or-replicate, length-replicate}
use Rattle.std.proofs.lemmas.List.Elements.{Contains-get_or}
use Rattle.std.proofs.lemmas.List.Sums.{sum_by-le}
use Rattle.std.proofs.lemmas.List.Kept.{AllPairs-from_increasing}
use Rattle.go_grid.specs.Board.{Board, NextTo, cell_at}
use Rattle.go_grid.specs.Region.{Region, AreLinks, IsBeside, IsLink, nothing_near, touch_at}
use Rattle.go_grid.proofs.WalkLemmas.{joined_back}
use Rattle.benson_life.specs.Region.{IsContested, InRegionOfPlay}
use Rattle.region_cut.specs.Cut.{lowest, AreRegionsOfPlay, IsRegionOfPlay}
use Rattle.endgame_solver.specs.Regions.{no_region, region_at}
use Rattle.go_grid.proofs.LinkLemmas.{linked_to, same_point}
use Rattle.go_grid.specs.declared.grid.Cell.TheVariants.{Empty}
use Rattle.go_grid.specs.declared.grid.Colour.TheVariants.{Black, White}
use Rattle.go_grid.specs.declared.region.Touch.{Touch}
use Rattle.go_grid.specs.declared.grid.Colour.{Colour}
use Rattle.benson_life.specs.Life.{IsAlive}
use Rattle.go_play.specs.Setup.{Setup}
use Rattle.endgame_solver.specs.Faults.{AreRefused, most_steps, AreSound, IsSound}
use Rattle.endgame_solver.specs.Solved.{Begun}
use Rattle.endgame_solver.specs.Limits.{Limits}
use Rattle.endgame_solver.specs.declared.faults.SolveError.{SolveError}
use Rattle.endgame_solver.specs.declared.faults.SolveError.TheVariants.{Points, Positions, Cycle, Form, Memory}
use Rattle.local_graph.specs.declared.graph.TheConstants.{MOST_POSITIONS}
use Rattle.benson_life.specs.Held.{IsHeld, HasPoints}
use Rattle.benson_life.proofs.HeldLemmas.{short}
use Rattle.whole_rules.specs.declared.money.Token.{Token}
use Rattle.whole_rules.specs.Opening.{IsOpening, GivesAtStart, komi_points}
use Rattle.whole_rules.specs.Purses.{purse}
use Rattle.whole_rules.specs.WholeGame.{Whole}
use Rattle.local_graph.specs.Graph.{Graph}
use Rattle.endgame_solver.specs.inner.Held.{HasRoom, place_at, token_left, AreSolved, AreSummed, IsAt, AreSolvedAt, ids_at}
use Rattle.endgame_solver.specs.inner.Regions.{graph_at, AreGraphs, IsShown, spot_in}
use Rattle.game_canon.proofs.NegationLaws.{chosen}
use Rattle.go_grid.specs.Chain.{IsSettled}
use Rattle.whole_rules.proofs.WallLaws.{keeps_start}
use Rattle.region_cut.specs.LocalBoard.{PlaysLocally}
use Rattle.short_games.specs.Tree.{Tree}
use Rattle.endgame_solver.specs.inner.Solving.{AreSolvedBelow}
use Rattle.whole_rules.specs.declared.money.Token.TheVariants as token
use Rattle.local_trees.specs.GraphPlaces.{IsPlaceOf}
use Rattle.local_trees.proofs.MoveLaws.{contains-cases, contains-head, contains-tail}
use Rattle.local_value.proofs.PassLaws.{order_short}
use Rattle.region_cut.proofs.LocalBoardLemmas.{holds_start, point_contested}

-- A board has one list of regions of play.

-- ascending lists of the same items are the same, whatever number they ascend by
module _ {X : Type 0} (key : X → ℕ) where
  abbrev Rises : List X → Type 0
  Rises xs = AllPairs (λ a b. key a < key b) xs

  tail : (x : X) (xs : List X) → Rises (x ∷ xs) → Rises xs
  tail x xs up i j d lt short = up (suc i) (suc j) d (omega (arith, lt)) (omega (arith, short))

  above : (x : X) (xs : List X) (p : X) → Rises (x ∷ xs) → Contains xs p → key x < key p
  above x xs p up (k, short, at) = subst (λ q. key x < key q) at (up 0 (suc k) p (omega arith) (omega (arith, short)))

  one_list : (xs ys : List X) → Rises xs → Rises ys → ((p : X) → Contains xs p → Contains ys p)
      → ((p : X) → Contains ys p → Contains xs p) → xs ≡ ys
  one_list [] [] a b f g = refl
  one_list [] (y ∷ ys) a b f g = absurd (let w = g y (contains-head X y ys) in omega (arith, w.1))
  one_list (x ∷ xs) [] a b f g = absurd (let w = f x (contains-head X x xs) in omega (arith, w.1))
  one_list (x ∷ xs) (y ∷ ys) a b f g =
      let same : y ≡ x = elim (contains-cases X y x ys (f x (contains-head X x xs))) as (λ _. y ≡ x) [
        | inl e ↦ e
        | inr late ↦ elim (contains-cases X x y xs (g y (contains-head X y ys))) as (λ _. y ≡ x) [
          | inl e ↦ sym e
          | inr later ↦ absurd (omega (arith, above x xs y a later, above y ys x b late))
        ]
      ] in
      let equal = ap key same in
      λ i. sym same i ∷ one_list xs ys (tail x xs a) (tail y ys b)
      (λ p h. rest y ys p (f p (contains-tail X x p xs h)) (omega (arith, above x xs p a h, equal)))
      (λ p h. rest x xs p (g p (contains-tail X y p ys h)) (omega (arith, above y ys p b h, equal))) i
    where
      rest : (z : X) (zs : List X) (p : X) → Contains (z ∷ zs) p → key z < key p → Contains zs p
      rest z zs p c less = elim (contains-cases X z p zs c) as (λ _. Contains zs p) [
        | inl e ↦ absurd (omega (arith, less, ap key e))
        | inr later ↦ later
      ]

-- a list without repeats has one link to a point
one_link : (points : List ℕ) (Near : ℕ → Type 0) (o u : Option ℕ) → IsStrictlyIncreasing points → ((p q : ℕ) → Near p → Near q → p ≡ q)
    → IsLink points Near o → IsLink points Near u → o ≡ u
one_link points Near None None up one a b = refl
one_link points Near (Some i) None up one a b = sym (linked_to points Near None i up b one a.0 a.1)
one_link points Near o (Some j) up one a b = linked_to points Near o j up a one b.0 b.1

-- a mark is given by what it stands for
one_mark : (P : Type 0) (a b : Bool) → (a ≡ true) ↔ P → (b ≡ true) ↔ P → a ≡ b
one_mark P true b f g = sym (g.1 (f.0 refl))
one_mark P false true f g = f.1 (g.0 refl)
one_mark P false false f g = refl

-- what is next to a point
one_touch : (c : ℕ) (points : List ℕ) (p : ℕ) (B W : Type 0) (t u : Touch) → IsStrictlyIncreasing points → AreLinks c points p t → AreLinks c points p u
    → (t.black ≡ true) ↔ B → (u.black ≡ true) ↔ B → (t.white ≡ true) ↔ W → (u.white ≡ true) ↔ W → t ≡ u
one_touch c points p B W t u up a b tb ub tw uw =
    let black = one_mark B t.black u.black tb ub in
    let white = one_mark W t.white u.white tw uw in
    let over = one_link points _ t.up u.up up (λ q r x y. same_point c q r (omega (arith, x.0, y.0)) (x.1 ∙ sym y.1)) a.up b.up in
    let before = one_link points _ t.left u.left up (λ q r x y. same_point c q r (x.0 ∙ sym y.0) (omega (arith, x.1, y.1))) a.left b.left in
    let after = one_link points _ t.right u.right up (λ q r x y. same_point c q r (sym x.0 ∙ y.0) (sym x.1 ∙ y.1)) a.right b.right in
    let below = one_link points _ t.down u.down up (λ q r x y. same_point c q r (sym x.0 ∙ y.0) (sym x.1 ∙ y.1)) a.down b.down in
    λ i. record { black = black i; white = white i; up = over i; left = before i; right = after i; down = below i }

-- a region of play is given by its points
one_shape : (g : Board) (r s : Region) → IsRegionOfPlay g r → IsRegionOfPlay g s → r.points ≡ s.points → r ≡ s
one_shape g r s a b points =
    let m = a.proper in
    let n = b.proper in
    let columns = a.columns ∙ sym b.columns in
    let rows = a.rows ∙ sym b.rows in
    let point : (k : ℕ) → get_or r.points k 0 ≡ get_or s.points k 0 = λ k. ap (λ l. get_or l k 0) points in
    let cells = ext_get_or Empty r.cells s.cells (m.full ∙ ap length points ∙ sym n.full) (λ k lt.
    let here : k < length r.points = omega (arith, lt, m.full) in
    let there : k < length s.points = omega (arith, here, ap length points) in
    a.cells k here ∙ ap (cell_at g) (point k) ∙ sym (b.cells k there)) in
    let there_too : (c : Colour) (k : ℕ) → k < length s.points → IsBeside c (touch_at s.touch k) ↔ ((q : ℕ) × NextTo g.columns (get_or r.points k 0) q × IsAlive g c q) =
    λ c k there. subst (λ p. IsBeside c (touch_at s.touch k) ↔ ((q : ℕ) × NextTo g.columns p q × IsAlive g c q)) (sym (point k)) (b.walls k c there) in
    let touch = ext_get_or nothing_near r.touch s.touch (m.beside ∙ ap length points ∙ sym n.beside) (λ k lt.
    let here : k < length r.points = omega (arith, lt, m.beside) in
    let there : k < length s.points = omega (arith, here, ap length points) in
    let links : AreLinks r.columns r.points (get_or r.points k 0) (touch_at s.touch k) =
    subst (λ T. T) (λ i. AreLinks (sym columns i) (sym points i) (sym (point k) i) (touch_at s.touch k)) (n.links k there) in
    one_touch r.columns r.points (get_or r.points k 0) _ _ (touch_at r.touch k) (touch_at s.touch k) m.ascending (m.links k here) links
    (a.walls k Black here) (there_too Black k there) (a.walls k White here) (there_too White k there)) in
    λ i. record { columns = columns i; rows = rows i; points = points i; cells = cells i; touch = touch i }

-- and these by the lowest of them
same_points : (g : Board) (r s : Region) → IsRegionOfPlay g r → IsRegionOfPlay g s → lowest r ≡ lowest s → r.points ≡ s.points
same_points g r s a b low = one_list (λ p. p) r.points s.points
    (AllPairs-from_increasing r.points a.proper.ascending) (AllPairs-from_increasing s.points b.proper.ascending)
    (λ p i. (b.points p).1 (subst (λ z. InRegionOfPlay g z p) low ((a.points p).0 i)))
    (λ p i. (a.points p).1 (subst (λ z. InRegionOfPlay g z p) (sym low) ((b.points p).0 i)))

-- the lowest point of a region is contested
low_contested : (g : Board) (rs : List Region) → AreRegionsOfPlay g rs → (r : Region) → Contains rs r → IsContested g (lowest r)
low_contested g rs are r h = let play = are.each r h in point_contested g r play (lowest r) (Contains-get_or r.points 0 0 play.proper.some)

-- the regions of one list are among those of the other
among_others : {g : Board} {rs ss : List Region} → AreRegionsOfPlay g rs → AreRegionsOfPlay g ss → (r : Region) → Contains rs r
    → Contains ss r
among_others {g} {rs} {ss} a b r h =
    let p = lowest r in
    let (s, among, inside) = b.every p (low_contested g rs a r h) in
    let to : InRegionOfPlay g (lowest s) p = ((b.each s among).points p).0 inside in
    let back : InRegionOfPlay g p (lowest s) = joined_back g.columns (IsContested g) (lowest s) p to in
    let low = (a.each r h).first (lowest s) (((a.each r h).points (lowest s)).1 back) in
    let high = (b.each s among).first p inside in
    let points = same_points g s r (b.each s among) (a.each r h) (omega (arith, low, high)) in
    subst (Contains ss) (one_shape g s r (b.each s among) (a.each r h) points) among

pub one_regions : (g : Board) (rs ss : List Region) → AreRegionsOfPlay g rs → AreRegionsOfPlay g ss → rs ≡ ss
one_regions g rs ss a b = one_list lowest rs ss a.ascending b.ascending (among_others a b) (among_others b a)

-- What beginning answers, and how many steps it takes, whatever list of the board's regions is meant.
pub steps_within : (limits : Limits) (start : ℕ) {g : Board} {rs lent : List Region} {now : ℕ} → AreRegionsOfPlay g rs → lent ≡ rs
    → now ≤ start + most_steps limits lent
    → (ss : List Region) → AreRegionsOfPlay g ss → now ≤ start + most_steps limits ss
steps_within limits start {g} {rs} {lent} {now} a is few ss b = subst (λ xs. now ≤ start + most_steps limits xs) (is ∙ one_regions g rs ss a b) few

pub refusal_begun : (setup : Setup) (tax : Bool) (limits : Limits) {regions lent : List Region} → AreRegionsOfPlay setup.board regions → lent ≡ regions
    → (e : SolveError)
    → AreRefused limits lent e → Begun setup tax limits (Err e)
refusal_begun setup tax limits {regions} are is e h = at e (subst (λ rs. AreRefused limits rs e) is h)
  where
    at : (e : SolveError) → AreRefused limits regions e → Begun setup tax limits (Err e)
    at (Points p n) h = (regions, are, h)
    at (Positions p) h = (regions, are, h)
    at (Cycle p names back) h = (regions, are, h)
    at (Form p) h = (regions, are, h)
    at (Memory e) h = tt

-- At the opening the purses are small, and leave room for every play.

-- there are no more points of a kind than the board has
number_few : (P : ℕ → Type 0) (n most : ℕ) → ((p : ℕ) → P p → p < most) → HasPoints P n → n ≤ most
number_few P n most inside (points, lists, long) =
    let few = short points most lists.ascending (λ k d lt. inside (get_or points k d) ((lists.exact (get_or points k d)).0 (Contains-get_or points k d lt))) in
    omega (arith, few, long)

held_few : (g : Board) (c : Colour) (n : ℕ) → length g.cells ≤ 625 → IsHeld g c n → n ≤ 1875
held_few g c n few h =
    let free = number_few _ h.empty (length g.cells) (λ p w. w.1.0) h.empties in
    let taken = number_few _ h.captive (length g.cells) (λ p w. w.1.0) h.captives in
    omega (arith, few, free, taken, h.sum)

start_few : (g : Board) (c : Colour) (tax : Bool) (n : ℕ) → length g.cells ≤ 625 → GivesAtStart g c tax n → n ≤ 1875
start_few g c false n few held = held_few g c n few held
start_few g c true n few (groups, _, held) = omega (arith, held_few g c (n + 2 * groups) few held)

komi_few : (c : Colour) (komi : ℤ) → unsigned_abs komi ≤ 2000000 → komi_points c komi ≤ MOST_POSITIONS
komi_few White (pos n) h = omega (arith, h)
komi_few Black (negsuc n) h = omega (arith, h)
komi_few White (negsuc n) h = omega arith
komi_few Black (pos n) h = omega arith

pub purse_few : (g : Board) (black white : ℕ) (komi : ℤ) (side : Colour) (tax : Bool) (s : Whole) → length g.cells ≤ 625
    → IsOpening g black white komi side tax s
    → black < 2 ^ 40 → white < 2 ^ 40 → unsigned_abs komi ≤ 2000000 → (c : Colour) → purse c s.purses ≤ 2 ^ 40 + 1001875
purse_few g black white komi side tax s few o small small' half Black =
    let (n, start, is) = o.black in
    omega (arith, start_few g Black tax n few start, komi_few Black komi half, small, is)
purse_few g black white komi side tax s few o small small' half White =
    let (n, start, is) = o.white in
    omega (arith, start_few g White tax n few start, komi_few White komi half, small', is)

pub token_few : (t : Token) → token_left t ≤ 1
token_few token.Nobody = omega arith
token_few token.Black = omega arith
token_few token.White = omega arith

-- places stand somewhere in the orders of at most 625 graphs of at most 1,000,000 positions
room_at_start : (graphs : List Graph) (places : List ℕ) (s : Whole) → length places ≤ 625
    → ((k : ℕ) → k < length places → Contains (graph_at graphs k).order (place_at places k))
    → ((k : ℕ) → k < length places → length (graph_at graphs k).order ≤ MOST_POSITIONS) → ((c : Colour) → purse c s.purses ≤ 2 ^ 40 + 1001875) → HasRoom graphs places s
room_at_start graphs places s many among short few = record {
  ranks = ranks.0;
  many = ranks.1;
  each = ranks.2;
  room = λ c. omega (arith, few c, token_few s.purses.token, total, ranks.1, many);
}
  where
    ranks : (rs : List ℕ) × (length rs ≡ length places)
        × ((k : ℕ) → k < length places → (get_or rs k 0 < length (graph_at graphs k).order) × (get_or (graph_at graphs k).order (get_or rs k 0) 0 ≡ place_at places k))
    ranks = chosen 0 (λ k r. (r < length (graph_at graphs k).order) × (get_or (graph_at graphs k).order r 0 ≡ place_at places k)) (length places) (λ k lt.
        let (i, inside, at) = among k lt in
        (i, (inside, get_or_default (graph_at graphs k).order i 0 (place_at places k) inside ∙ at)))

    each_few : All (λ n. n ≤ MOST_POSITIONS) ranks.0
    each_few k d lt =
        let known : k < length places = omega (arith, lt, ranks.1) in
        omega (arith, (ranks.2 k known).0, short k known, get_or_default ranks.0 k d 0 lt)

    total : sum_by (λ n. n) ranks.0 ≤ length ranks.0 * MOST_POSITIONS
    total = sum_by-le (λ n. n) MOST_POSITIONS ranks.0 each_few

-- What a solved game keeps, at the opening.

-- a board has no more regions than points
pub few_regions : (g : Board) (regions : List Region) → AreRegionsOfPlay g regions → length g.cells ≤ 625 → length regions ≤ 625
few_regions g regions are few =
    let bound = short (map lowest regions) (length g.cells) rises inside in
    omega (arith, bound, few, length-map regions lowest)
  where
    rises : IsStrictlyIncreasing (map lowest regions)
    rises k lt =
        let next : k + 1 < length regions = omega (arith, lt, length-map regions lowest) in
        let here : k < length regions = omega (arith, next) in
        let less = are.ascending k (k + 1) no_region (omega arith) next in
        omega (arith, less, get_or-map lowest regions k no_region 0 here, get_or-map lowest regions (k + 1) no_region 0 next)

    inside : All (λ p. p < length g.cells) (map lowest regions)
    inside k d lt =
        let known : k < length regions = omega (arith, lt, length-map regions lowest) in
        let w = (low_contested g regions are (region_at regions k) (Contains-get_or regions k no_region known)).0 in
        omega (arith, w, get_or-map lowest regions k no_region d known)

pub are_sound : {limits : Limits} {regions : List Region} {graphs : List Graph} {values : List (List ℕ)} {Ts : List Tree}
    → AreSolvedBelow limits regions graphs values Ts (length regions) → AreSound limits regions
are_sound {limits} {regions} done r (k, lt, at) = subst (IsSound limits) (get_or_default regions k no_region r lt ∙ at) (done.each k lt).sound

module _ {limits : Limits} {g : Board} {regions : List Region} {graphs : List Graph} {values : List (List ℕ)} {Ts : List Tree} (settled : IsSettled g)
    (are : AreRegionsOfPlay g regions) (local : (r : Region) → Contains regions r → PlaysLocally g r) (few : length g.cells ≤ 625)
    (limit : limits.positions ≤ MOST_POSITIONS) (done : AreSolvedBelow limits regions graphs values Ts (length regions)) where
  are_graphs : AreGraphs g regions graphs
  are_graphs = record {
    cut = are;
    local = local;
    full = λ r h. (are.each r h).proper.full;
    many = done.as_many_graphs;
    each = λ k lt. (done.each k lt).graph.graph;
  }

  short_order : (k : ℕ) → k < length regions → length (graph_at graphs k).order ≤ MOST_POSITIONS
  short_order k lt =
      let of = (done.each k lt).graph in
      omega (arith, order_short of.graph, of.few, limit)

  are_solved : AreSolved g regions graphs values Ts
  are_solved = record {
    settled = settled;
    proper = λ r h. (are.each r h).proper;
    cut = are_graphs;
    few = few_regions g regions are few;
    short = short_order;
    many = done.as_many_values;
    valued = λ k lt. (done.each k lt).values;
    within = λ k i lt short. (done.each k lt).within i short;
  }

  module _ {black white : ℕ} {komi : ℤ} {side : Colour} {tax : Bool} {s : Whole} (opening : IsOpening g black white komi side tax s)
      {places sum : List ℕ}
      (first : places ≡ replicate (length regions) 0) (ids : sum ≡ map (λ xs. get_or xs 0 0) values) where
    many_places : length places ≡ length regions
    many_places = ap length first ∙ length-replicate (length regions) 0

    first_place : (k : ℕ) → k < length regions → place_at places k ≡ 0
    first_place k lt = ap (λ xs. place_at xs k) first ∙ get_or-replicate (length regions) k 0 0 lt

    is_at : IsAt g regions graphs places s
    is_at = record {
      many = many_places;
      walls = (keeps_start g black white komi side tax s opening).walls;
      contested = opening.contested;
      shown = λ k lt.
          let r = region_at regions k in
          let of = (done.each k lt).graph.graph.graph in
          let play = are.each r (Contains-get_or regions k no_region lt) in
          let at : IsPlaceOf r (graph_at graphs k) 0 r.cells = record { inside = of.some; reachable = ([], refl); packed = of.first } in
          subst (λ h. IsShown g regions graphs h k (spot_in k (place_at places k))) (sym opening.board)
          (subst (λ i. IsShown g regions graphs g k (spot_in k i)) (sym (first_place k lt))
          (r.cells, record { region = refl; known = lt; at = at }, holds_start g r play play.proper.full));
    }

    are_summed : AreSummed regions values places sum
    are_summed = record {
      many = ap length ids ∙ length-map values (λ xs. get_or xs 0 0) ∙ done.as_many_values;
      each = λ k lt. ap (λ xs. get_or xs k 0) ids ∙ get_or-map (λ xs. get_or xs 0 0) values k [] 0 (omega (arith, lt, done.as_many_values))
          ∙ ap (λ i. get_or (ids_at values k) i 0) (sym (first_place k lt));
    }

    pub is_kept : black < 2 ^ 40 → white < 2 ^ 40 → unsigned_abs komi ≤ 2000000 → AreSolvedAt regions graphs values places sum Ts s
    is_kept small small' half = record {
      board = g;
      solved = are_solved;
      at = is_at;
      summed = are_summed;
      room = room_at_start graphs places s (omega (arith, many_places, few_regions g regions are few))
          (λ k lt.
          let known : k < length regions = omega (arith, lt, many_places) in
          let of = (done.each k known).graph.graph in
          subst (Contains (graph_at graphs k).order) (sym (first_place k known)) (of.order.every 0 (omega (arith, of.graph.some, of.graph.beside))))
          (λ k lt. short_order k (omega (arith, lt, many_places)))
          (purse_few g black white komi side tax s few opening small small' half);
    }
