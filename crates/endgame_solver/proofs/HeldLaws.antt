-- What a solved game keeps: its numbers are small, the values of its positions decide it, and each move keeps it.
use Rattle.std.proofs.Common.{ℕ, ℤ, zero, suc, ◌≡◌, ◌⊎◌, ◌↔◌, ◌*◌, ◌^◌, ◌+◌, ◌<◌, ◌≤◌, inl, inr, refl, sym, ap, ◌∙◌, subst, arith, List, [], ◌∷◌, length, get_or, set, pos, neg_ℤ, ◌+ℤ◌, ◌*ℤ◌, unsigned_abs, replicate, sum, Contains, Result, Ok, Err, sum_by, mul-le-mul_right}
use Rattle.std.proofs.lemmas.Bool.{cases_eq}
use Rattle.std.proofs.lemmas.Int.{ints, unsigned_abs-mul}
use Rattle.std.proofs.lemmas.List.{get_or_default, get_or-set_same, get_or-set_other, length-set}
use Rattle.std.proofs.lemmas.List.Elements.{Contains-get_or}
use Rattle.std.proofs.lemmas.List.Folds.{sum_by-replicate}
use Rattle.std.proofs.lemmas.List.Sums.{sum_by-set}
use Rattle.go_grid.specs.declared.grid.Cell.{Cell}
use Rattle.go_grid.specs.declared.grid.Colour.{Colour}
use Rattle.go_grid.specs.declared.grid.Colour.TheVariants.{Black}
use Rattle.go_grid.specs.Board.{Board, other}
use Rattle.go_grid.specs.Region.{Region}
use Rattle.go_play.specs.Place.{IsPlaced}
use Rattle.whole_rules.specs.declared.money.Purses.{Purses}
use Rattle.whole_rules.specs.declared.money.Token.{Token}
use Rattle.whole_rules.specs.declared.money.Token.TheVariants as token
use Rattle.whole_rules.specs.declared.states.Move.{Move}
use Rattle.whole_rules.specs.declared.states.Move.TheVariants.{Stone, Spend, Half}
use Rattle.whole_rules.specs.declared.states.MoveError.{MoveError}
use Rattle.whole_rules.specs.PlainRecursion.{MoverWins, MoverLoses}
use Rattle.whole_rules.specs.Purses.{purse, paid_in, paid_out, taken_out, halved}
use Rattle.whole_rules.specs.Threshold.{stones}
use Rattle.whole_rules.specs.Walls.{Plays}
use Rattle.whole_rules.specs.WholeGame.{Whole, Applies, IsMove, IsLegal, Leads, after}
use Rattle.whole_rules.proofs.WallLaws.{Keeps, keeps_move}
use Rattle.local_play.specs.LocalPlay.{IsLocalMove, IsNumberTaken as IsLocalNumberTaken}
use Rattle.local_graph.specs.declared.graph.Edge.{Edge}
use Rattle.local_graph.specs.FiniteLocalPlay.{HasNoCycle}
use Rattle.local_graph.specs.Graph.{Graph}
use Rattle.local_graph.specs.inner.Graph.{edges_at}
use Rattle.region_cut.specs.Cut.{lowest}
use Rattle.region_cut.specs.LocalBoard.{HoldsPosition}
use Rattle.region_cut.proofs.LocalBoardLemmas.{only_region, point_contested, placing_is_local}
use Rattle.short_games.specs.Tree.{Tree, tree_at}
use Rattle.short_games.specs.Number.{num}
use Rattle.short_games.specs.Sum.{◌+ᵍ◌, total}
use Rattle.short_games.proofs.NumberLaws.{num-double}
use Rattle.game_store.specs.Meaning.{pick}
use Rattle.game_canon.specs.Outcomes.{AreWithin}
use Rattle.game_players.specs.Players.{LosesGame}
use Rattle.sum_outcome.specs.Sums.{AreBounds, IsBounded, sum_tree}
use Rattle.local_trees.specs.PositionTree.{IsValueOf}
use Rattle.local_trees.proofs.MoveLaws.{IsEdgeFor, edge_of, move_of, next_place, taken_less}
use Rattle.endgame_solver.specs.Regions.{no_region, region_at}
use Rattle.endgame_solver.specs.Solved.{ArePresent, IsValueId, balance_units}
use Rattle.endgame_solver.specs.SumGame.{AreModest, balance, halves}
use Rattle.endgame_solver.specs.inner.Held.{AreSolved, AreSolvedAt, AreSummed, HasRoom, IsAt, IsStoneEdge, ids_at, most_units, place_at, token_left}
use Rattle.endgame_solver.specs.inner.Line.{HasFewStones}
use Rattle.endgame_solver.specs.inner.Regions.{graph_at, spot_in, HasCells, IsShown}
use Rattle.endgame_solver.proofs.BookkeepingLaws.{halved-is, out-less, own-less, paid-in, paid-out, token-in, token-out}
use Rattle.endgame_solver.proofs.WholeLaws.{IsHeld, decided_by_values, held_after, one_cells, position_in}

-- The numbers are small: purses, their balance, and the values in a sum.
pub small_balance : (m : Purses) → AreModest m → unsigned_abs (balance m) ≤ 2 ^ 45
small_balance m few = size m.black m.white (halves m.token) few.black few.white (half m.token)
  where
    half : (t : Token) → unsigned_abs (halves t) ≤ 1
    half token.Nobody = omega arith
    half token.Black = omega arith
    half token.White = omega arith

    size : (b w : ℕ) (h : ℤ) → b ≤ 2 ^ 42 → w ≤ 2 ^ 42 → unsigned_abs h ≤ 1
        → unsigned_abs (((pos b +ℤ neg_ℤ (pos w)) +ℤ (pos b +ℤ neg_ℤ (pos w))) +ℤ h) ≤ 2 ^ 45
    size b w h hb hw hh = omega (arith, ints, hb, hw, hh)

pub small_units : (m : Purses) → AreModest m → unsigned_abs (balance m *ℤ pos (2 ^ 59)) ≤ 2 ^ 110
small_units m few = times (balance m) (small_balance m few)
  where
    times : (x : ℤ) → unsigned_abs x ≤ 2 ^ 45 → unsigned_abs (x *ℤ pos (2 ^ 59)) ≤ 2 ^ 110
    times x h = omega (arith, h, unsigned_abs-mul x (pos (2 ^ 59)))

bounds : (most : ℕ) (Ts : List Tree) (ids : List ℕ) → ((j : ℕ) → j < length ids → AreWithin most (tree_at Ts (get_or ids j 0)))
    → AreBounds (pick Ts ids) (replicate (length ids) most)
bounds most Ts [] w = tt
bounds most Ts (id ∷ ids) w = (w 0 (omega arith), bounds most Ts ids (λ j lt. w (suc j) (omega (arith, lt))))

-- games with small numbers and a small number fit a search
pub small_bounded : (most : ℕ) (Ts : List Tree) (ids : List ℕ) (x : ℤ) → most ≤ 2 ^ 100 → length ids ≤ 625
    → ((j : ℕ) → j < length ids → AreWithin most (tree_at Ts (get_or ids j 0))) → unsigned_abs x ≤ 2 ^ 110 → IsBounded (pick Ts ids) x
small_bounded most Ts ids x le few w small =
    let most_of : length ids * most ≤ 625 * most = mul-le-mul_right most few in
    let total : sum (replicate (length ids) most) ≡ length ids * most = sum_by-replicate (λ x. x) (length ids) most in
    (replicate (length ids) most, bounds most Ts ids w, omega (arith, le, few, small, total, most_of))

pub bounded : (Ts : List Tree) (ids : List ℕ) (x : ℤ) → length ids ≤ 625 → ((j : ℕ) → j < length ids → AreWithin most_units (tree_at Ts (get_or ids j 0)))
    → unsigned_abs x ≤ 2 ^ 110 → IsBounded (pick Ts ids) x
bounded Ts ids x few w small = small_bounded most_units Ts ids x (omega arith) few w small

-- a number over a greater power of two
num-scaled : (d e : ℕ) (m : ℤ) → num (d + e) (m *ℤ pos (2 ^ d)) ≡ num e m
num-scaled zero e m =
    let depth : zero + e ≡ e = omega arith in
    let once : m *ℤ pos (2 ^ zero) ≡ m = omega (arith, ints) in λ i. num (depth i) (once i)
num-scaled (suc d) e m =
    let depth : suc d + e ≡ suc (d + e) = omega arith in
    let power : 2 ^ suc d ≡ 2 ^ d + 2 ^ d = omega arith in
    let double : m *ℤ pos (2 ^ suc d) ≡ (m *ℤ pos (2 ^ d)) +ℤ (m *ℤ pos (2 ^ d)) = ap (λ n. m *ℤ pos n) power ∙ twice m (2 ^ d) in
    (λ i. num (depth i) (double i)) ∙ num-double (d + e) (m *ℤ pos (2 ^ d)) ∙ num-scaled d e m
  where
    twice : (m : ℤ) (n : ℕ) → m *ℤ pos (n + n) ≡ (m *ℤ pos n) +ℤ (m *ℤ pos n)
    twice m n = grind (arith, ints)

-- what an edge does in its region
record IsLocalStone (g : Board) (regions : List Region) (graphs : List Graph) (places : List ℕ) (s : Whole) (k : ℕ) (e : Edge) : Type 0 where
  cells : List Cell
  next : List Cell
  has : HasCells regions graphs k (spot_in k (place_at places k)) cells
  holds : HoldsPosition g (region_at regions k) cells s.board
  move : IsLocalMove (region_at regions k).touch cells s.side e.place next
  edge : IsEdgeFor (graph_at graphs k).positions cells next s.side e.place e.taken e

-- what a stone leads to
pub record StoneLeads (g : Board) (regions : List Region) (graphs : List Graph) (places : List ℕ) (s t : Whole) (k : ℕ) (e : Edge) : Type 0 where
  pub held : IsAt g regions graphs (set places k e.next) t
  pub purses : t.purses ≡ paid_in s.side e.taken s.purses
  pub turn : t.side ≡ other s.side

module _ {g : Board} {regions : List Region} {graphs : List Graph} {values : List (List ℕ)} {Ts : List Tree}
    (are : AreSolved g regions graphs values Ts)
    {s : Whole} {places : List ℕ} (at : IsAt g regions graphs places s) where
  pub place_inside : (k : ℕ) → k < length regions → place_at places k < length (ids_at values k)
  place_inside k lt = omega (arith, (at.shown k lt).1.at.inside, (are.valued k lt).long)

  -- ids of the sum are those of the present values
  pub present : (ids : List ℕ) → AreSummed regions values places ids → ArePresent (record { regions = regions; trees = Ts; state = s }) ids
  present ids summed = record {
    many = summed.many;
    each = λ k lt.
        let (cells, has, holds) = at.shown k lt in
        let there = sym (summed.each k lt) in
        let known = subst (λ z. z < length Ts) there ((are.valued k lt).known (place_at places k) (place_inside k lt)) in
        let value = subst (λ z. IsValueOf (region_at regions k).touch cells (tree_at Ts z)) there
        ((are.valued k lt).each (place_at places k) cells has.at) in
        (cells, (holds.long, holds.local), (known, value));
  }

  -- the numbers of the present values are small
  pub small_values : (ids : List ℕ) → AreSummed regions values places ids → (j : ℕ) → j < length ids → AreWithin most_units (tree_at Ts (get_or ids j 0))
  small_values ids summed j lt =
      let known : j < length regions = omega (arith, lt, summed.many) in
      subst (λ z. AreWithin most_units (tree_at Ts z)) (sym (summed.each j known))
      (are.within j (place_at places j) known (place_inside j known))

  -- the sum fits a search, whatever small number is beside it
  pub fits : (ids : List ℕ) → AreSummed regions values places ids → (m : Purses) → AreModest m → IsBounded (pick Ts ids) (balance m *ℤ pos (2 ^ 59))
  fits ids summed m few = bounded Ts ids (balance m *ℤ pos (2 ^ 59)) (omega (arith, summed.many, are.few)) (small_values ids summed) (small_units m few)

  keeps : Keeps g s
  keeps = record { walls = at.walls; contested = at.contested }

  calm : (r : Region) → Contains regions r → HasNoCycle r.touch r.cells
  calm r (k, lt, e) = subst (λ x. HasNoCycle x.touch x.cells) (get_or_default regions k no_region r lt ∙ e) (are.cut.each k lt).no_cycle

  -- Who loses is the sign of the sum of any ids of the present values and of the balance.
  pub decided_beside : (ids : List ℕ) → ArePresent (record { regions = regions; trees = Ts; state = s }) ids
      → (MoverWins Whole Leads s ⊎ MoverLoses Whole Leads s) × (MoverLoses Whole Leads s ↔ LosesGame s.side (total (pick Ts ids) +ᵍ num 1 (balance s.purses)))
  decided_beside ids present = decided_by_values g are.settled regions are.cut.cut calm s Ts ids keeps present.many (λ j lt.
      let (cells, has, holds) = at.shown j lt in
      let (others, here, (known, value)) = present.each j lt in
      let same = one_cells (region_at regions j) others cells s.board here (holds.long, holds.local) in
      (cells, (has.at.reachable, holds), subst (λ x. IsValueOf (region_at regions j).touch x (tree_at Ts (get_or ids j 0))) same value))

  pub decided : (ids : List ℕ) → ArePresent (record { regions = regions; trees = Ts; state = s }) ids
      → (MoverWins Whole Leads s ⊎ MoverLoses Whole Leads s) × (MoverLoses Whole Leads s ↔ LosesGame s.side (sum_tree Ts ids (balance_units s)))
  decided ids present =
      let d = decided_beside ids present in
      let same : num 1 (balance s.purses) ≡ num 60 (balance_units s) = sym (num-scaled 59 1 (balance s.purses)) in (
        d.0,
        (
          λ h. subst (λ t. LosesGame s.side (total (pick Ts ids) +ᵍ t)) same (d.1.0 h),
          λ h. d.1.1 (subst (λ t. LosesGame s.side (total (pick Ts ids) +ᵍ t)) (sym same) h),
        ),
      )

  local_stone : {p k : ℕ} {e : Edge} → IsStoneEdge regions graphs places s.side p k e → IsLocalStone g regions graphs places s k e
  local_stone {p} {k} {e} x =
      let (cells, has, holds) = at.shown k x.known in
      let (next, move, edge) = move_of (region_at regions k) (graph_at graphs k) (are.cut.each k x.known)
      (place_at places k) cells e has.at x.edge.among in
      record {
        cells = cells;
        next = next;
        has = has;
        holds = holds;
        move = subst (λ d. IsLocalMove (region_at regions k).touch cells d e.place next) x.edge.stone.colour move;
        edge = subst (λ d. IsEdgeFor (graph_at graphs k).positions cells next d e.place e.taken e) x.edge.stone.colour edge;
      }

  -- an edge leads to a place of the graph
  pub stone_next : {p k : ℕ} {e : Edge} → IsStoneEdge regions graphs places s.side p k e → e.next < length (graph_at graphs k).positions
  stone_next x = (local_stone x).edge.inside

  -- and takes few stones
  pub stone_taken : {p k : ℕ} {e : Edge} → IsStoneEdge regions graphs places s.side p k e → e.taken ≤ 33
  stone_taken {p} {k} {e} x =
      let of = are.cut.each k x.known in
      omega (arith, taken_less (region_at regions k) (graph_at graphs k) of (place_at places k) e x.edge.among, of.few)

  -- an edge is a legal stone
  pub stone_legal : {p k : ℕ} {e : Edge} → IsStoneEdge regions graphs places s.side p k e → IsLegal s (Stone p)
  stone_legal {p} {k} {e} x =
      let l = local_stone x in
      let r = region_at regions k in
      let stone = x.edge.stone in
      let among = Contains-get_or regions k no_region x.known in
      let plays = are.cut.local r among in
      let (h, placed) = (plays.legal l.cells s.board s.side e.place l.holds stone.inside).1 (l.next, l.move) in
      let local = plays.local l.cells l.next s.board h s.side e.place l.holds stone.inside placed l.move in
      let contested = point_contested g r (are.cut.cut.each r among) p
      (subst (Contains r.points) stone.point (Contains-get_or r.points e.place 0 stone.inside)) in
      let placed' = subst (λ z. IsPlaced s.board z s.side h) stone.point placed in
      (after h (paid_in s.side e.taken s.purses) s, ((at.contested p).1 contested, (h, (e.taken, placed', (local.taken e.taken).1 l.edge.number, refl))))

  -- a stone is an edge
  stone_edge : (t : Whole) (p : ℕ) → IsMove s (Stone p) t → (k : ℕ) × ((e : Edge) × IsStoneEdge regions graphs places s.side p k e)
  stone_edge t p (mark, (h, (n, placed, number, is))) =
      let (k, known, (i, short, there), alone) = only_region g regions are.cut.cut p no_region ((at.contested p).0 mark) in
      let r = region_at regions k in
      let here : get_or r.points i 0 ≡ p = get_or_default r.points i 0 p short ∙ there in
      let (cells, has, holds) = at.shown k known in
      let play = are.cut.cut.each r (Contains-get_or regions k no_region known) in
      let (next, move, local) = placing_is_local g r are.settled play holds i short s.side h
      (subst (λ z. IsPlaced s.board z s.side h) (sym here) placed) in
      let (e, among, edge) = edge_of r (graph_at graphs k) (are.cut.each k known) (place_at places k) cells next s.side i n has.at move
      ((local.taken n).0 number) in
      let inside = subst (λ z. z < length r.points) (sym edge.place) short in
      let point = ap (λ z. get_or r.points z 0) edge.place ∙ here in
      (k, (e, record { known = known; edge = record { stone = record { inside = inside; point = point; colour = edge.colour }; among = among } }))

  pub stone_leads : (t : Whole) {p k : ℕ} {e : Edge} → IsStoneEdge regions graphs places s.side p k e → IsMove s (Stone p) t
      → StoneLeads g regions graphs places s t k e
  stone_leads t {p} {k} {e} x m =
      let (mark, (h, (n, taken, number, is))) = m in
      let l = local_stone x in
      let r = region_at regions k in
      let placed = subst (λ z. IsPlaced s.board z s.side h) (sym x.edge.stone.point) taken in
      let plays = are.cut.local r (Contains-get_or regions k no_region x.known) in
      let local = plays.local l.cells l.next s.board h s.side e.place l.holds x.edge.stone.inside placed l.move in
      let number' : IsLocalNumberTaken l.cells l.next n = (local.taken n).0 number in
      let same : n ≡ e.taken = omega (arith, number', l.edge.number) in
      let own : IsHeld g regions s.board k (position_in k l.cells) = record { region = refl; known = x.known; reachable = l.has.at.reachable; holds = l.holds } in
      let (now, others) = held_after g are.settled regions are.cut.cut s.board h k (position_in k l.cells) l.next s.side e.place
      (get_or r.points e.place 0) own placed l.move local in
      let there = next_place r (graph_at graphs k) (are.cut.each k x.known)
      (place_at places k) l.cells l.next s.side e.place e.taken e l.has.at l.move l.edge in
      let kept = keeps_move g are.settled s t (Stone p) keeps m in
      record {
        held = record {
          many = length-set places k e.next ∙ at.many;
          walls = kept.walls;
          contested = kept.contested;
          shown = λ j lt. subst (λ z. IsShown g regions graphs z.board j (spot_in j (place_at (set places k e.next) j))) (sym is) (elim (cases_eq j k) [
            | inl j≡k ↦ subst (λ z. IsShown g regions graphs h z (spot_in z (place_at (set places k e.next) z))) (sym j≡k)
                (subst (λ z. IsShown g regions graphs h k (spot_in k z)) (sym (get_or-set_same places k e.next 0 (omega (arith, x.known, at.many))))
                (l.next, record { region = refl; known = x.known; at = there }, now.holds))
            | inr ne ↦
                let (cells, has, holds) = at.shown j lt in
                let still = others j (position_in j cells) ne (record { region = refl; known = lt; reachable = has.at.reachable; holds = holds }) in
                subst (λ z. IsShown g regions graphs h j (spot_in j z)) (sym (get_or-set_other places k j e.next 0 ne)) (cells, has, still.holds)
          ]);
        };
        purses = ap (λ z. z.purses) is ∙ ap (λ z. paid_in s.side z s.purses) same;
        turn = ap (λ z. z.side) is;
      }

  -- a move on the purses alone
  money_leads : (m : Move) (ms : Purses) (t : Whole) → IsMove s m t → t ≡ after s.board ms s → IsAt g regions graphs places t
  money_leads m ms t move is =
      let kept = keeps_move g are.settled s t m keeps move in
      record {
        many = at.many;
        walls = kept.walls;
        contested = kept.contested;
        shown = λ j lt. subst (λ z. IsShown g regions graphs z.board j (spot_in j (place_at places j))) (sym is) (at.shown j lt);
      }

  -- the purses stay below their bound, and the ranks add up to less
  stone_room : (room : HasRoom graphs places s) → (t : Whole) {p k : ℕ} {e : Edge} → IsStoneEdge regions graphs places s.side p k e
      → StoneLeads g regions graphs places s t k e → (later : HasRoom graphs (set places k e.next) t) × (sum_by (λ n. n) later.ranks + 1 ≤ sum_by (λ n. n) room.ranks)
  stone_room room t {p} {k} {e} x leads =
      let short : k < length places = omega (arith, x.known, at.many) in
      let here = room.each k short in
      let among = subst (λ i. Contains (edges_at (graph_at graphs k).edges i) e) (sym here.1) x.edge.among in
      let (j, lower, there) = (are.cut.each k x.known).order.ends_first (get_or room.ranks k 0) e here.0 among in
      let short' : k < length room.ranks = omega (arith, short, room.many) in
      let sums = sum_by-set (λ n. n) room.ranks k j 0 short' in
      let less : sum_by (λ n. n) (set room.ranks k j) + 1 ≤ sum_by (λ n. n) room.ranks = omega (arith, sums, lower) in
      let few = stone_taken x in
      let later : HasRoom graphs (set places k e.next) t = record {
        ranks = set room.ranks k j;
        many = length-set room.ranks k j ∙ room.many ∙ sym (length-set places k e.next);
        each = λ i lt. elim (cases_eq i k) as (λ _. Ranked j i) [
          | inl i≡k ↦
              subst (Ranked j) (sym i≡k)
              (rw (get_or-set_same room.ranks k j 0 short', get_or-set_same places k e.next 0 short) (omega (arith, lower, here.0), there))
          | inr ne ↦
              rw (get_or-set_other room.ranks k i j 0 ne, get_or-set_other places k i e.next 0 ne)
              (room.each i (omega (arith, lt, length-set places k e.next)))
        ];
        room = λ c.
            let paid = paid-in c s.side e.taken s.purses in
            let token = ap token_left (token-in s.side e.taken s.purses) in
            subst (λ m. purse c m + 33 * sum_by (λ n. n) (set room.ranks k j) + token_left m.token ≤ 2 ^ 41) (sym leads.purses)
            (omega (arith, few, less, room.room c, paid, own-less c s.side e.taken, token));
      } in (later, less)
    where
      Ranked : ℕ → ℕ → Type 0
      Ranked j i = (get_or (set room.ranks k j) i 0 < length (graph_at graphs i).order)
          × (get_or (graph_at graphs i).order (get_or (set room.ranks k j) i 0) 0 ≡ place_at (set places k e.next) i)

-- Each move keeps a solved game.
module _ {regions : List Region} {graphs : List Graph} {values : List (List ℕ)} {places ids : List ℕ} {Ts : List Tree} {s : Whole}
    (kept : AreSolvedAt regions graphs values places ids Ts s) where
  -- the sum with another place of a region
  summed_set : (k i v : ℕ) → k < length regions → v ≡ get_or (ids_at values k) i 0 → AreSummed regions values (set places k i) (set ids k v)
  summed_set k i v known value =
      let summed = kept.summed in
      record {
        many = length-set ids k v ∙ summed.many;
        each = λ j lt. elim (cases_eq j k) as (λ _. get_or (set ids k v) j 0 ≡ get_or (ids_at values j) (place_at (set places k i) j) 0) [
          | inl e ↦ subst (λ z. get_or (set ids k v) z 0 ≡ get_or (ids_at values z) (place_at (set places k i) z) 0) (sym e)
              (get_or-set_same ids k v 0 (omega (arith, known, summed.many))
              ∙ value ∙ ap (λ z. get_or (ids_at values k) z 0) (sym (get_or-set_same places k i 0 (omega (arith, known, kept.at.many)))))
          | inr ne ↦ get_or-set_other ids k j v 0 ne ∙ summed.each j lt
              ∙ ap (λ z. get_or (ids_at values j) z 0) (sym (get_or-set_other places k j i 0 ne))
        ];
      }

  pub kept_stone : (t : Whole) {p k v : ℕ} {e : Edge} → IsStoneEdge regions graphs places s.side p k e → v ≡ get_or (ids_at values k) e.next 0
      → IsMove s (Stone p) t → AreSolvedAt regions graphs values (set places k e.next) (set ids k v) Ts t
  kept_stone t {p} {k} {v} {e} x value m =
      let leads = stone_leads kept.solved kept.at t x m in
      record {
        board = kept.board;
        solved = kept.solved;
        at = leads.held;
        summed = summed_set k e.next v x.known value;
        room = (stone_room kept.solved kept.at kept.room t x leads).0;
      }

  -- a stone has an edge
  pub some_edge : (p : ℕ) (t : Whole) → IsMove s (Stone p) t → ((k : ℕ) (e : Edge) → ¬ IsStoneEdge regions graphs places s.side p k e) → ⊥
  some_edge p t m none = let (k, (e, x)) = stone_edge kept.solved kept.at t p m in none k e x

  -- what is in a purse comes out of it, or from the token
  kept_money : (m : Move) (ms : Purses) (t : Whole) → IsMove s m t → t ≡ after s.board ms s
      → ((c : Colour) → purse c ms + token_left ms.token ≤ purse c s.purses + token_left s.purses.token)
      → AreSolvedAt regions graphs values places ids Ts t
  kept_money m ms t move is less = record {
    board = kept.board;
    solved = kept.solved;
    at = money_leads kept.solved kept.at m ms t move is;
    summed = kept.summed;
    room = record {
      ranks = kept.room.ranks;
      many = kept.room.many;
      each = kept.room.each;
      room = λ c. subst (λ z. purse c z.purses + 33 * sum_by (λ n. n) kept.room.ranks + token_left z.purses.token ≤ 2 ^ 41) (sym is)
          (omega (arith, kept.room.room c, less c));
    };
  }

  -- a move that is no stone, or is refused
  pub kept_applied : (m : Move) → ((p : ℕ) → m ≡ Stone p → ⊥) → (t : Whole) (r : Result Unit MoveError) → Applies s m t r → AreSolvedAt regions graphs values places ids Ts t
  kept_applied (Stone p) not t r a = absurd (not p refl)
  kept_applied Spend not t (Ok u) a = kept_money Spend (paid_out s.side s.purses) t a a.1
      (λ c. omega (arith, paid-out c s.side s.purses a.0, ap token_left (token-out s.side 1 s.purses)))
  kept_applied Half not t (Ok u) a = kept_money Half (halved s.side s.purses) t a a.1
      (λ c. let w = halved-is c s.side s.purses.black s.purses.white s.purses.token in omega (arith, w.0, w.1))
  kept_applied Spend not t (Err e) a = subst (AreSolvedAt regions graphs values places ids Ts) (sym a.0) kept
  kept_applied Half not t (Err e) a = subst (AreSolvedAt regions graphs values places ids Ts) (sym a.0) kept

  -- points that are taken out of a purse
  pub kept_out : (c : Colour) (n : ℕ) → AreSolvedAt regions graphs values places ids Ts (record s { purses = taken_out c n s.purses })
  kept_out c n = record {
    board = kept.board;
    solved = kept.solved;
    at = record { many = kept.at.many; walls = kept.at.walls; contested = kept.at.contested; shown = kept.at.shown };
    summed = kept.summed;
    room = record {
      ranks = kept.room.ranks;
      many = kept.room.many;
      each = kept.room.each;
      room = λ d. omega (arith, kept.room.room d, out-less d c n s.purses, ap token_left (token-out c n s.purses));
    };
  }

  -- What is reported of a region.
  pub value_is : (k : ℕ) → k < length regions → IsValueId Ts (region_at regions k) (region_at regions k).cells (get_or (ids_at values k) 0 0)
  value_is k lt =
      let of = (kept.solved.cut.each k lt).graph in
      let are = kept.solved.valued k lt in (
        are.known 0 (omega (arith, are.long, of.some)),
        are.each 0 (region_at regions k).cells
            (record { inside = of.some; reachable = ([], refl); packed = of.first }),
      )

  -- a region's lowest point is one of the board
  pub lowest_on_board : (k : ℕ) → k < length regions → lowest (region_at regions k) < length s.board.cells
  lowest_on_board k lt =
      let r = region_at regions k in
      let here : Contains regions r = Contains-get_or regions k no_region lt in
      let contested = point_contested kept.board r (kept.solved.cut.cut.each r here) (lowest r)
      (Contains-get_or r.points 0 0 (kept.solved.proper r here).some) in
      omega (arith, contested.0, kept.at.walls.long)

-- no play of stones has more of them than the ranks add up to
few_stones : {regions : List Region} {graphs : List Graph} {values : List (List ℕ)} {Ts : List Tree} {g : Board} (are : AreSolved g regions graphs values Ts)
    (ps : List ℕ) {places : List ℕ} {s : Whole} → IsAt g regions graphs places s → (room : HasRoom graphs places s) → (t : Whole)
    → Plays s (stones ps) t → length ps ≤ sum_by (λ n. n) room.ranks
few_stones are [] at room t e = omega arith
few_stones are (p ∷ ps) at room t (u, move, rest) =
    let (k, (e, x)) = stone_edge are at u p move in
    let leads = stone_leads are at u x move in
    let (later, less) = stone_room are at room u x leads in
    omega (arith, less, few_stones are ps leads.held later t rest)

pub held_few : {regions : List Region} {graphs : List Graph} {values : List (List ℕ)} {places ids : List ℕ} {Ts : List Tree} {s : Whole}
    → AreSolvedAt regions graphs values places ids Ts s → HasFewStones s
held_few kept ps t plays = omega (arith, few_stones kept.solved ps kept.at kept.room t plays, kept.room.room Black)
