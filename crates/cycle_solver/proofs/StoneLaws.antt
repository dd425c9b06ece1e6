-- The stones of the present state are the edges of its regions' positions, and each leads to where its edge leads.
use Rattle.std.proofs.Common.{ℕ, ◌≡◌, ◌↔◌, ◌<◌, ◌≤◌, inl, inr, refl, sym, ap, ◌∙◌, subst, arith, List, length, get_or, set, Contains}
use Rattle.std.proofs.lemmas.Bool.{cases_eq}
use Rattle.std.proofs.lemmas.List.{get_or_default, get_or-set_same, get_or-set_other, length-set}
use Rattle.std.proofs.lemmas.List.Elements.{Contains-get_or}
use Rattle.go_grid.specs.declared.grid.Cell.{Cell}
use Rattle.go_grid.specs.Board.{Board, other}
use Rattle.go_grid.specs.Region.{Region}
use Rattle.go_play.specs.Place.{IsPlaced}
use Rattle.whole_rules.specs.declared.money.Purses.{Purses}
use Rattle.whole_rules.specs.declared.states.Move.{Move}
use Rattle.whole_rules.specs.declared.states.Move.TheVariants.{Stone}
use Rattle.whole_rules.specs.Purses.{paid_in}
use Rattle.whole_rules.specs.WholeGame.{Whole, IsMove, IsLegal, after}
use Rattle.whole_rules.proofs.WallLaws.{keeps_move}
use Rattle.local_play.specs.LocalPlay.{IsLocalMove, IsNumberTaken as IsLocalNumberTaken}
use Rattle.local_graph.specs.declared.graph.Edge.{Edge}
use Rattle.local_graph.specs.Graph.{Graph}
use Rattle.local_graph.specs.ReturnGraph.{IsReturningCaptureAt}
use Rattle.local_graph.proofs.ReturnGraphLemmas.{capture_at}
use Rattle.region_cut.specs.LocalBoard.{HoldsPosition}
use Rattle.region_cut.proofs.LocalBoardLemmas.{only_region, placing_is_local, plays_locally, point_contested}
use Rattle.short_games.specs.Tree.{Tree}
use Rattle.local_value.specs.BudgetValues.{plain_graph}
use Rattle.local_trees.specs.GraphPlaces.{IsPlaceOf}
use Rattle.local_trees.proofs.MoveLaws.{IsEdgeFor, graph_edge, graph_move, graph_next, graph_taken}
use Rattle.endgame_solver.specs.Regions.{no_region, region_at}
use Rattle.endgame_solver.proofs.WholeLaws.{IsHeld, held_after, position_in}
use Rattle.whole_budgets.specs.BudgetPlay.{IsReturningCapture}
use Rattle.whole_budgets.proofs.RegionLemmas.{return_locally}
use Rattle.cycle_solver.specs.declared.region_game.RegionGame.{RegionGame}
use Rattle.cycle_solver.specs.GameLists.{game_at}
use Rattle.cycle_solver.specs.Held.{AreSolved, IsAt, IsStoneEdge, place_at}
use Rattle.cycle_solver.proofs.SumLaws.{keeps}

module _ {g : Board} {regions : List Region} {games : List RegionGame} {Ts : List Tree} (are : AreSolved g regions games Ts)
    {s : Whole} {places : List ℕ} (at : IsAt g regions games places s) where
  abbrev graph_at : ℕ → Graph
  graph_at k = plain_graph (game_at games k).graph

  -- what an edge does in its region
  record IsLocalStone (k : ℕ) (e : Edge) : Type 0 where
    cells : List Cell
    next : List Cell
    has : IsPlaceOf (region_at regions k) (graph_at k) (place_at places k) cells
    holds : HoldsPosition g (region_at regions k) cells s.board
    move : IsLocalMove (region_at regions k).touch cells s.side e.place next
    edge : IsEdgeFor (graph_at k).positions cells next s.side e.place e.taken e

  local_stone : {p k : ℕ} {e : Edge} → IsStoneEdge regions games places s.side p k e → IsLocalStone k e
  local_stone {p} {k} {e} x =
      let r = region_at regions k in
      let (cells, has, holds) = at.shown k x.known in
      let (next, move, edge) = graph_move r (graph_at k) (are.each k x.known).graph.graph (place_at places k) cells e has x.among in
      record {
        cells = cells;
        next = next;
        has = has;
        holds = holds;
        move = subst (λ d. IsLocalMove r.touch cells d e.place next) x.stone.colour move;
        edge = subst (λ d. IsEdgeFor (graph_at k).positions cells next d e.place e.taken e) x.stone.colour edge;
      }

  -- an edge leads to a place of the graph
  pub stone_next : {p k : ℕ} {e : Edge} → IsStoneEdge regions games places s.side p k e → e.next < length (game_at games k).graph.positions
  stone_next x = (local_stone x).edge.inside

  -- and takes few stones
  pub stone_taken : {p k : ℕ} {e : Edge} → IsStoneEdge regions games places s.side p k e → e.taken ≤ 33
  stone_taken {p} {k} {e} x =
      let of = (are.each k x.known).graph in
      omega (arith, graph_taken (region_at regions k) (graph_at k) of.graph (place_at places k) e x.among, of.few)

  -- an edge is a legal stone
  pub stone_legal : {p k : ℕ} {e : Edge} → IsStoneEdge regions games places s.side p k e → IsLegal s (Stone p)
  stone_legal {p} {k} {e} x =
      let l = local_stone x in
      let r = region_at regions k in
      let play = are.cut.each r (Contains-get_or regions k no_region x.known) in
      let plays = plays_locally g r are.settled play in
      let (h, placed) = (plays.legal l.cells s.board s.side e.place l.holds x.stone.inside).1 (l.next, l.move) in
      let local = plays.local l.cells l.next s.board h s.side e.place l.holds x.stone.inside placed l.move in
      let contested = point_contested g r play p (subst (Contains r.points) x.stone.point (Contains-get_or r.points e.place 0 x.stone.inside)) in
      let placed' = subst (λ z. IsPlaced s.board z s.side h) x.stone.point placed in
      (after h (paid_in s.side e.taken s.purses) s, ((at.contested p).1 contested, (h, (e.taken, placed', (local.taken e.taken).1 l.edge.number, refl))))

  -- a stone is an edge
  pub stone_edge : (t : Whole) (p : ℕ) → IsMove s (Stone p) t → (k : ℕ) × ((e : Edge) × IsStoneEdge regions games places s.side p k e)
  stone_edge t p (mark, (h, (n, placed, number, is))) =
      let (k, known, (i, short, there), alone) = only_region g regions are.cut p no_region ((at.contested p).0 mark) in
      let r = region_at regions k in
      let here : get_or r.points i 0 ≡ p = get_or_default r.points i 0 p short ∙ there in
      let (cells, has, holds) = at.shown k known in
      let play = are.cut.each r (Contains-get_or regions k no_region known) in
      let (next, move, local) = placing_is_local g r are.settled play holds i short s.side h (subst (λ z. IsPlaced s.board z s.side h) (sym here) placed) in
      let (e, among, edge) = graph_edge r (graph_at k) (are.each k known).graph.graph (place_at places k) cells next s.side i n has move
      ((local.taken n).0 number) in
      let inside = subst (λ z. z < length r.points) (sym edge.place) short in
      let point = ap (λ z. get_or r.points z 0) edge.place ∙ here in
      (k, (e, record { known = known; stone = record { inside = inside; point = point; colour = edge.colour }; among = among }))

  -- what a stone leads to
  pub record StoneLeads (t : Whole) (k : ℕ) (e : Edge) : Type 0 where
    pub held : IsAt g regions games (set places k e.next) t
    pub purses : t.purses ≡ paid_in s.side e.taken s.purses
    pub turn : t.side ≡ other s.side

  pub stone_leads : (t : Whole) {p k : ℕ} {e : Edge} → IsStoneEdge regions games places s.side p k e → IsMove s (Stone p) t → StoneLeads t k e
  stone_leads t {p} {k} {e} x m =
      let (mark, (h, (n, taken, number, is))) = m in
      let l = local_stone x in
      let r = region_at regions k in
      let placed = subst (λ z. IsPlaced s.board z s.side h) (sym x.stone.point) taken in
      let plays = plays_locally g r are.settled (are.cut.each r (Contains-get_or regions k no_region x.known)) in
      let local = plays.local l.cells l.next s.board h s.side e.place l.holds x.stone.inside placed l.move in
      let number' : IsLocalNumberTaken l.cells l.next n = (local.taken n).0 number in
      let same : n ≡ e.taken = omega (arith, number', l.edge.number) in
      let own : IsHeld g regions s.board k (position_in k l.cells) = record { region = refl; known = x.known; reachable = l.has.reachable; holds = l.holds } in
      let (now, others) = held_after g are.settled regions are.cut s.board h k (position_in k l.cells) l.next s.side e.place
      (get_or r.points e.place 0) own placed l.move local in
      let there = graph_next r (graph_at k) (are.each k x.known).graph.graph (place_at places k) l.cells l.next s.side e.place e.taken e l.has l.move l.edge in
      let kept = keeps_move g are.settled s t (Stone p) (keeps are at) m in
      let Shown : Board → ℕ → ℕ → Type 0 = λ b j i.
      (cells : List Cell) × IsPlaceOf (region_at regions j) (graph_at j) i cells × HoldsPosition g (region_at regions j) cells b in
      record {
        held = record {
          many = length-set places k e.next ∙ at.many;
          walls = kept.walls;
          contested = kept.contested;
          shown = λ j lt. subst (λ z. Shown z.board j (place_at (set places k e.next) j)) (sym is) (elim (cases_eq j k) as (λ _. Shown h j (place_at (set places k e.next) j)) [
            | inl j≡k ↦ subst (λ z. Shown h z (place_at (set places k e.next) z)) (sym j≡k)
                (subst (Shown h k) (sym (get_or-set_same places k e.next 0 (omega (arith, x.known, at.many)))) (l.next, there, now.holds))
            | inr ne ↦
                let (cells, has, holds) = at.shown j lt in
                let still = others j (position_in j cells) ne (record { region = refl; known = lt; reachable = has.reachable; holds = holds }) in
                subst (Shown h j) (sym (get_or-set_other places k j e.next 0 ne)) (cells, has, still.holds)
          ]);
        };
        purses = ap (λ z. z.purses) is ∙ ap (λ z. paid_in s.side z s.purses) same;
        turn = ap (λ z. z.side) is;
      }

  -- a stone is a capture that returns in its own region alone, exactly where its edge is one
  pub stone_uses : (t : Whole) {p k : ℕ} {e : Edge} → IsStoneEdge regions games places s.side p k e → IsMove s (Stone p) t
      → (j : ℕ) → j < length regions → IsReturningCapture (region_at regions j) s (Stone p) t
      ↔ (IsReturningCaptureAt e.colour (game_at games k).graph.components (place_at places k) e × (j ≡ k))
  stone_uses t {p} {k} {e} x m j lt =
      let l = local_stone x in
      let r = region_at regions k in
      let of = (are.each k x.known).graph in
      let there = graph_next r (graph_at k) of.graph (place_at places k) l.cells l.next s.side e.place e.taken e l.has l.move l.edge in
      let at_edge = capture_at r.touch r.cells (game_at games k).graph.positions (game_at games k).graph.edges of.graph (game_at games k).graph.components of.returns
      e.colour (place_at places k) e l.cells l.next l.has.inside x.among l.has.reachable there.reachable l.has.packed there.packed in
      let m' : IsMove s (Stone (get_or r.points e.place 0)) t = subst (λ q. IsMove s (Stone q) t) (sym x.stone.point) m in
      let on_board = return_locally g r s t e.place l.cells l.next are.settled (are.cut.each r (Contains-get_or regions k no_region x.known)) l.holds
      x.stone.inside m' l.move in
      let (k', known', among', alone) = only_region g regions are.cut p no_region ((at.contested p).0 m.0) in
      let among : Contains r.points p = subst (Contains r.points) x.stone.point (Contains-get_or r.points e.place 0 x.stone.inside) in
      let Here : ℕ → Type 0 = λ q. IsReturningCapture r s (Stone q) t in
      let There : ℕ → Type 0 = λ i. IsReturningCapture (region_at regions i) s (Stone p) t in (
        λ ret.
            let same : j ≡ k = alone j lt ret.0 ∙ sym (alone k x.known among) in
            let own = on_board.0 (subst Here (sym x.stone.point) (subst There same ret)) in
            (at_edge.1 (refl, own.0, own.1), same),
        λ (uses, same).
            let own = at_edge.0 uses in
            subst There (sym same) (subst Here x.stone.point (on_board.1 (own.1, own.2))),
      )

  -- a move on the purses alone leaves all positions
  pub money_leads : (m : Move) (ms : Purses) (t : Whole) → IsMove s m t → t ≡ after s.board ms s → IsAt g regions games places t
  money_leads m ms t move is =
      let kept = keeps_move g are.settled s t m (keeps are at) move in
      record {
        many = at.many;
        walls = kept.walls;
        contested = kept.contested;
        shown = λ j lt.
            let (cells, has, holds) = at.shown j lt in
            (cells, has, subst (λ z. HoldsPosition g (region_at regions j) cells z.board) (sym is) holds);
      }
