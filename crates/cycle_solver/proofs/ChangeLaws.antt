-- What a move changes of the present state, and who wins behind it.
use Rattle.std.proofs.Common.{ℕ, ◌≡◌, ◌≢◌, ◌↔◌, ◌<◌, ◌≤◌, ◌+◌, arith, inl, inr, refl, sym, ap, ap₂, ◌∙◌, subst, List, length, get_or, set, Bool, IsTrue, IfSome, MatchOption, Option, None, Some, Contains, length-set, suc, zero, false}
use Rattle.std.proofs.lemmas.Bool.{cases_eq}
use Rattle.std.proofs.lemmas.List.{get_or_default, get_or-set_other, get_or-set_same}
use Rattle.go_grid.specs.declared.grid.Colour.{Colour}
use Rattle.go_grid.specs.declared.grid.Colour.TheVariants.{Black, White}
use Rattle.go_grid.specs.Board.{other}
use Rattle.go_grid.specs.Region.{Region}
use Rattle.whole_rules.specs.declared.money.Purses.{Purses}
use Rattle.whole_rules.specs.declared.money.Token.TheVariants.{Nobody}
use Rattle.whole_rules.specs.declared.states.Move.{Move}
use Rattle.whole_rules.specs.declared.states.Move.TheVariants.{Half, Spend, Stone}
use Rattle.whole_rules.specs.FirstWinningMove.{IsFirstWinning, IsWinner, IsWinning}
use Rattle.whole_rules.specs.PlainRecursion.{WinsWithin}
use Rattle.whole_rules.specs.Purses.{halved, paid_in, paid_out, purse}
use Rattle.whole_rules.specs.WholeGame.{Whole, IsLegal, IsMove, Leads, after}
use Rattle.whole_rules.proofs.PlainLaws.{move_turn}
use Rattle.local_graph.specs.declared.graph.Edge.{Edge}
use Rattle.local_graph.specs.inner.Graph.{edges_at, no_edge}
use Rattle.short_games.specs.Tree.{Tree}
use Rattle.short_games.specs.Number.{num}
use Rattle.short_games.specs.Sum.{◌+ᵍ◌, total}
use Rattle.game_store.specs.Meaning.{pick}
use Rattle.endgame_solver.specs.ModestGames.{AreModestGames}
use Rattle.endgame_solver.specs.SumGame.{AreModest, balance}
use Rattle.endgame_solver.specs.Regions.{IsStoneAt, region_at}
use Rattle.endgame_solver.specs.inner.Held.{IsFirstStone}
use Rattle.endgame_solver.proofs.BeginLaws.{token_few}
use Rattle.endgame_solver.proofs.BookkeepingLaws.{halved-is, own-less, paid-in, paid-out}
use Rattle.local_graph.specs.ReturnGraph.{IsReturningCaptureAt}
use Rattle.whole_budgets.specs.BudgetPlay.{IsReturningCapture}
use Rattle.whole_budgets.specs.BudgetSums.{WinsGame}
use Rattle.whole_budgets.proofs.BudgetPlayLemmas.{other_not, other_twice}
use Rattle.cycle_solver.specs.declared.views.View.{View}
use Rattle.cycle_solver.specs.Turned.{own}
use Rattle.cycle_solver.specs.declared.asking.Present.{Present}
use Rattle.cycle_solver.specs.declared.changes.Change.{Change}
use Rattle.cycle_solver.specs.declared.region_game.RegionGame.{RegionGame}
use Rattle.cycle_solver.specs.Changes.{AreBehind, IsBehind, IsChange, IsChanged, IsSomeChange, places_after}
use Rattle.cycle_solver.specs.GameLists.{game_at}
use Rattle.cycle_solver.specs.Held.{AreSummed, AreSummedBy, HaveEdges, IsAt, IsHeld, IsSeen, IsStoneEdge, enough, ids_with, place_at}
use Rattle.cycle_solver.proofs.StoneLaws.{money_leads, stone_edge, stone_leads, stone_legal, stone_taken, stone_uses}
use Rattle.cycle_solver.proofs.SumLaws.{have_places, modest_games, told, wins}

-- what an edge at a point changes is the change of the stone
module _ {regions : List Region} {games : List RegionGame} {places : List ℕ} {Ts : List Tree} {s : Whole} (held : IsHeld regions games places Ts s) where
  pub have_edges : HaveEdges regions games places
  have_edges = record { many_games = held.solved.many; many_places = held.at.many; inside = λ k lt. (held.at.shown k lt).1.inside }

  -- the purses stay modest
  modest_in : (n : ℕ) → n ≤ 33 → AreModest (paid_in s.side n s.purses)
  modest_in n few = record {
    black = omega (arith, held.modest Black, paid-in Black s.side n s.purses, own-less Black s.side n, few);
    white = omega (arith, held.modest White, paid-in White s.side n s.purses, own-less White s.side n, few);
  }

  modest_out : (c : Colour) → AreModest (paid_out c s.purses)
  modest_out Black = record { black = omega (arith, held.modest Black); white = omega (arith, held.modest White) }
  modest_out White = record { black = omega (arith, held.modest Black); white = omega (arith, held.modest White) }

  modest_half : (c : Colour) → AreModest (halved c s.purses)
  modest_half c =
      let black = halved-is Black c s.purses.black s.purses.white s.purses.token in
      let white = halved-is White c s.purses.black s.purses.white s.purses.token in
      let few = token_few s.purses.token in
      record { black = omega (arith, held.modest Black, black.0, black.1, few); white = omega (arith, held.modest White, white.0, white.1, few) }

  -- a stone without an edge is illegal
  pub none_legal : {p : ℕ} → ((k : ℕ) (e : Edge) → ¬ IsStoneEdge regions games places s.side p k e) → ¬ IsLegal s (Stone p)
  none_legal {p} none (t, m) = let (k, (e, x)) = stone_edge held.solved held.at t p m in none k e x

-- the region of a stone
abbrev pub region_in : Option (ℕ × ℕ) → ℕ
region_in None = 0
region_in (Some x) = x.0

-- What a move changes.
module _ (present : Present) (seen : IsSeen present) where
  abbrev now : Whole
  now = present.whole.now

  pub stone_change : {p k i : ℕ} {e : Edge} {u : Bool} {m : Purses}
      → IsStoneEdge present.regions.now present.games.now present.places.now now.side p k e → i ≡ e.next
      → IsTrue u ↔ IsReturningCaptureAt e.colour (game_at present.games.now k).graph.components (place_at present.places.now k) e
      → m ≡ paid_in now.side e.taken now.purses → IsChange present (Stone p) (record { stone = Some (k, i); uses = u; purses = m })
  stone_change {p} {k} {i} {e} {u} {m} x next returns paid = record {
    legal = stone_legal seen.solved seen.at x;
    each = λ t move.
        let l = stone_leads seen.solved seen.at t x move in record {
          stands = (
            seen.board,
            seen.solved,
            subst (λ z. IsAt seen.board present.regions.now present.games.now (set present.places.now k z) t) (sym next) l.held,
          );
          purses = l.purses ∙ sym paid;
          turn = l.turn;
        };
    uses = λ t move j lt.
        let w = stone_uses seen.solved seen.at t x move j lt in (
          λ ret. (returns.1 (w.0 ret).0, (i, ap (λ z. Some (z, i)) (sym (w.0 ret).1))),
          λ (used, (l, is)). w.1 (returns.0 used, sym (ap region_in is)),
        );
    modest = subst AreModest (sym paid) (modest_in seen e.taken (stone_taken seen.solved seen.at x));
    grown = λ c. subst (λ z. purse c z ≤ purse c now.purses + 33) (sym paid)
        (omega (arith, paid-in c now.side e.taken now.purses, own-less c now.side e.taken, stone_taken seen.solved seen.at x));
    known = x.known;
  }

  money_change : (move : Move) (ms : Purses) {m : Purses} → IsMove now move (after present.whole.now.board ms now)
      → ((t : Whole) → IsMove now move t → t ≡ after now.board ms now) → ((r : Region) (t : Whole) → ¬ IsReturningCapture r now move t)
      → AreModest ms → ((c : Colour) → purse c ms ≤ purse c now.purses + 33) → m ≡ ms
      → IsChange present move (record { stone = None; uses = false; purses = m })
  money_change move ms {m} legal each never modest grown paid = record {
    legal = (after now.board ms now, legal);
    each = λ t h. record {
      stands = (seen.board, seen.solved, money_leads seen.solved seen.at move ms t h (each t h));
      purses = ap (λ z. z.purses) (each t h) ∙ sym paid;
      turn = ap (λ z. z.side) (each t h);
    };
    uses = λ t h k lt. (λ ret. absurd (never (region_at present.regions.now k) t ret), λ (used, rest). absurd cc);
    modest = subst AreModest (sym paid) modest;
    grown = λ c. subst (λ z. purse c z ≤ purse c now.purses + 33) (sym paid) (grown c);
    known = tt;
  }

  pub spend_change : {m : Purses} → 1 ≤ purse now.side now.purses → m ≡ paid_out now.side now.purses
      → IsChange present Spend (record { stone = None; uses = false; purses = m })
  spend_change some paid = money_change Spend (paid_out now.side now.purses) (some, refl) (λ t h. h.1) (λ r t u. u) (modest_out seen now.side)
      (λ c. omega (arith, paid-out c now.side now.purses some)) paid

  pub half_change : {m : Purses} → now.purses.token ≢ Nobody → m ≡ halved now.side now.purses
      → IsChange present Half (record { stone = None; uses = false; purses = m })
  half_change some paid = money_change Half (halved now.side now.purses) (some, refl) (λ t h. h.1) (λ r t u. u) (modest_half seen now.side)
      (λ c.
      let h = halved-is c now.side now.purses.black now.purses.white now.purses.token in
      omega (arith, h.0, h.1, token_few now.purses.token)) paid

-- Who wins behind a move.

-- a sum in which one value is put
pub summed_put : {games : List RegionGame} {places : List ℕ} {c : Colour} {before behind : ℕ → ℕ} {ids : List ℕ} (k i v : ℕ) → k < length places
    → k < length games → AreSummedBy games places c before ids → ((j : ℕ) → j ≢ k → behind j ≡ before j)
    → v ≡ get_or (ids_with (game_at games k) c (behind k)) i 0 → AreSummedBy games (set places k i) c behind (set ids k v)
summed_put {games} {places} {c} {before} {behind} {ids} k i v inside known summed others is = record {
  many = length-set ids k v ∙ summed.many;
  each = λ j lt. elim (cases_eq j k) as (λ _. Summed j) [
    | inl same ↦ subst Summed (sym same) (get_or-set_same ids k v 0 (omega (arith, known, summed.many)) ∙ is
        ∙ ap (λ z. get_or (ids_with (game_at games k) c (behind k)) z 0) (sym (get_or-set_same places k i 0 inside)))
    | inr ne ↦ get_or-set_other ids k j v 0 ne ∙ summed.each j lt
        ∙ ap₂ (λ b z. get_or (ids_with (game_at games j) c b) z 0) (sym (others j ne)) (sym (get_or-set_other places k j i 0 ne))
  ];
}
  where
    Summed : ℕ → Type 0
    Summed j = get_or (set ids k v) j 0 ≡ get_or (ids_with (game_at games j) c (behind j)) (place_at (set places k i) j) 0

-- a sum with budgets that are the same
pub summed_as : {games : List RegionGame} {places : List ℕ} {c : Colour} {before behind : ℕ → ℕ} {ids : List ℕ}
    → ((k : ℕ) → k < length games → ids_with (game_at games k) c (behind k) ≡ ids_with (game_at games k) c (before k))
    → AreSummedBy games places c before ids → AreSummedBy games places c behind ids
summed_as {places = places} same summed = record {
  many = summed.many;
  each = λ k lt. summed.each k lt ∙ ap (λ layer. get_or layer (place_at places k) 0) (sym (same k lt));
}

-- without a stone the sum stays
pub summed_none : {games : List RegionGame} {places : List ℕ} {c : Colour} (budget : ℕ) {ids : List ℕ} {stone : Option (ℕ × ℕ)} → stone ≡ None
    → (before behind : ℕ → ℕ) → AreBehind stone budget before behind → AreSummedBy games places c before ids
    → AreSummedBy games (places_after places stone) c behind ids
summed_none {games} {places} {c} budget {ids} {stone} none before behind are summed =
    subst (λ o. AreSummedBy games (places_after places o) c behind ids) (sym none)
    (summed_as (λ k lt. ap (λ b. ids_with (game_at games k) c b) (subst (λ o. AreBehind o budget before behind) none are k)) summed)

pub summed_still : {games : List RegionGame} {places : List ℕ} {c : Colour} {ids : List ℕ} {stone : Option (ℕ × ℕ)} → stone ≡ None
    → AreSummed games places c enough ids → AreSummed games (places_after places stone) c enough ids
summed_still {games} {places} {c} {ids} none = subst (λ o. AreSummed games (places_after places o) c enough ids) (sym none)

-- with one budget everywhere it is the same behind a move
pub one_behind : (stone : Option (ℕ × ℕ)) (budget : ℕ) → AreBehind stone budget (λ k. budget) (λ k. budget)
one_behind None budget = λ k. refl
one_behind (Some x) budget = (refl, λ k ne. refl)

module _ (present : Present) (x : Change) (some : IsSomeChange present x) where
  abbrev after_it : Whole
  after_it = some.1.legal.0

  changed : IsChanged present x after_it
  changed = some.1.each after_it some.1.legal.1

  abbrev later : List ℕ
  later = places_after present.places.now x.stone

  -- the sum of the values behind the move may be asked
  pub games_after : (c : Colour) (budget : ℕ → ℕ) (ids : List ℕ) → AreSummedBy present.games.now later c budget ids
      → AreModestGames present.store.now ids
  games_after c budget ids summed = modest_games changed.stands.1 changed.stands.2 c budget ids summed

  -- each place behind the move has a value
  pub place_after : (c : Colour) (budget k : ℕ) → k < length present.games.now
      → place_at later k < length (ids_with (game_at present.games.now k) c budget)
  place_after c budget k lt = (have_places changed.stands.1 changed.stands.2 c budget).inside k lt

  pub many_after : length later ≡ length present.games.now
  many_after = (have_places changed.stands.1 changed.stands.2 Black enough).many

  -- and tells who wins
  pub won_after : (c : Colour) (ids : List ℕ) → AreSummed present.games.now later c enough ids → {next : Colour} {b : Bool}
      → next ≡ other present.whole.now.side
      → IsTrue b ↔ WinsGame c next (total (pick present.store.now ids) +ᵍ num 1 (balance x.purses))
      → (m : Move) (t : Whole) → IsChange present m x → IsMove present.whole.now m t → IsTrue b ↔ IsWinner t c
  won_after c ids summed turn answer m t change move =
      let is = change.each t move in
      told present.store.now ids t (turn ∙ sym is.turn) (sym is.purses) answer (wins is.stands.1 is.stands.2 c enough ids summed (omega arith))

-- the side to move wins behind a move exactly where the move wins
pub winning : (s : Whole) (m : Move) {b : Bool} → IsLegal s m → ((t : Whole) → IsMove s m t → IsTrue b ↔ IsWinner t s.side)
    → IsTrue b ↔ IsWinning s m
winning s m (t, move) tells = (
  λ h. elim ((tells t move).0 h) [
    | inl (same, wins) ↦ absurd (other_not s.side (same ∙ move_turn s t m move))
    | inr (same, loses) ↦ (t, move, loses)
  ],
  λ w. (tells w.0 w.1).1 (inr (sym (other_twice s.side) ∙ ap other (sym (move_turn s w.0 m w.1)), w.2)),
)

-- a winning move makes the side to move the winner
pub move_winner : (s : Whole) (m : Move) → IsWinning s m → IsWinner s s.side
move_winner s m (t, move, (n, loses)) = inl (refl, (suc n, (t, (m, move), loses)))

-- where the side to move wins by no other move, the half wins
pub half_last : (s : Whole) → IsWinner s s.side → IsFirstStone s None → ¬ IsWinning s Spend → IsWinning s Half
half_last s winner none spend = elim winner [
  | inl (same, w) ↦ by w.0 w.1
  | inr (same, loses) ↦ absurd (other_not s.side same)
]
  where
    half : (m : Move) → IsWinning s m → IsWinning s Half
    half (Stone q) w = absurd (none q w)
    half Spend w = absurd (spend w)
    half Half w = w

    by : (n : ℕ) → WinsWithin Whole Leads n s → IsWinning s Half
    by zero w = absurd w
    by (suc n) (t, (m, move), loses) = half m (t, move, (n, loses))

-- Looking for the edge of a stone.

-- none of the moves that the first n edges stand for is that of the stone
abbrev pub NoOwnBefore : Region → View → List Edge → Colour → ℕ → ℕ → Type 0
NoOwnBefore r v edges c p n = (j : ℕ) (f : Edge) → j < n → j < length edges → get_or edges j f ≡ f → ¬ IsStoneAt r c p (own v f)

pub no_own_more : (r : Region) (v : View) (edges : List Edge) (c : Colour) (p n : ℕ) → ¬ IsStoneAt r c p (own v (get_or edges n no_edge))
    → NoOwnBefore r v edges c p n → NoOwnBefore r v edges c p (n + 1)
no_own_more r v edges c p n none before j f less short at stone = elim (cases_eq j n) as (λ _. ⊥) [
  | inl same ↦
      none (subst (λ e. IsStoneAt r c p (own v e)) (sym at ∙ get_or_default edges j f no_edge short ∙ ap (λ m. get_or edges m no_edge) same) stone)
  | inr ne ↦ before j f (omega (arith, less, ne)) short at stone
]

-- no edge of the first n regions stands for it
abbrev pub NoEdgeIn : List Region → List RegionGame → List ℕ → Colour → ℕ → ℕ → Type 0
NoEdgeIn regions games places c p n = (k : ℕ) (e : Edge) → k < n → ¬ IsStoneEdge regions games places c p k e

pub no_edges_more : {regions : List Region} {games : List RegionGame} {places : List ℕ} {c : Colour} {p k : ℕ} {r : Region} {edges : List Edge}
    → r ≡ region_at regions k → edges ≡ edges_at (game_at games k).graph.edges (place_at places k)
    → NoEdgeIn regions games places c p k → ((e : Edge) → Contains edges e → ¬ IsStoneAt r c p e) → NoEdgeIn regions games places c p (k + 1)
no_edges_more {regions} {games} {places} {c} {p} {k} {r} {edges} er ee before none j e less x = elim (cases_eq j k) as (λ _. ⊥) [
  | inl same ↦
      let here : IsStoneEdge regions games places c p k e = subst (λ m. IsStoneEdge regions games places c p m e) same x in
      none e (subst (λ es. Contains es e) (sym ee) here.among) (subst (λ z. IsStoneAt z c p e) (sym er) here.stone)
  | inr ne ↦ before j e (omega (arith, less, ne)) x
]

pub edge_found : {regions : List Region} {games : List RegionGame} {places : List ℕ} {c : Colour} {p k : ℕ} {r : Region} {edges : List Edge} (e : Edge)
    → k < length regions → r ≡ region_at regions k → edges ≡ edges_at (game_at games k).graph.edges (place_at places k)
    → Contains edges e × IsStoneAt r c p e → IsStoneEdge regions games places c p k e
edge_found {c = c} {p} e lt er ee (among, stone) = record {
  known = lt;
  stone = subst (λ z. IsStoneAt z c p e) er stone;
  among = subst (λ es. Contains es e) ee among;
}

-- what stands behind a change, and behind a move that changes nothing
pub behind_change : (present : Present) (seen : IsSeen present) (x : Change) (m : Move) → IsChange present m x → IsBehind present m x.stone
behind_change present seen x m change = record {
  stands = λ t move. (change.each t move).stands;
  grown = λ t move c. subst (λ z. purse c z ≤ purse c present.whole.now.purses + 33) (sym (change.each t move).purses) (change.grown c);
  still = λ not. absurd (not change.legal);
  known = within x.stone change.known;
}
  where
    within : (stone : Option (ℕ × ℕ)) → IfSome stone (λ y. y.0 < length present.regions.now) → IfSome stone (λ y. y.0 < length present.places.now)
    within None known = tt
    within (Some y) known = omega (arith, known, seen.at.many)

pub behind_none : (present : Present) (seen : IsSeen present) (m : Move) → ¬ IsLegal present.whole.now m → IsBehind present m None
behind_none present seen m not = record {
  stands = λ t move. absurd (not (t, move));
  grown = λ t move c. absurd (not (t, move));
  still = λ _. refl;
  known = tt;
}

-- What was put into the sum is put back.
pub restored : (before : Option (ℕ × ℕ)) (a b c d : List ℕ) → MatchOption before (b ≡ a) (λ x. set b x.0 x.1 ≡ a) → c ≡ b
    → MatchOption before (d ≡ c) (λ x. d ≡ set c x.0 x.1) → d ≡ a
restored None a b c d put same back = back ∙ same ∙ put
restored (Some x) a b c d put same back = back ∙ ap (λ z. set z x.0 x.1) same ∙ put

-- a stone's place has a value
pub stone_place : (present : Present) (x : Change) → IsSomeChange present x → {k i : ℕ} → x.stone ≡ Some (k, i) → k < length present.games.now
    → k < length present.places.now → (c : Colour) (budget : ℕ) → i < length (ids_with (game_at present.games.now k) c budget)
stone_place present x some {k} {i} is known inside c budget =
    let within = place_after present x some c budget k known in
    let there : place_at (places_after present.places.now x.stone) k ≡ i =
    ap (λ o. place_at (places_after present.places.now o) k) is ∙ get_or-set_same present.places.now k i 0 inside in
    omega (arith, within, there)

-- the stone's region is one of the regions
pub stone_known : (present : Present) (x : Change) → IsSomeChange present x → {k i : ℕ} → x.stone ≡ Some (k, i) → k < length present.regions.now
stone_known present x some is = subst (λ o. IfSome o (λ y. y.0 < length present.regions.now)) is some.1.known

pub stone_inside : (present : Present) → IsSeen present → (x : Change) → IsSomeChange present x → {k i : ℕ} → x.stone ≡ Some (k, i) → (c : Colour) (budget : ℕ)
    → i < length (ids_with (game_at present.games.now k) c budget)
stone_inside present seen x some {k} is c budget =
    let known = stone_known present x some is in
    stone_place present x some is (omega (arith, known, seen.solved.many)) (omega (arith, known, seen.at.many)) c budget

pub stone_in_sum : (present : Present) → IsSeen present → (x : Change) → IsSomeChange present x → {k i : ℕ} → x.stone ≡ Some (k, i) → {c : Colour} {ids : List ℕ}
    → AreSummed present.games.now present.places.now c enough ids → k < length ids
stone_in_sum present seen x some {k} is summed =
    let known = stone_known present x some is in
    omega (arith, known, seen.solved.many, summed.many)

-- the sum with the value that the stone leads to
pub summed_stone : (present : Present) → IsSeen present → (x : Change) → IsSomeChange present x → {k i v : ℕ} → x.stone ≡ Some (k, i) → (c : Colour)
    → {ids : List ℕ} → AreSummed present.games.now present.places.now c enough ids → v ≡ get_or (ids_with (game_at present.games.now k) c enough) i 0
    → AreSummed present.games.now (places_after present.places.now x.stone) c enough (set ids k v)
summed_stone present seen x some {k} {i} {v} is c {ids} summed value =
    let known = stone_known present x some is in
    subst (λ o. AreSummed present.games.now (places_after present.places.now o) c enough (set ids k v)) (sym is)
    (summed_put k i v (omega (arith, known, seen.at.many)) (omega (arith, known, seen.solved.many)) summed (λ j ne. refl) value)

-- no move wins exactly where the side to move isn't the winner
pub none_winner : (s : Whole) (m : Option Move) → IsFirstWinning s m → (m ≡ None) ↔ (¬ IsWinner s s.side)
none_winner s None none = (
  λ _ winner. elim winner [
    | inl (same, w) ↦ by w.0 w.1
    | inr (same, loses) ↦ other_not s.side same
  ],
  λ _. refl,
)
  where
    by : (n : ℕ) → WinsWithin Whole Leads n s → ⊥
    by zero w = w
    by (suc n) (t, (m, move), loses) = none m (t, move, (n, loses))
none_winner s (Some m) first = (λ e. absurd (cc), λ not. absurd (not (move_winner s m first.0)))
