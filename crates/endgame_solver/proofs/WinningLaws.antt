-- Who wins the present state, and by which moves; and that what is read of the graphs and the values in the book is what they are.
use Rattle.std.proofs.Common.{ℕ, zero, suc, ◌≡◌, ◌≢◌, ◌↔◌, ◌+◌, ◌*ℤ◌, ◌^◌, ◌<◌, ◌≤◌, ℤ, pos, inl, inr, refl, sym, ap, ◌∙◌, subst, arith, List, [], length, get_or, set, map, Bool, IsTrue, Option, Some, None, Contains, Ok}
use Rattle.std.proofs.lemmas.Bool.{cases_eq, cases_lt}
use Rattle.std.proofs.lemmas.List.{ext_get_or, get_or-map, get_or_default, length-map}
use Rattle.go_grid.specs.declared.grid.Colour.{Colour}
use Rattle.go_grid.specs.declared.grid.Colour.TheVariants.{Black, White}
use Rattle.go_grid.specs.Board.{other, stone}
use Rattle.go_grid.proofs.BoardLemmas.{not_other}
use Rattle.go_grid.specs.Region.{Region}
use Rattle.whole_rules.specs.declared.money.Purses.{Purses}
use Rattle.whole_rules.specs.declared.money.Token.TheVariants.{Nobody}
use Rattle.whole_rules.specs.declared.states.Move.{Move}
use Rattle.whole_rules.specs.declared.states.Move.TheVariants.{Stone, Spend, Half}
use Rattle.whole_rules.specs.FirstWinningMove.{IsFirstWinning, IsWinner, IsWinning}
use Rattle.whole_rules.specs.PlainRecursion.{WinsWithin, MoverLoses, MoverWins}
use Rattle.whole_rules.specs.Purses.{purse, paid_in, paid_out, halved}
use Rattle.whole_rules.specs.WholeGame.{Whole, IsLegal, IsMove, Leads, after, rank}
use Rattle.whole_rules.proofs.OutcomeLaws.{wins-not_loses}
use Rattle.local_graph.specs.declared.graph.Edge.{Edge}
use Rattle.local_graph.specs.Graph.{Graph}
use Rattle.local_graph.specs.inner.Graph.{edges_at, no_edge}
use Rattle.short_games.specs.Tree.{Tree}
use Rattle.game_store.specs.Meaning.{pick, AreIds}
use Rattle.game_players.specs.Players.{LosesGame}
use Rattle.sum_outcome.specs.Sums.{IsBounded, sum_tree}
use Rattle.endgame_solver.specs.Regions.{IsStoneAt, region_at}
use Rattle.endgame_solver.specs.Solved.{ArePresent, balance_units}
use Rattle.endgame_solver.specs.SumGame.{AreModest, balance}
use Rattle.endgame_solver.specs.inner.Held.{AreSolvedAt, HasRoom, IsFirstStone, IsStoneEdge, ids_at, place_at}
use Rattle.endgame_solver.specs.inner.Sharing.{AreSharedBy}
use Rattle.endgame_solver.specs.inner.Views.{HasGraph, HasValue, IsHeldInBook, ShowsAll, ShowsPlaces, own, seen_graph, seen_ids, view_at}
use Rattle.endgame_solver.specs.Limits.{Limits}
use Rattle.endgame_solver.specs.declared.view_book.Book.{Book}
use Rattle.endgame_solver.specs.declared.views.View.{View}
use Rattle.endgame_solver.proofs.BookkeepingLaws.{own-less, paid-in}
use Rattle.endgame_solver.proofs.HeldLaws.{decided, fits, kept_applied, kept_stone, present, stone_leads, stone_legal, stone_next, stone_taken}

modest : {m : Purses} → ((c : Colour) → purse c m ≤ 2 ^ 42) → AreModest m
modest small = record { black = small Black; white = small White }

-- purses of at most 2 ^ 41 stay modest
module _ {graphs : List Graph} {places : List ℕ} {s : Whole} (room : HasRoom graphs places s) where
  modest_paid : (c : Colour) (n : ℕ) → n < 256 → AreModest (paid_in c n s.purses)
  modest_paid c n few = modest (λ d. omega (arith, few, room.room d, paid-in d c n s.purses, own-less d c n))

  modest_spent : (c : Colour) → AreModest (paid_out c s.purses)
  modest_spent Black = record { black = omega (arith, room.room Black); white = omega (arith, room.room White) }
  modest_spent White = record { black = omega (arith, room.room Black); white = omega (arith, room.room White) }

-- where the player to move loses no move wins
pub loses_none : (s : Whole) → MoverLoses Whole Leads s → IsFirstWinning s None
loses_none s loses m w = wins-not_loses Whole Leads (suc w.2.0) loses.0 s (w.0, (m, w.1), w.2.1) loses.1

-- a legal move wins where each state that it leads to is lost
wins_by : (s : Whole) {b : Bool} (m : Move) → IsLegal s m → ((t : Whole) → IsMove s m t → IsTrue b ↔ MoverLoses Whole Leads t)
    → IsTrue b ↔ IsWinning s m
wins_by s m (t, move) lost = (λ h. (t, move, (lost t move).0 h), λ w. (lost w.0 w.1).1 w.2)

-- Who wins the present state.
module _ {regions : List Region} {graphs : List Graph} {values : List (List ℕ)} {places ids : List ℕ} {Ts : List Tree} {s : Whole}
    (kept : AreSolvedAt regions graphs values places ids Ts s) where
  now : ArePresent (record { regions = regions; trees = Ts; state = s }) ids
  now = present kept.solved kept.at ids kept.summed

  -- the player to move loses where a search of the sum says so
  pub by_search : {c : Colour} {m : Purses} {x : ℤ} {b : Bool} → c ≡ s.side → m ≡ s.purses → x ≡ balance m *ℤ pos (2 ^ 59)
      → IsTrue b ↔ LosesGame c (sum_tree Ts ids x) → IsTrue b ↔ MoverLoses Whole Leads s
  by_search {b = b} side purses number answer =
      let d = (decided kept.solved kept.at ids now).1 in
      let units = number ∙ ap (λ z. balance z *ℤ pos (2 ^ 59)) purses in
      let same = subst (λ T. IsTrue b ↔ T) (λ i. LosesGame (side i) (sum_tree Ts ids (units i))) answer in
      (λ h. d.1 (same.0 h), λ h. same.1 (d.0 h))

  pub mover_wins : ¬ MoverLoses Whole Leads s → MoverWins Whole Leads s
  mover_wins not = elim (decided kept.solved kept.at ids now).0 [
    | inl wins ↦ wins
    | inr loses ↦ absurd (not loses)
  ]

  -- any ids of the present values tell the winner
  pub winner_by_sum : {c : Colour} → IsWinner s c → (others : List ℕ)
      → ArePresent (record { regions = regions; trees = Ts; state = s }) others
      → c ≡ other s.side ↔ LosesGame s.side (sum_tree Ts others (balance_units s))
  winner_by_sum winner others there =
      let d = (decided kept.solved kept.at others there).1 in
      elim winner [
        | inl (is, wins) ↦ (
          λ e. absurd (not_other s.side (ap stone (sym is ∙ e))),
          λ h. let l = d.1 h in absurd (wins-not_loses Whole Leads wins.0 l.0 s wins.1 l.1),
        )
        | inr (is, loses) ↦ (λ _. d.0 loses, λ _. is)
      ]

  wins_none : (n : ℕ) → WinsWithin Whole Leads n s → ((m : Move) → ¬ IsWinning s m) → ⊥
  wins_none zero w none = w
  wins_none (suc n) (t, (m, move), loses) none = none m (t, move, (n, loses))

  -- no move wins exactly where the player to move loses
  pub none_loses : (m : Option Move) → IsFirstWinning s m → (m ≡ None) ↔ MoverLoses Whole Leads s
  none_loses None first = (
    λ _. elim (decided kept.solved kept.at ids now).0 [
      | inl wins ↦ absurd (wins_none wins.0 wins.1 first)
      | inr loses ↦ loses
    ],
    λ _. refl,
  )
  none_loses (Some m) first = (λ e. absurd (cc), λ loses. absurd (loses_none s loses m first.0))

  -- where the player to move wins by no other move, the half wins: it may be moved exactly where there is a token
  pub last_wins : ¬ MoverLoses Whole Leads s → IsFirstStone s None → ¬ IsWinning s Spend → IsWinning s Half
  last_wins not none spend = let w = mover_wins not in by w.0 w.1
    where
      half : (m : Move) → IsWinning s m → IsWinning s Half
      half (Stone q) w = absurd (none q w)
      half Spend w = absurd (spend w)
      half Half w = w

      by : (n : ℕ) → WinsWithin Whole Leads n s → IsWinning s Half
      by zero w = absurd w
      by (suc n) (t, (m, move), loses) = half m (t, move, (n, loses))

-- a move on the purses and the token wins where the sum is then lost
money_wins : {regions : List Region} {graphs : List Graph} {values : List (List ℕ)} {places ids : List ℕ} {Ts : List Tree}
    {c : Colour} {m : Purses} {x : ℤ} {b : Bool} (s : Whole) (move : Move) (ms : Purses) → IsLegal s move
    → ((t : Whole) → IsMove s move t → AreSolvedAt regions graphs values places ids Ts t × (t ≡ after s.board ms s))
    → c ≡ other s.side → m ≡ ms → x ≡ balance m *ℤ pos (2 ^ 59) → IsTrue b ↔ LosesGame c (sum_tree Ts ids x) → IsTrue b ↔ IsWinning s move
money_wins s move ms legal each side purses number answer = wins_by s move legal (λ t m.
    let (later, is) = each t m in
    by_search later (side ∙ sym (ap (λ z. z.side) is)) (purses ∙ sym (ap (λ z. z.purses) is)) number answer)

module _ {regions : List Region} {graphs : List Graph} {values : List (List ℕ)} {places ids : List ℕ} {Ts : List Tree} {s : Whole}
    (kept : AreSolvedAt regions graphs values places ids Ts s) where
  half_legal : s.purses.token ≢ Nobody → IsLegal s Half
  half_legal some = (after s.board (halved s.side s.purses) s, (some, refl))

  half_kept : (t : Whole) → IsMove s Half t → AreSolvedAt regions graphs values places ids Ts t
  half_kept t m = kept_applied kept Half (λ p e. cc) t (Ok tt) m

  -- the purses stay modest after a move on the token
  pub half_modest : {m : Purses} → s.purses.token ≢ Nobody → m ≡ halved s.side s.purses → AreModest m
  half_modest some is = let room = (half_kept (after s.board (halved s.side s.purses) s) (some, refl)).room.room in
      subst AreModest (sym is) (modest (λ c. omega (arith, room c)))

  module _ {c : Colour} {m : Purses} {x : ℤ} {b : Bool} (side : c ≡ other s.side) where
    pub spend_wins : 1 ≤ purse s.side s.purses → m ≡ paid_out s.side s.purses → x ≡ balance m *ℤ pos (2 ^ 59)
        → IsTrue b ↔ LosesGame c (sum_tree Ts ids x) → IsTrue b ↔ IsWinning s Spend
    spend_wins some purses number answer = money_wins s Spend (paid_out s.side s.purses) (after s.board (paid_out s.side s.purses) s, (some, refl))
        (λ t move. (kept_applied kept Spend (λ p e. cc) t (Ok tt) move, move.1)) side purses number answer

    pub half_wins : s.purses.token ≢ Nobody → m ≡ halved s.side s.purses → x ≡ balance m *ℤ pos (2 ^ 59)
        → IsTrue b ↔ LosesGame c (sum_tree Ts ids x) → IsTrue b ↔ IsWinning s Half
    half_wins some purses number answer = money_wins s Half (halved s.side s.purses) (half_legal some)
        (λ t move. (half_kept t move, move.1)) side purses number answer

-- Looking for the edge of a stone, and for the first stone that wins.

-- none of the first n edges stands for a move of the stone
abbrev pub NoneBefore : Region → View → List Edge → Colour → ℕ → ℕ → Type 0
NoneBefore r v edges c p n = (j : ℕ) (f : Edge) → j < n → j < length edges → get_or edges j f ≡ f → ¬ IsStoneAt r c p (own v f)

-- no edge of the first n regions is the stone's
abbrev pub NoneIn : List Region → Book → List ℕ → Colour → ℕ → ℕ → Type 0
NoneIn regions book places c p n = (graphs : List Graph) (values : List (List ℕ)) → ShowsAll book graphs values (length regions)
    → (k : ℕ) (e : Edge) → k < n → ¬ IsStoneEdge regions graphs places c p k e

pub none_before_more : (r : Region) (v : View) (edges : List Edge) (c : Colour) (p n : ℕ) → ¬ IsStoneAt r c p (own v (get_or edges n no_edge))
    → NoneBefore r v edges c p n → NoneBefore r v edges c p (n + 1)
none_before_more r v edges c p n none before j f less short at stone = elim (cases_eq j n) as (λ _. ⊥) [
  | inl same ↦ none (subst (λ x. IsStoneAt r c p (own v x)) (sym at ∙ get_or_default edges j f no_edge short ∙ ap (λ m. get_or edges m no_edge) same) stone)
  | inr ne ↦ before j f (omega (arith, less, ne)) short at stone
]

-- no stone below n wins
abbrev pub NoStone : Whole → ℕ → Type 0
NoStone s n = (q : ℕ) → q < n → ¬ IsWinning s (Stone q)

-- a stone that wins is on the board
pub no_stone_end : (s : Whole) (n : ℕ) → length s.board.cells ≤ n → NoStone s n → IsFirstStone s None
no_stone_end s n le none q (t, (mark, (h, (k, placed, number, is))), lost) = none q (omega (arith, placed.1.place, le)) (t, (mark, (h, (k, placed, number, is))), lost)

-- the first winning move, by the stones, the point spent and the half
pub first_stone : (s : Whole) (p : ℕ) → IsFirstStone s (Some p) → IsFirstWinning s (Some (Stone p))
first_stone s p w = (w.1, λ m x. least m x)
  where
    least : (m : Move) → IsWinning s m → p ≤ rank m
    least (Stone q) x = elim (cases_lt q p) as (λ _. p ≤ q) [
      | inl lt ↦ absurd (w.2 q lt x)
      | inr ge ↦ omega (arith, ge)
    ]
    least Spend x = omega (arith, w.0)
    least Half x = omega (arith, w.0)

pub first_spend : (s : Whole) → IsFirstStone s None → IsWinning s Spend → IsFirstWinning s (Some Spend)
first_spend s none w = (w, λ m x. least m x)
  where
    least : (m : Move) → IsWinning s m → 625 ≤ rank m
    least (Stone q) x = absurd (none q x)
    least Spend x = omega arith
    least Half x = omega arith

pub first_half : (s : Whole) → IsFirstStone s None → ¬ IsWinning s Spend → IsWinning s Half → IsFirstWinning s (Some Half)
first_half s none not w = (w, λ m x. least m x)
  where
    least : (m : Move) → IsWinning s m → 626 ≤ rank m
    least (Stone q) x = absurd (none q x)
    least Spend x = absurd (not x)
    least Half x = omega arith

-- the next region's edges, as the code reads them
module _ {regions : List Region} (book : Book) {places : List ℕ} (c : Colour) (p : ℕ) {k : ℕ} {r : Region} {v : View} {edges : List Edge}
    (lt : k < length regions)
    (er : r ≡ region_at regions k) (ev : v ≡ view_at book.views.items k) (ee : edges ≡ edges_at (seen_graph book k).edges (place_at places k)) where
  pub none_more : NoneIn regions book places c p k → ((f : Edge) → Contains edges f → ¬ IsStoneAt r c p (own v f))
      → NoneIn regions book places c p (k + 1)
  none_more before none graphs values shows j e less x = elim (cases_eq j k) as (λ _. ⊥) [
    | inl same ↦
        let here : IsStoneEdge regions graphs places c p k e = subst (λ m. IsStoneEdge regions graphs places c p m e) same x in
        let (f, among, is) = ((shows.each k lt).seen.moves (place_at places k) e).0 here.edge.among in
        none f (subst (λ es. Contains es f) (sym ee) among)
        (subst (λ T. T) (λ i. IsStoneAt (sym er i) c p (own (sym ev i) f)) (subst (IsStoneAt (region_at regions k) c p) is here.edge.stone))
    | inr ne ↦ before graphs values shows j e (omega (arith, less, ne)) x
  ]

  pub some_found : (e : Edge) → (f : Edge) × Contains edges f × (e ≡ own v f) × IsStoneAt r c p e
      → (graphs : List Graph) (values : List (List ℕ)) → ShowsAll book graphs values (length regions) → IsStoneEdge regions graphs places c p k e
  some_found e (f, among, is, stone) graphs values shows = record {
    known = lt;
    edge = record {
      stone = subst (λ s. IsStoneAt s c p e) er stone;
      among = ((shows.each k lt).seen.moves (place_at places k) e).1 (f, subst (λ es. Contains es f) ee among, is ∙ ap (λ w. own w f) ev);
    };
  }

-- What is read of a region's graph and values in the book is what they are.

-- the same edge of lists that are equal
edge_seen : {rs rs' : List Region} {ps ps' : List ℕ} {c c' : Colour} (gs : List Graph) (p k : ℕ) (e : Edge) → rs ≡ rs' → ps ≡ ps' → c ≡ c'
    → IsStoneEdge rs gs ps c p k e → IsStoneEdge rs' gs ps' c' p k e
edge_seen gs p k e r l d x = subst (λ T. T) (λ i. IsStoneEdge (r i) gs (l i) (d i) p k e) x

-- each region's opening has a value
pub openings_known : (limits : Limits) (regions : List Region) (book : Book) (Ts : List Tree) → AreSharedBy limits regions book Ts → (k : ℕ)
    → k < length book.views.items → HasValue book k 0
openings_known limits regions book Ts s k lt =
    let short : k < length regions = omega (arith, lt, s.views_are.many) in
    let w = s.views_are.each k short in
    let solved = s.solved.each k short in
    record { view = lt; values = w.values; place = omega (arith, ap length w.same, solved.values.long, solved.graph.graph.graph.some) }

-- the values of the openings
pub sum_is : (book : Book) (graphs : List Graph) (values : List (List ℕ)) (n : ℕ) (sum : List ℕ) → ShowsAll book graphs values n → length values ≡ n
    → length sum ≡ length book.views.items → ((k : ℕ) → k < length book.views.items → get_or sum k 0 ≡ get_or (seen_ids book k) 0 0)
    → sum ≡ map (λ ids. get_or ids 0 0) values
sum_is book graphs values n sum shows many long each = ext_get_or 0 sum (map (λ ids. get_or ids 0 0) values) (omega (arith, long, many, shows.many, length-map values (λ ids. get_or ids 0 0))) (λ k lt.
    let short : k < n = omega (arith, lt, long, shows.many) in
    each k (omega (arith, lt, long)) ∙ ap (λ ids. get_or ids 0 0) (shows.each k short).same
    ∙ sym (get_or-map (λ ids. get_or ids 0 0) values k [] 0 (omega (arith, short, many))))

module _ {regions : List Region} {book : Book} {places ids : List ℕ} {Ts : List Tree} {s : Whole} (held : IsHeldInBook regions book places ids Ts s) where
  -- another state that keeps as much
  pub held_as : {places' ids' : List ℕ} {t : Whole} → AreSolvedAt regions held.graphs held.values places' ids' Ts t
      → IsHeldInBook regions book places' ids' Ts t
  held_as kept = record { graphs = held.graphs; values = held.values; views_are = held.views_are; shapes = held.shapes; kept = kept }

  -- the same of lists that are lent
  pub held_lent : {regions' : List Region} {places' ids' : List ℕ} → regions' ≡ regions → places' ≡ places → ids' ≡ ids
      → IsHeldInBook regions' book places' ids' Ts s
  held_lent er ep ei = subst (λ T. T) (λ i. IsHeldInBook (sym er i) book (sym ep i) (sym ei i) Ts s) held

  pub shows_places : {rs : List Region} {ps : List ℕ} → rs ≡ regions → ps ≡ places → ShowsPlaces rs book ps
  shows_places lent at = subst (λ T. T) (λ i. ShowsPlaces (sym lent i) book (sym at i)) record {
    graphs = held.graphs;
    values = held.values;
    views_are = held.views_are;
    places_are = record {
      many_graphs = held.kept.solved.cut.many;
      many_places = held.kept.at.many;
      inside = λ k lt. (held.kept.at.shown k lt).1.at.inside;
    };
  }

  -- what may be asked of the book, and what the region's view shows
  pub has_graph : {k : ℕ} → k < length regions → HasGraph book k
  has_graph {k} lt = record { view = omega (arith, lt, held.views_are.many); graph = (held.views_are.each k lt).graph }

  pub has_value : {k : ℕ} (i : ℕ) → k < length regions → i < length (ids_at held.values k) → HasValue book k i
  has_value {k} i lt short =
      let w = held.views_are.each k lt in
      record { view = omega (arith, lt, held.views_are.many); values = w.values; place = omega (arith, short, ap length w.same) }

  pub ids_seen : {k : ℕ} → k < length regions → seen_ids book k ≡ ids_at held.values k
  ids_seen {k} lt = (held.views_are.each k lt).same

  -- the purses are modest, after a point is given back too; and beside modest ones the sum is bounded
  pub held_modest : {m : Purses} → m ≡ s.purses → AreModest m
  held_modest is = subst AreModest (sym is) (modest (λ c. omega (arith, held.kept.room.room c)))

  pub held_spent : {m : Purses} (c : Colour) → m ≡ paid_out c s.purses → AreModest m
  held_spent c is = subst AreModest (sym is) (modest_spent held.kept.room c)

  pub held_bounds : {m : Purses} {x : ℤ} → AreModest m → x ≡ balance m *ℤ pos (2 ^ 59) → IsBounded (pick Ts ids) x
  held_bounds {m} modest number = subst (IsBounded (pick Ts ids)) (sym number) (fits held.kept.solved held.kept.at ids held.kept.summed m modest)

-- a stone that the book shows: what may be asked of the book for it, and what it leaves
module _ {regions rs : List Region} {book : Book} {places ps ids : List ℕ} {Ts : List Tree} {s : Whole} (held : IsHeldInBook regions book places ids Ts s)
    (lent : rs ≡ regions) (at : ps ≡ places) {d : Colour} (side : d ≡ s.side) where
  shows_lent : ShowsAll book held.graphs held.values (length rs)
  shows_lent = subst (λ xs. ShowsAll book held.graphs held.values (length xs)) (sym lent) held.views_are

  pub stone_none : {p : ℕ} → ((graphs : List Graph) (values : List (List ℕ)) → ShowsAll book graphs values (length rs) → (k : ℕ) (e : Edge)
      → ¬ IsStoneEdge rs graphs ps d p k e)
      → (k : ℕ) (e : Edge) → ¬ IsStoneEdge regions held.graphs places s.side p k e
  stone_none {p} none k e x = none held.graphs held.values shows_lent k e (edge_seen held.graphs p k e (sym lent) (sym at) (sym side) x)

  module _ {p k : ℕ} {e : Edge} (found : (graphs : List Graph) (values : List (List ℕ)) → ShowsAll book graphs values (length rs)
      → IsStoneEdge rs graphs ps d p k e) where
    pub stone_seen : IsStoneEdge regions held.graphs places s.side p k e
    stone_seen = edge_seen held.graphs p k e lent at side (found held.graphs held.values shows_lent)

    pub stone_has : HasValue book k e.next
    stone_has =
        let x = stone_seen in
        has_value held e.next x.known (omega (arith, stone_next held.kept.solved held.kept.at x, (held.kept.solved.valued k x.known).long))

    pub stone_modest : {n : ℕ} {m : Purses} → n ≡ e.taken → m ≡ paid_in d n s.purses → AreModest m
    stone_modest {n} {m} taken paid =
        let few = stone_taken held.kept.solved held.kept.at stone_seen in
        subst AreModest (sym paid) (modest_paid held.kept.room d n (omega (arith, taken, few)))

    module _ {v : ℕ} (value : v ≡ get_or (seen_ids book k) e.next 0) where
      -- the game after it
      pub stone_kept : (t : Whole) → IsMove s (Stone p) t → AreSolvedAt regions held.graphs held.values (set places k e.next) (set ids k v) Ts t
      stone_kept t m = kept_stone held.kept t stone_seen (value ∙ ap (λ z. get_or z e.next 0) (ids_seen held stone_seen.known)) m

      pub stone_held : (t : Whole) → IsMove s (Stone p) t → IsHeldInBook regions book (set places k e.next) (set ids k v) Ts t
      stone_held t m = held_as held (stone_kept t m)

      pub stone_is_legal : IsLegal s (Stone p)
      stone_is_legal = stone_legal held.kept.solved held.kept.at stone_seen

      pub stone_known : AreIds Ts (set ids k v)
      stone_known j lt = let w = stone_kept stone_is_legal.0 stone_is_legal.1 in ((now w).each j (omega (arith, lt, w.summed.many))).2.0

      module _ {n : ℕ} {m : Purses} {x : ℤ} (taken : n ≡ e.taken) (paid : m ≡ paid_in d n s.purses)
          (number : x ≡ balance m *ℤ pos (2 ^ 59)) where
        pub stone_bounds : IsBounded (pick Ts (set ids k v)) x
        stone_bounds = held_bounds (stone_held stone_is_legal.0 stone_is_legal.1) (stone_modest taken paid) number

        pub stone_wins : {b : Bool} {o : Colour} → o ≡ other d → IsTrue b ↔ LosesGame o (sum_tree Ts (set ids k v) x)
            → IsTrue b ↔ IsWinning s (Stone p)
        stone_wins turn answer = wins_by s (Stone p) stone_is_legal (λ t move.
            let leads = stone_leads held.kept.solved held.kept.at t stone_seen move in
            let purses = paid ∙ (λ i. paid_in (side i) (taken i) s.purses) ∙ sym leads.purses in
            by_search (stone_kept t move) (turn ∙ ap other side ∙ sym leads.turn) purses number answer)
