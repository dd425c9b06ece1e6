-- Regions are solved one after the other, each by the game of the first that has its shape.
use Rattle.std.proofs.Common.{ℕ, All, suc, ◌≡◌, ◌+◌, ◌-◌, ◌<◌, ◌≤◌, arith, inl, inr, min, refl, sym, ap, ◌∙◌, subst, Bool, true, false, List, [], ◌∷◌, ◌++◌, map, length, get_or, Contains, IsTrue, MatchOption, Option, Some, None}
use Rattle.std.proofs.lemmas.Bool.{cases_lt}
use Rattle.std.proofs.lemmas.List.{get_or_append_left, get_or_default, get_or-map, get_or_past, get_or_push, length-append, length-map, length_push, map-append}
use Rattle.std.proofs.lemmas.List.Elements.{Contains-push_cases}
use Rattle.go_grid.specs.declared.grid.Colour.{Colour}
use Rattle.go_grid.specs.Region.{Region, IsRegion}
use Rattle.region_book.specs.Image.{IsShape}
use Rattle.region_book.specs.Law.{Meet, differ}
use Rattle.region_book.specs.Shape.{Carries, colour_after}
use Rattle.region_book.specs.declared.shapes.Turn.{Turn}
use Rattle.region_book.specs.declared.spots.Spot.{Spot}
use Rattle.region_book.specs.declared.symmetry.Symmetry.{Symmetry}
use Rattle.region_book.proofs.ShapeLaws.{pairs_places}
use Rattle.local_play.proofs.LinkLemmas.{links_within}
use Rattle.short_games.specs.Tree.{Tree}
use Rattle.game_store.specs.Forms.{HaveForms}
use Rattle.game_store.specs.Meaning.{Extends}
use Rattle.game_canon.proofs.ChangedIdLaws.{extends-on}
use Rattle.local_graph.specs.declared.graph.Edge.{Edge}
use Rattle.local_graph.specs.inner.Graph.{edges_at}
use Rattle.endgame_solver.specs.Regions.{IsStoneAt, region_at}
use Rattle.endgame_solver.specs.ShapeValues.{AreLinked}
use Rattle.endgame_solver.specs.Limits.{Limits}
use Rattle.endgame_solver.specs.inner.Sharing.{AreNegatives}
use Rattle.endgame_solver.proofs.CarriedLaws.{Matched, link_in}
use Rattle.cycle_solver.specs.declared.book.Book.{Book}
use Rattle.cycle_solver.specs.declared.region_game.RegionGame.{RegionGame}
use Rattle.cycle_solver.specs.declared.shapes.Kind.{Kind}
use Rattle.cycle_solver.specs.declared.views.View.{View}
use Rattle.cycle_solver.specs.GameLists.{game_at, layers_for, no_game}
use Rattle.cycle_solver.specs.Games.{AreSolvedBelow, IsSolvedBy}
use Rattle.cycle_solver.specs.Held.{ids_with}
use Rattle.cycle_solver.specs.Turned.{id_after, layers_after, negative_in, or_zero, own, own_edges, own_game, own_graph, own_number, shown}
use Rattle.cycle_solver.specs.inner.Shared.{AreKinds, AreLayersOfIds, AreNoted, AreNotedBy, HasShapeAt, IsKind, IsNoted, IsViewFor, KeepsNotes, SharesBelow}
use Rattle.cycle_solver.proofs.GameLaws.{game_later, none_solved, one_more}
use Rattle.cycle_solver.proofs.NoteLaws.{all_noted-on}
use Rattle.cycle_solver.proofs.OwnGameLaws.{ids_own, layers_own, own_solved}
use Rattle.cycle_solver.proofs.OwnGraphLaws.{own_from, own_has}

-- What is shown stays as it was while games and notes are added.

-- functions that agree on a list map it alike
map_same : {X Y : Type 0} (f g : X → Y) (xs : List X) → ((x : X) → Contains xs x → f x ≡ g x) → map f xs ≡ map g xs
map_same f g [] same = refl
map_same f g (x ∷ xs) same =
    let first = same x (0, omega arith, refl) in
    let rest = map_same f g xs (λ y (i, lt, is). same y (suc i, omega (arith, lt), is)) in
    λ i. first i ∷ rest i

-- ids whose negatives are noted
noted_same : (known after : List (Option ℕ)) (id : ℕ) → IsNoted known id → KeepsNotes known after → negative_in after id ≡ negative_in known id
noted_same known after id (turned, is) keeps = ap or_zero (keeps id turned is) ∙ sym (ap or_zero is)

layers_same : (colours : Bool) (known after : List (Option ℕ)) (layers : List (List ℕ)) → (IsTrue colours → AreNoted known layers) → KeepsNotes known after
    → layers_after colours after layers ≡ layers_after colours known layers
layers_same false known after layers noted keeps = refl
layers_same true known after layers noted keeps =
    map_same (map (id_after true after)) (map (id_after true known)) layers (λ ids (j, lt, is).
    map_same (id_after true after) (id_after true known) ids (λ id (i, short, there).
    let same : get_or layers j [] ≡ ids = get_or_default layers j [] ids lt ∙ is in
    let here : get_or (get_or layers j []) i 0 ≡ id = ap (λ z. get_or z i 0) same ∙ get_or_default ids i 0 id short ∙ there in
    let inside : i < length (get_or layers j []) = omega (arith, short, ap (λ (z : List ℕ). length z) same) in
    noted_same known after id (subst (IsNoted known) here (noted refl j lt i inside)) keeps))

game_same : (v : View) (known after : List (Option ℕ)) (game : RegionGame) → (IsTrue v.colours → (c : Colour) → AreNoted known (layers_for game c))
    → KeepsNotes known after → own_game after v game ≡ own_game known v game
game_same v known after game noted keeps =
    let black = layers_same v.colours known after _ (λ t. noted t _) keeps in
    let white = layers_same v.colours known after _ (λ t. noted t _) keeps in
    λ i. record { graph = own_graph v game.graph; black = black i; white = Some (white i) }

-- the games of a book to which games and notes are added
pub shown_later : (book after : Book) (Ts : List Tree) → AreNotedBy book Ts → after.views.items ≡ book.views.items → (more : List RegionGame)
    → after.games.items ≡ book.games.items ++ more → KeepsNotes book.negatives.items after.negatives.items → shown after ≡ shown book
shown_later book after Ts s views more grown keeps =
    ap (map (λ v. own_game after.negatives.items v (game_at after.games.items v.game))) views
    ∙ map_same (λ v. own_game after.negatives.items v (game_at after.games.items v.game)) (λ v. own_game book.negatives.items v (game_at book.games.items v.game))
    book.views.items (λ v among.
    let same : game_at after.games.items v.game ≡ game_at book.games.items v.game =
    ap (λ games. game_at games v.game) grown ∙ get_or_append_left book.games.items more no_game v.game (s.inside v among) in
    ap (own_game after.negatives.items v) same ∙ game_same v book.negatives.items after.negatives.items (game_at book.games.items v.game) (s.noted v among) keeps)

-- what is known of the notes of a book to which notes are added
pub notes_later : (book after : Book) (Ts Us : List Tree) → AreNotedBy book Ts → after.views.items ≡ book.views.items → (more : List RegionGame)
    → after.games.items ≡ book.games.items ++ more → KeepsNotes book.negatives.items after.negatives.items → AreNegatives Us after.negatives.items
    → AreNotedBy after Us
notes_later book after Ts Us s views more grown keeps right = record {
  inside = λ v among.
      let lt = s.inside v (subst (λ vs. Contains vs v) views among) in
      omega (arith, lt, ap (λ (z : List RegionGame). length z) grown, length-append book.games.items more);
  noted = λ v among exchanged c.
      let there = subst (λ vs. Contains vs v) views among in
      let same : game_at after.games.items v.game ≡ game_at book.games.items v.game =
      ap (λ games. game_at games v.game) grown ∙ get_or_append_left book.games.items more no_game v.game (s.inside v there) in
      subst (λ game. AreNoted after.negatives.items (layers_for game c)) (sym same)
      (all_noted-on book.negatives.items after.negatives.items (layers_for (game_at book.games.items v.game) c) keeps (s.noted v there exchanged c));
  right = right;
}

-- one view more
pub notes_with_view : (book after : Book) (Ts : List Tree) (v : View) → AreNotedBy book Ts → after.views.items ≡ book.views.items ++ v ∷ []
    → after.games.items ≡ book.games.items → after.negatives.items ≡ book.negatives.items → v.game < length book.games.items
    → (IsTrue v.colours → (c : Colour) → AreNoted book.negatives.items (layers_for (game_at book.games.items v.game) c)) → AreNotedBy after Ts
notes_with_view book after Ts v s views games notes inside noted = record {
  inside = λ w among. subst (λ gs. w.game < length gs) (sym games)
      (elim (Contains-push_cases book.views.items v w (subst (λ vs. Contains vs w) views among)) as (λ _. w.game < length book.games.items) [
        | inl old ↦ s.inside w old
        | inr is ↦ subst (λ x. x.game < length book.games.items) is inside
      ]);
  noted = λ w among exchanged c. subst (λ T. T) (λ i. AreNoted (sym notes i) (layers_for (game_at (sym games i) w.game) c))
      (elim (Contains-push_cases book.views.items v w (subst (λ vs. Contains vs w) views among))
      as (λ _. AreNoted book.negatives.items (layers_for (game_at book.games.items w.game) c)) [
        | inl old ↦ s.noted w old exchanged c
        | inr is ↦ subst (λ x. IsTrue x.colours → (d : Colour) → AreNoted book.negatives.items (layers_for (game_at book.games.items x.game) d)) is noted exchanged c
      ]);
  right = subst (AreNegatives Ts) (sym notes) s.right;
}

-- Kinds, and the games of their first regions.

pub kinds_later : {limits : Limits} {most : ℕ} {games : List RegionGame} {kinds : List Kind} {Ts Us : List Tree} → Extends Ts Us
    → AreKinds limits most games kinds Ts → AreKinds limits most games kinds Us
kinds_later kept s = record {
  many = s.many;
  each = λ j kind lt is. let k = s.each j kind lt is in record { region = k.region; shape = k.shape; solved = game_later kept k.solved };
}

pub with_kind : {limits : Limits} {most : ℕ} {games : List RegionGame} {kinds : List Kind} {Ts Us : List Tree} (r : Region) (kind : Kind) (game : RegionGame)
    → Extends Ts Us → AreKinds limits most games kinds Ts → IsShape r r.cells kind.shape.spots.items kind.turn → IsSolvedBy limits most r Us game
    → AreKinds limits most (games ++ game ∷ []) (kinds ++ kind ∷ []) Us
with_kind {limits} {most} {games} {kinds} {Ts} {Us} r kind game kept s shape solved = record {
  many = omega (arith, length_push games game, length_push kinds kind, s.many);
  each = λ j k lt is. elim (cases_lt j (length kinds)) as (λ _. IsKind limits most (game_at (games ++ game ∷ []) j) Us k) [
    | inl less ↦
        let old = (kinds_later kept s).each j k less (sym (get_or_append_left kinds (kind ∷ []) k j less) ∙ is) in
        subst (λ g. IsKind limits most g Us k) (sym (get_or_append_left games (game ∷ []) no_game j (omega (arith, less, s.many)))) old
    | inr past ↦
        let last : length kinds ≡ j = omega (arith, lt, past, length_push kinds kind) in
        let same = sym (get_or_push kinds kind k j last) ∙ is in
        let here = get_or_push games game no_game j (omega (arith, last, s.many)) in
        subst (λ g. IsKind limits most g Us k) (sym here)
        (subst (IsKind limits most game Us) same (record { region = r; shape = shape; solved = solved }))
  ];
}

-- each link of a region leads to a place of it
region_linked : (r : Region) → IsRegion r.columns r.rows r.points r.cells r.touch → length r.points ≤ 32 → AreLinked r.touch r.cells
region_linked r of few = record {
  full = of.full ∙ sym of.beside;
  inside = λ i k d is. (links_within r.columns r.rows r.points r.cells r.touch of few).inside i k (link_in r.touch i k d is);
}

-- the ids of a solved region's layers are of the store
layers_of_ids : {limits : Limits} {most : ℕ} {r : Region} {Ts : List Tree} {game : RegionGame} → IsSolvedBy limits most r Ts game → (c : Colour)
    → AreLayersOfIds Ts (layers_for game c)
layers_of_ids {Ts = Ts} {game} s c j lt i short =
    let layers = layers_for game c in
    let same : min j (length layers - 1) ≡ j = omega (arith, lt) in
    subst (λ n. get_or (get_or layers n []) i 0 < length Ts) same
    (((s.holds.layers c).values j).known i (subst (λ n. i < length (get_or layers n [])) (sym same) short))

-- The next region has the shape of a kind: its places are paired with those of the kind's region.
module _ {limits : Limits} {most : ℕ} {games : List RegionGame} {kinds : List Kind} {Ts : List Tree} {r : Region} {x : List Spot} {t : Turn}
    (j : ℕ) (kind : Kind) (s : AreKinds limits most games kinds Ts) (has : HasShapeAt kinds x j) (is : get_or kinds j kind ≡ kind)
    (shape : IsShape r r.cells x t) where
  of_kind : IsKind limits most (game_at games j) Ts kind
  of_kind = s.each j kind has.0 is

  abbrev q : Region
  q = of_kind.region

  paired : (turn : Symmetry) × Carries q.touch q.cells r.touch r.cells (Meet q kind.turn r t) turn (differ kind.turn.colours t.colours)
  paired = pairs_places q q.cells kind.shape.spots.items kind.turn r r.cells x t of_kind.shape shape (has.1 kind is)

  points : length q.points ≡ length r.points
  points = sym of_kind.shape.made.long ∙ ap (λ (z : List Spot). length z) (has.1 kind is) ∙ shape.made.long

  pub ids_of_kind : (c : Colour) → AreLayersOfIds Ts (layers_for (game_at games j) c)
  ids_of_kind = layers_of_ids of_kind.solved

  pub partner_for : (i : ℕ) → i < length r.points → (m : ℕ) × (m < length r.points) × (get_or t.places m 0 ≡ get_or kind.turn.places i 0)
  partner_for i lt =
      let (m, meets) = paired.1.first i (omega (arith, lt, points, of_kind.shape.board.region.beside)) in
      (m, meets.1, meets.2)

  pub seen_solved : {Us : List Tree} {v : View} (known : List (Option ℕ)) → length r.points ≤ 32 → IsViewFor (length r.points) t kind.turn j v → HaveForms Us
      → Extends Ts Us → AreNegatives Us known → (IsTrue v.colours → (c : Colour) → AreNoted known (layers_for (game_at games j) c))
      → IsSolvedBy limits most r Us (own_game known v (game_at games j))
  seen_solved {Us} {v} known few see forms kept right noted =
      let a = of_kind.shape.board.region in
      let b = shape.board.region in
      let c = subst (Carries q.touch q.cells r.touch r.cells (Meet q kind.turn r t) paired.0) (sym see.colours) paired.1 in
      let opening : Matched q.touch r.touch (Meet q kind.turn r t) v.colours q.cells r.cells =
      record { linked = region_linked q a of_kind.solved.sound.points; linked' = region_linked r b few; turn = paired.0; carries = c } in
      let long : length r.cells ≡ length q.cells = b.full ∙ sym points ∙ sym a.full in
      let partner = λ (k i : ℕ) (meets : Meet q kind.turn r t k i).
      let p = see.pairs k (omega (arith, meets.0, points)) in
      (paired.1.one k (get_or v.places k 0) k i (meets.0, p.0, p.1) meets).0 refl in
      own_solved r v opening long b.full few see.long partner (game_later kept of_kind.solved) known right noted forms

-- one region more
pub shared_next : {limits : Limits} {most : ℕ} {regions : List Region} {kinds later : List Kind} {Ts Us Vs : List Tree} {n : ℕ} (book middle after : Book) (v : View)
    → SharesBelow limits most regions book kinds Ts n → Extends Ts Us → AreKinds limits most middle.games.items later Us → (more : List RegionGame)
    → middle.games.items ≡ book.games.items ++ more → middle.views.items ≡ book.views.items → middle.negatives.items ≡ book.negatives.items
    → after.games.items ≡ middle.games.items → after.views.items ≡ middle.views.items ++ v ∷ []
    → KeepsNotes middle.negatives.items after.negatives.items → AreNotedBy after Vs → Extends Us Vs
    → IsSolvedBy limits most (region_at regions n) Vs (own_game after.negatives.items v (game_at middle.games.items v.game))
    → SharesBelow limits most regions after later Vs (n + 1)
shared_next {limits} {most} {regions} {later = later} {Ts} {Us} {Vs} {n} book middle after v s kept kinds more grown views notes games viewed keeps right kept' solved =
    let see = λ (w : View). own_game after.negatives.items w (game_at after.games.items w.game) in
    let before : Book = record { games = after.games; views = book.views; negatives = after.negatives } in
    let old = shown_later book before Ts s.noted refl more (games ∙ grown)
    (subst (λ known. KeepsNotes known after.negatives.items) notes keeps) in
    let last : see v ≡ own_game after.negatives.items v (game_at middle.games.items v.game) =
    ap (λ gs. own_game after.negatives.items v (game_at gs v.game)) games in
    let all = ap (map see) (viewed ∙ ap (λ vs. vs ++ v ∷ []) views) ∙ map-append see book.views.items (v ∷ [])
    ∙ ap (λ gs. gs ++ see v ∷ []) old ∙ ap (λ g. shown book ++ g ∷ []) last in
    record {
      solved = subst (λ gs. AreSolvedBelow limits most regions gs Vs (n + 1)) (sym all)
          (one_more (own_game after.negatives.items v (game_at middle.games.items v.game)) (extends-on Ts Us Vs kept kept') s.solved solved);
      kinds_are = subst (λ gs. AreKinds limits most gs later Vs) (sym games) (kinds_later kept' kinds);
      noted = right;
    }

-- no region yet
pub none_shared : (limits : Limits) (most : ℕ) (regions : List Region) (book : Book) (kinds : List Kind) (Ts : List Tree) → book.games.items ≡ []
    → book.views.items ≡ [] → book.negatives.items ≡ [] → kinds ≡ [] → SharesBelow limits most regions book kinds Ts 0
none_shared limits most regions book kinds Ts games views notes none = record {
  solved = subst (λ vs. AreSolvedBelow limits most regions (map (λ v. own_game book.negatives.items v (game_at book.games.items v.game)) vs) Ts 0) (sym views)
      (none_solved limits most regions Ts);
  kinds_are = record {
    many = ap (λ (z : List Kind). length z) none ∙ sym (ap (λ (z : List RegionGame). length z) games);
    each = λ j kind lt is. absurd (omega (arith, lt, ap (λ (z : List Kind). length z) none));
  };
  noted = record {
    inside = λ v (i, lt, is). absurd (omega (arith, lt, ap (λ (z : List View). length z) views));
    noted = λ v (i, lt, is). absurd (omega (arith, lt, ap (λ (z : List View). length z) views));
    right = λ id turned is. absurd (apart (sym (ap (λ known. get_or known id None) notes) ∙ is));
  };
}
  where
    apart : {n : ℕ} → None ≡ Some n → ⊥
    apart e = subst (λ x. Is x) e tt
      where
        Is : Option ℕ → Type 0
        Is None = Unit {0}
        Is (Some n) = ⊥

-- What is asked of a region's game.

-- the region's view
pub view_known : (book : Book) (k : ℕ) (games : List RegionGame) → shown book ≡ games → k < length games → k < length book.views.items
view_known book k games seen lt =
    omega (arith, lt, ap (λ gs. length gs) seen, length-map book.views.items (λ w. own_game book.negatives.items w (game_at book.games.items w.game)))

-- the region's game, by the one that its view names
pub game_shown : (book : Book) (k : ℕ) (v : View) (game : RegionGame) → k < length book.views.items → v.game < length book.games.items
    → v ≡ get_or book.views.items k v → game ≡ get_or book.games.items v.game game → game_at (shown book) k ≡ own_game book.negatives.items v game
game_shown book k v game lt inside view is =
    get_or-map (λ w. own_game book.negatives.items w (game_at book.games.items w.game)) book.views.items k v no_game lt
    ∙ (λ i. own_game book.negatives.items (sym view i) (game_at book.games.items (sym view i).game))
    ∙ ap (own_game book.negatives.items v) (get_or_default book.games.items v.game no_game game inside ∙ sym is)

-- the edges of a place of the region's game
pub edges_shown : (book : Book) (k place : ℕ) (v : View) (game : RegionGame) → k < length book.views.items → v.game < length book.games.items
    → v ≡ get_or book.views.items k v → game ≡ get_or book.games.items v.game game
    → edges_at (game_at (shown book) k).graph.edges place ≡ own_edges v (edges_at game.graph.edges place)
edges_shown book k place v game lt inside view is =
    ap (λ g. edges_at g.graph.edges place) (game_shown book k v game lt inside view is) ∙ elim (cases_lt place (length game.graph.edges))
    as (λ _. edges_at (map (own_edges v) game.graph.edges) place ≡ own_edges v (edges_at game.graph.edges place)) [
      | inl less ↦ get_or-map (own_edges v) game.graph.edges place [] [] less
      | inr le ↦
          get_or_past (map (own_edges v) game.graph.edges) place [] (omega (arith, le, length-map game.graph.edges (own_edges v)))
          ∙ ap (own_edges v) (sym (get_or_past game.graph.edges place [] le))
    ]

-- the move of a stone among the edges is the one among the region's moves
pub stones_over : (r : Region) (c : Colour) (p : ℕ) (v : View) (es fs : List Edge) → fs ≡ own_edges v es → (x : Option Edge)
    → MatchOption x ((f : Edge) → Contains es f → ¬ IsStoneAt r c p (own v f)) (λ e. (f : Edge) × Contains es f × (e ≡ own v f) × IsStoneAt r c p e)
    → MatchOption x ((e : Edge) → Contains fs e → ¬ IsStoneAt r c p e) (λ e. Contains fs e × IsStoneAt r c p e)
stones_over r c p v es fs same None none = λ e among stone.
    let (f, there, is) = own_from v e es (subst (λ zs. Contains zs e) same among) in
    none f there (subst (IsStoneAt r c p) is stone)
stones_over r c p v es fs same (Some e) (f, there, is, stone) =
    (subst (Contains fs) (sym is) (subst (λ zs. Contains zs (own v f)) (sym same) (own_has v f es there)), stone)

-- The region's game, by its view and the game that the view names.
module _ (book : Book) (k : ℕ) {games : List RegionGame} (seen : shown book ≡ games) (lt : k < length games)
    (right : All (λ w. w.game < length book.games.items) book.views.items) where
  pub view_inside : (v : View) → v ≡ get_or book.views.items k v → v.game < length book.games.items
  view_inside v view = subst (λ w. w.game < length book.games.items) (sym view) (right k v (view_known book k games seen lt))

  module _ (v : View) (game : RegionGame) (view : v ≡ get_or book.views.items k v) (is : game ≡ get_or book.games.items v.game game) where
    pub game_seen : game_at games k ≡ own_game book.negatives.items v game
    game_seen = ap (λ gs. game_at gs k) (sym seen) ∙ game_shown book k v game (view_known book k games seen lt) (view_inside v view) view is

    pub ids_seen : (c : Colour) (budget : ℕ) (ids : List ℕ) → ids ≡ ids_with game (colour_after v.colours c) budget
        → ids_with (game_at games k) c budget ≡ map (id_after v.colours book.negatives.items) ids
    ids_seen c budget ids here =
        ap (λ g. ids_with g c budget) game_seen ∙ ids_own book.negatives.items v game c budget ∙ ap (map (id_after v.colours book.negatives.items)) (sym here)

    -- its positions are as many
    pub positions_seen : length (game_at games k).graph.positions ≡ length game.graph.positions
    positions_seen = ap (λ g. length g.graph.positions) game_seen ∙ length-map game.graph.positions (own_number v)

    -- as many layers as the game has for the colour that it is there
    pub layers_seen : (c : Colour) → length (layers_for (game_at games k) c) ≡ length (layers_for game (colour_after v.colours c))
    layers_seen c =
        ap (λ g. length (layers_for g c)) game_seen ∙ ap (λ layers. length layers) (layers_own book.negatives.items v game c)
        ∙ length-map (layers_for game (colour_after v.colours c)) (map (id_after v.colours book.negatives.items))
