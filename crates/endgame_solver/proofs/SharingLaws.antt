-- Regions are solved one after the other, until one has a fault, each by the graph and the values of the first that has its shape.
use Rattle.std.proofs.Common.{ℕ, ◌+◌, ◌<◌, ◌≤◌, inl, inr, sym, subst, arith, List, [], ◌∷◌, ◌++◌, length, get_or, take, ◌≡◌, ◌≢◌, ◌↔◌, ap, ◌∙◌, set, drop, below_more, Bool, true, Option, Some, None, zero, suc, refl, false, Contains}
use Rattle.std.proofs.lemmas.Bool.{cases_eq, cases_lt}
use Rattle.std.proofs.lemmas.List.{get_or_append_left, get_or_push, length_push, get_or-set_other, get_or-set_same, length-set, take-append-le, get_or_default, length-append}
use Rattle.local_play.proofs.LinkLemmas.{links_within}
use Rattle.go_grid.specs.Region.{Region, IsRegion}
use Rattle.local_graph.specs.Graph.{Graph}
use Rattle.short_games.specs.Tree.{Tree, tree_at, neg}
use Rattle.game_store.specs.Meaning.{Extends, AreIds, AreCanonical}
use Rattle.game_canon.specs.Outcomes.{AreWithin, IsCanonicalId}
use Rattle.local_trees.specs.PositionTree.{IsValueOf}
use Rattle.endgame_solver.specs.Faults.{AreRefused, AreSmallRegions}
use Rattle.endgame_solver.specs.inner.Held.{ids_at, most_units}
use Rattle.endgame_solver.specs.Regions.{no_region, region_at}
use Rattle.endgame_solver.specs.inner.Regions.{no_graph, graph_at}
use Rattle.endgame_solver.specs.inner.Solving.{AreSolvedBelow, IsRefusalOf, IsSolvedBy}
use Rattle.endgame_solver.specs.Limits.{Limits}
use Rattle.endgame_solver.specs.declared.faults.SolveError.{SolveError}
use Rattle.endgame_solver.specs.declared.faults.SolveError.TheVariants.{Points, Positions, Cycle, Form, Memory}
use Rattle.std.proofs.Math.Seq.{take-length}
use Rattle.short_games.specs.Parts.{HasMoreParts}
use Rattle.short_games.specs.TextOrder.{IsCanonicalFor}
use Rattle.game_canon.proofs.ChangedIdLaws.{extends-on}
use Rattle.endgame_solver.specs.ShapeValues.{game_after, AreLinked}
use Rattle.endgame_solver.specs.inner.Sharing.{AreNegatives, IsTurnedValue, AreKinds, AreSharedBy, AreTurnedValues, IsKind, IsViewFor, SharesBelow}
use Rattle.std.proofs.lemmas.List.Elements.{Contains-get_or}
use Rattle.local_graph.specs.declared.graph.Edge.{Edge}
use Rattle.local_graph.specs.inner.Graph.{edges_at}
use Rattle.local_trees.proofs.MoveLaws.{cells_at, move_of}
use Rattle.local_graph.proofs.PlayLemmas.{plays_long}
use Rattle.game_store.specs.Forms.{HaveForms}
use Rattle.short_games.proofs.OrderLaws.{le-refl}
use Rattle.local_trees.specs.GraphPlaces.{IsGraphOf}
use Rattle.region_book.specs.Image.{IsShape}
use Rattle.region_book.specs.Law.{Meet, differ}
use Rattle.region_book.specs.declared.symmetry.Symmetry.{Symmetry}
use Rattle.region_book.specs.Shape.{Carries, colour_after}
use Rattle.region_book.specs.declared.shapes.Turn.{Turn}
use Rattle.region_book.specs.declared.spots.Spot.{Spot}
use Rattle.region_book.proofs.ShapeLaws.{pairs_places, tells_shapes}
use Rattle.endgame_solver.specs.Solved.{IsNumberOfShapes}
use Rattle.endgame_solver.specs.inner.Views.{IsOwnView, IsView, Serves, no_view, own, view_at}
use Rattle.endgame_solver.specs.declared.view_book.Book.{Book}
use Rattle.endgame_solver.specs.declared.view_book.Kind.{Kind}
use Rattle.endgame_solver.specs.declared.views.View.{View}
use Rattle.game_canon.proofs.NegationLaws.{chosen}
use Rattle.std.proofs.lemmas.List.Quantifiers.{all_pairs_push}
use Rattle.endgame_solver.proofs.CarriedLaws.{Matched, link_in}
use Rattle.endgame_solver.proofs.GraphLaws.{solved_turned}

-- Regions are solved one after the other, until one has a fault.

-- the values stay as they are while the store grows
solved_later : {limits : Limits} {r : Region} {g : Graph} {Ts Us : List Tree} {ids : List ℕ} → Extends Ts Us → IsSolvedBy limits r g Ts ids
    → IsSolvedBy limits r g Us ids
solved_later {limits} {r} {g} {Ts} {Us} {ids} e s = record {
  sound = s.sound;
  graph = s.graph;
  values = record {
    long = s.values.long;
    known = λ i lt. omega (arith, s.values.known i lt, e.longer);
    each = λ i cells h.
        let short : i < length ids = omega (arith, h.inside, s.values.long) in
        subst (IsValueOf r.touch cells) (sym (e.same (get_or ids i 0) (s.values.known i short))) (s.values.each i cells h);
  };
  within = λ i lt. subst (AreWithin most_units) (sym (e.same (get_or ids i 0) (s.values.known i lt))) (s.within i lt);
}

-- the fault of a region before which all are sound is the refusal
pub refused_at : {limits : Limits} {regions : List Region} {graphs : List Graph} {values : List (List ℕ)} {Ts : List Tree} {n : ℕ}
    → n < length regions → AreSmallRegions regions
    → AreSolvedBelow limits regions graphs values Ts n → (e : SolveError) → IsRefusalOf limits (region_at regions n) e → AreRefused limits regions e
refused_at lt small s (Points p m) h = absurd h
refused_at {n = n} lt small s (Positions p) h = (small, (n, lt, h, λ j less. (s.each j less).sound))
refused_at {n = n} lt small s (Cycle p names back) h = (small, (n, lt, h, λ j less. (s.each j less).sound))
refused_at {n = n} lt small s (Form p) h = (small, (n, lt, h, λ j less. (s.each j less).sound))
refused_at lt small s (Memory e) h = tt

-- a list with one item more
one_more : {X : Type 0} (d : X) (xs : List X) (x : X) {n : ℕ} → length xs ≡ n
    → (length (xs ++ x ∷ []) ≡ n + 1) × ((k : ℕ) → k < n → get_or (xs ++ x ∷ []) k d ≡ get_or xs k d) × (get_or (xs ++ x ∷ []) n d ≡ x)
one_more d xs x {n} many = (
  omega (arith, length_push xs x, many),
  λ k lt. get_or_append_left xs (x ∷ []) d k (omega (arith, lt, many)),
  get_or_push xs x d n many,
)

-- An array of 32 places that is filled place by place, and the negatives of values one after the other.

-- each of the first n places holds what it is to hold
pub record Filled (Is : ℕ → ℕ → Type 0) (n : ℕ) (places : List ℕ) : Type 0 where
  pub long : length places ≡ 32
  pub placed : (i : ℕ) → i < n → Is i (get_or places i 0)

pub filled_more : (Is : ℕ → ℕ → Type 0) (n : ℕ) (places : List ℕ) (x : ℕ) → Filled Is n places → n < 32 → Is n x → Filled Is (n + 1) (set places n x)
filled_more Is n places x f few is = record {
  long = length-set places n x ∙ f.long;
  placed = below_more (λ i. Is i (get_or (set places n x) i 0)) n
      (λ i less. let apart : i ≢ n = omega (arith, less) in subst (Is i) (sym (get_or-set_other places n i x 0 apart)) (f.placed i less))
      (subst (Is n) (sym (get_or-set_same places n x 0 (omega (arith, few, f.long)))) is);
}

-- what a value turned is stays while the store grows
pub turned_later : (colours : Bool) (Ts Us : List Tree) (id turned : ℕ) → id < length Ts → Extends Ts Us → IsTurnedValue colours Ts id turned → IsTurnedValue colours Us id turned
turned_later colours Ts Us id turned lt e t =
    let same = sym (e.same id lt) in
    let same' = sym (e.same turned t.known) in
    record {
      known = omega (arith, t.known, e.longer);
      canonical = subst (λ G. IsCanonicalFor (game_after colours G) (tree_at Us turned)) same (subst (IsCanonicalFor (game_after colours (tree_at Ts id))) same' t.canonical);
      parts = λ n h. subst (λ G. HasMoreParts G n) same (t.parts n (subst (λ G. HasMoreParts G n) (sym same') h));
      sizes = λ b h. subst (AreWithin b) same' (t.sizes b (subst (AreWithin b) (sym same) h));
    }

pub negatives_later : (Ts Us : List Tree) (known : List (Option ℕ)) → Extends Ts Us → AreNegatives Ts known → AreNegatives Us known
negatives_later Ts Us known e n id turned is =
    let w = n id turned is in
    (omega (arith, w.0, e.longer), turned_later true Ts Us id turned w.0 e w.1)

-- a list that was lent whole comes back whole
pub lent_back : {X : Type 0} (n : ℕ) (ks xs : List X) → length ks ≡ length xs → n ≡ length xs → take n (ks ++ drop (length ks) xs) ≡ ks
lent_back n ks xs long len =
    take-append-le n ks (drop (length ks) xs) (omega (arith, long, len)) ∙ ap (λ m. take m ks) (len ∙ sym long) ∙ take-length ks

-- one more is noted
pub negatives_more : (Ts : List Tree) (known : List (Option ℕ)) (id turned : ℕ) → id < length Ts → id < length known → AreNegatives Ts known → IsTurnedValue true Ts id turned
    → AreNegatives Ts (set known id (Some turned))
negatives_more Ts known id turned lt short n t k v is = elim (cases_eq k id) [
  | inl same ↦
      let v' : v ≡ turned = some (sym is ∙ ap (λ j. get_or (set known id (Some turned)) j None) same ∙ get_or-set_same known id (Some turned) None short) in
      (omega (arith, same, lt), subst (IsTurnedValue true Ts k) (sym v') (subst (λ j. IsTurnedValue true Ts j turned) (sym same) t))
  | inr other ↦ n k v (sym (get_or-set_other known id k (Some turned) None other) ∙ is)
]
  where
    some : Some v ≡ Some turned → v ≡ turned
    some e = cc

-- the negative of a value is the value turned
pub negated : (Ts Us : List Tree) (id turned : ℕ) → id < length Ts → Extends Ts Us → IsCanonicalId Us (neg (tree_at Ts id)) turned
    → ((n : ℕ) → HasMoreParts (tree_at Us turned) n ↔ HasMoreParts (tree_at Ts id) n)
    → ((b : ℕ) → AreWithin b (tree_at Us turned) ↔ AreWithin b (tree_at Ts id)) → IsTurnedValue true Us id turned
negated Ts Us id turned lt e is parts sizes =
    let same = sym (e.same id lt) in
    record {
      known = is.0;
      canonical = subst (λ G. IsCanonicalFor (game_after true G) (tree_at Us turned)) same is.1;
      parts = λ n h. subst (λ G. HasMoreParts G n) same ((parts n).0 h);
      sizes = λ b h. (sizes b).1 (subst (AreWithin b) (sym same) h);
    }

-- the negatives of the first n ids
pub record AreTurnedBelow (start : List Tree) (ids : List ℕ) (Ts : List Tree) (known : List (Option ℕ)) (turned : List ℕ) (n : ℕ) : Type 0 where
  pub many : length turned ≡ n
  pub each : (i : ℕ) → i < n → IsTurnedValue true Ts (get_or ids i 0) (get_or turned i 0)
  pub noted : AreNegatives Ts known
  pub as_long : length known ≡ length start
  pub kept : Extends start Ts

pub turned_step : (start : List Tree) (ids : List ℕ) (Ts Us : List Tree) (known known' : List (Option ℕ)) (turned : List ℕ) (n negative : ℕ) → AreIds start ids → n < length ids
    → AreTurnedBelow start ids Ts known turned n → Extends Ts Us → length known' ≡ length known → AreNegatives Us known' → IsTurnedValue true Us (get_or ids n 0) negative
    → AreTurnedBelow start ids Us known' (turned ++ negative ∷ []) (n + 1)
turned_step start ids Ts Us known known' turned n negative are lt s e long noted new =
    let more = one_more 0 turned negative s.many in
    record {
      many = more.0;
      each = below_more (λ i. IsTurnedValue true Us (get_or ids i 0) (get_or (turned ++ negative ∷ []) i 0)) n
          (λ i less.
          let known : get_or ids i 0 < length Ts = (let w = are i (omega (arith, less, lt)) in omega (arith, w, s.kept.longer)) in
          subst (IsTurnedValue true Us (get_or ids i 0)) (sym (more.1 i less)) (turned_later true Ts Us (get_or ids i 0) (get_or turned i 0) known e (s.each i less)))
          (subst (IsTurnedValue true Us (get_or ids n 0)) (sym more.2) new);
      noted = noted;
      as_long = long ∙ s.as_long;
      kept = extends-on start Ts Us s.kept e;
    }

-- Each region is solved by the graph and the values of the first that has its shape.

-- each link of a region leads to a place of it
region_linked : (r : Region) → IsRegion r.columns r.rows r.points r.cells r.touch → length r.points ≤ 32 → AreLinked r.touch r.cells
region_linked r of few = record {
  full = of.full ∙ sym of.beside;
  inside = λ i k d is. (links_within r.columns r.rows r.points r.cells r.touch of few).inside i k (link_in r.touch i k d is);
}

-- values that aren't turned
pub same_values : (Ts : List Tree) (ids : List ℕ) → AreIds Ts ids → AreCanonical Ts → AreTurnedValues false Ts ids ids
same_values Ts ids known canonical = record {
  many = refl;
  each = λ i lt. record {
    known = known i lt;
    canonical = record { canonical = canonical (get_or ids i 0) (known i lt); under = le-refl _; over = le-refl _ };
    parts = λ n h. h;
    sizes = λ b h. h;
  };
}

-- a region sees its own graph as it is
own_seen : (r : Region) (g : Graph) (v : View) → IsGraphOf r g → v.colours ≡ false → ((i : ℕ) → i < 32 → get_or v.places i 0 ≡ i) → Serves v g g
own_seen r g v of none places = record {
  as_many = refl;
  inside = inside;
  moves = λ i e. (
    λ among. (e, among, same i e among),
    λ (f, among, is). subst (Contains (edges_at g.edges i)) (same i f among ∙ sym is) among,
  );
}
  where
    inside : (i : ℕ) (e : Edge) → Contains (edges_at g.edges i) e → e.place < 32
    inside i e among =
        let (cells, has) = cells_at r g of i e among in
        let (next, move, edge) = move_of r g of i cells e has among in
        omega (arith, move.place, plays_long r.touch r.cells cells has.reachable.0 has.reachable.1, of.few)

    same : (i : ℕ) (e : Edge) → Contains (edges_at g.edges i) e → e ≡ own v e
    same i e among =
        let colour = ap (λ b. colour_after b e.colour) none in
        let place = places e.place (inside i e among) in
        λ k. record { next = e.next; colour = sym colour k; place = sym place k; taken = e.taken }

item_at : {X : Type 0} (xs : List X) (j : ℕ) → j < length xs → (x : X) × (get_or xs j x ≡ x)
item_at [] j lt = absurd (omega (arith, lt))
item_at (x ∷ xs) zero lt = (x, refl)
item_at (x ∷ xs) (suc j) lt = item_at xs j (omega (arith, lt))

-- the region's opening has the shape, with this turn
abbrev Shaped : List Region → ℕ → List Spot → Turn → Type 0
Shaped regions k x t = IsShape (region_at regions k) (region_at regions k).cells x t

-- the kind at the place has the shape
abbrev HasSpots : List Kind → ℕ → List Spot → Type 0
HasSpots kinds j x = (j < length kinds) × ((kind : Kind) → get_or kinds j kind ≡ kind → kind.shape.spots.items ≡ x)

-- region `k` has the shape of one of the kinds
abbrev HasKind : List Region → List Kind → ℕ → Type 0
HasKind regions kinds k = (j : ℕ) × (j < length kinds)
    × ((kind : Kind) → get_or kinds j kind ≡ kind → (t : Turn) × Shaped regions k kind.shape.spots.items t)

-- the items of the first list stand at their places in the second
record Grows {X : Type 0} (d : X) (xs ys : List X) : Type 0 where
  inside : (k : ℕ) → k < length xs → k < length ys
  same : (k : ℕ) → k < length xs → get_or ys k d ≡ get_or xs k d

grows : {X : Type 0} (d : X) {xs ys : List X} (more : List X) → ys ≡ xs ++ more → Grows d xs ys
grows d {xs} more is = record {
  inside = λ k lt. omega (arith, lt, ap length is, length-append xs more);
  same = λ k lt. ap (λ zs. get_or zs k d) is ∙ get_or_append_left xs more d k lt;
}

view_later : {shared shared' : List Graph} {held held' : List (List ℕ)} {v : View} {g : Graph} {ids : List ℕ}
    → Grows no_graph shared shared' → Grows [] held held' → IsView shared held v g ids → IsView shared' held' v g ids
view_later {v = v} {g = g} graphs values w = record {
  graph = graphs.inside v.graph w.graph;
  values = values.inside v.values w.values;
  seen = subst (λ h. Serves v h g) (sym (graphs.same v.graph w.graph)) w.seen;
  same = values.same v.values w.values ∙ w.same;
}

-- One region more, while the store and the lists of graphs and of values grow.
module _ {limits : Limits} {regions : List Region} {shared shared' : List Graph} {held held' : List (List ℕ)} {Ts Us : List Tree} {n : ℕ}
    (kept : Extends Ts Us) (graphs_grow : Grows no_graph shared shared') (values_grow : Grows [] held held') where
  kind_later : (j : ℕ) {kind : Kind} → j < length shared → IsKind limits regions (graph_at shared j) held Ts n kind
      → IsKind limits regions (graph_at shared' j) held' Us (n + 1) kind
  kind_later j {kind} lt w = record {
    region = w.region;
    before = omega (arith, w.before);
    shape = w.shape;
    values = values_grow.inside kind.values w.values;
    solved = rw (graphs_grow.same j lt, values_grow.same kind.values w.values) (solved_later kept w.solved);
  }

  -- one graph and one kind more, whose region is the next one
  with_kind : {kinds : List Kind} (kind : Kind) → AreKinds limits regions shared held kinds Ts n → length shared' ≡ length shared + 1
      → IsKind limits regions (graph_at shared' (length shared)) held' Us (n + 1) kind
      → ((k : Kind) → Contains kinds k → k.shape.spots.items ≢ kind.shape.spots.items) → Shaped regions n kind.shape.spots.items kind.turn
      → AreKinds limits regions shared' held' (kinds ++ kind ∷ []) Us (n + 1)
  with_kind {kinds} kind s more new apart shape = record {
    many = omega (arith, length_push kinds kind, more, s.many);
    each = λ j k lt is. elim (cases_lt j (length kinds)) as (λ _. IsKind limits regions (graph_at shared' j) held' Us (n + 1) k) [
      | inl less ↦ kind_later j (omega (arith, less, s.many)) (s.each j k less (sym (get_or_append_left kinds (kind ∷ []) k j less) ∙ is))
      | inr past ↦
          let last : length kinds ≡ j = omega (arith, lt, past, length_push kinds kind) in
          let same = sym (get_or_push kinds kind k j last) ∙ is in
          subst (λ T. T) (λ i. IsKind limits regions (graph_at shared' ((sym s.many ∙ last) i)) held' Us (n + 1) (same i)) new
    ];
    apart = all_pairs_push (λ a b. a.shape.spots.items ≢ b.shape.spots.items) kinds kind s.apart
        (λ k d lt. apart (get_or kinds k d) (Contains-get_or kinds k d lt));
    every = below_more (HasKind regions (kinds ++ kind ∷ [])) n
        (λ k less. let (j, short, w) = s.every k less in
        let inside : j < length (kinds ++ kind ∷ []) = omega (arith, short, length_push kinds kind) in
        (j, inside, λ found is. w found (sym (get_or_append_left kinds (kind ∷ []) found j short) ∙ is))) (
          length kinds,
          omega (arith, length_push kinds kind),
          λ found is.
              let same : kind ≡ found = sym (get_or_push kinds kind found (length kinds) refl) ∙ is in
              (kind.turn, subst (λ f. Shaped regions n f.shape.spots.items kind.turn) same shape),
        );
  }

  -- the next region has the shape of a kind
  same_kinds : {kinds : List Kind} (j : ℕ) (x : List Spot) (t : Turn) → AreKinds limits regions shared held kinds Ts n
      → length shared' ≡ length shared → HasSpots kinds j x → Shaped regions n x t → AreKinds limits regions shared' held' kinds Us (n + 1)
  same_kinds {kinds} j x t s same found shape = record {
    many = s.many ∙ sym same;
    each = λ i kind lt at. kind_later i (omega (arith, lt, s.many)) (s.each i kind lt at);
    apart = s.apart;
    every = below_more (HasKind regions kinds) n s.every
        (j, found.0, λ kind at. (t, subst (λ y. Shaped regions n y t) (sym (found.1 kind at)) shape));
  }

  -- the region is solved by what its view shows
  shares_next : {views : List View} {kinds kinds' : List Kind} (v : View) (g : Graph) (ids : List ℕ)
      → SharesBelow limits regions shared held views kinds Ts n → IsSolvedBy limits (region_at regions n) g Us ids
      → IsView shared' held' v g ids → AreKinds limits regions shared' held' kinds' Us (n + 1)
      → SharesBelow limits regions shared' held' (views ++ v ∷ []) kinds' Us (n + 1)
  shares_next {views} v g ids s solved view kinds_are =
      let graphs = one_more no_graph s.graphs g s.solved.as_many_graphs in
      let values = one_more [] s.values ids s.solved.as_many_values in
      let all = one_more no_view views v s.views_are.many in
      record {
        graphs = s.graphs ++ g ∷ [];
        values = s.values ++ ids ∷ [];
        solved = record {
          as_many_graphs = graphs.0;
          as_many_values = values.0;
          each = below_more
              (λ k. IsSolvedBy limits (region_at regions k) (graph_at (s.graphs ++ g ∷ []) k) Us (ids_at (s.values ++ ids ∷ []) k)) n
              (λ k less. rw (graphs.1 k less, values.1 k less) (solved_later kept (s.solved.each k less)))
              (rw (graphs.2, values.2) solved);
        };
        views_are = record {
          many = all.0;
          each = below_more
              (λ k. IsView shared' held' (view_at (views ++ v ∷ []) k) (graph_at (s.graphs ++ g ∷ []) k)
              (ids_at (s.values ++ ids ∷ []) k)) n
              (λ k less. rw (all.1 k less, graphs.1 k less, values.1 k less) (view_later graphs_grow values_grow (s.views_are.each k less)))
              (rw (all.2, graphs.2, values.2) view);
        };
        kinds_are = kinds_are;
      }

pub shares_new : {limits : Limits} {regions : List Region} {shared : List Graph} {held : List (List ℕ)} {views : List View} {kinds : List Kind}
    {Ts Us : List Tree} {n : ℕ} {g : Graph} {ids : List ℕ} (v : View) (kind : Kind) → Extends Ts Us
    → SharesBelow limits regions shared held views kinds Ts n
    → IsSolvedBy limits (region_at regions n) g Us ids → Shaped regions n kind.shape.spots.items kind.turn
    → ((k : Kind) → Contains kinds k → k.shape.spots.items ≢ kind.shape.spots.items) → kind.values ≡ length held
    → IsOwnView v (length shared) (length held)
    → SharesBelow limits regions (shared ++ g ∷ []) (held ++ ids ∷ []) (views ++ v ∷ []) (kinds ++ kind ∷ []) Us (n + 1)
shares_new {limits} {regions} {shared} {held} {Us = Us} {n} {g} {ids} v kind e s solved shape apart values own =
    let graphs = one_more no_graph shared g refl in
    let last = one_more [] held ids refl in
    let graphs_grow = grows no_graph {xs = shared} (g ∷ []) refl in
    let values_grow = grows [] {xs = held} (ids ∷ []) refl in
    let own_graph = own_seen (region_at regions n) g v solved.graph.graph own.colours own.places in
    shares_next e graphs_grow values_grow v g ids s solved record {
      graph = omega (arith, own.graph, graphs.0);
      values = omega (arith, own.values, last.0);
      seen = subst (λ h. Serves v h g) (sym (get_or_push shared g no_graph v.graph (sym own.graph))) own_graph;
      same = get_or_push held ids [] v.values (sym own.values);
    } (with_kind e graphs_grow values_grow kind s.kinds_are graphs.0 record {
      region = n;
      before = omega arith;
      shape = shape;
      values = omega (arith, values, last.0);
      solved = rw (graphs.2, get_or_push held ids [] kind.values (sym values)) solved;
    } apart shape)

-- The next region has the shape of a kind: its places are paired with those of the kind's region, by whose graph and values it is solved.
module _ {limits : Limits} {regions : List Region} {shared : List Graph} {held : List (List ℕ)} {views : List View} {kinds lent : List Kind}
    {Ts : List Tree} {n : ℕ} {r : Region} {x : List Spot} {t : Turn} (j : ℕ) (kind : Kind) (same : lent ≡ kinds)
    (s : SharesBelow limits regions shared held views kinds Ts n) (lends : HasSpots lent j x) (is : get_or kinds j kind ≡ kind)
    (shape : IsShape r r.cells x t) where
  found : HasSpots kinds j x
  found = subst (λ ks. HasSpots ks j x) same lends

  first : IsKind limits regions (graph_at shared j) held Ts n kind
  first = s.kinds_are.each j kind found.0 is

  abbrev q : Region
  q = region_at regions first.region

  paired : (turn : Symmetry) × Carries q.touch q.cells r.touch r.cells (Meet q kind.turn r t) turn (differ kind.turn.colours t.colours)
  paired = pairs_places q q.cells kind.shape.spots.items kind.turn r r.cells x t first.shape shape (found.1 kind is)

  points : length q.points ≡ length r.points
  points = sym first.shape.made.long ∙ ap length (found.1 kind is) ∙ shape.made.long

  pub partner_for : (i : ℕ) → i < length r.points → (m : ℕ) × (m < length r.points) × (get_or t.places m 0 ≡ get_or kind.turn.places i 0)
  partner_for i lt =
      let (m, meets) = paired.1.first i (omega (arith, lt, points, first.shape.board.region.beside)) in
      (m, meets.1, meets.2)

  seen_solved : {held' : List (List ℕ)} {Us : List Tree} {v : View} → length r.points ≤ 32
      → IsViewFor (length r.points) j t kind held held' Us v → HaveForms Us → Extends Ts Us
      → (g : Graph) × IsSolvedBy limits r g Us (ids_at held' v.values) × Serves v (graph_at shared j) g
  seen_solved {v = v} few see forms kept =
      let a = first.shape.board.region in
      let b = shape.board.region in
      let c = subst (Carries q.touch q.cells r.touch r.cells (Meet q kind.turn r t) paired.0) (sym see.colours) paired.1 in
      let opening : Matched q.touch r.touch (Meet q kind.turn r t) v.colours q.cells r.cells =
      record { linked = region_linked q a first.solved.sound.points; linked' = region_linked r b few; turn = paired.0; carries = c } in
      let long : length r.cells ≡ length q.cells = b.full ∙ sym points ∙ sym a.full in
      let partner = λ (k i : ℕ) (meets : Meet q kind.turn r t k i).
      let p = see.pairs k (omega (arith, meets.0, points)) in
      (paired.1.one k (get_or v.places k 0) k i (meets.0, p.0, p.1) meets).0 refl in
      solved_turned r v opening long few b.full partner forms (solved_later kept first.solved) see.turned

  pub next_seen : {held' : List (List ℕ)} {views' : List View} {Us : List Tree} {v : View} → n < length regions → AreSmallRegions regions
      → r ≡ region_at regions n → IsViewFor (length r.points) j t kind held held' Us v → (more : List (List ℕ)) × (held' ≡ held ++ more)
      → Extends Ts Us → HaveForms Us → views' ≡ views ++ v ∷ [] → SharesBelow limits regions shared held' views' kinds Us (n + 1)
  next_seen {held'} {views'} {Us} {v} lt small at view (more, grown) kept forms pushed =
      let few = subst (λ z. length z.points ≤ 32) (sym at) (small (region_at regions n) (Contains-get_or regions n no_region lt)) in
      let (g, here, see) = seen_solved few view forms kept in
      let stay : Grows no_graph shared shared = record { inside = λ k less. less; same = λ k less. refl } in
      let solved = subst (λ z. IsSolvedBy limits z g Us (ids_at held' v.values)) at here in
      subst (λ vs. SharesBelow limits regions shared held' vs kinds Us (n + 1)) (sym pushed)
      (shares_next kept stay (grows [] more grown) v g (ids_at held' v.values) s solved record {
        graph = omega (arith, view.graph, found.0, s.kinds_are.many);
        values = view.values;
        seen = subst (λ m. Serves v (graph_at shared m) g) (sym view.graph) see;
        same = refl;
      } (same_kinds kept stay (grows [] more grown) j x t s.kinds_are refl found (subst (λ z. IsShape z z.cells x t) at shape)))

-- the region is the first of the kind at the place
record IsFirst (regions : List Region) (kinds : List Kind) (j k : ℕ) : Type 0 where
  known : k < length regions
  shape : (kind : Kind) → get_or kinds j kind ≡ kind → Shaped regions k kind.shape.spots.items kind.turn

module _ (limits : Limits) (regions : List Region) where
  -- the kinds are as many as the shapes
  shapes_of : (shared : List Graph) (held : List (List ℕ)) (kinds : List Kind) (Ts : List Tree) → AreKinds limits regions shared held kinds Ts (length regions)
      → IsNumberOfShapes regions (length shared)
  shapes_of shared held kinds Ts s = record {
    firsts = firsts.0;
    many = firsts.1 ∙ s.many;
    known = λ j lt. (firsts.2 j (omega (arith, lt, s.many))).known;
    different = λ i j lt short same.
        let last : j < length kinds = omega (arith, short, s.many) in
        let first : i < length kinds = omega (arith, lt, last) in
        let (a, ia) = item_at kinds i first in
        let (b, ib) = item_at kinds j last in
        let apart = s.apart i j a lt last in
        let equal = (tells_shapes _ _ _ a.turn _ _ _ b.turn ((firsts.2 i first).shape a ia) ((firsts.2 j last).shape b ib)).1 same in
        apart (ap (λ k. k.shape.spots.items) ia ∙ equal ∙ sym (ap (λ k. k.shape.spots.items) (get_or_default kinds j a b last ∙ ib)));
    every = λ k lt.
        let (j, short, w) = s.every k lt in
        let (a, ia) = item_at kinds j short in
        let (t, shape) = w a ia in
        (j, omega (arith, short, s.many), (tells_shapes _ _ _ a.turn _ _ _ t ((firsts.2 j short).shape a ia) shape).0 refl);
  }
    where
      firsts : (ks : List ℕ) × (length ks ≡ length kinds) × ((j : ℕ) → j < length kinds → IsFirst regions kinds j (get_or ks j 0))
      firsts = chosen 0 (IsFirst regions kinds) (length kinds) (λ j lt.
          let (a, ia) = item_at kinds j lt in
          let k = s.each j a lt ia in
          (k.region, record { known = k.before; shape = λ b ib. subst (λ c. IsShape (region_at regions k.region) (region_at regions k.region).cells c.shape.spots.items c.turn) (sym ia ∙ get_or_default kinds j a b lt ∙ ib) k.shape }))

  pub shared_by : (book : Book) (kinds : List Kind) (Ts : List Tree) (n : ℕ) → n ≡ length regions
      → SharesBelow limits regions book.graphs.items book.values.items book.views.items kinds Ts n → AreSharedBy limits regions book Ts
  shared_by book kinds Ts n all s =
      let whole = subst (SharesBelow limits regions book.graphs.items book.values.items book.views.items kinds Ts) all s in
      record {
        graphs = whole.graphs;
        values = whole.values;
        solved = whole.solved;
        views_are = whole.views_are;
        shapes = shapes_of book.graphs.items book.values.items kinds Ts whole.kinds_are;
      }
