use Rattle.std.proofs.Common.{arith, ◌≡◌, ◌<◌, ◌^◌, ◌++◌, [], ◌∷◌, ◌∙◌, refl, sym, ap, subst, inl, length, drop}
use Rattle.std.proofs.lemmas.Result.{err_from_is_err_and}
use Rattle.std.proofs.lemmas.List.Elements.{Contains-push}
use Rattle.std.proofs.lemmas.List.{length-map}
use Rattle.local_play.specs.GivenMoves.{tries_left}
use Rattle.local_play.proofs.ListLemmas.{given_legal}
use Rattle.local_graph.specs.declared.graph.Edge.{Edge}
use Rattle.local_graph.specs.inner.Found.{AreAwaited}
use Rattle.local_graph.specs.inner.Graph.{lists_of, part}
use Rattle.local_graph.specs.inner.PlaceTable.{AddsDigit}
use Rattle.local_graph.proofs.ExploreLemmas.{edges_from, edges_err, move_numbered}
use Rattle.local_graph.proofs.FoundLemmas.{linking_start, linking_edge}
use Rattle.local_graph.proofs.NotingLemmas.{noted_none, noted_edge, noted_places, noted_seen, noted_spans, grown_more}
use Rattle.local_graph.proofs.NumberLemmas.{move_follows, small_number}
use Rattle.local_graph.proofs.graph_build.list_position.Goals as goal

pub turns-init : goal.turns-init
turns-init g c = record {
  given = [];
  have = c.of-moves.ensures.none;
  behind = [];
  noted = noted_none c.args.table.now.positions.items c.args.found.now c.requires.spans;
  linking = linking_start _ c.args.limit c.requires.once c.requires.few;
  table = c.requires.table;
  numbers = refl;
}

pub number_after-after-requires-clause-small : goal.number_after-after-requires-clause-small
number_after-after-requires-clause-small g c =
    let p = c.requires.position in
    subst (λ n. n < 3 ^ 32) (sym c.threes-number.ensures) (small_number p.cells c.args.position (length p.cells) refl p.few p.packed)

pub number_after-after-requires-clause-follows : goal.number_after-after-requires-clause-follows
number_after-after-requires-clause-follows g c =
    let p = c.requires.position in
    let so_far = c.linking.invariant in
    let have = c.in-Some.ensures.given p.touch p.cells so_far.given p.table (so_far.have p.touch p.cells p.table p.long p.packed) in
    let legal = given_legal p.touch p.cells _ c.next.new.self have c.in-Some.step (Contains-push so_far.given c.in-Some.step) in
    subst (λ n. AddsDigit n c.in-Some.step) (sym c.threes-number.ensures) (move_follows p.touch p.cells c.args.position c.in-Some.step p.few p.packed legal)

pub place_of-requires-clause-numbered : goal.place_of-requires-clause-numbered
place_of-requires-clause-numbered g c =
    let p = c.requires.position in
    let so_far = c.linking.invariant in
    let have = c.in-Some.ensures.given p.touch p.cells so_far.given p.table (so_far.have p.touch p.cells p.table p.long p.packed) in
    let legal = given_legal p.touch p.cells _ c.next.new.self have c.in-Some.step (Contains-push so_far.given c.in-Some.step) in
    move_numbered p.touch p.cells c.in-Some.step c.linking.table.numbers legal p.few (so_far.numbers ∙ p.numbers)

pub linking-preserved-in-Some-place_of : goal.linking-preserved-in-Some-place_of
linking-preserved-in-Some-place_of g c =
    let found = c.in-Some-place_of.ensures.found in
    let so_far = c.linking.invariant in
    record {
      given = so_far.given ++ c.in-Some.step ∷ [];
      have = λ touch cells table long packed. c.in-Some.ensures.given touch cells so_far.given table (so_far.have touch cells table long packed);
      behind = so_far.behind ++ c.edge_of.result ∷ [];
      noted = noted_edge _ so_far.behind c.args.found.now c.linking.found c.note.new.self so_far.noted c.edge_of.result c.in_ok-note.ensures;
      linking = linking_edge c.args.table.now.positions.items c.linking.table.positions.items c.linking.table.positions.items so_far.given c.args.limit
          so_far.behind c.in-Some.step c.edge_of.result c.in-Some-place_of.place so_far.linking
          (inl refl) so_far.linking.few found.0 found.1 c.edge_of.ensures;
      table = so_far.table;
      numbers = so_far.numbers;
      fewer = omega (arith, c.in-Some.ensures.fewer, so_far.fewer);
    }

pub note-requires-clause-next : goal.note-requires-clause-next
note-requires-clause-next g c =
    let so_far = c.linking.invariant in
    let found = c.in-Some-place_of.ensures.found in
    let seen = noted_seen _ so_far.behind c.args.found.now c.linking.found so_far.noted (omega (arith, c.requires.spans, c.requires.visits)) in
    omega (arith, found.0, seen, ap (λ (e : Edge). e.next) c.edge_of.ensures)

pub note-requires-clause-few : goal.note-requires-clause-few
note-requires-clause-few g c =
    let so_far = c.linking.invariant in
    let seen = noted_seen _ so_far.behind c.args.found.now c.linking.found so_far.noted (omega (arith, c.requires.spans, c.requires.visits)) in
    omega (arith, seen, so_far.linking.few, c.ranges.limit.fits)

pub await_new-requires : goal.await_new-requires
await_new-requires g c =
    let so_far = c.linking.invariant in
    let spans = noted_spans _ so_far.behind c.args.found.now c.linking.found so_far.noted in
    let more = grown_more _ _ _ c.in_ok-place.ensures.placed.0 in
    omega (arith, spans, more, c.len.ensures, c.new_place.new.table.positions.ok)

pub note-requires-in-Some-clause-next : goal.note-requires-in-Some-clause-next
note-requires-in-Some-clause-next g c =
    let so_far = c.linking.invariant in
    let placed = c.in_ok-place.ensures.placed in
    let before = noted_seen _ so_far.behind c.args.found.now c.linking.found so_far.noted (omega (arith, c.requires.spans, c.requires.visits)) in
    let spans = noted_spans _ so_far.behind c.args.found.now c.linking.found so_far.noted in
    let seen = (c.in_ok-await_new.ensures.awaited []).seen in
    omega (
      arith,
      placed.1,
      before,
      spans,
      seen,
      length-map c.linking.found.spans.items (part []),
      c.len.ensures,
      c.new_place.new.table.positions.ok,
      ap (λ (e : Edge). e.next) c.edge_of-in-Some.ensures,
    )

pub note-requires-in-Some-clause-few : goal.note-requires-in-Some-clause-few
note-requires-in-Some-clause-few g c =
    let so_far = c.linking.invariant in
    let placed = c.in_ok-place.ensures.placed in
    let before = noted_seen _ so_far.behind c.args.found.now c.linking.found so_far.noted (omega (arith, c.requires.spans, c.requires.visits)) in
    let spans = noted_spans _ so_far.behind c.args.found.now c.linking.found so_far.noted in
    let seen = (c.in_ok-await_new.ensures.awaited []).seen in
    omega (
      arith,
      before,
      spans,
      seen,
      length-map c.linking.found.spans.items (part []),
      c.len.ensures,
      c.new_place.new.table.positions.ok,
      placed.3,
      c.ranges.limit.fits,
    )

pub new_place-requires-clause-numbered : goal.new_place-requires-clause-numbered
new_place-requires-clause-numbered g c =
    let p = c.requires.position in
    let so_far = c.linking.invariant in
    let have = c.in-Some.ensures.given p.touch p.cells so_far.given p.table (so_far.have p.touch p.cells p.table p.long p.packed) in
    let legal = given_legal p.touch p.cells _ c.next.new.self have c.in-Some.step (Contains-push so_far.given c.in-Some.step) in
    move_numbered p.touch p.cells c.in-Some.step c.linking.table.numbers legal p.few (so_far.numbers ∙ p.numbers)

pub returns-in_err-place-clause-edges : goal.returns-in_err-place-clause-edges
returns-in_err-place-clause-edges g c touch cells table long packed =
    let e = err_from_is_err_and c.from_residual-in_err-place.result c.from_residual-in_err-place.ensures.1 in
    let so_far = c.linking.invariant in
    let have = c.in-Some.ensures.given touch cells so_far.given table (so_far.have touch cells table long packed) in
    rw (e.1, e.2)
    (edges_err touch cells _ _ _ so_far.given _ so_far.behind (drop (length c.args.found.now.edges) c.linking.found.edges) c.in-Some.step _
    (given_legal touch cells _ c.next.new.self have) so_far.linking c.in_err-place.ensures.placed)

pub linking-preserved : goal.linking-preserved
linking-preserved g c =
    let placed = c.in_ok-place.ensures.placed in
    let so_far = c.linking.invariant in
    let full : c.len.result ≡ length c.new_place.new.table.positions.items = omega (arith, c.len.ensures, c.new_place.new.table.positions.ok) in
    record {
      given = so_far.given ++ c.in-Some.step ∷ [];
      have = λ touch cells table long packed. c.in-Some.ensures.given touch cells so_far.given table (so_far.have touch cells table long packed);
      behind = so_far.behind ++ c.edge_of-in-Some.result ∷ [];
      noted = noted_edge _ so_far.behind c.args.found.now _ c.note-in-Some.new.self
          (noted_places _ so_far.behind c.args.found.now c.linking.found _ so_far.noted _
          (λ edges. subst (λ n. AreAwaited (lists_of edges c.linking.found.spans.items) c.linking.found.walk.visits.items n
          (lists_of edges c.await_new.new.spans.items) c.await_new.new.visits.items) full (c.in_ok-await_new.ensures.awaited edges))
          c.in_ok-await_new.ensures.within refl refl refl refl) c.edge_of-in-Some.result c.in_ok-note-2.ensures;
      linking = linking_edge c.args.table.now.positions.items c.linking.table.positions.items c.new_place.new.table.positions.items so_far.given c.args.limit
          so_far.behind c.in-Some.step c.edge_of-in-Some.result c.in_ok-place.place so_far.linking
          placed.0 placed.3 placed.1 placed.2 c.edge_of-in-Some.ensures;
      table = c.in_ok-place.ensures.table;
      numbers = c.in_ok-place.ensures.numbers ∙ so_far.numbers;
      fewer = omega (arith, c.in-Some.ensures.fewer, so_far.fewer);
    }

pub returns-then-not-pass_on-clause-edges : goal.returns-then-not-pass_on-clause-edges
returns-then-not-pass_on-clause-edges g c touch cells table long packed =
    let so_far = c.linking.invariant in
    let turn = c.in_default.ensures.given touch cells so_far.given table (so_far.have touch cells table long packed) in
    edges_from touch cells _ _ _ so_far.given _ _ so_far.behind tt (c.if-not-pass_on.ensures.given touch cells so_far.given turn)
    so_far.noted.edges so_far.linking

pub turns-preserved : goal.turns-preserved
turns-preserved g c =
    let so_far = c.linking.invariant in
    record {
      given = so_far.given;
      have = λ touch cells table long packed.
          let turn = c.in_default.ensures.given touch cells so_far.given table (so_far.have touch cells table long packed) in
          c.if-not-pass_on.ensures.given touch cells so_far.given turn;
      behind = so_far.behind;
      noted = so_far.noted;
      linking = so_far.linking;
      table = so_far.table;
      numbers = so_far.numbers;
    }

pub turns-smaller : goal.turns-smaller
turns-smaller g c =
    let falls : tries_left c.pass_on.new.self < tries_left c.next.new.self = c.if-not-pass_on.ensures.fewer refl in
    omega (arith, falls, c.in_default.ensures.fewer, c.linking.invariant.fewer)
