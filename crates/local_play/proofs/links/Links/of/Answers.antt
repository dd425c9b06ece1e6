use Rattle.std.proofs.Common.{◌≡◌, ◌∙◌, ◌<◌, ◌≤◌, sym, ap, arith, length}
use Rattle.std.proofs.lemmas.List.{get_or_default}
use Rattle.go_grid.specs.Region.{nothing_near, touch_at}
use Rattle.local_play.proofs.LinkLemmas.{link_small, table_end}
use Rattle.local_play.proofs.links.Links.of.Goals as goal

pub loop-place-init : goal.loop-place-init
loop-place-init c = c.none-links.ensures c.args.region.now.touch

pub add-requires-clause-within : goal.add-requires-clause-within
add-requires-clause-within c =
    let inside = c.shape.inside in
    let few : length inside.points.items ≤ 32 = omega (arith, c.requires, ap (λ s. length s.points) c.shape.view_is) in
    let short : c.loop-place.place < length inside.touch.items = omega (arith, inside.touch.ok, c.len-place-end.ensures) in
    let at : c.index.result.now ≡ touch_at inside.touch.items c.loop-place.place =
    sym (get_or_default inside.touch.items c.loop-place.place nothing_near c.index.result.now short ∙ sym c.index.ensures) in
    link_small inside.size.columns inside.size.rows inside.points.items inside.cells.items inside.touch.items c.index.result.now
    c.loop-place.place c.shape.invariant few at

pub loop-place-preserved : goal.loop-place-preserved
loop-place-preserved c =
    let inside = c.shape.inside in
    let short : c.loop-place.place < length inside.touch.items = omega (arith, inside.touch.ok, c.len-place-end.ensures) in
    let at : c.index.result.now ≡ touch_at inside.touch.items c.loop-place.place =
    sym (get_or_default inside.touch.items c.loop-place.place nothing_near c.index.result.now short ∙ sym c.index.ensures) in
    c.add.ensures c.args.region.now.touch (at ∙ ap (λ s. touch_at s.touch c.loop-place.place) c.shape.view_is) c.loop-place.invariant

pub returns-clause-full : goal.returns-clause-full
returns-clause-full c =
    omega (arith, c.shape.invariant.beside, ap (λ s. length s.points) c.shape.view_is, ap (λ s. length s.touch) c.shape.view_is)

pub returns-clause-table : goal.returns-clause-table
returns-clause-table c =
    let inside = c.shape.inside in
    let few : length inside.points.items ≤ 32 = omega (arith, c.requires, ap (λ s. length s.points) c.shape.view_is) in
    let all : c.loop-place.place ≡ length inside.touch.items =
    omega (arith, inside.touch.ok, c.len-place-end.ensures, c.loop-place.auto.place-end, c.loop-place-test.false) in
    table_end inside.size.columns inside.size.rows inside.points.items inside.cells.items inside.touch.items c.args.region.now.touch
    c.loop-place.links c.loop-place.place c.shape.invariant few (ap (λ s. s.touch) c.shape.view_is) all c.loop-place.invariant
