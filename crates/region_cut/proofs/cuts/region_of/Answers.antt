use Rattle.std.proofs.Common.{arith, ap, ◌∙◌, length}
use Rattle.benson_life.proofs.HeldLemmas.{short}
use Rattle.region_cut.proofs.CutLemmas.{region_lists, region_inside, region_first, is_region_of_play, walled_in}
use Rattle.region_cut.proofs.cuts.region_of.Goals as goal

pub cells_of-requires : goal.cells_of-requires
cells_of-requires c =
    let lists = region_lists c.args.board.now c.args.within.now c.fill.result c.size-size.ensures.columns c.requires.within c.fill.ensures c.in_ok-points.ensures in
    λ k d. rw c.deref.ensures.value (region_inside c.args.board.now c.args.start lists k d)

pub touches_of-requires : goal.touches_of-requires
touches_of-requires c =
    let g = c.args.board.now in
    let lists = region_lists g c.args.within.now c.fill.result c.size-size.ensures.columns c.requires.within c.fill.ensures c.in_ok-points.ensures in
    let few = short c.in_ok-points.points.items (length g.cells) lists.ascending (region_inside g c.args.start lists) in record {
      short = rw c.deref-2.ensures.value (omega (arith, few, c.size-size.ensures.most));
      points = λ k d. rw (c.deref-2.ensures.value, c.size-size.ensures.area) (region_inside g c.args.start lists k d);
      black = λ p m. let alive = (c.requires.black p).0 m in rw c.size-size.ensures.area (alive.1.stones p alive.2).0;
      white = λ p m. let alive = (c.requires.white p).0 m in rw c.size-size.ensures.area (alive.1.stones p alive.2).0;
    }

pub returns-clause-region : goal.returns-clause-region
returns-clause-region c =
    let g = c.args.board.now in
    let lists = region_lists g c.args.within.now c.fill.result c.size-size.ensures.columns c.requires.within c.fill.ensures c.in_ok-points.ensures in
    is_region_of_play g c.args.start lists c.requires.contested c.in_ok-cells.cells.items c.in_ok-touch.touch.items
    c.size-size.ensures.columns c.size-size.ensures.rows c.size-size.ensures.grid.full
    (c.in_ok-cells.ensures.long ∙ ap length c.deref.ensures.value) (c.in_ok-touch.ensures.long ∙ ap length c.deref-2.ensures.value)
    (rw c.deref-2.ensures.value at c.in_ok-touch.ensures.each) c.requires.lowest (rw c.deref.ensures.value at c.in_ok-cells.ensures.each)
    c.requires.black c.requires.white

pub invariant_of-result : goal.invariant_of-result
invariant_of-result c = (returns-clause-region c).proper

pub returns-clause-walled : goal.returns-clause-walled
returns-clause-walled c =
    walled_in c.args.board.now _ c.args.black.now c.args.white.now c.requires.black c.requires.white c.requires.settled.closed (returns-clause-region c)

pub returns-clause-named : goal.returns-clause-named
returns-clause-named c =
    region_first c.args.board.now c.args.start
    (region_lists c.args.board.now c.args.within.now c.fill.result c.size-size.ensures.columns c.requires.within c.fill.ensures c.in_ok-points.ensures)
    c.requires.contested c.requires.lowest
