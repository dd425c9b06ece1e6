use Rattle.std.proofs.Common.{◌*◌, subst, sym}
use Rattle.std.proofs.lemmas.List.{get_or_read}
use Rattle.go_grid.specs.declared.region.Touch.{Touch}
use Rattle.go_grid.specs.Region.{AreLinks}
use Rattle.drawings.proofs.JoinedLaws.{links_from}
use Rattle.drawings.proofs.joined_regions.touch_of.Goals as goal

pub neighbours-near-requires : goal.neighbours-near-requires
neighbours-near-requires c = c.requires.inside c.index-points-place.result (c.args.place, c.requires.place, sym c.index-points-place.is)

pub returns : goal.returns
returns c =
    let near = c.neighbours-near.result in
    let points = c.args.points.now in
    let touch : Touch = record {
      black = c.is_marked.result;
      white = c.is_marked-2.result;
      up = c.place_of.result;
      left = c.place_of-2.result;
      right = c.place_of-3.result;
      down = c.place_of-4.result;
    } in
    let read = get_or_read points c.args.place c.index-points-place.result c.requires.place c.index-points-place.is 0 in
    subst (λ p. AreLinks c.args.size.columns points p touch) read
    (links_from c.args.size.columns (c.args.size.columns * c.args.size.rows) c.index-points-place.result points near.up near.left near.right
    near.down touch c.requires.inside c.neighbours-near.ensures.near (c.place_of.ensures.some, c.place_of.ensures.none)
    (c.place_of-2.ensures.some, c.place_of-2.ensures.none) (c.place_of-3.ensures.some, c.place_of-3.ensures.none)
    (c.place_of-4.ensures.some, c.place_of-4.ensures.none))
