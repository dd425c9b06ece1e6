use Rattle.std.proofs.Common.{◌*◌, ◌<◌}
use Rattle.std.proofs.lemmas.List.Elements.{All-contains}
use Rattle.region_cut.proofs.CutLemmas.{links_from}
use Rattle.region_cut.proofs.region_touches.touch_of.Goals as goal

pub returns : goal.returns
returns c =
    let k = c.args.size.columns in
    let area = k * c.args.size.rows in
    let near = c.neighbours-near.result in
    record {
      black = c.touches.ensures;
      white = c.touches-2.ensures;
      links = links_from k area c.args.point c.args.points.now near.up near.left near.right near.down
          (record {
            black = c.touches.result;
            white = c.touches-2.result;
            up = c.place_of.result;
            left = c.place_of-2.result;
            right = c.place_of-3.result;
            down = c.place_of-4.result;
          })
          (λ q h. All-contains (λ p. p < area) c.args.points.now q c.requires.points h)
          c.neighbours-near.ensures.near c.place_of.ensures c.place_of-2.ensures c.place_of-3.ensures c.place_of-4.ensures;
    }
