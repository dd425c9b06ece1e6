use Rattle.std.proofs.Common.{◌∙◌}
use Rattle.std.proofs.lemmas.List.Sorted.{length_permutation}
use Rattle.region_book.proofs.MadeLaws.{least_of_one, sorted_image}
use Rattle.region_book.proofs.images.image_of.Goals as goal

pub returns : goal.returns
returns c =
    let spots = c.in_ok-spots.ensures in
    let moved = c.sort_unstable.ensures.permutation in
    least_of_one c.args.region.now c.args.cells.now _
    (sorted_image c.args.region.now c.args.cells.now c.args.symmetry c.args.colours c.begin-begin.result.column c.begin-begin.result.row
    c.in_ok-spots.spots.items c.sort_unstable.new.self.items c.begin-begin.ensures.board c.begin-begin.ensures.begins spots moved
    c.sort_unstable.ensures.sorted)
    (length_permutation c.in_ok-spots.spots.items c.sort_unstable.new.self.items moved ∙ spots.0) c.begin-begin.ensures.board
