use Rattle.std.proofs.Common.{sym, ◌∙◌}
use Rattle.region_book.proofs.SpotLaws.{same_spots}
use Rattle.cycle_solver.proofs.shapes.is_same.Goals as goal

pub returns : goal.returns
returns c =
    let same = same_spots c.args.a.now.spots.items c.args.b.now.spots.items in
    (λ t. same.0 (sym c.eq.ensures ∙ t), λ e. c.eq.ensures ∙ same.1 e)
