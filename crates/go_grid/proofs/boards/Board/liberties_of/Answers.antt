use Rattle.std.proofs.Common.{subst}
use Rattle.std.proofs.lemmas.Result.{IfOk-weaker}
use Rattle.go_grid.specs.declared.grid.Colour.{Colour}
use Rattle.go_grid.specs.Board.{HasStone}
use Rattle.go_grid.specs.Chain.{IsLiberty}
use Rattle.go_grid.specs.Marks.{IsMarked, Lists}
use Rattle.go_grid.proofs.BoardLemmas.{one_colour}
use Rattle.go_grid.proofs.PointsLemmas.{lists_same}
use Rattle.go_grid.proofs.boards.Board.liberties_of.Goals as goal

pub returns : goal.returns
returns c =
    let g = c.args.self.now in
    IfOk-weaker c.to_list.result (λ points. Lists points.items (IsMarked c.liberties.result))
    (λ points. (d : Colour) → HasStone g d c.args.point → Lists points.items (IsLiberty g d c.args.point))
    (λ points l d h.
    subst (λ (e : Colour). Lists points.items (IsLiberty g e c.args.point))
    (one_colour g _ d c.args.point c.in-Some.ensures h)
    (lists_same points.items (IsMarked c.liberties.result) (IsLiberty g c.in-Some.colour c.args.point) l c.liberties.ensures))
    c.to_list.ensures
