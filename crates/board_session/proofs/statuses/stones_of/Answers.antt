use Rattle.std.proofs.Common.{subst, sym}
use Rattle.go_grid.specs.Board.{IsEmpty}
use Rattle.go_grid.specs.Marks.{Marks}
use Rattle.go_grid.specs.declared.grid.Colour.{Colour}
use Rattle.benson_life.specs.Life.{IsAlive, IsCounted}
use Rattle.board_session.specs.Analysing.{HasStatus}
use Rattle.board_session.proofs.AnalysisLemmas.{of_either, of_stones}
use Rattle.board_session.proofs.statuses.stones_of.Goals as goal

pub returns-in-Alive : goal.returns-in-Alive
returns-in-Alive c =
    let g = c.args.board.now in let territory = c.args.territory.now in
    subst (λ x. Marks c.union.result (HasStatus x g)) (sym c.in-Alive.is)
    (of_either (IsAlive g) territory.black.alive territory.white.alive c.union.result c.requires.black.alive c.requires.white.alive c.union.ensures)

pub returns-in-Dead : goal.returns-in-Dead
returns-in-Dead c =
    let g = c.args.board.now in let territory = c.args.territory.now in
    let counted = of_either (IsCounted g) territory.black.counted territory.white.counted c.union-in-Dead.result c.requires.black.counted c.requires.white.counted c.union-in-Dead.ensures in
    subst (λ x. Marks c.difference.result (HasStatus x g)) (sym c.in-Dead.is)
    (of_stones (λ p. (d : Colour) × IsCounted g d p) (IsEmpty g) c.union-in-Dead.result c.empties.result c.difference.result counted c.empties.ensures c.difference.ensures)
