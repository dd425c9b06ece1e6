use Rattle.go_grid.specs.Board.{HasStone}
use Rattle.go_grid.proofs.WalkLemmas.{marks_joined}
use Rattle.go_grid.proofs.boards.Board.chain.Goals as goal

pub returns : goal.returns
returns c =
    marks_joined c.args.self.now.columns c.args.stone c.stones.result c.fill.result
    (HasStone c.args.self.now c.args.colour) c.stones.ensures (λ p. rw c.size.ensures.columns at (c.fill.ensures p))
