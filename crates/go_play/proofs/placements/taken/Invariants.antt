use Rattle.go_grid.specs.Board.{other}
use Rattle.go_grid.specs.Marks.{Marks}
use Rattle.go_grid.proofs.PointsLemmas.{Noted}
use Rattle.go_play.specs.inner.Place.{with_stone}
use Rattle.go_play.specs.inner.Tried.{AreJudged}
use Rattle.go_play.proofs.PlaceLemmas.{Loses}
use Rattle.go_play.proofs.placements.taken.Given as goal

abbrev pub invariant-loop-stone : goal.invariant-loop-stone
invariant-loop-stone l =
    Marks l.taken (Noted (Loses l.board l.point l.colour l.stone-items) l.stone-index)
    × AreJudged (with_stone l.board l.point l.colour) (other l.colour) l.judged l.taken
