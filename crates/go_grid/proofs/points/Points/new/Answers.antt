use Rattle.go_grid.proofs.PointsLemmas.{none_marked}
use Rattle.go_grid.proofs.points.Points.new.Goals as goal

pub returns : goal.returns
returns c p = (λ m. none_marked 625 p (rw c.blank.ensures at m), λ e. absurd e)
