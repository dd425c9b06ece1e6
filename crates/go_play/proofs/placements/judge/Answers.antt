use Rattle.std.proofs.Common.{sym, ◌∙◌}
use Rattle.std.proofs.lemmas.Bool.{both_ways}
use Rattle.go_play.specs.Place.{IsTaken}
use Rattle.go_play.specs.inner.Place.{with_stone}
use Rattle.go_play.proofs.StripLemmas.{strip, without_stripped}
use Rattle.go_play.proofs.placements.judge.Goals as goal

pub returns-else-stands : goal.returns-else-stands
returns-else-stands c =
    let b = with_stone c.args.board.now c.args.point c.args.colour in
    let w = without_stripped b.cells (IsTaken c.args.board.now c.args.point c.args.colour) c.taken-taken.result c.taken-taken.ensures in (
      (c.requires, sym c.get.ensures ∙ c.is.ensures.0 c.if-not-is.false),
      (strip c.taken-taken.result b.cells, w, λ l. both_ways _ c.if-stands.false ((c.stands.ensures _ w).1 l)),
    )
