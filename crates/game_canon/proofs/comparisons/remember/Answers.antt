use Rattle.std.proofs.Common.{sym, ◌∙◌}
use Rattle.game_canon.specs.FormComparisons.{has_place}
use Rattle.game_canon.proofs.TableLaws.{noted-far}
use Rattle.game_canon.proofs.comparisons.remember.Goals as goal

pub returns-clause-noted : goal.returns-clause-noted
returns-clause-noted c = noted-far (has_place c.args.memo.now.near.items) _ _ _ c.args.a c.args.b c.args.answer (sym c.has_place.ensures ∙ c.if-has_place.false)
    (λ x y. c.in_ok-insert.ensures.updates.0 (x, y))
