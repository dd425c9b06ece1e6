use Rattle.std.proofs.Common.{arith, refl}
use Rattle.game_calc.proofs.TurnSteps.{line-start}
use Rattle.game_calc.proofs.expressions.read_line.Goals as goal

pub reading-init : goal.reading-init
reading-init c = (
  line-start c.args.pass c.args.store.now c.args.parts_limit c.args.text.now c.sum_start-step.result.at c.sum_start-step.result.place c.new.result.items _ c.new.ensures.items refl c.sum_start-step.ensures.place c.sum_start-step.ensures.bytes c.sum_start-step.ensures.within,
  record { longer = omega arith; same = λ i l. refl },
)
