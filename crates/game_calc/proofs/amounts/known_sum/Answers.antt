use Rattle.std.proofs.Common.{subst}
use Rattle.short_games.specs.Tree.{tree_at}
use Rattle.game_calc.specs.Steps.{IsStepRefusal}
use Rattle.game_calc.proofs.AmountSteps.{sum-known, sum-refused}
use Rattle.game_calc.proofs.amounts.known_sum.Goals as goal

pub returns-in-Ok-clause-amount : goal.returns-in-Ok-clause-amount
returns-in-Ok-clause-amount c = λ E F f s. sum-known c.args.store.now c.args.parts_limit E F c.args.a c.args.b f s c.add.new.store c.in-Ok.id c.in-Ok.ensures.value c.in-Ok.ensures.within

pub returns-in-Err-Parts-clause-amount : goal.returns-in-Err-Parts-clause-amount
returns-in-Err-Parts-clause-amount c = λ E F f s. sum-refused c.args.store.now c.args.parts_limit E F c.args.a c.args.b f s c.add.new.store (subst (IsStepRefusal c.args.parts_limit (tree_at c.args.store.now c.args.a) (tree_at c.args.store.now c.args.b)) c.in-Err-Parts.field-0-is c.in-Err-Parts.ensures.refusal)

pub returns-in-Err-Bounds-clause-amount : goal.returns-in-Err-Bounds-clause-amount
returns-in-Err-Bounds-clause-amount c = λ E F f s. sum-refused c.args.store.now c.args.parts_limit E F c.args.a c.args.b f s c.add.new.store (subst (IsStepRefusal c.args.parts_limit (tree_at c.args.store.now c.args.a) (tree_at c.args.store.now c.args.b)) c.in-Err-Bounds.field-0-is c.in-Err-Bounds.ensures.refusal)

pub returns-in-Ok-clause-kept : goal.returns-in-Ok-clause-kept
returns-in-Ok-clause-kept c = c.add.ensures.kept

pub returns-in-Err-Parts-clause-kept : goal.returns-in-Err-Parts-clause-kept
returns-in-Err-Parts-clause-kept c = c.add.ensures.kept

pub returns-in-Err-Bounds-clause-kept : goal.returns-in-Err-Bounds-clause-kept
returns-in-Err-Bounds-clause-kept c = c.add.ensures.kept

pub returns-in-Err-Memory-clause-kept : goal.returns-in-Err-Memory-clause-kept
returns-in-Err-Memory-clause-kept c = c.add.ensures.kept
