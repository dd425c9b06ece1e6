use Rattle.std.proofs.Common.{◌∙◌, ap, subst, sym, Some, Ok, Err}
use Rattle.sgf_go.specs.Values.{trimmed}
use Rattle.sgf_go.specs.Setup.{Follows, Moves, is_pass}
use Rattle.sgf_go.specs.declared.fault.SetupFault.TheVariants.{BadPoint}
use Rattle.sgf_go.proofs.PartLemmas.{chooses_pass, chooses_stone, chooses_nothing}
use Rattle.sgf_go.proofs.replay.Replay.play.Goals as goal

pub returns-then-is_pass_on-clause-follows : goal.returns-then-is_pass_on-clause-follows
returns-then-is_pass_on-clause-follows c = subst (λ s. Moves c.args.node (Some c.args.colour) (trimmed c.args.value.now) c.args.self.now (Ok s)) (sym c.count_move.ensures)
    (chooses_pass c.args.node c.args.colour (trimmed c.args.value.now) c.args.self.now (ap (is_pass c.args.self.now.board) (sym c.trim-text.ensures) ∙ sym (c.if-is_pass_on.ensures {u = tt})))

pub returns-in-Some-clause-follows : goal.returns-in-Some-clause-follows
returns-in-Some-clause-follows c = subst (λ t. Follows (Moves c.args.node (Some c.args.colour) t) c.args.self.now c.put_stone.new.self c.put_stone.result) c.trim-text.ensures
    (chooses_stone c.args.node c.args.colour c.trim-text.result.now c.in-Some.point c.args.self.now c.put_stone.new.self c.put_stone.result (sym (c.if-is_pass_on.ensures {u = tt})) (c.in-Some.ensures {u = tt}).value c.put_stone.ensures.follows)

pub returns-in-None-clause-follows : goal.returns-in-None-clause-follows
returns-in-None-clause-follows c = subst (λ t. Moves c.args.node (Some c.args.colour) t c.args.self.now (Err (BadPoint c.args.node))) c.trim-text.ensures
    (chooses_nothing c.args.node c.args.colour c.trim-text.result.now c.args.self.now (sym (c.if-is_pass_on.ensures {u = tt})) (c.in-None.ensures {u = tt}).value)
