use Rattle.std.proofs.Common.{ap, of_z, refl, subst, sym, to_z, w64}
use Rattle.board_orders.specs.Orders.{FitsOne}
use Rattle.board_orders.specs.Orders.BoardOrder.{ask, boardsize, fixed_handicap, genmove, komi, reg_genmove}
use Rattle.board_orders.specs.declared.question.Question.TheVariants as question
use Rattle.board_orders.proofs.KeptLemmas.{modest_komi, same_komi}
use Rattle.board_orders.proofs.NameLemmas.{at_none}
use Rattle.board_orders.proofs.request.with_one.Goals as goal

pub returns-in_ok-read_komi-in-Komi-clause-some : goal.returns-in_ok-read_komi-in-Komi-clause-some
returns-in_ok-read_komi-in-Komi-clause-some c =
    let halves = c.in_ok-read_komi-in-Komi.field-0 in
    subst (λ k. FitsOne k c.args.word.now (komi (to_z w64 (of_z w64 halves)))) (sym c.in-Komi.is) (halves, c.in_ok-read_komi-in-Komi.ensures.some, ap komi (same_komi halves (modest_komi halves c.in_ok-read_komi-in-Komi.ensures.range)))

pub returns-in_err-read_komi-in-Komi-clause-none : goal.returns-in_err-read_komi-in-Komi-clause-none
returns-in_err-read_komi-in-Komi-clause-none c =
    at_none _ _ c.from_residual-in_err-read_komi-in-Komi.ensures (λ order fits. let h = subst (λ k. FitsOne k c.args.word.now order) c.in-Komi.is fits in c.in_err-read_komi-in-Komi.ensures.none h.0 h.1)

pub returns-in_ok-read_number-in-BoardSize-clause-some : goal.returns-in_ok-read_number-in-BoardSize-clause-some
returns-in_ok-read_number-in-BoardSize-clause-some c = subst (λ k. FitsOne k c.args.word.now (boardsize c.in_ok-read_number-in-BoardSize.field-0)) (sym c.in-BoardSize.is) (c.in_ok-read_number-in-BoardSize.field-0, c.in_ok-read_number-in-BoardSize.ensures.some, refl)

pub returns-in_err-read_number-in-BoardSize-clause-none : goal.returns-in_err-read_number-in-BoardSize-clause-none
returns-in_err-read_number-in-BoardSize-clause-none c =
    at_none _ _ c.from_residual.ensures (λ order fits. let h = subst (λ k. FitsOne k c.args.word.now order) c.in-BoardSize.is fits in c.in_err-read_number-in-BoardSize.ensures.none h.0 h.1)

pub returns-in_ok-read_colour-in-GenMove-clause-some : goal.returns-in_ok-read_colour-in-GenMove-clause-some
returns-in_ok-read_colour-in-GenMove-clause-some c = subst (λ k. FitsOne k c.args.word.now (genmove c.in_ok-read_colour-in-GenMove.field-0)) (sym c.in-GenMove.is) (c.in_ok-read_colour-in-GenMove.field-0, c.in_ok-read_colour-in-GenMove.ensures.some, refl)

pub returns-in_err-read_colour-in-GenMove-clause-none : goal.returns-in_err-read_colour-in-GenMove-clause-none
returns-in_err-read_colour-in-GenMove-clause-none c =
    at_none _ _ c.from_residual-in_err-read_colour-in-GenMove.ensures (λ order fits. let h = subst (λ k. FitsOne k c.args.word.now order) c.in-GenMove.is fits in c.in_err-read_colour-in-GenMove.ensures.none h.0 h.1)

pub returns-in_ok-read_colour-in-RegGenMove-clause-some : goal.returns-in_ok-read_colour-in-RegGenMove-clause-some
returns-in_ok-read_colour-in-RegGenMove-clause-some c = subst (λ k. FitsOne k c.args.word.now (reg_genmove c.in_ok-read_colour-in-RegGenMove.field-0)) (sym c.in-RegGenMove.is) (c.in_ok-read_colour-in-RegGenMove.field-0, c.in_ok-read_colour-in-RegGenMove.ensures.some, refl)

pub returns-in_err-read_colour-in-RegGenMove-clause-none : goal.returns-in_err-read_colour-in-RegGenMove-clause-none
returns-in_err-read_colour-in-RegGenMove-clause-none c =
    at_none _ _ c.from_residual-in_err-read_colour-in-RegGenMove.ensures (λ order fits. let h = subst (λ k. FitsOne k c.args.word.now order) c.in-RegGenMove.is fits in c.in_err-read_colour-in-RegGenMove.ensures.none h.0 h.1)

pub returns-in_ok-read_colour-in-ListStones-clause-some : goal.returns-in_ok-read_colour-in-ListStones-clause-some
returns-in_ok-read_colour-in-ListStones-clause-some c = subst (λ k. FitsOne k c.args.word.now (ask (question.Stones c.in_ok-read_colour-in-ListStones.field-0))) (sym c.in-ListStones.is) (c.in_ok-read_colour-in-ListStones.field-0, c.in_ok-read_colour-in-ListStones.ensures.some, refl)

pub returns-in_err-read_colour-in-ListStones-clause-none : goal.returns-in_err-read_colour-in-ListStones-clause-none
returns-in_err-read_colour-in-ListStones-clause-none c =
    at_none _ _ c.from_residual-in_err-read_colour-in-ListStones.ensures (λ order fits. let h = subst (λ k. FitsOne k c.args.word.now order) c.in-ListStones.is fits in c.in_err-read_colour-in-ListStones.ensures.none h.0 h.1)

pub returns-in_ok-read_colour-in-Captures-clause-some : goal.returns-in_ok-read_colour-in-Captures-clause-some
returns-in_ok-read_colour-in-Captures-clause-some c = subst (λ k. FitsOne k c.args.word.now (ask (question.Captures c.in_ok-read_colour-in-Captures.field-0))) (sym c.in-Captures.is) (c.in_ok-read_colour-in-Captures.field-0, c.in_ok-read_colour-in-Captures.ensures.some, refl)

pub returns-in_err-read_colour-in-Captures-clause-none : goal.returns-in_err-read_colour-in-Captures-clause-none
returns-in_err-read_colour-in-Captures-clause-none c =
    at_none _ _ c.from_residual-in_err-read_colour-in-Captures.ensures (λ order fits. let h = subst (λ k. FitsOne k c.args.word.now order) c.in-Captures.is fits in c.in_err-read_colour-in-Captures.ensures.none h.0 h.1)

pub returns-in_ok-read_number-in-FixedHandicap-clause-some : goal.returns-in_ok-read_number-in-FixedHandicap-clause-some
returns-in_ok-read_number-in-FixedHandicap-clause-some c = subst (λ k. FitsOne k c.args.word.now (fixed_handicap c.in_ok-read_number-in-FixedHandicap.field-0)) (sym c.in-FixedHandicap.is) (c.in_ok-read_number-in-FixedHandicap.field-0, c.in_ok-read_number-in-FixedHandicap.ensures.some, refl)

pub returns-in_err-read_number-in-FixedHandicap-clause-none : goal.returns-in_err-read_number-in-FixedHandicap-clause-none
returns-in_err-read_number-in-FixedHandicap-clause-none c =
    at_none _ _ c.from_residual-in_err-read_number-in-FixedHandicap.ensures (λ order fits. let h = subst (λ k. FitsOne k c.args.word.now order) c.in-FixedHandicap.is fits in c.in_err-read_number-in-FixedHandicap.ensures.none h.0 h.1)

pub returns-in_err-_level-in-Level-clause-none : goal.returns-in_err-_level-in-Level-clause-none
returns-in_err-_level-in-Level-clause-none c =
    at_none _ _ c.from_residual-in_err-_level-in-Level.ensures (λ order fits. let h = subst (λ k. FitsOne k c.args.word.now order) c.in-Level.is fits in c.in_err-_level-in-Level.ensures.none h.0 h.1)

pub returns-in_err-_number-in-Undo-clause-none : goal.returns-in_err-_number-in-Undo-clause-none
returns-in_err-_number-in-Undo-clause-none c =
    at_none _ _ c.from_residual-in_err-_number-in-Undo.ensures (λ order fits. let h = subst (λ k. FitsOne k c.args.word.now order) c.in-Undo.is fits in c.in_err-_number-in-Undo.ensures.none h.0 h.1)
