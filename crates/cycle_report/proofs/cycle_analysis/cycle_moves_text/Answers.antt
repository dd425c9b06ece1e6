use mir.Syntax.{w64}
use Rattle.std.proofs.Common.{◌∙◌, codes, length, string_bytes, subst}
use Rattle.std.proofs.lemmas.Int.{to_z-of_z}
use Rattle.whole_rules.specs.declared.states.Move.TheVariants.{Half, Spend}
use Rattle.report.specs.Analysis.{name_on}
use Rattle.cycle_report.specs.inner.CycleAnalysis.{HasCycleMove, HasCycleOpening, HasCycleStones}
use Rattle.cycle_report.proofs.CycleAnalysisLaws.{cycle_moves_are}
use Rattle.cycle_report.proofs.cycle_analysis.cycle_moves_text.Goals as goal

pub returns-clause-text : goal.returns-clause-text
returns-clause-text c =
    let komi = to_z-of_z w64 c.args.komi_halves c.ranges.komi_halves in
    let a = string_bytes c.new-text.result in
    let b = string_bytes c.write_game_opening.new.text in
    let d = string_bytes c.write_stones.new.text in
    let e = string_bytes c.write_other.new.text in
    let f = string_bytes c.write_other-2.new.text in
    let first = c.in_ok-write_game_opening.ensures.same in
    let second = c.in_ok-write_stones.ensures.same ∙ first in
    let third = c.in_ok-write_other.ensures.same ∙ second in
    cycle_moves_are (name_on c.args.naming c.args.game.now.state.board) c.args.game.now.state c.args.komi_halves a b d e f c.from.result c.new-text.ensures.bytes
    (subst (λ k. HasCycleOpening c.args.game.now.state k a b) komi c.in_ok-write_game_opening.ensures.opening)
    (subst (λ T. T) (λ i. HasCycleStones (name_on c.args.naming (first i).state.board) (first i).state (komi i) (length (first i).state.board.cells) b d) c.in_ok-write_stones.ensures.stones)
    (subst (λ v. HasCycleMove v.state Spend (codes "spend") d e) second c.in_ok-write_other.ensures.other)
    (subst (λ v. HasCycleMove v.state Half (codes "half") e f) third c.in_ok-write_other-2.ensures.other) c.from.ensures
