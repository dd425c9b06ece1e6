use mir.Syntax.{w64}
use Rattle.std.proofs.Common.{◌∙◌, ◌∷◌, [], ap, string_bytes, subst}
use Rattle.std.proofs.lemmas.Int.{to_z-of_z}
use Rattle.whole_rules.specs.declared.states.Move.TheVariants.{Stone}
use Rattle.cycle_solver.specs.Thresholds.{AreThresholdsFrom}
use Rattle.cycle_solver.specs.Winner.{TellsWinnerAfter}
use Rattle.fault_words.specs.Naming.{name_by}
use Rattle.report.specs.Analysis.{name_on}
use Rattle.cycle_report.proofs.CycleAnalysisLaws.{no_cycle_stone, cycle_stone_is}
use Rattle.cycle_report.proofs.cycle_analysis.write_stone.Goals as goal

pub returns-in_default-clause-stone : goal.returns-in_default-clause-stone
returns-in_default-clause-stone c =
    no_cycle_stone (name_on c.args.naming c.args.game.now.state.board) c.args.game.now.state c.args.komi_halves c.args.point (string_bytes c.args.text.now) (c.in_default.ensures {u = tt}).thresholds

pub returns-clause-stone : goal.returns-clause-stone
returns-clause-stone c =
    let s = c.args.game.now.state in
    let p = c.args.point in
    let (legal, thresholds) = (c.in-Some.ensures {u = tt}).thresholds in
    let same = (c.in-Some.ensures {u = tt}).same in
    let komi = to_z-of_z w64 c.args.komi_halves c.ranges.komi_halves in
    let size = c.size-size.result in
    let board = c.board.ensures ∙ ap (λ s. s.board) c.whole.ensures in
    let columns = c.size-size.ensures.columns ∙ ap (λ g. g.columns) board in
    let rows = c.size-size.ensures.rows ∙ ap (λ g. g.rows) board in
    let turn = c.side-side.ensures ∙ ap (λ s. s.side) c.whole-2.ensures in
    let winner = c.in-Some-winner_after.winner in
    cycle_stone_is (name_on c.args.naming s.board) (name_by c.args.naming size.columns size.rows) s c.args.komi_halves p c.side-side.result winner c.in-Some.both
    c.outcome_word-word.result.now (string_bytes c.args.text.now)
    (string_bytes c.write_stone_line.new.text) legal
    (subst (λ v. TellsWinnerAfter v.state (Stone p) winner) same (c.in-Some-winner_after.ensures {u = tt}).winner.1)
    (subst (λ z. AreThresholdsFrom s z s.side (p ∷ []) c.in-Some.both) komi thresholds)
    c.outcome_word-word.ensures turn (λ i. name_by c.args.naming (columns i) (rows i)) c.in_ok-write_stone_line.ensures
