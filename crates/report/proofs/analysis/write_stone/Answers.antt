use mir.Val.{SFits}
use mir.Syntax.{w64}
use Rattle.std.proofs.Common.{◌↔◌, ◌∙◌, ◌∷◌, [], IsTrue, ap, rules, string_bytes, subst}
use Rattle.std.proofs.lemmas.Int.{to_z-of_z}
use Rattle.whole_rules.specs.declared.states.Move.TheVariants.{Stone}
use Rattle.whole_rules.specs.FirstWinningMove.{IsWinning}
use Rattle.endgame_solver.specs.Thresholds.{IsThresholdFrom}
use Rattle.fault_words.specs.Naming.{name_by}
use Rattle.report.specs.Analysis.{name_on}
use Rattle.report.proofs.AnalysisLaws.{no_stone, stone_is}
use Rattle.report.proofs.analysis.write_stone.Goals as goal

pub returns-in_default-clause-stone : goal.returns-in_default-clause-stone
returns-in_default-clause-stone c =
    no_stone (name_on c.args.naming c.args.solved.now.state.board) c.args.solved.now.state c.args.komi_halves c.args.point (string_bytes c.args.text.now) (c.in_default.ensures {u = tt}).threshold

pub returns-clause-stone : goal.returns-clause-stone
returns-clause-stone c =
    let s = c.args.solved.now.state in
    let p = c.args.point in
    let (legal, threshold) = (c.in-Some.ensures {u = tt}).threshold in
    let fits : SFits w64 c.in-Some.threshold = search rules in
    let same = (c.in-Some.ensures {u = tt}).same in
    let komi = to_z-of_z w64 c.args.komi_halves c.ranges.komi_halves in
    let size = c.size-size.result in
    let board = c.board.ensures ∙ ap (λ s. s.board) c.whole.ensures in
    let columns = c.size-size.ensures.columns ∙ ap (λ g. g.columns) board in
    let rows = c.size-size.ensures.rows ∙ ap (λ g. g.rows) board in
    stone_is (name_on c.args.naming s.board) (name_by c.args.naming size.columns size.rows) s c.args.komi_halves p c.in-Some-wins.wins c.in-Some.threshold _ (string_bytes c.args.text.now)
    (string_bytes c.write_stone_line.new.text) legal
    (subst (λ v. IsTrue c.in-Some-wins.wins ↔ IsWinning v.state (Stone p)) same (c.in-Some-wins.ensures {u = tt}).wins.1)
    (subst (λ z. IsThresholdFrom s z s.side (p ∷ []) c.in-Some.threshold) komi threshold)
    (to_z-of_z w64 c.in-Some.threshold fits) (λ i. name_by c.args.naming (columns i) (rows i)) c.in_ok-write_stone_line.ensures
