use Rattle.std.proofs.Common.{Ok, Err, Some, true, map, ap, sym, subst, ◌∙◌, ◌≡◌, List}
use Rattle.std.specs.Prelude.{codes}
use Rattle.std.proofs.lemmas.Result.{IfOk-weaker, err_from_is_err_and}
use Rattle.sgf_tree.specs.Grammar.{PropertyText}
use Rattle.sgf_tree.specs.Reading.{node_text, line_text, property_text}
use Rattle.sgf_go.specs.Reading.{extent}
use Rattle.sgf_go.specs.Komi.{IsInRange}
use Rattle.sgf_go.specs.Values.{Says}
use Rattle.sgf_go.specs.Setup.{AnswersPosition, LinePart, value_of, is_go, IsBoardSize, IsKomiFor, root}
use Rattle.sgf_go.specs.inner.Setup.{AnswersTerritory}
use Rattle.sgf_go.proofs.UndeclaredLemmas.{line_declares_nothing}
use Rattle.sgf_go.proofs.PositionLemmas.{gives_like, passed_on, line_bad, komi_kept}
use Rattle.sgf_go.proofs.setup.position.Goals as goal

pub finish_line-requires-clause-undeclared : goal.finish_line-requires-clause-undeclared
finish_line-requires-clause-undeclared c =
    let settings = c.args.settings.now in
    let line = map node_text c.args.tree.now.line.items in
    line_declares_nothing settings.after settings.turn line (extent c.in_ok-header.header.size) c.read_line.new.self
    (subst (λ s. LinePart settings.after settings.turn 0 line s (Ok c.read_line.new.self)) c.in_ok-replay.ensures
    (rw c.deref-2.ensures.value at c.in-Ok.ensures.follows))

pub returns-in_err-header-clause-answer : goal.returns-in_err-header-clause-answer
returns-in_err-header-clause-answer c = passed_on c.from_residual.result _ (AnswersPosition c.args.tree.now c.args.settings.now) (err_from_is_err_and c.from_residual.result c.from_residual.ensures.1)
    (c.in_err-header.ensures.fault c.args.tree.now (sym (c.root.ensures ∙ ap (λ l. root (map node_text l)) c.deref.ensures.value)))

pub returns-in-Ok-clause-answer : goal.returns-in-Ok-clause-answer
returns-in-Ok-clause-answer c =
    let settings = c.args.settings.now in
    let line = map node_text c.args.tree.now.line.items in
    let same : map property_text c.root.result.now ≡ root (line_text c.args.tree.now) = c.root.ensures ∙ ap (λ l. root (map node_text l)) c.deref.ensures.value in
    let h = c.in_ok-header.ensures.header in
    gives_like c.args.tree.now settings c.in_ok-header.header.size c.in_ok-header.header.komi c.read_line.new.self c.finish_line.result
    (subst (λ (ps : List PropertyText). is_go (value_of (codes "GM") ps) ≡ true) same h.0)
    (subst (λ (ps : List PropertyText). Says (IsBoardSize (value_of (codes "SZ") ps)) (Some (extent c.in_ok-header.header.size))) same h.1)
    (subst (λ (ps : List PropertyText). Says (IsKomiFor settings.komi (value_of (codes "KM") ps)) (Some c.in_ok-header.header.komi)) same h.2)
    (subst (λ s. LinePart settings.after settings.turn 0 line s (Ok c.read_line.new.self)) c.in_ok-replay.ensures
    (rw c.deref-2.ensures.value at c.in-Ok.ensures.follows))
    (subst (λ k. AnswersTerritory settings (line_text c.args.tree.now) k c.read_line.new.self c.finish_line.result) (komi_kept c.in_ok-header.header.komi h.3)
    (rw c.deref-in-Ok.ensures.value at c.finish_line.ensures.answer))

pub returns-in-Ok-clause-komi : goal.returns-in-Ok-clause-komi
returns-in-Ok-clause-komi c = IfOk-weaker c.finish_line.result _ _ (λ s e. subst IsInRange (sym (e ∙ komi_kept c.in_ok-header.header.komi c.in_ok-header.ensures.header.3)) c.in_ok-header.ensures.header.3) c.finish_line.ensures.komi

pub returns-in-Err-clause-answer : goal.returns-in-Err-clause-answer
returns-in-Err-clause-answer c =
    let settings = c.args.settings.now in
    let line = map node_text c.args.tree.now.line.items in
    let same : map property_text c.root.result.now ≡ root (line_text c.args.tree.now) = c.root.ensures ∙ ap (λ l. root (map node_text l)) c.deref.ensures.value in
    let h = c.in_ok-header.ensures.header in
    line_bad settings (line_text c.args.tree.now) c.in_ok-header.header.size c.in_ok-header.header.komi c.in-Err.fault
    (subst (λ (ps : List PropertyText). is_go (value_of (codes "GM") ps) ≡ true) same h.0)
    (subst (λ (ps : List PropertyText). Says (IsBoardSize (value_of (codes "SZ") ps)) (Some (extent c.in_ok-header.header.size))) same h.1)
    (subst (λ (ps : List PropertyText). Says (IsKomiFor settings.komi (value_of (codes "KM") ps)) (Some c.in_ok-header.header.komi)) same h.2)
    (subst (λ s. LinePart settings.after settings.turn 0 line s (Err c.in-Err.fault)) c.in_ok-replay.ensures
    (rw c.deref-2.ensures.value at c.in-Err.ensures.follows))

pub finish_line-requires-clause-komi : goal.finish_line-requires-clause-komi
finish_line-requires-clause-komi c = subst IsInRange (sym (komi_kept c.in_ok-header.header.komi c.in_ok-header.ensures.header.3)) c.in_ok-header.ensures.header.3
