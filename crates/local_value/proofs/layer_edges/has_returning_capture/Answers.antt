use Rattle.std.proofs.Common.{◌≡◌, ◌∙◌, ap, sym, subst, inl, inr, [], take, get_or, slice_index_or, Contains, List, length, ◌<◌, ◌≤◌}
use Rattle.std.proofs.lemmas.Bool.{true≢false}
use Rattle.std.proofs.lemmas.List.{take_all, take_more}
use Rattle.std.proofs.lemmas.List.Elements.{Contains-get_or, Contains-push_cases}
use Rattle.local_graph.specs.declared.graph.Edge.{Edge}
use Rattle.local_graph.specs.inner.Graph.{edges_at, no_edge}
use Rattle.local_graph.specs.ReturnGraph.{IsReturningCaptureAt, StaysIn}
use Rattle.local_value.proofs.layer_edges.has_returning_capture.Goals as goal

pub returns-then-not-has_cycle : goal.returns-then-not-has_cycle
returns-then-not-has_cycle c = λ _ e among captures.
    subst (λ z. StaysIn z c.args.place e) (c.has_cycle.ensures.0 c.if-not-has_cycle.true) captures.2

pub is_returning_capture-requires-clause-next : goal.is_returning_capture-requires-clause-next
is_returning_capture-requires-clause-next c =
    let same : c.edges-edges.result ≡ edges_at c.args.graph.now.edges c.args.place =
    c.edges-edges.ensures ∙ ap (λ (z : List (List Edge)). slice_index_or z c.args.place []) c.graph.ensures.edges in
    subst (λ (e : Edge). e.next < length c.args.graph.now.positions)
    (sym c.get.ensures)
    (c.requires.next _ (subst (λ es. Contains es (get_or c.edges-edges.result c.looking.number no_edge)) same
    (Contains-get_or c.edges-edges.result c.looking.number no_edge (subst (λ n. c.looking.number < n) c.len-number-end.ensures c.looking-test.true))))

pub looking-preserved : goal.looking-preserved
looking-preserved c = λ e among captures.
    let es = edges_at c.args.graph.now.edges c.args.place in
    let same : c.edges-edges.result ≡ es =
    c.edges-edges.ensures ∙ ap (λ (z : List (List Edge)). slice_index_or z c.args.place []) c.graph.ensures.edges in
    let short = subst (λ z. c.looking.number < length z) same (subst (λ n. c.looking.number < n) c.len-number-end.ensures c.looking-test.true) in
    elim (Contains-push_cases (take c.looking.number es) (get_or es c.looking.number no_edge) e
    (subst (λ z. Contains z e) (take_more es c.looking.number no_edge short) among)) [
      | inl before ↦ c.looking.invariant e before captures
      | inr here ↦ true≢false (sym (c.is_returning_capture.ensures.1 (subst (IsReturningCaptureAt c.args.owner c.args.graph.now.components c.args.place)
          (sym c.get.ensures) (subst (λ z. IsReturningCaptureAt c.args.owner c.args.graph.now.components c.args.place
          (get_or z c.looking.number no_edge)) (sym same) (subst (IsReturningCaptureAt c.args.owner c.args.graph.now.components c.args.place) (sym here) captures))))
          ∙ c.if-is_returning_capture.false)
    ]

pub returns : goal.returns
returns c = λ _ e among.
    let es = edges_at c.args.graph.now.edges c.args.place in
    let same : c.edges-edges.result ≡ es =
    c.edges-edges.ensures ∙ ap (λ (z : List (List Edge)). slice_index_or z c.args.place []) c.graph.ensures.edges in
    c.looking.invariant e (subst (λ z. Contains z e) (sym (take_all c.looking.number es (subst (λ z. length z ≤ c.looking.number) same (subst (λ n. n ≤ c.looking.number) c.len-number-end.ensures c.looking-test.false)))) among)
