use Rattle.std.proofs.Common.{◌∙◌, ◌<◌, ◌≤◌, length, take, get_or, Contains, subst, sym, inl, inr}
use Rattle.std.proofs.lemmas.List.{take_all, take_more}
use Rattle.std.proofs.lemmas.List.Elements.{Contains-get_or, Contains-push_cases}
use Rattle.local_graph.specs.declared.graph.Edge.{Edge}
use Rattle.local_graph.specs.inner.Graph.{no_edge}
use Rattle.local_value.specs.inner.Layers.{IsUnchanged}
use Rattle.local_value.proofs.budgets.are_unchanged.Goals as goal

pub is_unchanged-requires-clause-next : goal.is_unchanged-requires-clause-next
is_unchanged-requires-clause-next c = subst (λ (e : Edge). e.next < length c.args.ids.now) (sym c.get.ensures)
    (c.requires.next _ (Contains-get_or c.args.edges.now c.comparing.number no_edge (subst (λ n. c.comparing.number < n) c.len-number-end.ensures c.comparing-test.true)))

pub comparing-preserved : goal.comparing-preserved
comparing-preserved c = λ f among. elim (Contains-push_cases (take c.comparing.number c.args.edges.now) (get_or c.args.edges.now c.comparing.number no_edge) f
    (subst (λ es. Contains es f) (take_more c.args.edges.now c.comparing.number no_edge (subst (λ n. c.comparing.number < n) c.len-number-end.ensures c.comparing-test.true)) among)) [
      | inl before ↦ c.comparing.invariant f before
      | inr same ↦ subst (IsUnchanged c.args.count c.args.ids.now) (c.get.ensures ∙ same)
          (c.is_unchanged.ensures c.if-not-is_unchanged.false)
    ]

pub returns : goal.returns
returns c = λ _ f among. c.comparing.invariant f (subst (λ es. Contains es f) (sym (take_all c.comparing.number c.args.edges.now (subst (λ n. n ≤ c.comparing.number) c.len-number-end.ensures c.comparing-test.false))) among)
