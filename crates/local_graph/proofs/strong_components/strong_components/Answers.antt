use Rattle.std.proofs.Common.{◌≡◌, ℕ, length, get_or, subst, ap, sym, ◌∙◌}
use Rattle.local_graph.specs.declared.strong_components.Mark.TheVariants.{Told}
use Rattle.local_graph.specs.inner.Telling.{AreComponents, mark_at}
use Rattle.local_graph.proofs.TellingLemmas.{components_told}
use Rattle.local_graph.proofs.TellingSteps.{both_ok}
use Rattle.local_graph.proofs.strong_components.strong_components.Goals as goal

pub returns : goal.returns
returns c =
    let s = c.step.new.self in
    let done = rw c.if-branch.false at c.in_ok-step.ensures in
    both_ok c.numbers_of.result (λ v. length v.items ≡ length c.deref.result.now)
    (λ v. (i n : ℕ) → mark_at c.deref.result.now i ≡ Told n → get_or v.items i 0 ≡ n) (λ v. AreComponents c.args.edges.now v.items)
    (λ v long told.
    components_told c.args.edges.now s.waiting.items s.starts.items v.items s.marks.items s.told c.requires done (long ∙ ap length c.deref.ensures.value)
    (λ i n e. told i n (subst (λ l. mark_at l i ≡ Told n) (sym c.deref.ensures.value) e))) c.numbers_of.ensures.long c.numbers_of.ensures.told
