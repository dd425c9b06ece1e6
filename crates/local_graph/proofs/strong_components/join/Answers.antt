use Rattle.std.proofs.Common.{◌<◌, inl, inr, ◌∙◌, ◌-◌, ◌∷◌, [], length, take, arith, sym, ap, subst}
use Rattle.std.specs.List.{AllPairs, Contains}
use Rattle.std.proofs.lemmas.List.Elements.{Contains-push_cases, Contains-append_left}
use Rattle.local_graph.proofs.SearchLemmas.{ends_in}
use Rattle.local_graph.proofs.TellingLemmas.{front_pairs}
use Rattle.local_graph.proofs.strong_components.join.Goals as goal

pub joining-preserved : goal.joining-preserved
joining-preserved c =
    let starts = c.joining.starts.items in
    let front = take (length starts - 1) starts in
    let ends = ends_in starts c.deref.result.now c.in-Some.start c.deref.ensures.value (sym c.last.ensures.value ∙ sym c.copied.ensures ∙ c.in-Some.is) in
    let left = c.pop.ensures.rest ∙ ap (λ n. take (n - 1) starts) c.joining.starts.ok.0 in
    rw left record {
      up = (front_pairs (λ s t. s < t) front c.in-Some.start (subst (AllPairs (λ s t. s < t)) ends c.joining.invariant.up)).0;
      kept = λ s among le. elim (Contains-push_cases front c.in-Some.start s (subst (λ l. Contains l s) ends (c.joining.invariant.kept s among le))) [
        | inl old ↦ old
        | inr e ↦ absurd (omega (arith, e, le, c.if-start-place.false))
      ];
      of_old = λ s among. c.joining.invariant.of_old s
          (subst (λ l. Contains l s) (sym ends) (Contains-append_left front (c.in-Some.start ∷ []) s among));
    }
