use Rattle.std.proofs.Common.{ℕ, ◌+◌, ◌≡◌, ◌∙◌, ◌<◌, ap, sym, subst, length, List, [], ◌∷◌, ◌++◌, Bool}
use Rattle.std.proofs.lemmas.List.{length-append}
use Rattle.local_value.specs.inner.Layers.{AreMarked}
use Rattle.local_value.proofs.LayerLaws.{mark-more}
use Rattle.local_value.proofs.LayerPassLaws.{edges-inside}
use Rattle.local_value.proofs.layer_edges.returning_places.Goals as goal

pub has_returning_capture-requires-clause-next : goal.has_returning_capture-requires-clause-next
has_returning_capture-requires-clause-next c =
    let (r, of) = c.requires in
    edges-inside of c.marking.place (subst (λ n. c.marking.place < n) (c.len-count.ensures ∙ ap (λ (z : List ℕ). length z) c.graph.ensures.positions) c.marking-test.true)

pub marking-preserved : goal.marking-preserved
marking-preserved c =
    let x = c.has_returning_capture.result in
    let items : c.push_reserved.new.self.items ≡ c.marking.marks.items ++ x ∷ [] =
    c.push_reserved.ensures.items ∙ ap (λ l. l ++ x ∷ []) c.reserve.ensures.items in
    let grown = mark-more c.args.owner c.args.graph.now c.marking.marks.items x c.marking.place c.marking.invariant.long
    c.marking.invariant.marked c.has_returning_capture.ensures in record {
      long = ap (λ (z : List Bool). length z) items ∙ length-append c.marking.marks.items (x ∷ []) ∙ ap (λ n. n + 1) c.marking.invariant.long;
      marked = subst (AreMarked c.args.owner c.args.graph.now) (sym items) grown;
    }
