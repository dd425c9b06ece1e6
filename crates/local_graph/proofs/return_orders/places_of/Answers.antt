use Rattle.std.proofs.Common.{◌∙◌, ◌++◌, ◌∷◌, [], ℕ, List, get_or, ap, sym}
use Rattle.std.proofs.lemmas.List.{map_more}
use Rattle.local_graph.specs.declared.return_orders.Rank.{Rank}
use Rattle.local_graph.proofs.return_orders.places_of.Goals as goal

pub loop-rank-preserved : goal.loop-rank-preserved
loop-rank-preserved c =
    let first : Rank = record { component = 0; lack = 0; place = 0 } in
    let at = c.loop-rank.rank-index in
    ◌∙◌ {A = List ℕ} c.in_ok-push.ensures.items (ap (λ n. c.loop-rank.places.items ++ n ∷ []) c.in_ok-narrow.ensures
    ∙ ap (λ l. l ++ (get_or c.args.ranks.now at first).place ∷ []) c.loop-rank.invariant
    ∙ sym (map_more (λ r. r.place) c.args.ranks.now at first c.loop-rank-test.true))
