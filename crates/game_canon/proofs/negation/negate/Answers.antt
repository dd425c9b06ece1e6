use Rattle.game_canon.proofs.NegationLaws.{more_parts, negative_back, within_negative}
use Rattle.short_games.specs.Tree.{tree_at}
use Rattle.game_canon.proofs.negation.negate.Goals as goal

pub returns-in-Ok-clause-parts : goal.returns-in-Ok-clause-parts
returns-in-Ok-clause-parts c =
    let G = tree_at c.args.store.now c.args.a in
    let C = tree_at c.change_form.new.store c.in-Ok.id in
    let g = c.change_form.ensures.canonical in
    let k = c.in-Ok.ensures.value.1 in
    let k' = negative_back G C g k in
    λ n. (more_parts G C g k n, more_parts C G k.canonical k' n)

pub returns-in-Ok-clause-sizes : goal.returns-in-Ok-clause-sizes
returns-in-Ok-clause-sizes c =
    let G = tree_at c.args.store.now c.args.a in
    let C = tree_at c.change_form.new.store c.in-Ok.id in
    let g = c.change_form.ensures.canonical in
    let k = c.in-Ok.ensures.value.1 in
    let k' = negative_back G C g k in
    λ b. (within_negative C G k.canonical k' b, within_negative G C g k b)
