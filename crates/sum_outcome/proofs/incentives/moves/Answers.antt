use Rattle.std.proofs.Common.{ap}
use Rattle.go_grid.specs.declared.grid.Colour.TheVariants.{Black, White}
use Rattle.short_games.specs.Tree.{left, right, tree_at}
use Rattle.sum_outcome.proofs.ListLaws.{listed-moves}
use Rattle.sum_outcome.proofs.incentives.moves.Goals as goal

pub returns-in-Options-Black-clause-options : goal.returns-in-Options-Black-clause-options
returns-in-Options-Black-clause-options c =
    let f = c.in-Options-Black.ensures.form in
    rw c.in-Options-Black.is-1 (λ X. listed-moves c.args.store.now c.in-Options-Black.left.now Black (tree_at c.args.store.now c.args.id) f.no_number (ap left f.tree) X)

pub returns-in-Options-White-clause-options : goal.returns-in-Options-White-clause-options
returns-in-Options-White-clause-options c =
    let f = c.in-Options-White.ensures.form in
    rw c.in-Options-White.is-1 (λ X. listed-moves c.args.store.now c.in-Options-White.right.now White (tree_at c.args.store.now c.args.id) f.no_number (ap right f.tree) X)
