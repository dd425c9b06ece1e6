use Rattle.std.proofs.Common.{sym, subst}
use Rattle.short_games.specs.Tree.{Tree, Has, tree_at}
use Rattle.game_store.specs.Meaning.{pick}
use Rattle.game_canon.proofs.GameLaws.{left-has, right-has}
use Rattle.game_calc.specs.inner.Returns.{far}
use Rattle.game_calc.specs.declared.returns.Side.{Side}
use Rattle.game_calc.proofs.returns.answers.Goals as goal

pub returns-in-Options-Left-clause-options : goal.returns-in-Options-Left-clause-options
returns-in-Options-Left-clause-options c = subst (λ (s : Side). (X : Tree) → Has (pick c.args.store.now c.in-Options-Left.right.now) X → Has (far s (tree_at c.args.store.now c.args.id)) X) (sym c.in-Options-Left.is-1)
    (right-has c.args.store.now c.args.id c.in-Options-Left.left-0.now c.in-Options-Left.right.now c.in-Options-Left.ensures.form)

pub returns-in-Options-Right-clause-options : goal.returns-in-Options-Right-clause-options
returns-in-Options-Right-clause-options c = subst (λ (s : Side). (X : Tree) → Has (pick c.args.store.now c.in-Options-Right.left.now) X → Has (far s (tree_at c.args.store.now c.args.id)) X) (sym c.in-Options-Right.is-1)
    (left-has c.args.store.now c.args.id c.in-Options-Right.left.now c.in-Options-Right.right-0.now c.in-Options-Right.ensures.form)
