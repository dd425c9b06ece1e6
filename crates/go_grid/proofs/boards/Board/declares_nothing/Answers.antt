use Rattle.std.proofs.Common.{◌≡◌, ◌∙◌, ap, arith, length, sym}
use Rattle.std.proofs.lemmas.Bool.{OnTrue_from, eqb-true}
use Rattle.std.proofs.lemmas.List.{nil_from_length}
use Rattle.go_grid.specs.Board.{DeclaresNothing}
use Rattle.go_grid.proofs.DeclaredLemmas.{none_declared}
use Rattle.go_grid.proofs.boards.Board.declares_nothing.Goals as goal

pub returns : goal.returns
returns c =
    let owners = c.self.inside.declared in
    OnTrue_from c.is_empty.result (DeclaresNothing c.args.self.now) (λ e.
    let none : length owners.items ≡ 0 = omega (arith, eqb-true _ _ (sym c.is_empty.ensures ∙ e), owners.ok) in
    none_declared c.args.self.now (sym (ap (λ g. g.declared) c.self.view_is) ∙ nil_from_length owners.items none))
