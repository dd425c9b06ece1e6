use Rattle.std.proofs.Common.{ap, ◌∙◌, length, arith, subst, sym}
use Rattle.std.proofs.lemmas.List.{length-set}
use Rattle.board_gen.specs.inner.Corridor.{AreCorridors}
use Rattle.board_gen.proofs.BoardLemmas.{filled_more}
use Rattle.board_gen.proofs.boards.board_of.Goals as goal

pub filling-preserved : goal.filling-preserved
filling-preserved c =
    let s = c.filling.invariant in
    let e = c.set.ensures in
    record {
      columns = ap (λ x. x.columns) e ∙ s.columns;
      rows = ap (λ x. x.rows) e ∙ s.rows;
      declared = ap (λ x. x.declared) e ∙ s.declared;
      full = ap (λ x. length x.cells) e ∙ length-set _ _ _ ∙ s.full;
      each = filled_more c.args.number c.filling.point c.filling.board _ c.cell_of.result e (omega (arith, s.full, c.filling-test.true)) s.each
          (c.cell_of.ensures c.args.number (subst (AreCorridors c.args.number 16) (sym c.deref.ensures.value) c.in_ok-corridors.ensures));
    }
