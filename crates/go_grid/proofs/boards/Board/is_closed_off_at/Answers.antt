use Rattle.std.proofs.Common.{◌∙◌, ◌⊎◌, sym, subst, arith}
use Rattle.std.specs.List.{Contains}
use Rattle.std.proofs.lemmas.List.{get_or_default}
use Rattle.go_grid.specs.Board.{IsDeclared, HasStone, NextTo}
use Rattle.go_grid.proofs.boards.Board.is_closed_off_at.Goals as goal

pub returns : goal.returns
returns c = (
  λ e. record {
    empty = (c.requires, sym c.get.ensures ∙ c.is.ensures.0 e);
    around = λ q inside next.
        let near = c.as_slice-near-items.result.now in
        let met : Contains near q =
        subst (λ l. Contains l q) (sym c.as_slice-near-items.ensures) ((c.look_around.ensures.around q).1 (omega (arith, inside, c.size.ensures.area, c.size.ensures.grid), subst (λ n. NextTo n c.args.point q) (sym c.size.ensures.columns) next)) in
        subst (λ p. IsDeclared c.args.self.now c.args.colour p ⊎ HasStone c.args.self.now c.args.colour p) (get_or_default near met.0 0 q met.1 ∙ met.2)
        (c.loop-near.invariant met.0 (omega (arith, met.1, c.loop-near-test.false)));
  },
  λ closed. c.is.ensures.1 (c.get.ensures ∙ closed.empty.1),
)
