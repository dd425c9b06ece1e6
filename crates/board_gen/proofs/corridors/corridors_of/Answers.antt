use Rattle.std.proofs.Common.{◌+◌, suc, ap, ◌∙◌, sym, arith, ◌≡◌, ◌*◌, ◌%◌, subst}
use Rattle.board_gen.specs.Trial.{draw}
use Rattle.board_gen.specs.inner.Corridor.{AreCorridors}
use Rattle.board_gen.proofs.CorridorLemmas.{corridors_more}
use Rattle.board_gen.proofs.corridors.corridors_of.Goals as goal

pub drawing-preserved : goal.drawing-preserved
drawing-preserved c =
    let s = c.drawing.invariant in
    let next : c.drawing.place + 1 ≡ suc c.drawing.place = omega arith in
    record {
      drawn = c.next-drawn.ensures ∙ ap (λ y. (75 * y + 74) % 65537) s.drawn ∙ ap (draw c.args.number) (sym next);
      below = omega (arith, c.next-drawn.ensures);
      corridors = corridors_more c.args.number c.drawing.place _ _ _ _ _ _ next s.drawn c.next-drawn.ensures c.of.ensures s.corridors c.in_ok-push.ensures.items;
    }

pub returns : goal.returns
returns c = subst (λ n. AreCorridors c.args.number n c.drawing.corridors.items) (omega (arith, c.drawing-test.false, c.drawing.auto.place-end)) c.drawing.invariant.corridors
