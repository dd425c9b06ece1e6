use Rattle.std.proofs.Common.{length, ap, arith, subst}
use Rattle.std.proofs.lemmas.List.{length_push}
use Rattle.local_graph.specs.inner.Telling.{TellsFrom}
use Rattle.local_graph.proofs.TellingLemmas.{telling_start, telling_member}
use Rattle.local_graph.proofs.strong_components.tell.Goals as goal

pub telling-init : goal.telling-init
telling-init c = record { tells = telling_start c.args.waiting.now.items c.args.marks.now c.args.number; most = omega arith; within = c.requires.inside }

pub telling-preserved : goal.telling-preserved
telling-preserved c =
    let k = c.telling.invariant in
    let tells = subst (λ l. TellsFrom c.args.waiting.now.items c.args.marks.now (length c.telling.waiting.items) c.args.number l c.telling.marks)
    c.in-Some.ensures.items k.tells in
    record {
      tells = telling_member c.args.waiting.now.items c.args.marks.now c.args.number c.pop.new.self.items c.in-Some.member c.telling.marks c.requires.waits
          (length c.telling.waiting.items) k.most tells;
      most = omega (arith, k.most, ap length c.in-Some.ensures.items, length_push c.pop.new.self.items c.in-Some.member);
      within = omega (
        arith,
        c.telling-test.true,
        c.len.ensures,
        c.telling.waiting.ok,
        ap length c.in-Some.ensures.items,
        length_push c.pop.new.self.items c.in-Some.member,
      );
    }
