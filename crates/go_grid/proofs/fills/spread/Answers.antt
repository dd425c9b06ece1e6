use Rattle.std.proofs.Common.{arith, rules, ◌<◌, length}
use Rattle.std.proofs.lemmas.List.{get_or_default}
use Rattle.go_grid.specs.Marks.{IsMarked}
use Rattle.go_grid.proofs.WalkLemmas.{joined_here, joined_step}
use Rattle.go_grid.proofs.FillLemmas.{filling_end, filling_start, filling_next, spread_met, spread_listed}
use Rattle.go_grid.proofs.fills.spread.Goals as goal

pub spreading-init : goal.spreading-init
spreading-init c = record {
  filling =
      c.enter.ensures.under_way c.args.size.columns c.args.start c.args.work.now.count c.args.work.now.count c.args.work.now.marks
      (λ h. joined_here c.args.size.columns (IsMarked c.args.within.now) c.args.start h) (omega arith) (omega arith)
      (filling_start c.args.size.columns c.args.start c.args.within.now c.args.work.now c.requires.filled);
  first = c.enter.ensures.met c.requires.starts;
  begun = omega arith;
  reached = c.enter.ensures.more;
}

pub spreading-preserved : goal.spreading-preserved
spreading-preserved c =
    let k = c.args.size.columns in
    let i = c.spreading.done in
    let from = c.args.work.now.count in
    let in' = c.args.within.now in
    let s = c.spreading.invariant in
    let e = c.meet_around.ensures in
    let lt : i < length c.spreading.work.points = search rules in
    let near = rw (c.from.ensures, get_or_default c.spreading.work.points i c.index-work-from.result 0 lt) at c.neighbours-near.ensures.near.next in
    record {
      filling = filling_next k c.args.start from i in' c.args.work.now.marks c.meet_around.new.work
          (e.under_way k c.args.start from i c.args.work.now.marks
          (λ p h on. joined_step k (IsMarked in') c.args.start _ p (s.filling.earlier i s.begun c.spreading-test.true) ((near p).1 h).1 on)
          (omega arith) (omega arith) s.filling)
          (λ q next on. e.met q ((near q).0 (c.requires.within q on, rw (e.same i (omega arith)) at next)) on);
      first = e.kept c.args.start s.first;
      begun = omega arith;
      reached = omega arith;
    }

pub returns-clause-met : goal.returns-clause-met
returns-clause-met c p =
    spread_met c.args.size.columns c.args.start c.spreading.done c.args.within.now c.args.work.now c.spreading.work
    c.spreading.invariant c.spreading-test.false p

pub returns-clause-listed : goal.returns-clause-listed
returns-clause-listed c p =
    spread_listed c.args.size.columns c.args.start c.spreading.done c.args.within.now c.args.work.now c.spreading.work
    c.spreading.invariant c.spreading-test.false c.requires.filled.closed c.requires.fresh p

pub returns-clause-filled : goal.returns-clause-filled
returns-clause-filled c =
    filling_end _ _ _ _ _ _ c.spreading.work c.spreading.invariant.filling c.spreading-test.false
