use Rattle.std.proofs.Common.{length, ap, ◌∙◌, arith}
use Rattle.std.proofs.lemmas.List.{length-take-le}
use Rattle.desk_io.proofs.HeldLemmas.{Ready, looked_start, looked_end, looked_all, ready_read, input_on, cause_err}
use Rattle.desk_io.proofs.lines.LineReader.next_feed.Given.{Over}
use Rattle.desk_io.proofs.lines.LineReader.next_feed.Goals as goal
use Rattle.desk_io.proofs.lines.LineReader.next_feed.Goals.{else-at-len-via-then-at-len+in_ok-read_more+else-branch-eq0, else-at-len-via-else-at-len, Joined-else-at-len}

pub looking-init : goal.looking-init
looking-init g c = let left = g.S.Source.left c.args.lines.now in (looked_start c.args.self.now c.args.self.now left left, omega arith)

pub returns-in_err-read_more-clause-same : goal.returns-in_err-read_more-clause-same
returns-in_err-read_more-clause-same g c = input_on _ _ _ _ _ _ c.looking.invariant.0.same c.read_more.ensures.same

pub returns-in_err-read_more-clause-cause : goal.returns-in_err-read_more-clause-cause
returns-in_err-read_more-clause-cause g c = cause_err _ _ _ _ _ c.looking.invariant.1 c.in_err-read_more.ensures.cause

pub returns-then-branch-eq0-clause-same : goal.returns-then-branch-eq0-clause-same
returns-then-branch-eq0-clause-same g c = input_on _ _ _ _ _ _ c.looking.invariant.0.same c.read_more.ensures.same

pub returns-then-branch-eq0-clause-feed : goal.returns-then-branch-eq0-clause-feed
returns-then-branch-eq0-clause-feed g c =
    let end = c.if-at-len.true ∙ c.len.ensures.value in
    looked_end _ _ _ _ _ _ _ c.looking.invariant.0 end c.read_more.ensures.same _ c.in_ok-read_more.ensures.more g.row.MOST c.if-branch-eq0.true (c.in_ok-read_more.ensures.end c.if-branch-eq0.true)

pub returns-then-branch-eq0-clause-cause : goal.returns-then-branch-eq0-clause-cause
returns-then-branch-eq0-clause-cause g c = record { later = omega (arith, c.looking.invariant.1, c.read_more.ensures.cause.later); failed = tt }

ready : (g : Over) (c : Joined-else-at-len g) → Ready g.row.MOST c.args.self.now c.else-at-len.self (g.S.Source.left c.args.lines.now) (g.S.Source.left c.else-at-len.lines) c.looking.at
ready g c = elim c.else-at-len.branch [
  | else-at-len-via-then-at-len+in_ok-read_more+else-branch-eq0 w ↦
      let end = w.if-at-len.true ∙ c.len.ensures.value in
      rw (w.self-is, w.lines-is) (ready_read _ _ _ _ _ _ _ c.looking.invariant.0 end w.read_more.ensures.same _ w.in_ok-read_more.ensures.more g.row.MOST w.if-branch-eq0.false w.read_more.ensures.few)
  | else-at-len-via-else-at-len w ↦
      let before = c.looking.invariant.0 in
      rw (w.self-is, w.lines-is) record { looked = before; within = omega (arith, before.within, w.if-at-len, c.len.ensures.value); few = omega (arith, c.len.ensures.value, c.len.ensures.most) }
]

pub is_feed-requires : goal.is_feed-requires
is_feed-requires g c = (omega arith, (ready g c).within)

pub returns-then-is_feed-clause-same : goal.returns-then-is_feed-clause-same
returns-then-is_feed-clause-same g c = (ready g (goal.at.returns-then-is_feed-clause-same g c).Joined-else-at-len).looked.same

pub returns-then-is_feed-clause-feed : goal.returns-then-is_feed-clause-feed
returns-then-is_feed-clause-feed g c =
    let here = ready g (goal.at.returns-then-is_feed-clause-feed g c).Joined-else-at-len in
    (here.within, c.is_feed.ensures.0 c.if-is_feed.true, here.looked.plain)

pub returns-then-is_feed-clause-few : goal.returns-then-is_feed-clause-few
returns-then-is_feed-clause-few g c = (ready g (goal.at.returns-then-is_feed-clause-few g c).Joined-else-at-len).few

pub returns-clause-feed : goal.returns-clause-feed
returns-clause-feed g c =
    let held = c.looking.self in
    let long = length-take-le c.self.inside.len c.self.inside.bytes (omega (arith, c.self.told, c.self.invariant)) in
    looked_all g.row.MOST c.args.self.now held (g.S.Source.left c.args.lines.now) (g.S.Source.left c.looking.lines) c.looking.at c.looking.invariant.0 (omega (arith, ap length c.self.view_is, long, c.self.invariant)) c.looking-test.false
