use Rattle.std.proofs.Common.{subst, arith, None}
use Rattle.desk_io.specs.inner.Lines.{IsFeed}
use Rattle.desk_io.proofs.HeldLemmas.{cause_err, found_all}
use Rattle.desk_io.proofs.lines.LineReader.find_line.Goals as goal

pub returns-clause-found : goal.returns-clause-found
returns-clause-found g c =
    let held = c.next_feed.new.self in let left = g.S.Source.left c.next_feed.new.lines in
    let feed : IsFeed g.row.MOST held left None = subst (λ x. IsFeed g.row.MOST held left x) c.in_default.is c.in_ok-feed.ensures.feed in
    found_all g.row.MOST held left c.len-len.result c.len-len.ensures.value (omega (arith, c.if-len-eq0.false)) c.len-len.ensures.most feed

pub returns-in_err-feed-clause-same : goal.returns-in_err-feed-clause-same
returns-in_err-feed-clause-same g c = c.next_feed.ensures.same

pub returns-in_err-feed-clause-few : goal.returns-in_err-feed-clause-few
returns-in_err-feed-clause-few g c = c.next_feed.ensures.few

pub returns-in_err-feed-clause-cause : goal.returns-in_err-feed-clause-cause
returns-in_err-feed-clause-cause g c = cause_err _ _ _ _ _ (omega arith) c.in_err-feed.ensures.cause

pub returns-in-Some-clause-same : goal.returns-in-Some-clause-same
returns-in-Some-clause-same g c = c.next_feed.ensures.same

pub returns-in-Some-clause-few : goal.returns-in-Some-clause-few
returns-in-Some-clause-few g c = c.next_feed.ensures.few

pub returns-in-Some-clause-cause : goal.returns-in-Some-clause-cause
returns-in-Some-clause-cause g c = record { later = c.next_feed.ensures.cause.later; failed = tt }

pub returns-then-len-eq0-clause-same : goal.returns-then-len-eq0-clause-same
returns-then-len-eq0-clause-same g c = c.next_feed.ensures.same

pub returns-then-len-eq0-clause-few : goal.returns-then-len-eq0-clause-few
returns-then-len-eq0-clause-few g c = c.next_feed.ensures.few

pub returns-then-len-eq0-clause-cause : goal.returns-then-len-eq0-clause-cause
returns-then-len-eq0-clause-cause g c = record { later = c.next_feed.ensures.cause.later; failed = tt }

pub returns-clause-same : goal.returns-clause-same
returns-clause-same g c = c.next_feed.ensures.same

pub returns-clause-few : goal.returns-clause-few
returns-clause-few g c = c.next_feed.ensures.few

pub returns-clause-cause : goal.returns-clause-cause
returns-clause-cause g c = record { later = c.next_feed.ensures.cause.later; failed = tt }
