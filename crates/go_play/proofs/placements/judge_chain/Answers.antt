use Rattle.std.proofs.Common.{arith, inl, inr}
use Rattle.std.proofs.lemmas.Bool.{both_ways}
use Rattle.std.proofs.lemmas.List.{length-set}
use Rattle.go_grid.specs.Board.{HasStone, other, stone}
use Rattle.go_grid.specs.Marks.{IsMarked}
use Rattle.go_grid.proofs.WalkLemmas.{joined_end, marks_joined}
use Rattle.go_play.specs.inner.Place.{with_stone}
use Rattle.go_play.proofs.PlaceLemmas.{free_chain, judged_chain, lost_chain, none_lost}
use Rattle.go_play.proofs.placements.judge_chain.Goals as goal

pub adjoin-requires-clause-points : goal.adjoin-requires-clause-points
adjoin-requires-clause-points c p m =
    let on = joined_end c.size-size.result.columns (IsMarked c.args.tried.now.theirs) c.args.stone p ((c.fill-chain.ensures p).0 m) in
    omega (arith, ((c.requires.tried.theirs p).0 on).0, c.size-size.ensures.area, length-set c.args.board.now.cells c.args.point (stone c.args.colour))

pub returns-then-not-adjoin-clause-judged : goal.returns-then-not-adjoin-clause-judged
returns-then-not-adjoin-clause-judged c =
    let b = with_stone c.args.board.now c.args.point c.args.colour in
    let d = other c.args.colour in
    let t = c.args.tried.now in
    let isc = rw c.size-size.ensures.columns at c.fill-chain.ensures in
    judged_chain b d c.args.stone c.fill-chain.result c.args.judged.now c.union.result c.args.taken.now c.union-then-not-adjoin.result
    c.requires.judged (marks_joined b.columns c.args.stone t.theirs c.fill-chain.result (HasStone b d) c.requires.tried.theirs isc)
    c.union.ensures (λ q m. (c.union-then-not-adjoin.ensures q).1 (inl m)) (λ _ q m. (c.union-then-not-adjoin.ensures q).1 (inr m))

pub returns-then-not-adjoin-clause-taken : goal.returns-then-not-adjoin-clause-taken
returns-then-not-adjoin-clause-taken c =
    let b = with_stone c.args.board.now c.args.point c.args.colour in
    let d = other c.args.colour in
    let t = c.args.tried.now in
    let isc = rw c.size-size.ensures.columns at c.fill-chain.ensures in
    let by = free_chain b d c.args.stone t.theirs t.empty c.fill-chain.result c.requires.tried.theirs c.requires.tried.empty isc in
    let is = rw c.size-size.ensures.columns at c.adjoin.ensures in
    lost_chain b d c.args.stone t.theirs c.fill-chain.result c.args.taken.now c.union-then-not-adjoin.result c.requires.tried.theirs
    c.requires.theirs (λ l. both_ways _ c.if-not-adjoin.true (is.1 (by.1 l))) isc c.union-then-not-adjoin.ensures

pub returns-else-not-adjoin-clause-judged : goal.returns-else-not-adjoin-clause-judged
returns-else-not-adjoin-clause-judged c =
    let b = with_stone c.args.board.now c.args.point c.args.colour in
    let d = other c.args.colour in
    let t = c.args.tried.now in
    let isc = rw c.size-size.ensures.columns at c.fill-chain.ensures in
    let by = free_chain b d c.args.stone t.theirs t.empty c.fill-chain.result c.requires.tried.theirs c.requires.tried.empty isc in
    let is = rw c.size-size.ensures.columns at c.adjoin.ensures in
    judged_chain b d c.args.stone c.fill-chain.result c.args.judged.now c.union.result c.args.taken.now c.args.taken.now
    c.requires.judged (marks_joined b.columns c.args.stone t.theirs c.fill-chain.result (HasStone b d) c.requires.tried.theirs isc)
    c.union.ensures (λ q m. m) (λ none q m. absurd (none (by.0 (is.0 c.if-not-adjoin.false))))

pub returns-else-not-adjoin-clause-taken : goal.returns-else-not-adjoin-clause-taken
returns-else-not-adjoin-clause-taken c =
    let b = with_stone c.args.board.now c.args.point c.args.colour in
    let d = other c.args.colour in
    let t = c.args.tried.now in
    let isc = rw c.size-size.ensures.columns at c.fill-chain.ensures in
    let by = free_chain b d c.args.stone t.theirs t.empty c.fill-chain.result c.requires.tried.theirs c.requires.tried.empty isc in
    let is = rw c.size-size.ensures.columns at c.adjoin.ensures in
    none_lost b d c.args.stone c.args.taken.now (λ on none. none (by.0 (is.0 c.if-not-adjoin.false)))
