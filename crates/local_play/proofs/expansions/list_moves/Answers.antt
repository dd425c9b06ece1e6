use Rattle.std.proofs.Common.{◌<◌, arith, refl}
use Rattle.local_play.specs.GivenMoves.{tries_left}
use Rattle.local_play.proofs.expansions.list_moves.Goals as goal

pub returns-then-not-pass_on-clause-moves : goal.returns-then-not-pass_on-clause-moves
returns-then-not-pass_on-clause-moves g c touch cells table long is =
    c.if-not-pass_on.ensures.given touch cells c.listing.moves.items
    (c.in_default.ensures.given touch cells c.listing.moves.items table (c.listing.invariant.given touch cells table long is))

pub turns-preserved : goal.turns-preserved
turns-preserved g c touch cells table long is =
    c.if-not-pass_on.ensures.given touch cells c.listing.moves.items
    (c.in_default.ensures.given touch cells c.listing.moves.items table (c.listing.invariant.given touch cells table long is))

pub turns-smaller : goal.turns-smaller
turns-smaller g c =
    let falls : tries_left c.pass_on.new.self < tries_left c.next.new.self = c.if-not-pass_on.ensures.fewer refl in
    omega (arith, falls, c.in_default.ensures.fewer, c.listing.invariant.fewer)
