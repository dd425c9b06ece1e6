use Rattle.std.proofs.Common.{◌≡◌, ◌∙◌, refl, sym, ap, get_or, subst, length, ◌+◌, ◌*◌, true}
use Rattle.std.proofs.lemmas.Bool.{both_ways}
use Rattle.std.specs.Prelude.{sum_by}
use Rattle.benson_life.specs.Held.{worth}
use Rattle.report.specs.Safety.{turn}
use Rattle.report.proofs.ListingLaws.{listing_more, listing_same}
use Rattle.report.proofs.SafetyLaws.{counted_line_is, no_key_from, no_key_unmarked, region_has_first, region_on_board}
use Rattle.report.proofs.safety.add_counted.Goals as goal

pub returns-then-not-contains : goal.returns-then-not-contains
returns-then-not-contains c =
    listing_same _ _ _ _ (2 * c.args.point + turn c.args.colour) c.args.lines.now.items c.requires.below
    (no_key_unmarked c.args.board.now c.args.colour c.args.point c.args.counted.now c.requires.counted
    (λ m. both_ways c.contains.result c.if-not-contains.true (c.contains.ensures.1 m)))

pub region_of-requires-clause-counted : goal.region_of-requires-clause-counted
region_of-requires-clause-counted c = (c.requires.counted c.args.point).0 (c.contains.ensures.0 c.if-not-contains.false)

pub stands_first-requires : goal.stands_first-requires
stands_first-requires c =
    rw c.deref.ensures.value
    (region_has_first c.args.board.now c.requires.settled.closed c.args.colour c.args.point c.in_ok-region.region.items
    ((c.requires.counted c.args.point).0 (c.contains.ensures.0 c.if-not-contains.false)) c.in_ok-region.ensures)

pub returns-then-not-stands_first : goal.returns-then-not-stands_first
returns-then-not-stands_first c =
    let counted = (c.requires.counted c.args.point).0 (c.contains.ensures.0 c.if-not-contains.false) in
    let second = subst (λ xs. get_or xs 0 0 ≡ c.args.point → (c.stands_first.result ≡ true)) c.deref.ensures.value c.stands_first.ensures.1 in
    listing_same _ _ _ _ (2 * c.args.point + turn c.args.colour) c.args.lines.now.items c.requires.below
    (no_key_from c.args.board.now c.requires.settled.closed c.args.colour c.args.point c.in_ok-region.region.items counted c.in_ok-region.ensures
    (λ e. both_ways c.stands_first.result c.if-not-stands_first.true (second e)))

pub held-requires-clause-ascending : goal.held-requires-clause-ascending
held-requires-clause-ascending c = rw c.deref-2.ensures.value c.in_ok-region.ensures.ascending

pub held-requires-clause-on_board : goal.held-requires-clause-on_board
held-requires-clause-on_board c k d =
    rw c.deref-2.ensures.value (region_on_board c.args.board.now c.args.colour c.args.point c.in_ok-region.region.items c.in_ok-region.ensures k d)

pub returns : goal.returns
returns c =
    let g = c.args.board.now in
    let points = c.in_ok-region.region.items in
    let counted = (c.requires.counted c.args.point).0 (c.contains.ensures.0 c.if-not-contains.false) in
    let first = subst (λ xs. (c.stands_first.result ≡ true) → get_or xs 0 0 ≡ c.args.point) c.deref.ensures.value c.stands_first.ensures.0 in
    let line = counted_line_is g c.args.colour c.args.point c.len.result c.held.result points counted c.in_ok-region.ensures (first c.if-not-stands_first.false)
    (ap length (sym c.deref.ensures.value) ∙ c.deref.ensures.len ∙ sym c.len.ensures)
    (subst (λ xs. c.held.result ≡ sum_by (worth g c.args.colour) xs) c.deref-2.ensures.value c.held.ensures.worth) in
    rw c.in_ok-push.ensures.items (listing_more _ _ _ _ (2 * c.args.point + turn c.args.colour) c.args.lines.now.items _ c.requires.below line refl)
