use Rattle.std.proofs.Common.{◌≡◌, ◌↔◌, [], ◌∙◌, refl, sym, ap, get_or, subst, length, true}
use Rattle.std.proofs.lemmas.Bool.{both_ways}
use Rattle.report.proofs.ListingLaws.{listing_more, listing_same}
use Rattle.report.proofs.ChainLaws.{chain_has_first, chain_line_is, no_chain_at, no_chain_from}
use Rattle.report.proofs.chains.add_chain.Goals as goal

pub returns-in_default : goal.returns-in_default
returns-in_default c =
    listing_same _ _ _ _ c.args.point c.args.lines.now.items c.requires.below (no_chain_at c.args.board.now c.args.point c.in_default.ensures)

pub stands_first-requires : goal.stands_first-requires
stands_first-requires c =
    rw c.deref.ensures.value
    (chain_has_first c.args.board.now c.in-Some.colour c.args.point c.in_ok-stones.stones.items c.in-Some.ensures
    (c.in_ok-stones.ensures c.in-Some.colour c.in-Some.ensures))

pub returns-then-not-stands_first : goal.returns-then-not-stands_first
returns-then-not-stands_first c =
    let points = c.in_ok-stones.stones.items in
    let first = subst (λ xs. (c.stands_first.result ≡ true) → get_or xs 0 0 ≡ c.args.point) c.deref.ensures.value c.stands_first.ensures.0 in
    let second = subst (λ xs. get_or xs 0 0 ≡ c.args.point → (c.stands_first.result ≡ true)) c.deref.ensures.value c.stands_first.ensures.1 in
    listing_same _ _ _ _ c.args.point c.args.lines.now.items c.requires.below
    (no_chain_from c.args.board.now c.in-Some.colour c.args.point points c.in-Some.ensures
    (c.in_ok-stones.ensures c.in-Some.colour c.in-Some.ensures) (λ e. both_ways c.stands_first.result c.if-not-stands_first.true (second e)))

pub returns : goal.returns
returns c =
    let points = c.in_ok-stones.stones.items in
    let first = subst (λ xs. (c.stands_first.result ≡ true) → get_or xs 0 0 ≡ c.args.point) c.deref.ensures.value c.stands_first.ensures.0 in
    let none = subst (λ xs. (c.is_none.result ≡ true) ↔ (xs ≡ [])) c.deref-2.ensures.value c.is_none.ensures in
    let line = chain_line_is c.args.board.now points
    (record { lowest = c.args.point; colour = c.in-Some.colour; stones = c.len.result; alive = c.is_none.result; attack = c.in_ok-attack.attack })
    c.in-Some.ensures (c.in_ok-stones.ensures c.in-Some.colour c.in-Some.ensures) (first c.if-not-stands_first.false)
    (ap length (sym c.deref.ensures.value) ∙ c.deref.ensures.len ∙ sym c.len.ensures) (c.in_ok-attack.ensures c.in-Some.colour c.in-Some.ensures) none in
    rw c.in_ok-push.ensures.items (listing_more _ _ _ _ c.args.point c.args.lines.now.items _ c.requires.below line refl)
