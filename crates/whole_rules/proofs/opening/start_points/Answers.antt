use Rattle.std.proofs.Common.{sym, subst, true}
use Rattle.whole_rules.specs.Opening.{GivesAtStart}
use Rattle.whole_rules.proofs.OpeningLaws.{starts}
use Rattle.whole_rules.proofs.opening.start_points.Goals as goal

pub after_tax-requires : goal.after_tax-requires
after_tax-requires c = c.tax_laws.ensures c.args.board.now c.args.colour _ _ c.requires.settled (c.requires.taxed c.if-tax.true) c.in_ok-held.ensures c.in_ok-groups.ensures

pub returns-then-tax : goal.returns-then-tax
returns-then-tax c =
    let pays = c.tax_laws.ensures c.args.board.now c.args.colour _ _ c.requires.settled (c.requires.taxed c.if-tax.true) c.in_ok-held.ensures c.in_ok-groups.ensures in
    subst (λ t. GivesAtStart c.args.board.now c.args.colour t c.after_tax.result) (sym c.if-tax.true)
    (subst (GivesAtStart c.args.board.now c.args.colour true) (sym c.after_tax.ensures)
    (starts c.args.board.now c.args.colour _ _ c.in_ok-groups.ensures c.in_ok-held.ensures pays))
