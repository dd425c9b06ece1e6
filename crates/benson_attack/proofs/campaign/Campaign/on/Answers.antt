use Rattle.std.proofs.Common.{sym, subst}
use Rattle.benson_attack.specs.inner.Attack.{Takes}
use Rattle.benson_attack.proofs.CampaignLemmas.{capture_takes}
use Rattle.benson_attack.proofs.campaign.Campaign.on.Goals as goal

pub returns-then-branch-clause-taken : goal.returns-then-branch-clause-taken
returns-then-branch-clause-taken c =
    capture_takes c.args.board.now c.args.self.now.by c.args.stone c.in_ok-alone.alone c.capture.new.run c.in_ok-capture.field-0
    c.requires.settled c.in_ok-alone.ensures.0 c.in_ok-alone.ensures.1 c.in_ok-capture.ensures c.if-branch.true

pub returns-clause-taken : goal.returns-clause-taken
returns-clause-taken c =
    subst (Takes c.args.board.now c.args.self.now.by c.args.stone) (sym c.in_ok-placings.ensures)
    (subst (λ r. Takes c.args.board.now c.args.self.now.by c.args.stone r.placings.items) (sym c.index.ensures)
    (c.in-Some.ensures.1 c.index.result.now))
