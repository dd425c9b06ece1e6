use Rattle.std.proofs.Common.{◌≡◌, refl, subst}
use Rattle.std.proofs.lemmas.Result.{IfOk-from_err}
use Rattle.std.specs.Prelude.{MatchOption}
use Rattle.benson_attack.specs.Attacks.{IsCampaign}
use Rattle.benson_attack.specs.inner.Reached.{AllAlive, Follows}
use Rattle.benson_attack.proofs.CountLemmas.{falls}
use Rattle.benson_attack.proofs.CampaignLemmas.{begun, campaign_is, goes_on, more_runs, no_runs}
use Rattle.benson_attack.proofs.campaign.Campaign.of.Goals as goal

pub capturing-init : goal.capturing-init
capturing-init c =
    let first = begun c.args.board.now c.args.by c.in_ok-run.run' c.requires.settled c.in_ok-run.ensures.0 c.in_ok-run.ensures.1 in
    (no_runs c.args.board.now c.args.by c.new-runs.result.items c.new-runs.ensures.items, first.0, first.1)

pub capturing-smaller : goal.capturing-smaller
capturing-smaller c =
    let d = c.args.by in
    let run = c.capturing.run in
    let follows = subst (λ o. MatchOption o (AllAlive d c.args.alive.now run) (Follows d run)) c.in-Some.is c.in_ok-next.ensures in
    falls d run.board c.in-Some.next.board follows.long follows.more

pub capturing-preserved : goal.capturing-preserved
capturing-preserved c =
    let g = c.args.board.now in
    let d = c.args.by in
    let run = c.capturing.run in
    let was = c.capturing.invariant in
    let follows = subst (λ o. MatchOption o (AllAlive d c.args.alive.now run) (Follows d run)) c.in-Some.is c.in_ok-next.ensures in
    let next = goes_on g d run c.in-Some.next follows was.1 was.2 in
    (more_runs g d c.capturing.runs.items c.push.new.self.items run c.in_ok-push-in-Some.ensures.items was.0 was.1 was.2, next.0, next.1)

pub returns-clause-campaign : goal.returns-clause-campaign
returns-clause-campaign c =
    let was = c.capturing.invariant in
    let d = c.args.by in
    let run = c.capturing.run in
    let all = subst (λ o. MatchOption o (AllAlive d c.args.alive.now run) (Follows d run)) c.in-None.is c.in_ok-next.ensures in
    campaign_is c.args.board.now c.args.by c.args.alive.now (record { by = c.args.by; runs = c.push-2.new.self }) c.capturing.runs.items c.capturing.run
    c.requires.settled c.requires.alive refl c.in_ok-push.ensures.items was.0 was.1 was.2 all

pub returns-in_err-next-clause-by : goal.returns-in_err-next-clause-by
returns-in_err-next-clause-by c = IfOk-from_err c.from_residual-in_err-next.result (λ x. x.by ≡ c.args.by) c.from_residual-in_err-next.ensures.0

pub returns-in_err-next-clause-campaign : goal.returns-in_err-next-clause-campaign
returns-in_err-next-clause-campaign c = IfOk-from_err c.from_residual-in_err-next.result (IsCampaign c.args.board.now) c.from_residual-in_err-next.ensures.0

pub returns-in_err-push-clause-by : goal.returns-in_err-push-clause-by
returns-in_err-push-clause-by c = IfOk-from_err c.from_residual-in_err-push.result (λ x. x.by ≡ c.args.by) c.from_residual-in_err-push.ensures.0

pub returns-in_err-push-clause-campaign : goal.returns-in_err-push-clause-campaign
returns-in_err-push-clause-campaign c = IfOk-from_err c.from_residual-in_err-push.result (IsCampaign c.args.board.now) c.from_residual-in_err-push.ensures.0
