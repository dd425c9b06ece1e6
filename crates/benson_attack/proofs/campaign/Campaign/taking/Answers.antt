use Rattle.std.proofs.Common.{false, refl, ℕ, ◌≡◌, ◌∙◌, ◌<◌, inl, inr, List, length, get_or, arith, sym, subst}
use Rattle.std.proofs.lemmas.Bool.{both_ways, cases_eq}
use Rattle.std.proofs.lemmas.List.{get_or_default}
use Rattle.std.proofs.lemmas.List.Elements.{Contains-get_or}
use Rattle.go_grid.specs.Board.{HasStone, other}
use Rattle.benson_attack.specs.declared.captures.Run.{Run}
use Rattle.benson_attack.proofs.CampaignLemmas.{run_takes}
use Rattle.benson_attack.proofs.campaign.Campaign.taking.Goals as goal

item_is : (runs lent : List Run) (i : ℕ) (item : Run) → lent ≡ runs → i < length lent → item ≡ get_or lent i item → (run : Run) → get_or runs i run ≡ item
item_is runs lent i item same lt is run = subst (λ rs. get_or rs i run ≡ item) same (get_or_default lent i run item lt ∙ sym is)

pub looking-preserved : goal.looking-preserved
looking-preserved c = λ i run lt.
    let runs = c.args.self.now.runs.items in
    let k = other c.args.self.now.by in
    let s = c.args.stone in
    let held : HasStone c.run-item.result.board k s = subst (λ x. HasStone c.run-item.result.board x s) c.other.ensures (c.holds.ensures.0 c.if-not-holds.false) in
    let same = item_is runs c.deref-run-items.result.now c.looking.i c.run-item.result c.deref-run-items.ensures.value c.looking-test.true c.run-item.is run in
    elim (cases_eq i c.looking.i) as (λ _. HasStone (get_or runs i run).board k s) [
      | inl e ↦ subst (λ x. HasStone (get_or runs x run).board k s) (sym e) (subst (λ r. HasStone r.board k s) (sym same) held)
      | inr ne ↦ c.looking.invariant i run (omega (arith, lt, ne))
    ]

pub returns-then-not-holds : goal.returns-then-not-holds
returns-then-not-holds c =
    let g = c.args.board.now in
    let d = c.args.self.now.by in
    let s = c.args.stone in
    let runs = c.args.self.now.runs.items in
    let within : c.looking.i < length runs = subst (λ rs. c.looking.i < length rs) c.deref-run-items.ensures.value c.looking-test.true in
    let same = item_is runs c.deref-run-items.result.now c.looking.i c.run-item.result c.deref-run-items.ensures.value c.looking-test.true c.run-item.is in
    let gone : HasStone c.run-item.result.board (other d) s → ⊥ = λ at.
    both_ways false refl (c.if-not-holds.ensures.1 (subst (λ k. HasStone c.run-item.result.board k s) (sym c.other.ensures) at)) in (
      within,
      λ run.
          let each = c.requires.campaign.each (get_or runs c.looking.i run) (Contains-get_or runs c.looking.i run within) in
          run_takes g d s (get_or runs c.looking.i run) each.0 each.1 (λ at. gone (subst (λ r. HasStone r.board (other d) s) (same run) at)),
    )
