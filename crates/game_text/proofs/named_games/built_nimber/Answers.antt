use Rattle.game_canon.proofs.ChangedIdLaws.{extends-on}
use Rattle.std.proofs.Common.{◌∙◌, ◌++◌, ◌∷◌, [], ap, arith, length}
use Rattle.game_text.proofs.NameReadingLaws.{zero-nimbers}
use Rattle.game_text.proofs.named_games.built_nimber.Goals as goal

pub building-init : goal.building-init
building-init c = record {
  nimbers = zero-nimbers c.number.new.self _ c.in_ok-zero.zero c.push.new.self.items c.whole.ensures c.in_ok-zero.ensures.value (c.in_ok-push.ensures.items ∙ ap (λ z. z ++ c.in_ok-zero.zero ∷ []) c.new-nimbers.ensures.items);
  some = omega (arith, ap length (c.in_ok-push.ensures.items ∙ ap (λ z. z ++ c.in_ok-zero.zero ∷ []) c.new-nimbers.ensures.items));
  few = omega (arith, ap length (c.in_ok-push.ensures.items ∙ ap (λ z. z ++ c.in_ok-zero.zero ∷ []) c.new-nimbers.ensures.items));
  kept = c.in_ok-zero.ensures.kept;
}

pub returns-clause-kept : goal.returns-clause-kept
returns-clause-kept c = c.building.invariant.kept

pub returns-in_err-zero-clause-kept : goal.returns-in_err-zero-clause-kept
returns-in_err-zero-clause-kept c = c.number.ensures.kept

pub returns-in_err-push-clause-kept : goal.returns-in_err-push-clause-kept
returns-in_err-push-clause-kept c = c.number.ensures.kept

pub returns-in_err-add_nimber-clause-kept : goal.returns-in_err-add_nimber-clause-kept
returns-in_err-add_nimber-clause-kept c = extends-on _ _ _ c.building.invariant.kept c.add_nimber.ensures.kept

pub add_nimber-requires-clause-some : goal.add_nimber-requires-clause-some
add_nimber-requires-clause-some c = c.building.invariant.some

pub add_nimber-requires-clause-nimbers : goal.add_nimber-requires-clause-nimbers
add_nimber-requires-clause-nimbers c = c.building.invariant.nimbers
