use Rattle.std.proofs.Common.{ℕ, List, length, take, ◌-◌, ◌∙◌, ap, sym, subst}
use Rattle.game_store.specs.Meaning.{pick}
use Rattle.game_canon.specs.inner.Sides.{AreBest, AreFree}
use Rattle.game_canon.proofs.AnswerLaws.{ids-front, ids-back}
use Rattle.game_canon.proofs.GameLaws.{beside-no_number}
use Rattle.game_canon.proofs.ReductionLaws.{both_ok, smaller-from}
use Rattle.game_canon.proofs.SideLaws.{parted, rest-free}
use Rattle.game_canon.proofs.reversal.bypassed.Goals as goal

pub best_in_order-requires-clause-free_ids : goal.best_in_order-requires-clause-free_ids
best_in_order-requires-clause-free_ids c = ids-front c.args.games.now.store.now c.put_replaced.new.all.items c.deref.result.now _ _ c.split_at.ensures.front c.deref.ensures c.in_ok-put_replaced.ensures.replaced.ids

pub best_in_order-requires-clause-free : goal.best_in_order-requires-clause-free
best_in_order-requires-clause-free c =
    subst (λ (z : List ℕ). AreFree c.args.side (pick c.args.games.now.store.now z)) (sym (c.split_at.ensures.front ∙ ap (take (length c.args.ids.now - 1)) c.deref.ensures))
    (rest-free c.args.side c.args.games.now.store.now c.args.ids.now c.put_replaced.new.all.items c.args.place c.requires.place c.in_ok-put_replaced.ensures.refilled c.requires.free)

pub best_in_order-requires-clause-ids : goal.best_in_order-requires-clause-ids
best_in_order-requires-clause-ids c = ids-back c.args.games.now.store.now c.put_replaced.new.all.items c.deref.result.now _ _ c.split_at.ensures.back c.deref.ensures c.in_ok-put_replaced.ensures.replaced.ids

pub returns-clause-smaller : goal.returns-clause-smaller
returns-clause-smaller c = both_ok c.best_in_order.result _ _ _ (λ v best ascends. smaller-from c.args.side c.args.games.now.store.now _ c.args.ids.now c.put_replaced.new.all.items v.items c.args.place c.args.answer
    (beside-no_number c.args.games.now.store.now c.args.games.now.unstored c.requires.known.games_are.beside c.requires.form)
    c.requires.place c.requires.reversal c.in_ok-put_replaced.ensures.replaced
    (subst (λ (z : List ℕ). AreBest c.args.side c.args.games.now.store.now z v.items)
    (parted c.put_replaced.new.all.items c.deref.result.now c.split_at.result.0.now c.split_at.result.1.now (length c.args.ids.now - 1) c.split_at.ensures.front c.split_at.ensures.back c.deref.ensures) best)
    ascends) c.best_in_order.ensures.best c.best_in_order.ensures.ascends
