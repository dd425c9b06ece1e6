use Rattle.std.proofs.lemmas.Result.{on_ok_weaker}
use Rattle.std.proofs.Common.{sym, subst, inl, inr, arith, ◌∙◌, ap, ◌++◌, [], List, ℕ, append-nil}
use Rattle.std.proofs.lemmas.Grind.{common_steps}
use Rattle.game_store.specs.Meaning.{AreIds, pick}
use Rattle.short_games.specs.Tree.{Has}
use Rattle.game_canon.proofs.ReductionLaws.{replaced-from, few-near, nought-few, near-ids, pieces}
use Rattle.game_canon.proofs.SideLaws.{near-has, has-near}
use Rattle.game_canon.proofs.reversal.put_replaced.Goals as goal

pub returns-in-Number-clause-replaced : goal.returns-in-Number-clause-replaced
returns-in-Number-clause-replaced c = replaced-from c.args.side c.args.store.now c.args.ids.now c.args.place c.args.answer [] _ c.requires.ids c.requires.place (λ j l. absurd (omega (arith, l)))
    (inl (60, _, c.in-Number.ensures.form)) (λ X h. absurd h) (nought-few c.args.store.now _)
    ((pieces c.args.ids.now _ _ _ _ _ c.args.place c.requires.empty c.in_ok-extend_from_slice.ensures.ok c.in_ok-extend_from_slice-2.ensures.ok (grind (arith, common_steps)) (grind (arith, common_steps))) ∙ sym (append-nil _))

pub returns-in-Options-clause-replaced : goal.returns-in-Options-clause-replaced
returns-in-Options-clause-replaced c = on_ok_weaker c.extend_from_slice-in-Options.result (λ e. replaced-from c.args.side c.args.store.now c.args.ids.now c.args.place c.args.answer c.near_of.result.now _ c.requires.ids c.requires.place
    (subst (AreIds c.args.store.now) (sym c.near_of.ensures) (near-ids c.args.side c.args.store.now c.args.answer _ _ c.requires.answer c.in-Options.ensures.form))
    (inr (λ X x. subst (λ (z : List ℕ). Has (pick c.args.store.now z) X) (sym c.near_of.ensures) (has-near c.args.side c.args.store.now c.args.answer _ _ c.in-Options.ensures.form X x)))
    (λ X x. (c.in-Options.ensures.form.no_number, near-has c.args.side c.args.store.now c.args.answer _ _ c.in-Options.ensures.form X (subst (λ (z : List ℕ). Has (pick c.args.store.now z) X) c.near_of.ensures x)))
    (rw c.near_of.ensures (few-near c.args.side c.args.store.now c.args.answer _ _ c.in-Options.ensures.distinct c.requires.answer c.in-Options.ensures.form))
    (e ∙ ap (λ (z : List ℕ). z ++ c.near_of.result.now) (pieces c.args.ids.now _ _ _ _ _ c.args.place c.requires.empty c.in_ok-extend_from_slice.ensures.ok c.in_ok-extend_from_slice-2.ensures.ok (grind (arith, common_steps)) (grind (arith, common_steps))))) c.extend_from_slice-in-Options.ensures.ok

pub returns-in-Number-clause-refilled : goal.returns-in-Number-clause-refilled
returns-in-Number-clause-refilled c =
    ([], (pieces c.args.ids.now _ _ _ _ _ c.args.place c.requires.empty c.in_ok-extend_from_slice.ensures.ok c.in_ok-extend_from_slice-2.ensures.ok (grind (arith, common_steps)) (grind (arith, common_steps))) ∙ sym (append-nil _))

pub returns-in-Options-clause-refilled : goal.returns-in-Options-clause-refilled
returns-in-Options-clause-refilled c =
    on_ok_weaker c.extend_from_slice-in-Options.result (λ e. (c.near_of.result.now, e ∙ ap (λ (z : List ℕ). z ++ c.near_of.result.now) (pieces c.args.ids.now _ _ _ _ _ c.args.place c.requires.empty c.in_ok-extend_from_slice.ensures.ok c.in_ok-extend_from_slice-2.ensures.ok (grind (arith, common_steps)) (grind (arith, common_steps))))) c.extend_from_slice-in-Options.ensures.ok
