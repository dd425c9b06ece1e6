use Rattle.std.proofs.Common.{sym, subst, ap, ◌∙◌, ◌∷◌, ◌++◌, []}
use Rattle.board_orders.specs.Kept.{IsModest}
use Rattle.board_orders.proofs.KeptLemmas.{same_komi}
use Rattle.board_orders.proofs.OrderLemmas.{none_back, taken_back}
use Rattle.board_orders.proofs.session.BoardSession.take_back.Goals as goal

pub put_komi-requires : goal.put_komi-requires
put_komi-requires c = subst IsModest (sym (same_komi c.in-Some.made.komi_before c.in-Some.ensures.komi)) c.in-Some.ensures.komi

pub returns-in-Some-clause-taken : goal.returns-in-Some-clause-taken
returns-in-Some-clause-taken c =
    let now = c.args.self.now in let is = c.put_komi.ensures in let last = c.in-Some.ensures.some in
    taken_back now c.put_komi.new.self c.in-Some.made c.args.id.now c.in_ok-taken.taken (last.0 ∙ ap (λ l. l ++ c.in-Some.made ∷ []) (sym (ap (λ s. s.moves) is)))
    (ap (λ s. s.komi_halves) is ∙ same_komi c.in-Some.made.komi_before c.in-Some.ensures.komi) (ap (λ s. s.setup) is ∙ ap (λ s. s.setup) last.1)
    (ap (λ s. s.handicap) is ∙ ap (λ s. s.handicap) last.1) c.in_ok-taken.ensures

pub returns-in-None-clause-taken : goal.returns-in-None-clause-taken
returns-in-None-clause-taken c =
    none_back c.args.self.now c.take_last.new.self c.args.id.now c.in_ok-refused.refused c.in-None.ensures.none.0 c.in-None.ensures.none.1 c.in_ok-refused.ensures
