use Rattle.std.proofs.Common.{◌∙◌, ◌++◌, ◌∷◌, [], ap, subst, sym, IfSome}
use Rattle.board_session.specs.Generating.{komi_after}
use Rattle.board_orders.specs.Kept.{IsModest}
use Rattle.board_orders.specs.Doing.{IsFitMove, IsMadeBy}
use Rattle.board_session.proofs.GeneratingLemmas.{not_illegal}
use Rattle.board_orders.proofs.KeptLemmas.{same_komi}
use Rattle.board_session.proofs.generating.make_chosen.Goals as goal

pub unreachable-requires : goal.unreachable-requires
unreachable-requires c =
    not_illegal c.args.session.now c.args.colour c.args.chosen c.requires.may
    (subst (IsMadeBy c.args.colour c.args.chosen c.args.session.now) c.in_default.is (c.in_ok-made.ensures {u = tt}).made)

pub add-requires : goal.add-requires
add-requires c = subst (λ made. IfSome made (IsFitMove c.args.session.now)) c.in-Some.is (c.in_ok-made.ensures {u = tt}).fit

pub returns-clause-made : goal.returns-clause-made
returns-clause-made c =
    let now = c.args.session.now in let made = c.in-Some.made in let added = (c.in_ok-add.ensures {u = tt}).ok in
    let makes = subst (IsMadeBy c.args.colour c.args.chosen now) c.in-Some.is (c.in_ok-made.ensures {u = tt}).made in
    let halves = c.komi_after-halves.ensures ∙ ap (komi_after c.args.colour c.args.chosen) (same_komi c.komi_halves.result c.komi_halves.ensures.modest ∙ c.komi_halves.ensures.value) in
    let komi = same_komi c.komi_after-halves.result (subst IsModest (sym halves) c.requires.komi) ∙ halves in
    let moves = ap (λ s. s.moves) added ∙ ap (λ m. now.moves ++ m ∷ []) makes.1 in
    let handicap = ap (λ s. s.handicap) added in let setup = ap (λ s. s.setup) added in
    (made.after, makes.0, c.put_komi.ensures ∙ (λ i. record { komi_halves = komi i; handicap = handicap i; setup = setup i; moves = moves i }))

pub returns-clause-same : goal.returns-clause-same
returns-clause-same c = tt
