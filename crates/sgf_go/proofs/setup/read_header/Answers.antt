use Rattle.std.proofs.Common.{◌∙◌, ap, sym, subst, None, Some, List, map}
use Rattle.std.specs.Prelude.{codes}
use Rattle.sgf_tree.specs.Grammar.{PropertyText}
use Rattle.sgf_tree.specs.Reading.{line_text, property_text}
use Rattle.sgf_go.specs.Reading.{extent}
use Rattle.sgf_go.specs.Komi.{IsInRange}
use Rattle.sgf_go.specs.Values.{Says}
use Rattle.sgf_go.specs.Setup.{value_of, is_go, IsBoardSize, IsKomiFor}
use Rattle.sgf_go.proofs.PositionLemmas.{wrong_game, bad_size, bad_komi, komi_kept}
use Rattle.sgf_go.proofs.setup.read_header.Goals as goal

pub returns-then-not-is_go_game-clause-header : goal.returns-then-not-is_go_game-clause-header
returns-then-not-is_go_game-clause-header c = tt

pub returns-then-not-is_go_game-clause-fault : goal.returns-then-not-is_go_game-clause-fault
returns-then-not-is_go_game-clause-fault c tree e = wrong_game c.args.settings.now (line_text tree)
    (ap (λ ps. is_go (value_of (codes "GM") ps)) e ∙ sym c.is_go_game.ensures ∙ c.if-not-is_go_game.true)

pub returns-in_default-clause-header : goal.returns-in_default-clause-header
returns-in_default-clause-header c = tt

pub returns-in_default-clause-fault : goal.returns-in_default-clause-fault
returns-in_default-clause-fault c tree e = bad_size c.args.settings.now (line_text tree)
    (ap (λ ps. is_go (value_of (codes "GM") ps)) e ∙ sym c.is_go_game.ensures ∙ c.if-not-is_go_game.false)
    (subst (λ (ps : List PropertyText). Says (IsBoardSize (value_of (codes "SZ") ps)) None) (sym e) (c.in_default.ensures {u = tt}))

pub returns-in_default-find_komi-clause-header : goal.returns-in_default-find_komi-clause-header
returns-in_default-find_komi-clause-header c = tt

pub returns-in_default-find_komi-clause-fault : goal.returns-in_default-find_komi-clause-fault
returns-in_default-find_komi-clause-fault c tree e = bad_komi c.args.settings.now (line_text tree) c.in-Some.size
    (ap (λ ps. is_go (value_of (codes "GM") ps)) e ∙ sym c.is_go_game.ensures ∙ c.if-not-is_go_game.false)
    (subst (λ (ps : List PropertyText). Says (IsBoardSize (value_of (codes "SZ") ps)) (Some (extent c.in-Some.size))) (sym e) (c.in-Some.ensures {u = tt}))
    (subst (λ (ps : List PropertyText). Says (IsKomiFor c.args.settings.now.komi (value_of (codes "KM") ps)) None) (sym e) (c.in_default-find_komi.ensures {u = tt}).value)

pub returns-clause-header : goal.returns-clause-header
returns-clause-header c =
    let range : IsInRange c.in-Some-find_komi.komi = (c.in-Some-find_komi.ensures {u = tt}).range in
    let kept = sym (komi_kept c.in-Some-find_komi.komi range) in (
      sym c.is_go_game.ensures ∙ c.if-not-is_go_game.false,
      c.in-Some.ensures {u = tt},
      subst (λ k. Says (IsKomiFor c.args.settings.now.komi (value_of (codes "KM") (map property_text c.args.first.now))) (Some k)) kept (c.in-Some-find_komi.ensures {u = tt}).value,
      subst IsInRange kept range,
    )

pub returns-clause-fault : goal.returns-clause-fault
returns-clause-fault c = tt
