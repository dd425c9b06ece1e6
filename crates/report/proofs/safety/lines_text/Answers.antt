use Rattle.std.proofs.Common.{◌<◌, get_or, subst, sym, ◌∙◌}
use Rattle.report.proofs.ChainLaws.{attacks_on_board, chains_on_board}
use Rattle.report.proofs.SafetyLaws.{counted_on_board, regions_on_board, safe_text_is}
use Rattle.report.proofs.safety.lines_text.Goals as goal

pub write_chains-requires-clause-lowest : goal.write_chains-requires-clause-lowest
write_chains-requires-clause-lowest c k d lt = subst (λ n. (get_or c.args.chains.now k d).lowest < n) (sym c.size-size.ensures.area) (chains_on_board c.args.board.now c.args.chains.now c.requires.chains k d lt)

pub write_chains-requires-clause-attacks : goal.write_chains-requires-clause-attacks
write_chains-requires-clause-attacks c k d lt open' i e within =
    subst (λ n. get_or (get_or c.args.chains.now k d).attack.items i e < n) (sym c.size-size.ensures.area)
    (attacks_on_board c.args.board.now c.args.chains.now c.requires.chains k d lt open' i e within)

pub write_all_counted-requires : goal.write_all_counted-requires
write_all_counted-requires c k d lt = subst (λ n. (get_or c.args.counted.now k d).lowest < n) (sym c.size-size.ensures.area) (counted_on_board c.args.board.now c.args.counted.now c.requires.counted k d lt)

pub write_regions-requires : goal.write_regions-requires
write_regions-requires c k d lt =
    let r = regions_on_board c.args.board.now c.args.regions.now c.requires.regions k d lt in (r.0 ∙ sym c.size-size.ensures.columns, r.1 ∙ sym c.size-size.ensures.rows)

pub returns : goal.returns
returns c =
    safe_text_is c.args.board.now c.size-size.result.columns c.args.chains.now c.args.counted.now c.args.black_groups c.args.white_groups _ _ _ _ _ _ _ _ c.size-size.ensures.columns
    c.requires.chains c.requires.counted c.requires.black_groups c.requires.white_groups c.requires.regions c.new-text.ensures.bytes c.in_ok-write_chains.ensures
    c.in_ok-write_all_counted.ensures c.in_ok-write_groups.ensures c.in_ok-write_groups-2.ensures c.in_ok-write_regions.ensures c.from.ensures
