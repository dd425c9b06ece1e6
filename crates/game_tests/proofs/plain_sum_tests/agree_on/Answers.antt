use Rattle.sum_outcome.proofs.MemoLaws.{fits_grown}
use Rattle.game_tests.proofs.plain_sum_tests.agree_on.Goals as goal

pub all_agree-requires-clause-fits : goal.all_agree-requires-clause-fits
all_agree-requires-clause-fits c = fits_grown c.args.store.now c.three_games.new.store c.args.search.now c.three_games.ensures.kept c.requires

pub returns-in_err-games : goal.returns-in_err-games
returns-in_err-games c = fits_grown c.args.store.now c.three_games.new.store c.args.search.now c.three_games.ensures.kept c.requires
