use Rattle.game_text.proofs.named_games.taken_choice.Goals as goal

pub returns-clause-kept : goal.returns-clause-kept
returns-clause-kept c = c.canonical.ensures.kept

pub returns-in_err-canonical-clause-kept : goal.returns-in_err-canonical-clause-kept
returns-in_err-canonical-clause-kept c = c.canonical.ensures.kept
