use Rattle.std.proofs.Common.{subst}
use Rattle.play_session.specs.Words.{IsNamed}
use Rattle.play_session.proofs.words.asked_move.Goals as goal

pub returns : goal.returns
returns c =
    let g = c.args.board.now in let size = c.size.ensures in let word = c.trim.result.now in let named = c.named_move.result in
    subst (λ t. IsNamed g.columns g.rows t named) c.trim.ensures
    (subst (λ n. IsNamed n g.rows word named) size.columns (subst (λ n. IsNamed c.size.result.columns n word named) size.rows c.named_move.ensures))
