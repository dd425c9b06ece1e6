use Rattle.std.proofs.Common.{refl}
use Rattle.sgf_go.proofs.UndeclaredLemmas.{first_choked}
use Rattle.sgf_go.proofs.setup.finish.Goals as goal

pub returns-in_ok-of_board-in-Err-clause-answer : goal.returns-in_ok-of_board-in-Err-clause-answer
returns-in_ok-of_board-in-Err-clause-answer c =
    let point = c.in_ok-of_board-in-Err.field-0 in
    (point, first_choked c.args.replay.board point c.requires.closed (rw c.in_ok-of_board-in-Err.ensures.point at c.in-Err.ensures), refl)
