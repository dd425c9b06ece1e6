use Rattle.std.proofs.Common.{subst, Err}
use Rattle.sgf_tree.specs.Reading.{line_text}
use Rattle.sgf_go.specs.Setup.{Gives}
use Rattle.endgame_questions.proofs.SizeLaws.{no_liberty_on_board, twice_on_board}
use Rattle.endgame_questions.proofs.faults.setup_fault_text.Goals as goal

pub point_fault_text-requires : goal.point_fault_text-requires
point_fault_text-requires c =
    twice_on_board c.requires.0 (line_text c.args.tree.now) c.in-MarkedTwice.point (subst (λ f. Gives c.requires.0 (line_text c.args.tree.now) (Err f)) c.in-MarkedTwice.is c.requires.1)

pub point_fault_text-requires-in-NoLiberty : goal.point_fault_text-requires-in-NoLiberty
point_fault_text-requires-in-NoLiberty c =
    no_liberty_on_board c.requires.0 (line_text c.args.tree.now) c.in-NoLiberty.point (subst (λ f. Gives c.requires.0 (line_text c.args.tree.now) (Err f)) c.in-NoLiberty.is c.requires.1)

pub returns-in-Occupied : goal.returns-in-Occupied
returns-in-Occupied c = rw c.in-Occupied.is c.fault_line_at-in-Occupied.ensures
