use Rattle.std.proofs.Common.{◌<◌, ◌*◌, subst, sym}
use Rattle.sgf_go.specs.Reading.{extent}
use Rattle.sgf_go.proofs.OnePositionLemmas.{one_board_size}
use Rattle.endgame_questions.proofs.faults.point_fault_text.Goals as goal

pub point_text-requires : goal.point_text-requires
point_text-requires c =
    let r = c.requires in
    let same = one_board_size _ (extent c.in-Some.size) r.0 c.in-Some.ensures r.1 in
    subst (λ e. c.args.point < e.columns * e.rows) (sym same) r.2
