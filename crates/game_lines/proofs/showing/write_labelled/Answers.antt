use Rattle.std.proofs.Common.{◌∙◌}
use Rattle.game_lines.specs.Pictures.{picture_lines}
use Rattle.game_lines.specs.Showings.{picture}
use Rattle.game_lines.proofs.ShowingLaws.{lines_are}
use Rattle.game_lines.proofs.showing.write_labelled.Goals as goal

pub returns : goal.returns
returns c =
    lines_are _ _ _ _ _ c.args.label.now _ _ _ _ (picture_lines (picture c.args.showing.now)) c.in_ok-extend_from_slice.ensures.ok c.as_bytes.ensures.value
    c.in_ok-extend_from_slice-2.ensures.ok c.in_ok-extend_from_slice-3.ensures.ok c.as_slice.ensures
    c.in_ok-extend_from_slice-4.ensures.ok (c.as_bytes-2.ensures.value ∙ c.in_ok-picture.ensures)
