use Rattle.std.proofs.Common.{ap, sym, subst, ◌∙◌}
use Rattle.board_gen.specs.Short.{HasShortRegions}
use Rattle.go_play.proofs.SetupLemmas.{none_unsettled}
use Rattle.board_gen.proofs.SettledLemmas.{trial_settled}
use Rattle.board_gen.proofs.RegionLemmas.{short_regions}
use Rattle.board_gen.proofs.OneBoardLemmas.{one_board}
use Rattle.board_gen.proofs.boards.make.Goals as goal

pub returns-in-Ok-clause-only : goal.returns-in-Ok-clause-only
returns-in-Ok-clause-only c g drawn = one_board _ _ _ drawn c.in_ok-board.ensures ∙ sym (ap (λ s. s.board) c.in-Ok.ensures.0)

pub returns-in-Ok-clause-short : goal.returns-in-Ok-clause-short
returns-in-Ok-clause-short c = subst HasShortRegions (sym (ap (λ s. s.board) c.in-Ok.ensures.0)) (short_regions _ _ c.in_ok-board.ensures)

pub unreachable-requires : goal.unreachable-requires
unreachable-requires c = none_unsettled (trial_settled _ _ c.in_ok-board.ensures) (rw (c.in-Ok-of_board.ensures {u = tt}).point at c.in-Err.ensures)
