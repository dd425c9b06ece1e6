use Rattle.board_tests.proofs.cycle_tests.has_cycle.Given as goal

abbrev pub ghosts-shown_cycle : goal.ghosts-shown_cycle
ghosts-shown_cycle a = record { name = a.blank.name; parts = a.blank.parts }

abbrev pub ghosts-searched_cycle : goal.ghosts-searched_cycle
ghosts-searched_cycle a = record { name = a.blank.name; parts = a.blank.parts }
