use Rattle.board_tests.proofs.value_tests.has_value.Given as goal

abbrev pub ghosts-opening_value : goal.ghosts-opening_value
ghosts-opening_value a = record { name = a.blank.name; parts = a.blank.parts }
