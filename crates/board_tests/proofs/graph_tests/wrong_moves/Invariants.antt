use Rattle.board_tests.proofs.graph_tests.wrong_moves.Given as goal

abbrev pub ghosts-has_moves : goal.ghosts-has_moves
ghosts-has_moves a = record { name = a.blank.name; parts = a.blank.parts }
