use Rattle.board_tests.proofs.budget_tests.has_layers.Given as goal

abbrev pub ghosts-values_of : goal.ghosts-values_of
ghosts-values_of a = record { name = a.blank.name; parts = a.blank.parts }
