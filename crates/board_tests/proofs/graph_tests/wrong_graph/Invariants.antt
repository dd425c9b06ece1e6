use Rattle.board_tests.proofs.graph_tests.wrong_graph.Given as goal

abbrev pub ghosts-answer : goal.ghosts-answer
ghosts-answer a = record { name = a.blank.name; parts = a.blank.parts }
