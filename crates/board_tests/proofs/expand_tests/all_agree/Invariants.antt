use Rattle.board_tests.proofs.expand_tests.all_agree.Given as goal

abbrev pub ghosts-agreeing : goal.ghosts-agreeing
ghosts-agreeing a = record { name = a.blank.name; parts = a.blank.parts }
