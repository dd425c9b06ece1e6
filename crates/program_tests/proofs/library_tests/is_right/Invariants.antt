use Rattle.program_tests.proofs.library_tests.is_right.Given as goal

abbrev pub ghosts-begin : goal.ghosts-begin
ghosts-begin a = record { name = a.blank.name; parts = a.blank.parts }
