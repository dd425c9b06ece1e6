use Rattle.program_tests.proofs.worked_games.begun.Given as goal

abbrev pub ghosts-begin : goal.ghosts-begin
ghosts-begin a = record { name = a.blank.name; parts = a.blank.parts }
