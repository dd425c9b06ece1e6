use Rattle.endgame_questions.proofs.finding.find_position.Goals as goal

pub returns-in_err-found-in-Ok-clause-reads : goal.returns-in_err-found-in-Ok-clause-reads
returns-in_err-found-in-Ok-clause-reads g c = c.read_file.ensures.reads

pub returns-in_err-from_str-in-Err-CannotRead-clause-reads : goal.returns-in_err-from_str-in-Err-CannotRead-clause-reads
returns-in_err-from_str-in-Err-CannotRead-clause-reads g c = c.read_file.ensures.reads

pub returns-in_err-from_str-in-Err-TooLong-clause-reads : goal.returns-in_err-from_str-in-Err-TooLong-clause-reads
returns-in_err-from_str-in-Err-TooLong-clause-reads g c = c.read_file.ensures.reads

pub returns-in_ok-found-in-Ok-clause-reads : goal.returns-in_ok-found-in-Ok-clause-reads
returns-in_ok-found-in-Ok-clause-reads g c = c.read_file.ensures.reads

pub returns-in_ok-found-in-Ok-clause-at_end : goal.returns-in_ok-found-in-Ok-clause-at_end
returns-in_ok-found-in-Ok-clause-at_end g c = λ setup is. c.in-Ok.ensures.at_end

pub returns-in_ok-from_str-in-Err-CannotRead-clause-reads : goal.returns-in_ok-from_str-in-Err-CannotRead-clause-reads
returns-in_ok-from_str-in-Err-CannotRead-clause-reads g c = c.read_file.ensures.reads

pub returns-in_ok-from_str-in-Err-TooLong-clause-reads : goal.returns-in_ok-from_str-in-Err-TooLong-clause-reads
returns-in_ok-from_str-in-Err-TooLong-clause-reads g c = c.read_file.ensures.reads

pub returns-in-Err-Memory-clause-reads : goal.returns-in-Err-Memory-clause-reads
returns-in-Err-Memory-clause-reads g c = c.read_file.ensures.reads
