-- The limits that a job gives.
use Rattle.gd_words.specs.Job.{Job}
use Rattle.endgame_solver.specs.Limits.{Limits}
use Rattle.gtp_engine.specs.declared.limits.EngineLimits.{EngineLimits}
use Rattle.board_session.specs.declared.limits.BoardLimits.{BoardLimits}
use Rattle.endgame_questions.specs.declared.terms.GameTerms.{GameTerms}

-- the limits of a job
abbrev pub limits_of : Job → Limits
limits_of job = record { positions = job.positions; parts = job.parts }

-- the limits of a job, and whether there is a tax
abbrev pub terms_of : Job → GameTerms
terms_of job = record { limits = limits_of job; tax = job.tax }

-- the limits of an engine, and whether points are declared and cycles admitted
abbrev pub engine_limits : Job → EngineLimits
engine_limits job = record { game = limits_of job; territory = job.settings.territory; cycles = job.cycles }

-- the limits of a kept board, and whether points are declared and cycles admitted
abbrev pub board_limits : Job → BoardLimits
board_limits job = record { game = limits_of job; territory = job.settings.territory; cycles = job.cycles }
