use Rattle.gd_words.specs.Task.Task.{gtp}
use Rattle.gd_words.proofs.BoundLemmas.{within}
use Rattle.gd_words.proofs.JobLemmas.{begins_with_engine, job_made, map_none, map_some, no_choices, no_task, with_two}
use Rattle.gd_words.proofs.ListingLemmas.{at_none, one_first, two_words}
use Rattle.gd_words.proofs.words.read_job.Goals as goal

pub returns-then-is_engine-clause-job : goal.returns-then-is_engine-clause-job
returns-then-is_engine-clause-job c =
    map_some _ _ c.read_options.result (λ job made. job_made _ _ gtp _ (begins_with_engine _ _ _ (one_first c.args.words.now _ c.in-len1-up.len_at_least) (c.is_engine.ensures.0 c.if-is_engine.true)) made) c.read_options.ensures.job

pub returns-then-is_engine-clause-bounds : goal.returns-then-is_engine-clause-bounds
returns-then-is_engine-clause-bounds c = map_some _ _ c.read_options.result (λ job made. within _ _ _ _ made.1 made.2 made.3) c.read_options.ensures.job

pub returns-then-is_engine-clause-none : goal.returns-then-is_engine-clause-none
returns-then-is_engine-clause-none c =
    map_none _ _ c.read_options.result (λ none job. no_choices _ _ gtp job (begins_with_engine _ _ _ (one_first c.args.words.now _ c.in-len1-up.len_at_least) (c.is_engine.ensures.0 c.if-is_engine.true)) none) c.read_options.ensures.none

pub returns-in_err-command-clause-none : goal.returns-in_err-command-clause-none
returns-in_err-command-clause-none c =
    at_none _ _ c.from_residual.ensures
    (λ job. no_task _ _ _ _ job (two_words c.args.words.now _ _ c.in-len1-up.len_at_least c.in-len1-up-behind.len_at_least) (λ e. let k = c.is_engine.ensures.1 e in cc) c.in_err-command.ensures.none)

pub returns-clause-job : goal.returns-clause-job
returns-clause-job c =
    map_some _ _ c.read_options-2.result
    (λ job made. job_made _ _ _ _ (with_two _ _ _ _ _ (two_words c.args.words.now _ _ c.in-len1-up.len_at_least c.in-len1-up-behind.len_at_least) c.in_ok-command.ensures.some) made) c.read_options-2.ensures.job

pub returns-clause-bounds : goal.returns-clause-bounds
returns-clause-bounds c = map_some _ _ c.read_options-2.result (λ job made. within _ _ _ _ made.1 made.2 made.3) c.read_options-2.ensures.job

pub returns-clause-none : goal.returns-clause-none
returns-clause-none c =
    map_none _ _ c.read_options-2.result
    (λ none job. no_choices _ _ _ job (with_two _ _ _ _ _ (two_words c.args.words.now _ _ c.in-len1-up.len_at_least c.in-len1-up-behind.len_at_least) c.in_ok-command.ensures.some) none) c.read_options-2.ensures.none
