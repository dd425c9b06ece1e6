use Rattle.std.proofs.Common.{inl, inr, refl, arith}
use Rattle.endgame_questions.proofs.AnswerLaws.{finished_done, finishes_as}
use Rattle.endgame_questions.proofs.answering.run_question.Goals as goal

pub returns-in-Ok-clause-ran : goal.returns-in-Ok-clause-ran
returns-in-Ok-clause-ran g c = record {
  written = inr (c.in-Ok.report.status, c.in-Ok.report.text, c.in-Ok.ensures.answer, finishes_as _ _ _ _ _ _ _ c.finish.result c.as_slice.ensures c.finish.ensures.written);
  reads = c.in-Ok.ensures.reads;
  at_end = λ done. c.in-Ok.ensures.at_end (finished_done _ _ _ _ _ _ c.finish.result c.finish.ensures.written done);
}

pub returns-in-Ok-clause-later : goal.returns-in-Ok-clause-later
returns-in-Ok-clause-later g c = record { input = c.in-Ok.ensures.reads.later; writes = c.finish.ensures.later }

pub returns-in-Err-clause-ran : goal.returns-in-Err-clause-ran
returns-in-Err-clause-ran g c = record { written = inl (refl, refl); reads = c.in-Err.ensures.reads; at_end = λ done. absurd cc }

pub returns-in-Err-clause-later : goal.returns-in-Err-clause-later
returns-in-Err-clause-later g c = record { input = c.in-Err.ensures.reads.later; writes = omega arith }
