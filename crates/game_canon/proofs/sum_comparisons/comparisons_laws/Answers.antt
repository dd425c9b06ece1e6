use Rattle.game_canon.specs.FormComparisons.{answer_of}
use Rattle.game_canon.proofs.CanonicalFormLaws.{right-grown}
use Rattle.game_canon.proofs.SumQuestionLaws.{right_grown}
use Rattle.game_canon.proofs.sum_comparisons.comparisons_laws.Goals as goal

pub returns-clause-sums : goal.returns-clause-sums
returns-clause-sums c = right_grown

pub returns-clause-forms : goal.returns-clause-forms
returns-clause-forms c = λ Ts Us memo. right-grown Ts Us (answer_of memo)
