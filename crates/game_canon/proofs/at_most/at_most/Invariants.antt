use Rattle.game_canon.specs.inner.Games.{trees}
use Rattle.game_canon.specs.inner.Comparisons.{recalled}
use Rattle.game_canon.proofs.QuestionLaws.{IsAsking, open_work}
use Rattle.game_canon.proofs.at_most.at_most.Given as goal

abbrev pub invariant-asking : goal.invariant-asking
invariant-asking l = IsAsking (trees l.games) (recalled l.memo) l.a l.b l.question l.waiting.items

abbrev pub decreases-asking : goal.decreases-asking
decreases-asking l = open_work (trees l.games) (recalled l.memo) l.question
