use Rattle.game_canon.specs.inner.Games.{trees}
use Rattle.game_canon.specs.inner.Comparisons.{recalled}
use Rattle.game_canon.proofs.QuestionLaws.{asking_ask, asking_answer, work_answer, right_more, right_same}
use Rattle.game_canon.proofs.at_most.at_most.Goals as goal

pub asking-preserved-in-Ask : goal.asking-preserved-in-Ask
asking-preserved-in-Ask c = asking_ask _ _ _ _ c.asking.question _ _ c.in-Ask.place c.in-Ask.game c.in-Ask.other c.asking.invariant c.in-Ask.ensures c.in_ok-push-in-Ask.ensures.items

pub asking-smaller : goal.asking-smaller
asking-smaller c = work_answer (trees c.args.games.now) (recalled c.asking.memo) (recalled c.remember.new.memo) c.args.a c.args.b c.asking.question c.in-Some-pop.next c.asking.waiting.items c.pop.new.self.items c.in-Answer.answer c.asking.invariant c.in_ok-remember-in-Answer.ensures.noted c.in-Some-pop.ensures.items

pub asking-preserved : goal.asking-preserved
asking-preserved c = asking_answer (trees c.args.games.now) (recalled c.asking.memo) (recalled c.remember.new.memo) c.args.a c.args.b
    c.asking.question c.in-Some-pop.next c.asking.waiting.items c.pop.new.self.items c.in-Answer.answer c.asking.invariant
    c.in_ok-remember-in-Answer.ensures.noted c.in-Some-pop.ensures.items c.in-Answer.ensures

pub returns-in-None-clause-right : goal.returns-in-None-clause-right
returns-in-None-clause-right c = let o = c.asking.invariant.now in
    right_more (trees c.args.games.now) (recalled c.asking.memo) (recalled c.remember.new.memo) c.asking.question.game
    c.asking.question.other c.in-Answer.answer
    c.asking.invariant.right o.first_id o.second_id c.in-Answer.ensures c.in_ok-remember-in-Answer.ensures.noted

pub returns-in_err-remember-in-Answer-clause-right : goal.returns-in_err-remember-in-Answer-clause-right
returns-in_err-remember-in-Answer-clause-right c = right_same (trees c.args.games.now) (recalled c.asking.memo)
    (recalled c.remember.new.memo) c.asking.invariant.right c.in_err-remember-in-Answer.ensures.kept
