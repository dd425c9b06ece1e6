use Rattle.game_store.specs.Meaning.{form}
use Rattle.game_canon.proofs.GameLaws.{number-as_game}
use Rattle.game_canon.proofs.AnswerLaws.{itself}
use Rattle.game_canon.proofs.CanonicalFormLaws.{too-many, id-few}
use Rattle.game_canon.proofs.canonical_forms.entered.Goals as goal

pub has_more_parts-requires-clause-no_number : goal.has_more_parts-requires-clause-no_number
has_more_parts-requires-clause-no_number c = λ n. c.requires.no_number (number-as_game _ n)

pub intern-requires-clause-no_number : goal.intern-requires-clause-no_number
intern-requires-clause-no_number c = λ n. c.requires.no_number (number-as_game _ n)

pub returns-then-branch-clause-refusal : goal.returns-then-branch-clause-refusal
returns-then-branch-clause-refusal c = let F = form c.args.store.now c.args.left.now c.args.right.now in
    too-many F F c.args.parts_limit c.requires.no_number (itself F c.requires.canonical) (c.in_ok-has_more_parts.ensures.more c.if-branch.true)

pub returns-clause-parts : goal.returns-clause-parts
returns-clause-parts c = id-few c.intern.new.self _ _ c.args.parts_limit c.in_ok-intern.ensures.value (c.in_ok-has_more_parts.ensures.few c.if-branch.false)
