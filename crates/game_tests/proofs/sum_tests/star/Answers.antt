use Rattle.std.proofs.Common.{IfOk, sym, subst}
use Rattle.short_games.specs.Number.{IsNumberTree}
use Rattle.short_games.specs.TextOrder.{IsCanonicalTree}
use Rattle.game_store.specs.Meaning.{IsIdOf}
use Rattle.short_games.proofs.ExampleLaws.{star-canonical, star-no_number}
use Rattle.sum_outcome.proofs.ExampleLaws.{star-form}
use Rattle.game_tests.proofs.sum_tests.star.Goals as goal

pub intern-requires-clause-canonical : goal.intern-requires-clause-canonical
intern-requires-clause-canonical c = subst IsCanonicalTree (sym (star-form _ _ _ c.in_ok-zero.ensures.value c.whole.ensures)) star-canonical

pub intern-requires-clause-no_number : goal.intern-requires-clause-no_number
intern-requires-clause-no_number c = subst (λ t. IsNumberTree t → ⊥) (sym (star-form _ _ _ c.in_ok-zero.ensures.value c.whole.ensures)) star-no_number

pub returns-clause-value : goal.returns-clause-value
returns-clause-value c = subst (λ t. IfOk c.intern.result (λ id. IsIdOf c.intern.new.self t id)) (star-form _ _ _ c.in_ok-zero.ensures.value c.whole.ensures) c.intern.ensures.value
