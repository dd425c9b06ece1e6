use Rattle.std.proofs.Common.{◌≡◌, arith, pos, sym, subst}
use Rattle.std.proofs.lemmas.Int.{ints}
use Rattle.game_store.specs.Meaning.{IsIdOf}
use Rattle.short_games.specs.Number.{number_tree}
use Rattle.sum_outcome.specs.Memo.{Fits}
use Rattle.sum_outcome.specs.inner.Memo.{remembered}
use Rattle.sum_outcome.proofs.MemoLaws.{fits_grown}
use Rattle.sum_outcome.proofs.Search.note_zero.Goals as goal

pub returns-clause-fits : goal.returns-clause-fits
returns-clause-fits c =
    let before : Fits c.args.store.now (remembered c.self.inside.memo) = subst (Fits c.args.store.now) (sym c.self.view_is) c.requires in
    let grown = fits_grown c.args.store.now c.number.new.self (remembered c.self.inside.memo) c.number.ensures.kept before in
    let none : c.whole.result ≡ pos 0 = omega (arith, ints, c.whole.ensures) in
    record { sums = grown.sums; incentives = grown.incentives; comparisons = grown.comparisons; zero = subst (λ x. IsIdOf c.number.new.self (number_tree x) c.in_ok-number.field-0) none c.in_ok-number.ensures.value }
