use Rattle.game_canon.proofs.ChangedIdLaws.{extends-on}
use Rattle.std.proofs.lemmas.Result.{err_from_is_err_and}
use Rattle.game_calc.specs.inner.Machine.{IsLineRefusal}
use Rattle.game_calc.proofs.TurnSteps.{passed, term-held, game-refused, game-taken}
use Rattle.game_calc.proofs.expressions.read_named.Goals as goal

pub with_term-requires-clause-before : goal.with_term-requires-clause-before
with_term-requires-clause-before c = term-held c.args.source.now.pass c.args.store.now c.args.source.now.parts_limit c.args.source.now.text.now c.args.at c.args.opening c.args.pending.now.opens.items c.args.pending.now.first c.requires.reading c.args.word c.requires.word c.read_game.new.store c.read_game.ensures.kept

pub returns-in_err-id-clause-refusal : goal.returns-in_err-id-clause-refusal
returns-in_err-id-clause-refusal c = passed c.from_residual.result _ (IsLineRefusal c.args.source.now.parts_limit c.args.source.now.text.now) (err_from_is_err_and c.from_residual.result c.from_residual.ensures.1)
    (game-refused c.args.source.now.pass c.args.store.now c.args.source.now.parts_limit c.args.source.now.text.now c.args.at c.args.opening c.args.pending.now.opens.items c.args.pending.now.first c.requires.reading c.args.word c.requires.word _ c.requires.game c.in_err-id.ensures.refusal)

pub returns-clause-turn : goal.returns-clause-turn
returns-clause-turn c = game-taken c.args.source.now.pass c.args.store.now c.args.source.now.parts_limit c.args.source.now.text.now c.args.at c.args.opening c.args.pending.now.opens.items c.args.pending.now.first c.requires.reading c.args.word c.requires.word
    c.read_game.new.store c.with_term.new.store c.in_ok-id.ensures.named.0 c.in_ok-id.id c.in_ok-amount.amount c.read_game.ensures.kept c.with_term.ensures.kept c.requires.some c.requires.game c.in_ok-id.ensures.named.1 c.in_ok-id.ensures.named.2 c.in_ok-amount.ensures.amount

pub returns-clause-kept : goal.returns-clause-kept
returns-clause-kept c = extends-on _ _ _ c.read_game.ensures.kept c.with_term.ensures.kept

pub returns-in_err-amount-clause-kept : goal.returns-in_err-amount-clause-kept
returns-in_err-amount-clause-kept c = extends-on _ _ _ c.read_game.ensures.kept c.with_term.ensures.kept

pub returns-in_err-id-clause-kept : goal.returns-in_err-id-clause-kept
returns-in_err-id-clause-kept c = c.read_game.ensures.kept
