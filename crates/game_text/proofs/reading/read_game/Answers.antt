use Rattle.std.proofs.Common.{arith, sym, length}
use Rattle.std.proofs.lemmas.Bool.{true≢false}
use Rattle.std.proofs.lemmas.Result.{err_from_is_err_and}
use Rattle.game_text.specs.Reading.{IsReadRefusal}
use Rattle.game_text.proofs.ReadingPlaceLaws.{game-stray, game-deep, game-open}
use Rattle.game_text.proofs.ReadingExitLaws.{read-passed_on, opening-refused}
use Rattle.game_text.proofs.reading.read_game.Goals as goal

pub returns-then-byte-ne123-clause-refusal : goal.returns-then-byte-ne123-clause-refusal
returns-then-byte-ne123-clause-refusal c = game-stray c.args.store.now c.args.source.now.parts_limit c.args.source.now.text.now c.args.at c.args.pending.now.options.items c.args.pending.now.opens.items c.requires.here c.requires.reading (λ b. true≢false (sym (c.if-is_number_byte.ensures.1 b))) (λ b. true≢false (sym (c.if-is_name_byte.ensures.1 b))) c.if-byte-ne123.true

pub returns-in_err-open_form-clause-refusal : goal.returns-in_err-open_form-clause-refusal
returns-in_err-open_form-clause-refusal c = read-passed_on c.from_residual.result _ (IsReadRefusal c.args.source.now.parts_limit c.args.source.now.text.now) (err_from_is_err_and c.from_residual.result c.from_residual.ensures.1)
    (opening-refused c.args.source.now.parts_limit c.args.source.now.text.now (length c.args.pending.now.opens.items) _ (game-deep c.args.store.now c.args.source.now.parts_limit c.args.source.now.text.now c.args.at c.args.pending.now.options.items c.args.pending.now.opens.items c.requires.here c.requires.reading c.if-byte-ne123.false) c.in_err-open_form.ensures.refusal)

pub returns-clause-next : goal.returns-clause-next
returns-clause-next c = (game-open c.args.store.now c.args.source.now.parts_limit c.args.source.now.text.now c.args.at c.args.pending.now.options.items c.args.pending.now.opens.items c.requires.here c.open_form.new.pending.options.items c.open_form.new.pending.opens.items c.requires.reading c.if-byte-ne123.false c.in_ok-open_form.ensures.few c.in_ok-open_form.ensures.options c.in_ok-open_form.ensures.opens, omega arith)

pub returns-then-is_number_byte-clause-next : goal.returns-then-is_number_byte-clause-next
returns-then-is_number_byte-clause-next c = c.read_number.ensures.next

pub returns-then-is_number_byte-clause-refusal : goal.returns-then-is_number_byte-clause-refusal
returns-then-is_number_byte-clause-refusal c = c.read_number.ensures.refusal

pub returns-then-is_number_byte-clause-kept : goal.returns-then-is_number_byte-clause-kept
returns-then-is_number_byte-clause-kept c = c.read_number.ensures.kept

pub returns-then-is_name_byte-clause-next : goal.returns-then-is_name_byte-clause-next
returns-then-is_name_byte-clause-next c = c.read_name.ensures.next

pub returns-then-is_name_byte-clause-refusal : goal.returns-then-is_name_byte-clause-refusal
returns-then-is_name_byte-clause-refusal c = c.read_name.ensures.refusal

pub returns-then-is_name_byte-clause-kept : goal.returns-then-is_name_byte-clause-kept
returns-then-is_name_byte-clause-kept c = c.read_name.ensures.kept
