use Rattle.std.proofs.lemmas.Result.{IfOk-weaker}
use Rattle.std.proofs.Common.{inr}
use Rattle.desk_io.specs.Desk.{input_of}
use Rattle.endgame_questions.proofs.FileLaws.{no_dash, shelf_fault, shelf_longer, shelf_read, shelf_told, source_longer, source_read, source_rose, source_told}
use Rattle.endgame_questions.proofs.file.read_file.Goals as goal

pub returns-then-eq-clause-short : goal.returns-then-eq-clause-short
returns-then-eq-clause-short g c = IfOk-weaker c.read_source.result _ _ (λ file w. w.short) c.read_source.ensures.whole

pub returns-then-eq-clause-told : goal.returns-then-eq-clause-told
returns-then-eq-clause-told g c =
    let i = input_of g.H.Shelf g.S.Source c.args.shelf.now c.args.lines.now in
    IfOk-weaker c.read_source.result _ _ (λ file w. source_told c.args.word.now i (c.if-eq.ensures {u = tt}) _ file.items w) c.read_source.ensures.whole

pub returns-then-eq-clause-too_long : goal.returns-then-eq-clause-too_long
returns-then-eq-clause-too_long g c e =
    let i = input_of g.H.Shelf g.S.Source c.args.shelf.now c.args.lines.now in
    source_longer c.args.word.now i (c.if-eq.ensures {u = tt}) (c.read_source.ensures.too_long e)

pub returns-then-eq-clause-cannot_read : goal.returns-then-eq-clause-cannot_read
returns-then-eq-clause-cannot_read g c e =
    let i = input_of g.H.Shelf g.S.Source c.args.shelf.now c.args.lines.now in
    let j = input_of g.H.Shelf g.S.Source c.args.shelf.now c.read_source.new.lines in
    inr (source_rose c.args.word.now i (c.if-eq.ensures {u = tt}) j (c.read_source.ensures.cannot_read e))

pub returns-then-eq-clause-reads : goal.returns-then-eq-clause-reads
returns-then-eq-clause-reads g c =
    source_read g.H.Shelf g.S.Source c.args.word.now c.args.shelf.now c.args.lines.now c.read_source.new.lines
    (c.if-eq.ensures {u = tt}) c.read_source.ensures.takes c.read_source.ensures.later

pub returns-then-eq-clause-at_end : goal.returns-then-eq-clause-at_end
returns-then-eq-clause-at_end g c = IfOk-weaker c.read_source.result _ _ (λ file w e. w.end) c.read_source.ensures.whole

pub returns-clause-short : goal.returns-clause-short
returns-clause-short g c = c.load_file.ensures.short

pub returns-clause-told : goal.returns-clause-told
returns-clause-told g c =
    let i = input_of g.H.Shelf g.S.Source c.args.shelf.now c.args.lines.now in
    IfOk-weaker c.load_file.result _ _ (λ file t. shelf_told c.args.word.now i (c.if-eq.ensures {u = tt}) file.items t) c.load_file.ensures.told

pub returns-clause-too_long : goal.returns-clause-too_long
returns-clause-too_long g c e =
    let i = input_of g.H.Shelf g.S.Source c.args.shelf.now c.args.lines.now in
    shelf_longer c.args.word.now i (c.if-eq.ensures {u = tt}) (c.load_file.ensures.too_long e)

pub returns-clause-cannot_read : goal.returns-clause-cannot_read
returns-clause-cannot_read g c e =
    let i = input_of g.H.Shelf g.S.Source c.args.shelf.now c.args.lines.now in
    let j = input_of g.H.Shelf g.S.Source c.load_file.new.shelf c.args.lines.now in
    shelf_fault c.args.word.now i (c.if-eq.ensures {u = tt}) j (c.load_file.ensures.cannot_read e)

pub returns-clause-reads : goal.returns-clause-reads
returns-clause-reads g c =
    shelf_read g.H.Shelf g.S.Source c.args.word.now c.args.shelf.now c.load_file.new.shelf c.args.lines.now
    (c.if-eq.ensures {u = tt}) c.load_file.ensures.asked c.load_file.ensures.same_files c.load_file.ensures.later

pub returns-clause-at_end : goal.returns-clause-at_end
returns-clause-at_end g c =
    IfOk-weaker c.load_file.result _ _ (λ file t e. absurd (no_dash c.args.word.now (c.if-eq.ensures {u = tt}) e)) c.load_file.ensures.short
