use Rattle.std.proofs.Common.{sym, subst, arith, ap, ◌∙◌, ◌++◌, length, take}
use Rattle.std.proofs.lemmas.List.{length-append}
use Rattle.std.proofs.lemmas.Result.{err_from_is_err_and}
use Rattle.desk_io.specs.Lines.{IsFound, IsLine, UsesLines}
use Rattle.desk_io.proofs.UsedLineLemmas.{used_line, used_none}
use Rattle.play_session.proofs.session.take_request.Goals as goal

pub returns-clause-used : goal.returns-clause-used
returns-clause-used g c =
    let before = g.S.Source.left c.args.lines.now in let left = g.S.Source.left c.find_line.new.lines in let held = c.find_line.new.self in
    subst (λ l. UsesLines 256 0 1 c.args.input.now before l left) (sym c.drop_front.ensures)
    (used_line 256 c.args.input.now held before left c.in-Some.found.taken c.find_line.ensures.same (subst (IsFound 256 held left) c.in-Some.is c.in_ok-found.ensures.found).1 c.find_line.ensures.few)

pub returns-clause-cause : goal.returns-clause-cause
returns-clause-cause g c = record { later = c.find_line.ensures.cause.later; failed = tt }

pub returns-in_default-clause-cause : goal.returns-in_default-clause-cause
returns-in_default-clause-cause g c = record { later = c.find_line.ensures.cause.later; failed = tt }

pub returns-in_default-clause-used : goal.returns-in_default-clause-used
returns-in_default-clause-used g c = used_none 256 0 1 c.args.input.now c.find_line.new.self (g.S.Source.left c.args.lines.now) (g.S.Source.left c.find_line.new.lines) (omega arith) c.find_line.ensures.same

pub returns-in_err-found-clause-cause : goal.returns-in_err-found-clause-cause
returns-in_err-found-clause-cause g c = let p = err_from_is_err_and c.from_residual.result c.from_residual.ensures.1 in
    record { later = c.find_line.ensures.cause.later; failed = rw p.1 c.in_err-found.ensures.cause.failed }

pub returns-in_err-found-clause-used : goal.returns-in_err-found-clause-used
returns-in_err-found-clause-used g c = used_none 256 0 1 c.args.input.now c.find_line.new.self (g.S.Source.left c.args.lines.now) (g.S.Source.left c.find_line.new.lines) (omega arith) c.find_line.ensures.same

pub returns-in_err-found-clause-same : goal.returns-in_err-found-clause-same
returns-in_err-found-clause-same g c = let p = err_from_is_err_and c.from_residual.result c.from_residual.ensures.1 in
    rw p.1 c.find_line.ensures.same

pub returns-clause-requested : goal.returns-clause-requested
returns-clause-requested g c = λ bytes e.
    let left = g.S.Source.left c.find_line.new.lines in let held = c.find_line.new.self in
    let (rest, more, same) = c.find_line.ensures.same bytes e in
    let found = subst (IsFound 256 held left) c.in-Some.is c.in_ok-found.ensures.found in
    let line = subst (λ d. IsLine 256 (held ++ rest) (take c.in-Some.found.line held) (d ++ rest)) (sym c.drop_front.ensures) (found.3 rest more) in
    let front = subst (λ l. IsLine 256 (held ++ rest) l (c.drop_front.new.self ++ rest)) (sym c.front.ensures) line in
    let whole = subst (λ xs. IsLine 256 xs c.front.result.now (c.drop_front.new.self ++ rest)) (sym same) front in
    (rest, c.front.result.now, more, λ none. omega (arith, found.2, length-append held rest, ap length (sym same ∙ none)), whole, c.asked_move-asked.ensures)
