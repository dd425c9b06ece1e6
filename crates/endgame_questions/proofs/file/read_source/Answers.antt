use Rattle.std.proofs.Common.{◌≡◌, ◌≤◌, ◌+◌, ◌++◌, [], append-nil, arith, rules, ap, length, length-append, ◌∙◌, subst, sym, take, drop}
use Rattle.std.specs.Io.KnownBytes.{prepend_known}
use Rattle.std.proofs.lemmas.Result.{IfOk-from_err, err_from_is_err_and}
use Rattle.endgame_questions.specs.File.{TakesAtMost, most_of_file}
use Rattle.endgame_questions.proofs.FileLaws.{file_taken, rose_since, too_long, whole_at_end, with_front, with_piece}
use Rattle.endgame_questions.proofs.file.read_source.Goals as goal

pub returns-in_err-count-clause-whole : goal.returns-in_err-count-clause-whole
returns-in_err-count-clause-whole g c = IfOk-from_err c.from_residual.result _ c.from_residual.ensures.0

pub returns-in_err-count-clause-too_long : goal.returns-in_err-count-clause-too_long
returns-in_err-count-clause-too_long g c e =
    let p = err_from_is_err_and c.from_residual.result c.from_residual.ensures.1 in let q = p.1 in let k = p.2 in absurd cc

pub returns-in_err-count-clause-cannot_read : goal.returns-in_err-count-clause-cannot_read
returns-in_err-count-clause-cannot_read g c e =
    rose_since (g.S.Source.faults c.args.lines.now) (g.S.Source.faults c.loop-piece.lines) (g.S.Source.faults c.read.new.self)
    c.loop-piece.invariant.later c.in_err-count.ensures.cause.failed

pub returns-in_err-count-clause-takes : goal.returns-in_err-count-clause-takes
returns-in_err-count-clause-takes g c =
    subst (TakesAtMost most_of_file (g.S.Source.left c.args.lines.now)) (sym c.in_err-count.ensures.bytes)
    (file_taken _ _ c.loop-piece.file.items c.loop-piece.invariant.so_far c.loop-piece.invariant.within)

pub returns-in_err-count-clause-later : goal.returns-in_err-count-clause-later
returns-in_err-count-clause-later g c = omega (arith, c.loop-piece.invariant.later, c.read.ensures.cause.later)

pub returns-then-count-eq0-clause-whole : goal.returns-then-count-eq0-clause-whole
returns-then-count-eq0-clause-whole g c =
    let none : c.in_ok-count.count ≡ 0 = c.if-count-eq0.true in
    whole_at_end _ _ c.loop-piece.file.items c.loop-piece.invariant.so_far (g.S.Source.left c.read.new.self)
    (c.in_ok-count.ensures.bytes.0 ∙ ap (λ n. prepend_known (take n c.read.new.buf) (g.S.Source.left c.read.new.self)) none)
    (c.in_ok-count.ensures.bytes.1 none (search rules)) (omega (arith, c.loop-piece-test.true, c.len.ensures, c.loop-piece.file.ok))

pub returns-then-count-eq0-clause-too_long : goal.returns-then-count-eq0-clause-too_long
returns-then-count-eq0-clause-too_long g c e = absurd cc

pub returns-then-count-eq0-clause-cannot_read : goal.returns-then-count-eq0-clause-cannot_read
returns-then-count-eq0-clause-cannot_read g c e = absurd cc

pub returns-then-count-eq0-clause-takes : goal.returns-then-count-eq0-clause-takes
returns-then-count-eq0-clause-takes g c =
    let none : c.in_ok-count.count ≡ 0 = c.if-count-eq0.true in
    file_taken _ _ (c.loop-piece.file.items ++ [])
    (with_piece _ _ c.loop-piece.file.items c.loop-piece.invariant.so_far (g.S.Source.left c.read.new.self) []
    (c.in_ok-count.ensures.bytes.0 ∙ ap (λ n. prepend_known (take n c.read.new.buf) (g.S.Source.left c.read.new.self)) none))
    (subst (λ l. length l ≤ most_of_file) (sym (append-nil c.loop-piece.file.items)) c.loop-piece.invariant.within)

pub returns-then-count-eq0-clause-later : goal.returns-then-count-eq0-clause-later
returns-then-count-eq0-clause-later g c = omega (arith, c.loop-piece.invariant.later, c.read.ensures.cause.later)

pub loop-piece-preserved : goal.loop-piece-preserved
loop-piece-preserved g c = record {
  so_far =
      with_front _ _ c.loop-piece.file.items c.loop-piece.invariant.so_far (g.S.Source.left c.read.new.self) c.read.new.buf (drop c.min-room.result c.loop-piece.piece)
      c.extend_from_slice.new.self.items c.in_ok-count.count c.in_ok-count.ensures.bound.0 c.in_ok-count.ensures.bytes.0 c.in_ok-extend_from_slice.ensures.items;
  later = omega (arith, c.loop-piece.invariant.later, c.read.ensures.cause.later);
  within = search rules;
}

pub returns-in_err-extend_from_slice-clause-whole :
    goal.returns-in_err-extend_from_slice-clause-whole
returns-in_err-extend_from_slice-clause-whole g c = IfOk-from_err c.from_residual-in_err-extend_from_slice.result _ c.from_residual-in_err-extend_from_slice.ensures.0

pub returns-in_err-extend_from_slice-clause-too_long :
    goal.returns-in_err-extend_from_slice-clause-too_long
returns-in_err-extend_from_slice-clause-too_long g c e =
    let p = err_from_is_err_and c.from_residual-in_err-extend_from_slice.result c.from_residual-in_err-extend_from_slice.ensures.1 in let q = p.1 in let k = p.2 in absurd cc

pub returns-in_err-extend_from_slice-clause-cannot_read :
    goal.returns-in_err-extend_from_slice-clause-cannot_read
returns-in_err-extend_from_slice-clause-cannot_read g c e =
    let p = err_from_is_err_and c.from_residual-in_err-extend_from_slice.result c.from_residual-in_err-extend_from_slice.ensures.1 in let q = p.1 in let k = p.2 in absurd cc

pub returns-in_err-extend_from_slice-clause-takes :
    goal.returns-in_err-extend_from_slice-clause-takes
returns-in_err-extend_from_slice-clause-takes g c =
    let front = take c.in_ok-count.count c.read.new.buf in
    let room : length c.loop-piece.file.items + length c.read.new.buf ≤ most_of_file = search rules in
    file_taken _ _ (c.loop-piece.file.items ++ front)
    (with_piece _ _ c.loop-piece.file.items c.loop-piece.invariant.so_far (g.S.Source.left c.read.new.self) front c.in_ok-count.ensures.bytes.0)
    (omega (arith, room, length-append c.loop-piece.file.items front, c.in_ok-count.ensures.bound.0, c.in_ok-count.ensures.bound.1))

pub returns-in_err-extend_from_slice-clause-later :
    goal.returns-in_err-extend_from_slice-clause-later
returns-in_err-extend_from_slice-clause-later g c = omega (arith, c.loop-piece.invariant.later, c.read.ensures.cause.later)

pub returns-clause-too_long : goal.returns-clause-too_long
returns-clause-too_long g c e = too_long _ _ c.loop-piece.file.items c.loop-piece.invariant.so_far (omega (arith, c.loop-piece-test.false, c.len.ensures, c.loop-piece.file.ok))

pub returns-clause-cannot_read : goal.returns-clause-cannot_read
returns-clause-cannot_read g c e = absurd cc

pub returns-clause-takes : goal.returns-clause-takes
returns-clause-takes g c = file_taken _ _ c.loop-piece.file.items c.loop-piece.invariant.so_far c.loop-piece.invariant.within

pub returns-clause-later : goal.returns-clause-later
returns-clause-later g c = c.loop-piece.invariant.later
