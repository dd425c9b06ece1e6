use Rattle.std.proofs.Common.{rules, arith, ◌≡◌, ◌-◌, ◌++◌, length, take, ◌∙◌, ap}
use Rattle.std.specs.Io.KnownBytes.{prepend_known}
use Rattle.std.proofs.lemmas.List.{take-take}
use Rattle.std.proofs.lemmas.Grind.{common_steps}
use Rattle.std.proofs.lemmas.Result.{err_from_is_err_and}
use Rattle.desk_io.proofs.CopyLemmas.{copied_none, copied_more, copied_whole, copied_longer, copied_part}
use Rattle.desk_io.proofs.file_shelf.append.Goals as goal

pub loop-init : goal.loop-init
loop-init g c = copied_none _ _ _

pub returns-in_default : goal.returns-in_default
returns-in_default g c = (copied_part _ _ _ _ _ _ c.loop.invariant).0

pub returns-then-count-eq0 : goal.returns-then-count-eq0
returns-then-count-eq0 g c =
    let none : c.in-Ok.count ≡ 0 = c.if-count-eq0.true in
    copied_whole _ _ (g.S.Source.left c.read.new.self) _ _ _ _ c.loop.invariant (c.in-Ok.ensures.bytes.1 none (search rules)) (c.in-Ok.ensures.bytes.0 ∙ ap (λ n. prepend_known (take n c.read.new.buf) (g.S.Source.left c.read.new.self)) none)

pub returns-in_err-extend_from_slice : goal.returns-in_err-extend_from_slice
returns-in_err-extend_from_slice g c =
    let p = err_from_is_err_and c.from_residual.result c.from_residual.ensures.1 in
    rw (p.1, p.2, c.in_err-extend_from_slice.ensures.items) ((copied_part _ _ _ _ _ _ c.loop.invariant).1 _)

pub returns-then-left-count : goal.returns-then-left-count
returns-then-left-count g c =
    let front = take c.in-Ok.count c.read.new.buf in
    let size : length front ≡ c.in-Ok.count = grind (arith, common_steps) in
    let same : c.extend_from_slice.new.self.items ≡ c.loop.out.items ++ take c.loop.left front = grind (arith, common_steps, take-take) in
    rw same (copied_longer _ _ _ _ _ _ _ front c.loop.invariant c.in-Ok.ensures.bytes.0 (omega (arith, size, c.if-left-count.true)))

pub returns-in_err-extend_from_slice-2 : goal.returns-in_err-extend_from_slice-2
returns-in_err-extend_from_slice-2 g c =
    let p = err_from_is_err_and c.from_residual-in_err-extend_from_slice-2.result c.from_residual-in_err-extend_from_slice-2.ensures.1 in
    rw (p.1, p.2, c.in_err-extend_from_slice-2.ensures.items) ((copied_part _ _ _ _ _ _ c.loop.invariant).1 _)

pub loop-preserved : goal.loop-preserved
loop-preserved g c =
    let front = take c.in-Ok.count c.read.new.buf in
    let size : length front ≡ c.in-Ok.count = grind (arith, common_steps) in
    let same : c.extend_from_slice-in-loop.new.self.items ≡ c.loop.out.items ++ front = grind (arith, common_steps) in
    rw same (copied_more _ _ _ _ c.loop.left (c.loop.left - c.in-Ok.count) _ _ front c.loop.invariant c.in-Ok.ensures.bytes.0 (omega (arith, size, c.if-left-count.false)))

pub returns : goal.returns
returns g c = (copied_part _ _ _ _ _ _ c.loop.invariant).0
