use Rattle.std.proofs.Common.{◌-◌, ◌++◌, length, take, sym, ap, ◌∙◌, subst, arith}
use Rattle.std.proofs.lemmas.List.{length-take-le}
use Rattle.desk_io.specs.Lines.{IsSameInput}
use Rattle.desk_io.proofs.HeldLemmas.{read_on, input_more}
use Rattle.desk_io.proofs.lines.LineReader.read_more.Goals as goal

pub returns-clause-same : goal.returns-clause-same
returns-clause-same g c =
    let bytes = c.self.inside.bytes in let len = c.self.inside.len in let buf = c.read.new.buf in let n = c.in_ok-count.count in
    let now = read_on bytes buf len (length bytes - len) n (omega (arith, c.self.told, c.self.invariant)) c.in_ok-count.ensures.bound.0 in
    subst (λ l. IsSameInput c.args.self.now (g.S.Source.left c.args.lines.now) l (g.S.Source.left c.read.new.self)) (sym (now ∙ ap (λ l. l ++ take n buf) c.self.view_is))
    (input_more c.args.self.now (take n buf) (g.S.Source.left c.args.lines.now) (g.S.Source.left c.read.new.self) c.in_ok-count.ensures.bytes.0)

pub returns-clause-more : goal.returns-clause-more
returns-clause-more g c =
    let bytes = c.self.inside.bytes in let len = c.self.inside.len in let buf = c.read.new.buf in let n = c.in_ok-count.count in
    let now = read_on bytes buf len (length bytes - len) n (omega (arith, c.self.told, c.self.invariant)) c.in_ok-count.ensures.bound.0 in
    (take n buf, now ∙ ap (λ l. l ++ take n buf) c.self.view_is, length-take-le n buf c.in_ok-count.ensures.bound.0)
