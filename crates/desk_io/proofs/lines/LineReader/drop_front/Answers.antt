use Rattle.std.proofs.Common.{◌≡◌, ◌-◌, length, take, drop, ap, ◌∙◌, arith}
use Rattle.std.proofs.lemmas.List.{length-take-le}
use Rattle.desk_io.proofs.HeldLemmas.{dropped}
use Rattle.desk_io.proofs.lines.LineReader.drop_front.Goals as goal

pub returns : goal.returns
returns g c =
    let bytes = c.self.inside.bytes in let len = c.self.inside.len in let count = c.args.count in
    let long : length (take len bytes) ≡ len = length-take-le len bytes (omega (arith, c.self.told, c.self.invariant)) in
    ap (take (len - count)) c.copy_within.ensures.after ∙ dropped bytes count len (omega (arith, c.requires, long, ap length c.self.view_is)) (omega (arith, c.self.told, c.self.invariant)) ∙ ap (drop count) c.self.view_is
