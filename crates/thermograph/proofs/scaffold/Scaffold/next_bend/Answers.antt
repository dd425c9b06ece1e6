use Rattle.std.proofs.Common.{arith, true, false, ◌<◌, inl, inr}
use Rattle.std.proofs.lemmas.Bool.{cases_lt}
use Rattle.thermograph.specs.inner.Scaffolds.{rise}
use Rattle.thermograph.proofs.ScaffoldLaws.{goes-straight, goes_on}
use Rattle.thermograph.proofs.scaffold.Scaffold.next_bend.Goals as goal

pub returns-then-start-flat : goal.returns-then-start-flat
returns-then-start-flat c =
    let flat = c.last_along-flat.ensures in
    let bend = goes-straight c.args.self.now.side (rise c.args.self.now) false c.requires.known.rises c.args.start _ c.args.end
    (omega arith) flat.along flat.last in
    record { after = omega arith; within = flat.within; straight = bend.0; bends = bend.1; even = bend.2 }

pub returns : goal.returns
returns c =
    let steep = c.last_along.ensures in
    let after : c.args.start < c.last_along.result = elim (cases_lt c.args.start c.last_along.result) [
      | inl h ↦ h
      | inr h ↦ absurd (goes_on (rise c.args.self.now) c.requires.known.rises c.args.start c.args.end c.last_along-flat.result
          c.last_along.result (omega arith) (omega arith) (omega (arith, h)) c.last_along-flat.ensures.last steep.last)
    ] in
    let bend = goes-straight c.args.self.now.side (rise c.args.self.now) true c.requires.known.rises c.args.start _ c.args.end
    after steep.along steep.last in
    record { after = after; within = steep.within; straight = bend.0; bends = bend.1; even = bend.2 }
