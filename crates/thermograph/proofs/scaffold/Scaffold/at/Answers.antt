use Rattle.std.proofs.Common.{◌≡◌, ◌∙◌, ap, arith, to_z, of_z, ℤ, pos, ◌-ℤ◌, sym, subst}
use Rattle.std.specs.Int.{w128}
use Rattle.std.proofs.lemmas.Int.{ints}
use Rattle.dyadic_num.specs.Units.{IsInReach}
use Rattle.thermograph.specs.declared.side.Side.{Side}
use Rattle.thermograph.specs.declared.side.Side.TheVariants as side
use Rattle.thermograph.specs.inner.Scaffolds.{turned, rise}
use Rattle.thermograph.proofs.scaffold.Scaffold.at.Goals as goal

pub returns-clause-value : goal.returns-clause-value
returns-clause-value c = let kept : to_z w128 (of_z w128 c.turn.result) ≡ c.turn.result = omega (arith, ints) in
    kept ∙ c.turn.ensures ∙ ap (turned c.args.self.now.side) (omega (arith, ints, c.rise.ensures.value))

either : (s : Side) (x : ℤ) → IsInReach x → IsInReach (turned s x)
either side.Left x h = h
either side.Right x h = omega (arith, ints, h)

pub returns-clause-range : goal.returns-clause-range
returns-clause-range c =
    let value = returns-clause-value c in
    let narrow : IsInReach (rise c.args.self.now c.args.t -ℤ pos c.args.t) = omega (arith, ints, c.rise.ensures.value, c.rise.ensures.range.0, c.rise.ensures.range.1, c.requires.t) in
    subst IsInReach (sym value) (either c.args.self.now.side (rise c.args.self.now c.args.t -ℤ pos c.args.t) narrow)
