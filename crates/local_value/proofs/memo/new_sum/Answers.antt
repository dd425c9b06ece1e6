use Rattle.std.proofs.Common.{ℤ, ◌≡◌, ap, ◌∙◌, to_z, of_z, w32}
use Rattle.std.proofs.lemmas.Int.{to_z-of_z}
use Rattle.local_value.specs.Remembered.{stones_units, IsStonesSum}
use Rattle.local_value.proofs.OptionsLaws.{sum-made, sums-grown, sum-learned}
use Rattle.local_value.proofs.memo.new_sum.Goals as goal

-- the sum that was made
made : (c : goal.After-remember) (stones : ℤ) → c.whole.result ≡ stones_units stones → IsStonesSum c.add_number.new.store c.args.game stones c.in_ok-sum.sum
made c stones is = sum-made c.add_number.ensures.kept c.args.game stones c.in_ok-sum.sum c.requires.game
    (rw is at c.in_ok-sum.ensures.value) (rw is at c.in_ok-sum.ensures.numbers)

pub returns-clause-sum : goal.returns-clause-sum
returns-clause-sum c = made c c.args.stones (c.whole.ensures ∙ ap stones_units (to_z-of_z w32 c.args.stones c.ranges.stones))

pub returns-clause-sums : goal.returns-clause-sums
returns-clause-sums c = sum-learned c.args.sums.now c.remember.new.self c.args.game (to_z w32 (of_z w32 c.args.stones)) c.in_ok-sum.sum c.remember.ensures
    c.add_number.new.store (made c (to_z w32 (of_z w32 c.args.stones)) c.whole.ensures) (sums-grown c.add_number.ensures.kept c.args.sums.now c.requires.sums)
