use Rattle.benson_life.proofs.territory.life_of.Goals as goal

pub living-alive-requires-clause-eyes : goal.living-alive-requires-clause-eyes
living-alive-requires-clause-eyes c e = rw c.deref.ensures.value (c.in_ok-eyes.ensures e)

pub counted_points-counted-requires-clause-eyes : goal.counted_points-counted-requires-clause-eyes
counted_points-counted-requires-clause-eyes c e = rw c.deref-2.ensures.value (c.in_ok-eyes.ensures e)
