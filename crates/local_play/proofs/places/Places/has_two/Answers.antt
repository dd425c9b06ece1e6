use Rattle.local_play.proofs.places.Places.has_two.Goals as goal

pub returns-in_default : goal.returns-in_default
returns-in_default c two = c.in_default.ensures {u = tt} two.one two.has_one
