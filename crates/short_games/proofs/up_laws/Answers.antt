use Rattle.short_games.proofs.UpLaws.{ups-grow, ups-infinitesimal, ups-forms, star-forms}
use Rattle.short_games.proofs.ExampleLaws.{known-ups}
use Rattle.short_games.proofs.up_laws.Goals as goal

pub returns-clause-known : goal.returns-clause-known
returns-clause-known c = known-ups

pub returns-clause-grow : goal.returns-clause-grow
returns-clause-grow c = ups-grow

pub returns-clause-infinitesimal : goal.returns-clause-infinitesimal
returns-clause-infinitesimal c = ups-infinitesimal

pub returns-clause-forms : goal.returns-clause-forms
returns-clause-forms c = ups-forms

pub returns-clause-with_star : goal.returns-clause-with_star
returns-clause-with_star c = star-forms
