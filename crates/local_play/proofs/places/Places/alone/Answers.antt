use Rattle.std.proofs.Common.{arith}
use Rattle.std.proofs.lemmas.Nat.{and_le_r}
use Rattle.local_play.proofs.SetLemmas.{is_alone}
use Rattle.local_play.proofs.places.Places.alone.Goals as goal

pub returns-clause-is : goal.returns-clause-is
returns-clause-is c = is_alone c.args.self (omega arith)

pub returns-clause-small : goal.returns-clause-small
returns-clause-small c = let less = and_le_r c.args.self.0 6148914691236517205 in omega (arith, less)
