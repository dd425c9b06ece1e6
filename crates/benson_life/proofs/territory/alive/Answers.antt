use Rattle.std.proofs.Common.{ℕ}
use Rattle.std.specs.List.{Contains}
use Rattle.std.specs.List.Sorted.{IsStrictlyIncreasing}
use Rattle.std.proofs.lemmas.Result.{IfOk-weaker}
use Rattle.go_grid.specs.Marks.{IsMarked, Lists}
use Rattle.go_grid.proofs.PointsLemmas.{lists_same}
use Rattle.go_play.specs.Place.{Stands}
use Rattle.benson_life.specs.Life.{IsAlive, IsLargestHealthy}
use Rattle.benson_life.proofs.StandLemmas.{healthy_stands}
use Rattle.benson_life.proofs.StrikingLemmas.{alive_largest}
use Rattle.benson_life.proofs.territory.alive.Goals as goal

pub living-requires-clause-eyes : goal.living-requires-clause-eyes
living-requires-clause-eyes c e = rw c.deref.ensures.value (c.in_ok-eyes.ensures e)

pub returns : goal.returns
returns c =
    let g = c.args.board.now in
    let largest = IfOk-weaker c.to_list.result (λ stones. Lists stones.items (IsMarked c.living.result))
    (λ stones. IsLargestHealthy g c.args.colour stones.items)
    (λ stones lists. alive_largest g c.args.colour stones.items (lists_same stones.items _ (IsAlive g c.args.colour) lists c.living.ensures))
    c.to_list.ensures in
    record {
      ascending = IfOk-weaker c.to_list.result (λ stones. Lists stones.items (IsMarked c.living.result))
          (λ stones. IsStrictlyIncreasing stones.items) (λ stones lists. lists.ascending) c.to_list.ensures;
      largest = largest;
      stand = IfOk-weaker c.to_list.result (λ stones. IsLargestHealthy g c.args.colour stones.items)
          (λ stones. (s : ℕ) → Contains stones.items s → Stands g c.args.colour s)
          (λ stones l. healthy_stands g c.args.colour stones.items c.requires l.healthy) largest;
    }
