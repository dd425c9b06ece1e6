use Rattle.std.proofs.Common.{ℕ, ◌↔◌, subst, sym}
use Rattle.local_play.specs.LocalPlay.{IsBeside}
use Rattle.local_play.specs.Places.{Has}
use Rattle.local_play.proofs.JudgingLemmas.{beside_is}
use Rattle.local_play.proofs.sides.Side.of.Goals as goal

pub returns : goal.returns
returns c touch cells table long is empty =
    let beside : (q : ℕ) → Has c.beside-beside.result q ↔ IsBeside touch c.args.colour q =
    λ q. subst (λ x. Has x q ↔ IsBeside touch c.args.colour q) (sym c.beside-beside.ensures) (beside_is touch c.args.links.now c.args.colour table q) in
    record {
      stones = c.stones-stones.ensures cells is;
      lasting = c.lasting.ensures touch cells c.args.colour table record {
        stones_are = c.stones-stones.ensures cells is;
        beside_are = beside;
        empty_are = empty;
      };
      beside = beside;
    }
