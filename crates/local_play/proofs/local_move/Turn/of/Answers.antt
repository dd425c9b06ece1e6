use Rattle.std.proofs.Common.{ℕ, ◌↔◌, subst}
use Rattle.local_play.specs.inner.Lasting.{AreEmpty}
use Rattle.local_play.specs.Places.{Has}
use Rattle.local_play.proofs.JudgingLemmas.{empty_is}
use Rattle.local_play.proofs.local_move.Turn.of.Goals as goal

pub returns-clause-turn : goal.returns-clause-turn
returns-clause-turn c touch cells table long is =
    let rest : (q : ℕ) → Has c.without-empty.result q ↔ (Has c.args.links.now.all q × ¬ Has c.union.result q) =
    λ q. subst (λ x. Has c.without-empty.result q ↔ (Has x q × ¬ Has c.union.result q)) c.all.ensures (c.without-empty.ensures.rest q) in
    let empty : AreEmpty touch cells c.without-empty.result =
    empty_is touch cells c.args.links.now c.stones-black.result c.stones-white.result c.union.result c.without-empty.result table
    (c.stones-black.ensures cells is) (c.stones-white.ensures cells is) c.union.ensures.either rest in
    record {
      long = long;
      from = is;
      empty = empty;
      own = c.of.ensures touch cells table long is empty;
      foe = c.of-2.ensures touch cells table long is empty;
    }
