use Rattle.std.proofs.Common.{◌∙◌, ◌+◌, ap, refl}
use Rattle.std.specs.Prelude.{count_by}
use Rattle.sgf_go.proofs.SealLemmas.{gain_is}
use Rattle.sgf_go.proofs.territory.gain.Goals as goal

pub returns-clause-value : goal.returns-clause-value
returns-clause-value c =
    gain_is c.args.board.now c.args.marks.now c.args.edges.now c.args.colour c.dead_stones.result c.from.result c.from-2.result (c.from.result + c.from-2.result)
    c.requires.edges c.dead_stones.ensures (c.from.ensures ∙ c.len.ensures ∙ ap (count_by (λ x. x)) c.of.ensures) (c.from-2.ensures ∙ c.len-2.ensures) refl
