use Rattle.std.proofs.lemmas.Int.{to_z-of_z}
use Rattle.whole_rules.proofs.OpeningLaws.{opens}
use Rattle.whole_rules.proofs.states.Whole.open_with.Goals as goal

pub returns : goal.returns
returns c =
    let fits = c.ranges.komi_halves in
    opens c.args.board.now c.in_ok-copy.field-0 c.contested-contested.result c.opening_purses-purses.result c.args.side c.new.result
    c.in_ok-black.black c.in_ok-white.white c.args.black_prisoners c.args.white_prisoners c.args.komi_halves c.args.tax
    c.new.ensures c.in_ok-copy.ensures c.contested-contested.ensures (simp to_z-of_z at c.opening_purses-purses.ensures)
    c.in_ok-black.ensures c.in_ok-white.ensures
