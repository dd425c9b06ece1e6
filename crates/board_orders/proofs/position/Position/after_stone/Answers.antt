use Rattle.std.proofs.Common.{◌≤◌, rules, subst, ◌∙◌, ap, Ok, refl}
use Rattle.go_play.specs.Place.{PlacesStone}
use Rattle.board_orders.proofs.KeptLemmas.{grown_fits, stone_grows}
use Rattle.board_orders.specs.Tallies.{grown}
use Rattle.board_orders.proofs.position.Position.after_stone.Goals as goal

pub grow-requires : goal.grow-requires
grow-requires c =
    let small : c.in-Ok.number ≤ 65535 = search rules in
    grown_fits c.args.colour c.in-Ok.number c.from.result c.args.self.now.prisoners small c.from.ensures (c.requires.room c.args.colour).0

pub returns-in-Ok-clause-grows : goal.returns-in-Ok-clause-grows
returns-in-Ok-clause-grows c =
    let small : c.in-Ok.number ≤ 65535 = search rules in
    let same = subst (λ g. PlacesStone g c.args.point c.args.colour c.place.new.board (Ok c.in-Ok.number)) c.in_ok-board.ensures c.in-Ok.ensures in
    stone_grows c.args.self.now (record { board = c.place.new.board; prisoners = c.grow.result; passes = c.args.self.now.passes }) c.args.colour c.in-Ok.number
    same.0.0 small (c.grow.ensures ∙ ap (λ n. grown c.args.colour n c.args.self.now.prisoners) c.from.ensures) refl

pub returns-in-Ok-clause-outcome : goal.returns-in-Ok-clause-outcome
returns-in-Ok-clause-outcome c =
    let same = subst (λ g. PlacesStone g c.args.point c.args.colour c.place.new.board (Ok c.in-Ok.number)) c.in_ok-board.ensures c.in-Ok.ensures in
    (c.in-Ok.number, same, c.grow.ensures ∙ ap (λ n. grown c.args.colour n c.args.self.now.prisoners) c.from.ensures, refl)
