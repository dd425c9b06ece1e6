use Rattle.std.proofs.Common.{◌≡◌, ◌++◌, ◌∷◌, [], subst}
use Rattle.board_orders.specs.Orders.BoardOrder.{play}
use Rattle.board_orders.specs.Effects.{done, refused, reply_text}
use Rattle.board_orders.specs.declared.refusal.Refusal.TheVariants.{IllegalMove}
use Rattle.board_orders.specs.Doing.{IsDone}
use Rattle.board_orders.specs.inner.Doing.{IsMade}
use Rattle.board_orders.proofs.HandicapLemmas.{if_ok}
use Rattle.board_orders.proofs.OrderLemmas.{move_played, move_refused}
use Rattle.board_orders.proofs.session.BoardSession.play.Goals as goal

pub returns-in-Some-clause-played : goal.returns-in-Some-clause-played
returns-in-Some-clause-played c =
    let now = c.args.self.now in let u = c.add_played.new.self in let id = c.args.id.now in let made = c.in-Some.made in
    if_ok (λ reply. (reply ≡ reply_text id (done [])) × (u ≡ record now { moves = now.moves ++ made ∷ [] })) (λ reply. IsDone (play c.args.colour c.args.wanted) id now reply u) c.add_played.result
    (λ reply is. move_played c.args.colour c.args.wanted now u made id reply (subst (IsMade c.args.colour c.args.wanted now) c.in-Some.is c.in_ok-made.ensures.made) is.1 is.0) c.add_played.ensures.played

pub returns-in-None-clause-played : goal.returns-in-None-clause-played
returns-in-None-clause-played c =
    let now = c.args.self.now in let id = c.args.id.now in
    if_ok (λ reply. reply ≡ reply_text id (refused IllegalMove)) (λ reply. IsDone (play c.args.colour c.args.wanted) id now reply now) c.refuse.result
    (λ reply said. move_refused c.args.colour c.args.wanted now id reply (subst (IsMade c.args.colour c.args.wanted now) c.in-None.is c.in_ok-made.ensures.made) said) c.refuse.ensures
