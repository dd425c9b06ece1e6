use Rattle.std.proofs.Common.{refl}
use Rattle.std.proofs.lemmas.Bool.{both_ways}
use Rattle.board_gen.proofs.boards.cell_of.Goals as goal

pub returns-then-is_in_corridor : goal.returns-then-is_in_corridor
returns-then-is_in_corridor c number are = record {
  last = λ e. absurd (c.if-point-eq24.false e);
  corridor = λ _ _. refl;
  wall = λ _ _ out _. absurd (out ((c.is_in_corridor.ensures number are).0 c.if-is_in_corridor.true));
}

pub returns : goal.returns
returns c number are = record {
  last = λ e. absurd (c.if-point-eq24.false e);
  corridor = λ _ h. absurd (both_ways _ c.if-is_in_corridor.false ((c.is_in_corridor.ensures number are).1 h));
  wall = λ owner _ _ owns. c.wall.ensures owner owns;
}
