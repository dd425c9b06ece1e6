use Rattle.std.proofs.Common.{◌≡◌, ◌<◌}
use Rattle.board_gen.specs.Trial.{draw}
use Rattle.board_gen.specs.inner.Corridor.{AreCorridors}
use Rattle.board_gen.proofs.corridors.corridors_of.Given as goal

abbrev pub invariant-drawing : goal.invariant-drawing
invariant-drawing l = record {
  drawn : l.drawn ≡ draw l.number l.place;
  below : l.drawn < 65537;
  corridors : AreCorridors l.number l.place l.corridors.items;
}
