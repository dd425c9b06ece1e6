use Rattle.std.proofs.Common.{◌≡◌, drop, string_bytes}
use Rattle.board_orders.specs.Texts.{vertices_behind, vertices_text}
use Rattle.board_orders.proofs.texts.vertices_text.Given as goal

abbrev pub invariant-points : goal.invariant-points
invariant-points l = vertices_behind (string_bytes l.text) l.size.columns l.size.rows (drop l.at l.points) ≡ vertices_text l.size.columns l.size.rows l.points
