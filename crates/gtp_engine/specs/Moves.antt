-- Moves as words.
use Rattle.std.specs.Prelude.{◌≡◌, ◌+◌, ◌*◌, ◌-◌, ℕ, List, codes, Option, Some, None, nat_lt, nat_le, ◌&&◌, if◌then◌else◌}
use Rattle.whole_rules.specs.declared.states.Move.{Move}
use Rattle.whole_rules.specs.declared.states.Move.TheVariants as move
use Rattle.gtp_words.specs.Vertices.{IsVertex, vertex_text}
use Rattle.gtp_words.specs.Words.{lowered}
use Rattle.gtp_engine.specs.declared.moves.Wanted.{Wanted}
use Rattle.gtp_engine.specs.declared.moves.Wanted.TheVariants.{At, Pass, Half}

-- the word of a move, in either case; `pass` spends a point
abbrev pub IsWanted : List ℕ → Wanted → Type 0
IsWanted word (At v) = IsVertex word v
IsWanted word Pass = lowered word ≡ codes "pass"
IsWanted word Half = lowered word ≡ codes "half"

-- the move on a board of this size; a point may be off the board
abbrev pub move_for : ℕ → ℕ → Wanted → Option Move
move_for columns rows (At v) =
    if nat_lt v.column columns && nat_le v.row rows then Some (move.Stone ((rows - v.row) * columns + v.column)) else None
move_for columns rows Pass = Some move.Spend
move_for columns rows Half = Some move.Half

-- the text of a move of the engine; `pass` spends a point
abbrev pub move_text : ℕ → ℕ → Move → List ℕ
move_text columns rows (move.Stone p) = vertex_text columns rows p
move_text columns rows move.Spend = codes "pass"
move_text columns rows move.Half = codes "half"
