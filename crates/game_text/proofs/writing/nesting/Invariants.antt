use Rattle.std.proofs.Common.{◌≡◌, ◌≤◌, drop}
use Rattle.game_text.proofs.NestingLaws.{deepest}
use Rattle.game_text.proofs.writing.nesting.Given as goal

abbrev pub invariant-loop-byte : goal.invariant-loop-byte
invariant-loop-byte l = record { same : deepest l.open l.deepest (drop l.byte-index l.text) ≡ deepest 0 0 l.text; few : l.open ≤ l.byte-index }
