use Rattle.std.proofs.Common.{ℕ, ◌-◌, ◌<◌, ◌≤◌, length, get_or}
use Rattle.game_text.specs.Reading.{IsDigitByte}
use Rattle.game_text.proofs.named_games.digits_end.Given as goal

abbrev pub invariant-running : goal.invariant-running
invariant-running l = record { forward : l.first ≤ l.at; within : l.at ≤ length l.text; digit_bytes : (k : ℕ) → l.first ≤ k → k < l.at → IsDigitByte (get_or l.text k 0) }

abbrev pub decreases-running : goal.decreases-running
decreases-running l = length l.text - l.at
