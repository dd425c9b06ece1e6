use Rattle.std.proofs.Common.{◌-◌, length}
use Rattle.game_text.specs.inner.Slashes.{HasNoSlash}
use Rattle.game_text.proofs.numbers.first_slash.Given as goal

abbrev pub invariant-looking : goal.invariant-looking
invariant-looking l = HasNoSlash l.run l.at

abbrev pub decreases-looking : goal.decreases-looking
decreases-looking l = length l.run - l.at
