-- What a kept board comes to where it is to be solved.
use Rattle.std.specs.Prelude.{◌≡◌, ℕ, string_bytes}
use Rattle.go_grid.specs.Chain.{IsFirstUnsettled}
use Rattle.go_play.specs.Setup.{Setup}
use Rattle.board_session.specs.declared.settling.Settling.{Settling}
use Rattle.board_session.specs.declared.settling.Settling.TheVariants.{Position, Unsettled}
use Rattle.board_session.specs.Generating.{unsettled_words}

-- the position of the parts, or the words on a board that isn't settled, by its first point that is not
abbrev pub SettlesAs : Setup → Settling → Type 0
SettlesAs parts (Position setup) = setup ≡ parts
SettlesAs parts (Unsettled words) = (p : ℕ) × IsFirstUnsettled parts.board p × (string_bytes words ≡ unsettled_words parts.board p)
