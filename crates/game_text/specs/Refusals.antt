-- Why a tree has no text, and what reading passes on of a form that is refused.
use Rattle.std.specs.Prelude.{ℕ, ◌<◌, ◌≤◌, length}
use Rattle.short_games.specs.Tree.{Tree}
use Rattle.game_canon.specs.declared.errors.FormError.{FormError}
use Rattle.game_canon.specs.declared.errors.FormError.TheVariants as form
use Rattle.game_text.specs.Depth.{most_open}
use Rattle.game_text.specs.NamedText.{named_text, named_depth}
use Rattle.game_text.specs.declared.errors.WriteError.{WriteError}
use Rattle.game_text.specs.declared.errors.WriteError.TheVariants.{Long, Deep, Memory}
use Rattle.game_text.specs.declared.errors.ReadError.{ReadError}
use Rattle.game_text.specs.declared.errors.ReadError.TheVariants as reading

-- the named text has more bytes than allowed; or it hasn't, and its braces nest too deep
abbrev pub IsWriteRefusal : Tree → ℕ → WriteError → Type 0
IsWriteRefusal G limit Long = limit < length (named_text G)
IsWriteRefusal G limit Deep = (length (named_text G) ≤ limit) × (most_open < named_depth G)
IsWriteRefusal G limit (Memory cause) = Unit {0}

-- the refusal of a form as a refusal of reading
abbrev pub passed_on : FormError → ReadError
passed_on form.Parts = reading.Parts
passed_on form.Bounds = reading.Bounds
passed_on (form.Memory cause) = reading.Memory cause
