-- Why writing or reading a text was refused.
use Rattle.std.specs.Prelude.{ℕ, ◌≤◌}
use Rattle.short_games.specs.Tree.{Tree}
use Rattle.game_canon.specs.Outcomes.{IsCause}
use Rattle.game_canon.specs.declared.errors.FormError.TheVariants as form
use Rattle.game_text.specs.Depth.{most_open}
use Rattle.game_text.specs.declared.errors.ReadError.{ReadError}
use Rattle.game_text.specs.declared.errors.ReadError.TheVariants as reading

-- the refusal is want of memory
abbrev pub IsWantOfMemory : ReadError → Type 0
IsWantOfMemory (reading.BadByte place) = ⊥
IsWantOfMemory (reading.BadNumber place) = ⊥
IsWantOfMemory reading.CutShort = ⊥
IsWantOfMemory reading.Deep = ⊥
IsWantOfMemory reading.Parts = ⊥
IsWantOfMemory reading.Bounds = ⊥
IsWantOfMemory (reading.Memory cause) = Unit {0}

-- why a brace isn't opened, where n are open: too many are, or there is want of memory
abbrev pub IsOpeningRefusal : ℕ → ReadError → Type 0
IsOpeningRefusal n (reading.BadByte place) = ⊥
IsOpeningRefusal n (reading.BadNumber place) = ⊥
IsOpeningRefusal n reading.CutShort = ⊥
IsOpeningRefusal n reading.Deep = most_open ≤ n
IsOpeningRefusal n reading.Parts = ⊥
IsOpeningRefusal n reading.Bounds = ⊥
IsOpeningRefusal n (reading.Memory cause) = Unit {0}

-- why a form that was read isn't taken: it has too many parts, it is past the bounds, or there is want of memory
abbrev pub IsFormRefusal : Tree → ℕ → ReadError → Type 0
IsFormRefusal G limit (reading.BadByte place) = ⊥
IsFormRefusal G limit (reading.BadNumber place) = ⊥
IsFormRefusal G limit reading.CutShort = ⊥
IsFormRefusal G limit reading.Deep = ⊥
IsFormRefusal G limit reading.Parts = IsCause G limit form.Parts
IsFormRefusal G limit reading.Bounds = IsCause G limit form.Bounds
IsFormRefusal G limit (reading.Memory cause) = Unit {0}
