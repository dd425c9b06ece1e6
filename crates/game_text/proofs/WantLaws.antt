-- Want of memory is a refusal of each kind.
use Rattle.std.specs.Prelude.{ℕ, List}
use Rattle.short_games.specs.Tree.{Tree}
use Rattle.game_text.specs.declared.errors.ReadError.{ReadError}
use Rattle.game_text.specs.declared.errors.ReadError.TheVariants as reading
use Rattle.game_text.specs.inner.Refusals.{IsFormRefusal, IsWantOfMemory}
use Rattle.game_text.specs.Reading.{IsReadRefusal}

pub want-form : (G : Tree) (limit : ℕ) (e : ReadError) → IsWantOfMemory e → IsFormRefusal G limit e
want-form G limit (reading.BadByte place) h = absurd h
want-form G limit (reading.BadNumber place) h = absurd h
want-form G limit reading.CutShort h = absurd h
want-form G limit reading.Deep h = absurd h
want-form G limit reading.Parts h = absurd h
want-form G limit reading.Bounds h = absurd h
want-form G limit (reading.Memory cause) h = tt

pub want-read : (limit : ℕ) (text : List ℕ) (e : ReadError) → IsWantOfMemory e → IsReadRefusal limit text e
want-read limit text (reading.BadByte place) h = absurd h
want-read limit text (reading.BadNumber place) h = absurd h
want-read limit text reading.CutShort h = absurd h
want-read limit text reading.Deep h = absurd h
want-read limit text reading.Parts h = absurd h
want-read limit text reading.Bounds h = absurd h
want-read limit text (reading.Memory cause) h = tt
