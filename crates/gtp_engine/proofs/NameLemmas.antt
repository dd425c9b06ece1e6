-- The names of commands are texts.
use Rattle.std.specs.Prelude.{IfNone}
use Rattle.std.proofs.Common.{◌≡◌, ℕ, refl, sym, subst, List, Option, Some, None}
use lib.Utf8.{encode}
use Rattle.std.specs.Str.{IsUtf8, is_utf8, chars}
use Rattle.std.proofs.lemmas.Str.{IsUtf8-from_is_utf8}
use Rattle.gtp_engine.specs.declared.command.Command.{Command}
use Rattle.gtp_engine.specs.declared.command.Command.TheVariants.{ProtocolVersion, Name, Version, KnownCommand, ListCommands, BoardSize, ClearBoard, Komi, Play, GenMove, LoadSgf, Quit}
use Rattle.gtp_engine.specs.Request.{command_word}

known_text : (c : Command) → IsUtf8 (command_word c)
unfolding is_utf8 chars encode
known_text ProtocolVersion = IsUtf8-from_is_utf8 (command_word ProtocolVersion) refl
known_text Name = IsUtf8-from_is_utf8 (command_word Name) refl
known_text Version = IsUtf8-from_is_utf8 (command_word Version) refl
known_text KnownCommand = IsUtf8-from_is_utf8 (command_word KnownCommand) refl
known_text ListCommands = IsUtf8-from_is_utf8 (command_word ListCommands) refl
known_text BoardSize = IsUtf8-from_is_utf8 (command_word BoardSize) refl
known_text ClearBoard = IsUtf8-from_is_utf8 (command_word ClearBoard) refl
known_text Komi = IsUtf8-from_is_utf8 (command_word Komi) refl
known_text Play = IsUtf8-from_is_utf8 (command_word Play) refl
known_text GenMove = IsUtf8-from_is_utf8 (command_word GenMove) refl
known_text LoadSgf = IsUtf8-from_is_utf8 (command_word LoadSgf) refl
known_text Quit = IsUtf8-from_is_utf8 (command_word Quit) refl

-- a word that is no text names no command
pub name_is_text : (word : List ℕ) (c : Command) → ¬ IsUtf8 word → word ≡ command_word c → ⊥
name_is_text word c no_text e = no_text (subst IsUtf8 (sym e) (known_text c))

-- nothing is read
pub at_none : {A : Type 0} (r : Option A) (P : Type 0) → r ≡ None → P → IfNone r P
at_none None P e p = p
at_none (Some x) P e p = cc
