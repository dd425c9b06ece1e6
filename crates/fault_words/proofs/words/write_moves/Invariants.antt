use Rattle.std.proofs.Common.{◌≡◌, ◌++◌, take, flat_map, string_bytes}
use Rattle.fault_words.specs.FaultWords.{cycle_move}
use Rattle.fault_words.specs.Naming.{name_by}
use Rattle.fault_words.proofs.words.write_moves.Given as goal

abbrev pub invariant-writing : goal.invariant-writing
invariant-writing l = string_bytes l.text ≡ string_bytes l.fn.text ++ flat_map (cycle_move (name_by l.naming l.size.columns l.size.rows)) (take l.step-index l.moves)
