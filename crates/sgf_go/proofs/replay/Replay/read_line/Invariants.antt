use Rattle.std.proofs.Common.{◌≤◌, ◌<◌, drop, take, length}
use Rattle.std.specs.Prelude.{Result, IfSome, map, sum_by}
use Rattle.sgf_tree.specs.Reading.{node_text}
use Rattle.sgf_go.specs.Setup.{LinePart, Counts}
use Rattle.sgf_go.specs.declared.replay.Replay.{Replay}
use Rattle.sgf_go.specs.declared.fault.SetupFault.{SetupFault}
use Rattle.sgf_go.proofs.replay.Replay.read_line.Given as goal

abbrev pub invariant-nodes : goal.invariant-nodes
invariant-nodes l = record {
  goes_on : (r : Result Replay SetupFault) → LinePart l.after l.turn l.at (map node_text (drop l.at l.line)) l.self r → LinePart l.after l.turn 0 (map node_text l.line) l.fn.self r;
  counts : Counts l.self;
  played : l.self.played ≤ sum_by (λ n. length n.properties.items) (take l.at l.line);
  last : IfSome l.self.last (λ n. n < length l.line);
}
