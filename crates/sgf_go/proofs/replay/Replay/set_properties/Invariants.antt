use Rattle.std.proofs.Common.{◌≡◌, drop}
use Rattle.std.specs.Prelude.{Result}
use Rattle.sgf_tree.specs.Reading.{property_text}
use Rattle.sgf_go.specs.Setup.{For, SetsProperty}
use Rattle.sgf_go.specs.declared.replay.Replay.{Replay}
use Rattle.sgf_go.specs.declared.fault.SetupFault.{SetupFault}
use Rattle.sgf_go.proofs.replay.Replay.set_properties.Given as goal

abbrev pub invariant-loop-at : goal.invariant-loop-at
invariant-loop-at l = record {
  goes_on : (r : Result Replay SetupFault) → For (λ p. SetsProperty l.node (property_text p)) (drop l.at l.properties) l.self r → For (λ p. SetsProperty l.node (property_text p)) l.properties l.fn.self r;
  played : l.self.played ≡ l.fn.self.played;
  black : l.self.black ≡ l.fn.self.black;
  white : l.self.white ≡ l.fn.self.white;
}
