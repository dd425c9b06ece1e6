use Rattle.std.proofs.Common.{◌≡◌, drop}
use Rattle.std.specs.Prelude.{Result}
use Rattle.sgf_go.specs.Values.{trimmed}
use Rattle.sgf_go.specs.Setup.{For, SetsValue}
use Rattle.sgf_go.specs.declared.replay.Replay.{Replay}
use Rattle.sgf_go.specs.declared.fault.SetupFault.{SetupFault}
use Rattle.sgf_go.proofs.replay.Replay.set_values.Given as goal

abbrev pub invariant-loop-at : goal.invariant-loop-at
invariant-loop-at l = record {
  goes_on : (r : Result Replay SetupFault) → For (λ v. SetsValue l.node l.cell (trimmed v.items)) (drop l.at l.values) l.self r → For (λ v. SetsValue l.node l.cell (trimmed v.items)) l.values l.fn.self r;
  played : l.self.played ≡ l.fn.self.played;
  black : l.self.black ≡ l.fn.self.black;
  white : l.self.white ≡ l.fn.self.white;
}
