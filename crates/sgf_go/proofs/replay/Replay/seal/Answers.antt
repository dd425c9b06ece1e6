use Rattle.go_grid.specs.declared.grid.Colour.TheVariants.{Black, White}
use Rattle.sgf_go.proofs.replay.Replay.seal.Goals as goal

pub gain-black-requires-clause-within : goal.gain-black-requires-clause-within
gain-black-requires-clause-within c = c.requires.within Black

pub gain-white-requires-clause-within : goal.gain-white-requires-clause-within
gain-white-requires-clause-within c = c.requires.within White
