use Rattle.std.proofs.Common.{subst, sym}
use Rattle.std.proofs.lemmas.Result.{IfOk-from_err}
use Rattle.region_cut.specs.Cut.{AreRegionsOfPlay}
use Rattle.report.specs.Chains.{AreChainLines}
use Rattle.report.specs.Safety.{AreCountedLines, IsSafeText}
use Rattle.report.proofs.safety.territory_text.Goals as goal

pub groups-requires-clause-life : goal.groups-requires-clause-life
groups-requires-clause-life c = c.requires.territory.black

pub groups-requires-2-clause-life : goal.groups-requires-2-clause-life
groups-requires-2-clause-life c = c.requires.territory.white

pub returns-in_err-black_groups : goal.returns-in_err-black_groups
returns-in_err-black_groups c = IfOk-from_err c.from_residual.result (IsSafeText c.args.board.now) c.from_residual.ensures.0

pub returns-in_err-white_groups : goal.returns-in_err-white_groups
returns-in_err-white_groups c = IfOk-from_err c.from_residual-in_err-white_groups.result (IsSafeText c.args.board.now) c.from_residual-in_err-white_groups.ensures.0

pub returns-in_err-counted : goal.returns-in_err-counted
returns-in_err-counted c = IfOk-from_err c.from_residual-in_err-counted.result (IsSafeText c.args.board.now) c.from_residual-in_err-counted.ensures.0

pub returns-in_err-chains : goal.returns-in_err-chains
returns-in_err-chains c = IfOk-from_err c.from_residual-in_err-chains.result (IsSafeText c.args.board.now) c.from_residual-in_err-chains.ensures.0

pub returns-in_err-regions : goal.returns-in_err-regions
returns-in_err-regions c = IfOk-from_err c.from_residual-in_err-regions.result (IsSafeText c.args.board.now) c.from_residual-in_err-regions.ensures.0

pub lines_text-requires-clause-chains : goal.lines_text-requires-clause-chains
lines_text-requires-clause-chains c = subst (AreChainLines c.args.board.now) (sym c.deref.ensures.value) c.in_ok-chains.ensures

pub lines_text-requires-clause-counted : goal.lines_text-requires-clause-counted
lines_text-requires-clause-counted c = subst (AreCountedLines c.args.board.now) (sym c.deref-2.ensures.value) c.in_ok-counted.ensures

pub lines_text-requires-clause-black_groups : goal.lines_text-requires-clause-black_groups
lines_text-requires-clause-black_groups c = c.in_ok-black_groups.ensures

pub lines_text-requires-clause-white_groups : goal.lines_text-requires-clause-white_groups
lines_text-requires-clause-white_groups c = c.in_ok-white_groups.ensures

pub lines_text-requires-clause-regions : goal.lines_text-requires-clause-regions
lines_text-requires-clause-regions c = subst (AreRegionsOfPlay c.args.board.now) (sym c.deref-3.ensures.value) c.in_ok-regions.ensures.regions

pub returns : goal.returns
returns c = c.lines_text.ensures
