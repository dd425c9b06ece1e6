use Rattle.sum_outcome.proofs.MemoLaws.{fits_grown}
use Rattle.sum_outcome.proofs.fits_laws.Goals as goal

pub returns : goal.returns
returns c = fits_grown
