use Rattle.repo_check.proofs.Fittings.{fits_as_found}
use Rattle.repo_check.proofs.laws.fits_as_found.Goals as goal

pub returns : goal.returns
returns c = fits_as_found
