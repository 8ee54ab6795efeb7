use Rattle.justify_plans.proofs.Moved.{fits_law}
use Rattle.justify_plans.proofs.laws.fits_beside.Goals as goal

pub returns : goal.returns
returns c = fits_law
