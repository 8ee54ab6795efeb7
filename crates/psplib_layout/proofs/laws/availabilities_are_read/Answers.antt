use Rattle.psplib_layout.proofs.PartsRead.{availabilities_found, availabilities_again}
use Rattle.psplib_layout.proofs.laws.availabilities_are_read.Goals as goal

pub returns : goal.returns
returns c end header lines rest amounts words = (availabilities_found end header lines rest amounts, availabilities_again end header lines rest amounts words)
