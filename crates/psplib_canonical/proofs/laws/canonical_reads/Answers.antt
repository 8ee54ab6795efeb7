use Rattle.psplib_canonical.proofs.Canonical.{reads}
use Rattle.psplib_canonical.proofs.laws.canonical_reads.Goals as goal

pub returns : goal.returns
returns c P p = reads P p
