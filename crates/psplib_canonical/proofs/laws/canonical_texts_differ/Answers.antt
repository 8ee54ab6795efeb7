use Rattle.psplib_canonical.proofs.Canonical.{differ}
use Rattle.psplib_canonical.proofs.laws.canonical_texts_differ.Goals as goal

pub returns : goal.returns
returns c P Q p q e = differ P Q p q e
