use Rattle.window_refuter.proofs.Inside.{inside_law}
use Rattle.window_refuter.proofs.laws.inside.Goals as goal

pub returns : goal.returns
returns c = inside_law
