use Rattle.window_refuter.proofs.Refuted.{windows_law, end_law}
use Rattle.window_refuter.proofs.laws.sound.Goals as goal

pub returns-clause-windows : goal.returns-clause-windows
returns-clause-windows c = windows_law

pub returns-clause-end : goal.returns-clause-end
returns-clause-end c = end_law
