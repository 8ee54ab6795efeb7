use Rattle.search_log.proofs.LeanRows.{lean_law}
use Rattle.search_log.proofs.law.lean.Goals as goal

pub returns : goal.returns
returns c = lean_law
