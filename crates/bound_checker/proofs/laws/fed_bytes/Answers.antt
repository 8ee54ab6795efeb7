use Rattle.bound_checker.proofs.FewLines.{few_bytes_law}
use Rattle.bound_checker.proofs.FedPieces.{refused_law}
use Rattle.bound_checker.proofs.laws.fed_bytes.Goals as goal

pub returns-clause-few : goal.returns-clause-few
returns-clause-few c = few_bytes_law

pub returns-clause-refused : goal.returns-clause-refused
returns-clause-refused c = refused_law
