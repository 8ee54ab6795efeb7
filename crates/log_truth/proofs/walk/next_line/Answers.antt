use Rattle.log_truth.proofs.NextLines.{next_law, next_node_law, break_law, surplus_law, missing_law}
use Rattle.log_truth.proofs.walk.next_line.Goals as goal

pub returns-clause-good : goal.returns-clause-good
returns-clause-good c = next_law

pub returns-clause-node : goal.returns-clause-node
returns-clause-node c = next_node_law

pub returns-clause-broken : goal.returns-clause-broken
returns-clause-broken c = break_law

pub returns-clause-surplus : goal.returns-clause-surplus
returns-clause-surplus c = surplus_law

pub returns-clause-missing : goal.returns-clause-missing
returns-clause-missing c = missing_law
