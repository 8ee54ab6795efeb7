use Rattle.log_truth.proofs.OneRefusal.{three_rules_law}
use Rattle.log_truth.proofs.walk.line_rules.Goals as goal

pub returns : goal.returns
returns c = three_rules_law
