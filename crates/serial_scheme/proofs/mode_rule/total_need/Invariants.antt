use Rattle.std.proofs.Common.{◌≡◌, ◌*◌, ◌≤◌}
use Rattle.std.specs.Prelude.{sum_by}
use Rattle.rcpsp_model.specs.Project.{need, numbers_from}
use Rattle.serial_scheme.proofs.mode_rule.total_need.Given as goal

abbrev pub invariant-loop-resource : goal.invariant-loop-resource
invariant-loop-resource l = (l.total ≡ sum_by (need l.project l.job l.mode) (numbers_from 1 l.resource)) × (l.total ≤ 1000000 * l.resource)
