use Rattle.std.proofs.Common.{◌≡◌, ◌≤◌, take}
use Rattle.rcpsp_model.specs.Project.{modes_of}
use Rattle.rcpsp_model.specs.Chain.{least_over}
use Rattle.window_refuter.proofs.LeastRequests.{request_of}
use Rattle.window_refuter.proofs.least.least_request.Given as goal

abbrev pub invariant-loop-mode : goal.invariant-loop-mode
invariant-loop-mode l = (l.least ≡ least_over (request_of l.resource) (take l.mode (modes_of l.project l.job))) × (l.least ≤ 1000000)
