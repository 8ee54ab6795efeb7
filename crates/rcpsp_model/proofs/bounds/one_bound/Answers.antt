use Rattle.rcpsp_model.proofs.BoundsExist.{one_tail_bound_law, one_work_bound_law, one_lower_bound_law}
use Rattle.rcpsp_model.proofs.bounds.one_bound.Goals as goal

pub returns-clause-tail : goal.returns-clause-tail
returns-clause-tail c = one_tail_bound_law

pub returns-clause-work : goal.returns-clause-work
returns-clause-work c = one_work_bound_law

pub returns-clause-lower : goal.returns-clause-lower
returns-clause-lower c = one_lower_bound_law
