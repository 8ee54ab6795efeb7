-- The text of a project's window bound.
use Rattle.std.specs.Prelude.{ℕ, List}
use Rattle.rcpsp_model.specs.Project.{Project}
use Rattle.rcpsp_model.specs.Claim.{NoneEndsBefore}
use Rattle.window_refuter.specs.Refuted.{IsWindowBound}
use Rattle.bound_checker.specs.Judged.{AcceptsBound}

-- the bytes are the text of the window bound, with steps that show it, and so are accepted; no feasible schedule ends before it
pub record IsBoundText (P : Project) (bytes : List ℕ) : Type 0 where
  pub bound : ℕ
  pub is_bound : IsWindowBound P bound
  pub accepted : AcceptsBound P bytes bound
  pub sound : NoneEndsBefore P bound
