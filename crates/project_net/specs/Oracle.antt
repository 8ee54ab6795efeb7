-- Answers to the question for the least end of a project's feasible schedules.
use Rattle.std.specs.Prelude.{ℕ, List}
use Rattle.sched_base.specs.Outside.{Rose}
use Rattle.rcpsp_model.specs.declared.parts.Placing.{Placing}
use Rattle.rcpsp_model.specs.Project.{Project}
use Rattle.rcpsp_model.specs.Claim.{EndsAt, NoneEndsBefore, NoneIsFeasible}
use Rattle.project_net.specs.declared.oracle.OracleAnswer.{OracleAnswer}
use Rattle.project_net.specs.declared.oracle.OracleAnswer.TheVariants.{Least, Nothing, Unknown}

-- a feasible schedule ends at d, and none earlier
pub record IsLeastEnd (P : Project) (d : ℕ) : Type 0 where
  pub schedule : List Placing
  pub ends : EndsAt P d schedule
  pub none_before : NoneEndsBefore P d

-- what the answer says is so of the project
abbrev pub IsTrueOf : Project → OracleAnswer → Type 0
IsTrueOf P (Least d) = IsLeastEnd P d
IsTrueOf P Nothing = NoneIsFeasible P
IsTrueOf P (Unknown b) = NoneEndsBefore P b

-- an answer that leaves the least end open comes only where the count of spent searches rose
abbrev pub HasSpent : ℕ → ℕ → OracleAnswer → Type 0
HasSpent before now (Least d) = Unit {0}
HasSpent before now Nothing = Unit {0}
HasSpent before now (Unknown b) = Rose before now
