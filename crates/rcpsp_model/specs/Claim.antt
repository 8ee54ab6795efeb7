-- What a verdict claims of all schedules.
use Rattle.std.specs.Prelude.{◌≡◌, ℕ, ◌≤◌, Option, Some, None, List}
use Rattle.rcpsp_model.specs.declared.parts.Entry.{Entry}
use Rattle.rcpsp_model.specs.declared.parts.Placing.{Placing}
use Rattle.rcpsp_model.specs.declared.parts.Verdict.{Verdict}
use Rattle.rcpsp_model.specs.declared.parts.Verdict.TheVariants.{Optimal, Infeasible, Limit}
use Rattle.rcpsp_model.specs.Project.{Project}
use Rattle.rcpsp_model.specs.Schedule.{end_of, entries, IsFeasible}
use Rattle.rcpsp_model.specs.Tree.{Completes}

abbrev pub NoneIsFeasible : Project → Type 0
NoneIsFeasible P = (s : List Placing) → IsFeasible P s → ⊥

-- no feasible schedule ends before b
abbrev pub NoneEndsBefore : Project → ℕ → Type 0
NoneEndsBefore P b = (s : List Placing) → IsFeasible P s → b ≤ end_of P (entries s)

-- each schedule that completes F ends at d or later
abbrev pub EndsLate : Project → ℕ → List Entry → Type 0
EndsLate P d F = (s : List Placing) → Completes P F s → d ≤ end_of P (entries s)

-- a feasible schedule that ends at d
pub record EndsAt (P : Project) (d : ℕ) (s : List Placing) : Type 0 where
  pub feasible : IsFeasible P s
  pub end : end_of P (entries s) ≡ d

-- the schedule stands exactly where the duration does, is feasible, and ends at it
abbrev pub HasDuration : Project → Option ℕ → Option (List Placing) → Type 0
HasDuration P None None = Unit {0}
HasDuration P (Some d) (Some s) = EndsAt P d s
HasDuration P None (Some s) = ⊥
HasDuration P (Some d) None = ⊥

-- the claim of a verdict and of the schedule beside it
abbrev pub Claim : Project → Verdict → Option (List Placing) → Type 0
Claim P (Optimal d) s = HasDuration P (Some d) s × NoneEndsBefore P d
Claim P Infeasible s = HasDuration P None s × NoneIsFeasible P
Claim P (Limit d b) s = HasDuration P d s × NoneEndsBefore P b
