-- A plan that is made of one or of none.
use Rattle.std.specs.Prelude.{◌≤◌, Option, Some, None, List}
use Rattle.rcpsp_model.specs.declared.parts.Placing.{Placing}
use Rattle.rcpsp_model.specs.Project.{Project}
use Rattle.rcpsp_model.specs.Schedule.{end_of, entries}

-- where a plan was given there is one, and it ends no later
abbrev pub EndsNoLater : Project → Option (List Placing) → Option (List Placing) → Type 0
EndsNoLater P None found = Unit {0}
EndsNoLater P (Some given) None = ⊥
EndsNoLater P (Some given) (Some found) = end_of P (entries found) ≤ end_of P (entries given)
