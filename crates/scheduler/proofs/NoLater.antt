-- Plans that end no later than others.
use Rattle.std.proofs.Common.{◌≤◌, arith, Option, Some, None, List}
use Rattle.rcpsp_model.specs.declared.parts.Placing.{Placing}
use Rattle.rcpsp_model.specs.Project.{Project}
use Rattle.rcpsp_model.specs.Schedule.{end_of, entries}
use Rattle.plan_search.specs.Plans.{EndsNoLater}

-- a plan ends no later than itself
pub no_later_itself : (P : Project) (plan : Option (List Placing)) → EndsNoLater P plan plan
no_later_itself P None = tt
no_later_itself P (Some s) = let same : end_of P (entries s) ≤ end_of P (entries s) = omega arith in same

-- what ends no later than what ends no later
pub no_later_twice : (P : Project) (first second third : Option (List Placing)) → EndsNoLater P first second → EndsNoLater P second third → EndsNoLater P first third
no_later_twice P None second third a b = tt
no_later_twice P (Some s) None third a b = absurd a
no_later_twice P (Some s) (Some r) None a b = absurd b
no_later_twice P (Some s) (Some r) (Some q) a b = omega (arith, a, b)
