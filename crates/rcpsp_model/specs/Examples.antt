-- Five small projects, at which the definitions can be seen at work. What is said of them here is proved.
use Rattle.std.specs.Prelude.{ℕ, List, [], ◌∷◌, ◌++◌}
use Rattle.rcpsp_model.specs.declared.parts.Child.TheVariants.{Placed}
use Rattle.rcpsp_model.specs.declared.parts.Entry.{Entry}
use Rattle.rcpsp_model.specs.declared.parts.Mode.{Mode}
use Rattle.rcpsp_model.specs.declared.parts.Placing.{Placing}
use Rattle.rcpsp_model.specs.Project.{Activity, Project, IsProject}
use Rattle.rcpsp_model.specs.Schedule.{IsFeasible}
use Rattle.rcpsp_model.specs.Tree.{entry_at, IsFront, AreChildren}
use Rattle.rcpsp_model.specs.Bounds.{IsTailBound, IsWorkBound}
use Rattle.rcpsp_model.specs.Rank.{IsRank}
use Rattle.rcpsp_model.specs.Dominance.{Dominates}

-- a mode that uses one renewable resource, and one that needs a nonrenewable one too
abbrev pub using : ℕ → ℕ → Mode
using duration request = record { duration = duration; requests = request ∷ []; needs = [] }

abbrev pub needing : ℕ → ℕ → ℕ → Mode
needing duration request need = record { duration = duration; requests = request ∷ []; needs = need ∷ [] }

abbrev pub activity : List Mode → List ℕ → Activity
activity modes successors = record { modes = modes; successors = successors }

-- a mode and a start
abbrev pub at : ℕ → ℕ → Placing
at mode start = record { mode = mode; start = start }

-- Jobs 2 and 3 stand between a first and a last job, and together ask for more than there is.
abbrev pub two_in_turn : Project
two_in_turn = record {
  activities =
      activity (using 0 0 ∷ []) (2 ∷ 3 ∷ [])
      ∷ activity (using 3 2 ∷ []) (4 ∷ [])
      ∷ activity (using 2 2 ∷ []) (4 ∷ [])
      ∷ activity (using 0 0 ∷ []) [] ∷ [];
  capacities = 3 ∷ [];
  budgets = [];
  calendar = [];
}

pub record TwoInTurn : Type 0 where
  pub project : IsProject two_in_turn
  pub feasible : IsFeasible two_in_turn (at 1 0 ∷ at 1 0 ∷ at 1 3 ∷ at 1 5 ∷ [])
  -- both at once
  pub over_capacity : IsFeasible two_in_turn (at 1 0 ∷ at 1 0 ∷ at 1 0 ∷ at 1 3 ∷ []) → ⊥
  -- the last job before one that it waits for is done
  pub too_early : IsFeasible two_in_turn (at 1 0 ∷ at 1 0 ∷ at 1 3 ∷ at 1 4 ∷ []) → ⊥
  -- after jobs 1 and 2, and at the start, where 10 units of work are left and 3 are there in each period
  pub tail_bound : IsTailBound two_in_turn (entry_at 1 1 0 ∷ entry_at 2 1 0 ∷ []) 3
  pub work_bound : IsWorkBound two_in_turn [] 1 4

-- The same jobs, where there is only one unit of the resource in periods 0 and 1.
abbrev pub after_a_break : Project
after_a_break = record two_in_turn { calendar = record { resource = 1; begin = 0; until = 2; capacity = 1 } ∷ [] }

pub record AfterABreak : Type 0 where
  pub project : IsProject after_a_break
  -- job 2, which asks for two units, waits until the break is over
  pub feasible : IsFeasible after_a_break (at 1 0 ∷ at 1 2 ∷ at 1 5 ∷ at 1 7 ∷ [])
  pub in_the_break : IsFeasible after_a_break (at 1 0 ∷ at 1 1 ∷ at 1 4 ∷ at 1 6 ∷ []) → ⊥
  pub front : IsFront after_a_break (entry_at 1 1 0 ∷ entry_at 2 1 2 ∷ [])
  -- the first four periods supply 8 of the 10 units of work that are left, the first five 11
  pub work_bound : IsWorkBound after_a_break [] 1 5

-- Jobs 3, 2 and 1, in this order, take no time, and come before job 4. Job 5 stands alone.
abbrev pub zero_lengths : Project
zero_lengths = record {
  activities =
      activity (using 0 0 ∷ []) (4 ∷ [])
      ∷ activity (using 0 0 ∷ []) (1 ∷ [])
      ∷ activity (using 0 0 ∷ []) (2 ∷ [])
      ∷ activity (using 3 2 ∷ []) []
      ∷ activity (using 2 2 ∷ []) [] ∷ [];
  capacities = 3 ∷ [];
  budgets = [];
  calendar = [];
}

abbrev pub before_fifth : List Entry
before_fifth = entry_at 3 1 0 ∷ entry_at 2 1 0 ∷ entry_at 1 1 0 ∷ entry_at 4 1 0 ∷ []

pub record ZeroLengths : Type 0 where
  pub project : IsProject zero_lengths
  pub feasible : IsFeasible zero_lengths (at 1 0 ∷ at 1 0 ∷ at 1 0 ∷ at 1 0 ∷ at 1 3 ∷ [])
  -- the order of precedence is 3, 2, 1, 4, 5
  pub rank : IsRank zero_lengths 4 4
  pub front : IsFront zero_lengths before_fifth
  -- job 5 is its one child, at 3
  pub children : AreChildren zero_lengths before_fifth (Placed (before_fifth ++ entry_at 5 1 3 ∷ []) ∷ [])

-- Jobs 2 and 3 have a short mode and a cheap one, and the budget doesn't pay for two short ones.
abbrev pub short_or_cheap : Project
short_or_cheap = record {
  activities =
      activity (needing 0 0 0 ∷ []) (2 ∷ 3 ∷ [])
      ∷ activity (needing 2 1 3 ∷ needing 4 1 1 ∷ []) (4 ∷ [])
      ∷ activity (needing 2 1 3 ∷ needing 4 1 1 ∷ []) (4 ∷ [])
      ∷ activity (needing 0 0 0 ∷ []) [] ∷ [];
  capacities = 2 ∷ [];
  budgets = 4 ∷ [];
  calendar = [];
}

pub record ShortOrCheap : Type 0 where
  pub project : IsProject short_or_cheap
  pub feasible : IsFeasible short_or_cheap (at 1 0 ∷ at 1 0 ∷ at 2 0 ∷ at 1 4 ∷ [])
  pub over_budget : IsFeasible short_or_cheap (at 1 0 ∷ at 1 0 ∷ at 1 0 ∷ at 1 2 ∷ []) → ⊥

-- Job 2 has a mode that needs more and one that asks for more.
abbrev pub needs_differ : Project
needs_differ = record {
  activities =
      activity (needing 0 0 0 ∷ []) (2 ∷ 3 ∷ [])
      ∷ activity (needing 1 1 3 ∷ needing 1 2 1 ∷ []) (4 ∷ 5 ∷ [])
      ∷ activity (needing 1 1 0 ∷ []) (4 ∷ 5 ∷ [])
      ∷ activity (needing 3 2 0 ∷ []) (6 ∷ [])
      ∷ activity (needing 2 2 0 ∷ []) (6 ∷ [])
      ∷ activity (needing 0 0 0 ∷ []) [] ∷ [];
  capacities = 3 ∷ [];
  budgets = 10 ∷ [];
  calendar = [];
}

-- fronts with the same jobs at the same starts, which have used 3 and 1 of the budget
abbrev pub used_3 : List Entry
used_3 = entry_at 1 1 0 ∷ entry_at 2 1 0 ∷ entry_at 3 1 0 ∷ []

abbrev pub used_1 : List Entry
used_1 = entry_at 1 1 0 ∷ entry_at 3 1 0 ∷ entry_at 2 2 0 ∷ []

-- the second in another order
abbrev pub used_1_too : List Entry
used_1_too = entry_at 1 1 0 ∷ entry_at 2 2 0 ∷ entry_at 3 1 0 ∷ []

pub record NeedsDiffer : Type 0 where
  pub project : IsProject needs_differ
  pub fronts : IsFront needs_differ used_3 × IsFront needs_differ used_1 × IsFront needs_differ used_1_too
  pub dominated : Dominates needs_differ used_1_too used_1
  pub needs_more : Dominates needs_differ used_3 used_1 → ⊥
