-- Which job comes next, and when its predecessors are done.
use Rattle.std.specs.Prelude.{◌≡◌, ℕ, ◌<◌, ◌≤◌, ◌⊎◌, Bool, true, false, Option, Some, None, List, filter}
use Rattle.rcpsp_model.specs.declared.parts.Entry.{Entry}
use Rattle.rcpsp_model.specs.Project.{Project, Before, IsJob, is_before}
use Rattle.rcpsp_model.specs.Schedule.{end_of}
use Rattle.rcpsp_model.specs.Chain.{IsTail}
use Rattle.project_net.specs.Order.{IsFree}

-- the tail of i is less than that of j, or at most that
abbrev pub HasLessTail : Project → ℕ → ℕ → Type 0
HasLessTail P i j = (a b : ℕ) → IsTail P i a → IsTail P j b → a < b

abbrev pub HasNoMoreTail : Project → ℕ → ℕ → Type 0
HasNoMoreTail P i j = (a b : ℕ) → IsTail P i a → IsTail P j b → a ≤ b

-- of a first job or none and a second one, the one with the greater tail, the first on a tie
abbrev pub IsMoreUrgent : Project → Option ℕ → ℕ → Option ℕ → Type 0
IsMoreUrgent P None j r = r ≡ Some j
IsMoreUrgent P (Some b) j r = (HasNoMoreTail P j b × (r ≡ Some b)) ⊎ (HasLessTail P b j × (r ≡ Some j))

-- the free job of greatest tail, the lowest on a tie
pub record IsMostUrgent (P : Project) (placed : ℕ → Bool) (j : ℕ) : Type 0 where
  pub free : IsFree P placed j
  pub first : (i a b : ℕ) → IsFree P placed i → IsTail P i a → IsTail P j b → (a < b) ⊎ ((a ≡ b) × (j ≤ i))

-- the greatest finish of the job's predecessors
abbrev pub done_at : Project → List Entry → ℕ → ℕ
done_at P es j = end_of P (filter (λ e. is_before P e.job j) es)
