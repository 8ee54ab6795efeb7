-- The modes of a job: which of them can run, which are needless, and the least that a job takes in any of them (after
-- Sprecher, Hartmann and Drexl 1997).
use Rattle.std.specs.Prelude.{ℕ, ◌-◌, ◌*◌, ◌<◌, ◌≤◌, ◌⊎◌, slice_index, sum_by}
use Rattle.rcpsp_model.specs.Project.{Project, modes_of, duration, request, need, capacity, nonrenewables, numbers_from, IsMode, IsRenewable, IsNonrenewable}
use Rattle.rcpsp_model.specs.Chain.{least_over}

-- a mode that can't run: it takes time, and asks for more of k than its capacity
pub record LacksCapacity (P : Project) (j m k : ℕ) : Type 0 where
  pub renewable : IsRenewable P k
  pub takes_time : 0 < duration P j m
  pub lacks : capacity P k < request P j m k

-- a mode that can run: where it takes time, it asks for no more than the capacities
abbrev pub IsExecutable : Project → ℕ → ℕ → Type 0
IsExecutable P j m = 0 < duration P j m → (k : ℕ) → IsRenewable P k → request P j m k ≤ capacity P k

-- mode n takes no more than mode m: neither time, nor of any resource
pub record TakesNoMore (P : Project) (j n m : ℕ) : Type 0 where
  pub duration : duration P j n ≤ duration P j m
  pub requests : (k : ℕ) → IsRenewable P k → request P j n k ≤ request P j m k
  pub needs : (l : ℕ) → IsNonrenewable P l → need P j n l ≤ need P j m l

-- mode n takes less than mode m: less time, or less of some resource
pub data TakesLess (P : Project) (j n m : ℕ) : Type 0 where
  time : duration P j n < duration P j m → TakesLess P j n m
  renewable : (k : ℕ) → IsRenewable P k → request P j n k < request P j m k → TakesLess P j n m
  nonrenewable : (l : ℕ) → IsNonrenewable P l → need P j n l < need P j m l → TakesLess P j n m

-- mode m is inefficient by mode n, which takes no more, and takes less or has the lower number
pub record IsInefficientBy (P : Project) (j m n : ℕ) : Type 0 where
  pub mode : IsMode P j n
  pub no_more : TakesNoMore P j n m
  pub preferred : TakesLess P j n m ⊎ (n < m)

-- no mode makes m inefficient
abbrev pub IsEfficient : Project → ℕ → ℕ → Type 0
IsEfficient P j m = (n : ℕ) → IsInefficientBy P j m n → ⊥

-- the least that a job needs of a nonrenewable resource, over all its modes
unfoldable pub least_need : Project → ℕ → ℕ → ℕ
unfolding modes_of
least_need P j l = least_over (λ m. slice_index m.needs (l - 1)) (modes_of P j)

-- the least work of a job on a renewable resource, over all its modes: periods times request
unfoldable pub least_work : Project → ℕ → ℕ → ℕ
unfolding modes_of
least_work P j k = least_over (λ m. m.duration * slice_index m.requests (k - 1)) (modes_of P j)

-- what a job in a mode needs of all nonrenewable resources together
abbrev pub total_need : Project → ℕ → ℕ → ℕ
total_need P j m = sum_by (need P j m) (numbers_from 1 (nonrenewables P))
