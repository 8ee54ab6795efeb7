-- The precedence tree (Patterson, Slowinski, Talbot and Weglarz 1989; Sprecher 1994): its nodes are fronts, which are
-- partial schedules built job by job, and a front's children have one job more.
use Rattle.std.specs.Prelude.{◌≡◌, ℕ, ◌+◌, ◌<◌, ◌≤◌, ◌==◌, ◌&&◌, ◌||◌, Bool, true, false, List, [], ◌∷◌, ◌++◌, length, fold, filter, map, not, sum_by, All}
use Rattle.std.specs.List.{list_any, list_all, flat_map, AllZip}
use Rattle.rcpsp_model.specs.declared.parts.Child.{Child}
use Rattle.rcpsp_model.specs.declared.parts.Child.TheVariants.{Placed, Shut}
use Rattle.rcpsp_model.specs.declared.parts.Entry.{Entry}
use Rattle.rcpsp_model.specs.declared.parts.Placing.{Placing}
use Rattle.rcpsp_model.specs.declared.parts.Shut.{Shut as Why}
use Rattle.rcpsp_model.specs.declared.parts.Shut.TheVariants.{NoCapacity, NoBudget, Inefficient}
use Rattle.rcpsp_model.specs.Project.{Project, duration, request, budget, jobs, modes_of, is_before, numbers_from, Before, IsJob, IsMode, IsRenewable, IsNonrenewable}
use Rattle.rcpsp_model.specs.Schedule.{finish, usage, used, entries, cap, Agrees, IsFeasible, KeepsBudgets}
use Rattle.rcpsp_model.specs.Chain.{IsLeast}
use Rattle.rcpsp_model.specs.Modes.{LacksCapacity, IsExecutable, IsInefficientBy, IsEfficient, least_need}

-- Fronts. A front is a list of entries in the order of placing.

-- whether one of the entries has the job
abbrev pub has_job : List Entry → ℕ → Bool
has_job F j = list_any (λ e. e.job == j) F

-- the start of the entry that was placed last, 0 where there is none
abbrev pub last_start : List Entry → ℕ
last_start F = fold (λ _ e. e.start) 0 F

-- beside the entries, the job in the mode exceeds no capacity in any of its periods from t on
abbrev pub Fits : Project → List Entry → ℕ → ℕ → ℕ → Type 0
Fits P es j m t = (k u : ℕ) → IsRenewable P k → t ≤ u → u < t + duration P j m → usage P es k u + request P j m k ≤ cap P k u

-- a start at the last start or later, when the predecessors are done, at which the job in the mode fits
pub record CanStart (P : Project) (F : List Entry) (j m t : ℕ) : Type 0 where
  pub after_last : last_start F ≤ t
  pub after_preds : All (λ x. Before P x.job j → finish P x ≤ t) F
  pub fits : Fits P F j m t

-- the job isn't placed, and each of its predecessors is
pub record IsEligible (P : Project) (F : List Entry) (j : ℕ) : Type 0 where
  pub job : IsJob P j
  pub unplaced : has_job F j ≡ false
  pub preds : (i : ℕ) → Before P i j → has_job F i ≡ true

-- whether each predecessor of the job has an entry
abbrev pub has_predecessors : Project → List Entry → ℕ → Bool
has_predecessors P F j = list_all (λ i. not (is_before P i j) || has_job F i) (jobs P)

-- the same as a test of a job
abbrev pub is_eligible : Project → List Entry → ℕ → Bool
is_eligible P F j = not (has_job F j) && has_predecessors P F j

-- an entry that may follow the entries of F: an eligible job in one of its modes, at its least start, within the budgets
pub record Follows (P : Project) (F : List Entry) (e : Entry) : Type 0 where
  pub eligible : IsEligible P F e.job
  pub mode : IsMode P e.job e.mode
  pub start : IsLeast (CanStart P F e.job e.mode) e.start
  pub budgets : KeepsBudgets P (F ++ e ∷ [])

-- each item of a list stands in a relation to the items before it, where these items came before the list
abbrev pub InTurn : {X : Type 0} → (List X → X → Type 0) → List X → List X → Type 0
InTurn R before [] = Unit {0}
InTurn R before (x ∷ xs) = R before x × InTurn R (before ++ x ∷ []) xs

-- a front: each entry follows those before it
abbrev pub IsFront : Project → List Entry → Type 0
IsFront P F = InTurn (Follows P) [] F

-- a front of all jobs
abbrev pub IsLeaf : Project → List Entry → Type 0
IsLeaf P F = (j : ℕ) → IsJob P j → has_job F j ≡ true

-- a feasible schedule that agrees with the front, and starts each other job at the front's last start or later
pub record Completes (P : Project) (F : List Entry) (s : List Placing) : Type 0 where
  pub feasible : IsFeasible P s
  pub kept : Agrees s F
  pub rest : All (λ e. has_job F e.job ≡ false → last_start F ≤ e.start) (entries s)

-- Children. An eligible job in one of its modes leads to a child, which is a longer front or is shut.

-- the jobs that have no entry, in ascending order
abbrev pub unplaced : Project → List Entry → List ℕ
unplaced P F = filter (λ j. not (has_job F j)) (jobs P)

-- the least that the jobs that aren't placed need of a nonrenewable resource
abbrev pub rest_need : Project → List Entry → ℕ → ℕ
rest_need P F l = sum_by (λ j. least_need P j l) (unplaced P F)

-- F has the gap l: what it needs of l, and the least that the other jobs need, is more than the budget
pub record HasGap (P : Project) (F : List Entry) (l : ℕ) : Type 0 where
  pub nonrenewable : IsNonrenewable P l
  pub exceeds : budget P l < used P F l + rest_need P F l

-- F has no gap
abbrev pub LeavesBudgets : Project → List Entry → Type 0
LeavesBudgets P F = (l : ℕ) → IsNonrenewable P l → used P F l + rest_need P F l ≤ budget P l

abbrev pub entry_at : ℕ → ℕ → ℕ → Entry
entry_at j m t = record { job = j; mode = m; start = t }

-- F with the job in the mode, wherever it starts: only its needs are asked for
abbrev pub extended : List Entry → ℕ → ℕ → List Entry
extended F j m = F ++ entry_at j m 0 ∷ []

-- why an eligible job in a mode leads to no front: the first cause that applies of a capacity that it exceeds in every
-- period, a budget gap, and another mode in its place; each by the lowest number
abbrev pub IsShut : Project → List Entry → ℕ → ℕ → Why → Type 0
IsShut P F j m (NoCapacity k) = IsLeast (LacksCapacity P j m) k
IsShut P F j m (NoBudget l) = IsExecutable P j m × IsLeast (HasGap P (extended F j m)) l
IsShut P F j m (Inefficient n) = IsExecutable P j m × LeavesBudgets P (extended F j m) × IsLeast (IsInefficientBy P j m) n

-- the entry may follow F, and none of these causes applies to it
pub record IsPlacedChild (P : Project) (F : List Entry) (e : Entry) : Type 0 where
  pub follows : Follows P F e
  pub executable : IsExecutable P e.job e.mode
  pub budgets : LeavesBudgets P (F ++ e ∷ [])
  pub efficient : IsEfficient P e.job e.mode

-- the child of F by a job in a mode
abbrev pub IsChild : Project → List Entry → ℕ → ℕ → Child (List Entry) → Type 0
IsChild P F j m (Placed G) = (t : ℕ) × (G ≡ F ++ entry_at j m t ∷ []) × IsPlacedChild P F (entry_at j m t)
IsChild P F j m (Shut i n why) = (i ≡ j) × (n ≡ m) × IsShut P F j m why

abbrev pub Children : Type 0
Children = List (Child (List Entry))

-- The children of a front as a list: one for each eligible job in each of its modes.

-- a job in one of its modes
pub record Choice : Type 0 where
  pub job : ℕ
  pub mode : ℕ

-- the job in its modes from 1 to n
abbrev pub choices_by : ℕ → ℕ → List Choice
choices_by j n = map (λ m. record { job = j; mode = m }) (numbers_from 1 n)

-- the job in each of its modes
abbrev pub choices_of : Project → ℕ → List Choice
choices_of P j = choices_by j (length (modes_of P j))

-- what may be tried next after the entries of F: by ascending job, and then by ascending mode
abbrev pub choices : Project → List Entry → List Choice
choices P F = flat_map (choices_of P) (filter (is_eligible P F) (jobs P))

-- the children of F by these choices, one by one
abbrev pub AreChildrenBy : Project → List Entry → List Choice → Children → Type 0
AreChildrenBy P F choices cs = AllZip (λ choice c. IsChild P F choice.job choice.mode c) choices cs

-- the children of F
abbrev pub AreChildren : Project → List Entry → Children → Type 0
AreChildren P F cs = AreChildrenBy P F (choices P F) cs
