-- The first plan: the serial schedule generation scheme (Kelley 1963; Kolisch 1996), by priority of the greatest tail,
-- under two rules for the mode of each job.
use Rattle.std.specs.Prelude.{◌≡◌, ℕ, ◌<◌, ◌≤◌, ◌⊎◌, Option, Some, None, List, [], length, All}
use Rattle.rcpsp_model.specs.declared.parts.Entry.{Entry}
use Rattle.rcpsp_model.specs.declared.parts.Placing.{Placing}
use Rattle.rcpsp_model.specs.Project.{Project, job_count, duration, Before, IsMode}
use Rattle.rcpsp_model.specs.Schedule.{finish, end_of, entries, Agrees, KeepsBudgets}
use Rattle.rcpsp_model.specs.Chain.{IsLeast, IsTail}
use Rattle.rcpsp_model.specs.Modes.{IsExecutable, total_need}
use Rattle.rcpsp_model.specs.Tree.{Fits, IsEligible, InTurn, IsLeaf}

-- a mode rule says which mode a job has
abbrev pub ModeRule : Type 1
ModeRule = Project → ℕ → ℕ → Type 0

-- the first rule: the job's shortest executable mode, the lowest on a tie
pub record IsShortestMode (P : Project) (j m : ℕ) : Type 0 where
  pub mode : IsMode P j m
  pub executable : IsExecutable P j m
  pub shortest : (n : ℕ) → IsMode P j n → IsExecutable P j n → (duration P j m < duration P j n) ⊎ ((duration P j m ≡ duration P j n) × (m ≤ n))

-- the second rule: the job's executable mode of least total need, the lowest on a tie
pub record IsCheapestMode (P : Project) (j m : ℕ) : Type 0 where
  pub mode : IsMode P j m
  pub executable : IsExecutable P j m
  pub cheapest : (n : ℕ) → IsMode P j n → IsExecutable P j n → (total_need P j m < total_need P j n) ⊎ ((total_need P j m ≡ total_need P j n) × (m ≤ n))

-- a start at which the predecessors are done, and the job in the mode fits beside the entries
pub record CanRun (P : Project) (F : List Entry) (j m t : ℕ) : Type 0 where
  pub after_preds : All (λ x. Before P x.job j → finish P x ≤ t) F
  pub fits : Fits P F j m t

-- an eligible job in one of its modes, at a start at which it can run
pub record IsPlacedInTurn (P : Project) (F : List Entry) (e : Entry) : Type 0 where
  pub eligible : IsEligible P F e.job
  pub mode : IsMode P e.job e.mode
  pub can_run : CanRun P F e.job e.mode e.start

-- the eligible job of greatest tail, the lowest on a tie
pub record IsUrgent (P : Project) (F : List Entry) (j : ℕ) : Type 0 where
  pub eligible : IsEligible P F j
  pub first : (i a b : ℕ) → IsEligible P F i → IsTail P i a → IsTail P j b → (a < b) ⊎ ((a ≡ b) × (j ≤ i))

-- the most urgent job in the mode of the rule, at the least start at which it can run
pub record IsScheduledNext (P : Project) (Rule : ModeRule) (F : List Entry) (e : Entry) : Type 0 where
  pub urgent : IsUrgent P F e.job
  pub mode : IsMode P e.job e.mode
  pub rule : Rule P e.job e.mode
  pub start : IsLeast (CanRun P F e.job e.mode) e.start

-- the serial scheme has placed all jobs by the rule, in this order
pub record IsSerialPlan (P : Project) (Rule : ModeRule) (placed : List Entry) : Type 0 where
  pub in_turn : InTurn (IsScheduledNext P Rule) [] placed
  pub whole : IsLeaf P placed

-- the schedule that the serial scheme makes by the rule, within the budgets
pub record IsPlanBy (P : Project) (Rule : ModeRule) (s : List Placing) : Type 0 where
  pub placed : List Entry
  pub serial : IsSerialPlan P Rule placed
  pub budgets : KeepsBudgets P placed
  pub jobs : length s ≡ job_count P
  pub agrees : Agrees s placed

abbrev pub HasNoPlanBy : Project → ModeRule → Type 0
HasNoPlanBy P Rule = (s : List Placing) → IsPlanBy P Rule s → ⊥

-- the plan that ends first, that of the first rule on a tie; none where neither rule gives one
abbrev pub IsFirstPlan : Project → Option (List Placing) → Type 0
IsFirstPlan P None = HasNoPlanBy P IsShortestMode × HasNoPlanBy P IsCheapestMode
IsFirstPlan P (Some s) =
    (IsPlanBy P IsShortestMode s × ((r : List Placing) → IsPlanBy P IsCheapestMode r → end_of P (entries s) ≤ end_of P (entries r)))
    ⊎ (IsPlanBy P IsCheapestMode s × ((r : List Placing) → IsPlanBy P IsShortestMode r → end_of P (entries s) < end_of P (entries r)))
