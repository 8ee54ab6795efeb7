-- The laws, which hold of all projects, schedules and fronts. Each is the contract of a function, and so is proved.
use Rattle.std.specs.Prelude.{◌≡◌, Option, ℕ, ◌+◌, ◌-◌, ◌*◌, ◌/◌, ◌<◌, ◌≤◌, ◌↔◌, min, true, Some, List, [], ◌∷◌, ◌++◌, length, Contains}
use Rattle.rcpsp_model.specs.declared.parts.CalRow.{CalRow}
use Rattle.rcpsp_model.specs.declared.parts.Child.TheVariants.{Placed}
use Rattle.rcpsp_model.specs.declared.parts.Entry.{Entry}
use Rattle.rcpsp_model.specs.declared.parts.Placing.{Placing}
use Rattle.rcpsp_model.specs.Project.{Project, job_count, duration, request, need, capacity, budget, renewables, nonrenewables, modes_of, is_before, IsJob, IsMode, IsRenewable, IsNonrenewable, IsWithinLimits, IsAcyclic, IsProject}
use Rattle.rcpsp_model.specs.Schedule.{end_of, entries, cap, calm, IsFeasible, KeepsBudgets, Agrees}
use Rattle.rcpsp_model.specs.Chain.{IsTail}
use Rattle.rcpsp_model.specs.Modes.{IsExecutable}
use Rattle.rcpsp_model.specs.Tree.{last_start, is_eligible, IsEligible, IsFront, IsLeaf, InTurn, Completes, HasGap, IsPlacedChild, Children, AreChildren}
use Rattle.rcpsp_model.specs.Bounds.{IsTailBound, IsWorkBound, IsLowerBound, rest_work}
use Rattle.rcpsp_model.specs.Dominance.{Dominates}
use Rattle.rcpsp_model.specs.Rank.{IsRank}
use Rattle.rcpsp_model.specs.Plan.{IsShortestMode, IsCheapestMode, IsPlacedInTurn, IsSerialPlan, IsFirstPlan}
use Rattle.rcpsp_model.specs.Claim.{NoneIsFeasible}

-- What there is of a renewable resource in a period.

-- in the periods of a row there is what the row says
abbrev pub RowLaw : Type 0
RowLaw = (P : Project) (row : CalRow) (t : ℕ) → IsWithinLimits P → Contains P.calendar row → row.begin ≤ t → t < row.until → cap P row.resource t ≡ row.capacity

-- in a period that no row of the resource has, there is the capacity
abbrev pub OtherPeriodLaw : Type 0
OtherPeriodLaw = (P : Project) (k t : ℕ) → ((row : CalRow) → Contains P.calendar row → row.resource ≡ k → row.begin ≤ t → t < row.until → ⊥) → cap P k t ≡ capacity P k

-- The laws below know no more of `cap` and `calm` than these three.

-- at most the capacity
abbrev pub CapLaw : Type 0
CapLaw = (P : Project) (k t : ℕ) → cap P k t ≤ capacity P k

-- the whole capacity from `calm` on
abbrev pub WholeLaw : Type 0
WholeLaw = (P : Project) (k t : ℕ) → calm P ≤ t → cap P k t ≡ capacity P k

abbrev pub CalmLaw : Type 0
CalmLaw = (P : Project) → IsWithinLimits P → calm P ≤ 10000

-- A project is known by its facts.

-- the same number of jobs, modes and resources, the same number for each of them, and the same rows of the calendar
pub record SameFacts (P Q : Project) : Type 0 where
  pub jobs : job_count P ≡ job_count Q
  pub renewables : renewables P ≡ renewables Q
  pub nonrenewables : nonrenewables P ≡ nonrenewables Q
  pub modes : (j : ℕ) → IsJob P j → length (modes_of P j) ≡ length (modes_of Q j)
  pub durations : (j m : ℕ) → IsJob P j → IsMode P j m → duration P j m ≡ duration Q j m
  pub requests : (j m k : ℕ) → IsJob P j → IsMode P j m → IsRenewable P k → request P j m k ≡ request Q j m k
  pub needs : (j m l : ℕ) → IsJob P j → IsMode P j m → IsNonrenewable P l → need P j m l ≡ need Q j m l
  pub before : (i j : ℕ) → is_before P i j ≡ is_before Q i j
  pub capacities : (k : ℕ) → IsRenewable P k → capacity P k ≡ capacity Q k
  pub budgets : (l : ℕ) → IsNonrenewable P l → budget P l ≡ budget Q l
  pub calendar : P.calendar ≡ Q.calendar

-- two projects with the same facts are equal
abbrev pub SameFactsLaw : Type 0
SameFactsLaw = (P Q : Project) → IsProject P → IsProject Q → SameFacts P Q → P ≡ Q

-- a rank of a job, and no other one
pub record OneRank (P : Project) (j : ℕ) : Type 0 where
  pub rank : ℕ
  pub is : IsRank P j rank
  pub only : (r : ℕ) → IsRank P j r → r ≡ rank

-- each job has exactly one rank
abbrev pub RankLaw : Type 0
RankLaw = (P : Project) (j : ℕ) → IsAcyclic P → IsJob P j → OneRank P j

-- The tree loses nothing.

-- a front has at most all jobs, and ends within its jobs' greatest durations after `calm`
abbrev pub FrontLaw : Type 0
FrontLaw = (P : Project) (F : List Entry) → IsProject P → IsFront P F → (length F ≤ job_count P) × (end_of P F ≤ calm P + 10000 * length F)

-- the empty front is completed by exactly the feasible schedules
abbrev pub RootLaw : Type 0
RootLaw = (P : Project) → IsFront P [] × ((s : List Placing) → Completes P [] s ↔ IsFeasible P s)

-- the one schedule with these entries of all jobs, which ends when the last of them does
pub record OwnSchedule (P : Project) (placed : List Entry) : Type 0 where
  pub schedule : List Placing
  pub jobs : length schedule ≡ job_count P
  pub agrees : Agrees schedule placed
  pub end : end_of P (entries schedule) ≡ end_of P placed
  pub only : (s : List Placing) → length s ≡ job_count P → Agrees s placed → s ≡ schedule

-- a leaf is completed by its own schedule alone
abbrev pub LeafLaw : Type 0
LeafLaw = (P : Project) (F : List Entry) → IsAcyclic P → IsFront P F → IsLeaf P F → (own : OwnSchedule P F) × ((s : List Placing) → Completes P F s ↔ (s ≡ own.schedule))

-- a placed child of F, and a schedule that completes the child and ends no later than s
pub record Exchange (P : Project) (F : List Entry) (s : List Placing) : Type 0 where
  pub entry : Entry
  pub child : IsPlacedChild P F entry
  pub better : List Placing
  pub completes : Completes P (F ++ entry ∷ []) better
  pub no_later : end_of P (entries better) ≤ end_of P (entries s)

-- where a front isn't a leaf, each schedule that completes it can be exchanged for one that completes a placed child
abbrev pub ExchangeLaw : Type 0
ExchangeLaw = (P : Project) (F : List Entry) (s : List Placing) → IsAcyclic P → IsFront P F → (IsLeaf P F → ⊥) → Completes P F s → Exchange P F s

-- a job is eligible exactly where the test says so
abbrev pub EligibleLaw : Type 0
EligibleLaw = (P : Project) (F : List Entry) (j : ℕ) → IsJob P j → (is_eligible P F j ≡ true) ↔ IsEligible P F j

-- a list of a front's children, and no other list
pub record OneList (P : Project) (F : List Entry) : Type 0 where
  pub children : Children
  pub are : AreChildren P F children
  pub only : (cs : Children) → AreChildren P F cs → cs ≡ children

-- the children are known by the front: each eligible job has exactly one by each of its modes
abbrev pub OneListLaw : Type 0
OneListLaw = (P : Project) (F : List Entry) → OneList P F

-- the placed among the children are fronts, and all placed children are among them
pub record ListsChildren (P : Project) (F : List Entry) (cs : Children) : Type 0 where
  pub fronts : (G : List Entry) → Contains cs (Placed G) → IsFront P G
  pub whole : (e : Entry) → IsPlacedChild P F e → Contains cs (Placed (F ++ e ∷ []))

abbrev pub ChildrenLaw : Type 0
ChildrenLaw = (P : Project) (F : List Entry) (cs : Children) → IsFront P F → AreChildren P F cs → ListsChildren P F cs

-- a front among the placed children, and a schedule that completes it and ends no later than s
pub record LeadsOn (P : Project) (cs : Children) (s : List Placing) : Type 0 where
  pub child : List Entry
  pub placed : Contains cs (Placed child)
  pub better : List Placing
  pub completes : Completes P child better
  pub no_later : end_of P (entries better) ≤ end_of P (entries s)

-- each schedule that completes F, where that isn't a leaf, can be exchanged for one that completes one of the children
abbrev pub Exchanges : Project → List Entry → Children → Type 0
Exchanges P F cs = (IsLeaf P F → ⊥) → (s : List Placing) → Completes P F s → LeadsOn P cs s

-- the exchange, for the children as a list
abbrev pub ListExchangeLaw : Type 0
ListExchangeLaw = (P : Project) (F : List Entry) (cs : Children) → IsAcyclic P → IsFront P F → AreChildren P F cs → Exchanges P F cs

-- Bounds.

-- what completes a front ends at its tail bound or later
abbrev pub TailLaw : Type 0
TailLaw = (P : Project) (F : List Entry) (s : List Placing) (t : ℕ) → IsAcyclic P → Completes P F s → IsTailBound P F t → t ≤ end_of P (entries s)

-- each job has a tail
abbrev pub HasTailLaw : Type 0
HasTailLaw = (P : Project) (j : ℕ) → IsAcyclic P → IsJob P j → (t : ℕ) × IsTail P j t

-- no feasible schedule ends before the tail of a job
abbrev pub JobTailLaw : Type 0
JobTailLaw = (P : Project) (s : List Placing) (j t : ℕ) → IsAcyclic P → IsFeasible P s → IsJob P j → IsTail P j t → t ≤ end_of P (entries s)

-- what completes a front ends at each of its work bounds or later
abbrev pub WorkLaw : Type 0
WorkLaw = (P : Project) (F : List Entry) (s : List Placing) (k w : ℕ) → IsFront P F → Completes P F s → IsWorkBound P F k w → w ≤ end_of P (entries s)

-- a quotient, rounded up
abbrev pub quotient_up : ℕ → ℕ → ℕ
quotient_up n d = (n + d - 1) / d

-- where the capacity is whole from the last start on, the work bound is the last start and the quotient of the work that
-- is left by the capacity, rounded up, or 999,999,999 where that is less
abbrev pub QuotientLaw : Type 0
QuotientLaw =
    (P : Project) (F : List Entry) (k w : ℕ) → IsRenewable P k → 0 < capacity P k → calm P ≤ last_start F →
    IsWorkBound P F k w ↔ (w ≡ min 999999999 (last_start F + quotient_up (rest_work P F k) (capacity P k)))

-- what completes a front ends at its lower bound or later
abbrev pub LowerLaw : Type 0
LowerLaw = (P : Project) (F : List Entry) (s : List Placing) (b : ℕ) → IsAcyclic P → IsFront P F → Completes P F s → IsLowerBound P F b → b ≤ end_of P (entries s)

-- where a front has a budget gap, nothing completes it
abbrev pub GapLaw : Type 0
GapLaw = (P : Project) (F : List Entry) (s : List Placing) (l : ℕ) → IsFront P F → HasGap P F l → Completes P F s → ⊥

-- The bounds of a front are known by it.

-- a number that has the property, and no other one
pub record OneNumber (Q : ℕ → Type 0) : Type 0 where
  pub number : ℕ
  pub has : Q number
  pub only : (n : ℕ) → Q n → n ≡ number

-- a front has one tail bound, one work bound of each resource that has a capacity, and one lower bound
abbrev pub OneTailBoundLaw : Type 0
OneTailBoundLaw = (P : Project) (F : List Entry) → IsAcyclic P → IsFront P F → OneNumber (IsTailBound P F)

abbrev pub OneWorkBoundLaw : Type 0
OneWorkBoundLaw = (P : Project) (F : List Entry) (k : ℕ) → IsRenewable P k → 0 < capacity P k → OneNumber (IsWorkBound P F k)

abbrev pub OneLowerBoundLaw : Type 0
OneLowerBoundLaw = (P : Project) (F : List Entry) → IsAcyclic P → IsFront P F → OneNumber (IsLowerBound P F)

-- Dominance.

-- a schedule that completes A and ends no later than s
pub record Replaces (P : Project) (A : List Entry) (s : List Placing) : Type 0 where
  pub better : List Placing
  pub completes : Completes P A better
  pub no_later : end_of P (entries better) ≤ end_of P (entries s)

-- where A dominates B, each schedule that completes B can be replaced by one that completes A
abbrev pub DominanceLaw : Type 0
DominanceLaw = (P : Project) (A B : List Entry) (s : List Placing) → IsAcyclic P → IsFront P A → IsFront P B → Dominates P A B → Completes P B s → Replaces P A s

-- Plans.

-- what places all jobs in turn, after their predecessors, within the capacities and the budgets, is a feasible schedule
abbrev pub PlanLaw : Type 0
PlanLaw =
    (P : Project) (placed : List Entry) → IsAcyclic P → InTurn (IsPlacedInTurn P) [] placed → IsLeaf P placed → KeepsBudgets P placed →
    (own : OwnSchedule P placed) × IsFeasible P own.schedule

-- where each job has an executable mode, the serial scheme places all jobs, by either rule
abbrev pub SerialPlanLaw : Type 0
SerialPlanLaw =
    (P : Project) → IsAcyclic P → ((j : ℕ) → IsJob P j → (m : ℕ) × IsMode P j m × IsExecutable P j m) →
    ((a : List Entry) × IsSerialPlan P IsShortestMode a) × ((b : List Entry) × IsSerialPlan P IsCheapestMode b)

-- it places them in one way only
abbrev pub OnePlanLaw : Type 0
OnePlanLaw =
    (P : Project) (a b : List Entry) → IsAcyclic P →
    (IsSerialPlan P IsShortestMode a → IsSerialPlan P IsShortestMode b → a ≡ b) × (IsSerialPlan P IsCheapestMode a → IsSerialPlan P IsCheapestMode b → a ≡ b)

-- there is one first plan, or none
abbrev pub OneFirstPlanLaw : Type 0
OneFirstPlanLaw = (P : Project) (a b : Option (List Placing)) → IsAcyclic P → IsFirstPlan P a → IsFirstPlan P b → a ≡ b

-- the first plan is feasible
abbrev pub FirstPlanLaw : Type 0
FirstPlanLaw = (P : Project) (s : List Placing) → IsAcyclic P → IsFirstPlan P (Some s) → IsFeasible P s

-- where a job has no executable mode, no schedule is feasible
abbrev pub NoModeLaw : Type 0
NoModeLaw = (P : Project) (j : ℕ) → IsJob P j → ((m : ℕ) → IsMode P j m → IsExecutable P j m → ⊥) → NoneIsFeasible P
