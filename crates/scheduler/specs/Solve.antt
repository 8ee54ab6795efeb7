-- What `solve` reports of a project, whoever searched and in whatever order the workers came.
use Rattle.std.specs.Prelude.{◌≡◌, ℕ, ◌<◌, ◌≤◌, Bool, true, false, Option, Some, None, IfSome, List, [], ◌∷◌, length, All, Contains}
use Rattle.rcpsp_model.specs.declared.parts.Entry.{Entry}
use Rattle.rcpsp_model.specs.declared.parts.Placing.{Placing}
use Rattle.rcpsp_model.specs.declared.parts.Verdict.{Verdict}
use Rattle.rcpsp_model.specs.Project.{Project}
use Rattle.rcpsp_model.specs.Schedule.{end_of, entries}
use Rattle.rcpsp_model.specs.Tree.{IsFront}
use Rattle.rcpsp_model.specs.Dominance.{Dominates}
use Rattle.rcpsp_model.specs.Plan.{IsFirstPlan}
use Rattle.rcpsp_model.specs.Claim.{Claim}
use Rattle.proof_log.specs.declared.report.LogLine.{LogLine}
use Rattle.proof_log.specs.declared.report.Report.{Report}
use Rattle.proof_log.specs.Report.{duration_of}
use Rattle.proof_log.specs.Text.{text}
use Rattle.log_truth.specs.Log.{is_expanded, LogNode, front_of, nodes}
use Rattle.log_truth.specs.Holds.{IsLimit, IsLeftNumber, expanded_in, numbered, Holds, Accepts}
use Rattle.search_log.specs.declared.row.Origin.{Origin}
use Rattle.search_log.specs.Lean.{IsLeanLog}
use Rattle.search_rounds.specs.declared.found.Found.{Found}
use Rattle.search_rounds.specs.declared.found.Ended.{Ended}
use Rattle.search_rounds.specs.Found.{IsEnded, end_of_plan, IsFound}
use Rattle.scheduler.specs.Planning.{IsStart}

-- exactly so many lines are expanded, and one was left, with a bound below the duration, if there is one
pub record EndsAtLimit (nodes : ℕ) (verdict : Verdict) (lines : List LogLine) : Type 0 where
  pub expanded : expanded_in lines ≡ nodes
  pub bound : ℕ
  pub left : IsLeftNumber lines bound
  pub below : IfSome (duration_of verdict) (λ d. bound < d)

-- No expansion was wasted: each line has its round, its worker and its turn, and what was expanded was needed by what was known
-- then, where the search began with the first plan, or with the plan from so many tries
pub record IsLeanFromStart (P : Project) (workers tries : ℕ) (verdict : Verdict) (lines : List LogLine) : Type 0 where
  pub plan : Option (List Placing)
  pub start : IsStart P tries plan
  pub starts : List ℕ
  pub origins : List Origin
  pub lean : IsLeanLog P workers (end_of_plan P plan) starts (duration_of verdict) lines origins

-- the end of a search that began so, of so many workers that may expand so many nodes
pub record IsEndedFromStart (P : Project) (workers nodes tries : ℕ) (e : Ended) : Type 0 where
  pub plan : Option (List Placing)
  pub start : IsStart P tries plan
  pub ended : IsEnded P workers nodes (end_of_plan P plan) e

-- what so many workers found that may expand so many nodes, in a search that began so
pub record IsFoundFromStart (P : Project) (workers nodes tries : ℕ) (f : Found) : Type 0 where
  pub plan : Option (List Placing)
  pub start : IsStart P tries plan
  pub found : IsFound P workers (end_of_plan P plan) nodes f

-- the report, with its log, of such a search
pub record IsSolution (P : Project) (workers nodes tries : ℕ) (report : Report) : Type 0 where
  pub holds : Holds P report
  pub claim : Claim P report.verdict report.best
  pub accepted : Accepts P (text report)
  pub lines : List LogLine
  pub log : report.log ≡ Some lines
  pub limit : IsLimit report.verdict → EndsAtLimit nodes report.verdict lines
  pub lean : IsLeanFromStart P workers tries report.verdict lines

-- ---- what follows from a lean log

-- there is a duration, and it is at most this
abbrev pub IsDoneBy : Option ℕ → ℕ → Type 0
IsDoneBy None end = ⊥
IsDoneBy (Some d) end = d ≤ end

-- where there is a first plan, the schedule ends no later
abbrev pub IsNoLaterThanFirst : Project → Verdict → Type 0
IsNoLaterThanFirst P verdict = (plan : List Placing) → IsFirstPlan P (Some plan) → IsDoneBy (duration_of verdict) (end_of P (entries plan))

-- two lines are expanded, and the front of each dominates that of the other
pub record DominateEachOther (P : Project) (lines : List LogLine) (i k : ℕ) : Type 0 where
  pub one : LogNode
  pub other : LogNode
  pub one_is : numbered (nodes P lines) i ≡ Some one
  pub other_is : numbered (nodes P lines) k ≡ Some other
  pub expanded : is_expanded one.line ≡ true
  pub other_expanded : is_expanded other.line ≡ true
  pub front : List Entry
  pub other_front : List Entry
  pub front_is : front_of one ≡ Some front
  pub other_front_is : front_of other ≡ Some other_front
  pub dominates : Dominates P front other_front
  pub dominated : Dominates P other_front front

-- no two expanded lines do so
abbrev pub ExpandsNoTwins : Project → Report → Type 0
ExpandsNoTwins P report = (lines : List LogLine) → report.log ≡ Some lines → (i k : ℕ) → DominateEachOther P lines i k → i ≡ k

-- ---- the number of fronts

-- no front stands in the list twice
abbrev pub AreDifferent : List (List Entry) → Type 0
AreDifferent [] = Unit {0}
AreDifferent (F ∷ Fs) = (Contains Fs F → ⊥) × AreDifferent Fs

-- the project has at most n fronts
abbrev pub HasAtMostFronts : Project → ℕ → Type 0
HasAtMostFronts P n = (Fs : List (List Entry)) → All (IsFront P) Fs → AreDifferent Fs → length Fs ≤ n

-- ---- what is told

-- the report, with its log or without
abbrev pub with_log : Bool → Report → Report
with_log true report = report
with_log false report = record report { log = None }

-- The report of such a search, as it is told: with its log or without. It ends no later than the first plan; one worker expands
-- no two nodes of which each dominates the other; and where as many expansions are allowed as there are fronts, they suffice
pub record IsSearched (P : Project) (workers nodes tries : ℕ) (log : Bool) (told : Report) : Type 0 where
  pub whole : Report
  pub is_told : told ≡ with_log log whole
  pub solution : IsSolution P workers nodes tries whole
  pub no_later : IsNoLaterThanFirst P whole.verdict
  pub no_twins : workers ≡ 1 → ExpandsNoTwins P whole
  pub ends : HasAtMostFronts P nodes → IsLimit whole.verdict → ⊥

-- the verdict of the report of such a search, which began with the first plan
pub record IsSearchedTo (P : Project) (workers nodes : ℕ) (verdict : Verdict) : Type 0 where
  pub report : Report
  pub searched : IsSearched P workers nodes 0 false report
  pub verdict_is : verdict ≡ report.verdict
