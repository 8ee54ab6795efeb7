-- When a report holds: its log is the log of the project, each line says what its front allows, each line that is cited
-- serves, and the verdict is the one that the lines give.
use Rattle.std.specs.Prelude.{◌≡◌, ℕ, zero, suc, ◌<◌, ◌≤◌, Option, Some, None, IfSome, true, List, slice_get, All, Contains, count_by, map}
use Rattle.sched_base.specs.declared.fate.Fate.TheVariants.{Left}
use Rattle.rcpsp_model.specs.declared.parts.Entry.{Entry}
use Rattle.rcpsp_model.specs.declared.parts.Verdict.{Verdict}
use Rattle.rcpsp_model.specs.declared.parts.Verdict.TheVariants.{Limit}
use Rattle.rcpsp_model.specs.Project.{Project}
use Rattle.rcpsp_model.specs.Schedule.{end_of}
use Rattle.rcpsp_model.specs.Chain.{IsLeast}
use Rattle.rcpsp_model.specs.Tree.{IsLeaf}
use Rattle.rcpsp_model.specs.Bounds.{IsTailBound, IsWorkBound, IsLowerBound}
use Rattle.rcpsp_model.specs.Dominance.{Dominates}
use Rattle.rcpsp_model.specs.Claim.{HasDuration}
use Rattle.proof_log.specs.declared.report.LogLine.{LogLine}
use Rattle.proof_log.specs.declared.report.Report.{Report}
use Rattle.proof_log.specs.Report.{duration_of, IsReport}
use Rattle.proof_log.specs.Text.{text as text_of}
use Rattle.proof_log.specs.Laws.{HasBytes}
use Rattle.log_truth.specs.Fates.{Reason, late_leaf, late_tail, late_work, late_left, Saying, says_expanded, says_late, says_dominated, says_shut}
use Rattle.log_truth.specs.Log.{says, is_expanded, front_at, Branch, IsTreeLog, LogNode, front_of, nodes}

-- Fronts that end late.

-- for this reason all that completes F ends at n or later
abbrev pub IsLateBy : Project → List Entry → Reason → ℕ → Type 0
IsLateBy P F late_leaf n = IsLeaf P F × (end_of P F ≡ n)
IsLateBy P F late_tail n = IsTailBound P F n
IsLateBy P F (late_work k) n = IsWorkBound P F k n
-- the number of the line is the lower bound of its front, which isn't a leaf
IsLateBy P F (late_left b) n = (IsLeaf P F → ⊥) × IsLowerBound P F n × (b ≡ n)

abbrev pub IsLimit : Verdict → Type 0
IsLimit (Limit duration lower) = Unit {0}
IsLimit _ = ⊥

-- there is a duration, and n is no less
abbrev pub Reaches : Option ℕ → ℕ → Type 0
Reaches None n = ⊥
Reaches (Some d) n = d ≤ n

-- a front is left only at the limit, with a number below the duration; any other reason reaches the duration
abbrev pub Suffices : Verdict → Reason → ℕ → Type 0
Suffices verdict (late_left b) n = IsLimit verdict × IfSome (duration_of verdict) (λ d. n < d)
Suffices verdict _ n = Reaches (duration_of verdict) n

-- F ends late enough
pub record IsLate (P : Project) (verdict : Verdict) (F : List Entry) (reason : Reason) : Type 0 where
  pub number : ℕ
  pub late : IsLateBy P F reason number
  pub suffices : Suffices verdict reason number

-- what a front allows to be said of it, apart from what is cited
abbrev pub Allows : Project → Verdict → List Entry → Saying → Type 0
Allows P verdict F says_expanded = IsLeaf P F → ⊥
Allows P verdict F (says_late reason) = IsLate P verdict F reason
Allows P verdict F (says_dominated i) = Unit {0}
-- it has a front, so it isn't shut
Allows P verdict F (says_shut why) = ⊥

-- a line that has a front says what its front allows
abbrev pub IsAllowed : Project → Verdict → Branch → LogLine → Type 0
IsAllowed P verdict branch line = IfSome (front_at branch line) (λ F. Allows P verdict F (says line))

-- Citations.

-- the item with this number, from 1: of nodes, that of a line
abbrev pub numbered : {X : Type 0} → List X → ℕ → Option X
numbered xs zero = None
numbered xs (suc i) = slice_get xs i

-- line i, earlier or later, is expanded, and its front dominates F
pub record Cites (P : Project) (all : List LogNode) (i : ℕ) (F : List Entry) : Type 0 where
  pub cited : LogNode
  pub number : numbered all i ≡ Some cited
  pub expanded : is_expanded cited.line ≡ true
  pub front : List Entry
  pub is_its : front_of cited ≡ Some front
  pub dominates : Dominates P front F

abbrev pub CitesWell : Project → List LogNode → List Entry → Saying → Type 0
CitesWell P all F (says_dominated i) = Cites P all i F
CitesWell P all F _ = Unit {0}

-- what the line of a node cites, serves its front
abbrev pub IsServed : Project → List LogNode → LogNode → Type 0
IsServed P all node = IfSome (front_of node) (λ F. CitesWell P all F (says node.line))

abbrev pub AreServed : Project → List LogLine → Type 0
AreServed P lines = All (IsServed P (nodes P lines)) (nodes P lines)

-- The verdict.

-- one of the lines was left with the number b
abbrev pub IsLeftNumber : List LogLine → ℕ → Type 0
IsLeftNumber lines b = Contains (map (λ line. line.fate) lines) (Left b)

-- at the limit a line was left, and the lower bound is the least of their numbers
abbrev pub HasLower : Verdict → List LogLine → Type 0
HasLower (Limit duration lower) lines = IsLeast (IsLeftNumber lines) lower
HasLower _ lines = Unit {0}

-- how many lines may be expanded
abbrev pub most_expanded : ℕ
most_expanded = 100000

abbrev pub expanded_in : List LogLine → ℕ
expanded_in lines = count_by is_expanded lines

-- the log holds under the verdict
pub record LogHolds (P : Project) (verdict : Verdict) (lines : List LogLine) : Type 0 where
  pub log : IsTreeLog P lines
  pub allowed : All (λ node. IsAllowed P verdict node.branch node.line) (nodes P lines)
  pub served : AreServed P lines
  pub few : expanded_in lines ≤ most_expanded
  pub lower : HasLower verdict lines

-- the report has its log, which holds, and has a schedule exactly where it has a duration: one that is feasible and ends at it
pub record Holds (P : Project) (report : Report) : Type 0 where
  pub lines : List LogLine
  pub is_its : report.log ≡ Some lines
  pub log : LogHolds P report.verdict lines
  pub best : HasDuration P (duration_of report.verdict) report.best

-- the text is that of a report that holds
pub record Accepts (P : Project) (bytes : List ℕ) : Type 0 where
  pub report : Report
  pub form : IsReport report
  pub narrow : HasBytes report
  pub text : bytes ≡ text_of report
  pub holds : Holds P report
