-- What a search promises of what it found.
use Rattle.std.specs.Prelude.{◌≡◌, ℕ, ◌<◌, ◌≤◌, ◌⊎◌, Option, Some, None, IfSome, List, [], length, Contains}
use Rattle.rcpsp_model.specs.declared.parts.Placing.{Placing}
use Rattle.rcpsp_model.specs.Project.{Project}
use Rattle.rcpsp_model.specs.Schedule.{end_of, entries}
use Rattle.rcpsp_model.specs.Bounds.{IsBudgetGap}
use Rattle.rcpsp_model.specs.Claim.{HasDuration}
use Rattle.rcpsp_model.specs.Plan.{IsFirstPlan}
use Rattle.proof_log.specs.declared.report.Report.{Report}
use Rattle.proof_log.specs.Report.{duration_of}
use Rattle.log_truth.specs.Holds.{IsLimit, IsLeftNumber, expanded_in, Holds}
use Rattle.search_log.specs.declared.row.Origin.{Origin}
use Rattle.search_log.specs.Stands.{TreeNode, closing, Stands, RowsCite, expanded_rows}
use Rattle.search_log.specs.Told.{origin_at, IsLeftAt}
use Rattle.search_log.specs.Lean.{seen_rows, IsLean, IsLeanLog}
use Rattle.search_rounds.specs.declared.found.Found.{Found}
use Rattle.search_rounds.specs.declared.found.Ended.{Ended}

-- the root has a budget gap
abbrev pub RootHasGap : Project → Type 0
RootHasGap P = (l : ℕ) × IsBudgetGap P [] l

-- A table in which no node waits. A row was left only where so many nodes as are allowed were expanded, and so it is where
-- a row was closed after the last round, unless the root has a gap. All that a search promises follows from this: `IsFound`, of
-- what is told with its log, and `IsUntold`, of the report without
pub record IsEnded (P : Project) (workers nodes : ℕ) (first : Option ℕ) (e : Ended) : Type 0 where
  pub tree : List TreeNode
  pub stands : Stands P (closing e.best.end) e.table.rows tree [] []
  pub origins : length e.table.origins ≡ length e.table.rows
  pub cites : RowsCite P e.table.rows tree
  pub few : expanded_rows e.table.rows ≤ nodes
  pub left : (b : ℕ) → IsLeftAt e.table.rows b → expanded_rows e.table.rows ≡ nodes
  pub late : (p : ℕ) → p < length e.table.rows → length e.starts < (origin_at e.table.origins p).round → (expanded_rows e.table.rows ≡ nodes) ⊎ RootHasGap P
  pub lean : IsLean P workers first e.starts e.best.end (seen_rows e.table.rows tree e.table.origins)
  pub best : HasDuration P e.best.end e.best.plan
  pub soon : IfSome e.best.end (λ end. end ≤ 1290000)
  pub narrow : (b : ℕ) → IsLeftAt e.table.rows b → b ≤ 999999999

-- the end of a plan, if there is one
abbrev pub end_of_plan : Project → Option (List Placing) → Option ℕ
end_of_plan P (Some s) = Some (end_of P (entries s))
end_of_plan P None = None

abbrev pub report_of : Found → Report
report_of f = record { verdict = f.verdict; best = f.best; log = Some f.log }

-- The report holds, and the log is lean. A duration is at most 1,290,000, and the numbers of what was left have at most nine
-- digits. At most so many nodes as are allowed were expanded, and exactly so many where the
-- verdict is limit, or where a line was closed after the last round, unless the root has a gap
pub record IsFound (P : Project) (workers : ℕ) (first : Option ℕ) (nodes : ℕ) (f : Found) : Type 0 where
  pub holds : Holds P (report_of f)
  pub lean : IsLeanLog P workers first f.starts (duration_of f.verdict) f.log f.origins
  pub soon : IfSome (duration_of f.verdict) (λ d. d ≤ 1290000)
  pub narrow : (b : ℕ) → IsLeftNumber f.log b → b ≤ 999999999
  pub few : expanded_in f.log ≤ nodes
  pub limit : IsLimit f.verdict → expanded_in f.log ≡ nodes
  pub late : (origin : Origin) → Contains f.origins origin → length f.starts < origin.round → (expanded_in f.log ≡ nodes) ⊎ RootHasGap P

-- whichever search ended so, where at most 100,000 nodes are allowed, this is what it found
abbrev pub IsFoundBy : Ended → Found → Type 0
IsFoundBy e f = (P : Project) (workers nodes : ℕ) (first : Option ℕ) → nodes ≤ 100000 → IsEnded P workers nodes first e → IsFound P workers first nodes f

-- the report of what such a search found, without its log: there is a log that could be told
pub record IsUntold (P : Project) (workers : ℕ) (first : Option ℕ) (nodes : ℕ) (report : Report) : Type 0 where
  pub found : Found
  pub is_found : IsFound P workers first nodes found
  pub untold : report ≡ record { verdict = found.verdict; best = found.best; log = None }

-- some search ended so
abbrev pub HasEnded : Ended → Type 0
HasEnded e = (P : Project) × (workers : ℕ) × (nodes : ℕ) × (first : Option ℕ) × IsEnded P workers nodes first e

-- a search ended so that began with the first plan
pub record IsEndedFromFirst (P : Project) (workers nodes : ℕ) (e : Ended) : Type 0 where
  pub plan : Option (List Placing)
  pub first : IsFirstPlan P plan
  pub ended : IsEnded P workers nodes (end_of_plan P plan) e
