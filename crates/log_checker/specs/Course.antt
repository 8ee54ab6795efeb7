-- What is kept of the whole lines of a report, and what the lines have said.
use Rattle.std.specs.Prelude.{◌≡◌, ◌≤◌, Option, Some, None, Ok, Err, List, [], All}
use Rattle.rcpsp_model.specs.declared.parts.Verdict.{Verdict}
use Rattle.rcpsp_model.specs.Project.{Project}
use Rattle.proof_log.specs.declared.report.LogLine.{LogLine}
use Rattle.log_checker.specs.declared.course.Course.{Course}
use Rattle.log_checker.specs.declared.reason.Reason.{Reason}
use Rattle.log_checker.specs.declared.stage.Stage.{Stage}
use Rattle.log_checker.specs.declared.stage.Stage.TheVariants as stages
use Rattle.log_checker.specs.declared.walk.Walk.{Walk}
use Rattle.log_checker.specs.Progress.{Progress, Outcome}
use Rattle.log_checker.specs.Walk.{wanted_of, IsSound, Stands}

-- whatever the lines: what is kept is of the project
pub record IsReady (P : Project) (c : Course) : Type 0 where
  pub walk : IsSound P c.walk
  pub starts : All (λ place. place.start ≤ 999999999) c.places

-- of the log: before it nothing is kept; in it the lines so far; and behind it nothing is wanted
abbrev pub HoldsLog : Project → Stage → Walk → List LogLine → Type 0
HoldsLog P (stages.Line verdict) walk lines = Stands P verdict walk lines
HoldsLog P (stages.Ended verdict) walk lines = Stands P verdict walk lines × (wanted_of P walk ≡ [])
HoldsLog P stages.Title walk lines = (lines ≡ []) × ((verdict : Verdict) → Stands P verdict walk [])
HoldsLog P stages.Kind walk lines = (lines ≡ []) × ((verdict : Verdict) → Stands P verdict walk [])
HoldsLog P (stages.Duration kind) walk lines = (lines ≡ []) × ((verdict : Verdict) → Stands P verdict walk [])
HoldsLog P (stages.Lower kind duration) walk lines = (lines ≡ []) × ((verdict : Verdict) → Stands P verdict walk [])
HoldsLog P (stages.Job v) walk lines = (lines ≡ []) × ((verdict : Verdict) → Stands P verdict walk [])
HoldsLog P (stages.Flag v) walk lines = (lines ≡ []) × ((verdict : Verdict) → Stands P verdict walk [])

-- what is kept stands for the progress
pub record Holds (P : Project) (c : Course) (p : Progress) : Type 0 where
  pub stage : c.stage ≡ p.stage
  pub places : c.places ≡ p.places
  pub log : HoldsLog P p.stage c.walk p.lines

-- a step breaks a rule, which is the reason; or it leads on, and what is kept then stands for what it leads to
abbrev pub Comes : Project → (Outcome → Type 0) → Option Reason → Course → Type 0
Comes P Step (Some reason) c = Step (Err reason)
Comes P Step None c = (next : Progress) × Step (Ok next) × Holds P c next
