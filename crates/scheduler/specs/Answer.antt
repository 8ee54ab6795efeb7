-- What a run has to tell: the answer to its words, with its text and its status.
use Rattle.std.specs.Prelude.{◌≡◌, ◌⊎◌, ◌↔◌, ◌≤◌, ℕ, List, [], ◌∷◌, ◌++◌, length, codes, decimal, Option, Some, None, IsSome, IfSome, Result, Ok, Err}
use Rattle.sched_base.specs.Outside.{text_under, Gains}
use Rattle.rcpsp_model.specs.declared.parts.Placing.{Placing}
use Rattle.rcpsp_model.specs.declared.parts.Verdict.{Verdict}
use Rattle.rcpsp_model.specs.declared.parts.Verdict.TheVariants.{Optimal, Infeasible, Limit}
use Rattle.rcpsp_model.specs.Project.{Project}
use Rattle.rcpsp_model.specs.Plan.{IsFirstPlan}
use Rattle.rcpsp_model.specs.Claim.{Claim, NoneEndsBefore}
use Rattle.project_net.specs.Canonical.{canonical}
use Rattle.project_gen.specs.Made.{made}
use Rattle.psplib_layout.specs.declared.fault.Fault.{Fault}
use Rattle.psplib_layout.specs.declared.fault.Fault.TheVariants as faults
use Rattle.psplib_layout.specs.Text.{Reads, IsProjectText, IsFirstRefusal}
use Rattle.proof_log.specs.declared.report.Report.{Report}
use Rattle.proof_log.specs.Report.{IsReport}
use Rattle.proof_log.specs.declared.line.ReportLine.TheVariants.{Duration}
use Rattle.proof_log.specs.Text.{text, text_of_lines, job_lines}
use Rattle.scheduler.specs.declared.answer.Answer.{Answer}
use Rattle.scheduler.specs.declared.answer.Answer.TheVariants as answers
use Rattle.log_checker.specs.declared.reason.Reason.{Reason}
use Rattle.log_checker.specs.Reasons.{number_of}
use Rattle.log_checker.specs.Refusal.{IsRefusal}
use Rattle.scheduler.specs.declared.answer.Judgement.{Judgement}
use Rattle.scheduler.specs.declared.answer.Trial.{Trial}
use Rattle.scheduler.specs.declared.answer.Judgement.TheVariants as judgements
use Rattle.scheduler.specs.declared.answer.Outcome.{Outcome}
use Rattle.scheduler.specs.declared.answer.Outcome.TheVariants as outcomes
use Rattle.scheduler.specs.declared.planning.Plan.{Plan}
use Rattle.scheduler.specs.declared.status.Status.{Status}
use Rattle.scheduler.specs.declared.status.Status.TheVariants as statuses
use Rattle.log_truth.specs.Holds.{Accepts}
use Rattle.scheduler.specs.Planning.{IsPlanFrom, with_end, IsPlanned}
use Rattle.scheduler.specs.Feeding.{IsTextUnder}
use Rattle.scheduler.specs.Bounding.{IsBoundText}
use Rattle.scheduler.specs.Verifying.{IsBoundJudgementOf}
use Rattle.bound_checker.specs.declared.checker.BoundRefusal.{BoundRefusal}
use Rattle.bound_checker.specs.Judged.{AcceptsBound, IsBoundRefusal}
use Rattle.scheduler.specs.Judging.{IsJudgementOf}
use Rattle.scheduler.specs.Status.{IsSolved}
use Rattle.scheduler.specs.Solve.{with_log, IsSearched, IsSearchedTo, IsSolution, IsNoLaterThanFirst, ExpandsNoTwins, HasAtMostFronts}
use Rattle.plan_words.specs.Words.{bad_word, IsSolve, IsCheck, IsShow, IsPlan, IsBound, IsVerify, IsMake, IsTrial, IsMade, IsOnProject, project_name, report_name, bound_name, seed_in, jobs_in, modes_in, workers_in, nodes_in, tries_in, trial_workers_in, trial_nodes_in, prints_log}

-- the number of a fault of a project text
abbrev pub code_of : Fault → ℕ
code_of faults.TextTooLong = 1
code_of faults.MissingPart = 2
code_of faults.NotANumber = 3
code_of faults.OutOfLimit = 4
code_of faults.NotOneProject = 5
code_of faults.DoublyConstrained = 6
code_of faults.WrongJobNumber = 7
code_of faults.WrongModeNumber = 8
code_of faults.NoModes = 9
code_of faults.SuccessorOutOfRange = 10
code_of faults.Cycle = 11
code_of faults.TextEnds = 12
code_of faults.WordsLeft = 13
code_of faults.CalendarOrder = 15

-- the status of a verdict
abbrev pub status_of_verdict : Verdict → Status
status_of_verdict (Optimal duration) = statuses.Done
status_of_verdict Infeasible = statuses.Infeasible
status_of_verdict (Limit duration lower) = statuses.Limit

-- the status of a plan, or of none
abbrev pub status_of_plan : Option Plan → Status
status_of_plan (Some plan) = statuses.Done
status_of_plan None = statuses.Limit

-- the status of what a project text comes to
abbrev pub status_of_outcome : Outcome → Status
status_of_outcome (outcomes.Solved report) = status_of_verdict report.verdict
status_of_outcome (outcomes.Planned plan) = status_of_plan plan
status_of_outcome (outcomes.Shown printed) = statuses.Done
status_of_outcome (outcomes.Bounded printed) = statuses.Done
status_of_outcome (outcomes.BadProject refusal) = statuses.BadProject

-- the status of what a report comes to
abbrev pub status_of_judgement : Judgement → Status
status_of_judgement (judgements.Accepted verdict) = statuses.Done
status_of_judgement (judgements.Refused line reason) = statuses.ReportRefused

-- the status of what the text of a bound comes to
abbrev pub status_of_bound_judgement : Result ℕ BoundRefusal → Status
status_of_bound_judgement (Ok bound) = statuses.Done
status_of_bound_judgement (Err refused) = statuses.ReportRefused

-- the status of an answer
abbrev pub status_of : Answer → Status
status_of (answers.Read outcome) = status_of_outcome outcome
status_of (answers.Judged judgement) = status_of_judgement judgement
status_of (answers.Verified judgement) = status_of_bound_judgement judgement
status_of (answers.Made printed) = statuses.Done
status_of (answers.Tried trial) = status_of_verdict trial.verdict
status_of (answers.BadWords bad) = statuses.BadWords

-- a line of these bytes
abbrev pub line : List ℕ → List ℕ
line bytes = bytes ++ 0x0A ∷ []

-- what is written for a plan: its duration and its jobs, each on a line as in a report; and for none
abbrev pub text_of_plan : Option Plan → List ℕ
text_of_plan (Some plan) = text_of_lines (Duration (Some plan.duration) ∷ job_lines plan.places)
text_of_plan None = text_of_lines (Duration None ∷ [])

-- what is written for what a project text comes to
abbrev pub text_of_outcome : Outcome → List ℕ
text_of_outcome (outcomes.Solved report) = text report
text_of_outcome (outcomes.Planned plan) = text_of_plan plan
text_of_outcome (outcomes.Shown printed) = printed.items
text_of_outcome (outcomes.Bounded printed) = printed.items
text_of_outcome (outcomes.BadProject refusal) = codes "bad project: code " ++ (decimal (code_of refusal.fault) ++ (codes " line " ++ line (decimal refusal.line)))

-- a verdict with the duration of an optimal schedule, or with the lower bound
abbrev pub verdict_words : Verdict → List ℕ
verdict_words (Optimal duration) = codes "optimal " ++ line (decimal duration)
verdict_words Infeasible = codes "infeasible" ++ 0x0A ∷ []
verdict_words (Limit duration lower) = codes "limit " ++ line (decimal lower)

-- what is written for a report that was judged
abbrev pub text_of_judgement : Judgement → List ℕ
text_of_judgement (judgements.Accepted verdict) = codes "accepted " ++ verdict_words verdict
text_of_judgement (judgements.Refused number reason) = codes "report refused: line " ++ (decimal number ++ (codes " reason " ++ line (decimal reason)))

-- what is written for the text of a bound that was judged
abbrev pub text_of_bound_judgement : Result ℕ BoundRefusal → List ℕ
text_of_bound_judgement (Ok bound) = codes "accepted bound " ++ line (decimal bound)
text_of_bound_judgement (Err refused) = codes "bound refused: line " ++ line (decimal refused.line)

-- the number of jobs and of modes
abbrev pub size_lines : ℕ → ℕ → List ℕ
size_lines jobs modes = codes "jobs " ++ (decimal jobs ++ 0x0A ∷ (codes "modes " ++ line (decimal modes)))

-- the verdict, the duration and the lower bound, as in a report
abbrev pub verdict_lines : Verdict → List ℕ
verdict_lines (Optimal duration) = codes "verdict optimal" ++ 0x0A ∷ (codes "duration " ++ (decimal duration ++ 0x0A ∷ (codes "lower " ++ line (decimal duration))))
verdict_lines Infeasible = codes "verdict infeasible" ++ 0x0A ∷ (codes "duration -" ++ 0x0A ∷ line (codes "lower -"))
verdict_lines (Limit None lower) = codes "verdict limit" ++ 0x0A ∷ (codes "duration -" ++ 0x0A ∷ (codes "lower " ++ line (decimal lower)))
verdict_lines (Limit (Some duration) lower) = codes "verdict limit" ++ 0x0A ∷ (codes "duration " ++ (decimal duration ++ 0x0A ∷ (codes "lower " ++ line (decimal lower))))

-- what is written for a made project that was solved
abbrev pub text_of_trial : Trial → List ℕ
text_of_trial trial = size_lines trial.jobs trial.modes ++ verdict_lines trial.verdict

-- a report among the answers has a text, and a plan at most 128 jobs
abbrev pub IsTellable : Answer → Type 0
IsTellable (answers.Read (outcomes.Solved report)) = IsReport report
IsTellable (answers.Read (outcomes.Planned plan)) = IfSome plan (λ p. length p.places ≤ 128)
IsTellable (answers.Read (outcomes.Shown printed)) = Unit {0}
IsTellable (answers.Read (outcomes.Bounded printed)) = Unit {0}
IsTellable (answers.Read (outcomes.BadProject refusal)) = Unit {0}
IsTellable (answers.Judged judgement) = Unit {0}
IsTellable (answers.Verified judgement) = Unit {0}
IsTellable (answers.Made printed) = Unit {0}
IsTellable (answers.Tried trial) = Unit {0}
IsTellable (answers.BadWords bad) = Unit {0}

-- what is written for an answer
abbrev pub text_of : Answer → List ℕ
text_of (answers.Read outcome) = text_of_outcome outcome
text_of (answers.Judged judgement) = text_of_judgement judgement
text_of (answers.Verified judgement) = text_of_bound_judgement judgement
text_of (answers.Made printed) = printed.items
text_of (answers.Tried trial) = text_of_trial trial
text_of (answers.BadWords bad) = codes "bad words: word " ++ line (decimal bad.place)

-- the report of a search as the words ask for it
abbrev pub IsReportTo : List (List ℕ) → Project → Report → Type 0
IsReportTo words P told = IsSolve words × IsSearched P (workers_in words) (nodes_in words) (tries_in words) (prints_log words) told

-- the text is read as a project, and this is what the words ask for: a report on it, a plan of it, its canonical text, or the text
-- of its window bound; or this is the first refusal of the text
abbrev pub IsOutcomeOf : List (List ℕ) → List ℕ → Outcome → Type 0
IsOutcomeOf words bytes (outcomes.Solved report) = (P : Project) × Reads bytes P × IsReportTo words P report
IsOutcomeOf words bytes (outcomes.Planned plan) = (P : Project) × Reads bytes P × IsPlan words × IsPlanned P (tries_in words) plan
IsOutcomeOf words bytes (outcomes.Shown printed) = (P : Project) × Reads bytes P × IsShow words × (printed.items ≡ canonical P)
IsOutcomeOf words bytes (outcomes.Bounded printed) = (P : Project) × Reads bytes P × IsBound words × IsBoundText P printed.items
IsOutcomeOf words bytes (outcomes.BadProject refusal) = IsOnProject words × IsFirstRefusal bytes refusal

-- what the text under a name comes to; where the shelf doesn't tell its texts, what some text comes to
abbrev pub IsOutcomeUnder : List (List ℕ) → Option (List (List ℕ × List ℕ)) → List ℕ → Outcome → Type 0
IsOutcomeUnder words None name outcome = (bytes : List ℕ) × IsOutcomeOf words bytes outcome
IsOutcomeUnder words (Some texts) name outcome = IsOutcomeOf words (text_under texts name) outcome

-- the text under the project's name is this project; where the shelf doesn't tell its texts, some text is
abbrev pub IsNamed : List (List ℕ) → Option (List (List ℕ × List ℕ)) → Project → Type 0
IsNamed words None P = (bytes : List ℕ) × Reads bytes P
IsNamed words (Some texts) P = Reads (text_under texts (project_name words)) P

-- the words are `check`, and this is the judgement of the report under the one name as one on the project under the other
pub record IsJudgementTo (words : List (List ℕ)) (texts : Option (List (List ℕ × List ℕ))) (judgement : Judgement) : Type 0 where
  pub check : IsCheck words
  pub project : Project
  pub named : IsNamed words texts project
  pub judged : IsJudgementOf project texts (report_name words) judgement

-- the words are `verify`, and this is what the text under the one name comes to, as that of a bound of the project under the other
pub record IsVerifiedTo (words : List (List ℕ)) (texts : Option (List (List ℕ × List ℕ))) (judgement : Result ℕ BoundRefusal) : Type 0 where
  pub verify : IsVerify words
  pub project : Project
  pub named : IsNamed words texts project
  pub judged : IsBoundJudgementOf project texts (bound_name words) judgement

-- a project of so many jobs and modes that is made from the seed was searched, and this is the verdict of the report
pub record IsTrialOf (seed jobs modes workers nodes : ℕ) (trial : Trial) : Type 0 where
  pub jobs_is : trial.jobs ≡ jobs
  pub modes_is : trial.modes ≡ modes
  pub searched : IsSearchedTo (made seed jobs modes) workers nodes trial.verdict

-- the words are `trial`, and this is what the project that they speak of comes to
abbrev pub IsTrialTo : List (List ℕ) → Trial → Type 0
IsTrialTo words trial = IsTrial words × IsTrialOf (seed_in words) (jobs_in words) (modes_in words) (trial_workers_in words) (trial_nodes_in words) trial

-- the answer to the words: the place of the word that can't stand; or what the text under the project's name comes to; or the
-- judgement of a report or of a bound; or the canonical text of a made project, or what it comes to
abbrev pub IsAnswerTo : List (List ℕ) → Option (List (List ℕ × List ℕ)) → Answer → Type 0
IsAnswerTo words texts (answers.BadWords bad) = bad_word words ≡ Some bad.place
IsAnswerTo words texts (answers.Read outcome) = IsOutcomeUnder words texts (project_name words) outcome
IsAnswerTo words texts (answers.Judged judgement) = IsJudgementTo words texts judgement
IsAnswerTo words texts (answers.Verified judgement) = IsVerifiedTo words texts judgement
IsAnswerTo words texts (answers.Tried trial) = IsTrialTo words trial
IsAnswerTo words texts (answers.Made printed) = IsMake words × (printed.items ≡ canonical (made (seed_in words) (jobs_in words) (modes_in words)))

-- this answer to the words was told, whole, with its status
pub record Runs (words : List (List ℕ)) (texts : Option (List (List ℕ × List ℕ))) (status : Status) (before now : Option (List ℕ)) : Type 0 where
  pub answer : Answer
  pub is_answer : IsAnswerTo words texts answer
  pub status_is : status ≡ status_of answer
  pub gains : Gains before now (text_of answer)

-- ---- what the words ask for

-- the words speak of a project, and the text under its name is one
abbrev pub NamesProject : List (List ℕ) → List (List ℕ × List ℕ) → Type 0
NamesProject words texts = IsOnProject words × IsProjectText (text_under texts (project_name words))

-- the words speak of a project, and the text under its name is none
abbrev pub NamesNoProject : List (List ℕ) → List (List ℕ × List ℕ) → Type 0
NamesNoProject words texts = IsOnProject words × (IsProjectText (text_under texts (project_name words)) → ⊥)

-- the words name a project, or one is made
abbrev pub HasProject : List (List ℕ) → List (List ℕ × List ℕ) → Type 0
HasProject words texts = NamesProject words texts ⊎ IsMade words

-- ---- what `solve` tells

-- a report on the project under the name was told, with its log or without, and with the status of its verdict; and this is
-- so of the project and of the report with its log
pub record Tells (words : List (List ℕ)) (texts : Option (List (List ℕ × List ℕ))) (status : Status) (before now : Option (List ℕ)) (Q : Project → Report → Type 0) : Type 0 where
  pub project : Project
  pub named : IsNamed words texts project
  pub report : Report
  pub status_is : status ≡ status_of_verdict report.verdict
  pub gains : Gains before now (text (with_log (prints_log words) report))
  pub is_so : Q project report

-- where `solve` ended with a verdict
abbrev pub WhereSolved : List (List ℕ) → Option (List (List ℕ × List ℕ)) → Status → Option (List ℕ) → Option (List ℕ) → (Project → Report → Type 0) → Type 0
WhereSolved words texts status before now Q = IsSolve words → IsSolved status → Tells words texts status before now Q

-- the bytes that were told are accepted as a report on the project under the name
pub record TellsAccepted (words : List (List ℕ)) (texts : Option (List (List ℕ × List ℕ))) (before now : Option (List ℕ)) : Type 0 where
  pub project : Project
  pub named : IsNamed words texts project
  pub bytes : List ℕ
  pub gains : Gains before now bytes
  pub accepted : Accepts project bytes

-- ---- what `check` tells

-- the first line that breaks a rule, with the reason, is told
pub record TellsRefusal (P : Project) (report : List ℕ) (before now : Option (List ℕ)) : Type 0 where
  pub number : ℕ
  pub reason : Reason
  pub first : IsRefusal P report number reason
  pub gains : Gains before now (text_of_judgement (judgements.Refused number (number_of reason)))

-- the report under the one name was judged as one on the project under the other: the status is 0 exactly where it is accepted,
-- its verdict is told, and what it claims, with the schedule in it, is true; and 3 exactly where it isn't
pub record Judges (words : List (List ℕ)) (texts : Option (List (List ℕ × List ℕ))) (status : Status) (before now : Option (List ℕ)) : Type 0 where
  pub project : Project
  pub named : IsNamed words texts project
  pub report : List ℕ
  pub is_report : IsTextUnder texts (report_name words) report
  pub accepts : (status ≡ statuses.Done) ↔ Accepts project report
  pub refuses : (status ≡ statuses.ReportRefused) ↔ (Accepts project report → ⊥)
  pub claim : (accepted : Accepts project report) → Claim project accepted.report.verdict accepted.report.best
  pub tells : (accepted : Accepts project report) → Gains before now (text_of_judgement (judgements.Accepted accepted.report.verdict))
  pub tells_refusal : (Accepts project report → ⊥) → TellsRefusal project report before now

-- ---- what `plan` tells

-- the project has a first plan
abbrev pub HasFirstPlan : Project → Type 0
HasFirstPlan P = (plan : List Placing) × IsFirstPlan P (Some plan)

-- The plan of the project under the name, from as many tries as the words say, was told: its end as the duration, and where each
-- job stands. The status is 0 exactly where there is such a plan, and 2 exactly where there is none; without tries these are
-- exactly where there is a first plan, and where there is none
pub record TellsPlan (words : List (List ℕ)) (texts : Option (List (List ℕ × List ℕ))) (status : Status) (before now : Option (List ℕ)) : Type 0 where
  pub project : Project
  pub named : IsNamed words texts project
  pub plan : Option (List Placing)
  pub is_plan : IsPlanFrom project (tries_in words) plan
  pub gains : Gains before now (text_of_plan (with_end project plan))
  pub some : (status ≡ statuses.Done) ↔ IsSome plan
  pub none : (status ≡ statuses.Limit) ↔ (plan ≡ None)
  pub untried : tries_in words ≡ 0 → (status ≡ statuses.Done) ↔ HasFirstPlan project
  pub untried_none : tries_in words ≡ 0 → (status ≡ statuses.Limit) ↔ IsFirstPlan project None

-- ---- what `bound` tells

-- the text of the window bound of the project under the name was told, with status 0: it is accepted, and no feasible schedule ends
-- before the bound
pub record TellsBound (words : List (List ℕ)) (texts : Option (List (List ℕ × List ℕ))) (status : Status) (before now : Option (List ℕ)) : Type 0 where
  pub project : Project
  pub named : IsNamed words texts project
  pub printed : List ℕ
  pub text : IsBoundText project printed
  pub status_is : status ≡ statuses.Done
  pub gains : Gains before now printed

-- ---- what `verify` tells

-- the text under the one name is accepted as that of a bound of the project
abbrev pub IsAccepted : Project → List ℕ → Type 0
IsAccepted P text = (b : ℕ) × AcceptsBound P text b

-- the text under the one name was judged as that of a bound of the project under the other: the status is 0 exactly where it is
-- accepted, its bound is told, and no feasible schedule ends before it; and 3 exactly where it isn't, and the first line that may not
-- stand there is told
pub record Verifies (words : List (List ℕ)) (texts : Option (List (List ℕ × List ℕ))) (status : Status) (before now : Option (List ℕ)) : Type 0 where
  pub project : Project
  pub named : IsNamed words texts project
  pub text : List ℕ
  pub is_text : IsTextUnder texts (bound_name words) text
  pub accepts : (status ≡ statuses.Done) ↔ IsAccepted project text
  pub refuses : (status ≡ statuses.ReportRefused) ↔ (IsAccepted project text → ⊥)
  pub sound : (b : ℕ) → AcceptsBound project text b → NoneEndsBefore project b
  pub tells : (b : ℕ) → AcceptsBound project text b → Gains before now (text_of_bound_judgement (Ok b))
  pub tells_refusal : (IsAccepted project text → ⊥) → (refused : BoundRefusal) × IsBoundRefusal project text refused.line × Gains before now (text_of_bound_judgement (Err refused))

-- ---- what `trial` tells

-- of the made project, the verdict of a report was told, with its status: the report holds, and what it claims of all schedules is
-- true; at the limit as many nodes were expanded as the words allow, and one was left; and no expansion was wasted
pub record Tries (words : List (List ℕ)) (status : Status) (before now : Option (List ℕ)) : Type 0 where
  pub report : Report
  pub solution : IsSolution (made (seed_in words) (jobs_in words) (modes_in words)) (trial_workers_in words) (trial_nodes_in words) 0 report
  pub no_later : IsNoLaterThanFirst (made (seed_in words) (jobs_in words) (modes_in words)) report.verdict
  pub no_twins : trial_workers_in words ≡ 1 → ExpandsNoTwins (made (seed_in words) (jobs_in words) (modes_in words)) report
  pub ends : HasAtMostFronts (made (seed_in words) (jobs_in words) (modes_in words)) (trial_nodes_in words) → status ≡ statuses.Limit → ⊥
  pub status_is : status ≡ status_of_verdict report.verdict
  pub gains : Gains before now (size_lines (jobs_in words) (modes_in words) ++ verdict_lines report.verdict)
