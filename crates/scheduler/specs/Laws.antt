-- What two runs have to do with each other.
use Rattle.std.specs.Prelude.{◌≡◌, ℕ, true, List, ◌++◌, Option, Some}
use Rattle.sched_base.specs.Outside.{text_under}
use Rattle.scheduler.specs.declared.status.Status.{Status}
use Rattle.scheduler.specs.declared.status.Status.TheVariants.{Done, Limit}
use Rattle.plan_words.specs.Words.{IsSolve, IsCheck, IsTrial, project_name, report_name, seed_in, jobs_in, modes_in, prints_log}
use Rattle.scheduler.specs.Status.{IsSolved}
use Rattle.scheduler.specs.Answer.{Runs}

-- A report that `solve` printed with its log is accepted by `check`: where the bytes that the one run wrote stand under the
-- report's name, and the same project under the project's, a run of the other that tells an answer ends with status 0
abbrev pub OwnReportLaw : Type 0
OwnReportLaw = (words checks : List (List ℕ)) (texts later : List (List ℕ × List ℕ)) (solved checked : Status) (held bytes : List ℕ) (before now : Option (List ℕ)) →
    IsSolve words → prints_log words ≡ true → IsSolved solved → Runs words (Some texts) solved (Some held) (Some (held ++ bytes)) →
    IsCheck checks → text_under later (project_name checks) ≡ text_under texts (project_name words) → text_under later (report_name checks) ≡ bytes →
    Runs checks (Some later) checked before now → checked ≡ Done

-- Two trials of one project, by however many workers and up to however many expansions each, write the same bytes wherever neither
-- ends at its limit
abbrev pub SameTrialLaw : Type 0
SameTrialLaw = (words others : List (List ℕ)) (texts later : Option (List (List ℕ × List ℕ))) (one other : Status) (held kept bytes written : List ℕ) →
    IsTrial words → IsTrial others → seed_in words ≡ seed_in others → jobs_in words ≡ jobs_in others → modes_in words ≡ modes_in others →
    Runs words texts one (Some held) (Some (held ++ bytes)) → Runs others later other (Some kept) (Some (kept ++ written)) →
    (one ≡ Limit → ⊥) → (other ≡ Limit → ⊥) → bytes ≡ written
