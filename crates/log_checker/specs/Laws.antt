-- What the definitions of a report's refusal imply, for all projects and texts. Each is the contract of a function, and so is
-- proved.
use Rattle.std.specs.Prelude.{◌≡◌, ℕ, ◌⊎◌, ◌↔◌, Option, List, ◌++◌}
use Rattle.rcpsp_model.specs.declared.parts.Placing.{Placing}
use Rattle.rcpsp_model.specs.declared.parts.Verdict.{Verdict}
use Rattle.rcpsp_model.specs.Project.{Project, IsAcyclic, IsWithinLimits, IsProject}
use Rattle.rcpsp_model.specs.Claim.{Claim}
use Rattle.proof_log.specs.declared.report.Report.{Report}
use Rattle.proof_log.specs.Text.{text}
use Rattle.log_truth.specs.Holds.{Holds, Accepts}
use Rattle.log_checker.specs.declared.reason.Reason.{Reason}
use Rattle.log_checker.specs.Refusal.{IsBroken, IsRefusal}
use Rattle.log_checker.specs.Checker.{IsAcceptedAs, AcceptsAs}

-- what breaks a rule at once breaks it whatever comes after it
abbrev pub StaysLaw : Type 0
StaysLaw = (P : Project) (bytes more : List ℕ) (n : ℕ) (reason : Reason) → IsBroken P bytes n reason → IsBroken P (bytes ++ more) n reason

-- where a text is accepted, there is a report of this verdict that holds
abbrev pub HoldsLaw : Type 0
HoldsLaw = (P : Project) (bytes : List ℕ) (verdict : Verdict) → IsAcceptedAs P bytes verdict → (report : Report) × (report.verdict ≡ verdict) × Holds P report

-- and so what the verdict claims is true, with some schedule where it has a duration
abbrev pub ClaimLaw : Type 0
ClaimLaw = (P : Project) (bytes : List ℕ) (verdict : Verdict) → IsAcyclic P → IsAcceptedAs P bytes verdict → (best : Option (List Placing)) × Claim P verdict best

-- one outcome at most: a text is accepted as one verdict, or refused for one reason at one line
pub record IsOneOutcome (P : Project) (bytes : List ℕ) : Type 0 where
  pub verdict : (first second : Verdict) → IsAcceptedAs P bytes first → IsAcceptedAs P bytes second → first ≡ second
  pub unrefused : (accepted : Verdict) (n : ℕ) (reason : Reason) → IsAcceptedAs P bytes accepted → IsRefusal P bytes n reason → ⊥
  pub refusal : (m n : ℕ) (first second : Reason) → IsRefusal P bytes m first → IsRefusal P bytes n second → (m ≡ n) × (first ≡ second)

abbrev pub OneOutcomeLaw : Type 0
OneOutcomeLaw = (P : Project) (bytes : List ℕ) → IsOneOutcome P bytes

-- where a text is accepted, it is that of a report of this verdict that holds
abbrev pub TextLaw : Type 0
TextLaw = (P : Project) (bytes : List ℕ) (verdict : Verdict) → IsAcceptedAs P bytes verdict → (report : Report) × (report.verdict ≡ verdict) × (bytes ≡ text report) × Holds P report

-- and that report is one: a text is accepted exactly where it is that of a report that holds, as the truth of logs defines it
abbrev pub AcceptsLaw : Type 0
AcceptsLaw = (P : Project) (bytes : List ℕ) (verdict : Verdict) → IsWithinLimits P → IsAcceptedAs P bytes verdict ↔ AcceptsAs P bytes verdict

-- a text is accepted, or something is broken first
abbrev pub EitherLaw : Type 0
EitherLaw = (P : Project) (bytes : List ℕ) → IsProject P → Accepts P bytes ⊎ ((n : ℕ) × (reason : Reason) × IsRefusal P bytes n reason)

-- nothing is broken first exactly where the text is that of a report that holds
abbrev pub ExactLaw : Type 0
ExactLaw = (P : Project) (bytes : List ℕ) → IsProject P → ((n : ℕ) (reason : Reason) → IsRefusal P bytes n reason → ⊥) ↔ Accepts P bytes
