-- What the definitions of a log imply, for all projects and reports. Each is the contract of a function, and so is proved.
use Rattle.std.specs.Prelude.{◌≡◌, ℕ, ◌+◌, ◌*◌, ◌≤◌, ◌⊎◌, ◌↔◌, true, false, Some, None, List, [], ◌∷◌, ◌++◌, length, Contains}
use Rattle.sched_base.specs.declared.fate.Fate.TheVariants.{Budget}
use Rattle.rcpsp_model.specs.declared.parts.Entry.{Entry}
use Rattle.rcpsp_model.specs.declared.parts.Placing.{Placing}
use Rattle.rcpsp_model.specs.declared.parts.Verdict.{Verdict}
use Rattle.rcpsp_model.specs.Project.{Project, IsWithinLimits, IsAcyclic}
use Rattle.rcpsp_model.specs.Schedule.{end_of, entries}
use Rattle.rcpsp_model.specs.Tree.{IsFront, Completes}
use Rattle.rcpsp_model.specs.Bounds.{IsBudgetGap}
use Rattle.rcpsp_model.specs.Claim.{Claim}
use Rattle.rcpsp_model.specs.Laws.{OneNumber}
use Rattle.proof_log.specs.declared.report.LogLine.{LogLine}
use Rattle.proof_log.specs.declared.report.Report.{Report}
use Rattle.proof_log.specs.Report.{IsReport}
use Rattle.proof_log.specs.Text.{text}
use Rattle.proof_log.specs.Laws.{HasBytes}
use Rattle.log_truth.specs.Fates.{Reason}
use Rattle.log_truth.specs.Log.{Branch, says, is_expanded, front_at, child_branches, below, IsLineAt, IsLogOf, IsTreeLog, LogNode, front_of, nodes}
use Rattle.log_truth.specs.Holds.{IsLateBy, numbered, AreServed, HasLower, most_expanded, expanded_in, LogHolds, Holds, Accepts}
use Rattle.log_truth.specs.Refusal.{Fault, surplus, missing, IsNamed, IsRightlyShut, IsRightlyStarted, IsGood, HasFault, Wants, IsRefusal}

-- Logs.

-- the lines are cut into a log for each of the branches
abbrev pub AreJoined : Project → List Branch → List LogLine → Type 0
AreJoined P [] lines = lines ≡ []
AreJoined P (branch ∷ branches) lines =
    (own : List LogLine) × (rest : List LogLine) × (lines ≡ own ++ rest) × IsLogOf P branch own × AreJoined P branches rest

-- the log of a branch is its line, and then the logs of the branches below it, each whole, one after another
abbrev pub JoinedLaw : Type 0
JoinedLaw =
    (P : Project) (branch : Branch) (line : LogLine) (lines : List LogLine) →
    IsLogOf P branch (line ∷ lines) ↔ (IsLineAt P branch line × AreJoined P (below P branch line) lines)

-- where the line isn't expanded, it is the whole log
abbrev pub AloneLaw : Type 0
AloneLaw = (P : Project) (branch : Branch) (line : LogLine) (lines : List LogLine) → is_expanded line ≡ false → IsLogOf P branch (line ∷ lines) → lines ≡ []

-- below an expanded line are the branches of its front's choices, and below any other none
pub record IsBelow (P : Project) (branch : Branch) (line : LogLine) : Type 0 where
  pub expanded : (F : List Entry) → is_expanded line ≡ true → front_at branch line ≡ Some F → below P branch line ≡ child_branches P F
  pub other : is_expanded line ≡ false → below P branch line ≡ []

abbrev pub BelowLaw : Type 0
BelowLaw = (P : Project) (branch : Branch) (line : LogLine) → IsBelow P branch line

-- each line of a log has one node
abbrev pub OneNodeLaw : Type 0
OneNodeLaw = (P : Project) (lines : List LogLine) → IsTreeLog P lines → length (nodes P lines) ≡ length lines

-- what a node has is a front
abbrev pub NodeFrontLaw : Type 0
NodeFrontLaw = (P : Project) (lines : List LogLine) (node : LogNode) (F : List Entry) → IsTreeLog P lines → Contains (nodes P lines) node → front_of node ≡ Some F → IsFront P F

-- no front has two lines
abbrev pub OneLineLaw : Type 0
OneLineLaw =
    (P : Project) (lines : List LogLine) (i k : ℕ) (m n : LogNode) (F : List Entry) → numbered (nodes P lines) i ≡ Some m → numbered (nodes P lines) k ≡ Some n →
    front_of m ≡ Some F → front_of n ≡ Some F → i ≡ k

-- so a front that has a line has one number
abbrev pub FrontNumberLaw : Type 0
FrontNumberLaw =
    (P : Project) (lines : List LogLine) (node : LogNode) (F : List Entry) → Contains (nodes P lines) node → front_of node ≡ Some F →
    OneNumber (λ i. (n : LogNode) × (numbered (nodes P lines) i ≡ Some n) × (front_of n ≡ Some F))

-- the line of a root with the budget gap l
pub record IsGapLine (l : ℕ) (line : LogLine) : Type 0 where
  pub job : line.job ≡ 0
  pub mode : line.mode ≡ 0
  pub start : line.start ≡ None
  pub fate : line.fate ≡ Budget l

-- where the root has a budget gap, the log is the one line that names it
abbrev pub GapLogLaw : Type 0
GapLogLaw =
    (P : Project) (lines : List LogLine) (l : ℕ) → IsBudgetGap P [] l → IsTreeLog P lines ↔ ((line : LogLine) × (lines ≡ line ∷ []) × IsGapLine l line)

-- Truth.

-- whatever the reason, what completes a front that ends late by n, ends at n or later
abbrev pub LateLaw : Type 0
LateLaw =
    (P : Project) (F : List Entry) (s : List Placing) (reason : Reason) (n : ℕ) → IsAcyclic P → IsFront P F → Completes P F s → IsLateBy P F reason n →
    n ≤ end_of P (entries s)

-- for each reason there is one such n at most
abbrev pub OneLateLaw : Type 0
OneLateLaw = (P : Project) (F : List Entry) (reason : Reason) (m n : ℕ) → IsLateBy P F reason m → IsLateBy P F reason n → m ≡ n

-- where a report holds, what its verdict claims is true
abbrev pub HoldsLaw : Type 0
HoldsLaw = (P : Project) (report : Report) → IsAcyclic P → Holds P report → Claim P report.verdict report.best

-- where a text is accepted, what the verdict of its report claims is true
abbrev pub AcceptsLaw : Type 0
AcceptsLaw =
    (P : Project) (bytes : List ℕ) (report : Report) → IsAcyclic P → IsReport report → HasBytes report → bytes ≡ text report → Accepts P bytes →
    Claim P report.verdict report.best

-- Refusals.

-- a log holds exactly where its lines break no rule and none is missing, what is cited serves, and the lower bound is right
abbrev pub GoodLaw : Type 0
GoodLaw = (P : Project) (verdict : Verdict) (lines : List LogLine) → (Wants P verdict lines [] × AreServed P lines × HasLower verdict lines) ↔ LogHolds P verdict lines

-- nothing is wrong first with a log that holds
abbrev pub NoRefusalLaw : Type 0
NoRefusalLaw = (P : Project) (verdict : Verdict) (lines : List LogLine) (n : ℕ) (fault : Fault) → LogHolds P verdict lines → IsRefusal P verdict lines n fault → ⊥

-- one thing at most is wrong first
abbrev pub OneRefusalLaw : Type 0
OneRefusalLaw =
    (P : Project) (verdict : Verdict) (lines : List LogLine) (m n : ℕ) (a b : Fault) → IsRefusal P verdict lines m a → IsRefusal P verdict lines n b → (m ≡ n) × (a ≡ b)

-- a log holds, or something is wrong with it first
abbrev pub EitherLaw : Type 0
EitherLaw = (P : Project) (verdict : Verdict) (lines : List LogLine) → IsAcyclic P → LogHolds P verdict lines ⊎ ((n : ℕ) × (fault : Fault) × IsRefusal P verdict lines n fault)

-- a line is that of its branch exactly where it keeps the first three rules
abbrev pub ThreeRulesLaw : Type 0
ThreeRulesLaw =
    (P : Project) (branch : Branch) (line : LogLine) → IsLineAt P branch line ↔ (IsNamed branch line × IsRightlyShut P branch (says line) × IsRightlyStarted P branch line)

-- As lines come, where those before break no rule, and the logs of these branches are wanted after them.

-- a line that breaks no rule leaves wanted what stands below it
abbrev pub NextLaw : Type 0
NextLaw =
    (P : Project) (verdict : Verdict) (lines : List LogLine) (line : LogLine) (branch : Branch) (rest : List Branch) → Wants P verdict lines (branch ∷ rest) →
    IsGood P verdict (expanded_in lines) branch line → Wants P verdict (lines ++ line ∷ []) (below P branch line ++ rest)

-- any line is on the first of the branches
abbrev pub NextNodeLaw : Type 0
NextNodeLaw =
    (P : Project) (verdict : Verdict) (lines : List LogLine) (line : LogLine) (branch : Branch) (rest : List Branch) → Wants P verdict lines (branch ∷ rest) →
    nodes P (lines ++ line ∷ []) ≡ nodes P lines ++ record { branch = branch; line = line } ∷ []

-- a line that breaks a rule is the first that is wrong, whatever comes after it
abbrev pub BreakLaw : Type 0
BreakLaw =
    (P : Project) (verdict : Verdict) (lines more : List LogLine) (line : LogLine) (branch : Branch) (rest : List Branch) (fault : Fault) → Wants P verdict lines (branch ∷ rest) →
    HasFault P verdict (expanded_in lines) branch line fault → IsRefusal P verdict (lines ++ line ∷ more) (length lines + 1) fault

-- so is a line where none is wanted, and the end where one is
abbrev pub SurplusLaw : Type 0
SurplusLaw =
    (P : Project) (verdict : Verdict) (lines more : List LogLine) (line : LogLine) → Wants P verdict lines [] →
    IsRefusal P verdict (lines ++ line ∷ more) (length lines + 1) surplus

abbrev pub MissingLaw : Type 0
MissingLaw =
    (P : Project) (verdict : Verdict) (lines : List LogLine) (branch : Branch) (rest : List Branch) → Wants P verdict lines (branch ∷ rest) →
    IsRefusal P verdict lines (length lines + 1) missing

-- at most 100,000 lines are expanded, and each leaves at most 512 branches wanted: a log has at most 51,200,001 lines
abbrev pub RoomLaw : Type 0
RoomLaw =
    (P : Project) (verdict : Verdict) (lines : List LogLine) (wanted : List Branch) → IsWithinLimits P → Wants P verdict lines wanted →
    (expanded_in lines ≤ most_expanded) × (length lines + length wanted ≤ 1 + 512 * expanded_in lines)
