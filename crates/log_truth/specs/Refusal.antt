-- What a log breaks first: a line, as it comes after the lines before it; then a line that is left over or missing; then a
-- citation; and then the lower bound.
use Rattle.std.specs.Prelude.{◌≡◌, ℕ, ◌+◌, ◌<◌, ◌⊎◌, true, false, cond, Option, Some, None, List, [], ◌∷◌, ◌++◌}
use Rattle.rcpsp_model.specs.declared.parts.Entry.{Entry}
use Rattle.rcpsp_model.specs.declared.parts.Verdict.{Verdict}
use Rattle.rcpsp_model.specs.Project.{Project}
use Rattle.rcpsp_model.specs.Tree.{Choice, entry_at, IsPlacedChild}
use Rattle.proof_log.specs.declared.report.LogLine.{LogLine}
use Rattle.log_truth.specs.Fates.{Saying, shuts}
use Rattle.log_truth.specs.Log.{Branch, at_root, by_choice, says, is_expanded, below, IsRootSaying, IsShutSaying, LogNode, nodes}
use Rattle.log_truth.specs.Holds.{IsAllowed, IsServed, AreServed, most_expanded, HasLower}

-- what is wrong
pub data Fault : Type 0 where
  -- a line whose job, mode or start isn't that of its branch
  wrong_child : Fault
  -- a line whose fate its branch or its front doesn't allow
  wrong_fate : Fault
  -- an expanded line too many
  too_many : Fault
  -- a line where none is wanted
  surplus : Fault
  -- no line where one is wanted
  missing : Fault
  -- a line that cites none that serves it
  bad_citation : Fault
  -- a lower bound that isn't the least number of a line that was left
  bad_lower : Fault

-- What is asked of a line on its branch, in this order.

-- it has the job and the mode of the branch; and no start, where it is the root's
abbrev pub IsNamed : Branch → LogLine → Type 0
IsNamed at_root line = (line.job ≡ 0) × (line.mode ≡ 0) × (line.start ≡ None)
IsNamed (by_choice F c) line = (line.job ≡ c.job) × (line.mode ≡ c.mode)

-- it is said to be shut, by its own cause, exactly where it is shut
abbrev pub IsRightlyShut : Project → Branch → Saying → Type 0
IsRightlyShut P at_root said = IsRootSaying P said
IsRightlyShut P (by_choice F c) said = IsShutSaying P F c said ⊎ ((shuts said ≡ false) × ((t : ℕ) × IsPlacedChild P F (entry_at c.job c.mode t)))

-- a placed child has its least start, and a shut one has none
abbrev pub IsChildStart : Project → List Entry → Choice → Saying → Option ℕ → Type 0
IsChildStart P F c said (Some t) = IsPlacedChild P F (entry_at c.job c.mode t)
IsChildStart P F c said None = shuts said ≡ true

abbrev pub IsRightlyStarted : Project → Branch → LogLine → Type 0
IsRightlyStarted P at_root line = Unit {0}
IsRightlyStarted P (by_choice F c) line = IsChildStart P F c (says line) line.start

-- after k expanded lines it may be expanded too
abbrev pub IsFew : ℕ → LogLine → Type 0
IsFew k line = is_expanded line ≡ true → k < most_expanded

-- the line breaks no rule on its branch, after k expanded lines
pub record IsGood (P : Project) (verdict : Verdict) (k : ℕ) (branch : Branch) (line : LogLine) : Type 0 where
  pub named : IsNamed branch line
  pub shut : IsRightlyShut P branch (says line)
  pub started : IsRightlyStarted P branch line
  pub allowed : IsAllowed P verdict branch line
  pub few : IsFew k line

-- the rule is broken, and this is its fault; or it is kept, and a later one is broken
abbrev pub Breaks : Type 0 → Fault → Fault → Type 0 → Type 0
Breaks Rule own fault later = ((Rule → ⊥) × (fault ≡ own)) ⊎ (Rule × later)

-- the fault of the first rule that the line breaks
abbrev pub HasFault : Project → Verdict → ℕ → Branch → LogLine → Fault → Type 0
HasFault P verdict k branch line fault =
    Breaks (IsNamed branch line) wrong_child fault
    (Breaks (IsRightlyShut P branch (says line)) wrong_fate fault
    (Breaks (IsRightlyStarted P branch line) wrong_child fault
    (Breaks (IsAllowed P verdict branch line) wrong_fate fault
    (Breaks (IsFew k line) too_many fault ⊥))))

-- Lines as they come.

-- 1 where the line is expanded
abbrev pub expanded_by : LogLine → ℕ
expanded_by line = cond (is_expanded line) 1 0

-- where the logs of these branches are wanted, after k expanded lines: the lines break no rule, and after them the logs of
-- the branches `wanted` are wanted
abbrev pub WantsFrom : Project → Verdict → List Branch → ℕ → List LogLine → List Branch → Type 0
WantsFrom P verdict branches k [] wanted = branches ≡ wanted
WantsFrom P verdict [] k (line ∷ lines) wanted = ⊥
WantsFrom P verdict (branch ∷ branches) k (line ∷ lines) wanted =
    IsGood P verdict k branch line × WantsFrom P verdict (below P branch line ++ branches) (k + expanded_by line) lines wanted

-- the lines break no rule, and after them the logs of these branches are wanted
abbrev pub Wants : Project → Verdict → List LogLine → List Branch → Type 0
Wants P verdict lines wanted = WantsFrom P verdict (at_root ∷ []) 0 lines wanted

-- where the logs of these branches are wanted, after k expanded lines, and the lines are numbered from i on: line n is the
-- first that breaks a rule, with this fault
abbrev pub IsFirstFault : Project → Verdict → List Branch → ℕ → ℕ → List LogLine → ℕ → Fault → Type 0
IsFirstFault P verdict [] k i [] n fault = ⊥
IsFirstFault P verdict (branch ∷ branches) k i [] n fault = (n ≡ i) × (fault ≡ missing)
IsFirstFault P verdict [] k i (line ∷ lines) n fault = (n ≡ i) × (fault ≡ surplus)
IsFirstFault P verdict (branch ∷ branches) k i (line ∷ lines) n fault =
    ((n ≡ i) × HasFault P verdict k branch line fault)
    ⊎ (IsGood P verdict k branch line × IsFirstFault P verdict (below P branch line ++ branches) (k + expanded_by line) (i + 1) lines n fault)

-- After all lines.

-- of these nodes, numbered from i on, number n is the first whose line cites none that serves it
abbrev pub IsFirstUnserved : Project → List LogNode → ℕ → List LogNode → ℕ → Type 0
IsFirstUnserved P all i [] n = ⊥
IsFirstUnserved P all i (node ∷ nodes) n = ((n ≡ i) × (IsServed P all node → ⊥)) ⊎ (IsServed P all node × IsFirstUnserved P all (i + 1) nodes n)

-- the first that is wrong with a log, with the number of its line, from 1, or 0 where it is the lower bound
pub data IsRefusal (P : Project) (verdict : Verdict) (lines : List LogLine) (n : ℕ) (fault : Fault) : Type 0 where
  at_line : IsFirstFault P verdict (at_root ∷ []) 0 1 lines n fault → IsRefusal P verdict lines n fault
  at_citation : Wants P verdict lines [] → IsFirstUnserved P (nodes P lines) 1 (nodes P lines) n → fault ≡ bad_citation → IsRefusal P verdict lines n fault
  at_lower : Wants P verdict lines [] → AreServed P lines → (HasLower verdict lines → ⊥) → n ≡ 0 → fault ≡ bad_lower → IsRefusal P verdict lines n fault
