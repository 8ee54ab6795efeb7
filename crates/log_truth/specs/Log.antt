-- The log of a search tree: a list of lines in preorder. An expanded line is followed by the logs of all children of its
-- front, in order. The front of a line isn't printed: it is known from the lines before it, and from the job, the mode and
-- the start of the line.
use Rattle.std.specs.Prelude.{◌≡◌, ℕ, Bool, true, false, Option, Some, None, List, [], ◌∷◌, ◌++◌, map}
use Rattle.rcpsp_model.specs.declared.parts.Entry.{Entry}
use Rattle.rcpsp_model.specs.declared.parts.Shut.TheVariants.{NoBudget}
use Rattle.rcpsp_model.specs.Project.{Project}
use Rattle.rcpsp_model.specs.Tree.{Choice, choices, entry_at, LeavesBudgets, IsShut, IsPlacedChild}
use Rattle.rcpsp_model.specs.Bounds.{IsBudgetGap}
use Rattle.proof_log.specs.declared.report.LogLine.{LogLine}
use Rattle.log_truth.specs.Fates.{Saying, says_shut, saying, expands, shuts}

-- a branch of the tree, for which a line stands: the root, or the child of a front by a choice, be it placed or shut
pub data Branch : Type 0 where
  at_root : Branch
  by_choice : List Entry → Choice → Branch

abbrev pub says : LogLine → Saying
says line = saying line.fate

abbrev pub is_expanded : LogLine → Bool
is_expanded line = expands (says line)

-- The front of a line.

-- the front with the choice at its start, and none without a start
abbrev pub extended_by : List Entry → Choice → Option ℕ → Option (List Entry)
extended_by F c None = None
extended_by F c (Some t) = Some (F ++ entry_at c.job c.mode t ∷ [])

-- the empty front, unless the root is shut
abbrev pub root_front : Bool → Option (List Entry)
root_front true = None
root_front false = Some []

-- the front of a line on a branch; none where the child is shut, or where the root has a budget gap
abbrev pub front_at : Branch → LogLine → Option (List Entry)
front_at at_root line = root_front (shuts (says line))
front_at (by_choice F c) line = extended_by F c line.start

-- The branches below a line.

-- the branches to the children of a front, in order
abbrev pub child_branches : Project → List Entry → List Branch
child_branches P F = map (λ c. by_choice F c) (choices P F)

-- those of an expanded line, and none for another
abbrev pub expanded_branches : Project → Bool → Option (List Entry) → List Branch
expanded_branches P true (Some F) = child_branches P F
expanded_branches P true None = []
expanded_branches P false F = []

-- the branches whose logs follow a line
unfoldable pub below : Project → Branch → LogLine → List Branch
below P branch line = expanded_branches P (is_expanded line) (front_at branch line)

-- What a line has to say of its branch, apart from what closes its front.

-- the root is shut by its budget gap, exactly where it has one
abbrev pub IsRootSaying : Project → Saying → Type 0
IsRootSaying P (says_shut (NoBudget l)) = IsBudgetGap P [] l
IsRootSaying P (says_shut _) = ⊥
IsRootSaying P _ = LeavesBudgets P []

-- a shut child has exactly its cause
abbrev pub IsShutSaying : Project → List Entry → Choice → Saying → Type 0
IsShutSaying P F c (says_shut why) = IsShut P F c.job c.mode why
IsShutSaying P F c _ = ⊥

-- a placed child has its least start and isn't said to be shut, and a shut child has no start
abbrev pub IsChildSaying : Project → List Entry → Choice → Option ℕ → Saying → Type 0
IsChildSaying P F c (Some t) said = IsPlacedChild P F (entry_at c.job c.mode t) × (shuts said ≡ false)
IsChildSaying P F c None said = IsShutSaying P F c said

-- the line of the root, which has neither job, mode nor start
pub record IsLineOfRoot (P : Project) (line : LogLine) : Type 0 where
  pub job : line.job ≡ 0
  pub mode : line.mode ≡ 0
  pub start : line.start ≡ None
  pub fate : IsRootSaying P (says line)

-- the line of the child of F by a choice
pub record IsLineOfChoice (P : Project) (F : List Entry) (c : Choice) (line : LogLine) : Type 0 where
  pub job : line.job ≡ c.job
  pub mode : line.mode ≡ c.mode
  pub fate : IsChildSaying P F c line.start (says line)

abbrev pub IsLineAt : Project → Branch → LogLine → Type 0
IsLineAt P at_root line = IsLineOfRoot P line
IsLineAt P (by_choice F c) line = IsLineOfChoice P F c line

-- Logs.

-- The lines are the logs of these branches, one after another: the line of the first branch, then the logs of the branches
-- below it, and then those of the other branches.
abbrev pub AreLogs : Project → List Branch → List LogLine → Type 0
AreLogs P branches [] = branches ≡ []
AreLogs P [] (line ∷ lines) = ⊥
AreLogs P (branch ∷ branches) (line ∷ lines) = IsLineAt P branch line × AreLogs P (below P branch line ++ branches) lines

-- the lines are the log of one branch
abbrev pub IsLogOf : Project → Branch → List LogLine → Type 0
IsLogOf P branch lines = AreLogs P (branch ∷ []) lines

-- the lines are the log of a project: that of the root
abbrev pub IsTreeLog : Project → List LogLine → Type 0
IsTreeLog P lines = IsLogOf P at_root lines

-- a line on its branch
pub record LogNode : Type 0 where
  pub branch : Branch
  pub line : LogLine

abbrev pub front_of : LogNode → Option (List Entry)
front_of node = front_at node.branch node.line

-- each line on its branch, where the logs of these branches are wanted
abbrev pub nodes_from : Project → List Branch → List LogLine → List LogNode
nodes_from P branches [] = []
nodes_from P [] (line ∷ lines) = []
nodes_from P (branch ∷ branches) (line ∷ lines) = record { branch = branch; line = line } ∷ nodes_from P (below P branch line ++ branches) lines

-- each line of a log on its branch
abbrev pub nodes : Project → List LogLine → List LogNode
nodes P lines = nodes_from P (at_root ∷ []) lines
