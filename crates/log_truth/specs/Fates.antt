-- What the fate of a line says. There are four kinds: all children of its front follow; its front ends late, for a reason;
-- the front of another line dominates it; or there is no front, and why.
use Rattle.std.specs.Prelude.{ℕ, Bool, true, false}
use Rattle.sched_base.specs.declared.fate.Fate.{Fate}
use Rattle.sched_base.specs.declared.fate.Fate.TheVariants.{Expanded, Leaf, TailBound, WorkBound, Budget, Capacity, Worse, Cutset, Left}
use Rattle.rcpsp_model.specs.declared.parts.Shut.{Shut}
use Rattle.rcpsp_model.specs.declared.parts.Shut.TheVariants.{NoCapacity, NoBudget, Inefficient}

-- a reason why all that completes a front ends late
pub data Reason : Type 0 where
  -- L: it has all jobs, and its own end
  late_leaf : Reason
  -- T: its tail bound
  late_tail : Reason
  -- W: its work bound of this renewable resource
  late_work : ℕ → Reason
  -- O: it was left, and its lower bound is this number
  late_left : ℕ → Reason

pub data Saying : Type 0 where
  -- E: its children follow
  says_expanded : Saying
  -- L, T, W and O: it ends late
  says_late : Reason → Saying
  -- C: the front of the line with this number dominates its own
  says_dominated : ℕ → Saying
  -- X, N and M: it has no front
  says_shut : Shut → Saying

-- what a fate says
abbrev pub saying : Fate → Saying
saying Expanded = says_expanded
saying Leaf = says_late late_leaf
saying TailBound = says_late late_tail
saying (WorkBound k) = says_late (late_work k)
saying (Left b) = says_late (late_left b)
saying (Cutset i) = says_dominated i
saying (Capacity k) = says_shut (NoCapacity k)
saying (Budget l) = says_shut (NoBudget l)
saying (Worse m) = says_shut (Inefficient m)

abbrev pub expands : Saying → Bool
expands says_expanded = true
expands _ = false

abbrev pub shuts : Saying → Bool
shuts (says_shut why) = true
shuts _ = false
