-- Steps that narrow the windows, and what they show: that no feasible schedule keeps the windows (Carlier and Pinson 1989;
-- Baptiste, Le Pape and Nuijten 2001).
use Rattle.std.specs.Prelude.{◌≡◌, ℕ, ◌+◌, ◌-◌, ◌<◌, ◌≤◌, ◌⊎◌, max, min, Bool, true, false, MatchBool, List, [], ◌∷◌, slice_set}
use Rattle.rcpsp_model.specs.Project.{Project, capacity, Before, IsJob, IsRenewable}
use Rattle.rcpsp_model.specs.Chain.{least_duration}
use Rattle.rcpsp_model.specs.Bounds.{supply}
use Rattle.window_refuter.specs.declared.window.Window.{Window}
use Rattle.window_refuter.specs.declared.step.BoundStep.{BoundStep}
use Rattle.window_refuter.specs.declared.step.BoundStep.TheVariants.{Head, Tail, Disjoint, Work, Empty}
use Rattle.window_refuter.specs.declared.step.Judged.{Judged}
use Rattle.window_refuter.specs.declared.step.Judged.TheVariants.{NotAllowed, Further, Contradiction}
use Rattle.window_refuter.specs.Windows.{TimeWindows, es_of, lf_of, earliest_finish, latest_start, least_request, work_within, first_windows, IsEmptyWindow, NoneIsEmpty}

-- two jobs that can't run in the same period: in each of their modes they take time, and together ask for more of k than
-- its capacity
pub record IsConflict (P : Project) (i j k : ℕ) : Type 0 where
  pub first : IsJob P i
  pub second : IsJob P j
  pub other : i ≡ j → ⊥
  pub renewable : IsRenewable P k
  pub first_takes_time : 0 < least_duration P i
  pub second_takes_time : 0 < least_duration P j
  pub exceeds : capacity P k < least_request P i k + least_request P j k

-- j comes after i, and could start before i can be over
pub record RaisesHead (P : Project) (ws : List Window) (i j : ℕ) : Type 0 where
  pub before : Before P i j
  pub raises : es_of ws j < earliest_finish P ws i

-- i comes before j, and could be over after j has to start
pub record LowersTail (P : Project) (ws : List Window) (i j : ℕ) : Type 0 where
  pub before : Before P i j
  pub lowers : latest_start P ws j < lf_of ws i

-- i and j can't run in the same period, and i can't run after j; so j comes after i, which changes the window of one
pub record Orders (P : Project) (ws : List Window) (i j k : ℕ) : Type 0 where
  pub conflict : IsConflict P i j k
  pub no_room : lf_of ws i < earliest_finish P ws j + least_duration P i
  pub changes : (es_of ws j < earliest_finish P ws i) ⊎ (latest_start P ws j < lf_of ws i)

-- the jobs that have to run within the periods from a up to b, by the end, take more of k than there is
pub record IsOverfull (P : Project) (T : ℕ) (ws : List Window) (k a b : ℕ) : Type 0 where
  pub renewable : IsRenewable P k
  pub forwards : a ≤ b
  pub by_end : b ≤ T
  pub exceeds : supply P k a (b - a) < work_within P ws k a b

-- a step is allowed in windows up to an end T; where a window is empty, only this may be stated
abbrev pub IsAllowed : Project → ℕ → List Window → BoundStep → Type 0
IsAllowed P T ws (Head i j) = NoneIsEmpty P ws × RaisesHead P ws i j
IsAllowed P T ws (Tail i j) = NoneIsEmpty P ws × LowersTail P ws i j
IsAllowed P T ws (Disjoint i j k) = NoneIsEmpty P ws × Orders P ws i j k
IsAllowed P T ws (Work k a b) = NoneIsEmpty P ws × IsOverfull P T ws k a b
IsAllowed P T ws (Empty j) = IsJob P j × IsEmptyWindow P ws j

abbrev pub is_contradiction : BoundStep → Bool
is_contradiction (Work k a b) = true
is_contradiction (Empty j) = true
is_contradiction (Head i j) = false
is_contradiction (Tail i j) = false
is_contradiction (Disjoint i j k) = false

-- the windows with another earliest start, or another latest finish, of a job
unfoldable pub with_start : List Window → ℕ → ℕ → List Window
with_start ws j t = slice_set ws (j - 1) (record { earliest_start = t; latest_finish = lf_of ws j })

unfoldable pub with_finish : List Window → ℕ → ℕ → List Window
with_finish ws j t = slice_set ws (j - 1) (record { earliest_start = es_of ws j; latest_finish = t })

-- the windows after a step
abbrev pub after_step : Project → List Window → BoundStep → List Window
after_step P ws (Head i j) = with_start ws j (earliest_finish P ws i)
after_step P ws (Tail i j) = with_finish ws i (latest_start P ws j)
after_step P ws (Disjoint i j k) = with_finish (with_start ws j (max (es_of ws j) (earliest_finish P ws i))) i (min (lf_of ws i) (latest_start P ws j))
after_step P ws (Work k a b) = ws
after_step P ws (Empty j) = ws

-- each step is allowed in the windows that the steps before it leave; the last one is a contradiction, and no other is
abbrev pub RefutesFrom : Project → ℕ → List Window → List BoundStep → Type 0
RefutesFrom P T ws [] = ⊥
RefutesFrom P T ws (step ∷ steps) = IsAllowed P T ws step × MatchBool (is_contradiction step) (steps ≡ []) (RefutesFrom P T (after_step P ws step) steps)

-- the steps show that no feasible schedule ends by T
abbrev pub Refutes : Project → ℕ → List BoundStep → Type 0
Refutes P T steps = RefutesFrom P T (first_windows P T) steps

-- what is said of a step in the windows, and the windows after it
abbrev pub IsJudged : Project → TimeWindows → BoundStep → Judged → TimeWindows → Type 0
IsJudged P W step NotAllowed new = (IsAllowed P W.end W.windows step → ⊥) × (new ≡ W)
IsJudged P W step Further new = IsAllowed P W.end W.windows step × (is_contradiction step ≡ false) × (new ≡ record W { windows = after_step P W.windows step })
IsJudged P W step Contradiction new = IsAllowed P W.end W.windows step × (is_contradiction step ≡ true) × (new ≡ W)
