-- The laws of windows and steps.
use Rattle.std.specs.Prelude.{◌≡◌, ℕ, ◌≤◌, List, length}
use Rattle.rcpsp_model.specs.declared.parts.Placing.{Placing}
use Rattle.rcpsp_model.specs.Project.{Project, job_count, IsAcyclic, IsJob}
use Rattle.rcpsp_model.specs.Schedule.{end_of, entries, IsFeasible}
use Rattle.window_refuter.specs.declared.window.Window.{Window}
use Rattle.window_refuter.specs.declared.step.BoundStep.{BoundStep}
use Rattle.window_refuter.specs.Windows.{lf_of, KeepsWindows, LiesInside}
use Rattle.window_refuter.specs.Steps.{Refutes, RefutesFrom}

-- where steps refute windows, no feasible schedule keeps them
abbrev pub WindowsLaw : Type 0
WindowsLaw = (P : Project) (T : ℕ) (ws : List Window) (steps : List BoundStep) (s : List Placing) → IsAcyclic P → RefutesFrom P T ws steps → IsFeasible P s → KeepsWindows P ws s → ⊥

-- no feasible schedule ends by T
abbrev pub NoneEndsBy : Project → ℕ → Type 0
NoneEndsBy P T = (s : List Placing) → IsFeasible P s → end_of P (entries s) ≤ T → ⊥

-- where steps refute an end, no feasible schedule ends by then
abbrev pub EndLaw : Type 0
EndLaw = (P : Project) (T : ℕ) (steps : List BoundStep) → IsAcyclic P → Refutes P T steps → NoneEndsBy P T

-- where steps refute windows, steps refute windows of all jobs that lie inside them and reach no further than some end: each
-- step narrows the inner windows too, or they are already so narrow
abbrev pub InsideLaw : Type 0
InsideLaw =
    (P : Project) (T U : ℕ) (inner outer : List Window) (steps : List BoundStep) → IsAcyclic P → length inner ≡ job_count P → LiesInside P inner outer → ((j : ℕ) → IsJob P j → lf_of inner j ≤ U) → RefutesFrom P T outer steps →
    (others : List BoundStep) × RefutesFrom P U inner others
