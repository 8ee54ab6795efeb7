-- Steps that narrow a window, in windows none of which is empty: what they rest on, and what a call makes of one.
use Rattle.std.specs.Prelude.{◌≡◌, Bool, true, false, List}
use Rattle.rcpsp_model.specs.Project.{Project, Before}
use Rattle.window_refuter.specs.declared.window.Window.{Window}
use Rattle.window_refuter.specs.declared.step.BoundStep.{BoundStep}
use Rattle.window_refuter.specs.declared.step.BoundStep.TheVariants.{Head, Tail, Disjoint, Work, Empty}
use Rattle.window_refuter.specs.Steps.{IsConflict, RaisesHead, LowersTail, Orders, after_step}

-- the project has the pair, or the conflict, that the step rests on
abbrev pub IsGrounded : Project → BoundStep → Type 0
IsGrounded P (Head i j) = Before P i j
IsGrounded P (Tail i j) = Before P i j
IsGrounded P (Disjoint i j k) = IsConflict P i j k
IsGrounded P (Work k a b) = ⊥
IsGrounded P (Empty j) = ⊥

-- the step narrows a window
abbrev pub Narrows : Project → List Window → BoundStep → Type 0
Narrows P ws (Head i j) = RaisesHead P ws i j
Narrows P ws (Tail i j) = LowersTail P ws i j
Narrows P ws (Disjoint i j k) = Orders P ws i j k
Narrows P ws (Work k a b) = ⊥
Narrows P ws (Empty j) = ⊥

-- whether a step was taken: it was where it narrows a window, and nothing changes where it doesn't
abbrev pub IsTaken : Project → List Window → BoundStep → Bool → List Window → Type 0
IsTaken P ws step true new = Narrows P ws step × (new ≡ after_step P ws step)
IsTaken P ws step false new = (Narrows P ws step → ⊥) × (new ≡ ws)
