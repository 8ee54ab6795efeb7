-- Where no step narrows a window and all periods hold their jobs' work, no steps refute windows around these.
use Rattle.std.proofs.Common.{◌≡◌, ℕ, arith, refl, sym, subst, List, [], ◌∷◌, ◌++◌, length}
use Rattle.std.specs.Prelude.{Contains, Option, Some, None, IfSome, IfNone}
use Rattle.rcpsp_model.specs.Project.{Project, job_count, IsAcyclic, IsJob}
use Rattle.rcpsp_model.proofs.Lists.{In-All, In-from_Contains}
use Rattle.window_refuter.specs.declared.window.Window.{Window}
use Rattle.window_refuter.specs.declared.step.BoundStep.{BoundStep}
use Rattle.window_refuter.specs.declared.step.BoundStep.TheVariants.{Head, Tail, Disjoint, Work, Empty}
use Rattle.window_refuter.specs.Windows.{AreWithin, NoneIsEmpty, IsEmptyWindow, LiesInside}
use Rattle.window_refuter.specs.Steps.{IsAllowed, RefutesFrom}
use Rattle.window_refuter.specs.Narrowing.{IsGrounded, Narrows}
use Rattle.window_refuter.specs.Candidates.{AreNarrowingSteps}
use Rattle.window_refuter.specs.Propagation.{IsNarrowed, IsAtRest}
use Rattle.window_refuter.specs.Dues.{IsFullStep, NoneIsFull}
use Rattle.window_refuter.specs.Refuted.{NoneRefutesFrom}
use Rattle.window_refuter.proofs.WindowLimits.{lf_limit}
use Rattle.window_refuter.proofs.Inside.{inside_law}
use Rattle.window_refuter.proofs.Narrowed.{leads-refutes}

module _ (P : Project) (T : ℕ) (tried : List BoundStep) (ws : List Window) (steps : AreNarrowingSteps P tried) (rest : IsAtRest P tried ws) (none : NoneIsFull P ws) where
  still : (step : BoundStep) → Contains tried step → Narrows P ws step → ⊥
  still step c = In-All (λ (s : BoundStep). Narrows P ws s → ⊥) tried rest.rests step (In-from_Contains tried step c)

  -- no step is allowed
  rests-all : (step : BoundStep) → IsAllowed P T ws step → ⊥
  rests-all (Head i j) a = still (Head i j) (steps.heads i j a.1.before) a.1
  rests-all (Tail i j) a = still (Tail i j) (steps.tails i j a.1.before) a.1
  rests-all (Disjoint i j k) a =
      let own = steps.conflicts i j k a.1.conflict in
      let conflict = In-All (IsGrounded P) tried steps.grounded (Disjoint i j own.0) (In-from_Contains tried (Disjoint i j own.0) own.1) in
      still (Disjoint i j own.0) own.1 (record { conflict = conflict; no_room = a.1.no_room; changes = a.1.changes })
  rests-all (Work k a b) al = let holds = none k a b al.1.renewable al.1.forwards in let exceeds = al.1.exceeds in absurd (omega arith)
  rests-all (Empty j) a = let room = rest.none_empty j a.0 in let empty = a.1 in absurd (omega arith)

  rests-refuted : NoneRefutesFrom P T ws
  rests-refuted [] r = r
  rests-refuted (step ∷ more) r = rests-all step r.0

-- so none refute windows around them
pub none-refutes : (P : Project) (T U : ℕ) (tried : List BoundStep) (ws outer : List Window) → IsAcyclic P → AreNarrowingSteps P tried → length ws ≡ job_count P → AreWithin U ws → LiesInside P ws outer → IsAtRest P tried ws → NoneIsFull P ws → NoneRefutesFrom P T outer
none-refutes P T U tried ws outer acyclic steps size within inside rest none refuting r =
    let own = inside_law P T U ws outer refuting acyclic size inside (λ j job. lf_limit ws j U within.finishes) r in
    rests-refuted P U tried ws steps rest none own.0 own.1

-- a job whose window is empty
pub refuted-empty : (P : Project) (T : ℕ) (old new : List Window) (steps all : List BoundStep) (j : ℕ) → IsNarrowed P T old [] new steps → IsJob P j → IsEmptyWindow P new j → all ≡ steps ++ Empty j ∷ [] → RefutesFrom P T old all
refuted-empty P T old new steps all j narrowed job empty pushed =
    subst (RefutesFrom P T old) (sym pushed) (leads-refutes P T old new steps (Empty j) (narrowed.leads old refl) (job, empty) refl)

-- periods that don't hold their jobs' work
pub refuted-full : (P : Project) (T : ℕ) (old new : List Window) (steps all : List BoundStep) (step : BoundStep) → IsNarrowed P T old [] new steps → NoneIsEmpty P new → IsFullStep P T new step → all ≡ steps ++ step ∷ [] → RefutesFrom P T old all
refuted-full P T old new steps all (Work k a b) narrowed none full pushed =
    subst (RefutesFrom P T old) (sym pushed) (leads-refutes P T old new steps (Work k a b) (narrowed.leads old refl) (none, full) refl)
refuted-full P T old new steps all (Head i j) narrowed none full pushed = absurd full
refuted-full P T old new steps all (Tail i j) narrowed none full pushed = absurd full
refuted-full P T old new steps all (Disjoint i j k) narrowed none full pushed = absurd full
refuted-full P T old new steps all (Empty j) narrowed none full pushed = absurd full

-- What is said of an option, at its variant.
pub at_some : {A : Type 0} (Q : A → Type 0) (o : Option A) (x : A) → o ≡ Some x → IfSome o Q → Q x
at_some Q o x is q = subst (λ r. IfSome r Q) is q

pub at_none : {A : Type 0} (Q : Type 0) (o : Option A) → o ≡ None → IfNone o Q → Q
at_none Q o is q = subst (λ r. IfNone r Q) is q
