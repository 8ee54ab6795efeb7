-- The least end that no steps refute.
use Rattle.std.proofs.Common.{ℕ, ◌+◌, ◌-◌, ◌≤◌, inl, inr, arith, List}
use Rattle.std.proofs.lemmas.Bool.{cases_lt}
use Rattle.rcpsp_model.specs.Project.{Project, IsAcyclic}
use Rattle.rcpsp_model.specs.Schedule.{end_of, entries}
use Rattle.rcpsp_model.specs.Claim.{NoneEndsBefore}
use Rattle.window_refuter.specs.declared.step.BoundStep.{BoundStep}
use Rattle.window_refuter.specs.Windows.{first_windows}
use Rattle.window_refuter.specs.Steps.{Refutes}
use Rattle.window_refuter.specs.Refuted.{NoneRefutes, ShowsBound, IsWindowBound}
use Rattle.project_net.specs.Canonical.{horizon}
use Rattle.window_refuter.proofs.FirstWindows.{first-es, first-lf, first-size}
use Rattle.window_refuter.proofs.Inside.{inside_law}
use Rattle.window_refuter.proofs.Refuted.{end_law}

-- what refutes an end refutes each earlier one, by other steps
pub earlier-refuted : (P : Project) (T U : ℕ) (steps : List BoundStep) → IsAcyclic P → U ≤ T → Refutes P T steps → (others : List BoundStep) × Refutes P U others
earlier-refuted P T U steps acyclic le r =
    inside_law P T U (first_windows P U) (first_windows P T) steps acyclic (first-size P U) (record {
      starts = λ j job. let one = first-es P T j in let two = first-es P U j in omega arith;
      finishes = λ j job. let one = first-lf P T j job in let two = first-lf P U j job in omega arith;
    }) (λ j job. let own = first-lf P U j job in omega arith) r

-- where an end is refuted and the next one isn't, or there is no next one up to the horizon
pub bound-from : (P : Project) (b : ℕ) (steps : List BoundStep) → IsAcyclic P → b ≤ horizon P + 1 → (b ≤ horizon P → NoneRefutes P b) → ShowsBound P b steps → IsWindowBound P b
bound-from P b steps acyclic most none shows = record {
  most = most;
  unrefuted = none;
  least = λ T unrefuted. elim (cases_lt T b) [
    | inr enough ↦ enough
    | inl less ↦ let others = earlier-refuted P (b - 1) T steps acyclic (omega arith) (shows.refutes (omega arith)) in absurd (unrefuted others.0 others.1)
  ];
}

-- no feasible schedule ends before it
pub shows-sound : (P : Project) (b : ℕ) (steps : List BoundStep) → IsAcyclic P → ShowsBound P b steps → NoneEndsBefore P b
shows-sound P b steps acyclic shows s feasible = elim (cases_lt (end_of P (entries s)) b) [
  | inl early ↦ absurd (end_law P (b - 1) steps acyclic (shows.refutes (omega arith)) s feasible (omega arith))
  | inr late ↦ late
]
