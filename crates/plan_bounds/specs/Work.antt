-- The work on a renewable resource, and the periods that hold it.
use Rattle.std.specs.Prelude.{◌≡◌, ℕ, ◌-◌, ◌*◌, ◌≤◌, min}
use Rattle.rcpsp_model.specs.Project.{Project, request}
use Rattle.rcpsp_model.specs.Chain.{IsLeast}
use Rattle.rcpsp_model.specs.Bounds.{supply}
use Rattle.precedence_tree.specs.declared.active.Active.{Active}

-- what an active job still asks of the resource from a period on
abbrev pub work_from : Project → ℕ → ℕ → Active → ℕ
work_from P k from a = request P a.entry.job a.entry.mode k * (a.finish - from)

-- the periods from the first up to the end hold so much work
pub record Holds (P : Project) (k first work end : ℕ) : Type 0 where
  pub after : first ≤ end
  pub enough : work ≤ supply P k first (end - first)

-- the first period by which they do, or 999,999,999 where that is less
pub record IsEndOfWork (P : Project) (k first work end : ℕ) : Type 0 where
  pub enough : ℕ
  pub least : IsLeast (Holds P k first work) enough
  pub capped : end ≡ min 999999999 enough
