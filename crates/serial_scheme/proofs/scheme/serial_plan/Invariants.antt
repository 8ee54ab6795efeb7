use Rattle.std.proofs.Common.{◌-◌, length}
use Rattle.rcpsp_model.specs.Project.{job_count}
use Rattle.profiles.specs.Placed.{IsProfileOf}
use Rattle.serial_scheme.specs.Rules.{HasMode}
use Rattle.serial_scheme.proofs.PlacedInTurn.{SoFar}
use Rattle.serial_scheme.proofs.scheme.serial_plan.Given as goal

abbrev pub invariant-loop-job : goal.invariant-loop-job
invariant-loop-job l = record { so_far : SoFar l.project (HasMode l.rule) l.placed l.profile.entries; profile : IsProfileOf l.project l.profile }

abbrev pub decreases-loop-job : goal.decreases-loop-job
decreases-loop-job l = job_count l.project - length l.profile.entries
