use Rattle.std.proofs.Common.{◌≡◌, ℕ, ◌+◌, ◌-◌, arith, subst}
use Rattle.rcpsp_model.specs.Project.{IsMode}
use Rattle.project_net.proofs.ScheduleEnds.{mode-at, start-at}
use Rattle.project_net.proofs.feasible.entry_of.Goals as goal

pub returns-clause-mode : goal.returns-clause-mode
returns-clause-mode c =
    let job = c.args.job in
    let low = c.requires.job.0 in
    subst (λ (j : ℕ). IsMode c.args.project.now j c.place-place.result.mode) (let z : job - 1 + 1 ≡ job = omega arith in z)
    (mode-at c.args.project.now c.args.schedule.now (job - 1) c.place-place.result c.place-place.ensures c.requires.placed.modes)

pub returns-clause-start : goal.returns-clause-start
returns-clause-start c = start-at c.args.schedule.now (c.args.job - 1) c.place-place.result c.place-place.ensures c.requires.placed.starts
