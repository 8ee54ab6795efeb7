use Rattle.std.proofs.Common.{◌<◌, arith}
use Rattle.rcpsp_model.specs.Project.{job_count}
use Rattle.log_checker.proofs.CourseSteps.{no-mode}
use Rattle.log_checker.proofs.course.has_mode.Goals as goal

pub returns-then-from-job : goal.returns-then-from-job
returns-then-from-job c =
    let past : job_count c.args.project.now < c.args.job = let value = c.jobs.ensures.value in let less = c.if-from-job.true in let same = c.from.ensures in omega arith in
    record { mode = (λ t. absurd (cc t), λ mode. absurd (no-mode c.args.project.now c.args.job c.args.mode past mode)); few = λ t. absurd (cc t) }
