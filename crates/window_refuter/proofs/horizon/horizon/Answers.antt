use Rattle.std.proofs.Common.{◌≡◌, arith, ap, ◌∙◌}
use Rattle.std.proofs.lemmas.List.{take_all}
use Rattle.rcpsp_model.specs.Project.{job_count}
use Rattle.project_net.specs.Canonical.{horizon}
use Rattle.project_net.proofs.GreatestDurations.{horizon-more, horizon_of}
use Rattle.window_refuter.proofs.horizon.horizon.Goals as goal

pub loop-done-preserved : goal.loop-done-preserved
unfolding job_count
loop-done-preserved c =
    let n = c.jobs-done-end.ensures.value in let t = c.loop-done-test.true in
    let more = horizon-more c.args.project.now c.loop-done.done (omega arith) in
    let value = c.greatest_duration-sum.ensures.value in let limit = c.greatest_duration-sum.ensures.limit in
    let old = c.loop-done.invariant.0 in let few = c.loop-done.invariant.1 in
    (omega arith, omega arith)

pub returns-clause-value : goal.returns-clause-value
unfolding horizon job_count
returns-clause-value c =
    let n = c.jobs-done-end.ensures.value in let t = c.loop-done-test.false in
    let sum : c.loop-done.sum ≡ horizon_of c.args.project.now.activities = c.loop-done.invariant.0 ∙ ap horizon_of (take_all c.loop-done.done c.args.project.now.activities (omega arith)) in
    let calm = c.calm.ensures.value in
    omega arith
