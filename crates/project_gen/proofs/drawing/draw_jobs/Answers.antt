use Rattle.std.proofs.Common.{arith}
use Rattle.project_gen.proofs.JobSteps.{drawn_first, drawn_more, all_drawn}
use Rattle.project_gen.proofs.drawing.draw_jobs.Goals as goal

pub loop-job-init : goal.loop-job-init
loop-job-init g c =
    drawn_first c.args.jobs c.args.modes (g.R.Rng.stream c.args.rng.now) c.in_ok-predecessors.predecessors.items c.push.new.self.items c.in_ok-of_jobs.of_jobs.items c.in_ok-first.first
    c.in_ok-predecessors.ensures.items c.in_ok-of_jobs.ensures.items c.in_ok-push.ensures.items c.in_ok-first.ensures

pub loop-job-preserved : goal.loop-job-preserved
loop-job-preserved g c =
    drawn_more c.args.jobs c.args.modes (g.R.Rng.stream c.args.rng.now) c.loop-job.job (g.R.Rng.stream c.loop-job.rng) (g.R.Rng.stream c.draw_predecessors-before.new.rng) (g.R.Rng.stream c.draw_modes.new.rng)
    c.loop-job.predecessors.items c.push-in-loop-job.new.self.items c.loop-job.of_jobs.items c.push-in-loop-job-2.new.self.items c.draw_predecessors-before.result c.in_ok-drawn.drawn
    (omega arith) (omega arith) c.loop-job.invariant
    c.draw_predecessors-before.ensures.value c.draw_predecessors-before.ensures.left c.in_ok-push-2.ensures.items
    c.in_ok-drawn.ensures.modes c.in_ok-drawn.ensures.left c.in_ok-push-3.ensures.items

pub returns : goal.returns
returns g c =
    all_drawn c.args.jobs c.args.modes (g.R.Rng.stream c.args.rng.now) c.loop-job.job (g.R.Rng.stream c.loop-job.rng) c.loop-job.predecessors.items c.loop-job.of_jobs.items _ c.in_ok-last.last
    (record { predecessors = c.from_vec.result; modes = c.from_vec-2.result })
    (omega arith) (omega arith) c.loop-job.invariant c.from_vec.ensures c.in_ok-last.ensures c.in_ok-push-4.ensures.items c.from_vec-2.ensures
