use Rattle.std.proofs.Common.{◌∙◌, ap, arith}
use Rattle.rcpsp_model.specs.Schedule.{entries}
use Rattle.rcpsp_model.proofs.Usage.{load, usage-total}
use Rattle.project_net.proofs.FeasibleParts.{sum-more, sum-all, usage-one}
use Rattle.project_net.proofs.feasible.usage_at.Goals as goal

pub loop-done-init : goal.loop-done-init
loop-done-init c = record {
  sum = let e = usage-total c.args.project.now (entries c.args.schedule.now) c.args.resource c.args.period in omega arith;
  limit = omega arith;
}

pub loop-done-preserved : goal.loop-done-preserved
loop-done-preserved c =
    let project = c.args.project.now in
    let whole = c.requires.placed.whole in let jobs = c.jobs-done-end.ensures.value in let test = c.loop-done-test.true in
    let limit = c.load_of-usage.ensures.limit in let old = c.loop-done.invariant.limit in record {
      sum = sum-more (load project c.args.resource c.args.period) c.args.schedule.now c.loop-done.done c.loop-done.usage c.load_of-usage.result _ (omega arith)
          (c.load_of-usage.ensures.value ∙ usage-one project c.entry_of-entry.result c.args.resource c.args.period ∙ ap (load project c.args.resource c.args.period) c.entry_of-entry.ensures.entry) c.loop-done.invariant.sum;
      limit = omega arith;
    }

pub returns : goal.returns
returns c =
    let whole = c.requires.placed.whole in let jobs = c.jobs-done-end.ensures.value in let test = c.loop-done-test.false in
    sum-all (load c.args.project.now c.args.resource c.args.period) c.args.schedule.now c.loop-done.done c.loop-done.usage _ (omega arith) c.loop-done.invariant.sum
