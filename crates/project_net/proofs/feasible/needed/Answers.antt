use Rattle.std.proofs.Common.{◌+◌, ◌∙◌, ap, arith}
use Rattle.rcpsp_model.specs.declared.parts.Entry.{Entry}
use Rattle.rcpsp_model.specs.Project.{need}
use Rattle.rcpsp_model.specs.Schedule.{entries}
use Rattle.project_net.proofs.FeasibleParts.{need_of, used-total, sum-more, sum-all}
use Rattle.project_net.proofs.feasible.needed.Goals as goal

pub loop-done-init : goal.loop-done-init
loop-done-init c = record {
  sum = let e = used-total c.args.project.now (entries c.args.schedule.now) c.args.resource in omega arith;
  limit = omega arith;
}

pub loop-done-preserved : goal.loop-done-preserved
loop-done-preserved c =
    let project = c.args.project.now in
    let whole = c.requires.placed.whole in let jobs = c.jobs-done-end.ensures.value in let test = c.loop-done-test.true in
    let limit = c.need-needed.ensures.limit in let old = c.loop-done.invariant.limit in record {
      sum = sum-more (need_of project c.args.resource) c.args.schedule.now c.loop-done.done c.loop-done.needed c.need-needed.result _ (omega arith)
          (c.need-needed.ensures.value ∙ ap (λ (e : Entry). need project (c.loop-done.done + 1) e.mode c.args.resource) c.entry_of-entry.ensures.entry) c.loop-done.invariant.sum;
      limit = omega arith;
    }

pub returns : goal.returns
returns c =
    let whole = c.requires.placed.whole in let jobs = c.jobs-done-end.ensures.value in let test = c.loop-done-test.false in
    sum-all (need_of c.args.project.now c.args.resource) c.args.schedule.now c.loop-done.done c.loop-done.needed _ (omega arith) c.loop-done.invariant.sum
