use Rattle.std.proofs.Common.{arith}
use Rattle.rcpsp_model.specs.Schedule.{used}
use Rattle.precedence_tree.proofs.Sums.{set-none, set-more}
use Rattle.cutset_store.proofs.facts.set_used.Goals as goal

pub loop-done-init : goal.loop-done-init
loop-done-init c = set-none (used c.args.project.now c.args.node.now.front) c.args.numbers.now

pub loop-done-preserved : goal.loop-done-preserved
loop-done-preserved c =
    let size = c.loop-done.auto.numbers in
    set-more c.loop-done.done (used c.args.project.now c.args.node.now.front) c.args.numbers.now c.loop-done.numbers _ (omega arith) c.used.ensures.value c.loop-done.invariant

pub returns : goal.returns
returns c = λ l range. c.loop-done.invariant.done l range.0 (let high = range.1 in let all = c.nonrenewables-done-end.ensures.value in omega arith)
