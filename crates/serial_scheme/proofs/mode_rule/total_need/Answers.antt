use Rattle.std.proofs.Common.{arith}
use Rattle.serial_scheme.proofs.ModeSteps.{total_need-more}
use Rattle.serial_scheme.proofs.mode_rule.total_need.Goals as goal

pub loop-resource-preserved : goal.loop-resource-preserved
loop-resource-preserved c =
    let more = total_need-more c.args.project.now c.args.job c.args.mode c.loop-resource.resource in
    let value = c.need-total.ensures.value in let limit = c.need-total.ensures.limit in
    let old = c.loop-resource.invariant.0 in let low = c.loop-resource.invariant.1 in
    (omega arith, omega arith)
