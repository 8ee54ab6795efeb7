use Rattle.std.proofs.Common.{arith}
use Rattle.window_refuter.proofs.LeastRequests.{least_request-one, least_request-more, least_request-all}
use Rattle.window_refuter.proofs.least.least_request.Goals as goal
use Rattle.window_refuter.proofs.least.least_request.Goals.{then-request-least, else-request-least}

pub loop-mode-init : goal.loop-mode-init
loop-mode-init c =
    let one = least_request-one c.args.project.now c.args.job c.args.resource (let n = c.modes-modes.ensures.value in let some = c.modes-modes.ensures.some in omega arith) in
    let value = c.request-least.ensures.value in let limit = c.request-least.ensures.limit in
    (omega arith, omega arith)

pub loop-mode-preserved : goal.loop-mode-preserved
loop-mode-preserved c =
    let more = least_request-more c.args.project.now c.args.job c.args.resource c.loop-mode.mode c.loop-mode.auto.mode (let t = c.loop-mode-test.true in let n = c.modes-modes.ensures.value in omega arith) in
    let value = c.request-request.ensures.value in
    let old = c.loop-mode.invariant.0 in let limit = c.loop-mode.invariant.1 in
    elim c.if-request-least.branch [
      | then-request-least w ↦ let t = w.if-request-least.true in let e = w.least-is in (omega arith, omega arith)
      | else-request-least w ↦ let f = w.if-request-least.false in let e = w.least-is in (omega arith, omega arith)
    ]

pub returns-clause-value : goal.returns-clause-value
returns-clause-value c =
    let all = least_request-all c.args.project.now c.args.job c.args.resource c.loop-mode.mode (let t = c.loop-mode-test.false in let n = c.modes-modes.ensures.value in omega arith) in
    let old = c.loop-mode.invariant.0 in omega arith
