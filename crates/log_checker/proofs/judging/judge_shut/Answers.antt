use Rattle.std.proofs.Common.{arith}
use Rattle.std.proofs.lemmas.Bool.{both_ways}
use Rattle.log_checker.specs.Said.{line_said}
use Rattle.log_checker.proofs.JudgedLines.{shut-wrong, shut-started, shut-good}
use Rattle.log_checker.proofs.judging.judge_shut.Goals as goal

pub returns-then-not-is_cause : goal.returns-then-not-is_cause
returns-then-not-is_cause c P k F choice is named verdict =
    shut-wrong P verdict k F choice c.args.why (line_said c.args.line) is named (λ e. both_ways c.is_cause.result c.if-not-is_cause.true (c.is_cause.ensures.1 e))

pub returns-then-is_some : goal.returns-then-is_some
returns-then-is_some c P k F choice is named verdict =
    shut-started P verdict k F choice c.args.why (line_said c.args.line) is named (c.is_cause.ensures.0 c.if-not-is_cause.false) (grind arith)

pub returns : goal.returns
returns c P k F choice is named verdict =
    shut-good P verdict k F choice c.args.why (line_said c.args.line) is named (c.is_cause.ensures.0 c.if-not-is_cause.false) (grind arith)
