use Rattle.std.proofs.lemmas.Bool.{both_ways}
use Rattle.log_checker.specs.Said.{line_said}
use Rattle.log_checker.proofs.JudgedLines.{gap-wrong, gap-good}
use Rattle.log_checker.proofs.judging.judge_gap.Goals as goal

pub returns-then-not-is_cause : goal.returns-then-not-is_cause
returns-then-not-is_cause c P k gap named verdict =
    gap-wrong P verdict k c.args.resource (line_said c.args.line) gap named (λ e. both_ways c.is_cause.result c.if-not-is_cause.true (c.is_cause.ensures.1 e))

pub returns : goal.returns
returns c P k gap named verdict = gap-good P verdict k c.args.resource (line_said c.args.line) gap named (c.is_cause.ensures.0 c.if-not-is_cause.false)
