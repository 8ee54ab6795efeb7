use Rattle.std.proofs.Common.{◌∙◌, sym, arith}
use Rattle.std.proofs.lemmas.Bool.{both_ways}
use Rattle.log_checker.specs.Said.{line_said}
use Rattle.log_checker.proofs.JudgedLines.{placed-shut, placed-started, placed-fate, placed-many, placed-good}
use Rattle.log_checker.proofs.judging.judge_placed.Goals as goal

pub returns-then-is_shut : goal.returns-then-is_shut
returns-then-is_shut c F choice node named =
    placed-shut c.args.project.now c.args.verdict c.args.expanded F choice c.args.node (line_said c.args.line) node named (sym c.is_shut.ensures ∙ c.if-is_shut.true)

pub returns-then-ne : goal.returns-then-ne
returns-then-ne c F choice node named =
    placed-started c.args.project.now c.args.verdict c.args.expanded F choice c.args.node (line_said c.args.line) node named (sym c.is_shut.ensures ∙ c.if-is_shut.false) (grind arith)

pub returns-then-not-allows : goal.returns-then-not-allows
returns-then-not-allows c F choice node named =
    placed-fate c.args.project.now c.args.verdict c.args.expanded F choice c.args.node (line_said c.args.line) node named (sym c.is_shut.ensures ∙ c.if-is_shut.false) (grind arith)
    (λ a. both_ways c.allows.result c.if-not-allows.true (c.allows.ensures.1 a))

pub returns-then-not-is_few : goal.returns-then-not-is_few
returns-then-not-is_few c F choice node named =
    placed-many c.args.project.now c.args.verdict c.args.expanded F choice c.args.node (line_said c.args.line) node named (sym c.is_shut.ensures ∙ c.if-is_shut.false) (grind arith)
    (c.allows.ensures.0 c.if-not-allows.false) (λ few. both_ways c.is_few.result c.if-not-is_few.true (c.is_few.ensures.1 few))

pub returns : goal.returns
returns c F choice node named =
    placed-good c.args.project.now c.args.verdict c.args.expanded F choice c.args.node (line_said c.args.line) c.requires node named (sym c.is_shut.ensures ∙ c.if-is_shut.false) (grind arith)
    (c.allows.ensures.0 c.if-not-allows.false) (c.is_few.ensures.0 c.if-not-is_few.false)
