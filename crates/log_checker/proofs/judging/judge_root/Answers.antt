use Rattle.std.proofs.Common.{subst, List}
use Rattle.std.proofs.lemmas.Bool.{both_ways}
use Rattle.rcpsp_model.specs.declared.parts.Entry.{Entry}
use Rattle.rcpsp_model.specs.Bounds.{IsBudgetGap}
use Rattle.log_checker.specs.Said.{line_said}
use Rattle.log_checker.proofs.JudgedLines.{root-named}
use Rattle.log_checker.proofs.judging.judge_root.Goals as goal

pub returns-then-not-is_of_root : goal.returns-then-not-is_of_root
returns-then-not-is_of_root c =
    root-named c.args.project.now c.args.verdict c.args.expanded (line_said c.args.line) (λ named. both_ways c.is_of_root.result c.if-not-is_of_root.true (c.is_of_root.ensures.1 named))

pub returns-in-Some : goal.returns-in-Some
returns-in-Some c =
    let gap = subst (λ (F : List Entry). IsBudgetGap c.args.project.now F c.in-Some.resource) c.root-root.ensures.front c.in-Some.ensures.gap in
    c.judge_gap.ensures c.args.project.now c.args.expanded gap (c.is_of_root.ensures.0 c.if-not-is_of_root.false) c.args.verdict
