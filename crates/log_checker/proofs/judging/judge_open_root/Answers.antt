use Rattle.std.proofs.Common.{◌∙◌, sym}
use Rattle.std.proofs.lemmas.Bool.{both_ways}
use Rattle.log_checker.specs.Said.{line_said}
use Rattle.log_checker.proofs.JudgedLines.{root-shut, root-fate, root-many, root-good}
use Rattle.log_checker.proofs.judging.judge_open_root.Goals as goal

pub returns-then-is_shut : goal.returns-then-is_shut
returns-then-is_shut c named =
    root-shut c.args.project.now c.args.verdict c.args.expanded (line_said c.args.line) c.requires.open named (sym c.is_shut.ensures ∙ c.if-is_shut.true)

pub returns-then-not-allows : goal.returns-then-not-allows
returns-then-not-allows c named =
    root-fate c.args.project.now c.args.verdict c.args.expanded (line_said c.args.line) c.args.node.front c.requires.root c.requires.open named (sym c.is_shut.ensures ∙ c.if-is_shut.false)
    (λ a. both_ways c.allows.result c.if-not-allows.true (c.allows.ensures.1 a))

pub returns-then-not-is_few : goal.returns-then-not-is_few
returns-then-not-is_few c named =
    root-many c.args.project.now c.args.verdict c.args.expanded (line_said c.args.line) c.args.node.front c.requires.root c.requires.open named (sym c.is_shut.ensures ∙ c.if-is_shut.false)
    (c.allows.ensures.0 c.if-not-allows.false) (λ few. both_ways c.is_few.result c.if-not-is_few.true (c.is_few.ensures.1 few))

pub returns : goal.returns
returns c named =
    root-good c.args.project.now c.args.verdict c.args.expanded (line_said c.args.line) c.args.node c.requires.node c.requires.root c.requires.open named (sym c.is_shut.ensures ∙ c.if-is_shut.false)
    (c.allows.ensures.0 c.if-not-allows.false) (c.is_few.ensures.0 c.if-not-is_few.false)
