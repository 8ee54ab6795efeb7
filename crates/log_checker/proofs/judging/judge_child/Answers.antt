use Rattle.std.proofs.lemmas.Bool.{both_ways}
use Rattle.log_checker.specs.Said.{line_said}
use Rattle.log_checker.specs.Judged.{choice_at}
use Rattle.log_checker.proofs.JudgedLines.{named-broken, shut-cause, placed-node}
use Rattle.log_checker.proofs.judging.judge_child.Goals as goal

pub returns-then-not-is_of_choice : goal.returns-then-not-is_of_choice
returns-then-not-is_of_choice c =
    let F = c.args.front.now.front in
    named-broken c.args.project.now c.args.verdict c.args.expanded F (choice_at c.args.job c.args.mode) (line_said c.args.line)
    (λ named. both_ways c.is_of_choice.result c.if-not-is_of_choice.true ((c.is_of_choice.ensures F).1 named))

pub returns-in-Shut : goal.returns-in-Shut
returns-in-Shut c =
    let P = c.args.project.now in
    let F = c.args.front.now.front in
    let is = shut-cause P F c.args.job c.args.mode c.in-Shut.job c.in-Shut.mode c.in-Shut.why c.in_ok-why.field-0 c.in_ok-why.ensures.child c.in-Shut.is in
    c.judge_shut.ensures P c.args.expanded F (choice_at c.args.job c.args.mode) is ((c.is_of_choice.ensures F).0 c.if-not-is_of_choice.false) c.args.verdict

pub returns-in-Placed : goal.returns-in-Placed
returns-in-Placed c =
    let P = c.args.project.now in
    let F = c.args.front.now.front in
    let node = placed-node P F c.args.job c.args.mode c.in-Placed.node c.in_ok-why.field-0 c.in_ok-why.ensures.child c.in-Placed.is in
    c.judge_placed.ensures F (choice_at c.args.job c.args.mode) node ((c.is_of_choice.ensures F).0 c.if-not-is_of_choice.false)
