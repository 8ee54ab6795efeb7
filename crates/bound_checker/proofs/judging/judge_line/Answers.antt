use Rattle.bound_checker.proofs.NextLines.{text-next, none-next}
use Rattle.bound_checker.proofs.judging.judge_line.Goals as goal

pub returns-in-Some-clause-next : goal.returns-in-Some-clause-next
returns-in-Some-clause-next c =
    let found = c.in-Some.ensures.found in
    text-next c.args.project.now c.known.ensures c.args.stage c.args.windows.now c.after_line.new.windows c.args.bytes.now c.in-Some.line c.after_line.result found.0 found.1 c.after_line.ensures.next

pub returns-in-None-clause-next : goal.returns-in-None-clause-next
returns-in-None-clause-next c lines line at text b =
    none-next c.args.project.now c.known.ensures lines line c.parse_bound_line.result c.in-None.is b (λ is. c.parse_bound_line.ensures.all line is text)
