use Rattle.std.proofs.Common.{sym, subst, arith, Err}
use Rattle.log_checker.specs.declared.refused.Refused.{Refused}
use Rattle.log_checker.specs.Citations.{IsFirstOf}
use Rattle.log_checker.specs.Checker.{IsOutcome}
use Rattle.log_checker.proofs.ReportEnds.{text-ends, not-ended-stage, log-stands, not-served, not-lower, accepted}
use Rattle.log_checker.proofs.finishing.judge_end.Goals as goal

pub returns-in_default : goal.returns-in_default
returns-in_default c reader bytes r =
    let P = c.args.project.now in
    subst (λ (x : Refused). IsOutcome P bytes (Err x)) (sym c.refusal.ensures)
    (text-ends P reader c.args.number c.args.course.now bytes c.known.ensures.limits r (not-ended-stage c.args.course.now.stage c.in_default.not-Ended))

pub returns-in-Ok-Some : goal.returns-in-Ok-Some
returns-in-Ok-Some c reader bytes r =
    let P = c.args.project.now in
    let course = c.args.course.now in
    let verdict = c.in-Ended.verdict in
    let stands = log-stands P reader c.args.number course bytes c.known.ensures.limits r verdict c.in-Ended.is in
    subst (λ (x : Refused). IsOutcome P bytes (Err x)) (sym c.refusal-in-Ok-Some.ensures)
    (not-served P reader c.args.number course bytes c.known.ensures.limits r verdict c.in-Ended.is c.in-Ok-Some.line c.report_line.result (subst (IsFirstOf P r.progress.lines) c.in-Ok-Some.field-0-is (c.in-Ok-Some.ensures verdict r.progress.lines stands)) (λ few most. let size = c.len.ensures in let at = c.report_line.ensures (omega arith) most in omega arith))

pub returns-then-not-has_lower : goal.returns-then-not-has_lower
returns-then-not-has_lower c reader bytes r =
    let P = c.args.project.now in
    let course = c.args.course.now in
    let verdict = c.in-Ended.verdict in
    let stands = log-stands P reader c.args.number course bytes c.known.ensures.limits r verdict c.in-Ended.is in
    let lower = c.has_lower.ensures r.progress.lines stands.left in
    subst (λ (x : Refused). IsOutcome P bytes (Err x)) (sym c.refusal-then-not-has_lower.ensures)
    (not-lower P reader c.args.number course bytes c.known.ensures.limits r verdict c.in-Ended.is (subst (IsFirstOf P r.progress.lines) c.in-Ok-None.field-0-is (c.in-Ok-None.ensures verdict r.progress.lines stands)) (λ h. absurd (let t = lower.1 h in let no = c.if-not-has_lower.true in cc)))

pub returns : goal.returns
returns c reader bytes r =
    let P = c.args.project.now in
    let course = c.args.course.now in
    let verdict = c.in-Ended.verdict in
    let stands = log-stands P reader c.args.number course bytes c.known.ensures.limits r verdict c.in-Ended.is in
    let lower = c.has_lower.ensures r.progress.lines stands.left in
    accepted P reader c.args.number course bytes c.known.ensures.limits r verdict c.in-Ended.is (subst (IsFirstOf P r.progress.lines) c.in-Ok-None.field-0-is (c.in-Ok-None.ensures verdict r.progress.lines stands)) (lower.0 c.if-not-has_lower.false)
