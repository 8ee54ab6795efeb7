use Rattle.std.proofs.Common.{◌≡◌, arith, length}
use Rattle.log_truth.specs.Log.{by_choice}
use Rattle.log_checker.specs.declared.judging.Judged.TheVariants.{Broken, Shut, Open}
use Rattle.log_checker.specs.Said.{line_said}
use Rattle.log_checker.specs.Judged.{choice_at}
use Rattle.log_checker.specs.Walk.{child_broken, child_shut, child_open}
use Rattle.log_checker.proofs.JudgedLines.{judged-at}
use Rattle.log_checker.proofs.walk.Walk.take_child.Goals as goal

pub returns-in-Broken : goal.returns-in-Broken
returns-in-Broken c =
    let size : c.len-expanded.result ≡ length c.args.self.now.grown.items = omega (arith, c.len-expanded.ensures, c.args.self.now.grown.ok.0) in
    child_broken c.in-Broken.reason c.args.self.now (judged-at c.args.project.now c.args.verdict c.len-expanded.result (length c.args.self.now.grown.items) (by_choice c.args.parent.front.front (choice_at c.args.parent.next.job c.args.parent.next.mode)) (line_said c.args.line) c.in_ok-reason.field-0 (Broken c.in-Broken.reason)
    c.in_ok-reason.ensures size c.in-Broken.is)

pub returns-in_ok-advance-in-Shut : goal.returns-in_ok-advance-in-Shut
returns-in_ok-advance-in-Shut c =
    let size : c.len-expanded.result ≡ length c.args.self.now.grown.items = omega (arith, c.len-expanded.ensures, c.args.self.now.grown.ok.0) in
    child_shut c.advance.new.self (judged-at c.args.project.now c.args.verdict c.len-expanded.result (length c.args.self.now.grown.items) (by_choice c.args.parent.front.front (choice_at c.args.parent.next.job c.args.parent.next.mode)) (line_said c.args.line) c.in_ok-reason.field-0 Shut
    c.in_ok-reason.ensures size c.in-Shut.is) c.in_ok-advance-in-Shut.ensures

pub returns-in_ok-keep-in-Open : goal.returns-in_ok-keep-in-Open
returns-in_ok-keep-in-Open c =
    let size : c.len-expanded.result ≡ length c.args.self.now.grown.items = omega (arith, c.len-expanded.ensures, c.args.self.now.grown.ok.0) in
    child_open c.in-Open.node c.advance-in-Open.new.self c.cite.new.self c.keep.new.self
    (judged-at c.args.project.now c.args.verdict c.len-expanded.result (length c.args.self.now.grown.items) (by_choice c.args.parent.front.front (choice_at c.args.parent.next.job c.args.parent.next.mode)) (line_said c.args.line) c.in_ok-reason.field-0 (Open c.in-Open.node)
    c.in_ok-reason.ensures size c.in-Open.is) c.in_ok-advance-in-Open.ensures c.in_ok-cite-in-Open.ensures c.in_ok-keep-in-Open.ensures
