use Rattle.std.proofs.Common.{◌≡◌, arith, length}
use Rattle.log_truth.specs.Log.{at_root}
use Rattle.log_checker.specs.declared.judging.Judged.TheVariants.{Broken, Shut, Open}
use Rattle.log_checker.specs.Said.{line_said}
use Rattle.log_checker.specs.Walk.{root_broken, root_shut, root_open}
use Rattle.log_checker.proofs.JudgedLines.{judged-at}
use Rattle.log_checker.proofs.walk.Walk.take_root.Goals as goal

pub returns-in-Broken : goal.returns-in-Broken
returns-in-Broken c =
    let size : c.len-expanded.result ≡ length c.args.self.now.grown.items = omega (arith, c.len-expanded.ensures, c.args.self.now.grown.ok.0) in
    root_broken c.in-Broken.reason c.args.self.now (judged-at c.args.project.now c.args.verdict c.len-expanded.result (length c.args.self.now.grown.items) at_root (line_said c.args.line) c.judge_root.result (Broken c.in-Broken.reason)
    c.judge_root.ensures size c.in-Broken.is)

pub returns-in-Shut : goal.returns-in-Shut
returns-in-Shut c =
    let size : c.len-expanded.result ≡ length c.args.self.now.grown.items = omega (arith, c.len-expanded.ensures, c.args.self.now.grown.ok.0) in
    root_shut c.begin.new.self (judged-at c.args.project.now c.args.verdict c.len-expanded.result (length c.args.self.now.grown.items) at_root (line_said c.args.line) c.judge_root.result Shut
    c.judge_root.ensures size c.in-Shut.is) c.begin.ensures

pub returns-in_ok-keep-in-Open : goal.returns-in_ok-keep-in-Open
returns-in_ok-keep-in-Open c =
    let size : c.len-expanded.result ≡ length c.args.self.now.grown.items = omega (arith, c.len-expanded.ensures, c.args.self.now.grown.ok.0) in
    root_open c.in-Open.node c.begin-in-Open.new.self c.keep.new.self (judged-at c.args.project.now c.args.verdict c.len-expanded.result (length c.args.self.now.grown.items) at_root (line_said c.args.line) c.judge_root.result (Open c.in-Open.node)
    c.judge_root.ensures size c.in-Open.is) c.begin-in-Open.ensures c.in_ok-keep-in-Open.ensures
