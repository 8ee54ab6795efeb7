use Rattle.std.proofs.Common.{◌∙◌, refl, sym, Option, Some}
use Rattle.log_checker.specs.declared.reason.Reason.{Reason}
use Rattle.log_checker.specs.Progress.{Progress, IsLogStep, IsLineStep}
use Rattle.log_checker.specs.Course.{Holds, Comes}
use Rattle.log_checker.proofs.LineSteps.{ok-map}
use Rattle.log_checker.proofs.CourseSteps.{head-goes, comes-log}
use Rattle.log_checker.proofs.course.Course.take_read.Goals as goal

pub returns-in-Line-clause-line : goal.returns-in-Line-clause-line
returns-in-Line-clause-line c =
    let P = c.args.project.now in
    let old = c.args.self.now in
    let new = c.take_log_line.new.self in
    ok-map (λ (r : Option Reason). (p : Progress) → Holds P old p → Comes P (IsLogStep P p c.in-Line.verdict (Some c.args.line)) r new)
    (λ (r : Option Reason). (p : Progress) → Holds P old p → Comes P (IsLineStep P p p.stage (Some c.args.line)) r new) c.take_log_line.result c.take_log_line.ensures.line
    (λ r come p h. comes-log P new p p.stage c.in-Line.verdict (Some c.args.line) r (sym h.stage ∙ c.in-Line.is) (come p h))

pub returns-in-Ok : goal.returns-in-Ok
returns-in-Ok c = record { ready = λ e. record { walk = c.requires.ready.walk; starts = c.requires.ready.starts }; line = λ p h. head-goes c.args.project.now c.args.self.now (record { stage = c.in-Ok.next; places = c.args.self.now.places; walk = c.args.self.now.walk }) p c.args.line c.in-Ok.next h (sym c.next_stage.ensures ∙ c.in-Ok.is) refl refl refl }
