use Rattle.std.proofs.Common.{◌≡◌, refl, Option, List, [], Some}
use Rattle.proof_log.specs.declared.report.LogLine.{LogLine}
use Rattle.log_checker.specs.declared.reason.Reason.{Reason}
use Rattle.log_checker.specs.declared.course.Course.{Course}
use Rattle.log_checker.specs.Progress.{Progress, IsLogStep}
use Rattle.log_checker.specs.Said.{line_said}
use Rattle.log_checker.specs.Walk.{wanted_of, Stands, IsTaken}
use Rattle.log_checker.specs.Course.{Holds, Comes}
use Rattle.log_checker.proofs.LineSteps.{ok-map}
use Rattle.log_checker.proofs.CourseSteps.{line-goes}
use Rattle.log_checker.proofs.course.Course.take_log_line.Goals as goal

pub returns-in-Some-clause-line : goal.returns-in-Some-clause-line
returns-in-Some-clause-line c =
    let P = c.args.project.now in
    let v = c.args.verdict in
    let old = c.args.self.now in
    let new : Course = record { stage = c.args.self.now.stage; places = c.args.self.now.places; walk = c.take.new.self } in
    let some : wanted_of P old.walk ≡ [] → ⊥ = λ none. let complete = (c.is_complete.ensures P c.requires.ready.walk).1 none in let no_ = c.if-is_complete.false in absurd (cc) in
    ok-map (λ (r : Option Reason). (ls : List LogLine) → Stands P v old.walk ls → IsTaken P v ls (wanted_of P old.walk) (line_said c.in-Some.line) r c.take.new.self)
    (λ (r : Option Reason). (p : Progress) → Holds P old p → Comes P (IsLogStep P p v (Some c.args.line)) r new) c.take.result c.take.ensures.line
    (λ r taken p h. line-goes P old new p v c.args.line c.in-Log.words (line_said c.in-Some.line) r h c.requires.stage some c.in-Log.is c.in-Some.ensures refl refl taken)
