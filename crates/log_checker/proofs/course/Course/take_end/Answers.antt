use Rattle.std.proofs.Common.{refl}
use Rattle.log_checker.specs.declared.stage.Stage.TheVariants as stages
use Rattle.log_checker.proofs.CourseSteps.{end-goes}
use Rattle.log_checker.proofs.course.Course.take_end.Goals as goal

pub returns-in-End-clause-line : goal.returns-in-End-clause-line
returns-in-End-clause-line c P p h none =
    end-goes P c.args.self.now (record { stage = stages.Ended c.args.verdict; places = c.args.self.now.places; walk = c.args.self.now.walk }) p c.args.verdict c.args.line h c.requires.stage none c.in-End.is refl refl refl
