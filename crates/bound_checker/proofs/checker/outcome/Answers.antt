use Rattle.std.proofs.Common.{◌≡◌, refl, false}
use Rattle.bound_checker.specs.declared.stage.Stage.{Stage}
use Rattle.bound_checker.specs.declared.stage.Stage.TheVariants as stages
use Rattle.bound_checker.specs.Stages.{is_ended}
use Rattle.bound_checker.proofs.Outcomes.{runs-refused, runs-accepted, accepted-judged, refused-judged}
use Rattle.bound_checker.proofs.checker.outcome.Goals as goal

pub returns-in-Ended : goal.returns-in-Ended
returns-in-Ended c reader bytes r =
    accepted-judged c.args.project.now c.known.ensures bytes c.in-Ended.bound (runs-accepted c.args.project.now c.known.ensures bytes reader c.args.course.now r c.in-Ended.bound c.in-Ended.is)

open_stage : (s : Stage) → ((b : _) → s ≡ stages.Ended b → ⊥) → is_ended s ≡ false
open_stage stages.Title h = refl
open_stage stages.Bound h = refl
open_stage stages.Step h = refl
open_stage (stages.End b) h = refl
open_stage (stages.Ended b) h = absurd (h b refl)

pub returns-in_default : goal.returns-in_default
returns-in_default c reader bytes r =
    refused-judged c.args.project.now c.known.ensures bytes (record { line = c.args.course.now.number })
    (runs-refused c.args.project.now c.known.ensures bytes reader c.args.course.now r (open_stage c.args.course.now.stage c.in_default.not-Ended))
