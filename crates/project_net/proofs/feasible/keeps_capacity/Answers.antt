use Rattle.std.proofs.lemmas.Bool.{both_ways}
use Rattle.project_net.proofs.FeasibleParts.{keeps-capacity, begins-fit, starts-fit}
use Rattle.project_net.proofs.feasible.keeps_capacity.Goals as goal

pub returns-then-fits_at_begins : goal.returns-then-fits_at_begins
returns-then-fits_at_begins c = (
  λ yes_. keeps-capacity c.args.project.now c.args.schedule.now c.args.resource c.stretches-stretches.result.now c.requires.placed.whole c.stretches-stretches.ensures
      (c.fits_at_begins.ensures.0 c.if-fits_at_begins.true) (c.fits_at_starts.ensures.0 yes_),
  λ keeps. c.fits_at_starts.ensures.1 (starts-fit c.args.project.now c.args.schedule.now c.args.resource keeps),
)

pub returns-else-fits_at_begins : goal.returns-else-fits_at_begins
returns-else-fits_at_begins c = (
  λ yes_. absurd (both_ways _ c.if-fits_at_begins.false yes_),
  λ keeps. c.fits_at_begins.ensures.1 (begins-fit c.args.project.now c.args.schedule.now c.args.resource c.stretches-stretches.result.now c.stretches-stretches.ensures keeps),
)
