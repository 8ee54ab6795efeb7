use Rattle.std.proofs.Common.{◌∙◌}
use Rattle.project_gen.proofs.DrawSteps.{idle_drawn}
use Rattle.project_gen.proofs.drawing.idle_modes.Goals as goal

pub returns : goal.returns
returns c = idle_drawn c.args.modes c.from_vec.result c.in_ok-needs.needs c.from_vec-2.result (c.from_vec-2.ensures ∙ c.in_ok-idle.ensures.items) (c.from_vec.ensures ∙ c.in_ok-requests.ensures.items) c.in_ok-needs.ensures
