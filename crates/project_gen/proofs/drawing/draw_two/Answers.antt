use Rattle.std.proofs.Common.{refl, ◌∙◌}
use Rattle.project_gen.proofs.DrawSteps.{drawn_two, left_after}
use Rattle.project_gen.proofs.drawing.draw_two.Goals as goal

pub returns-clause-numbers : goal.returns-clause-numbers
returns-clause-numbers g c =
    drawn_two _ _ c.draw-first.result c.draw-second.result c.args.bound c.from_vec.result (c.from_vec.ensures ∙ c.in_ok-numbers.ensures.items) c.draw-first.ensures.value c.draw-first.ensures.left c.draw-second.ensures.value

pub returns-clause-left : goal.returns-clause-left
returns-clause-left g c = left_after _ _ _ 1 1 2 c.draw-first.ensures.left c.draw-second.ensures.left refl
