use Rattle.std.proofs.Common.{ℕ, ◌+◌, refl, ap}
use Rattle.project_gen.specs.Made.{need_words, mode_words}
use Rattle.project_gen.proofs.DrawSteps.{mode_drawn, left_after}
use Rattle.project_gen.proofs.drawing.draw_mode.Goals as goal

pub returns-clause-mode : goal.returns-clause-mode
returns-clause-mode g c =
    mode_drawn c.args.modes _ _ _ (record { duration = 1 + c.draw-duration.result; requests = c.in_ok-requests.requests; needs = c.in_ok-needs.needs })
    (ap (λ (n : ℕ). 1 + n) c.draw-duration.ensures.value) c.draw-duration.ensures.left c.in_ok-requests.ensures.numbers c.in_ok-requests.ensures.left c.in_ok-needs.ensures.needs

pub returns-clause-left : goal.returns-clause-left
returns-clause-left g c =
    left_after _ _ _ 3 (need_words c.args.modes) (mode_words c.args.modes) (left_after _ _ _ 1 2 3 c.draw-duration.ensures.left c.in_ok-requests.ensures.left refl) c.in_ok-needs.ensures.left refl
