use Rattle.std.proofs.Common.{ℕ, ◌+◌, ◌-◌, refl, ap, ◌∙◌}
use Rattle.project_gen.specs.Draws.{draw}
use Rattle.project_gen.proofs.DrawSteps.{predecessors_drawn, left_after}
use Rattle.project_gen.proofs.drawing.draw_predecessors.Goals as goal

pub returns-clause-value : goal.returns-clause-value
returns-clause-value g c =
    let s = g.R.Rng.stream c.args.rng.now in
    let t = g.R.Rng.stream c.draw-first.new.rng in
    predecessors_drawn c.args.job s t (record { first = 1 + c.draw-first.result; second = 1 + c.draw-second.result })
    (ap (λ (n : ℕ). 1 + n) c.draw-first.ensures.value ∙ ap (λ (n : ℕ). 1 + draw s 0 (n - 1)) c.from-before.ensures)
    c.draw-first.ensures.left
    (ap (λ (n : ℕ). 1 + n) c.draw-second.ensures.value ∙ ap (λ (n : ℕ). 1 + draw t 0 (n - 1)) c.from-before.ensures)

pub returns-clause-left : goal.returns-clause-left
returns-clause-left g c = left_after _ _ _ 1 1 2 c.draw-first.ensures.left c.draw-second.ensures.left refl
