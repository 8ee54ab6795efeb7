use Rattle.std.proofs.Common.{ℕ, ◌*◌, arith, ap, ◌∙◌}
use Rattle.project_gen.specs.Draws.{after}
use Rattle.project_gen.specs.Made.{mode_words}
use Rattle.project_gen.proofs.DrawSteps.{none_yet, modes_more, modes_left, modes_all}
use Rattle.project_gen.proofs.drawing.draw_modes.Goals as goal

pub loop-init : goal.loop-init
loop-init g c = record { left = none_yet c.args.modes (g.R.Rng.stream c.args.rng.now); modes = c.in_ok-drawn.ensures.items }

pub loop-preserved : goal.loop-preserved
loop-preserved g c = record {
  left = modes_left c.args.modes (g.R.Rng.stream c.args.rng.now) (g.R.Rng.stream c.loop.rng) (g.R.Rng.stream c.draw_mode.new.rng) c.loop.counter c.loop.invariant.left c.in_ok-mode.ensures.left;
  modes = modes_more c.args.modes (g.R.Rng.stream c.args.rng.now) (g.R.Rng.stream c.loop.rng) c.loop.counter c.in_ok-mode.mode c.loop.drawn.items c.push.new.self.items c.loop.invariant.modes c.loop.invariant.left c.in_ok-mode.ensures.mode c.in_ok-push.ensures.items;
}

pub returns-clause-modes : goal.returns-clause-modes
returns-clause-modes g c =
    c.from_vec.ensures ∙ modes_all c.args.modes (g.R.Rng.stream c.args.rng.now) c.loop.counter c.loop.drawn.items c.loop.invariant.modes (omega arith)

pub returns-clause-left : goal.returns-clause-left
returns-clause-left g c = c.loop.invariant.left ∙ ap (λ (i : ℕ). after (i * mode_words c.args.modes) (g.R.Rng.stream c.args.rng.now)) (omega arith)
