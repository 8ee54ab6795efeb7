use Rattle.std.proofs.Common.{◌≡◌, ◌*◌, map}
use Rattle.std.specs.List.{range_with_len}
use Rattle.project_gen.specs.Draws.{after}
use Rattle.project_gen.specs.Made.{mode_words}
use Rattle.project_gen.proofs.DrawSteps.{mode_in}
use Rattle.project_gen.proofs.drawing.draw_modes.Given as goal

abbrev pub invariant-loop : goal.invariant-loop
invariant-loop g l = record {
  left : g.R.Rng.stream l.rng ≡ after (l.counter * mode_words l.modes) (g.R.Rng.stream l.initial.rng);
  modes : l.drawn.items ≡ map (mode_in l.modes (g.R.Rng.stream l.initial.rng)) (range_with_len 1 l.counter);
}
