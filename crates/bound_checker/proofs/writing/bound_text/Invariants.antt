use Rattle.std.proofs.Common.{◌≡◌}
use Rattle.bound_checker.specs.Text.{text_of}
use Rattle.bound_checker.proofs.WrittenBounds.{lines_to}
use Rattle.bound_checker.proofs.writing.bound_text.Given as goal

-- the steps so far stand in the text
abbrev pub invariant-loop-step : goal.invariant-loop-step
invariant-loop-step l = l.text.items ≡ text_of (lines_to l.found.bound l.found.steps l.step-index)
