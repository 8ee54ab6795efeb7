use Rattle.std.proofs.Common.{◌≡◌, drop}
use Rattle.psplib_layout.specs.Title.{skipped_to}
use Rattle.psplib_layout.specs.Place.{past, rest_at}
use Rattle.psplib_layout.proofs.source.Source.first_with.Given as goal

abbrev pub invariant-loop-line : goal.invariant-loop-line
invariant-loop-line l = skipped_to l.self.end l.key (past l.word (drop l.line l.self.words)) ≡ skipped_to l.self.end l.key (rest_at l.self.words l.fn.at)
