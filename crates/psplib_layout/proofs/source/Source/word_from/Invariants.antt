use Rattle.std.proofs.Common.{◌≡◌, drop}
use Rattle.psplib_layout.specs.Reading.{next_word}
use Rattle.psplib_layout.specs.Place.{past, rest_at}
use Rattle.psplib_layout.proofs.source.Source.word_from.Given as goal

abbrev pub invariant-loop-line : goal.invariant-loop-line
invariant-loop-line l = next_word l.self.end (past l.taken (drop l.line l.self.words)) ≡ next_word l.self.end (rest_at l.self.words l.fn.at)
