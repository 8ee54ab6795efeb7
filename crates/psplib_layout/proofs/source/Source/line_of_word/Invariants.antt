use Rattle.std.proofs.Common.{◌≡◌, drop}
use Rattle.psplib_layout.specs.Place.{past, rest_at}
use Rattle.psplib_layout.specs.Text.{line_of_word}
use Rattle.psplib_layout.proofs.source.Source.line_of_word.Given as goal

abbrev pub invariant-loop-line : goal.invariant-loop-line
invariant-loop-line l = line_of_word (past l.taken (drop l.line l.self.words)) l.left ≡ line_of_word (rest_at l.self.words l.fn.at) l.fn.index
