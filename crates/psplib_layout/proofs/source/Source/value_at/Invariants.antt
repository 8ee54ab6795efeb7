use Rattle.std.proofs.Common.{◌≡◌, drop}
use Rattle.psplib_lex.specs.Line.{line_at}
use Rattle.psplib_layout.specs.Title.{header_value}
use Rattle.psplib_layout.proofs.source.Source.value_at.Given as goal

abbrev pub invariant-loop-word : goal.invariant-loop-word
invariant-loop-word l = header_value (drop l.word (line_at l.self.words l.at.line).words) ≡ header_value (drop l.fn.at.word (line_at l.self.words l.at.line).words)
