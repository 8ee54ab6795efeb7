use Rattle.std.proofs.Common.{◌≡◌, drop}
use Rattle.std.specs.List.{concat}
use Rattle.psplib_lex.specs.Line.{line_at}
use Rattle.psplib_layout.specs.Title.{begins_with}
use Rattle.psplib_layout.proofs.source.Source.has_title.Given as goal

abbrev pub invariant-loop-word : goal.invariant-loop-word
invariant-loop-word l =
    begins_with l.left (concat (drop l.word (line_at l.self.words l.at.line).words)) ≡ begins_with l.fn.key (concat (drop l.fn.at.word (line_at l.self.words l.at.line).words))
