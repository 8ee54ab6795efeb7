use Rattle.std.proofs.Common.{arith}
use Rattle.psplib_layout.proofs.Places.{left_some}
use Rattle.psplib_layout.proofs.source.Source.line_end_at.Goals as goal

pub returns-then-at-words_of : goal.returns-then-at-words_of
returns-then-at-words_of c =
    rw (c.refused.ensures, c.line_number.ensures) (left_some c.args.self.now.words c.args.at.line c.args.at.word (omega arith) (omega arith))
