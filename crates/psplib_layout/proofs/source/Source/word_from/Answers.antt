use Rattle.std.proofs.Common.{◌∙◌, sym, arith}
use Rattle.psplib_layout.proofs.Places.{next_here, next_later, next_none}
use Rattle.psplib_layout.proofs.source.Source.word_from.Goals as goal

pub returns-then-taken-words_of : goal.returns-then-taken-words_of
returns-then-taken-words_of c =
    let s = c.args.self.now in
    rw (c.line_number.ensures, c.word.ensures) (sym c.loop-line.invariant ∙ next_here s.end s.words c.loop-line.line c.loop-line.taken (omega arith) (omega arith))

pub loop-line-preserved : goal.loop-line-preserved
loop-line-preserved c =
    let s = c.args.self.now in
    sym (next_later s.end s.words c.loop-line.line c.loop-line.taken (omega arith) (omega arith)) ∙ c.loop-line.invariant

pub returns : goal.returns
returns c =
    let s = c.args.self.now in
    rw c.refused.ensures (sym c.loop-line.invariant ∙ next_none s.end s.words c.loop-line.line c.loop-line.taken (omega arith))
