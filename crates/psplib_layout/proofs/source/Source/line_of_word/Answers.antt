use Rattle.std.proofs.Common.{◌∙◌, ◌+◌, ◌-◌, ◌≡◌, ◌≤◌, ◌<◌, ℕ, length, drop, sym, ap, arith}
use Rattle.psplib_lex.specs.Line.{line_at}
use Rattle.psplib_layout.specs.Place.{past}
use Rattle.psplib_layout.specs.Text.{line_of_word}
use Rattle.psplib_layout.proofs.JobLines.{line_here, line_later, line_none}
use Rattle.psplib_layout.proofs.source.Source.line_of_word.Goals as goal

pub returns-then-left-words : goal.returns-then-left-words
returns-then-left-words c =
    let words = c.args.self.now.words in
    let i = c.loop-line in
    let here : i.left < length (line_at words i.line).words - i.taken = omega (arith, c.if-left-words.true, c.saturating_sub-words.ensures, c.words_of.ensures) in
    c.line_number.ensures ∙ sym (line_here words i.line i.taken i.left (omega arith) here) ∙ i.invariant

pub loop-line-preserved : goal.loop-line-preserved
loop-line-preserved c =
    let words = c.args.self.now.words in
    let i = c.loop-line in
    let count : c.saturating_sub-words.result ≡ length (line_at words i.line).words - i.taken = omega (arith, c.saturating_sub-words.ensures, c.words_of.ensures) in
    let later : length (line_at words i.line).words - i.taken ≤ i.left = omega (arith, c.if-left-words.false) in
    ap (λ (n : ℕ). line_of_word (past 0 (drop (i.line + 1) words)) (i.left - n)) count ∙ sym (line_later words i.line i.taken i.left (omega arith) later) ∙ i.invariant

pub returns : goal.returns
returns c = sym (line_none c.args.self.now.words c.loop-line.line c.loop-line.taken c.loop-line.left (omega arith)) ∙ c.loop-line.invariant
