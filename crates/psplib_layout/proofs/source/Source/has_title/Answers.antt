use Rattle.std.proofs.Common.{sym, ◌∙◌, arith}
use Rattle.psplib_lex.specs.Line.{line_at}
use Rattle.psplib_layout.proofs.Keys.{word_breaks, word_leaves, words_end}
use Rattle.psplib_layout.proofs.source.Source.has_title.Goals as goal

pub returns-in-None : goal.returns-in-None
returns-in-None c =
    let words = (line_at c.args.self.now.words c.args.at.line).words in
    sym (word_breaks c.loop-word.left.now c.word.result.now words c.loop-word.word (omega arith) c.word.ensures c.in-None.ensures) ∙ c.loop-word.invariant

pub loop-word-preserved : goal.loop-word-preserved
loop-word-preserved c =
    let words = (line_at c.args.self.now.words c.args.at.line).words in
    sym (word_leaves c.loop-word.left.now c.word.result.now c.in-Some.rest.now words c.loop-word.word (omega arith) c.word.ensures c.in-Some.ensures) ∙ c.loop-word.invariant

pub returns : goal.returns
returns c =
    let words = (line_at c.args.self.now.words c.args.at.line).words in
    c.is_empty.ensures ∙ sym (words_end c.loop-word.left.now words c.loop-word.word (omega arith)) ∙ c.loop-word.invariant
