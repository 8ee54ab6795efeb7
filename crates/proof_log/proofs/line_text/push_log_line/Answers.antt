use Rattle.std.proofs.Common.{arith}
use Rattle.std.proofs.lemmas.Grind.{common_steps}
use Rattle.proof_log.specs.Line.{number_word, log_line_words}
use Rattle.proof_log.proofs.JoinedWords.{join-fate}
use Rattle.proof_log.proofs.line_text.push_log_line.Goals as goal

pub returns-clause-items : goal.returns-clause-items
unfolding log_line_words
returns-clause-items c =
    rw (join-fate (number_word c.args.line.start) c.args.line.letter c.args.line.number) (grind (arith, common_steps))
