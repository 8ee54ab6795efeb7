use Rattle.std.proofs.Common.{sym}
use Rattle.proof_log.proofs.CutWords.{one_word, first_word}
use Rattle.window_refuter.proofs.reading.split_word.Goals as goal

pub returns-in-None : goal.returns-in-None
returns-in-None c = one_word c.args.bytes.now (sym c.in-None.ensures)

pub returns-in-Some : goal.returns-in-Some
returns-in-Some c = first_word c.args.bytes.now c.in-Some.end (sym c.in-Some.ensures)
