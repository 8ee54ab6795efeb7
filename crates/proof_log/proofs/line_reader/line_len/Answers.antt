use Rattle.proof_log.proofs.FedLines.{line_len-position}
use Rattle.proof_log.proofs.line_reader.line_len.Goals as goal

pub returns-clause-value : goal.returns-clause-value
returns-clause-value c = let e = line_len-position c.args.piece.now in cc
