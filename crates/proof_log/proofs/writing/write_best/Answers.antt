use Rattle.proof_log.proofs.WrittenParts.{nothing, gains_nothing}
use Rattle.proof_log.proofs.writing.write_best.Goals as goal

pub returns-in-None-clause-whole : goal.returns-in-None-clause-whole
returns-in-None-clause-whole g c =
    let held = g.K.Sink.held in
    rw (c.in-None.is, nothing) (gains_nothing (held c.args.out.now))
