use Rattle.std.proofs.Common.{rules}
use Rattle.sched_base.proofs.GainedInTurn.{gains_next, gains_front}
use Rattle.sched_base.proofs.writing.write_whole.Goals as goal

pub returns-in_err-written-clause-front : goal.returns-in_err-written-clause-front
returns-in_err-written-clause-front g c =
    let f = gains_front _ _ _ c.args.bytes.now c.loop-written.written c.loop-written.invariant.gained c.in_err-written.ensures.kept in search rules

pub loop-written-preserved : goal.loop-written-preserved
loop-written-preserved g c =
    let f = gains_next _ _ _ c.args.bytes.now c.loop-written.written c.in_ok-written.field-0 c.loop-written.invariant.gained c.in_ok-written.ensures.gained in search rules
