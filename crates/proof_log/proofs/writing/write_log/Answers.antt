use Rattle.std.proofs.Common.{[], ◌∷◌, rules}
use Rattle.proof_log.specs.declared.line.ReportLine.TheVariants.{LogYes}
use Rattle.proof_log.specs.Text.{log_lines}
use Rattle.proof_log.proofs.WrittenParts.{none_written, part_written, part_failed, last_part, all_written}
use Rattle.proof_log.proofs.writing.write_log.Goals as goal

pub returns-in_err-write_line-in-Some-clause-front : goal.returns-in_err-write_line-in-Some-clause-front
returns-in_err-write_line-in-Some-clause-front g c =
    let held = g.K.Sink.held in
    let lines = LogYes ∷ log_lines c.in-Some.log in
    let f = part_failed (held c.args.out.now) (held c.args.out.now) (held c.write_line-in-Some.new.out) lines (LogYes ∷ []) (log_lines c.in-Some.log) (none_written (held c.args.out.now) lines) c.in_err-write_line-in-Some.ensures.front in
    rw c.in-Some.is (search rules)

pub returns-in_err-write_log_lines-in-Some-clause-front : goal.returns-in_err-write_log_lines-in-Some-clause-front
returns-in_err-write_log_lines-in-Some-clause-front g c =
    let held = g.K.Sink.held in
    let log = log_lines c.in-Some.log in
    let w = part_written (held c.args.out.now) (held c.args.out.now) (held c.write_line-in-Some.new.out) (LogYes ∷ log) (LogYes ∷ []) log (none_written (held c.args.out.now) (LogYes ∷ log)) c.in_ok-write_line-in-Some.ensures.whole in
    let f = part_failed (held c.args.out.now) (held c.write_line-in-Some.new.out) (held c.write_log_lines.new.out) (LogYes ∷ log) log [] (last_part w) c.in_err-write_log_lines-in-Some.ensures.front in
    rw c.in-Some.is (search rules)

pub returns-in_ok-write_log_lines-in-Some-clause-whole : goal.returns-in_ok-write_log_lines-in-Some-clause-whole
returns-in_ok-write_log_lines-in-Some-clause-whole g c =
    let held = g.K.Sink.held in
    let log = log_lines c.in-Some.log in
    let w = part_written (held c.args.out.now) (held c.args.out.now) (held c.write_line-in-Some.new.out) (LogYes ∷ log) (LogYes ∷ []) log (none_written (held c.args.out.now) (LogYes ∷ log)) c.in_ok-write_line-in-Some.ensures.whole in
    let v = part_written (held c.args.out.now) (held c.write_line-in-Some.new.out) (held c.write_log_lines.new.out) (LogYes ∷ log) log [] (last_part w) c.in_ok-write_log_lines-in-Some.ensures.whole in
    rw c.in-Some.is (all_written (held c.args.out.now) (held c.write_log_lines.new.out) (LogYes ∷ log) v)
