use Rattle.std.proofs.Common.{◌+◌, ◌≤◌, ap, List, [], ◌∷◌, drop, length, arith, rules, subst}
use Rattle.std.proofs.lemmas.List.{drop_all}
use Rattle.proof_log.specs.declared.line.ReportLine.TheVariants.{Log}
use Rattle.proof_log.specs.declared.report.LogLine.{LogLine}
use Rattle.proof_log.specs.Text.{log_lines}
use Rattle.proof_log.proofs.WrittenParts.{Writes, part_written, part_failed, all_written, next_log_line}
use Rattle.proof_log.proofs.writing.write_log_lines.Goals as goal

pub returns-in_err-write_line-clause-front : goal.returns-in_err-write_line-clause-front
returns-in_err-write_line-clause-front g c =
    let held = g.K.Sink.held in
    let log = c.args.log.now in
    let i = c.loop-line.line-index in
    let next = next_log_line log c.as_slice-line-items.result.now i _ c.log_words.result c.as_slice-line-items.ensures c.loop-line-test.true c.log_words.ensures in
    let f = part_failed (held c.args.out.now) (held c.loop-line.out) (held c.write_line.new.out) (log_lines log) (Log c.log_words.result ∷ []) (log_lines (drop (i + 1) log)) (subst (Writes (held c.args.out.now) (held c.loop-line.out) (log_lines log)) next c.loop-line.invariant.written) c.in_err-write_line.ensures.front in
    search rules

pub loop-line-preserved : goal.loop-line-preserved
loop-line-preserved g c =
    let held = g.K.Sink.held in
    let log = c.args.log.now in
    let i = c.loop-line.line-index in
    let next = next_log_line log c.as_slice-line-items.result.now i _ c.log_words.result c.as_slice-line-items.ensures c.loop-line-test.true c.log_words.ensures in
    record {
      written = part_written (held c.args.out.now) (held c.loop-line.out) (held c.write_line.new.out) (log_lines log) (Log c.log_words.result ∷ []) (log_lines (drop (i + 1) log)) (subst (Writes (held c.args.out.now) (held c.loop-line.out) (log_lines log)) next c.loop-line.invariant.written) c.in_ok-write_line.ensures.whole;
      later = omega (arith, c.in_ok-write_line.ensures.cause.later);
    }

pub returns-clause-whole : goal.returns-clause-whole
returns-clause-whole g c =
    let held = g.K.Sink.held in
    let log = c.args.log.now in
    let end : length log ≤ c.loop-line.line-index = omega (arith, ap length c.as_slice-line-items.ensures) in
    all_written (held c.args.out.now) (held c.loop-line.out) (log_lines log)
    (subst (λ (xs : List LogLine). Writes (held c.args.out.now) (held c.loop-line.out) (log_lines log) (log_lines xs)) (drop_all c.loop-line.line-index log end) c.loop-line.invariant.written)
