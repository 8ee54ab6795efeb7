use Rattle.std.proofs.Common.{[], ◌∷◌, ◌+◌, drop, get_or, arith, rules, subst}
use Rattle.std.proofs.lemmas.List.{drop_all, drop_more}
use Rattle.proof_log.specs.declared.line.ReportLine.TheVariants.{Title}
use Rattle.proof_log.proofs.WrittenParts.{Writes, part_written, part_failed, all_written}
use Rattle.proof_log.proofs.writing.write_lines.Goals as goal

pub returns-in_err-write_line-clause-front : goal.returns-in_err-write_line-clause-front
returns-in_err-write_line-clause-front g c =
    let held = g.K.Sink.held in
    let lines = c.args.lines.now in
    let i = c.loop-line.line-index in
    let w = subst (Writes (held c.args.out.now) (held c.loop-line.out) lines) (drop_more lines i Title c.loop-line-test.true) c.loop-line.invariant.written in
    let f = part_failed (held c.args.out.now) (held c.loop-line.out) (held c.write_line.new.out) lines (get_or lines i Title ∷ []) (drop (i + 1) lines) w c.in_err-write_line.ensures.front in
    search rules

pub loop-line-preserved : goal.loop-line-preserved
loop-line-preserved g c =
    let held = g.K.Sink.held in
    let lines = c.args.lines.now in
    let i = c.loop-line.line-index in
    let w = subst (Writes (held c.args.out.now) (held c.loop-line.out) lines) (drop_more lines i Title c.loop-line-test.true) c.loop-line.invariant.written in
    record {
      written = part_written (held c.args.out.now) (held c.loop-line.out) (held c.write_line.new.out) lines (get_or lines i Title ∷ []) (drop (i + 1) lines) w c.in_ok-write_line.ensures.whole;
      later = omega (arith, c.in_ok-write_line.ensures.cause.later);
    }

pub returns-clause-whole : goal.returns-clause-whole
returns-clause-whole g c =
    let held = g.K.Sink.held in
    let lines = c.args.lines.now in
    all_written (held c.args.out.now) (held c.loop-line.out) lines
    (subst (Writes (held c.args.out.now) (held c.loop-line.out) lines) (drop_all c.loop-line.line-index lines (omega arith)) c.loop-line.invariant.written)
