use Rattle.std.proofs.Common.{Option, List, ℕ, [], ◌∷◌, ◌++◌, rules}
use Rattle.sched_base.specs.Outside.{Gains}
use Rattle.proof_log.specs.declared.line.ReportLine.TheVariants.{End}
use Rattle.proof_log.specs.declared.report.Report.{Report}
use Rattle.proof_log.specs.Text.{verdict_lines, best_part, log_part, lines_of, text_of_lines}
use Rattle.proof_log.proofs.WrittenParts.{Writes, none_written, part_written, part_failed, all_written}
use Rattle.proof_log.proofs.writing.write_report.Goals as goal

verdict_written : (before now : Option (List ℕ)) (r : Report) → Gains before now (text_of_lines (verdict_lines r.verdict)) → Writes before now (lines_of r) (best_part r.best ++ (log_part r.log ++ End ∷ []))
verdict_written before now r gained = part_written before before now (lines_of r) (verdict_lines r.verdict) (best_part r.best ++ (log_part r.log ++ End ∷ [])) (none_written before (lines_of r)) gained

best_written : (before between now : Option (List ℕ)) (r : Report) → Writes before between (lines_of r) (best_part r.best ++ (log_part r.log ++ End ∷ [])) → Gains between now (text_of_lines (best_part r.best)) → Writes before now (lines_of r) (log_part r.log ++ End ∷ [])
best_written before between now r w gained = part_written before between now (lines_of r) (best_part r.best) (log_part r.log ++ End ∷ []) w gained

log_written : (before between now : Option (List ℕ)) (r : Report) → Writes before between (lines_of r) (log_part r.log ++ End ∷ []) → Gains between now (text_of_lines (log_part r.log)) → Writes before now (lines_of r) (End ∷ [])
log_written before between now r w gained = part_written before between now (lines_of r) (log_part r.log) (End ∷ []) w gained

pub returns-in_err-write_verdict-clause-front : goal.returns-in_err-write_verdict-clause-front
returns-in_err-write_verdict-clause-front g c =
    let held = g.K.Sink.held in
    let r = c.args.report.now in
    let f = part_failed (held c.args.out.now) (held c.args.out.now) (held c.write_verdict.new.out) (lines_of r) (verdict_lines r.verdict) (best_part r.best ++ (log_part r.log ++ End ∷ [])) (none_written (held c.args.out.now) (lines_of r)) c.in_err-write_verdict.ensures.front in
    search rules

pub returns-in_err-write_best-clause-front : goal.returns-in_err-write_best-clause-front
returns-in_err-write_best-clause-front g c =
    let held = g.K.Sink.held in
    let r = c.args.report.now in
    let v = verdict_written (held c.args.out.now) (held c.write_verdict.new.out) r c.in_ok-write_verdict.ensures.whole in
    let f = part_failed (held c.args.out.now) (held c.write_verdict.new.out) (held c.write_best.new.out) (lines_of r) (best_part r.best) (log_part r.log ++ End ∷ []) v c.in_err-write_best.ensures.front in
    search rules

pub returns-in_err-write_log-clause-front : goal.returns-in_err-write_log-clause-front
returns-in_err-write_log-clause-front g c =
    let held = g.K.Sink.held in
    let r = c.args.report.now in
    let v = verdict_written (held c.args.out.now) (held c.write_verdict.new.out) r c.in_ok-write_verdict.ensures.whole in
    let b = best_written (held c.args.out.now) (held c.write_verdict.new.out) (held c.write_best.new.out) r v c.in_ok-write_best.ensures.whole in
    let f = part_failed (held c.args.out.now) (held c.write_best.new.out) (held c.write_log.new.out) (lines_of r) (log_part r.log) (End ∷ []) b c.in_err-write_log.ensures.front in
    search rules

pub returns-in_err-write_line-clause-front : goal.returns-in_err-write_line-clause-front
returns-in_err-write_line-clause-front g c =
    let held = g.K.Sink.held in
    let r = c.args.report.now in
    let v = verdict_written (held c.args.out.now) (held c.write_verdict.new.out) r c.in_ok-write_verdict.ensures.whole in
    let b = best_written (held c.args.out.now) (held c.write_verdict.new.out) (held c.write_best.new.out) r v c.in_ok-write_best.ensures.whole in
    let l = log_written (held c.args.out.now) (held c.write_best.new.out) (held c.write_log.new.out) r b c.in_ok-write_log.ensures.whole in
    let f = part_failed (held c.args.out.now) (held c.write_log.new.out) (held c.write_line.new.out) (lines_of r) (End ∷ []) [] l c.in_err-write_line.ensures.front in
    search rules

pub returns-clause-whole : goal.returns-clause-whole
returns-clause-whole g c =
    let held = g.K.Sink.held in
    let r = c.args.report.now in
    let v = verdict_written (held c.args.out.now) (held c.write_verdict.new.out) r c.in_ok-write_verdict.ensures.whole in
    let b = best_written (held c.args.out.now) (held c.write_verdict.new.out) (held c.write_best.new.out) r v c.in_ok-write_best.ensures.whole in
    let l = log_written (held c.args.out.now) (held c.write_best.new.out) (held c.write_log.new.out) r b c.in_ok-write_log.ensures.whole in
    let e = part_written (held c.args.out.now) (held c.write_log.new.out) (held c.write_line.new.out) (lines_of r) (End ∷ []) [] l c.in_ok-write_line.ensures.whole in
    all_written (held c.args.out.now) (held c.write_line.new.out) (lines_of r) e
