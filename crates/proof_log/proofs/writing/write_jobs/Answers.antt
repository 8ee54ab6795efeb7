use Rattle.std.proofs.Common.{◌+◌, arith, rules, refl, subst, List, [], ◌∷◌, drop}
use Rattle.std.proofs.lemmas.List.{drop_all}
use Rattle.rcpsp_model.specs.declared.parts.Placing.{Placing}
use Rattle.proof_log.specs.declared.line.ReportLine.TheVariants.{Job}
use Rattle.proof_log.specs.Text.{job_lines}
use Rattle.proof_log.proofs.WrittenParts.{Writes, part_written, part_failed, all_written, jobs_from, next_job}
use Rattle.proof_log.proofs.writing.write_jobs.Goals as goal

pub returns-in_err-write_line-clause-front : goal.returns-in_err-write_line-clause-front
returns-in_err-write_line-clause-front g c =
    let held = g.K.Sink.held in
    let places = c.args.places.now in
    let i = c.loop-index.index in
    let place = c.place-place.result in
    let next = next_job places i (i + 1) place refl c.place-place.ensures in
    let w = subst (Writes (held c.args.out.now) (held c.loop-index.out) (job_lines places)) next c.loop-index.invariant.written in
    let f = part_failed (held c.args.out.now) (held c.loop-index.out) (held c.write_line.new.out) (job_lines places) (Job (i + 1) place.mode place.start ∷ []) (jobs_from (i + 1 + 1) (drop (i + 1) places)) w (rw (c.from.ensures, c.from-in-loop-index.ensures) at c.in_err-write_line.ensures.front) in
    search rules

pub loop-index-preserved : goal.loop-index-preserved
loop-index-preserved g c =
    let held = g.K.Sink.held in
    let places = c.args.places.now in
    let i = c.loop-index.index in
    let place = c.place-place.result in
    let next = next_job places i (i + 1) place refl c.place-place.ensures in
    let w = subst (Writes (held c.args.out.now) (held c.loop-index.out) (job_lines places)) next c.loop-index.invariant.written in
    record {
      written = part_written (held c.args.out.now) (held c.loop-index.out) (held c.write_line.new.out) (job_lines places) (Job (i + 1) place.mode place.start ∷ []) (jobs_from (i + 1 + 1) (drop (i + 1) places)) w (rw (c.from.ensures, c.from-in-loop-index.ensures) at c.in_ok-write_line.ensures.whole);
      later = omega (arith, c.in_ok-write_line.ensures.cause.later);
    }

pub returns-clause-whole : goal.returns-clause-whole
returns-clause-whole g c =
    let held = g.K.Sink.held in
    let i = c.loop-index.index in
    all_written (held c.args.out.now) (held c.loop-index.out) (job_lines c.args.places.now)
    (subst (λ (xs : List Placing). Writes (held c.args.out.now) (held c.loop-index.out) (job_lines c.args.places.now) (jobs_from (i + 1) xs)) (drop_all i c.args.places.now (omega (arith, c.len-index-end.ensures))) c.loop-index.invariant.written)
