use Rattle.std.proofs.Common.{◌+◌, ◌++◌, arith, refl, subst, ap, ◌∙◌, List, Some, [], ◌∷◌, drop, string_bytes}
use Rattle.std.proofs.lemmas.List.{drop_all}
use Rattle.rcpsp_model.specs.declared.parts.Placing.{Placing}
use Rattle.proof_log.specs.declared.line.ReportLine.TheVariants.{Job}
use Rattle.proof_log.specs.Text.{job_lines}
use Rattle.proof_log.proofs.WrittenParts.{Writes, part_written, all_written, jobs_from, next_job}
use Rattle.scheduler.proofs.plan_text.push_jobs.Goals as goal

pub loop-index-preserved : goal.loop-index-preserved
loop-index-preserved c =
    let places = c.args.places.now in
    let i = c.loop-index.index in
    let place = c.place-place.result in
    let next = next_job places i (i + 1) place refl c.place-place.ensures in
    let w = subst (Writes (Some (string_bytes c.args.text.now)) (Some (string_bytes c.loop-index.text)) (job_lines places)) next c.loop-index.invariant in
    part_written (Some (string_bytes c.args.text.now)) (Some (string_bytes c.loop-index.text)) (Some (string_bytes c.push_str.new.self)) (job_lines places) (Job (i + 1) place.mode place.start ∷ []) (jobs_from (i + 1 + 1) (drop (i + 1) places)) w
    (c.in_ok-push_str.ensures.bytes ∙ ap (λ xs. string_bytes c.loop-index.text ++ xs) (c.as_str.ensures.value ∙ c.in_ok-line.ensures))

pub returns : goal.returns
returns c =
    let i = c.loop-index.index in
    all_written (Some (string_bytes c.args.text.now)) (Some (string_bytes c.loop-index.text)) (job_lines c.args.places.now)
    (subst (λ (xs : List Placing). Writes (Some (string_bytes c.args.text.now)) (Some (string_bytes c.loop-index.text)) (job_lines c.args.places.now) (jobs_from (i + 1) xs)) (drop_all i c.args.places.now (omega (arith, c.len-index-end.ensures))) c.loop-index.invariant)
