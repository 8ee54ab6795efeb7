use Rattle.std.proofs.Common.{subst, inr}
use Rattle.std.proofs.lemmas.Result.{err_from_is_err_and}
use Rattle.psplib_layout.specs.Place.{IsRefused}
use Rattle.psplib_layout.specs.Text.{HasCycle}
use Rattle.psplib_layout.proofs.OneContent.{refused_as_long, short_text}
use Rattle.psplib_reader.proofs.CycleRefused.{IsRead, lowest_by, job_is, within_read, reads_from, cycle_first, line_is_read, refused_first, exit_is}
use Rattle.psplib_reader.proofs.reader.judged.Goals as goal

pub returns-in_err-source-clause-refused : goal.returns-in_err-source-clause-refused
returns-in_err-source-clause-refused c f same =
    let e = c.in_err-source.field-0.0 in
    let p = err_from_is_err_and c.from_residual.result c.from_residual.ensures.1 in
    refused_first c.args.text.now e f (refused_as_long c.args.text.now e c.in_err-source.ensures.long) (exit_is c.from_residual.result e p.0 f p.1 p.2 same)

pub returns-in_err-content-clause-refused : goal.returns-in_err-content-clause-refused
returns-in_err-content-clause-refused c f same =
    let s = c.in_ok-source in
    let e = c.in_err-content.field-0.0 in
    let p = err_from_is_err_and c.from_residual-in_err-content.result c.from_residual-in_err-content.ensures.1 in
    refused_first c.args.text.now e f (subst (IsRefused e) (short_text c.args.text.now s.source.words s.source.end s.ensures.short s.ensures.lines s.ensures.end) c.in_err-content.ensures.exact) (exit_is c.from_residual-in_err-content.result e p.0 f p.1 p.2 same)

pub returns-in-Ok-clause-ok : goal.returns-in-Ok-clause-ok
returns-in-Ok-clause-ok c =
    let s = c.in_ok-source in
    let content = c.in_ok-content.content in
    let r : IsRead c.args.text.now s.source.words s.source.end content = record { few_bytes = s.ensures.short; lines_are = s.ensures.lines; end_is = s.ensures.end; layout = c.in_ok-content.ensures.exact } in
    reads_from c.args.text.now s.source.words s.source.end content c.in_ok-draft.draft c.in-Ok.project r c.in_ok-draft.ensures.project c.in-Ok.ensures.sound c.in-Ok.ensures.ok

pub line_of_job-requires-clause-some : goal.line_of_job-requires-clause-some
line_of_job-requires-clause-some c =
    (job_is c.in_ok-content.content c.in_ok-draft.draft c.in-Err-Cycle.job c.in_ok-content.ensures.limits c.in_ok-draft.ensures.project (lowest_by c.in_ok-draft.draft c.in-Err-Cycle.field-0 c.in-Err-Cycle.job c.in-Err-Cycle.field-0-is c.in-Err-Cycle.ensures.refused)).0

pub line_of_job-requires-clause-within : goal.line_of_job-requires-clause-within
line_of_job-requires-clause-within c =
    let job = job_is c.in_ok-content.content c.in_ok-draft.draft c.in-Err-Cycle.job c.in_ok-content.ensures.limits c.in_ok-draft.ensures.project (lowest_by c.in_ok-draft.draft c.in-Err-Cycle.field-0 c.in-Err-Cycle.job c.in-Err-Cycle.field-0-is c.in-Err-Cycle.ensures.refused) in
    within_read c.in_ok-source.source.words c.in_ok-source.source.end c.in_ok-content.content c.in-Err-Cycle.job c.in_ok-content.ensures.exact job.1

pub returns-in_err-line-in-Err-Cycle-clause-refused : goal.returns-in_err-line-in-Err-Cycle-clause-refused
returns-in_err-line-in-Err-Cycle-clause-refused c f same =
    let s = c.in_ok-source in
    let content = c.in_ok-content.content in
    let r : IsRead c.args.text.now s.source.words s.source.end content = record { few_bytes = s.ensures.short; lines_are = s.ensures.lines; end_is = s.ensures.end; layout = c.in_ok-content.ensures.exact } in
    let exit = c.from_residual-in_err-line-in-Err-Cycle in
    let e = c.in_err-line-in-Err-Cycle.field-0.0 in
    let p = err_from_is_err_and exit.result exit.ensures.1 in
    absurd (line_is_read c.args.text.now s.source.words s.source.end content c.in-Err-Cycle.job e f r c.in_err-line-in-Err-Cycle.ensures (exit_is exit.result e p.0 f p.1 p.2 same))

pub returns-in-Err-Cycle-clause-refused : goal.returns-in-Err-Cycle-clause-refused
returns-in-Err-Cycle-clause-refused c f same =
    let s = c.in_ok-source in
    let content = c.in_ok-content.content in
    let r : IsRead c.args.text.now s.source.words s.source.end content = record { few_bytes = s.ensures.short; lines_are = s.ensures.lines; end_is = s.ensures.end; layout = c.in_ok-content.ensures.exact } in
    let lowest = lowest_by c.in_ok-draft.draft c.in-Err-Cycle.field-0 c.in-Err-Cycle.job c.in-Err-Cycle.field-0-is c.in-Err-Cycle.ensures.refused in
    let cycle = cycle_first c.args.text.now s.source.words s.source.end content c.in_ok-draft.draft c.in-Err-Cycle.job c.in_ok-line-in-Err-Cycle.line r c.in_ok-draft.ensures.project lowest c.in_ok-line-in-Err-Cycle.ensures in
    inr (subst (HasCycle c.args.text.now) (cc same) cycle)
