use Rattle.std.proofs.Common.{◌<◌, length, ap, sym, ◌∙◌, arith, rules}
use Rattle.std.proofs.lemmas.Iterator.Consumers.{YieldsList-turn}
use Rattle.std.proofs.lemmas.Iterator.Adapters.{YieldsList-from_vec}
use Rattle.psplib_reader.proofs.DraftedJobs.{drafted_none, drafted_more, length_more}
use Rattle.psplib_reader.proofs.drafting.draft_jobs.Goals as goal

pub loop-of_job-init : goal.loop-of_job-init
loop-of_job-init c = record {
  size = ap length c.in_ok-jobs.ensures.items;
  jobs = c.in_ok-jobs.ensures.items ∙ sym (drafted_none c.args.rows.now);
}

pub loop-of_job-preserved : goal.loop-of_job-preserved
loop-of_job-preserved c =
    let l = c.loop-of_job in
    let turn = YieldsList-turn (YieldsList-from_vec {s = c.into_iter-of_job-iterator.result} c.into_vec-of_job-items.result.items (search rules) (search rules))
    l.yielded l.of_job-iterator l.yielded_by c.next.result c.next.new.self c.in-Some.of_job c.in-Some.is c.next.ensures.steps in
    let whole = ap length c.into_vec-of_job-items.ensures in
    let size = l.invariant.size in
    let lt : length l.yielded < length c.args.rows.now = omega (arith, turn.0, whole, c.requires.rows) in
    record {
      size = length_more l.yielded c.in-Some.of_job _ l.jobs.items _ size c.in_ok-push.ensures.items;
      jobs = drafted_more c.args.rows.now l.yielded c.in-Some.of_job c.index-rows-place.result c.in_ok-successors.successors c.len-place.result l.jobs.items _ lt (omega (arith, l.jobs.ok.0)) c.index-rows-place.is (c.in_ok-successors.ensures ∙ c.as_slice.ensures) l.invariant.jobs c.in_ok-push.ensures.items;
    }
