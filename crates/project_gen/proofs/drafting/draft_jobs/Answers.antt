use Rattle.std.proofs.Common.{◌≡◌, ◌+◌, ◌<◌, length, get_or, map, ap, ◌∙◌, arith, rules}
use Rattle.std.specs.List.{range_with_len}
use Rattle.std.proofs.lemmas.Iterator.Consumers.{YieldsList-turn, YieldsList-end}
use Rattle.std.proofs.lemmas.Iterator.Adapters.{YieldsList-from_vec}
use Rattle.std.proofs.lemmas.List.{length_push}
use Rattle.project_gen.specs.Drafting.{job_in, successors_in}
use Rattle.project_gen.proofs.DraftSteps.{drafted_more, length_drafted}
use Rattle.project_gen.proofs.drafting.draft_jobs.Goals as goal

pub loop-of_job-init : goal.loop-of_job-init
loop-of_job-init c = record { size = ap length c.in_ok-drafted.ensures.items; jobs = c.in_ok-drafted.ensures.items }

-- a job is left, so fewer are drafted than there are
few_drafted : (c : goal.After-len-in-loop-of_job) → c.len-in-loop-of_job.result < 128
few_drafted c =
    let l = c.loop-of_job in
    let turn = YieldsList-turn (YieldsList-from_vec {s = c.into_iter-of_job-iterator.result} c.into_vec-of_job-items.result.items (search rules) (search rules))
    l.yielded l.of_job-iterator l.yielded_by c.next.result c.next.new.self c.in-Some.of_job c.in-Some.is c.next.ensures.steps in
    let whole = ap length c.into_vec-of_job-items.ensures in
    let size = l.invariant.size in
    omega (arith, turn.0, whole, size, c.requires.few, l.drafted.ok.0, c.len-in-loop-of_job.ensures)

pub overflow_cast-job : goal.overflow_cast-job
overflow_cast-job c = omega (arith, few_drafted c)

pub overflow_add-job : goal.overflow_add-job
overflow_add-job c = omega (arith, few_drafted c)

pub loop-of_job-preserved : goal.loop-of_job-preserved
loop-of_job-preserved c =
    let l = c.loop-of_job in
    let modes = c.args.modes in
    let all = c.args.predecessors.now in
    let turn = YieldsList-turn (YieldsList-from_vec {s = c.into_iter-of_job-iterator.result} c.into_vec-of_job-items.result.items (search rules) (search rules))
    l.yielded l.of_job-iterator l.yielded_by c.next.result c.next.new.self c.in-Some.of_job c.in-Some.is c.next.ensures.steps in
    let whole = ap length c.into_vec-of_job-items.ensures in
    let size = l.invariant.size in
    let lt : length l.yielded < length modes = omega (arith, turn.0, whole) in
    let at : c.in-Some.of_job ≡ get_or modes (length l.yielded) c.in-Some.of_job = turn.1 ∙ ap (λ xs. get_or xs (length l.yielded) c.in-Some.of_job) c.into_vec-of_job-items.ensures in
    let more = drafted_more (length modes) all modes (length l.yielded) c.in-Some.of_job c.in_ok-successors.successors (c.len-in-loop-of_job.result + 1) l.drafted.items c.push.new.self.items
    lt at (omega (arith, size, l.drafted.ok.0, c.len-in-loop-of_job.ensures))
    (c.in_ok-successors.ensures ∙ ap (λ n. successors_in n all (c.len-in-loop-of_job.result + 1)) c.len-jobs.ensures) l.invariant.jobs c.in_ok-push.ensures.items in
    let longer = length_push l.yielded c.in-Some.of_job in
    record {
      size = length_drafted (length modes) all modes (length l.yielded + 1) c.push.new.self.items more ∙ omega (arith, longer);
      jobs = more ∙ ap (λ n. map (job_in (length modes) all modes) (range_with_len 1 n)) (omega (arith, longer));
    }

pub returns : goal.returns
returns c =
    let l = c.loop-of_job in
    let end = YieldsList-end (YieldsList-from_vec {s = c.into_iter-of_job-iterator.result} c.into_vec-of_job-items.result.items (search rules) (search rules))
    l.yielded l.of_job-iterator l.yielded_by c.next.result c.next.new.self c.in-None.is c.next.ensures.steps in
    let whole = ap length c.into_vec-of_job-items.ensures in
    c.from_vec.ensures ∙ l.invariant.jobs ∙ ap (λ n. map (job_in (length c.args.modes) c.args.predecessors.now c.args.modes) (range_with_len 1 n)) (end.1 ∙ whole)
