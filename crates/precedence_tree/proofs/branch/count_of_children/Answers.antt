use Rattle.std.proofs.Common.{◌≡◌, ℕ, arith, sym, ap, ◌∙◌}
use Rattle.std.proofs.lemmas.Bool.{both_ways}
use Rattle.sched_base.specs.JobSet.{member}
use Rattle.rcpsp_model.specs.Tree.{IsEligible}
use Rattle.precedence_tree.specs.declared.base.Base.{Base}
use Rattle.precedence_tree.proofs.ChoiceCounts.{choices-next, choices-all}
use Rattle.precedence_tree.proofs.branch.count_of_children.Goals as goal

pub loop-job-preserved : goal.loop-job-preserved
loop-job-preserved c =
    let P = c.args.project.now in
    let F = c.args.expansion.now.front in
    let next = c.in-Some.ensures.some in
    let at : (i : ℕ) → member c.base.result.now.eligible i ≡ member c.args.expansion.now.eligible i = λ i. ap (λ (b : Base). member b.eligible i) c.base.ensures in
    let job : IsEligible P F c.in-Some.job.0 = (c.requires.eligible c.in-Some.job.0 (let low = next.later in omega arith)).0 (sym (at c.in-Some.job.0) ∙ next.own) in
    let more = choices-next P F c.loop-job.above c.in-Some.job.0 next.later (λ i low el. next.lowest i low (at i ∙ (c.requires.eligible i el.job.0).1 el)) job in
    let own = c.modes.ensures.value in
    let few = c.modes.ensures.few in
    let was = c.loop-job.invariant.0 in
    let low = c.loop-job.invariant.1 in
    let later = next.later in
    (omega arith, omega arith, job.job.1)

pub returns : goal.returns
returns c =
    let at : (i : ℕ) → member c.base.result.now.eligible i ≡ member c.args.expansion.now.eligible i = λ i. ap (λ (b : Base). member b.eligible i) c.base.ensures in
    c.loop-job.invariant.0
    ∙ sym (choices-all c.args.project.now c.args.expansion.now.front c.loop-job.above c.loop-job.invariant.2
    (λ i low el. both_ways (member c.base.result.now.eligible i) (c.in_default.ensures.none i low) (at i ∙ (c.requires.eligible i el.job.0).1 el)))
