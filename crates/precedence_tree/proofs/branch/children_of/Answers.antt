use Rattle.std.proofs.Common.{◌≡◌, ℕ, arith, sym, ap, subst, ◌∙◌, List}
use Rattle.std.proofs.lemmas.Bool.{both_ways}
use Rattle.sched_base.specs.JobSet.{member}
use Rattle.rcpsp_model.specs.declared.parts.Child.{Child}
use Rattle.rcpsp_model.specs.Tree.{AreChildren, IsEligible}
use Rattle.rcpsp_model.proofs.ChildLists.{list_exchange_law}
use Rattle.precedence_tree.specs.declared.base.Base.{Base}
use Rattle.precedence_tree.specs.Node.{NodeState}
use Rattle.precedence_tree.specs.Children.{child_fronts}
use Rattle.precedence_tree.proofs.Branches.{by_jobs-next, by_jobs-all}
use Rattle.precedence_tree.proofs.branch.children_of.Goals as goal

pub loop-job-preserved : goal.loop-job-preserved
loop-job-preserved c =
    let P = c.args.project.now in
    let F = c.args.expansion.now.front in
    let set = c.base.result.now.eligible in
    let last = c.loop-job.last in
    let job = c.in-Some.job.0 in
    let next = c.in-Some.ensures.some in
    let same : (i : ℕ) → member set i ≡ member c.args.expansion.now.eligible i = λ i. ap (λ (b : Base). member b.eligible i) c.base.ensures in
    let own : IsEligible P F job = (c.requires.eligible job (let low = next.later in omega arith)).0 (sym (same job) ∙ next.own) in (
      by_jobs-next P F last job (child_fronts c.loop-job.all.items) (child_fronts c.push_by_mode.new.all.items) next.later
          (λ i low el. next.lowest i low (same i ∙ (c.requires.eligible i el.job.0).1 el)) own c.loop-job.invariant.0 c.in_ok-push_by_mode.ensures.children,
      c.in_ok-push_by_mode.ensures.stand,
      own.job.1,
    )

are : (c : goal.After-from_vec) → AreChildren c.args.project.now c.args.expansion.now.front (child_fronts c.from_vec.result)
are c =
    let P = c.args.project.now in
    let F = c.args.expansion.now.front in
    let same : (i : ℕ) → member c.base.result.now.eligible i ≡ member c.args.expansion.now.eligible i = λ i. ap (λ (b : Base). member b.eligible i) c.base.ensures in
    subst (λ (cs : List (Child NodeState)). AreChildren P F (child_fronts cs)) (sym c.from_vec.ensures)
    (by_jobs-all P F c.loop-job.last (child_fronts c.loop-job.all.items) c.loop-job.invariant.2
    (λ i low el. both_ways (member c.base.result.now.eligible i) (c.in_default.ensures.none i low) (same i ∙ (c.requires.eligible i el.job.0).1 el)) c.loop-job.invariant.0)

pub returns-clause-children : goal.returns-clause-children
returns-clause-children c = are c

pub returns-clause-exchange : goal.returns-clause-exchange
returns-clause-exchange c =
    list_exchange_law c.args.project.now c.args.expansion.now.front (child_fronts c.from_vec.result) c.known.ensures.acyclic c.requires.front (are c)
