use Rattle.std.proofs.Common.{arith, sym, ap, ◌∙◌}
use Rattle.std.proofs.lemmas.Bool.{eqb-true, eqb-false}
use Rattle.project_gen.proofs.DraftSteps.{last_without, last_alone, followers_alone}
use Rattle.project_gen.proofs.drafting.successors.Goals as goal
use Rattle.project_gen.proofs.drafting.successors.Goals.{then-is_empty+in_ok-push, else-is_empty}

pub returns-then-job-jobs : goal.returns-then-job-jobs
returns-then-job-jobs c = last_without c.args.jobs c.args.predecessors.now c.args.job c.new.result c.if-job-jobs.true c.new.ensures

pub returns : goal.returns
returns c =
    let n = c.args.jobs in
    let all = c.args.predecessors.now in
    let found = c.in_ok-found.found in
    elim c.if-is_empty.branch [
      | then-is_empty+in_ok-push w ↦
          c.from_vec.ensures
          ∙ ap (λ v. v.items) w.found-is
          ∙ last_alone n all c.args.job found.items w.push.new.self.items c.if-job-jobs.false c.in_ok-found.ensures
          (let none = eqb-true _ 0 (sym c.is_empty.ensures ∙ w.if-is_empty.true) in omega (arith, found.ok.0)) w.in_ok-push.ensures.items
      | else-is_empty w ↦
          c.from_vec.ensures
          ∙ ap (λ v. v.items) w.found-is
          ∙ followers_alone n all c.args.job found.items c.if-job-jobs.false c.in_ok-found.ensures
          (λ none. let some = eqb-false _ 0 (sym c.is_empty.ensures ∙ w.if-is_empty.false) in some (omega (arith, found.ok.0)))
    ]
