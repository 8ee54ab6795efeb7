use Rattle.std.proofs.Common.{arith}
use Rattle.justify_plans.specs.Improved.{at_last, goes_on}
use Rattle.justify_plans.proofs.Moved.{placed-self}
use Rattle.justify_plans.proofs.PassSteps.{double-kept}
use Rattle.justify_plans.proofs.passes.improve.Goals as goal

pub plan_end-end-requires : goal.plan_end-end-requires
plan_end-end-requires c = record { placed = placed-self c.args.project.now c.args.places.now c.requires.feasible c.requires.end }

pub plan_end-now-requires : goal.plan_end-now-requires
plan_end-now-requires c =
    let P = c.args.project.now in let old = c.passes.invariant in
    let kept = double-kept P c.known.ensures.acyclic c.passes.places c.pass_twice.new.places old.feasible c.pass_twice.ensures in
    let within = kept.within in let end = old.end in let limit = old.limit in
    record { placed = placed-self P c.pass_twice.new.places kept.feasible (omega arith) }

pub returns-then-end-now : goal.returns-then-end-now
returns-then-end-now c =
    let old = c.passes.invariant in
    let now = c.plan_end-now.ensures.value in let end = old.end in let test = c.if-end-now.true in
    old.goes_on c.pass_twice.new.places (at_last c.pass_twice.ensures (omega arith))

pub passes-preserved : goal.passes-preserved
passes-preserved c =
    let P = c.args.project.now in let old = c.passes.invariant in
    let now = c.plan_end-now.ensures.value in let end = old.end in let limit = old.limit in let test = c.if-end-now.false in
    let kept = double-kept P c.known.ensures.acyclic c.passes.places c.pass_twice.new.places old.feasible c.pass_twice.ensures in
    record {
      feasible = kept.feasible;
      end = now;
      limit = omega arith;
      goes_on = λ r more. old.goes_on r (goes_on c.pass_twice.ensures (omega arith) more);
    }
