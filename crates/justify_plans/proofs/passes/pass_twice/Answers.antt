use Rattle.std.proofs.Common.{arith}
use Rattle.justify_plans.specs.declared.direction.Direction.TheVariants.{Backward}
use Rattle.justify_plans.proofs.PassSteps.{pass-kept}
use Rattle.justify_plans.proofs.passes.pass_twice.Goals as goal

pub run_pass-requires-2-clause-feasible : goal.run_pass-requires-2-clause-feasible
run_pass-requires-2-clause-feasible c = (pass-kept Backward c.args.project.now c.known.ensures.acyclic c.args.places.now c.run_pass.new.places c.requires.feasible c.run_pass.ensures).feasible

pub run_pass-requires-2-clause-end : goal.run_pass-requires-2-clause-end
run_pass-requires-2-clause-end c =
    let within = (pass-kept Backward c.args.project.now c.known.ensures.acyclic c.args.places.now c.run_pass.new.places c.requires.feasible c.run_pass.ensures).within in
    let end = c.requires.end in
    omega arith
