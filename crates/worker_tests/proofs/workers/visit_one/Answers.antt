use Rattle.worker_tests.proofs.workers.visit_one.Goals as goal

pub returns-in-Expanded-clause-stack : goal.returns-in-Expanded-clause-stack
returns-in-Expanded-clause-stack g c =
    let visits = rw c.in-Expanded.is at c.in_ok-close.ensures.visits in
    c.in_ok-push_placed-in-Expanded.ensures c.args.project.now c.requires.stack visits.did.stand
