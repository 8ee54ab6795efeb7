use Rattle.worker_tests.proofs.rounds.without_rounds.Goals as goal

pub tell-requires : goal.tell-requires
tell-requires c = (c.args.project.now, 1, 0, c.of_plan-best.result.end, c.in_ok-gap-in-Some.ensures 1 0)

pub tell-requires-in-None : goal.tell-requires-in-None
tell-requires-in-None c = (c.args.project.now, 1, 0, c.in_ok-going-in-None.going.first, c.in_ok-ended-in-None.ensures 1 (c.in_ok-going-in-None.ensures.goes 1 0))
