use Rattle.worker_tests.proofs.rounds.first_round.Goals as goal

pub next_terms-terms-requires-clause-goes : goal.next_terms-terms-requires-clause-goes
next_terms-terms-requires-clause-goes c = (1, c.in_ok-going.ensures.goes 1 c.args.nodes)
