use Rattle.search_rounds.specs.Found.{end_of_plan}
use Rattle.worker_tests.proofs.searches.search_alone.Goals as goal

pub tell-requires : goal.tell-requires
tell-requires g c =
    let P = c.args.project.now in
    let is = c.in_ok-ended.ensures in
    (P, 1, c.args.case.now.nodes, end_of_plan P is.plan, is.ended)
