use Rattle.search_rounds.specs.Found.{end_of_plan}
use Rattle.schedule_cli.proofs.crew_tests.search_stealing.Goals as goal

pub tell-requires : goal.tell-requires
tell-requires g c =
    let P = c.args.project.now in
    let is = c.in_ok-ended.ensures in
    (P, 2, 100000, end_of_plan P is.plan, is.ended)
