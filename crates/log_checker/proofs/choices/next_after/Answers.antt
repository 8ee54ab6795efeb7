use Rattle.std.proofs.Common.{◌+◌, ◌<◌, arith, sym, subst, List, length}
use Rattle.rcpsp_model.specs.Project.{modes_of}
use Rattle.rcpsp_model.specs.Tree.{Choice}
use Rattle.log_checker.specs.Choices.{IsNextChoice}
use Rattle.log_checker.proofs.LeftChoices.{from-last}
use Rattle.log_checker.proofs.choices.next_after.Goals as goal

pub returns : goal.returns
returns c =
    let P = c.args.project.now in
    let F = c.args.front.now.front in
    let past : length (modes_of P c.args.turn.job) < c.args.turn.mode + 1 = (let size = c.modes.ensures.value in let all = c.if-turn-modes.false in omega arith) in
    subst (λ (left : List Choice). IsNextChoice P F left c.first_above.result) (sym (from-last P F c.args.turn.job (c.args.turn.mode + 1) past)) c.first_above.ensures
