use Rattle.std.proofs.Common.{rules, sym, subst, List, ◌++◌}
use Rattle.std.specs.List.{AllZip}
use Rattle.rcpsp_model.proofs.Choices.{zip-append}
use Rattle.steal_rounds.specs.declared.member.Member.{Member}
use Rattle.steal_rounds.specs.Members.{Went}
use Rattle.steal_rounds.proofs.member.+fn-run_all-join_mut+arg2+fn-run_all-join_mut+arg3+run_all.Goals as goal

pub returns : goal.returns
returns g t c =
    let went = Went c.args.project.now c.args.records.now c.args.rows.now c.args.round in
    let x = c.split_at_mut-front.result.0.now in
    let y = c.split_at_mut-front.result.1.now in
    let front : AllZip went x c.front-1.given.0 = search rules in
    let back : AllZip went y c.back-1.given.0 = search rules in
    subst (λ (ms : List Member). AllZip went ms (c.front-1.given.0 ++ c.back-1.given.0)) (sym c.split_at_mut-front.ensures.value) (zip-append went x y c.front-1.given.0 c.back-1.given.0 front back)
