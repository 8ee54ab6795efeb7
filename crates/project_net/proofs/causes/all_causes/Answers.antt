use Rattle.std.proofs.Common.{◌≡◌, arith, subst, sym, List}
use Rattle.rcpsp_model.specs.Project.{job_count}
use Rattle.project_net.specs.declared.causes.ModeCauses.{ModeCauses}
use Rattle.project_net.specs.Causes.{mode_count, AreFirstCauses}
use Rattle.project_net.proofs.ModePlaces.{causes-none, causes-all}
use Rattle.project_net.proofs.causes.all_causes.Goals as goal

pub loop-done-init : goal.loop-done-init
loop-done-init c =
    let P = c.args.network.now in
    subst (λ (causes : List ModeCauses). AreFirstCauses P (mode_count P 0) causes) (sym c.new-causes.ensures.items) (causes-none P)

pub returns : goal.returns
returns c =
    let P = c.args.network.now in
    let all : c.loop-done.done ≡ job_count P = let n = c.jobs-done-end.ensures.value in let f = c.loop-done-test.false in let top = c.loop-done.auto.done-end in omega arith in
    causes-all P c.loop-done.causes.items (subst (λ n. AreFirstCauses P (mode_count P n) c.loop-done.causes.items) all c.loop-done.invariant)
