use Rattle.std.proofs.Common.{◌≡◌, ◌+◌, arith, subst, sym, List, length}
use Rattle.rcpsp_model.specs.Project.{modes_of}
use Rattle.project_net.specs.declared.causes.ModeCauses.{ModeCauses}
use Rattle.project_net.specs.Causes.{mode_place, AreFirstCauses}
use Rattle.project_net.proofs.ModePlaces.{causes-push, causes-end}
use Rattle.project_net.proofs.causes.push_causes.Goals as goal

pub loop-mode-preserved : goal.loop-mode-preserved
loop-mode-preserved c =
    let P = c.args.network.now in let m = c.loop-mode.mode in
    let few = c.modes-mode-end.ensures.value in let t = c.loop-mode-test.true in
    let more = causes-push P c.loop-mode.causes.items c.args.job m c.causes_of.result c.requires.job (c.loop-mode.auto.mode, omega arith) c.loop-mode.invariant c.causes_of.ensures in
    subst (λ (causes : List ModeCauses). AreFirstCauses P (mode_place P c.args.job (m + 1)) causes) (sym c.in_ok-push.ensures.items) more

pub returns : goal.returns
returns c =
    let P = c.args.network.now in
    let end : c.loop-mode.mode ≡ length (modes_of P c.args.job) + 1 = let few = c.modes-mode-end.ensures.value in let f = c.loop-mode-test.false in let top = c.loop-mode.auto.mode-end in omega arith in
    causes-end P c.loop-mode.causes.items c.args.job c.loop-mode.mode c.requires.job end c.loop-mode.invariant
