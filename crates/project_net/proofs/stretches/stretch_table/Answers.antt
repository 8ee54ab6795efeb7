use Rattle.std.proofs.Common.{arith, subst, sym}
use Rattle.project_net.specs.Stretches.{AreStretches}
use Rattle.project_net.proofs.StretchTables.{own-more, table-all}
use Rattle.project_net.proofs.stretches.stretch_table.Goals as goal

pub loop-done-preserved : goal.loop-done-preserved
loop-done-preserved c =
    own-more c.args.network.now c.loop-done.done c.len.result c.loop-done.firsts.items _ c.loop-done.stretches.items _ c.as_slice.result.now c.loop-done.invariant
    (subst (AreStretches c.args.network.now _) (sym c.as_slice.ensures.value) c.in_ok-own.ensures) c.in_ok-extend_from_slice.ensures.items
    (let size = c.extend_from_slice.new.self.ok.0 in omega (arith, c.len.ensures)) c.in_ok-push-2.ensures.items

pub returns : goal.returns
returns c = table-all c.args.network.now c.loop-done.done _ (let n = c.renewables-done-end.ensures.value in let t = c.loop-done-test.false in let e = c.loop-done.auto.done-end in omega arith) c.loop-done.invariant c.calm-calm.ensures
