use Rattle.std.proofs.Common.{ℕ, sym, subst}
use Rattle.std.specs.Prelude.{All}
use Rattle.tree_worker.specs.Live.{IsLiveRecord}
use Rattle.tree_worker.specs.Worker.{WorkerState}
use Rattle.tree_worker.proofs.HearSteps.{number-same}
use Rattle.tree_worker.proofs.worker.TreeWorker.cited_live.Goals as goal

pub find-requires-clause-records : goal.find-requires-clause-records
find-requires-clause-records g c =
    let P = c.args.project.now in
    let rows = c.args.rows.now in
    let v = c.args.pass.now.view in
    let heard = subst (λ (w : WorkerState). All (IsLiveRecord P rows v.number) w.heard) (sym c.self.view_is) c.requires.heard in
    subst (λ (k : ℕ). All (IsLiveRecord P rows k) c.take_in.new.self.records.items) (sym (number-same v c.take_in.new.pass.view c.take_in.ensures.listens)) (c.take_in.ensures.records P heard)
