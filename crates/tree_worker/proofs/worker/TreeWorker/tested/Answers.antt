use Rattle.std.proofs.Common.{sym, subst}
use Rattle.std.specs.Prelude.{All}
use Rattle.precedence_tree.specs.Base.{IsBaseOf}
use Rattle.tree_worker.specs.Worker.{WorkerState}
use Rattle.tree_worker.proofs.worker.TreeWorker.tested.Goals as goal

pub find-own-requires-clause-records : goal.find-own-requires-clause-records
find-own-requires-clause-records c = subst (λ (w : WorkerState). All (IsBaseOf c.args.project.now) w.expanded) (sym c.self.view_is) c.requires.own
