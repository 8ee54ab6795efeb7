use Rattle.std.proofs.Common.{◌≡◌, length}
use Rattle.tree_worker.specs.Worker.{IsAtWork}
use Rattle.tree_worker.specs.Visits.{StaysOf}
use Rattle.node_sources.specs.Seats.{Stays}
use Rattle.steal_rounds.specs.Turns.{stage_of, KeepsShare, Counts}
use Rattle.steal_rounds.proofs.work.work.Given as goal

abbrev pub invariant-loop-done : goal.invariant-loop-done
invariant-loop-done g l = record {
  table : l.pass.table ≡ l.words;
  stays : StaysOf l.initial.pass.view l.pass.view;
  work : IsAtWork l.project l.rows (record { worker = l.worker; pass = l.pass.view });
  unrefused : l.pass.view.refused ≡ 0;
  source : Stays l.initial.part.source l.part.source;
  counts : Counts (stage_of l.worker l.pass l.part);
  fills : length l.part.fills.items ≡ l.done;
  number : l.number ≡ l.pass.view.number;
  first : l.done ≡ 0 → l.part.source ≡ l.initial.part.source;
  keeps : KeepsShare l.project l.records (record { round = l.round; worker = l.number; turn = 0 }) (stage_of l.initial.worker l.initial.pass l.initial.part) (stage_of l.worker l.pass l.part);
}
