use Rattle.std.proofs.Common.{◌-◌, length}
use Rattle.node_sources.specs.Seating.{KeepsNew, ReachesMore}
use Rattle.node_sources.proofs.NewReaches.{first_behind}
use Rattle.node_sources.proofs.seating.add_reaches.Given as goal

abbrev pub invariant-loop-steps : goal.invariant-loop-steps
invariant-loop-steps l = record {
  new : KeepsNew l.initial.sources l.sources;
  more : ReachesMore l.index (first_behind l.index (length l.initial.sources) (l.steps - 1)) l.initial.sources l.sources;
}
