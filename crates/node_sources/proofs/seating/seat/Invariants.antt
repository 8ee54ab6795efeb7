use Rattle.std.proofs.Common.{◌≡◌, vec_len}
use Rattle.node_sources.specs.Settled.{AreNew}
use Rattle.node_sources.proofs.NewReaches.{ReachUpTo}
use Rattle.node_sources.proofs.seating.seat.Given as goal

abbrev pub invariant-loop-index : goal.invariant-loop-index
invariant-loop-index l = record {
  len : vec_len l.sources ≡ vec_len l.initial.sources;
  new : AreNew l.project l.fn.dealt.items l.sources.items;
  reach : ReachUpTo l.index l.sources.items;
}
