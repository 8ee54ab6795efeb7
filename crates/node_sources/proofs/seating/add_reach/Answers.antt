use Rattle.node_sources.proofs.NewSeats.{reach-added}
use Rattle.node_sources.proofs.NewReaches.{reaches-one_more}
use Rattle.node_sources.proofs.seating.add_reach.Goals as goal

pub returns-clause-new : goal.returns-clause-new
returns-clause-new c =
    reach-added c.args.sources.now c.args.other c.args.index c.reach_into.new.source c.hold.new.source c.index-sources-other.result c.index-sources-index.result c.in_ok-reach.reach
    c.requires.other c.requires.index c.requires.apart c.in_ok-reach.ensures c.in_ok-hold.ensures

pub returns-clause-more : goal.returns-clause-more
returns-clause-more c =
    reaches-one_more c.args.sources.now c.args.other c.args.index c.reach_into.new.source c.hold.new.source c.index-sources-other.result c.index-sources-index.result c.in_ok-reach.reach
    c.requires.other c.requires.index c.in_ok-reach.ensures c.in_ok-hold.ensures
