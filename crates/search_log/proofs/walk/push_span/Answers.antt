use Rattle.std.proofs.Common.{◌∙◌, ap}
use Rattle.search_log.specs.Walk.{places_of}
use Rattle.search_log.proofs.WalkSpans.{places-last}
use Rattle.search_log.proofs.walk.push_span.Goals as goal

pub returns-in_ok-push-clause-places : goal.returns-in_ok-push-clause-places
returns-in_ok-push-clause-places c = ap places_of c.in_ok-push.ensures.items ∙ places-last c.args.stack.now.items (record { next = c.args.next; count = c.args.count })
