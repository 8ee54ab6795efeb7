use Rattle.std.proofs.Common.{◌-◌, length}
use Rattle.search_log.proofs.WalkSpans.{IsUnderway}
use Rattle.search_log.proofs.walk.preorder.Given as goal

abbrev pub invariant-loop-span : goal.invariant-loop-span
invariant-loop-span l = IsUnderway l.rows l.order.items l.stack.items

abbrev pub decreases-loop-span : goal.decreases-loop-span
decreases-loop-span l = length l.rows - length l.order.items
