use Rattle.std.proofs.Common.{◌+◌, arith, refl}
use Rattle.std.specs.Int.{trailing_zeros, w128}
use Rattle.sched_base.proofs.Sets.{member-one}
use Rattle.precedence_tree.proofs.LowestBits.{lowest-taken}
use Rattle.precedence_tree.proofs.LongestTails.{longest-none, longest-more, longest-all}
use Rattle.precedence_tree.proofs.tails.longest_tail.Goals as goal

pub loop-rest-init : goal.loop-rest-init
loop-rest-init c = (longest-none c.args.project.now c.args.jobs, omega arith)

pub tail-requires : goal.tail-requires
tail-requires c =
    let place = trailing_zeros w128 c.loop-rest.rest in
    let taken = lowest-taken c.loop-rest.rest (omega arith) (omega arith) in
    c.requires (place + 1) (omega arith) (member-one c.args.jobs place (c.loop-rest.invariant.0.within place taken.set))

pub loop-rest-smaller : goal.loop-rest-smaller
loop-rest-smaller c = (lowest-taken c.loop-rest.rest (omega arith) (omega arith)).fewer

pub loop-rest-preserved : goal.loop-rest-preserved
loop-rest-preserved c = (
  longest-more c.args.project.now c.args.jobs c.loop-rest.rest c.loop-rest.longest (trailing_zeros w128 c.loop-rest.rest) _ (trailing_zeros w128 c.loop-rest.rest + 1) c.tail.result c.max-longest.result
      (lowest-taken c.loop-rest.rest (omega arith) (omega arith)) refl c.tail.ensures.value c.max-longest.ensures c.loop-rest.invariant.0,
  (let most = c.max-longest.ensures in let limit = c.tail.ensures.limit in let old = c.loop-rest.invariant.1 in omega arith),
)

pub returns-clause-value : goal.returns-clause-value
returns-clause-value c = λ F are. longest-all c.args.project.now F c.args.jobs c.loop-rest.rest c.loop-rest.longest (omega arith) c.loop-rest.invariant.0 are
