use Rattle.std.proofs.Common.{◌≡◌, arith, subst}
use Rattle.window_refuter.specs.Refuted.{NoneRefutes}
use Rattle.window_refuter.proofs.Bounded.{bound-from, shows-sound}
use Rattle.window_refuter.proofs.bound.window_bound.Goals as goal

pub returns-clause-bound : goal.returns-clause-bound
returns-clause-bound c =
    let P = c.args.project.now in
    let i = c.loop-low.invariant in
    let order = i.order in
    let most = i.most in
    let past = c.loop-low-test.false in
    let same : c.loop-low.high ≡ c.loop-low.low = omega arith in
    bound-from P c.loop-low.low c.loop-low.steps c.known.ensures.acyclic (omega arith) (λ within. subst (NoneRefutes P) same (i.none (omega arith))) i.shows

pub returns-clause-sound : goal.returns-clause-sound
returns-clause-sound c = shows-sound c.args.project.now c.loop-low.low c.loop-low.steps c.known.ensures.acyclic c.loop-low.invariant.shows
