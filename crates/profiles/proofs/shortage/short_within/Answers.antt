use Rattle.std.proofs.Common.{arith}
use Rattle.profiles.proofs.Shortages.{span-rest}
use Rattle.profiles.proofs.shortage.short_within.Goals as goal

pub returns-in_err-end-clause-none : goal.returns-in_err-end-clause-none
returns-in_err-end-clause-none c = rw c.from_residual.ensures (λ number h t low high. let fits = c.in_err-end.ensures.none number h t low high in let enough = c.if-capacity-request.false in omega arith)

pub returns-clause-some : goal.returns-clause-some
returns-clause-some c = λ number h.
    span-rest number c.args.capacity c.args.request c.args.from c.args.until c.in_ok-end.end c.min.result c.args.next (let enough = c.if-capacity-request.false in omega arith) c.requires.within c.min.ensures
    (c.in_ok-end.ensures.some number h)
