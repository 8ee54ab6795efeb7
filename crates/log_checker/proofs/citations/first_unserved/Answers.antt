use Rattle.std.proofs.lemmas.Bool.{both_ways}
use Rattle.log_checker.proofs.CitedPlaces.{get-default, first-bad, first-more, first-none}
use Rattle.log_checker.proofs.citations.first_unserved.Goals as goal

pub returns-then-not-branch : goal.returns-then-not-branch
returns-then-not-branch c cs z asc =
    let i = c.loop-one.one-index in
    let low = c.loop-one-test.true in
    c.loop-one.invariant cs z asc _ (first-bad c.args.project.now c.args.grown.now cs c.args.citing.now i _ z low (get-default c.args.citing.now i _ low)
    (λ k is s. both_ways c.in_ok-is_served.field-0 c.if-not-branch.true ((c.in_ok-is_served.ensures k is asc).1 s)))

pub loop-one-preserved : goal.loop-one-preserved
loop-one-preserved c cs z asc n rest =
    let i = c.loop-one.one-index in
    let low = c.loop-one-test.true in
    c.loop-one.invariant cs z asc n (first-more c.args.project.now c.args.grown.now cs c.args.citing.now i _ n z low (get-default c.args.citing.now i _ low)
    (λ k is. (c.in_ok-is_served.ensures k is asc).0 c.if-not-branch.false) rest)

pub returns : goal.returns
returns c cs z asc = c.loop-one.invariant cs z asc _ (first-none c.args.project.now c.args.grown.now cs c.args.citing.now c.loop-one.one-index z c.loop-one-test.false)
