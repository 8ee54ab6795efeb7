use Rattle.std.proofs.Common.{ap, arith, ◌∙◌}
use Rattle.project_gen.proofs.DraftSteps.{found_more, found_same, found_all}
use Rattle.project_gen.proofs.drafting.followers.Goals as goal
use Rattle.project_gen.proofs.drafting.followers.Goals.{then-contains+in_ok-push, else-contains}

pub loop-place-preserved : goal.loop-place-preserved
loop-place-preserved c =
    let all = c.args.predecessors.now in
    let place = c.loop-place.place in
    elim c.if-contains.branch [
      | then-contains+in_ok-push w ↦ ap (λ v. v.items) w.found-is ∙ found_more all c.args.job place _ _ c.contains.result c.loop-place.found.items w.push.new.self.items c.loop-place-test.true c.contains.ensures w.if-contains.true (omega arith) c.loop-place.invariant w.in_ok-push.ensures.items
      | else-contains w ↦ ap (λ v. v.items) w.found-is ∙ found_same all c.args.job place _ c.contains.result c.loop-place.found.items c.loop-place-test.true c.contains.ensures w.if-contains.false c.loop-place.invariant
    ]

pub returns : goal.returns
returns c = found_all c.args.predecessors.now c.args.job c.loop-place.place c.loop-place.found.items (omega arith) c.loop-place.invariant
