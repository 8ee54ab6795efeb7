use Rattle.std.proofs.Common.{◌≡◌, subst, sym, List, length, ◌++◌, ◌∷◌, [], ℕ, arith, ap, length-append}
use Rattle.search_log.proofs.WalkSpans.{IsUnderway, next-place, underway-next}
use Rattle.search_log.proofs.walk.preorder.Goals as goal

pub pass-requires-clause-within : goal.pass-requires-clause-within
pass-requires-clause-within c =
    let k : IsUnderway c.args.rows.now c.loop-span.order.items (c.pop.new.self.items ++ c.in-Some.span ∷ []) = subst (IsUnderway c.args.rows.now c.loop-span.order.items) c.in-Some.ensures.items c.loop-span.invariant in
    (next-place c.args.rows.now c.requires c.loop-span.order.items c.pop.new.self.items c.in-Some.span k).within

pub pass-requires-clause-one : goal.pass-requires-clause-one
pass-requires-clause-one c =
    let k : IsUnderway c.args.rows.now c.loop-span.order.items (c.pop.new.self.items ++ c.in-Some.span ∷ []) = subst (IsUnderway c.args.rows.now c.loop-span.order.items) c.in-Some.ensures.items c.loop-span.invariant in
    (next-place c.args.rows.now c.requires c.loop-span.order.items c.pop.new.self.items c.in-Some.span k).some

pub loop-span-smaller : goal.loop-span-smaller
loop-span-smaller c =
    let k : IsUnderway c.args.rows.now c.loop-span.order.items (c.pop.new.self.items ++ c.in-Some.span ∷ []) = subst (IsUnderway c.args.rows.now c.loop-span.order.items) c.in-Some.ensures.items c.loop-span.invariant in
    let few = (next-place c.args.rows.now c.requires c.loop-span.order.items c.pop.new.self.items c.in-Some.span k).few in
    let e : length c.push-in-Some.new.self.items ≡ length (c.loop-span.order.items ++ c.in-Some.span.next ∷ []) = ap length c.in_ok-push-2.ensures.items in
    let l = length-append c.loop-span.order.items (c.in-Some.span.next ∷ []) in
    omega arith

pub loop-span-preserved : goal.loop-span-preserved
loop-span-preserved c =
    let k : IsUnderway c.args.rows.now c.loop-span.order.items (c.pop.new.self.items ++ c.in-Some.span ∷ []) = subst (IsUnderway c.args.rows.now c.loop-span.order.items) c.in-Some.ensures.items c.loop-span.invariant in
    let some = (next-place c.args.rows.now c.requires c.loop-span.order.items c.pop.new.self.items c.in-Some.span k).some in
    subst (λ (o : List ℕ). IsUnderway c.args.rows.now o c.pass.new.stack.items) (sym c.in_ok-push-2.ensures.items)
    (underway-next c.args.rows.now c.requires c.loop-span.order.items c.pop.new.self.items c.in-Some.span c.pass.new.stack.items k c.in_ok-pass.ensures.places c.in_ok-pass.ensures.some some)
