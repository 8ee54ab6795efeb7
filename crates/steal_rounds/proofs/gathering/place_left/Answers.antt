use Rattle.std.proofs.Common.{◌≡◌, ◌∙◌, ap, arith, List}
use Rattle.std.specs.Prelude.{slice_set, slice_index_or}
use Rattle.search_rounds.specs.declared.round.WaitingNode.{WaitingNode}
use Rattle.round_shares.specs.Crew.{real_waiting}
use Rattle.steal_rounds.proofs.ChangedItems.{changed-more, changed-all}
use Rattle.steal_rounds.proofs.gathering.place_left.Goals as goal

pub loop-waiting-preserved : goal.loop-waiting-preserved
loop-waiting-preserved c =
    let f = real_waiting c.args.starts.now in
    let i = c.loop-waiting.waiting-index in
    let d = c.waiting-item.result in
    let old : WaitingNode = slice_index_or c.loop-waiting.left i d in
    let new : WaitingNode = record { place = c.in_ok-waiting.field-0; node = old.node } in
    let same : new ≡ f old = λ k. record { place = c.in_ok-waiting.ensures k; node = old.node } in
    ap (slice_set c.loop-waiting.left i) same ∙ ap (λ (xs : List WaitingNode). slice_set xs i (f (slice_index_or xs i d))) c.loop-waiting.invariant ∙ changed-more f c.args.left.now i d (let low = c.loop-waiting-test.true in omega arith)

pub returns : goal.returns
returns c = c.loop-waiting.invariant ∙ changed-all (real_waiting c.args.starts.now) c.args.left.now c.loop-waiting.waiting-index (let out = c.loop-waiting-test.false in omega arith)
