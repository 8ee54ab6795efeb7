use Rattle.std.proofs.Common.{◌≡◌, ◌∙◌, ap, arith, List}
use Rattle.std.specs.Prelude.{slice_set, slice_index_or}
use Rattle.search_rounds.specs.declared.round.PlacedRecord.{PlacedRecord}
use Rattle.round_shares.specs.Crew.{real_record}
use Rattle.steal_rounds.proofs.ChangedItems.{changed-more, changed-all}
use Rattle.steal_rounds.proofs.gathering.place_made.Goals as goal

pub loop-placed-preserved : goal.loop-placed-preserved
loop-placed-preserved c =
    let f = real_record c.args.starts.now in
    let i = c.loop-placed.placed-index in
    let d = c.placed-item.result in
    let old : PlacedRecord = slice_index_or c.loop-placed.made i d in
    let new : PlacedRecord = record { place = c.in_ok-placed.field-0; known = old.known } in
    let same : new ≡ f old = λ k. record { place = c.in_ok-placed.ensures k; known = old.known } in
    ap (slice_set c.loop-placed.made i) same ∙ ap (λ (xs : List PlacedRecord). slice_set xs i (f (slice_index_or xs i d))) c.loop-placed.invariant ∙ changed-more f c.args.made.now i d (let low = c.loop-placed-test.true in omega arith)

pub returns : goal.returns
returns c = c.loop-placed.invariant ∙ changed-all (real_record c.args.starts.now) c.args.made.now c.loop-placed.placed-index (let out = c.loop-placed-test.false in omega arith)
