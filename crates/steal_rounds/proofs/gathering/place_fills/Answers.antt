use Rattle.std.proofs.Common.{◌≡◌, ◌∙◌, ap, arith, List}
use Rattle.std.specs.Prelude.{slice_set, slice_index_or}
use Rattle.search_log.specs.declared.row.RowFate.TheVariants.{Open}
use Rattle.search_log.specs.declared.row.Fill.{Fill}
use Rattle.round_shares.specs.Crew.{real_fill}
use Rattle.steal_rounds.proofs.ChangedItems.{changed-more, changed-all}
use Rattle.steal_rounds.proofs.gathering.place_fills.Goals as goal

pub loop-fill-preserved : goal.loop-fill-preserved
loop-fill-preserved c =
    let f = real_fill c.args.starts.now in
    let i = c.loop-fill.fill-index in
    let d : Fill = record { place = 0; fate = Open; origin = record { round = 0; worker = 0; turn = 0 } } in
    let old : Fill = slice_index_or c.loop-fill.fills i d in
    let new : Fill = record { place = c.in_ok-fill.field-0; fate = c.in_ok-fill-2.field-0; origin = old.origin } in
    let same : new ≡ f old = λ k. record { place = c.in_ok-fill.ensures k; fate = c.in_ok-fill-2.ensures k; origin = old.origin } in
    ap (slice_set c.loop-fill.fills i) same ∙ ap (λ (xs : List Fill). slice_set xs i (f (slice_index_or xs i d))) c.loop-fill.invariant ∙ changed-more f c.args.fills.now i d (let low = c.loop-fill-test.true in omega arith)

pub returns : goal.returns
returns c = c.loop-fill.invariant ∙ changed-all (real_fill c.args.starts.now) c.args.fills.now c.loop-fill.fill-index (let out = c.loop-fill-test.false in omega arith)
