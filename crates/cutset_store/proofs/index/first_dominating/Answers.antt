use Rattle.std.proofs.Common.{ℕ, ◌+◌, arith, sym, subst, get_or, drop, List}
use Rattle.std.proofs.lemmas.Bool.{both_ways}
use Rattle.rcpsp_model.specs.Chain.{IsLeast}
use Rattle.cutset_store.specs.declared.row.Row.{Row}
use Rattle.cutset_store.specs.Line.{AreInLine}
use Rattle.cutset_store.specs.Index.{fronts_of, places_in, ArePlaces, DominatesAt}
use Rattle.cutset_store.proofs.Compared.{comparable}
use Rattle.cutset_store.proofs.Indexed.{no_row, next-row, long-enough, row-base, row-beats, first-dominates, none-dominates, none-more, places-length, places-at}
use Rattle.cutset_store.proofs.index.first_dominating.Goals as goal

pub split_at-requires : goal.split_at-requires
split_at-requires c =
    let next = next-row c.args.records.now c.args.width c.rows-rows.result.now c.loop-at.needs.now c.loop-at.active.now c.loop-at.at c.loop-at-test.true c.loop-at.invariant.0 in
    long-enough c.args.width c.loop-at.needs.now next.0.wide

pub beats-requires : goal.beats-requires
beats-requires c =
    let base = row-base c.args.project.now c.args.records.now c.args.width c.args.jobs c.rows-rows.result.now c.loop-at.needs.now c.loop-at.active.now c.loop-at.at c.index-records-row.result c.requires.records
    (subst (λ (rs : List Row). ArePlaces (fronts_of c.args.records.now) c.args.jobs (places_in rs)) (sym c.rows-rows.ensures) c.requires.line.places)
    c.loop-at-test.true c.loop-at.invariant.0 c.index-records-row.is in
    comparable c.args.project.now c.known.ensures.limits c.index-records-row.result c.args.b.now.front c.facts_of_row-facts.result c.facts_of_node-node.result base c.requires.node.front c.facts_of_row-facts.ensures c.facts_of_node-node.ensures

pub returns-then-beats-clause-first : goal.returns-then-beats-clause-first
returns-then-beats-clause-first c =
    let P = c.args.project.now in
    let rows = c.rows-rows.result.now in
    let fronts = fronts_of c.args.records.now in
    let F = c.args.b.now.front in
    let places = (subst (λ (rs : List Row). ArePlaces (fronts_of c.args.records.now) c.args.jobs (places_in rs)) (sym c.rows-rows.ensures) c.requires.line.places) in
    let exactly = row-beats c.args.project.now c.args.records.now c.args.width c.args.jobs c.rows-rows.result.now c.loop-at.needs.now c.loop-at.active.now c.loop-at.at c.index-records-row.result c.requires.records places c.loop-at-test.true c.loop-at.invariant.0 c.index-records-row.is
    c.known.ensures.acyclic F c.facts_of_row-facts.result c.facts_of_node-node.result c.requires.node.front c.requires.jobs c.facts_of_row-facts.ensures c.facts_of_node-node.ensures in
    subst (IsLeast (DominatesAt P fronts F)) (places-at rows c.loop-at.at no_row c.loop-at-test.true)
    (first-dominates P fronts F c.args.jobs (places_in rows) c.requires.jobs places c.loop-at.at (let size = places-length rows in let low = c.loop-at-test.true in omega arith) c.loop-at.invariant.1 (exactly.0 (c.beats.ensures.0 c.if-beats.true)))

pub loop-at-preserved : goal.loop-at-preserved
loop-at-preserved c =
    let rows = c.rows-rows.result.now in
    let row = get_or rows c.loop-at.at no_row in
    let places = (subst (λ (rs : List Row). ArePlaces (fronts_of c.args.records.now) c.args.jobs (places_in rs)) (sym c.rows-rows.ensures) c.requires.line.places) in
    let next = next-row c.args.records.now c.args.width rows c.loop-at.needs.now c.loop-at.active.now c.loop-at.at c.loop-at-test.true c.loop-at.invariant.0 in
    let exactly = row-beats c.args.project.now c.args.records.now c.args.width c.args.jobs c.rows-rows.result.now c.loop-at.needs.now c.loop-at.active.now c.loop-at.at c.index-records-row.result c.requires.records places c.loop-at-test.true c.loop-at.invariant.0 c.index-records-row.is
    c.known.ensures.acyclic c.args.b.now.front c.facts_of_row-facts.result c.facts_of_node-node.result c.requires.node.front c.requires.jobs c.facts_of_row-facts.ensures c.facts_of_node-node.ensures in (
      subst (λ (ns : List ℕ). AreInLine c.args.records.now c.args.width (drop (c.loop-at.at + 1) rows) ns c.split_at-in-loop-at.result.1.now) (sym c.split_at.ensures.back)
          (subst (AreInLine c.args.records.now c.args.width (drop (c.loop-at.at + 1) rows) (drop c.args.width c.loop-at.needs.now)) (sym c.split_at-in-loop-at.ensures.back) next.1),
      none-more c.args.project.now (fronts_of c.args.records.now) c.args.b.now.front (places_in rows) c.loop-at.at (λ d. both_ways c.beats.result c.if-beats.false (c.beats.ensures.1 (exactly.1 d))) c.loop-at.invariant.1,
    )

pub returns-clause-none : goal.returns-clause-none
returns-clause-none c =
    let rows = c.rows-rows.result.now in
    none-dominates c.args.project.now (fronts_of c.args.records.now) c.args.b.now.front c.args.jobs (places_in rows) c.requires.jobs
    (subst (λ (rs : List Row). ArePlaces (fronts_of c.args.records.now) c.args.jobs (places_in rs)) (sym c.rows-rows.ensures) c.requires.line.places) c.loop-at.at
    (let size = places-length rows in let out = c.loop-at-test.false in omega arith) c.loop-at.invariant.1
