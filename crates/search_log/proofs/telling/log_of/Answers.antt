use Rattle.std.proofs.Common.{◌≡◌, ◌<◌, ◌∙◌, ℕ, List, length, subst, sym, ap, arith, All}
use Rattle.search_log.specs.declared.row.Row.{Row}
use Rattle.search_log.specs.Table.{IsWhole, IsPreorder}
use Rattle.search_log.specs.Told.{AreNumbered, Tells}
use Rattle.search_log.proofs.PassedPlaces.{order-length}
use Rattle.search_log.proofs.PlaceNumbers.{order-inside}
use Rattle.search_log.proofs.telling.log_of.Goals as goal

-- the places lie in the table
inside : (rows : List Row) (order places : List ℕ) (n : ℕ) → IsWhole rows → IsPreorder rows order → places ≡ order → n ≡ length rows → All (λ p. p < n) places
inside rows order places n w k e l =
    subst (λ (m : ℕ). All (λ p. p < m) places) (sym l) (subst (All (λ p. p < length rows)) (sym e) (order-inside rows order w k))

pub numbers_of-requires-clause-within : goal.numbers_of-requires-clause-within
numbers_of-requires-clause-within c = inside c.args.table.rows c.in_ok-order.order.items c.as_slice-places.result.now c.len.result c.requires.whole c.in_ok-order.ensures c.as_slice-places.ensures.value c.len.ensures

pub numbers_of-requires-clause-short : goal.numbers_of-requires-clause-short
numbers_of-requires-clause-short c =
    let all = order-length c.args.table.rows c.requires.whole c.in_ok-order.order.items c.in_ok-order.ensures in
    let same = ap length c.as_slice-places.ensures.value in
    let size = c.len.ensures in
    let fits = c.len.type_inv in
    omega arith

pub take_origins-requires : goal.take_origins-requires
take_origins-requires c = inside c.args.table.rows c.in_ok-order.order.items c.as_slice-places.result.now (length c.args.table.origins) c.requires.whole c.in_ok-order.ensures c.as_slice-places.ensures.value c.requires.origins

pub lines_of-requires : goal.lines_of-requires
lines_of-requires c =
    subst (All (λ p. p < length c.args.table.rows)) (sym c.as_slice-places.ensures.value) (order-inside c.args.table.rows c.in_ok-order.order.items c.requires.whole c.in_ok-order.ensures)

pub returns : goal.returns
returns c =
    let t : Tells c.args.table.rows c.from_vec.result = record {
      numbers = c.as_slice-numbers.result.now;
      order = c.as_slice-places.result.now;
      walk = subst (IsPreorder c.args.table.rows) (sym c.as_slice-places.ensures.value) c.in_ok-order.ensures;
      numbered = subst (λ (n : List ℕ). AreNumbered n c.as_slice-places.result.now) (sym c.as_slice-numbers.ensures.value) c.in_ok-all_numbers.ensures;
      are = c.from_vec.ensures ∙ c.in_ok-lines.ensures;
    } in
    record { lines_of = t; origins_of = c.from_vec-2.ensures ∙ c.in_ok-told.ensures }
