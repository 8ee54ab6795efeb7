use Rattle.std.proofs.Common.{refl, ap, ◌∙◌, List}
use Rattle.std.specs.Prelude.{nat_eq}
use Rattle.std.specs.HashMap.{get}
use Rattle.std.proofs.lemmas.Result.{on_ok_weaker, on_err_weaker}
use Rattle.cutset_store.specs.Line.{LineState}
use Rattle.cutset_store.specs.Table.{line_in}
use Rattle.cutset_store.proofs.Tables.{found-set, same-jobs, enters, put-back}
use Rattle.cutset_store.proofs.table.Table.enter.Goals as goal

pub returns-clause-table : goal.returns-clause-table
returns-clause-table c =
    let mid = c.place_for.new.self in
    let low = (c.place_for.ensures.table.own c.args.set.0 c.in_ok-place.place c.in_ok-place.ensures.found).within in
    found-set mid.places mid.lines.items c.push.new.self c.in_ok-place.place (same-jobs mid.lines.items c.index_mut.result.now c.push.new.self c.in_ok-place.place low c.index_mut.ensures.value c.push.ensures.jobs) low c.place_for.ensures.table

pub returns-clause-ok : goal.returns-clause-ok
returns-clause-ok c =
    let mid = c.place_for.new.self in
    on_ok_weaker c.push.result
    (enters c.args.self.now mid _ c.args.set c.in_ok-place.place c.index_mut.result.now c.push.new.self c.args.row c.args.needs.now c.args.active.now c.place_for.ensures.table c.place_for.ensures.lines c.in_ok-place.ensures.found refl refl c.index_mut.ensures.value) c.push.ensures.ok

pub returns-clause-err : goal.returns-clause-err
returns-clause-err c =
    let mid = c.place_for.new.self in
    on_err_weaker c.push.result
    (λ stays s. ap (λ (ls : List LineState). line_in ls (get nat_eq mid.places s.0) s) (put-back mid.lines.items c.in_ok-place.place c.index_mut.result.now c.push.new.self c.index_mut.ensures.value stays) ∙ c.place_for.ensures.lines s) c.push.ensures.err
