use Rattle.std.proofs.Common.{◌≡◌, ◌<◌, ◌++◌, ◌∷◌, [], ◌∙◌, ap, sym, subst, arith, length, List}
use Rattle.std.specs.Prelude.{slice_index}
use Rattle.std.proofs.lemmas.List.{get_or-take}
use Rattle.precedence_tree.specs.declared.active.Active.{Active}
use Rattle.precedence_tree.specs.declared.base.Base.{Base}
use Rattle.cutset_store.specs.Line.{IsRowOf}
use Rattle.cutset_store.specs.Index.{IsIndexed}
use Rattle.cutset_store.proofs.Indexed.{indexed-push}
use Rattle.cutset_store.proofs.index.Index.add.Goals as goal

pub invariant_of-self-in-Ok : goal.invariant_of-self-in-Ok
invariant_of-self-in-Ok c =
    let x = c.self.inside in
    let bases = x.records.items in
    let b = c.base-base.result.now in
    let row = c.row_of-row.result in
    let needs = c.needs_of-needs.result.now in
    let active = c.active_of-active.result.now in
    let seen = ap (λ (bs : List Base). length bs) c.self.view_is in
    let place : row.place ≡ length bases = c.row_of-row.ensures.place ∙ c.len-place.ensures ∙ sym seen in
    let room : length bases < 4294967295 = let h = c.requires in omega arith in
    let count : row.active ≡ length active = c.row_of-row.ensures.active ∙ ap (λ (xs : List Active). length xs) (sym c.active_of-active.ensures) in
    let own : IsRowOf b row needs active = record {
      last = c.row_of-row.ensures.last;
      end = c.row_of-row.ensures.end;
      needs = λ i low. ap (λ ns. slice_index ns i) c.needs_of-needs.ensures.value ∙ get_or-take x.width b.needs.used i 0 (let size = c.needs_of-needs.ensures.size in omega arith);
      active = c.active_of-active.ensures;
    } in
    let is = subst (λ (y : Base). IsRowOf y row needs active) c.base-base.ensures own in
    subst (λ (bs : List Base). IsIndexed bs x.width c.enter.new.self) (sym (c.push_reserved.ensures.items ∙ ap (λ (bs : List Base). bs ++ c.args.item ∷ []) c.reserve.ensures.items))
    (indexed-push bases c.args.item x.width x.table c.enter.new.self c.placed-jobs.result row needs active c.self.invariant room c.placed-jobs.ensures.jobs place c.needs_of-needs.ensures.size count is c.enter.ensures.table c.in-Ok.ensures.ok)
