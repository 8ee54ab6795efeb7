use Rattle.std.proofs.Common.{rules, ◌∙◌, refl, sym, ap, subst}
use Rattle.std.specs.Prelude.{IsSome}
use Rattle.once_cell.specs.declared.race.note.Note.{Note}
use Rattle.precedence_tree.specs.declared.base.Base.{Base}
use Rattle.steal_rounds.specs.declared.gathering.Shown.{Shown}
use Rattle.steal_rounds.proofs.CitedPlaces.{found, found-shown, made-within, shown-within, made-row, same-set, set-same}
use Rattle.steal_rounds.proofs.citing.cited_place.Goals as goal

pub agree-requires-clause-cell : goal.agree-requires-clause-cell
agree-requires-clause-cell c =
    let f = found c.args._rows.now c.args.made.now c.args.published.now c.args.cited.now c.requires.published c.requires.cited in
    let same = c.index_mut.ensures.value ∙ found-shown _ _ _ _ c.index-published-cited.result _ f in
    c.requires.cited.cell ∙ sym (ap (λ (s : Shown). s.note.cell) same ∙ f.is.cell)

pub agree-requires-clause-second : goal.agree-requires-clause-second
agree-requires-clause-second c =
    let f = found c.args._rows.now c.args.made.now c.args.published.now c.args.cited.now c.requires.published c.requires.cited in
    let same = c.index_mut.ensures.value ∙ found-shown _ _ _ _ c.index-published-cited.result _ f in
    let known = ap (λ (s : Shown). s.note.known) same ∙ f.is.known in
    subst IsSome (sym known) refl

pub overflow_add-result : goal.overflow_add-result
overflow_add-result c =
    let f = found c.args._rows.now c.args.made.now c.args.published.now c.args.cited.now c.requires.published c.requires.cited in
    let l = made-within _ _ _ _ c.index-published-cited.result f in
    search rules

pub offset_bounds-made-by : goal.offset_bounds-made-by
offset_bounds-made-by c =
    let f = found c.args._rows.now c.args.made.now c.args.published.now c.args.cited.now c.requires.published c.requires.cited in
    let l = made-within _ _ _ _ c.index-published-cited.result f in
    search rules

pub bounds-made-by : goal.bounds-made-by
bounds-made-by c = made-within _ _ _ _ c.index-published-cited.result (found c.args._rows.now c.args.made.now c.args.published.now c.args.cited.now c.requires.published c.requires.cited)

pub bounds-made-by-2 : goal.bounds-made-by-2
bounds-made-by-2 c = made-within _ _ _ _ c.index-published-cited.result (found c.args._rows.now c.args.made.now c.args.published.now c.args.cited.now c.requires.published c.requires.cited)

pub returns-clause-published : goal.returns-clause-published
returns-clause-published c =
    let f = found c.args._rows.now c.args.made.now c.args.published.now c.args.cited.now c.requires.published c.requires.cited in
    same-set _ _ c.index-published-cited.result _ (record {
      first = refl;
      shown = set-same _ _ c.index_mut.result.now _ (sym (c.index_mut.ensures.value) ∙ ap (λ (n : Note Base). record c.index_mut.result.now { note = n }) (sym c.agree.ensures.second))
          (shown-within _ _ _ _ c.index-published-cited.result f);
    })

pub returns-clause-row : goal.returns-clause-row
returns-clause-row c =
    let f = found c.args._rows.now c.args.made.now c.args.published.now c.args.cited.now c.requires.published c.requires.cited in
    let same = c.index_mut.ensures.value ∙ found-shown _ _ _ _ c.index-published-cited.result _ f in
    made-row _ _ _ _ c.index-published-cited.result c.index-made-by.result f (c.agree.ensures.equal ∙ ap (λ (s : Shown). s.note.known) same)
