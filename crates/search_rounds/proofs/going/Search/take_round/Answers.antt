use Rattle.std.proofs.Common.{◌≡◌, ◌∙◌, ℕ, ◌+◌, ◌<◌, refl, sym, ap, subst, arith, List, [], ◌∷◌, ◌++◌, length, map, All, Option}
use Rattle.search_log.specs.declared.row.Fill.{Fill}
use Rattle.search_log.specs.Stands.{fill_rows, fill_origins}
use Rattle.search_log.specs.Lean.{end_number}
use Rattle.search_rounds.specs.declared.round.NewRow.{NewRow}
use Rattle.search_rounds.specs.Going.{Goes}
use Rattle.search_rounds.proofs.NextRounds.{search_after, ran-goes, ran-nearer, ran-rows, ran-places, same_search}
use Rattle.search_rounds.proofs.going.Search.take_round.Goals as goal

pub settle-requires-clause-rows : goal.settle-requires-clause-rows
settle-requires-clause-rows c =
    let few = ran-rows c.args.project.now c.requires.0 c.requires.1 c.args.self c.requires.2 c.args.terms c.args.ended c.known.ensures.limits c.requires.3 in
    let same : length c.as_slice.result.now ≡ length c.args.ended.grown = ap length c.as_slice.ensures in
    omega arith

pub settle-requires-clause-places : goal.settle-requires-clause-places
settle-requires-clause-places c =
    let s = c.args.self in
    let r = c.args.ended in
    subst (λ (fs : List Fill). All (λ (f : Fill). f.place < length s.table.rows + length c.as_slice.result.now) fs) (sym c.as_slice-2.ensures)
    (subst (λ (gs : List NewRow). All (λ (f : Fill). f.place < length s.table.rows + length gs) r.fills) (sym c.as_slice.ensures)
    (ran-places c.args.project.now c.requires.0 c.requires.1 s c.requires.2 c.args.terms r c.requires.3))

pub returns-clause-goes : goal.returns-clause-goes
returns-clause-goes c w n frontier h =
    let s = c.args.self in
    let r = c.args.ended in
    subst (Goes c.args.project.now w n)
    (sym (same_search _ (search_after s r)
    (c.in_ok-settle.ensures.rows ∙ (ap (λ (fs : List Fill). fill_rows (s.table.rows ++ map (λ n. n.row) c.as_slice.result.now) fs) c.as_slice-2.ensures
    ∙ ap (λ (gs : List NewRow). fill_rows (s.table.rows ++ map (λ n. n.row) gs) r.fills) c.as_slice.ensures))
    (c.in_ok-settle.ensures.origins ∙ (ap (λ (fs : List Fill). fill_origins (s.table.origins ++ map (λ n. n.origin) c.as_slice.result.now) fs) c.as_slice-2.ensures
    ∙ ap (λ (gs : List NewRow). fill_origins (s.table.origins ++ map (λ n. n.origin) gs) r.fills) c.as_slice.ensures))
    refl c.in_ok-keep.ensures.index c.in_ok-keep.ensures.places refl
    (c.in_ok-note_start.ensures ∙ ap (λ (best : Option ℕ). s.starts ++ end_number best ∷ []) h.terms_are.best)
    c.brought.ensures refl))
    (ran-goes c.args.project.now w n s frontier c.args.terms r h)

pub returns-clause-nearer : goal.returns-clause-nearer
returns-clause-nearer c w n frontier h = ran-nearer c.args.project.now w n c.args.self frontier c.args.terms c.args.ended c.known.ensures.limits h
