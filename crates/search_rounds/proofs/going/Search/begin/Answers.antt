use Rattle.std.proofs.Common.{◌∙◌, refl, sym, subst, ap, List, [], ◌∷◌, ◌++◌}
use Rattle.search_log.specs.declared.row.Row.{Row}
use Rattle.search_log.specs.declared.row.Origin.{Origin}
use Rattle.search_log.specs.declared.row.RowFate.TheVariants.{Open}
use Rattle.search_log.specs.Stands.{root_row}
use Rattle.search_log.specs.Told.{no_origin}
use Rattle.search_rounds.specs.declared.round.WaitingNode.{WaitingNode}
use Rattle.search_rounds.specs.Going.{Goes}
use Rattle.search_rounds.proofs.NextRounds.{search_by, begins, same_search}
use Rattle.search_rounds.proofs.going.Search.begin.Goals as goal

pub returns-clause-goes : goal.returns-clause-goes
returns-clause-goes c w n =
    let root = c.root.result in
    let first : List WaitingNode = record { place = 0; node = root } ∷ [] in
    subst (Goes c.args.project.now w n)
    (sym (same_search _ (search_by (root_row Open ∷ []) (no_origin ∷ []) first [] [] c.args.best.end [] c.args.best 0)
    (c.in_ok-push.ensures.rows ∙ ap (λ (x : List Row). x ++ root_row Open ∷ []) c.new-table.ensures.rows)
    (c.in_ok-push.ensures.origins ∙ ap (λ (x : List Origin). x ++ no_origin ∷ []) c.new-table.ensures.origins)
    (c.from_vec.ensures ∙ (c.in_ok-push-2.ensures.items ∙ ap (λ (x : List WaitingNode). x ++ first) c.new-frontier.ensures.items))
    c.new.ensures c.new-2.ensures refl c.new-3.ensures refl refl))
    (begins c.args.project.now w n root c.args.best c.requires.budgets c.requires.best c.requires.soon c.root.ensures.front (c.root.ensures.stands c.args.project.now))
