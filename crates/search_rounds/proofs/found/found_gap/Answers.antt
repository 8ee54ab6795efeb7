use Rattle.std.proofs.Common.{◌∙◌, refl, sym, subst, ap, List, [], ◌∷◌, ◌++◌}
use Rattle.rcpsp_model.specs.declared.parts.Shut.TheVariants.{NoBudget}
use Rattle.search_log.specs.declared.row.Row.{Row}
use Rattle.search_log.specs.declared.row.Origin.{Origin}
use Rattle.search_log.specs.declared.row.RowFate.TheVariants.{Shut}
use Rattle.search_log.specs.Stands.{root_row}
use Rattle.search_rounds.specs.Closing.{after_last}
use Rattle.search_rounds.specs.Found.{IsEnded}
use Rattle.search_rounds.proofs.FoundReports.{ended_by, gap_rows, gap_ends, same_ended}
use Rattle.search_rounds.proofs.found.found_gap.Goals as goal

pub returns : goal.returns
returns c w n =
    subst (IsEnded c.args.project.now w n c.args.best.end)
    (sym (same_ended _ (ended_by (gap_rows c.args.resource) (after_last 1 ∷ []) [] c.args.best)
    (c.in_ok-push.ensures.rows ∙ ap (λ (x : List Row). x ++ root_row (Shut (NoBudget c.args.resource)) ∷ []) c.new-table.ensures.rows)
    (c.in_ok-push.ensures.origins ∙ ap (λ (x : List Origin). x ++ after_last 1 ∷ []) c.new-table.ensures.origins)
    c.new.ensures refl))
    (gap_ends c.args.project.now w n c.args.resource c.args.best c.requires.gap c.requires.best c.requires.soon)
