use Rattle.std.proofs.Common.{rules, ◌≡◌, ℕ, sym, ap, subst, arith}
use mathlib.Core.Option.{none}
use Rattle.atomic_table.specs.Table.{Allows, step}
use Rattle.search_table.specs.declared.view.PassView.{PassView}
use Rattle.search_table.specs.PassState.{PassState}
use Rattle.search_table.specs.Steps.{LoadsCount}
use Rattle.search_table.specs.BetweenSteps.{HoldsBetweenSteps}
use Rattle.search_table.proofs.Steps.{loads_count}
use Rattle.search_table.proofs.table.RoundTable.published.Goals as goal

pub load-requires : goal.load-requires
load-requires c =
    let k = c.self.inside.words.shared.key in let slots = c.self.inside.words.shared.table_id.slots in let id = c.pass.inside.seat.id in let me = c.pass.inside.seat.me in
    let is : me.0 ≡ c.args.pass.now.view = ap (λ (p : PassState). p.view) c.pass.view_is in
    let workers : me.0.terms.workers ≡ c.args.pass.now.view.terms.workers = ap (λ (v : PassView). v.terms.workers) is in
    let high = c.requires.high in (
      search rules,
      search rules,
      subst (λ (n : ℕ). Allows (HoldsBetweenSteps k) slots id me n (λ x. x) (LoadsCount (step slots n 0 0 none) me)) (sym c.count_place-place.ensures)
          (loads_count k slots id c.args.worker me c.pass.invariant.live c.requires.low (omega arith)),
    )
