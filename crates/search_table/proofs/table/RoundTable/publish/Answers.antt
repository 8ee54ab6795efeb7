use Rattle.std.proofs.Common.{rules, ◌≡◌, ℕ, ◌+◌, ◌*◌, ◌%◌, ap, subst, arith}
use mathlib.Core.Option.{none}
use Rattle.atomic_table.specs.Table.{Allows, step}
use Rattle.search_table.specs.declared.view.PassView.{PassView}
use Rattle.search_table.specs.declared.view.RoundTerms.{RoundTerms}
use Rattle.search_table.specs.PassState.{PassState}
use Rattle.search_table.specs.Steps.{Publishes}
use Rattle.search_table.specs.BetweenSteps.{HoldsBetweenSteps}
use Rattle.search_table.proofs.Steps.{publishes}
use Rattle.search_table.proofs.table.RoundTable.publish.Goals as goal

pub fetch_add-before-requires : goal.fetch_add-before-requires
fetch_add-before-requires c =
    let k = c.self.inside.words.shared.key in let slots = c.self.inside.words.shared.table_id.slots in let id = c.pass.inside.seat.id in let me = c.pass.inside.seat.me in
    let kept = c.pass.invariant in let number = kept.number in let in_range = kept.in_range in let words = kept.words in
    let workers : c.pass.inside.terms.workers ≡ me.0.terms.workers = ap (λ (t : RoundTerms). t.workers) kept.terms in
    let is : me.0 ≡ c.args.pass.now.view = ap (λ (p : PassState). p.view) c.pass.view_is in
    let same_number : me.0.number ≡ c.args.pass.now.view.number = ap (λ (v : PassView). v.number) is in let same_own : me.0.own ≡ c.args.pass.now.view.own = ap (λ (v : PassView). v.own) is in
    let low = c.requires.worker in let room = c.requires.room in let at = c.count_place-place.ensures in
    let place : 8 + 8 * me.0.number ≡ c.count_place-place.result = omega arith in
    let table : c.pass.inside.seat.table_id ≡ c.self.inside.words.shared.table_id = search rules in (
      table,
      search rules,
      subst (λ (n : ℕ). Allows (HoldsBetweenSteps k) slots id me n (λ x. (x + 1) % 18446744073709551616) (Publishes (step slots n 1 0 none) me)) place
          (publishes k slots id me kept.live (omega arith) (omega arith) (omega arith)),
    )
