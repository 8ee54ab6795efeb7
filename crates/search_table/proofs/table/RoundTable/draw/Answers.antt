use Rattle.std.proofs.Common.{◌≡◌, rules, ap, subst, arith, refl}
use Rattle.search_table.specs.declared.view.PassView.{PassView}
use Rattle.search_table.specs.declared.view.RoundTerms.{RoundTerms}
use Rattle.search_table.specs.PassState.{PassState}
use Rattle.search_table.specs.Drawn.{Drawn}
use Rattle.search_table.proofs.Steps.{draws}
use Rattle.search_table.proofs.table.RoundTable.draw.Goals as goal
use Rattle.search_table.proofs.table.RoundTable.draw.Goals.{then-drawn-pass, else-drawn-pass}

pub fetch_add-drawn-requires : goal.fetch_add-drawn-requires
fetch_add-drawn-requires c = (search rules, search rules, draws _ _ _ _ c.pass.invariant.live (search rules))

pub returns-clause-drawn : goal.returns-clause-drawn
returns-clause-drawn c =
    let told = c.fetch_add-drawn.ensures.2 in let n = c.fetch_add-drawn.result in
    let quota : c.pass.inside.terms.quota ≡ c.pass.inside.seat.me.0.terms.quota = ap (λ (k : RoundTerms). k.quota) c.pass.invariant.terms in
    let is : c.pass.inside.seat.me.0 ≡ c.args.pass.now.view = ap (λ (p : PassState). p.view) c.pass.view_is in
    subst (λ (v : PassView). Drawn v c.fetch_add-drawn.new.seat.me.0 c.if-drawn-pass.result) is
    (elim c.if-drawn-pass.branch [
      | then-drawn-pass w ↦ rw w.result-is record { earlier = n; own = told.own; outcome = record { under = omega arith; view = told.ticket (omega arith) } }
      | else-drawn-pass w ↦ rw w.result-is record { earlier = n; own = told.own; outcome = record { over = omega arith; view = told.refusal (omega arith); number = refl } }
    ])
