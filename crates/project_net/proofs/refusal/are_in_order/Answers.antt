use Rattle.std.proofs.Common.{◌-◌, arith, refl, sym, ◌∙◌}
use Rattle.std.proofs.lemmas.Bool.{false≢true}
use Rattle.project_net.proofs.CalendarRows.{in-order-at, in-order-from}
use Rattle.project_net.proofs.refusal.are_in_order.Goals as goal

pub returns-then-not-may_precede : goal.returns-then-not-may_precede
returns-then-not-may_precede c = (
  λ e. absurd (false≢true e),
  λ ordered. sym c.if-not-may_precede.true
      ∙ c.may_precede.ensures.1 (in-order-at c.args.rows.now (c.loop-place.place - 1) c.loop-place.place ordered (let low = c.loop-place.auto.place in omega arith) c.loop-place-test.true),
)

pub returns : goal.returns
returns c = (λ _. in-order-from c.args.rows.now (λ i h. c.loop-place.invariant i (omega arith)), λ _. refl)
