use Rattle.std.proofs.Common.{◌+◌, ℕ, subst, sym, ap, ◌∙◌, arith, Option, Some}
use Rattle.search_log.specs.declared.row.Row.{Row}
use Rattle.search_log.specs.Fates.{row_saying}
use Rattle.search_log.proofs.LeastOfLeft.{IsLeastBefore, least-next, least-same, least-all, other-fate}
use Rattle.search_log.proofs.closing.least_left.Goals.{in-Left, in_default}
use Rattle.search_log.proofs.closing.least_left.Goals as goal

pub loop-place-preserved : goal.loop-place-preserved
loop-place-preserved c = elim c.match-row_of.branch [
  | in-Left w ↦ subst (λ (o : Option ℕ). IsLeastBefore c.args.rows.now (c.loop-place.place + 1) o) (sym (w.least-is ∙ ap (λ (n : ℕ). Some n) w.lesser.ensures))
      (least-next c.args.rows.now c.loop-place.place w.in-Left.bound c.loop-place.least
      (ap (λ (r : Row). row_saying r.fate) (sym c.row_of.ensures) ∙ ap row_saying w.in-Left.is) c.loop-place.invariant)
  | in_default w ↦ subst (λ (o : Option ℕ). IsLeastBefore c.args.rows.now (c.loop-place.place + 1) o) (sym w.least-is)
      (least-same c.args.rows.now c.loop-place.place c.loop-place.least
      (other-fate c.args.rows.now c.loop-place.place (λ b e. w.in_default.not-Left b (ap (λ (r : Row). r.fate) c.row_of.ensures ∙ e))) c.loop-place.invariant)
]

pub returns : goal.returns
returns c =
    let last = c.loop-place-test.false in
    let size = c.len-place-end.ensures in
    least-all c.args.rows.now c.loop-place.place c.loop-place.least (omega arith) c.loop-place.invariant
