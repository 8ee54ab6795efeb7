use Rattle.std.proofs.Common.{ℕ, ◌+◌, arith, sym, ap, ◌∙◌}
use Rattle.std.specs.Prelude.{sum_by, filter}
use Rattle.rcpsp_model.specs.Project.{numbers_from}
use Rattle.std.proofs.lemmas.List.Sums.{sum_by_push}
use Rattle.rcpsp_model.specs.Modes.{least_work}
use Rattle.project_net.proofs.Listed.{filter-yes, filter-no}
use Rattle.window_refuter.specs.Windows.{is_within}
use Rattle.window_refuter.proofs.works.work_within.Goals as goal
use Rattle.window_refuter.proofs.works.work_within.Goals.{then-is_within, else-is_within}

pub loop-done-preserved : goal.loop-done-preserved
loop-done-preserved c =
    let f = λ (j : ℕ). least_work c.args.project.now j c.args.resource in
    let p = is_within c.args.windows.now c.args.from c.args.until in
    let old = c.loop-done.invariant.work in
    let limit = c.loop-done.invariant.limit in
    elim c.if-is_within.branch [
      | then-is_within w ↦
          let more = ap (sum_by f) (filter-yes p c.loop-done.done (sym c.is_within.ensures ∙ w.if-is_within.true)) in
          let push = sum_by_push f (filter p (numbers_from 1 c.loop-done.done)) (c.loop-done.done + 1) in
          let own = w.least_work-work.ensures.value in
          let few = w.least_work-work.ensures.limit in
          let is = w.work-is in
          record { work = omega arith; limit = omega arith }
      | else-is_within w ↦
          let more = ap (sum_by f) (filter-no p c.loop-done.done (sym c.is_within.ensures ∙ w.if-is_within.false)) in
          let is = w.work-is in
          record { work = omega arith; limit = omega arith }
    ]
