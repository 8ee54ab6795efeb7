use Rattle.std.proofs.Common.{◌≡◌, ◌+◌, arith, sym, ◌∙◌, get_or}
use Rattle.rcpsp_model.specs.Project.{is_before}
use Rattle.rcpsp_model.specs.Schedule.{IsOf}
use Rattle.rcpsp_model.proofs.Fronts.{no_entry}
use Rattle.serial_scheme.proofs.EntrySteps.{done-more, done-same, max_is}
use Rattle.serial_scheme.proofs.priority.predecessors_done.Goals as goal
use Rattle.serial_scheme.proofs.priority.predecessors_done.Goals.{then-has, else-has}

pub loop-entry-preserved : goal.loop-entry-preserved
loop-entry-preserved c =
    let P = c.args.project.now in let es = c.args.entries.now in let j = c.args.job in let i = c.loop-entry.entry-index in
    let of : IsOf P (get_or es i no_entry) = c.requires.entries i no_entry c.loop-entry-test.true in
    let same : is_before P (get_or es i no_entry).job j ≡ c.has.result = sym (c.has.ensures ∙ c.preds-predecessors.ensures (get_or es i no_entry).job of.job.0) in
    let old = c.loop-entry.invariant in
    elim c.if-has.branch [
      | then-has w ↦
          let more = done-more P es j i no_entry c.loop-entry-test.true (same ∙ w.if-has.true) in
          let value = w.duration.ensures.value in let greatest = w.max-done.ensures ∙ max_is c.loop-entry.done ((get_or es i no_entry).start + w.duration.result) in let is = w.done-is in omega arith
      | else-has w ↦ let more = done-same P es j i no_entry c.loop-entry-test.true (same ∙ w.if-has.false) in let is = w.done-is in omega arith
    ]
