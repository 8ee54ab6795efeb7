use Rattle.std.proofs.Common.{arith, sym, ap, subst, List, [], ◌∷◌, length, length-append}
use Rattle.rcpsp_model.specs.declared.parts.Entry.{Entry}
use Rattle.rcpsp_model.specs.Schedule.{AreOf}
use Rattle.rcpsp_model.specs.Tree.{entry_at}
use Rattle.serial_scheme.specs.Rules.{HasMode}
use Rattle.serial_scheme.proofs.PlacedInTurn.{SoFar, scheduled-of, least-from, start-limit, length-open, so_far-push, serial-from}
use Rattle.serial_scheme.proofs.PlanFacts.{has_mode-is}
use Rattle.serial_scheme.proofs.scheme.serial_plan.Goals as goal

pub predecessors_done-done-requires-clause-entries : goal.predecessors_done-done-requires-clause-entries
predecessors_done-done-requires-clause-entries c =
    subst (AreOf c.args.project.now) (sym c.entries.ensures) (scheduled-of c.args.project.now c.known.ensures (HasMode c.args.rule) c.loop-job.profile.entries c.loop-job.invariant.so_far.turn)

pub place-requires-clause-entry : goal.place-requires-clause-entry
place-requires-clause-entry c =
    let P = c.args.project.now in let F = c.loop-job.profile.entries in let j = c.in-Some.job in let m = c.in-Some-mode_of.mode in let t = c.unwrap-start.result in
    let is = has_mode-is c.args.rule P j m c.in-Some-mode_of.ensures.some in
    let least = least-from P F c.entries.result.now j m c.predecessors_done-done.result t c.earliest.result c.earliest.ensures.least c.unwrap-start.ensures c.predecessors_done-done.ensures c.entries.ensures in
    record { job = c.in-Some.ensures.some.free.job; mode = is.0; start = start-limit P c.known.ensures (HasMode c.args.rule) F j m t c.loop-job.invariant.so_far.turn is.1 least }

pub loop-job-smaller : goal.loop-job-smaller
loop-job-smaller c =
    let P = c.args.project.now in let F = c.loop-job.profile.entries in let j = c.in-Some.job in
    let few = length-open P c.known.ensures.acyclic (HasMode c.args.rule) c.loop-job.placed F j c.loop-job.invariant.so_far c.in-Some.ensures.some in
    let one = length-append F (entry_at j c.in-Some-mode_of.mode c.unwrap-start.result ∷ []) in
    let grown = ap (λ (es : List Entry). length es) c.in_ok-place.ensures.ok in
    omega arith

pub loop-job-preserved : goal.loop-job-preserved
loop-job-preserved c =
    let P = c.args.project.now in let F = c.loop-job.profile.entries in let j = c.in-Some.job in let m = c.in-Some-mode_of.mode in let t = c.unwrap-start.result in
    let is = has_mode-is c.args.rule P j m c.in-Some-mode_of.ensures.some in
    let least = least-from P F c.entries.result.now j m c.predecessors_done-done.result t c.earliest.result c.earliest.ensures.least c.unwrap-start.ensures c.predecessors_done-done.ensures c.entries.ensures in
    record {
      so_far = subst (SoFar P (HasMode c.args.rule) c.with-placed.result) (sym c.in_ok-place.ensures.ok)
          (so_far-push P (HasMode c.args.rule) c.loop-job.placed c.with-placed.result F j m t c.loop-job.invariant.so_far c.in-Some.ensures.some is.0 c.in-Some-mode_of.ensures.some least c.with-placed.ensures);
      profile = c.place.ensures.profile;
    }

pub returns : goal.returns
returns c = serial-from c.args.project.now c.known.ensures.acyclic (HasMode c.args.rule) c.loop-job.placed c.loop-job.profile.entries c.loop-job.invariant.so_far c.in_default.ensures.none
