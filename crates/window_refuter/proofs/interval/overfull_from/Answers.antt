use Rattle.std.proofs.Common.{ℕ, ◌+◌, ◌<◌, ◌≤◌, arith, sym, ap, subst, get_or}
use Rattle.window_refuter.specs.declared.window.Window.{Window}
use Rattle.window_refuter.specs.Windows.{es_of}
use Rattle.window_refuter.proofs.Supplies.{supply-from}
use Rattle.window_refuter.proofs.DueSums.{no_due, due-at, length-dues, held-none, held-skip, held-next, now-within, held-all, due-after, supply-at, IsHeldUpTo}
use Rattle.window_refuter.proofs.interval.overfull_from.Goals as goal

pub loop-place-init : goal.loop-place-init
loop-place-init c = record { held = held-none c.args.project.now c.args.windows.now c.args.dues.now c.requires.dues c.args.resource c.args.from; limit = omega arith }

pub window-requires-clause-low : goal.window-requires-clause-low
window-requires-clause-low c = (due-at c.args.project.now c.args.windows.now c.args.dues.now c.requires.dues c.loop-place.place no_due c.loop-place-test.true).job.0

pub window-requires-clause-high : goal.window-requires-clause-high
window-requires-clause-high c =
    let high = (due-at c.args.project.now c.args.windows.now c.args.dues.now c.requires.dues c.loop-place.place no_due c.loop-place-test.true).job.1 in
    let size = c.requires.size in
    omega arith

pub loop-place-preserved-then-window-from : goal.loop-place-preserved-then-window-from
loop-place-preserved-then-window-from c =
    let P = c.args.project.now in
    let dues = c.args.dues.now in
    let place = c.loop-place.place in
    let early : es_of c.args.windows.now (get_or dues place no_due).job < c.args.from = (let own = ap (λ (w : Window). w.earliest_start) c.window.ensures in let before = c.if-window-from.true in omega arith) in
    let limit = c.loop-place.invariant.limit in
    record {
      held = held-skip P c.args.windows.now dues c.requires.dues c.args.resource c.args.from place c.loop-place.work no_due c.loop-place-test.true early c.loop-place.invariant.held;
      limit = omega arith;
    }

pub least_work-work-requires-clause-job : goal.least_work-work-requires-clause-job
least_work-work-requires-clause-job c = (due-at c.args.project.now c.args.windows.now c.args.dues.now c.requires.dues c.loop-place.place no_due c.loop-place-test.true).job

pub overflow_add-work : goal.overflow_add-work
overflow_add-work c =
    let few = c.known.ensures.limits.few_jobs in
    let size = length-dues c.args.project.now c.args.windows.now c.args.dues.now c.requires.dues in
    let limit = c.loop-place.invariant.limit in
    let own = c.least_work-work.ensures.limit in
    let within = c.loop-place-test.true in
    omega arith

pub overflow_add-before : goal.overflow_add-before
overflow_add-before c =
    let few = c.known.ensures.limits.few_jobs in
    let size = length-dues c.args.project.now c.args.windows.now c.args.dues.now c.requires.dues in
    let limit = c.loop-place.invariant.limit in
    let own = c.least_work-work.ensures.limit in
    let before = c.supply_before-before.ensures.limit in
    let within = c.loop-place-test.true in
    omega arith

pub returns-then-supplies-place-clause-some : goal.returns-then-supplies-place-clause-some
returns-then-supplies-place-clause-some c =
    let own = ap (λ (w : Window). w.earliest_start) c.window.ensures in
    let late = c.if-window-from.false in
    due-after c.args.project.now c.args.windows.now (get_or c.args.dues.now c.loop-place.place no_due) c.args.from
    (due-at c.args.project.now c.args.windows.now c.args.dues.now c.requires.dues c.loop-place.place no_due c.loop-place-test.true) c.requires.none_empty (omega arith)

pub returns-then-supplies-place-clause-full : goal.returns-then-supplies-place-clause-full
returns-then-supplies-place-clause-full c =
    let P = c.args.project.now in
    let k = c.args.resource in
    let dues = c.args.dues.now in
    let place = c.loop-place.place in
    let start = ap (λ (w : Window). w.earliest_start) c.window.ensures in
    let late : c.args.from ≤ es_of c.args.windows.now (get_or dues place no_due).job = (let not_before = c.if-window-from.false in omega arith) in
    let due = due-at P c.args.windows.now dues c.requires.dues place no_due c.loop-place-test.true in
    let forwards = due-after P c.args.windows.now (get_or dues place no_due) c.args.from due c.requires.none_empty late in
    let all = now-within P c.args.windows.now dues c.requires.dues k c.args.from place c.loop-place.work no_due c.loop-place-test.true late c.loop-place.invariant.held in
    let there = supply-at P k place dues c.args.supplies.now c.requires.supplies c.loop-place-test.true in
    let parts = supply-from P k c.args.from (get_or dues place no_due).latest_finish forwards in
    let before = c.supply_before-before.ensures.value in
    let own = c.least_work-work.ensures.value in
    let less = c.if-supplies-place.true in
    omega arith

pub loop-place-preserved : goal.loop-place-preserved
loop-place-preserved c =
    let P = c.args.project.now in
    let k = c.args.resource in
    let dues = c.args.dues.now in
    let place = c.loop-place.place in
    let start = ap (λ (w : Window). w.earliest_start) c.window.ensures in
    let late : c.args.from ≤ es_of c.args.windows.now (get_or dues place no_due).job = (let not_before = c.if-window-from.false in omega arith) in
    let due = due-at P c.args.windows.now dues c.requires.dues place no_due c.loop-place-test.true in
    let forwards = due-after P c.args.windows.now (get_or dues place no_due) c.args.from due c.requires.none_empty late in
    let there = supply-at P k place dues c.args.supplies.now c.requires.supplies c.loop-place-test.true in
    let parts = supply-from P k c.args.from (get_or dues place no_due).latest_finish forwards in
    let before = c.supply_before-before.ensures.value in
    let own = c.least_work-work.ensures.value in
    let few = c.least_work-work.ensures.limit in
    let limit = c.loop-place.invariant.limit in
    let enough = c.if-supplies-place.false in
    let next = held-next P c.args.windows.now dues c.requires.dues k c.args.from place c.loop-place.work no_due c.loop-place-test.true late c.loop-place.invariant.held forwards (omega arith) in
    record {
      held = subst (λ (n : ℕ). IsHeldUpTo P c.args.windows.now dues k c.args.from (place + 1) (c.loop-place.work + n)) (sym own) next;
      limit = omega arith;
    }

pub returns-clause-none : goal.returns-clause-none
returns-clause-none c until low =
    held-all c.args.project.now c.args.windows.now c.args.dues.now c.requires.dues c.args.resource c.args.from c.loop-place.place c.loop-place.work c.loop-place-test.false c.loop-place.invariant.held until low

pub returns-then-supplies-place-clause-finish : goal.returns-then-supplies-place-clause-finish
returns-then-supplies-place-clause-finish c =
    let due = due-at c.args.project.now c.args.windows.now c.args.dues.now c.requires.dues c.loop-place.place no_due c.loop-place-test.true in
    ((get_or c.args.dues.now c.loop-place.place no_due).job, due.finish)
