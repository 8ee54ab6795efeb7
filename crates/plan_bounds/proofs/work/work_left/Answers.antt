use Rattle.std.proofs.Common.{◌≤◌, ◌+◌, arith, sym, subst}
use Rattle.std.specs.Prelude.{Option}
use Rattle.precedence_tree.specs.declared.active.Active.{Active}
use Rattle.precedence_tree.specs.Active.{AreActive, IsNamed}
use Rattle.precedence_tree.specs.Node.{joined}
use Rattle.precedence_tree.proofs.Actives.{active-named}
use Rattle.plan_bounds.specs.Work.{work_from}
use Rattle.precedence_tree.proofs.Parts.{older-all, newest-all, active-few, older-few}
use Rattle.plan_bounds.proofs.Parts.{active-periods, placed-work, joined-sum}
use Rattle.plan_bounds.proofs.work.work_left.Goals as goal

-- the active jobs, as the node keeps them
active : (c : goal.After-newest_active-newest) → AreActive c.args.project.now c.args.node.now.front (joined c.newest_active-newest.result c.older_active-older.result.now)
active c = subst (λ (o : Option Active). AreActive c.args.project.now c.args.node.now.front (joined o c.older_active-older.result.now)) (sym c.newest_active-newest.ensures) c.older_active-older.ensures.active

pub newest_work-own-requires-clause-named : goal.newest_work-own-requires-clause-named
newest_work-own-requires-clause-named c =
    newest-all (IsNamed c.args.project.now) c.newest_active-newest.result c.older_active-older.result.now (active-named c.args.project.now c.args.node.now.front (joined c.newest_active-newest.result c.older_active-older.result.now) c.requires.node.front (active c))

pub newest_work-own-requires-clause-finishes : goal.newest_work-own-requires-clause-finishes
newest_work-own-requires-clause-finishes c =
    newest-all (λ (a : Active). (c.last-last.result ≤ a.finish) × (a.finish ≤ c.last-last.result + 10000)) c.newest_active-newest.result c.older_active-older.result.now
    (active-periods c.args.project.now c.args.node.now.front (joined c.newest_active-newest.result c.older_active-older.result.now) c.last-last.result c.known.ensures.limits c.requires.node.front (active c) c.last-last.ensures)

older : (c : goal.After-newest_work-own) → AreActive c.args.project.now c.args.node.now.front (joined c.newest_active-newest.result c.older_active-older.result.now)
older c = subst (λ (o : Option Active). AreActive c.args.project.now c.args.node.now.front (joined o c.older_active-older.result.now)) (sym c.newest_active-newest.ensures) c.older_active-older.ensures.active

pub active_work-others-requires-clause-named : goal.active_work-others-requires-clause-named
active_work-others-requires-clause-named c =
    older-all (IsNamed c.args.project.now) c.newest_active-newest.result c.older_active-older.result.now (active-named c.args.project.now c.args.node.now.front (joined c.newest_active-newest.result c.older_active-older.result.now) c.requires.node.front (older c))

pub active_work-others-requires-clause-finishes : goal.active_work-others-requires-clause-finishes
active_work-others-requires-clause-finishes c =
    older-all (λ (a : Active). (c.last-last.result ≤ a.finish) × (a.finish ≤ c.last-last.result + 10000)) c.newest_active-newest.result c.older_active-older.result.now
    (active-periods c.args.project.now c.args.node.now.front (joined c.newest_active-newest.result c.older_active-older.result.now) c.last-last.result c.known.ensures.limits c.requires.node.front (older c) c.last-last.ensures)

pub active_work-others-requires-clause-few : goal.active_work-others-requires-clause-few
active_work-others-requires-clause-few c =
    older-few c.newest_active-newest.result c.older_active-older.result.now (active-few c.args.project.now c.args.node.now.front (joined c.newest_active-newest.result c.older_active-older.result.now) c.known.ensures.limits c.requires.node.front (older c))

pub returns-clause-value : goal.returns-clause-value
returns-clause-value c =
    let P = c.args.project.now in
    let F = c.args.node.now.front in
    let o = c.newest_active-newest.result in
    let xs = c.older_active-older.result.now in
    let are = subst (λ (x : Option Active). AreActive P F (joined x xs)) (sym c.newest_active-newest.ensures) c.older_active-older.ensures.active in
    let placed = placed-work P F (joined o xs) c.args.resource c.last-last.result are c.last-last.ensures in
    let parts = joined-sum (work_from P c.args.resource c.last-last.result) o xs in
    let one = c.newest_work-own.ensures.value in
    let others = c.active_work-others.ensures.value in
    let rest = c.rest_work.ensures.value in
    omega arith
