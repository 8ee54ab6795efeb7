use Rattle.std.proofs.Common.{◌≤◌, arith, sym, subst, ◌∙◌}
use Rattle.std.specs.Prelude.{Option}
use Rattle.rcpsp_model.proofs.Fronts.{front-end, last-le-end}
use Rattle.precedence_tree.specs.declared.active.Active.{Active}
use Rattle.precedence_tree.specs.Active.{AreActive, IsNamed}
use Rattle.precedence_tree.specs.Node.{joined, front_before}
use Rattle.precedence_tree.proofs.Actives.{active-named}
use Rattle.precedence_tree.proofs.Parts.{older-all, newest-all}
use Rattle.plan_bounds.proofs.Parts.{active-ends}
use Rattle.plan_bounds.proofs.TailSteps.{ahead-node, bound-from}
use Rattle.plan_bounds.proofs.tails.tail_bound_of.Goals as goal

pub overflow_add-ahead : goal.overflow_add-ahead
overflow_add-ahead c = let last = c.last.ensures in let le = last-le-end c.args.project.now c.args.node.now.front in let end = front-end c.args.project.now c.args.node.now.front c.known.ensures.limits c.requires.front in let limit = c.longest_tail_before.ensures.limit in omega arith

-- the active jobs, as the node keeps them
active : (c : goal.After-max-first) → AreActive c.args.project.now c.args.node.now.front (joined c.newest_active-newest.result c.older_active-older.result.now)
active c = subst (λ (o : Option Active). AreActive c.args.project.now c.args.node.now.front (joined o c.older_active-older.result.now)) (sym c.newest_active-newest.ensures) c.older_active-older.ensures.active

pub latest_after_newest-bound-requires-clause-named : goal.latest_after_newest-bound-requires-clause-named
latest_after_newest-bound-requires-clause-named c =
    newest-all (IsNamed c.args.project.now) c.newest_active-newest.result c.older_active-older.result.now (active-named c.args.project.now c.args.node.now.front (joined c.newest_active-newest.result c.older_active-older.result.now) c.requires.front (active c))

pub latest_after_newest-bound-requires-clause-finishes : goal.latest_after_newest-bound-requires-clause-finishes
latest_after_newest-bound-requires-clause-finishes c =
    newest-all (λ (a : Active). a.finish ≤ 1290000) c.newest_active-newest.result c.older_active-older.result.now
    (active-ends c.args.project.now c.args.node.now.front (joined c.newest_active-newest.result c.older_active-older.result.now) c.known.ensures.limits c.requires.front (active c))

pub latest_after_newest-bound-requires-clause-floor : goal.latest_after_newest-bound-requires-clause-floor
latest_after_newest-bound-requires-clause-floor c =
    let last = c.last.ensures in
    let le = last-le-end c.args.project.now c.args.node.now.front in
    let end = front-end c.args.project.now c.args.node.now.front c.known.ensures.limits c.requires.front in
    let limit = c.longest_tail_before.ensures.limit in
    let own = c.end.ensures in
    let is = c.requires.end in
    let most = c.max-first.ensures in
    omega arith

pub latest_after-requires-clause-named : goal.latest_after-requires-clause-named
latest_after-requires-clause-named c =
    older-all (IsNamed c.args.project.now) c.newest_active-newest.result c.older_active-older.result.now
    (active-named c.args.project.now c.args.node.now.front (joined c.newest_active-newest.result c.older_active-older.result.now) c.requires.front
    (subst (λ (o : Option Active). AreActive c.args.project.now c.args.node.now.front (joined o c.older_active-older.result.now)) (sym c.newest_active-newest.ensures) c.older_active-older.ensures.active))

pub latest_after-requires-clause-finishes : goal.latest_after-requires-clause-finishes
latest_after-requires-clause-finishes c =
    older-all (λ (a : Active). a.finish ≤ 1290000) c.newest_active-newest.result c.older_active-older.result.now
    (active-ends c.args.project.now c.args.node.now.front (joined c.newest_active-newest.result c.older_active-older.result.now) c.known.ensures.limits c.requires.front
    (subst (λ (o : Option Active). AreActive c.args.project.now c.args.node.now.front (joined o c.older_active-older.result.now)) (sym c.newest_active-newest.ensures) c.older_active-older.ensures.active))

pub returns-clause-value : goal.returns-clause-value
returns-clause-value c =
    bound-from c.args.project.now c.known.ensures.acyclic c.args.node.now.front (front_before c.args.node.now.base) c.newest_active-newest.result c.older_active-older.result.now c.last.result c.end.result c.longest_tail_before.result c.max-first.result c.latest_after_newest-bound.result c.latest_after.result c.requires.front
    (subst (λ (o : Option Active). AreActive c.args.project.now c.args.node.now.front (joined o c.older_active-older.result.now)) (sym c.newest_active-newest.ensures) c.older_active-older.ensures.active)
    (ahead-node c.args.project.now c.known.ensures.acyclic c.args.node.now.base c.args.node.now.front c.args.node.now.entry c.args.node.now.finish c.requires.kept) c.last.ensures (c.end.ensures ∙ c.requires.end) c.longest_tail_before.ensures.value c.max-first.ensures c.latest_after_newest-bound.ensures.value c.latest_after.ensures.value
