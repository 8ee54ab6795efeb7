use Rattle.std.proofs.Common.{ℕ, ◌-◌, ◌≤◌, arith, sym, subst, List}
use Rattle.std.specs.Prelude.{All, ◌↔◌}
use Rattle.rcpsp_model.specs.Project.{request, capacity}
use Rattle.rcpsp_model.specs.Bounds.{ready}
use Rattle.precedence_tree.specs.declared.active.Active.{Active}
use Rattle.precedence_tree.specs.Active.{IsNamed, load_at}
use Rattle.precedence_tree.proofs.Actives.{active-named}
use Rattle.precedence_tree.proofs.StartSteps.{starts-more, starts-all}
use Rattle.precedence_tree.proofs.starts.earliest_by_capacities.Goals as goal

pub free_from-free-requires-clause-named : goal.free_from-free-requires-clause-named
free_from-free-requires-clause-named c =
    subst (All (IsNamed c.args.project.now)) (sym c.as_slice.ensures) (active-named c.args.project.now c.args.base.now.front c.args.base.now.active c.requires.base.front c.requires.base.active)

pub loop-resource-preserved : goal.loop-resource-preserved
loop-resource-preserved c =
    let P = c.args.project.now in
    let xs = c.args.base.now.active in
    let n = c.loop-resource.resource in
    let has = c.capacity.ensures.value in
    let asks = c.request.ensures.value in
    let some : request P c.args.job c.args.mode n ≤ capacity P n = c.requires.executable c.requires.time n (omega arith, omega arith) in
    starts-more P xs c.args.job c.args.mode (ready P c.args.base.now.front c.args.job) n c.loop-resource.start c.free_from-free.result c.max-start.result (c.capacity.result - c.request.result) (omega arith, omega arith) some (omega arith)
    (subst (λ (ys : List Active). (t : ℕ) → (c.free_from-free.result ≤ t) ↔ (load_at P ys n t ≤ c.capacity.result - c.request.result)) c.as_slice.ensures c.free_from-free.ensures)
    c.max-start.ensures c.loop-resource.invariant

pub returns : goal.returns
returns c =
    starts-all c.args.project.now c.args.base.now.active c.args.job c.args.mode (ready c.args.project.now c.args.base.now.front c.args.job) c.loop-resource.resource c.loop-resource.start
    (let all = c.renewables-resource-end.ensures.value in let out = c.loop-resource-test.false in let end = c.loop-resource.auto.resource-end in omega arith)
    c.loop-resource.invariant
