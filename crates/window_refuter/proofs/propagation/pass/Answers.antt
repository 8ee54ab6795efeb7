use Rattle.std.proofs.Common.{inl, inr, sym, subst, ◌∙◌, take, ◌+◌}
use Rattle.window_refuter.specs.declared.propagation.Tightened.{Tightened}
use Rattle.window_refuter.proofs.Narrowed.{IsSoFar, narrowed-then, tried-unchanged, tried-changed, tried-none}
use Rattle.window_refuter.proofs.propagation.pass.Goals as goal
use Rattle.window_refuter.proofs.propagation.pass.Goals.{in-Unchanged, in-Changed}

pub loop-step-preserved : goal.loop-step-preserved
loop-step-preserved c =
    let P = c.args.project.now in
    let tried = c.args.tried.now in
    let i = c.loop-step.step-index in
    let now = c.loop-step.windows in
    let new = c.tighten.new.windows in
    let own = c.in_ok-tighten.ensures.tightened in
    elim c.match-branch-2.branch [
      | in-Unchanged w ↦ record {
        size = c.tighten.auto.windows ∙ c.loop-step.invariant.size;
        within = c.in_ok-tighten.ensures.within;
        none_empty = tried-none P _ now new c.in_ok-tighten.field-0 c.loop-step.invariant.none_empty (inl w.in-Unchanged.is) own;
        narrowed = narrowed-then P c.args.end _ _ _ _ _ _ c.loop-step.invariant.narrowed c.in_ok-tighten.ensures.narrowed;
        so_far = subst (λ (t : Tightened). IsSoFar P (take (i + 1) tried) c.args.windows.now t new) (sym w.so_far-is) (tried-unchanged P tried i _ c.args.windows.now now new c.loop-step.so_far c.in_ok-tighten.field-0 c.loop-step-test.true w.in-Unchanged.is own c.loop-step.invariant.so_far);
      }
      | in-Changed w ↦ record {
        size = c.tighten.auto.windows ∙ c.loop-step.invariant.size;
        within = c.in_ok-tighten.ensures.within;
        none_empty = tried-none P _ now new c.in_ok-tighten.field-0 c.loop-step.invariant.none_empty (inr w.in-Changed.is) own;
        narrowed = narrowed-then P c.args.end _ _ _ _ _ _ c.loop-step.invariant.narrowed c.in_ok-tighten.ensures.narrowed;
        so_far = subst (λ (t : Tightened). IsSoFar P (take (i + 1) tried) c.args.windows.now t new) (sym w.so_far-is) (tried-changed P tried i _ c.args.windows.now now new c.loop-step.so_far c.in_ok-tighten.field-0 w.in-Changed.is own c.loop-step.invariant.so_far);
      }
    ]
