use Rattle.std.proofs.Common.{◌≡◌, ◌∙◌, sym, subst, arith, rules, refl}
use Rattle.std.proofs.Math.ListN.{replicate}
use Rattle.rcpsp_model.specs.declared.parts.Placing.{Placing}
use Rattle.project_net.specs.Feasible.{IsPlaced}
use Rattle.plan_search.proofs.PlacedJobs.{placed-first}
use Rattle.plan_search.proofs.improving.unplaced.Goals as goal

pub take_first_modes-requires : goal.take_first_modes-requires
take_first_modes-requires c =
    let p : Placing = record { mode = 1; start = 0 } in
    let lent : c.deref_mut.result.now ≡ c.in_ok-places.places.items = search rules in
    let all : c.in_ok-places.places.items ≡ replicate c.from.result p = c.in_ok-places.ensures.items_if_clones_equal (search rules) in
    subst (IsPlaced c.args.project.now) (sym (lent ∙ all)) (placed-first c.args.project.now c.known.ensures c.from.result p (cc) refl (omega arith))
