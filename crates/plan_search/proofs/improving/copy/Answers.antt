use Rattle.std.proofs.Common.{◌≡◌, ◌+◌, ◌-◌, ◌∷◌, ◌++◌, [], arith, sym, ap, subst, ◌∙◌, take, Some, List}
use Rattle.std.specs.Prelude.{slice_get}
use Rattle.std.proofs.lemmas.List.{take_all, take_more}
use Rattle.std.proofs.lemmas.Option.{get_or_from_slice_get, slice_get_within}
use Rattle.rcpsp_model.specs.declared.parts.Placing.{Placing}
use Rattle.plan_search.proofs.improving.copy.Goals as goal

pub loop-done-preserved : goal.loop-done-preserved
loop-done-preserved c =
    let s = c.args.schedule.now in let i = c.loop-done.done in let x = c.place.result in
    let is : slice_get s i ≡ Some x = subst (λ n. slice_get s n ≡ Some x) (let z : i + 1 - 1 ≡ i = omega arith in z) c.place.ensures in
    let pushed : c.push.new.self.items ≡ c.loop-done.places.items ++ x ∷ [] = c.in_ok-push.ensures.items in
    pushed ∙ ap (λ (ps : List Placing). ps ++ x ∷ []) c.loop-done.invariant ∙ ap (λ (p : Placing). take i s ++ p ∷ []) (sym (get_or_from_slice_get s i x x is)) ∙ sym (take_more s i x (slice_get_within s i x is))

pub returns : goal.returns
returns c =
    let whole = c.requires in let jobs = c.jobs-done-end.ensures.value in let test = c.loop-done-test.false in
    c.loop-done.invariant ∙ take_all c.loop-done.done c.args.schedule.now (omega arith)
