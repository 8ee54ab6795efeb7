use Rattle.std.proofs.Common.{arith, refl, ap, subst, ◌∙◌, take}
use Rattle.std.specs.Prelude.{All}
use Rattle.std.proofs.lemmas.List.Elements.{All-more}
use Rattle.std.proofs.Math.Seq.{take-length}
use Rattle.precedence_tree.proofs.Ordered.{no_active}
use Rattle.precedence_tree.specs.Active.{IsNamed}
use Rattle.cutset_store.proofs.orderly.are_named.Goals as goal

pub loop-place-preserved : goal.loop-place-preserved
loop-place-preserved c = All-more (IsNamed c.args.project.now) c.args.active.now c.loop-place.place no_active c.loop-place-test.true c.loop-place.invariant (c.is_named.ensures.0 c.if-not-is_named.false)

pub returns : goal.returns
returns c = (
  λ e. subst (All (IsNamed c.args.project.now)) (ap (λ i. take i c.args.active.now) (let end = c.loop-place.auto.place-end in let out = c.loop-place-test.false in omega arith) ∙ take-length c.args.active.now) c.loop-place.invariant,
  λ h. refl,
)
