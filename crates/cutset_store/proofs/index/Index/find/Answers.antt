use Rattle.std.proofs.Common.{ℕ, sym, arith, subst, List, []}
use Rattle.std.specs.Prelude.{None}
use Rattle.precedence_tree.specs.declared.base.Base.{Base}
use Rattle.cutset_store.specs.Index.{IsLineOf, DominatesAt, fronts_of}
use Rattle.cutset_store.proofs.Indexed.{line-found, places-none, none-exactly, none-dominates}
use Rattle.cutset_store.proofs.index.Index.find.Goals as goal

pub first_dominating-requires-clause-line : goal.first_dominating-requires-clause-line
first_dominating-requires-clause-line c =
    let x = c.self.inside in
    let set = c.placed-jobs.result in
    subst (λ (bases : List Base). IsLineOf bases x.width set c.index.result.now) (sym c.as_slice.ensures.value)
    (line-found x.records.items x.width x.table set c.in-Some.place c.index.result.now c.self.invariant c.in-Some.ensures c.index.ensures)

-- no front has the jobs of the node
pub returns-in-None-clause-none : goal.returns-in-None-clause-none
returns-in-None-clause-none c =
    let P = c.args.project.now in let B = c.args.b.now.front in let x = c.self.inside in
    let none = none-dominates P (fronts_of x.records.items) B c.placed-jobs.result [] c.placed-jobs.ensures (places-none x.records.items x.width x.table c.placed-jobs.result c.self.invariant c.in-None.ensures) 0 (omega arith) (λ k low. absurd (omega arith)) in
    none-exactly P (fronts_of c.args.self.now) B None tt (subst (λ (bases : List Base). (i : ℕ) → DominatesAt P (fronts_of bases) B i → ⊥) c.self.view_is none)
