use Rattle.std.proofs.Common.{ap, sym, ◌∙◌}
use Rattle.std.proofs.lemmas.Bool.{eqb-true, eq-eqb}
use Rattle.sched_base.specs.declared.job_set.JobSet.{JobSet}
use Rattle.sched_base.proofs.Sets.{union-within, within-from_union}
use Rattle.sched_base.proofs.job_set.JobSet.is_within.Goals as goal

pub returns : goal.returns
returns c = (
  λ e. within-from_union c.args.self c.args.other c.union.result c.union.ensures
      (ap (λ n. (let s : JobSet = record { 0 = n } in s)) (eqb-true c.union.result.0 c.args.other.0 (sym c.eq.ensures ∙ e))),
  λ w. c.eq.ensures ∙ eq-eqb c.union.result.0 c.args.other.0 (ap (λ (s : JobSet). s.0) (union-within c.args.self c.args.other c.union.result c.union.ensures w)),
)
