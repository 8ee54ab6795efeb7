use Rattle.std.proofs.Common.{length, ap, sym, subst, ◌∙◌, arith}
use Rattle.std.specs.Prelude.{All}
use Rattle.project_net.specs.Draft.{IsJobWithinLimits}
use Rattle.project_gen.specs.Made.{need_words}
use Rattle.project_gen.proofs.DraftSteps.{length-drawn, jobs-drawn, draft-made}
use Rattle.project_gen.proofs.MadeDrafts.{size_of, job_limits}
use Rattle.project_gen.proofs.drafting.draft_of.Goals as goal

pub draft_jobs-requires-clause-predecessors : goal.draft_jobs-requires-clause-predecessors
draft_jobs-requires-clause-predecessors g c =
    let size = (length-drawn c.args.jobs c.args.modes (g.R.Rng.stream c.args.rng.now) c.in_ok-predecessors.field-0 c.in_ok-predecessors.ensures).1 in
    omega (arith, ap length c.as_slice.ensures, size, c.requires.few)

pub draft_jobs-requires-clause-few : goal.draft_jobs-requires-clause-few
draft_jobs-requires-clause-few g c =
    let size = (length-drawn c.args.jobs c.args.modes (g.R.Rng.stream c.args.rng.now) c.in_ok-predecessors.field-0 c.in_ok-predecessors.ensures).0 in
    omega (arith, size, c.requires.few)

pub budgets-requires-clause-few : goal.budgets-requires-clause-few
budgets-requires-clause-few g c =
    let s = g.R.Rng.stream c.args.rng.now in
    let jobs = c.as_slice-2.ensures ∙ jobs-drawn c.args.jobs c.args.modes s c.in_ok-predecessors.field-0 c.as_slice.result.now c.in_ok-drafted.drafted c.in_ok-predecessors.ensures c.as_slice.ensures c.in_ok-drafted.ensures in
    omega (arith, ap length jobs, size_of c.args.jobs c.args.modes s, c.requires.few)

pub budgets-requires-clause-limits : goal.budgets-requires-clause-limits
budgets-requires-clause-limits g c =
    let s = g.R.Rng.stream c.args.rng.now in
    let jobs = c.as_slice-2.ensures ∙ jobs-drawn c.args.jobs c.args.modes s c.in_ok-predecessors.field-0 c.as_slice.result.now c.in_ok-drafted.drafted c.in_ok-predecessors.ensures c.as_slice.ensures c.in_ok-drafted.ensures in
    subst (λ xs. All (IsJobWithinLimits 2 (need_words c.args.modes)) xs) (sym jobs) (job_limits c.args.jobs c.args.modes s c.requires.some_mode c.requires.few_modes)

pub returns : goal.returns
returns g c =
    let s = g.R.Rng.stream c.args.rng.now in
    let jobs = jobs-drawn c.args.jobs c.args.modes s c.in_ok-predecessors.field-0 c.as_slice.result.now c.in_ok-drafted.drafted c.in_ok-predecessors.ensures c.as_slice.ensures c.in_ok-drafted.ensures in
    draft-made c.args.jobs c.args.modes s c.in_ok-drafted.drafted c.as_slice-2.result.now c.from_vec.result c.in_ok-budgets.budgets c.new.result
    jobs c.as_slice-2.ensures (c.from_vec.ensures ∙ c.in_ok-capacities.ensures.items) c.in_ok-budgets.ensures c.new.ensures
