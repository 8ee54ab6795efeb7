use Rattle.std.proofs.Common.{ap, sym, subst, ◌∙◌}
use Rattle.project_net.specs.Draft.{project_of, IsWithinLimits}
use Rattle.psplib_reader.proofs.DraftLimits.{draft_is, project_is, limits_are}
use Rattle.psplib_reader.proofs.drafting.draft_of.Goals as goal

pub returns-clause-project : goal.returns-clause-project
returns-clause-project c = ap project_of (draft_is c.args.content c.as_slice.result.now c.in_ok-jobs.jobs c.in_ok-jobs.ensures c.as_slice.ensures) ∙ project_is c.args.content c.requires

pub returns-clause-limits : goal.returns-clause-limits
returns-clause-limits c =
    subst IsWithinLimits (sym (draft_is c.args.content c.as_slice.result.now c.in_ok-jobs.jobs c.in_ok-jobs.ensures c.as_slice.ensures)) (limits_are c.args.content c.requires)
