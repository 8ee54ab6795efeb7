use Rattle.std.proofs.Common.{ap, ◌∙◌}
use Rattle.rand_core.specs.Steps.{stream_of, steps_u32}
use Rattle.rand_pcg.specs.Pcg.{pcg32}
use Rattle.project_net.specs.Draft.{project_of}
use Rattle.project_gen.specs.Draws.{stream_of_seed}
use Rattle.project_gen.specs.Made.{project_from, made}
use Rattle.project_gen.proofs.MadeDrafts.{no_fault, project_made}
use Rattle.project_gen.proofs.making.make.Goals as goal

pub unreachable-requires : goal.unreachable-requires
unreachable-requires c =
    c.in_default.not-NoMemory
    (no_fault c.args.jobs c.args.modes (stream_of (steps_u32 pcg32) c.new-rng.result) c.in_ok-draft.draft c.in-Err.refusal c.requires.some c.requires.few c.requires.some_mode c.requires.few_modes c.in_ok-draft.ensures c.in-Err.ensures.refused)

pub returns-in-Ok : goal.returns-in-Ok
unfolding made stream_of_seed
returns-in-Ok c =
    c.in-Ok.ensures.ok
    ∙ ap project_of c.in_ok-draft.ensures
    ∙ project_made c.args.jobs c.args.modes (stream_of (steps_u32 pcg32) c.new-rng.result)
    ∙ ap (λ rng. project_from c.args.jobs c.args.modes (stream_of (steps_u32 pcg32) rng)) c.new-rng.ensures
