use Rattle.std.proofs.Common.{refl}
use Rattle.rand_core.specs.Stream.{next_u32}
use Rattle.rand_core.specs.Steps.{stream_of}
use Rattle.project_gen.specs.Draws.{stream_of_seed, after, draw, two_draws}
use Rattle.project_gen.specs.Made.{drawn_needs, drawn_mode, drawn_modes, idle_mode, drawn_predecessors, words_of_job, made_predecessors, made_modes, followers, made_successors, made_activity, made_budget, project_from, made}
use Rattle.project_gen.proofs.laws.the_least_made_project.Goals as goal

pub returns-clause-words : goal.returns-clause-words
unfolding stream_of_seed stream_of next_u32 after draw
returns-clause-words c = refl

pub returns-clause-project : goal.returns-clause-project
unfolding stream_of_seed stream_of next_u32 after draw two_draws drawn_needs drawn_mode drawn_modes idle_mode drawn_predecessors words_of_job made_predecessors made_modes followers made_successors made_activity made_budget project_from made
returns-clause-project c = refl
