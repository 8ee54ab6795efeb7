-- Made projects: a project for each seed, number of jobs n and number of modes M. Job 1 comes before all others and job n
-- after them; each job between has two drawn predecessors, and M drawn modes.
use Rattle.std.specs.Prelude.{ℕ, ◌+◌, ◌-◌, ◌*◌, ◌/◌, ◌==◌, ◌&&◌, ◌||◌, nat_le, nat_lt, if◌then◌else◌, Bool, List, [], ◌∷◌, map, filter, sum_by, slice_index}
use Rattle.std.specs.List.{range_with_len}
use Rattle.rand_core.specs.Stream.{Stream}
use Rattle.rcpsp_model.specs.declared.parts.Mode.{Mode}
use Rattle.rcpsp_model.specs.Project.{Project, Activity}
use Rattle.rcpsp_model.specs.Chain.{least_over}
use Rattle.project_net.specs.Canonical.{greatest}
use Rattle.project_gen.specs.declared.drawing.Predecessors.{Predecessors}
use Rattle.project_gen.specs.Draws.{stream_of_seed, after, draw, two_draws}

-- ---- modes

-- whether there are nonrenewable resources, two of them: where the jobs have a choice of modes
abbrev pub has_budgets : ℕ → Bool
has_budgets M = nat_le 2 M

-- the needs of a mode, 0 to 9 each, from word i on
unfoldable pub drawn_needs : ℕ → Stream → ℕ → List ℕ
drawn_needs M s i = if has_budgets M then two_draws s i 10 else []

-- a mode: a duration of 1 to 10 periods, the requests of two renewable resources, 0 to 5 each, and the needs
unfoldable pub drawn_mode : ℕ → Stream → Mode
drawn_mode M s = record {
  duration = 1 + draw s 0 10;
  requests = two_draws s 1 6;
  needs = drawn_needs M s 3;
}

-- how many words the needs of a mode take, and a mode
abbrev pub need_words : ℕ → ℕ
need_words M = if has_budgets M then 2 else 0

abbrev pub mode_words : ℕ → ℕ
mode_words M = 3 + need_words M

-- the M modes of a job, one after another
unfoldable pub drawn_modes : ℕ → Stream → List Mode
drawn_modes M s = map (λ m. drawn_mode M (after ((m - 1) * mode_words M) s)) (range_with_len 1 M)

-- the mode of the first and the last job: it takes nothing
unfoldable pub idle_mode : ℕ → Mode
idle_mode M = record {
  duration = 0;
  requests = 0 ∷ 0 ∷ [];
  needs = if has_budgets M then 0 ∷ 0 ∷ [] else [];
}

-- ---- jobs

-- two predecessors of job j, each a job before it
unfoldable pub drawn_predecessors : ℕ → Stream → Predecessors
drawn_predecessors j s = record { first = 1 + draw s 0 (j - 1); second = 1 + draw s 1 (j - 1) }

-- how many words a job takes: two predecessors and M modes
abbrev pub job_words : ℕ → ℕ
job_words M = 2 + M * mode_words M

-- the words from which job j is drawn; job 2 is the first that is
unfoldable pub words_of_job : ℕ → Stream → ℕ → Stream
words_of_job M s j = after ((j - 2) * job_words M) s

-- the predecessors of a job from 2 to n - 1
unfoldable pub made_predecessors : ℕ → Stream → ℕ → Predecessors
made_predecessors M s j = drawn_predecessors j (words_of_job M s j)

-- the modes of a job
unfoldable pub made_modes : ℕ → ℕ → Stream → ℕ → List Mode
made_modes n M s j =
    if nat_lt 1 j && nat_lt j n then drawn_modes M (after 2 (words_of_job M s j)) else (idle_mode M ∷ [])

-- ---- order

-- whether job i is one of the two
abbrev pub is_either : ℕ → Predecessors → Bool
is_either i both = (both.first == i) || (both.second == i)

-- the jobs that drew job i
unfoldable pub followers : ℕ → ℕ → Stream → ℕ → List ℕ
followers n M s i = filter (λ j. is_either i (made_predecessors M s j)) (range_with_len 2 (n - 2))

-- these jobs, or the job n where there is none
abbrev pub or_last : ℕ → List ℕ → List ℕ
or_last n [] = n ∷ []
or_last n (j ∷ js) = j ∷ js

-- the successors of a job: no job but n is without
unfoldable pub made_successors : ℕ → ℕ → Stream → ℕ → List ℕ
made_successors n M s i = if i == n then [] else or_last n (followers n M s i)

-- ---- the project

unfoldable pub made_activity : ℕ → ℕ → Stream → ℕ → Activity
made_activity n M s j = record { modes = made_modes n M s j; successors = made_successors n M s j }

-- what a mode needs of a nonrenewable resource
abbrev pub need_of : ℕ → Mode → ℕ
need_of l mode = slice_index mode.needs (l - 1)

-- the least and the greatest need of a nonrenewable resource over the modes of a job, together
unfoldable pub needs_together : ℕ → List Mode → ℕ
needs_together l modes = least_over (need_of l) modes + greatest (map (need_of l) modes)

-- the half, rounded up, of the least and the greatest needs of all jobs
unfoldable pub made_budget : ℕ → ℕ → Stream → ℕ → ℕ
made_budget n M s l = (sum_by (λ j. needs_together l (made_modes n M s j)) (range_with_len 1 n) + 1) / 2

abbrev pub made_budgets : ℕ → ℕ → Stream → List ℕ
made_budgets n M s = if has_budgets M then made_budget n M s 1 ∷ made_budget n M s 2 ∷ [] else []

-- the project of a stream of words: there are 8 units of each renewable resource
unfoldable pub project_from : ℕ → ℕ → Stream → Project
project_from n M s = record {
  activities = map (made_activity n M s) (range_with_len 1 n);
  capacities = 8 ∷ 8 ∷ [];
  budgets = made_budgets n M s;
  calendar = [];
}

-- the project of a seed, with n jobs, 3 to 128, and M modes, 1 to 4
unfoldable pub made : ℕ → ℕ → ℕ → Project
made seed n M = project_from n M (stream_of_seed seed)
