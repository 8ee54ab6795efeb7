-- From what is drawn to a draft, over plain lists. No public contract speaks of it.
use Rattle.std.specs.Prelude.{◌≡◌, ℕ, ◌+◌, ◌-◌, ◌/◌, ◌==◌, if◌then◌else◌, List, [], ◌∷◌, length, map, filter, sum_by}
use Rattle.std.specs.List.{range_with_len, slice_index_or}
use Rattle.rand_core.specs.Stream.{Stream}
use Rattle.rcpsp_model.specs.declared.parts.Mode.{Mode}
use Rattle.project_net.specs.declared.draft.Draft.{Draft}
use Rattle.project_net.specs.declared.draft.DraftJob.{DraftJob}
use Rattle.project_gen.specs.declared.drawing.Drawn.{Drawn}
use Rattle.project_gen.specs.declared.drawing.Predecessors.{Predecessors}
use Rattle.project_gen.specs.Made.{is_either, or_last, needs_together, made_predecessors, made_modes, made_successors, made_budgets}

-- what is drawn for n jobs of M modes
pub record AreDrawn (n M : ℕ) (s : Stream) (drawn : Drawn) : Type 0 where
  pub predecessors : drawn.predecessors ≡ map (made_predecessors M s) (range_with_len 2 (n - 2))
  pub modes : drawn.modes ≡ map (made_modes n M s) (range_with_len 1 n)

abbrev pub no_predecessors : Predecessors
no_predecessors = record { first = 0; second = 0 }

-- the jobs that follow job i, where the list has the predecessors of the jobs from 2 on
unfoldable pub followers_in : List Predecessors → ℕ → List ℕ
followers_in all i = filter (λ j. is_either i (slice_index_or all (j - 2) no_predecessors)) (range_with_len 2 (length all))

-- the successors of job i among n jobs
unfoldable pub successors_in : ℕ → List Predecessors → ℕ → List ℕ
successors_in n all i = if i == n then [] else or_last n (followers_in all i)

-- job j among n, with its modes and its successors
unfoldable pub job_in : ℕ → List Predecessors → List (List Mode) → ℕ → DraftJob
job_in n all modes j = record { modes = slice_index_or modes (j - 1) []; successors = successors_in n all j }

-- the half, rounded up, of the least and the greatest needs of the jobs
unfoldable pub budget_in : List DraftJob → ℕ → ℕ
budget_in jobs l = (sum_by (λ job. needs_together l job.modes) jobs + 1) / 2

-- the draft of a made project
unfoldable pub made_job : ℕ → ℕ → Stream → ℕ → DraftJob
made_job n M s j = record { modes = made_modes n M s j; successors = made_successors n M s j }

unfoldable pub made_draft : ℕ → ℕ → Stream → Draft
made_draft n M s = record {
  jobs = map (made_job n M s) (range_with_len 1 n);
  capacities = 8 ∷ 8 ∷ [];
  budgets = made_budgets n M s;
  calendar = [];
}
