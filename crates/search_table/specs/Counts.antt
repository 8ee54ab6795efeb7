-- Published counts: of one worker in a list, and what a pass stands for and has seen.
use Rattle.std.specs.Prelude.{ℕ, ◌+◌, ◌==◌, max, List, [], ◌∷◌, if◌then◌else◌}
use Rattle.search_table.specs.declared.view.PassView.{PassView}
use Rattle.search_table.specs.declared.view.WorkerCount.{WorkerCount}

-- the count, where it is the worker's, and 0 where it is another's
abbrev pub counted : ℕ → WorkerCount → ℕ
counted worker c = if c.worker == worker then c.count else 0

-- the sum of the worker's counts in a list
abbrev pub sum_of : ℕ → List WorkerCount → ℕ
sum_of worker [] = 0
sum_of worker (c ∷ counts) = counted worker c + sum_of worker counts

-- the greatest of the worker's counts in a list, 0 where it has none
abbrev pub greatest_of : ℕ → List WorkerCount → ℕ
greatest_of worker [] = 0
greatest_of worker (c ∷ counts) = max (counted worker c) (greatest_of worker counts)

-- how often the worker stands in a list
abbrev pub times_of : ℕ → List WorkerCount → ℕ
times_of worker [] = 0
times_of worker (c ∷ counts) = (if c.worker == worker then 1 else 0) + times_of worker counts

-- the published counts that a pass stands for: its own, and those of the passes that were joined into it
abbrev pub counts_of : PassView → List WorkerCount
counts_of v = record { worker = v.number; count = v.own } ∷ v.joined_counts

-- how often the worker has published, as far as the pass stands for it
abbrev pub made_by : ℕ → PassView → ℕ
made_by worker v = sum_of worker (counts_of v)

-- the greatest published count of the worker that the pass has seen
abbrev pub seen_of : ℕ → PassView → ℕ
seen_of worker v = greatest_of worker v.seen_counts

-- how many passes of the worker a pass stands for
abbrev pub passes_of_worker : ℕ → PassView → ℕ
passes_of_worker worker v = times_of worker (counts_of v)
