-- The rule of the published counts: what holds of them and of the views of all passes between any two steps, whoever makes them.
use Rattle.std.specs.Prelude.{◌≡◌, ℕ, ◌≤◌, List}
use Rattle.search_table.specs.declared.view.PassView.{PassView}
use Rattle.search_table.specs.Lists.{Lacks}
use Rattle.search_table.specs.Counts.{made_by, seen_of, passes_of_worker}
use Rattle.search_table.specs.Passes.{IsLive, EachView, total}

-- a worker's number is 1 up to their number
pub record IsWorker (workers worker : ℕ) : Type 0 where
  pub low : 1 ≤ worker
  pub high : worker ≤ workers

-- while the first pass is there, no pass stands for a worker that was not split off it
abbrev pub HasSplitOff : List PassView → PassView → Type 0
HasSplitOff views v = IsLive v → v.number ≡ 0 → (worker : ℕ) → 1 ≤ worker → Lacks v.split_off worker → total (passes_of_worker worker) views ≡ 0

-- a worker's published count is the sum of what the passes stand for, and no pass has seen more of it; one pass at most
-- stands for a worker, and a pass that was joined into another for none
pub record KeepsCounts (workers : ℕ) (count : ℕ → ℕ) (views : List PassView) : Type 0 where
  pub made : (worker : ℕ) → IsWorker workers worker → count worker ≡ total (made_by worker) views
  pub seen : (worker : ℕ) → IsWorker workers worker → EachView (λ v. IsLive v → seen_of worker v ≤ count worker) views
  pub once : (worker : ℕ) → 1 ≤ worker → total (passes_of_worker worker) views ≤ 1
  pub first : EachView (HasSplitOff views) views
  pub spent : EachView (λ v. v.passes ≡ 0 → (worker : ℕ) → made_by worker v ≡ 0) views
