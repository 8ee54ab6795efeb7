-- Published counts in lists and of passes: sums, the greatest, and how often a worker stands there.
use Rattle.std.proofs.Common.{◌≡◌, ◌≢◌, ℕ, ◌+◌, ◌≤◌, ◌==◌, Bool, true, false, List, [], ◌∷◌, ◌++◌, max, refl, ap, arith}
use Rattle.std.specs.Prelude.{if◌then◌else◌}
use Rattle.std.proofs.lemmas.Bool.Decides.{nat_tests}
use Rattle.search_table.specs.declared.view.PassView.{PassView}
use Rattle.search_table.specs.declared.view.WorkerCount.{WorkerCount}
use Rattle.search_table.specs.Counts.{sum_of, greatest_of, times_of, counts_of, made_by, seen_of, passes_of_worker}
use Rattle.search_table.specs.Views.{joint_view}

sum_of-append : (worker : ℕ) (xs ys : List WorkerCount) → sum_of worker (xs ++ ys) ≡ sum_of worker xs + sum_of worker ys
sum_of-append worker [] ys = omega arith
sum_of-append worker (x ∷ xs) ys = let r = sum_of-append worker xs ys in omega arith

greatest_of-append : (worker : ℕ) (xs ys : List WorkerCount) → greatest_of worker (xs ++ ys) ≡ max (greatest_of worker xs) (greatest_of worker ys)
greatest_of-append worker [] ys = omega arith
greatest_of-append worker (x ∷ xs) ys = let r = greatest_of-append worker xs ys in omega arith

times_of-append : (worker : ℕ) (xs ys : List WorkerCount) → times_of worker (xs ++ ys) ≡ times_of worker xs + times_of worker ys
times_of-append worker [] ys = omega arith
times_of-append worker (x ∷ xs) ys = let r = times_of-append worker xs ys in omega arith

-- what a test of two workers chooses: where they are one, where they are two, and in any case
pub if-same : (worker n : ℕ) → (if worker == worker then n else 0) ≡ n
if-same worker n = ap (λ (b : Bool). if b then n else 0) (let e : (worker == worker) ≡ true = grind (arith, nat_tests) in e)

pub if-apart : (other worker n : ℕ) → other ≢ worker → (if other == worker then n else 0) ≡ 0
if-apart other worker n ne = ap (λ (b : Bool). if b then n else 0) (let e : (other == worker) ≡ false = grind (arith, nat_tests) in e)

pub if-le : (b : Bool) (n : ℕ) → (if b then n else 0) ≤ n
if-le true n = omega arith
if-le false n = omega arith

-- a worker that stands nowhere in a list has published nothing there
pub sum_of-none : (worker : ℕ) (xs : List WorkerCount) → times_of worker xs ≡ 0 → sum_of worker xs ≡ 0
sum_of-none worker [] none = refl
sum_of-none worker (x ∷ xs) none =
    let r = sum_of-none worker xs (omega arith) in let c = by_test (x.worker == worker) 1 x.count (omega arith) (omega arith) in omega arith
  where
    by_test : (b : Bool) (m n : ℕ) → 1 ≤ m → (if b then m else 0) ≡ 0 → (if b then n else 0) ≡ 0
    by_test true m n some h = absurd (omega arith)
    by_test false m n some h = refl

-- what a pass stands for and has seen, once it took in another
pub made_by-joint_view : (worker : ℕ) (v w : PassView) → made_by worker (joint_view v w) ≡ made_by worker v + made_by worker w
made_by-joint_view worker v w = let a = sum_of-append worker v.joined_counts (counts_of w) in omega arith

pub seen_of-joint_view : (worker : ℕ) (v w : PassView) → seen_of worker (joint_view v w) ≡ max (seen_of worker v) (seen_of worker w)
seen_of-joint_view worker v w = greatest_of-append worker v.seen_counts w.seen_counts

pub passes_of_worker-joint_view : (worker : ℕ) (v w : PassView) → passes_of_worker worker (joint_view v w) ≡ passes_of_worker worker v + passes_of_worker worker w
passes_of_worker-joint_view worker v w = let a = times_of-append worker v.joined_counts (counts_of w) in omega arith
