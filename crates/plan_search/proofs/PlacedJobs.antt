-- Plans in which one job is placed anew, and those in which no job is placed yet.
use Rattle.std.proofs.Common.{◌≡◌, ℕ, zero, suc, ◌+◌, ◌-◌, ◌≤◌, arith, subst, ◌∙◌, List, [], ◌∷◌, set}
use Rattle.std.specs.Prelude.{All}
use Rattle.std.proofs.Math.ListN.{replicate, length-set}
use Rattle.std.proofs.lemmas.List.{length-replicate}
use Rattle.std.proofs.lemmas.List.Elements.{All-cons, All-head, All-nil, All-set, All-replicate, All-tail}
use Rattle.rcpsp_model.specs.declared.parts.Entry.{Entry}
use Rattle.rcpsp_model.specs.declared.parts.Placing.{Placing}
use Rattle.rcpsp_model.specs.Project.{Project, IsJob, IsMode, IsProject, job_count}
use Rattle.rcpsp_model.specs.Schedule.{entries_from}
use Rattle.project_net.specs.Feasible.{IsPlaced}
use Rattle.project_net.proofs.Limits.{some_mode}

abbrev HasMode : Project → Entry → Type 0
HasMode P e = IsMode P e.job e.mode

-- each job keeps one of its modes where one gets another of its own
modes-set : (P : Project) (i k : ℕ) (s : List Placing) (p : Placing) → IsMode P (i + k) p.mode → All (HasMode P) (entries_from i s) → All (HasMode P) (entries_from i (set s k p))
modes-set P i k [] p m all = all
modes-set P i zero (q ∷ qs) p m all =
    All-cons (HasMode P) (record { job = i; mode = p.mode; start = p.start }) (entries_from (i + 1) qs)
    (subst (λ (j : ℕ). IsMode P j p.mode) (let z : i + 0 ≡ i = omega arith in z) m)
    (All-tail (HasMode P) (record { job = i; mode = q.mode; start = q.start }) (entries_from (i + 1) qs) all)
modes-set P i (suc k) (q ∷ qs) p m all =
    All-cons (HasMode P) (record { job = i; mode = q.mode; start = q.start }) (entries_from (i + 1) (set qs k p))
    (All-head (HasMode P) (record { job = i; mode = q.mode; start = q.start }) (entries_from (i + 1) qs) all)
    (modes-set P (i + 1) k qs p (subst (λ (j : ℕ). IsMode P j p.mode) (let z : i + suc k ≡ i + 1 + k = omega arith in z) m)
    (All-tail (HasMode P) (record { job = i; mode = q.mode; start = q.start }) (entries_from (i + 1) qs) all))

pub placed-set : (P : Project) (s : List Placing) (j : ℕ) (p : Placing) → IsPlaced P s → IsJob P j → IsMode P j p.mode → p.start ≤ 999999999 → IsPlaced P (set s (j - 1) p)
placed-set P s j p placed job mode start =
    let low = job.0 in
    record {
      whole = length-set s (j - 1) p ∙ placed.whole;
      modes = modes-set P 1 (j - 1) s p (subst (λ (i : ℕ). IsMode P i p.mode) (let z : j ≡ 1 + (j - 1) = omega arith in z) mode) placed.modes;
      starts = All-set (λ (q : Placing). q.start ≤ 999999999) s (j - 1) p start placed.starts;
    }

-- the first mode is one of each job
modes-first : (P : Project) → IsProject P → (i n : ℕ) (p : Placing) → p.mode ≡ 1 → 1 ≤ i → i + n ≤ job_count P + 1 → All (HasMode P) (entries_from i (replicate n p))
modes-first P project i zero p one low high = All-nil (HasMode P)
modes-first P project i (suc n) p one low high =
    let some = some_mode P i project.limits (low, omega arith) in
    All-cons (HasMode P) (record { job = i; mode = p.mode; start = p.start }) (entries_from (i + 1) (replicate n p)) (omega arith, omega arith)
    (modes-first P project (i + 1) n p one (omega arith) (omega arith))

pub placed-first : (P : Project) → IsProject P → (n : ℕ) (p : Placing) → n ≡ job_count P → p.mode ≡ 1 → p.start ≤ 999999999 → IsPlaced P (replicate n p)
placed-first P project n p whole one start = record {
  whole = length-replicate n p ∙ whole;
  modes = modes-first P project 1 n p one (omega arith) (omega arith);
  starts = All-replicate (λ (q : Placing). q.start ≤ 999999999) n p start;
}
