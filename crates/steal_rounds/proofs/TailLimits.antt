-- Bounds are small numbers.
use Rattle.std.proofs.Common.{◌≡◌, ℕ, zero, suc, ◌+◌, ◌*◌, ◌<◌, ◌≤◌, inl, inr, ap, arith, List, [], ◌∷◌, cond}
use Rattle.std.specs.Prelude.{nat_le}
use Rattle.std.proofs.lemmas.Bool.{cases_lt}
use Rattle.std.proofs.lemmas.Bool.Decides.{nat_tests}
use Rattle.rcpsp_model.specs.declared.parts.Entry.{Entry}
use Rattle.rcpsp_model.specs.Project.{Project, jobs, job_count, numbers_from, modes_of, mode_of, duration, IsJob, IsMode, IsWithinLimits, IsAcyclic, IsProject}
use Rattle.rcpsp_model.specs.Chain.{least_duration, IsChain}
use Rattle.rcpsp_model.specs.Tree.{IsFront}
use Rattle.rcpsp_model.specs.Bounds.{TailValue, of_front, of_chain, IsTailBound}
use Rattle.rcpsp_model.proofs.Lists.{In, total, sum_by-total}
use Rattle.rcpsp_model.proofs.Choices.{In-jobs}
use Rattle.rcpsp_model.proofs.Fronts.{front-end, ready-limit, activity-within, duration-limit}
use Rattle.rcpsp_model.proofs.LeastModes.{least_over-le, mode-In}
use Rattle.rcpsp_model.specs.declared.parts.Mode.{Mode}

-- what one element adds to the one weight is added to the sum
total-gains : (f g : ℕ → ℕ) (n j : ℕ) (xs : List ℕ) → ((x : ℕ) → f x ≤ g x) → f j + n ≤ g j → In xs j → n + total f xs ≤ total g xs
total-gains f g n j [] le more i = absurd i
total-gains f g n j (x ∷ xs) le more (inl e) =
    let rest = total-le f g xs le in
    let a : f x ≡ f j = ap f e in
    let b : g x ≡ g j = ap g e in
    omega arith
  where
    total-le : (f g : ℕ → ℕ) (xs : List ℕ) → ((x : ℕ) → f x ≤ g x) → total f xs ≤ total g xs
    total-le f g [] le = omega arith
    total-le f g (x ∷ xs) le = let ih = total-le f g xs le in let own = le x in omega arith
total-gains f g n j (x ∷ xs) le more (inr i) = let ih = total-gains f g n j xs le more i in let own = le x in omega arith

-- the least duration of a job whose rank is no less
abbrev from_rank : Project → (ℕ → ℕ) → ℕ → ℕ → ℕ
from_rank P rank r x = cond (nat_le r (rank x)) (least_duration P x) 0

from-le : (P : Project) (rank : ℕ → ℕ) (r s x : ℕ) → r ≤ s → from_rank P rank s x ≤ from_rank P rank r x
from-le P rank r s x l = grind (arith, nat_tests)

from-own : (P : Project) (rank : ℕ → ℕ) (r x : ℕ) → r ≤ rank x → from_rank P rank r x ≡ least_duration P x
from-own P rank r x l = grind (arith, nat_tests)

from-less : (P : Project) (rank : ℕ → ℕ) (r x : ℕ) → rank x < r → from_rank P rank r x ≡ 0
from-less P rank r x l = grind (arith, nat_tests)

-- a chain of jobs takes no more than all jobs whose ranks are no less than that of its first
chain-within : (P : Project) (a : IsAcyclic P) (j : ℕ) (js : List ℕ) → IsJob P j → IsChain P (j ∷ js) → total (least_duration P) (j ∷ js) ≤ total (from_rank P a.rank (a.rank j)) (jobs P)
chain-within P a j [] job c =
    let own = from-own P a.rank (a.rank j) j (omega arith) in
    let g = total-gains (λ x. 0) (from_rank P a.rank (a.rank j)) (least_duration P j) j (jobs P) (λ x. omega arith) (omega arith) (In-jobs P j job.0 job.1) in
    omega arith
chain-within P a j (k ∷ js) job c =
    let up = a.rises j k c.0 in
    let ih = chain-within P a k js (a.jobs j k c.0).1 c.1 in
    let own = from-own P a.rank (a.rank j) j (omega arith) in
    let none = from-less P a.rank (a.rank k) j (omega arith) in
    let g = total-gains (from_rank P a.rank (a.rank k)) (from_rank P a.rank (a.rank j)) (least_duration P j) j (jobs P) (λ x. from-le P a.rank (a.rank j) (a.rank k) x (omega arith)) (omega arith) (In-jobs P j job.0 job.1) in
    omega arith

least_duration-le : (P : Project) (j m : ℕ) → IsMode P j m → least_duration P j ≤ duration P j m
unfolding least_duration duration mode_of
least_duration-le P j m r = least_over-le (λ (x : Mode). x.duration) (modes_of P j) _ (mode-In P j m r)

first-mode : (P : Project) → IsWithinLimits P → (j : ℕ) → IsJob P j → IsMode P j 1
unfolding modes_of
first-mode P w j job = (omega arith, (activity-within P w j job).some_mode)

job-least : (P : Project) → IsWithinLimits P → (j : ℕ) → IsJob P j → least_duration P j ≤ 10000
job-least P w j job = let m = first-mode P w j job in let a = least_duration-le P j 1 m in let b = duration-limit P w j 1 job m in omega arith

total-few : (f : ℕ → ℕ) (i n : ℕ) → ((x : ℕ) → i ≤ x → x < i + n → f x ≤ 10000) → total f (numbers_from i n) ≤ 10000 * n
total-few f i zero le = omega arith
total-few f i (suc n) le = let own = le i (omega arith) (omega arith) in let ih = total-few f (i + 1) n (λ x a b. le x (omega arith) (omega arith)) in omega arith

from-few : (P : Project) (rank : ℕ → ℕ) (r x : ℕ) → least_duration P x ≤ 10000 → from_rank P rank r x ≤ 10000
from-few P rank r x l = elim (cases_lt (rank x) r) [
  | inl low ↦ (let e = from-less P rank r x low in omega arith)
  | inr high ↦ (let e = from-own P rank r x high in omega arith)
]

-- the tail bound of a front is a small number
pub tail-limit : (P : Project) (F : List Entry) (t : ℕ) → IsProject P → IsFront P F → IsTailBound P F t → t ≤ 2570000
tail-limit P F t p front is = value t is.attained
  where
    value : (t : ℕ) → TailValue P F t → t ≤ 2570000
    value t of_front = let a = front-end P F p.limits front in omega arith
    value t (of_chain j js job chain none) =
        let a = chain-within P p.acyclic j js job chain in
        let b = total-few (from_rank P p.acyclic.rank (p.acyclic.rank j)) 1 (job_count P) (λ x low high. from-few P p.acyclic.rank (p.acyclic.rank j) x (job-least P p.limits x (omega arith, omega arith))) in
        let c = sum_by-total (least_duration P) (j ∷ js) in
        let d = ready-limit P F j p.limits front in
        let few = p.limits.few_jobs in
        omega arith
