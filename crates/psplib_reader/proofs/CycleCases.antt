-- A project within the limits has no cycle, or a lowest job on one.
use Rattle.std.proofs.Common.{◌≡◌, ℕ, zero, suc, ◌+◌, ◌-◌, ◌*◌, ◌^◌, ◌<◌, ◌≤◌, ◌⊎◌, inl, inr, arith, refl, sym, ap, ◌∙◌, Bool, true, false, cond, not, ◌||◌, ◌&&◌, List, length, map, zero-mul}
use Rattle.std.specs.Prelude.{bit_and, bit_or}
use Rattle.std.specs.List.{range_with_len}
use Rattle.std.proofs.lemmas.Bool.{cases_eq, cases_lt, cases_Bool, eq-eqb, ne_eqb}
use Rattle.std.proofs.lemmas.Nat.{pow_apart}
use Rattle.std.proofs.lemmas.Nat.Bits.{and_pow, bit_at-zero, bit_at-pow_same}
use Rattle.std.proofs.Math.Pow.{pow_pos}
use Rattle.std.proofs.lemmas.List.FromFn.{length-map-range_with_len, get_or-map-range_with_len}
use Rattle.sched_base.specs.declared.job_set.JobSet.{JobSet}
use Rattle.sched_base.specs.JobSet.{member}
use Rattle.sched_base.proofs.Bits.{test, test-or}
use Rattle.rcpsp_model.specs.Project.{Project, is_before, IsJob, IsAcyclic, IsWithinLimits, job_count}
use Rattle.rcpsp_model.specs.Chain.{IsLeast, IsOnCycle}
use Rattle.rcpsp_model.proofs.Numbers.{Decided, both_decided, le_decided, true_decided, least_below}
use Rattle.project_net.specs.Flat.{row}
use Rattle.project_net.specs.Order.{AreDescendants, IsLowestInOwnSet}
use Rattle.project_net.proofs.Pairs.{pairs}
use Rattle.project_net.proofs.Via.{leads_via, descendants-from_via}
use Rattle.project_net.proofs.Cycles.{acyclic-from, cycle-least}

-- ---- the set of the jobs that pass a test

abbrev set_of : (ℕ → Bool) → ℕ → JobSet
set_of p zero = record { 0 = 0 }
set_of p (suc n) = record { 0 = bit_or (set_of p n).0 (cond (p (suc n)) (2 ^ n) 0) }

test_nothing : (k : ℕ) → test 0 k ≡ false
test_nothing k = ap not (eq-eqb _ 0 (and_pow 0 k ∙ ap (λ b. b * 2 ^ k) (bit_at-zero k) ∙ zero-mul (2 ^ k)))

test_power : (n : ℕ) → test (2 ^ n) n ≡ true
test_power n = ap not (ne_eqb _ 0 (λ z. let p = pow_pos n in let e : bit_and (2 ^ n) (2 ^ n) ≡ 1 * 2 ^ n = and_pow (2 ^ n) n ∙ ap (λ b. b * 2 ^ n) (bit_at-pow_same n) in omega arith))

test_other : (n k : ℕ) → (n ≡ k → ⊥) → test (2 ^ n) k ≡ false
test_other n k ne = ap not (eq-eqb _ 0 (pow_apart n k ne))

or_false : (b : Bool) → (b || false) ≡ b
or_false true = refl
or_false false = refl

test_last : (c : Bool) (n : ℕ) → test (cond c (2 ^ n) 0) n ≡ c
test_last true n = test_power n
test_last false n = test_nothing n

test_before : (c : Bool) (n k : ℕ) → (n ≡ k → ⊥) → test (cond c (2 ^ n) 0) k ≡ false
test_before true n k ne = test_other n k ne
test_before false n k ne = test_nothing k

-- a job above all of them isn't in the set
not_above : (p : ℕ → Bool) (n j : ℕ) → n < j → member (set_of p n) j ≡ false
not_above p zero j h = test_nothing (j - 1)
not_above p (suc n) j h =
    test-or (set_of p n).0 (cond (p (suc n)) (2 ^ n) 0) (j - 1)
    ∙ ap (λ (b : Bool). b || test (cond (p (suc n)) (2 ^ n) 0) (j - 1)) (not_above p n j (omega arith))
    ∙ test_before (p (suc n)) n (j - 1) (λ e. omega arith)

within : (p : ℕ → Bool) (n j : ℕ) → 1 ≤ j → j ≤ n → member (set_of p n) j ≡ p j
within p zero j low high = absurd (omega arith)
within p (suc n) j low high =
    test-or (set_of p n).0 (cond (p (suc n)) (2 ^ n) 0) (j - 1)
    ∙ elim (cases_eq j (suc n)) [
      | inl e ↦
          let last : j - 1 ≡ n = omega arith in
          ap (λ (b : Bool). b || test (cond (p (suc n)) (2 ^ n) 0) (j - 1)) (not_above p n j (omega arith))
          ∙ ap (λ (k : ℕ). test (cond (p (suc n)) (2 ^ n) 0) k) last
          ∙ test_last (p (suc n)) n
          ∙ ap p (sym e)
      | inr ne ↦
          ap (λ (b : Bool). member (set_of p n) j || b) (test_before (p (suc n)) n (j - 1) (λ e. ne (omega arith)))
          ∙ or_false (member (set_of p n) j)
          ∙ within p n j low (omega arith)
    ]

-- ---- the jobs that chains lead to

-- no chain leads to a number that is no job
nowhere : (P : Project) (k i j : ℕ) → ((h : ℕ) → is_before P h j ≡ false) → leads_via P k i j ≡ false
nowhere P zero i j none = none i
nowhere P (suc k) i j none =
    ap (λ (b : Bool). b || (leads_via P k i (suc k) && leads_via P k (suc k) j)) (nowhere P k i j none)
    ∙ ap (λ (b : Bool). leads_via P k i (suc k) && b) (nowhere P k (suc k) j none)
    ∙ and_false (leads_via P k i (suc k))
  where
    and_false : (b : Bool) → (b && false) ≡ false
    and_false true = refl
    and_false false = refl

not_before : (P : Project) → IsWithinLimits P → (i j : ℕ) → job_count P < j → is_before P i j ≡ false
not_before P w i j h = elim (cases_Bool (is_before P i j)) [ inl b ↦ absurd (let high = (pairs P w i j b).1.1 in omega arith) | inr n ↦ n ]

-- for each job the set of the jobs that chains lead to
abbrev followers : Project → ℕ → JobSet
followers P i = set_of (leads_via P (job_count P) i) (job_count P)

abbrev all_followers : Project → List JobSet
all_followers P = map (followers P) (range_with_len 1 (job_count P))

size : (P : Project) → length (all_followers P) ≡ job_count P
size P = length-map-range_with_len (followers P) 1 (job_count P)

row_is : (P : Project) (i : ℕ) → IsJob P i → row (all_followers P) i ≡ followers P i
row_is P i job = let low = job.0 in let high = job.1 in get_or-map-range_with_len (followers P) 1 (job_count P) (i - 1) i (record { 0 = 0 }) (omega arith) (omega arith)

follows : (P : Project) → IsWithinLimits P → (i j : ℕ) → 1 ≤ j → member (followers P i) j ≡ leads_via P (job_count P) i j
follows P w i j low = elim (cases_lt (job_count P) j) [
  | inl above ↦ not_above (leads_via P (job_count P) i) (job_count P) j above ∙ sym (nowhere P (job_count P) i j (λ h. not_before P w h j above))
  | inr high ↦ within (leads_via P (job_count P) i) (job_count P) j low high
]

are_descendants : (P : Project) → IsWithinLimits P → AreDescendants P (all_followers P)
are_descendants P w = descendants-from_via P (all_followers P) (pairs P w) (record {
  size = size P;
  sets = λ i j job low. ap (λ (s : JobSet). member s j) (row_is P i job) ∙ follows P w i j low;
})

-- ---- the lowest job that follows itself

abbrev FollowsItself : Project → ℕ → Type 0
FollowsItself P i = (1 ≤ i) × (member (row (all_followers P) i) i ≡ true)

follows_decided : (P : Project) (i : ℕ) → Decided (FollowsItself P i)
follows_decided P i = both_decided (le_decided 1 i) (true_decided (member (row (all_followers P) i) i))

lowest_in_set : (P : Project) (j : ℕ) → j < job_count P + 1 → IsLeast (FollowsItself P) j → IsLowestInOwnSet (all_followers P) j
lowest_in_set P j h l = record {
  low = l.attained.0;
  high = let n = size P in omega arith;
  own = l.attained.1;
  lowest = λ i one before. elim (cases_Bool (member (row (all_followers P) i) i)) [ inl y ↦ absurd (let le = l.least i (one, y) in omega arith) | inr n ↦ n ];
}

none_in_set : (P : Project) → ((i : ℕ) → i < job_count P + 1 → FollowsItself P i → ⊥) → (i : ℕ) → 1 ≤ i → i ≤ length (all_followers P) → member (row (all_followers P) i) i ≡ false
none_in_set P none i one h = elim (cases_Bool (member (row (all_followers P) i) i)) [ inl y ↦ absurd (none i (let n = size P in omega arith) (one, y)) | inr n ↦ n ]

pub acyclic_or_cycle : (P : Project) → IsWithinLimits P → IsAcyclic P ⊎ ((j : ℕ) × IsLeast (IsOnCycle P) j)
acyclic_or_cycle P w = elim (least_below (FollowsItself P) (follows_decided P) (job_count P + 1)) [
  | inl found ↦ inr (found.0, cycle-least P (all_followers P) found.0 w (are_descendants P w) (lowest_in_set P found.0 found.1 found.2))
  | inr none ↦ inl (acyclic-from P (all_followers P) w (are_descendants P w) (none_in_set P none))
]
