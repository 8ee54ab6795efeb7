-- The members of a set of jobs by the bits of its number, from a bit on.
use Rattle.std.proofs.Common.{◌≡◌, ℕ, ◌+◌, ◌-◌, ◌/◌, ◌^◌, ◌<◌, ◌≤◌, inl, inr, arith, sym, ap, subst, ◌∙◌, true, false, ◌%◌}
use Rattle.std.specs.Int.{bit_at, trailing_zeros, w128}
use Rattle.std.proofs.lemmas.Bool.{cases_lt, both_ways}
use Rattle.std.proofs.lemmas.Nat.{pow-add}
use Rattle.std.proofs.lemmas.Nat.Bits.{bit_at-zero, bit_at_above, bit_at-trailing_zeros}
use Rattle.std.proofs.Math.Nat.{div-div-eq-div-mul, div-le_self}
use Rattle.sched_base.specs.declared.job_set.JobSet.{JobSet}
use Rattle.sched_base.specs.JobSet.{member, IsNextMember}
use Rattle.sched_base.proofs.Sets.{member-zero, member-one}

member-none : (set : JobSet) (i : ℕ) → 1 ≤ i → bit_at set.0 (i - 1) ≡ 0 → member set i ≡ false
member-none set i low h = subst (λ (k : ℕ). member set k ≡ false) (let e : i - 1 + 1 ≡ i = omega arith in e) (member-zero set (i - 1) h)

member-own : (set : JobSet) (i : ℕ) → 1 ≤ i → bit_at set.0 (i - 1) ≡ 1 → member set i ≡ true
member-own set i low h = subst (λ (k : ℕ). member set k ≡ true) (let e : i - 1 + 1 ≡ i = omega arith in e) (member-one set (i - 1) h)

-- the bits of a number that is shifted
bit_at-shifted : (n a i : ℕ) → bit_at (n / 2 ^ a) i ≡ bit_at n (a + i)
bit_at-shifted n a i = ap (λ x. x % 2) (div-div-eq-div-mul n (2 ^ a) (2 ^ i) ∙ ap (λ x. n / x) (sym (pow-add 2 a i)))

above-is : (a i : ℕ) → a < i → a + (i - 1 - a) ≡ i - 1
above-is a i h = omega arith

-- no member is above the bits of the set
pub none-past : (set : JobSet) (a : ℕ) → set.0 < 2 ^ 128 → 128 ≤ a → (i : ℕ) → a < i → member set i ≡ false
none-past set a small past i h = member-none set i (omega arith) (bit_at_above set.0 128 (i - 1) small (omega arith))

pub none-above : (set : JobSet) (a : ℕ) → set.0 / 2 ^ a ≡ 0 → (i : ℕ) → a < i → member set i ≡ false
none-above set a empty i h =
    let k = i - 1 - a in
    member-none set i (omega arith) (sym (bit_at-shifted set.0 a k ∙ ap (bit_at set.0) (above-is a i h)) ∙ ap (λ x. bit_at x k) empty ∙ bit_at-zero k)

-- the lowest member above a number, and that the set has no more than 128 jobs
pub record IsNext (set : JobSet) (a job : ℕ) : Type 0 where
  pub next_one : IsNextMember set a job
  pub high : job ≤ 128

pub next : (set : JobSet) (a : ℕ) → set.0 < 2 ^ 128 → 0 < set.0 / 2 ^ a → IsNext set a (a + 1 + trailing_zeros w128 (set.0 / 2 ^ a))
next set a small some =
    let n = set.0 / 2 ^ a in
    let t = trailing_zeros w128 n in
    let at = bit_at-trailing_zeros w128 n some (let le = div-le_self set.0 (2 ^ a) in omega arith) in
    let one : bit_at set.0 (a + t) ≡ 1 = sym (bit_at-shifted set.0 a t) ∙ at.1 in
    record {
      next_one = record {
        later = omega arith;
        own = member-own set (a + 1 + t) (omega arith) (ap (bit_at set.0) (let e : a + 1 + t - 1 ≡ a + t = omega arith in e) ∙ one);
        lowest = λ i above is. elim (cases_lt i (a + 1 + t)) [
          | inl lower ↦
              let k = i - 1 - a in
              let zero_ = at.2 k (omega arith) in
              absurd (both_ways (member set i) (member-none set i (omega arith) (sym (bit_at-shifted set.0 a k ∙ ap (bit_at set.0) (above-is a i above)) ∙ zero_)) is)
          | inr from_here ↦ from_here
        ];
      };
      high = elim (cases_lt (a + t) 128) [
        | inl within ↦ omega arith
        | inr past ↦ let none = bit_at_above set.0 128 (a + t) small past in absurd (omega arith)
      ];
    }
