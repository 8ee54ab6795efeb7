-- Sets of jobs by their members.
use Rattle.std.proofs.Common.{zero-mul, ◌≡◌, ℕ, ◌+◌, ◌-◌, ◌*◌, ◌^◌, ◌<◌, ◌≤◌, inl, inr, arith, refl, sym, ap, ◌∙◌, Bool, true, false, not, eqb, ◌||◌}
use Rattle.std.specs.Prelude.{bit_and}
use Rattle.std.specs.Int.{bit_at}
use Rattle.std.proofs.lemmas.Bool.{cases_eq, eq-eqb, ne_eqb, both_ways, or_left}
use Rattle.std.proofs.lemmas.Nat.Bits.{and_pow, bit_at-lt, same_from_bits}
use Rattle.std.proofs.Math.Pow.{pow_pos}
use Rattle.sched_base.specs.declared.job_set.JobSet.{JobSet}
use Rattle.sched_base.specs.JobSet.{member}

pub member-zero : (s : JobSet) (k : ℕ) → bit_at s.0 k ≡ 0 → member s (k + 1) ≡ false
member-zero s k h =
    ap (λ e. not (eqb (bit_and s.0 (2 ^ e)) 0)) (let z : k + 1 - 1 ≡ k = omega arith in z)
    ∙ ap not (eq-eqb _ 0 (and_pow s.0 k ∙ ap (λ b. b * 2 ^ k) h ∙ zero-mul (2 ^ k)))

pub member-one : (s : JobSet) (k : ℕ) → bit_at s.0 k ≡ 1 → member s (k + 1) ≡ true
member-one s k h =
    ap (λ e. not (eqb (bit_and s.0 (2 ^ e)) 0)) (let z : k + 1 - 1 ≡ k = omega arith in z)
    ∙ ap not (ne_eqb _ 0 (λ z. let p : 0 < 2 ^ k = pow_pos k in let e : bit_and s.0 (2 ^ k) ≡ 1 * 2 ^ k = and_pow s.0 k ∙ ap (λ b. b * 2 ^ k) h in omega arith))

same-bit : (s t : JobSet) (k : ℕ) → member s (k + 1) ≡ member t (k + 1) → bit_at s.0 k ≡ bit_at t.0 k
same-bit s t k e =
    let a = bit_at-lt s.0 k in let b = bit_at-lt t.0 k in
    elim (cases_eq (bit_at s.0 k) 0) [
      | inl sz ↦ elim (cases_eq (bit_at t.0 k) 0) [
        | inl tz ↦ sz ∙ sym tz
        | inr tn ↦ absurd (both_ways (member s (k + 1)) (member-zero s k sz) (e ∙ member-one t k (omega arith)))
      ]
      | inr sn ↦ elim (cases_eq (bit_at t.0 k) 0) [
        | inl tz ↦ absurd (both_ways (member s (k + 1)) (e ∙ member-zero t k tz) (member-one s k (omega arith)))
        | inr tn ↦ omega arith
      ]
    ]

-- sets with the same members are equal
pub same_set : (s t : JobSet) → ((i : ℕ) → 1 ≤ i → member s i ≡ member t i) → s ≡ t
same_set s t same = ap (λ n. (let r : JobSet = record { 0 = n } in r)) (same_from_bits s.0 t.0 (λ k. same-bit s t k (same (k + 1) (omega arith))))

or-implied : (a b : Bool) → (a ≡ true → b ≡ true) → (a || b) ≡ b
or-implied true b f = sym (f refl)
or-implied false b f = refl

pub union-within : (s t u : JobSet) → ((i : ℕ) → member u i ≡ (member s i || member t i)) → ((i : ℕ) → 1 ≤ i → member s i ≡ true → member t i ≡ true) → u ≡ t
union-within s t u un within = same_set u t (λ i one. un i ∙ or-implied (member s i) (member t i) (within i one))

pub within-from_union : (s t u : JobSet) → ((i : ℕ) → member u i ≡ (member s i || member t i)) → u ≡ t → (i : ℕ) → 1 ≤ i → member s i ≡ true → member t i ≡ true
within-from_union s t u un e i one h = sym (ap (λ (x : JobSet). member x i) e) ∙ un i ∙ or_left (member s i) (member t i) h
