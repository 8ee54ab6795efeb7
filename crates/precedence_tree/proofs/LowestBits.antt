-- A number without its lowest bit.
use Rattle.std.proofs.Common.{◌≡◌, ℕ, zero, suc, ◌-◌, ◌/◌, ◌^◌, ◌<◌, inl, inr, arith, sym, ap, ◌∙◌, ◌%◌}
use Rattle.std.specs.Prelude.{bit_and}
use Rattle.std.specs.Int.{bit_at, trailing_zeros, w128}
use Rattle.std.proofs.lemmas.Bool.{cases_lt, cases_eq}
use Rattle.std.proofs.lemmas.Nat.{and_le_r}
use Rattle.std.proofs.lemmas.Nat.Bits.{bit_at-lt, bit_at-suc, bit_at_lowest, bit_at_and, bit_at-trailing_zeros}

-- One less leaves what stands above a bit that is set.
bit_at-less : (n t i : ℕ) → bit_at n t ≡ 1 → t < i → bit_at (n - 1) i ≡ bit_at n i
bit_at-less n t zero one above = absurd (omega arith)
bit_at-less n zero (suc i) one above =
    let odd = sym (bit_at_lowest n) ∙ one in
    let same : (n - 1) / 2 ≡ n / 2 = omega arith in
    bit_at-suc (n - 1) i ∙ ap (λ x. bit_at x i) same ∙ sym (bit_at-suc n i)
bit_at-less n (suc t) (suc i) one above =
    let half = sym (bit_at-suc n t) ∙ one in
    elim (cases_eq (n % 2) 0) [
      | inl even ↦
          let same : (n - 1) / 2 ≡ n / 2 - 1 = omega arith in
          bit_at-suc (n - 1) i ∙ ap (λ x. bit_at x i) same ∙ bit_at-less (n / 2) t i half (omega arith) ∙ sym (bit_at-suc n i)
      | inr odd ↦
          let same : (n - 1) / 2 ≡ n / 2 = omega arith in
          bit_at-suc (n - 1) i ∙ ap (λ x. bit_at x i) same ∙ sym (bit_at-suc n i)
    ]

-- What is known of a number of 128 bits that isn't 0, and of its lowest bit.
pub record HasLowest (n t rest : ℕ) : Type 0 where
  pub place : t < 128
  pub set : bit_at n t ≡ 1
  pub fewer : rest < n
  pub within : (i : ℕ) → bit_at rest i ≡ 1 → bit_at n i ≡ 1
  pub others : (i : ℕ) → bit_at n i ≡ 1 → bit_at rest i ≡ 0 → i ≡ t

pub lowest-taken : (n : ℕ) → 0 < n → n < 2 ^ 128 → HasLowest n (trailing_zeros w128 n) (bit_and n (n - 1))
lowest-taken n some small =
    let t = trailing_zeros w128 n in
    let at = bit_at-trailing_zeros w128 n some small in
    record {
      place = at.0;
      set = at.1;
      fewer = let le = and_le_r n (n - 1) in omega arith;
      within = λ i one. let both = bit_at_and n (n - 1) i in let most = bit_at-lt n i in omega arith;
      others = λ i one none. elim (cases_lt i t) [
        | inl below ↦ let clear = at.2 i below in absurd (omega arith)
        | inr from_here ↦ elim (cases_lt t i) [
          | inl above ↦ let both = bit_at_and n (n - 1) i in let same = bit_at-less n t i at.1 above in absurd (omega arith)
          | inr same ↦ omega arith
        ]
      ];
    }
