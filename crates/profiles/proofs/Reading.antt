-- Numbers that change at certain times, read at a period and over a span of periods.
use Rattle.std.proofs.Common.{◌≡◌, ℕ, ◌+◌, ◌-◌, ◌*◌, ◌<◌, ◌≤◌, ◌^◌, max, inl, inr, arith, ap, sym, List, length, get_or}
use Rattle.std.specs.List.Sorted.{IsNonDecreasingBy}
use Rattle.std.proofs.lemmas.Bool.{cases_lt}
use Rattle.std.proofs.lemmas.List.Sorted.{IsNonDecreasingBy-from_default}
use Rattle.profiles.specs.Steps.{IsRising, IsStepped, IsSpan}

pub ascends : (times : List ℕ) → IsRising times → IsNonDecreasingBy (λ (t : ℕ). t) times
ascends times rising = IsNonDecreasingBy-from_default (λ (t : ℕ). t) times 0 (λ i j le h. elim (cases_lt i j) [
  | inl lt ↦ let r = rising i j lt h in omega arith
  | inr ge ↦ let same = ap (λ (n : ℕ). get_or times n 0) (let z : i ≡ j = omega arith in z) in omega arith
])

pub rising-le : (times : List ℕ) → IsRising times → (i j : ℕ) → i ≤ j → j < length times → get_or times i 0 ≤ get_or times j 0
rising-le times rising i j le h = elim (cases_lt i j) [
  | inl lt ↦ let r = rising i j lt h in omega arith
  | inr ge ↦ let same = ap (λ (n : ℕ). get_or times n 0) (let z : i ≡ j = omega arith in z) in omega arith
]

-- so many of the times have come by the period, and no more
pub record HaveBegun (times : List ℕ) (period n : ℕ) : Type 0 where
  pub within : n ≤ length times
  pub begun : (i : ℕ) → i < n → get_or times i 0 ≤ period
  pub ahead : (i : ℕ) → n ≤ i → i < length times → period < get_or times i 0

-- before the first time the number is 0
pub number-none : (number : ℕ → ℕ) (times levels : List ℕ) (width place period n : ℕ) → HaveBegun times period n → n ≡ 0 → IsStepped number times levels width place → 0 ≡ number period
number-none number times levels width place period n b none h = sym (h.before period (λ some. b.ahead 0 (omega arith) some))

-- after that it is in the row of the last time that has come
pub number-some : (number : ℕ → ℕ) (times levels : List ℕ) (width place period n : ℕ) → HaveBegun times period n → 0 < n → IsStepped number times levels width place →
    get_or levels ((n - 1) * width + place) 0 ≡ number period
number-some number times levels width place period n b some h =
    let z : n - 1 + 1 ≡ n = omega arith in
    let same = ap (λ (i : ℕ). get_or times i 0) z in
    let low = b.within in
    sym (h.within (n - 1) period (omega arith) (b.begun (n - 1) (omega arith)) (λ more. let next = b.ahead n (omega arith) (omega arith) in omega arith))

-- Some periods, row by row.

pub over-none : (number : ℕ → ℕ) (times levels : List ℕ) (width place limit from n first : ℕ) → HaveBegun times from n → first ≡ n - 1 → IsStepped number times levels width place →
    (t : ℕ) → from ≤ t → (first < length times → t < get_or times first 0) → number t ≤ limit
over-none number times levels width place limit from n first b e h t low before =
    elim (cases_lt 0 n) [
      | inl some ↦ let w = b.within in let in_time = before (omega arith) in let come = b.begun first (omega arith) in absurd (omega arith)
      | inr none ↦
          let z : first ≡ 0 = omega arith in
          let same = ap (λ (i : ℕ). get_or times i 0) z in
          let zero_there = h.before t (λ some. let x = before (omega arith) in omega arith) in omega arith
    ]

pub over-more : (number : ℕ → ℕ) (times levels : List ℕ) (width place limit row t : ℕ) → IsStepped number times levels width place → row < length times →
    get_or levels (row * width + place) 0 ≤ limit → (t < get_or times row 0 → number t ≤ limit) → (row + 1 < length times → t < get_or times (row + 1) 0) → number t ≤ limit
over-more number times levels width place limit row t h within low old next =
    elim (cases_lt t (get_or times row 0)) [
      | inl before ↦ old before
      | inr come ↦ let is = h.within row t within come next in omega arith
    ]

-- the span of a row's time, from the first of the periods at the earliest
pub over-span : (number : ℕ → ℕ) (times levels : List ℕ) (width place limit from until n first row end : ℕ) → IsRising times → HaveBegun times from n → first ≡ n - 1 → first ≤ row →
    row < length times → from < until → get_or times row 0 < until → from < 2 ^ 32 → get_or times row 0 < 2 ^ 32 → limit < get_or levels (row * width + place) 0 →
    (row + 1 < length times → end ≡ get_or times (row + 1) 0) → (length times ≤ row + 1 → end ≡ 2 ^ 64 - 1) → IsStepped number times levels width place →
    IsSpan (λ t. limit < number t) from until end
over-span number times levels width place limit from until n first row end rising b e le within some early small small' over next last h = record {
  begin = max from (get_or times row 0);
  after = omega arith;
  inside = omega arith;
  some = elim (cases_lt (row + 1) (length times)) [
    | inl more ↦ let is = next more in let r = rising row (row + 1) (omega arith) more in let a = b.ahead (row + 1) (omega arith) more in omega arith
    | inr none ↦ let is = last none in omega arith
  ];
  each = λ t low high. let is = h.within row t within (omega arith) (λ more. let x = next more in omega arith) in omega arith;
}
