-- The set of the open jobs after one of them is placed.
use Rattle.std.proofs.Common.{◌≡◌, ℕ, ◌+◌, ◌-◌, ◌*◌, ◌^◌, ◌%◌, ◌<◌, ◌≤◌, ◌⊎◌, inl, inr, arith, sym, ap, subst, ◌∙◌, List, [], ◌∷◌, ◌++◌, true, false, eqb, ◌||◌}
use Rattle.std.specs.Prelude.{◌↔◌, bit_and}
use Rattle.std.specs.Int.{bit_at, bit_not, w128}
use Rattle.std.proofs.lemmas.Bool.{cases_lt, cases_eq, or_cases, or_left, or_right, both_ways, eq-eqb, ne_eqb}
use Rattle.std.proofs.lemmas.Nat.Bits.{bit_at-lt, bit_at_and, bit_at_above, bit_at_clear_same, bit_at_clear_other}
use Rattle.sched_base.specs.declared.job_set.JobSet.{JobSet}
use Rattle.sched_base.specs.JobSet.{member}
use Rattle.sched_base.proofs.Sets.{member-zero, member-one}
use Rattle.rcpsp_model.specs.declared.parts.Entry.{Entry}
use Rattle.rcpsp_model.specs.Project.{Project, Before, IsAcyclic}
use Rattle.rcpsp_model.specs.Tree.{IsEligible}
use Rattle.rcpsp_model.proofs.Entries.{has_job-push_false}
use Rattle.project_net.proofs.Ranges.{eqb-swap}
use Rattle.precedence_tree.specs.Frontier.{HasJobs, Stays, Opens, AreEligible}
use Rattle.precedence_tree.proofs.Pushed.{open-eligible, eligible-open, eligible-before, still-eligible}

-- A job is in a set where its bit is set.

bit-of : (set : JobSet) (j : ℕ) → 1 ≤ j → member set j ≡ true → bit_at set.0 (j - 1) ≡ 1
bit-of set j low has = elim (cases_eq (bit_at set.0 (j - 1)) 0) [
  | inl none ↦ absurd (both_ways (member set j) (subst (λ (k : ℕ). member set k ≡ false) (let e : j - 1 + 1 ≡ j = omega arith in e) (member-zero set (j - 1) none)) has)
  | inr some ↦ let few = bit_at-lt set.0 (j - 1) in omega arith
]

of-bit : (set : JobSet) (j : ℕ) → 1 ≤ j → bit_at set.0 (j - 1) ≡ 1 → member set j ≡ true
of-bit set j low one = subst (λ (k : ℕ). member set k ≡ true) (let e : j - 1 + 1 ≡ j = omega arith in e) (member-one set (j - 1) one)

-- the set whose number has all bits of the other's but one
pub without-one : (set : JobSet) (job : ℕ) (rest : JobSet) → rest.0 ≡ bit_and set.0 (bit_not w128 (1 * 2 ^ (job - 1) % 2 ^ 128)) → set.0 < 2 ^ 128 → 1 ≤ job → job ≤ 128 → (j : ℕ) → 1 ≤ j → (member rest j ≡ true) ↔ Stays set job j
without-one set job rest is small low high j from_one = (
  λ has.
      let one = sym (ap (λ n. bit_at n (j - 1)) is) ∙ bit-of rest j from_one has in
      let both = bit_at_and set.0 (bit_not w128 (1 * 2 ^ (job - 1) % 2 ^ 128)) (j - 1) in
      let few = bit_at-lt set.0 (j - 1) in (
        of-bit set j from_one (omega arith),
        ne_eqb j job (λ e.
            let clear = bit_at_clear_same w128 set.0 (job - 1) (omega arith) in
            let same = ap (bit_at (bit_and set.0 (bit_not w128 (1 * 2 ^ (job - 1) % 2 ^ 128)))) (let q : j - 1 ≡ job - 1 = omega arith in q) in
            omega arith),
      ),
  λ stays. elim (cases_lt (j - 1) 128) [
    | inl within ↦
        let kept = bit_at_clear_other w128 set.0 (job - 1) (omega arith) (j - 1) within (λ e. both_ways (eqb j job) stays.1 (eq-eqb j job (omega arith))) in
        of-bit rest j from_one (ap (λ n. bit_at n (j - 1)) is ∙ kept ∙ bit-of set j from_one stays.0)
    | inr past ↦ let none = bit_at_above set.0 128 (j - 1) small past in let one = bit-of set j from_one stays.0 in absurd (omega arith)
  ],
)

-- the members of two sets together
pub either-open : (P : Project) (eligible placed stay behind all : JobSet) (job : ℕ) → ((j : ℕ) → 1 ≤ j → (member stay j ≡ true) ↔ Stays eligible job j) →
    ((j : ℕ) → 1 ≤ j → (member behind j ≡ true) ↔ Opens P placed job j) → ((j : ℕ) → member all j ≡ (member stay j || member behind j)) →
    (j : ℕ) → 1 ≤ j → (member all j ≡ true) ↔ (Stays eligible job j ⊎ Opens P placed job j)
either-open P eligible placed stay behind all job stays opens union j low = (
  λ has. elim (or_cases (member stay j) (member behind j) (sym (union j) ∙ has)) [
    | inl a ↦ inl ((stays j low).0 a)
    | inr b ↦ inr ((opens j low).0 b)
  ],
  λ is. union j ∙ elim is [
    | inl a ↦ or_left (member stay j) (member behind j) ((stays j low).1 a)
    | inr b ↦ or_right (member stay j) (member behind j) ((opens j low).1 b)
  ],
)

-- what is eligible with one entry more: the others that were so, and the successors that the placed jobs leave open
pub eligible-push : (P : Project) (F : List Entry) (e : Entry) (placed old next : JobSet) → IsAcyclic P → HasJobs (F ++ e ∷ []) placed → AreEligible P F old →
    ((j : ℕ) → 1 ≤ j → (member next j ≡ true) ↔ (Stays old e.job j ⊎ Opens P placed e.job j)) → AreEligible P (F ++ e ∷ []) next
eligible-push P F e placed old next a has before are j low = (λ m. to ((are j low).0 m), λ el. (are j low).1 (from el (eligible-before P F e j el)))
  where
    to : Stays old e.job j ⊎ Opens P placed e.job j → IsEligible P (F ++ e ∷ []) j
    to (inl stays) = still-eligible P F e j ((before j low).0 stays.0) (sym (eqb-swap j e.job) ∙ stays.1)
    to (inr opens) = open-eligible P (F ++ e ∷ []) placed j a has opens.1

    from : IsEligible P (F ++ e ∷ []) j → IsEligible P F j ⊎ Before P e.job j → Stays old e.job j ⊎ Opens P placed e.job j
    from el (inl was) = inl ((before j low).1 was, eqb-swap j e.job ∙ (has_job-push_false F e j el.unplaced).1)
    from el (inr follows) = inr (follows, eligible-open P (F ++ e ∷ []) placed j a has el)
