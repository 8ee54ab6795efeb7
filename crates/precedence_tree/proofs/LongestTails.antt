-- The greatest tail of the jobs of a set, job by job from the lowest bit on.
use Rattle.std.proofs.Common.{◌≡◌, ℕ, ◌+◌, ◌-◌, ◌≤◌, max, ◌⊎◌, inl, inr, arith, refl, sym, ap, subst, ◌∙◌, true, false, List}
use Rattle.std.specs.Int.{bit_at}
use Rattle.std.proofs.lemmas.Bool.{cases_lt, cases_eq, both_ways}
use Rattle.std.proofs.lemmas.Nat.Bits.{bit_at-zero, bit_at-lt}
use Rattle.sched_base.specs.declared.job_set.JobSet.{JobSet}
use Rattle.sched_base.specs.JobSet.{member}
use Rattle.sched_base.proofs.Sets.{member-zero, member-one}
use Rattle.rcpsp_model.specs.declared.parts.Entry.{Entry}
use Rattle.rcpsp_model.specs.Project.{Project}
use Rattle.rcpsp_model.specs.Chain.{IsTail}
use Rattle.precedence_tree.specs.Frontier.{AreEligible}
use Rattle.precedence_tree.specs.Tails.{IsZeroOrTail, IsLongestTail}
use Rattle.precedence_tree.proofs.LowestBits.{HasLowest}

pub tail-one : (P : Project) (j a b : ℕ) → IsTail P j a → IsTail P j b → a ≡ b
tail-one P j a b p q = let x = p.greatest b q.attained in let y = q.greatest a p.attained in omega arith

-- n is 0, or the tail of a job of the set
abbrev pub IsZeroOrTailIn : Project → JobSet → ℕ → Type 0
IsZeroOrTailIn P jobs n = (n ≡ 0) ⊎ ((j : ℕ) × (1 ≤ j) × (member jobs j ≡ true) × IsTail P j n)

-- The greatest tail of the jobs of a set but for those of the rest: job j is bit j - 1 of the rest.
pub record LongestBut (P : Project) (jobs : JobSet) (rest longest : ℕ) : Type 0 where
  pub attained : IsZeroOrTailIn P jobs longest
  pub within : (i : ℕ) → bit_at rest i ≡ 1 → bit_at jobs.0 i ≡ 1
  pub each : (j u : ℕ) → 1 ≤ j → member jobs j ≡ true → bit_at rest (j - 1) ≡ 0 → IsTail P j u → u ≤ longest

pub longest-none : (P : Project) (jobs : JobSet) → LongestBut P jobs jobs.0 0
longest-none P jobs = record {
  attained = inl refl;
  within = λ i one. one;
  each = λ j u low has none tail.
      absurd (both_ways (member jobs j) (subst (λ (k : ℕ). member jobs k ≡ false) (let e : j - 1 + 1 ≡ j = omega arith in e) (member-zero jobs (j - 1) none)) has);
}

pub longest-more : (P : Project) (jobs : JobSet) (rest longest place less job t next : ℕ) → HasLowest rest place less → job ≡ place + 1 → IsTail P job t → next ≡ max longest t → LongestBut P jobs rest longest →
    LongestBut P jobs less next
longest-more P jobs rest longest place less job t next taken named is now so_far = record {
  attained = elim (cases_lt longest t) [
    | inl more ↦
        let own = subst (λ (k : ℕ). member jobs k ≡ true) (sym named) (member-one jobs place (so_far.within place taken.set)) in
        inr (job, (let e : 1 ≤ job = omega arith in e), own, subst (IsTail P job) (let e : t ≡ next = omega arith in e) is)
    | inr fewer ↦ subst (IsZeroOrTailIn P jobs) (let e : longest ≡ next = omega arith in e) so_far.attained
  ];
  within = λ i one. so_far.within i (taken.within i one);
  each = λ j u low has none tail. elim (cases_eq (bit_at rest (j - 1)) 0) [
    | inl before ↦ let le = so_far.each j u low has before tail in omega arith
    | inr set ↦
        let most = bit_at-lt rest (j - 1) in
        let own = taken.others (j - 1) (let e : bit_at rest (j - 1) ≡ 1 = omega arith in e) none in
        let same : u ≡ t = tail-one P job u t (subst (λ (i : ℕ). IsTail P i u) (let e : j ≡ job = omega arith in e) tail) is in
        omega arith
  ];
}

-- where nothing is left, it is that of the jobs that can be placed next, if these are the set
pub longest-all : (P : Project) (F : List Entry) (jobs : JobSet) (rest longest : ℕ) → rest ≡ 0 → LongestBut P jobs rest longest → AreEligible P F jobs → IsLongestTail P F longest
longest-all P F jobs rest longest none so_far are = record { attained = here so_far.attained; greatest = over }
  where
    here : IsZeroOrTailIn P jobs longest → IsZeroOrTail P F longest
    here (inl e) = inl e
    here (inr j) = inr (j.0, (are j.0 j.1).0 j.2, j.3)

    over : (u : ℕ) → IsZeroOrTail P F u → u ≤ longest
    over u (inl e) = omega arith
    over u (inr j) = so_far.each j.0 u j.1.job.0 ((are j.0 j.1.job.0).1 j.1) (ap (λ n. bit_at n (j.0 - 1)) none ∙ bit_at-zero (j.0 - 1)) j.2
