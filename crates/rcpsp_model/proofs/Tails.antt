-- Each job has a tail.
use Rattle.std.proofs.Common.{◌≡◌, ℕ, zero, suc, ◌+◌, ◌<◌, ◌≤◌, ◌⊎◌, inl, inr, arith, refl, subst, List, [], ◌∷◌}
use Rattle.std.specs.Prelude.{sum_by}
use Rattle.std.proofs.lemmas.Bool.{cases_lt, cases_eq, cases_Bool, both_ways}
use Rattle.rcpsp_model.specs.Project.{Project, job_count, jobs, is_before, Before, IsJob, IsAcyclic}
use Rattle.rcpsp_model.specs.Chain.{least_duration, IsChain, ChainLength, IsTail}
use Rattle.rcpsp_model.specs.Laws.{HasTailLaw}
use Rattle.rcpsp_model.proofs.Lists.{total, In-le-total, sum_by-total}
use Rattle.rcpsp_model.proofs.LeastModes.{numbers-In}

-- among the successors below n of a job there is none, or one of greatest tail
abbrev IsLongest : Project → ℕ → ℕ → ℕ → ℕ → Type 0
IsLongest P j n k t = Before P j k × IsTail P k t × ((i u : ℕ) → i < n → Before P j i → IsTail P i u → u ≤ t)

longest_below : (P : Project) (j n : ℕ) → ((k : ℕ) → Before P j k → (t : ℕ) × IsTail P k t) → ((k : ℕ) → k < n → Before P j k → ⊥) ⊎ ((k : ℕ) × (t : ℕ) × IsLongest P j n k t)
longest_below P j zero tails = inl (λ k low b. absurd (omega arith))
longest_below P j (suc n) tails =
    let before = longest_below P j n tails in
    elim (cases_Bool (is_before P j n)) [
      | inr no_ ↦ elim before [
        | inl none ↦ inl (λ k low b. elim (cases_eq k n) [ inl e ↦ both_ways (is_before P j n) no_ (subst (Before P j) e b) | inr ne ↦ none k (omega arith) b ])
        | inr best ↦ inr (
          best.0,
          best.1,
          (
            best.2.0,
            best.2.1,
            λ i u low b is. elim (cases_eq i n) [
              | inl e ↦ absurd (both_ways (is_before P j n) no_ (subst (Before P j) e b))
              | inr ne ↦ best.2.2 i u (omega arith) b is
            ],
          ),
        )
      ]
      | inl here ↦
          let own = tails n here in
          let at_n : (i u : ℕ) → i ≡ n → IsTail P i u → u ≤ own.0 = λ i u e is. own.1.greatest u (subst (λ (x : ℕ). ChainLength P x u) e is.attained) in
          elim before [
            | inl none ↦ inr (n, own.0, (here, own.1, λ i u low b is. elim (cases_eq i n) [ inl e ↦ at_n i u e is | inr ne ↦ absurd (none i (omega arith) b) ]))
            | inr best ↦ elim (cases_lt best.1 own.0) [
              | inl longer ↦ inr (n, own.0, (here, own.1, λ i u low b is. elim (cases_eq i n) [ inl e ↦ at_n i u e is | inr ne ↦ let less = best.2.2 i u (omega arith) b is in omega arith ]))
              | inr shorter ↦ inr (best.0, best.1, (best.2.0, best.2.1, λ i u low b is. elim (cases_eq i n) [ inl e ↦ let less = at_n i u e is in omega arith | inr ne ↦ best.2.2 i u (omega arith) b is ]))
            ]
          ]
    ]

-- the tail of a job from those of its successors
tail-from : (P : Project) → IsAcyclic P → (j : ℕ) → ((k : ℕ) → Before P j k → (t : ℕ) × IsTail P k t) → (t : ℕ) × IsTail P j t
tail-from P a j tails = elim (longest_below P j (job_count P + 1) tails) [
  | inl none ↦ (
    least_duration P j,
    record {
      attained = ([], tt, let sum = sum_by-total (least_duration P) (j ∷ []) in omega arith);
      greatest = λ u c. alone (λ k b. none k (let job = (a.jobs j k b).1 in let high = job.1 in omega arith) b) u c.0 c.1 c.2;
    },
  )
  | inr best ↦ (
    least_duration P j + best.1,
    record {
      attained =
          let c = best.2.1.attained in
          (best.0 ∷ c.0, (best.2.0, c.1), let sum = sum_by-total (least_duration P) (j ∷ best.0 ∷ c.0) in let rest = sum_by-total (least_duration P) (best.0 ∷ c.0) in let is = c.2 in omega arith);
      greatest = λ u c. along best.1 (λ k v b is. best.2.2 k v (let job = (a.jobs j k b).1 in let high = job.1 in omega arith) b is) u c.0 c.1 c.2;
    },
  )
]
  where
    alone : ((k : ℕ) → Before P j k → ⊥) → (u : ℕ) (js : List ℕ) → IsChain P (j ∷ js) → u ≡ sum_by (least_duration P) (j ∷ js) → u ≤ least_duration P j
    alone none u [] c is = let sum = sum_by-total (least_duration P) (j ∷ []) in omega arith
    alone none u (k ∷ js) c is = absurd (none k c.0)

    along : (t : ℕ) → ((k v : ℕ) → Before P j k → IsTail P k v → v ≤ t) → (u : ℕ) (js : List ℕ) → IsChain P (j ∷ js) → u ≡ sum_by (least_duration P) (j ∷ js) → u ≤ least_duration P j + t
    along t most u [] c is = let sum = sum_by-total (least_duration P) (j ∷ []) in omega arith
    along t most u (k ∷ js) c is =
        let own = tails k c.0 in
        let within = own.1.greatest (sum_by (least_duration P) (k ∷ js)) (js, c.1, refl) in
        let less = most k own.0 c.0 own.1 in
        let sum = sum_by-total (least_duration P) (j ∷ k ∷ js) in
        let rest = sum_by-total (least_duration P) (k ∷ js) in
        omega arith

-- from the highest ranks down
tail-within : (P : Project) (a : IsAcyclic P) (left j : ℕ) → IsJob P j → total a.rank (jobs P) < a.rank j + left → (t : ℕ) × IsTail P j t
tail-within P a zero j job high =
    let le = In-le-total a.rank (jobs P) j (numbers-In 1 (job_count P) j job.0 (let h = job.1 in omega arith)) in absurd (omega arith)
tail-within P a (suc left) j job high = tail-from P a j (λ k b. tail-within P a left k (a.jobs j k b).1 (let up = a.rises j k b in omega arith))

pub has_tail_law : HasTailLaw
has_tail_law P j a job = tail-within P a (total a.rank (jobs P) + 1) j job (omega arith)
