-- What is decided, of truth values, of numbers, and of all numbers below a limit; and the least number that has a property.
use Rattle.std.proofs.Common.{◌≡◌, ℕ, zero, suc, ◌<◌, ◌≤◌, ◌⊎◌, inl, inr, arith, subst, Bool, true, false}
use Rattle.std.proofs.lemmas.Bool.{cases_lt, cases_eq, cases_Bool, both_ways}
use Rattle.rcpsp_model.specs.Chain.{IsLeast}

abbrev pub Decided : Type 0 → Type 0
Decided A = A ⊎ (A → ⊥)

pub le_decided : (a b : ℕ) → Decided (a ≤ b)
le_decided a b = elim (cases_lt b a) [ inl h ↦ inr (λ (k : a ≤ b). omega arith) | inr h ↦ inl h ]

pub lt_decided : (a b : ℕ) → Decided (a < b)
lt_decided a b = elim (cases_lt a b) [ inl h ↦ inl h | inr h ↦ inr (λ (k : a < b). omega arith) ]

pub implies_decided : {A B : Type 0} → Decided A → Decided B → Decided (A → B)
implies_decided (inl a) (inl b) = inl (λ _. b)
implies_decided (inl a) (inr n) = inr (λ f. n (f a))
implies_decided (inr n) d = inl (λ a. absurd (n a))

pub both_decided : {A B : Type 0} → Decided A → Decided B → Decided (A × B)
both_decided (inl a) (inl b) = inl (a, b)
both_decided (inl a) (inr n) = inr (λ p. n p.1)
both_decided (inr n) d = inr (λ p. n p.0)

pub either_decided : {A B : Type 0} → Decided A → Decided B → Decided (A ⊎ B)
either_decided (inl a) d = inl (inl a)
either_decided (inr n) (inl b) = inl (inr b)
either_decided (inr n) (inr k) = inr (λ e. elim e [ inl a ↦ n a | inr b ↦ k b ])

pub true_decided : (b : Bool) → Decided (b ≡ true)
true_decided b = elim (cases_Bool b) [ inl y ↦ inl y | inr n ↦ inr (λ y. both_ways b n y) ]

pub false_decided : (b : Bool) → Decided (b ≡ false)
false_decided b = elim (cases_Bool b) [ inl y ↦ inr (λ n. both_ways b n y) | inr n ↦ inl n ]

-- a property that is decided at each number below n is decided for all of them
pub below_decided : (Q : ℕ → Type 0) → ((i : ℕ) → Decided (Q i)) → (n : ℕ) → Decided ((i : ℕ) → i < n → Q i)
below_decided Q dec zero = inl (λ i (h : i < zero). absurd (omega arith))
below_decided Q dec (suc n) =
    elim (below_decided Q dec n) [
      | inl all ↦ elim (dec n) [
        | inl here ↦ inl (λ i (h : i < suc n). elim (cases_eq i n) [ inl e ↦ subst Q (sym_ e) here | inr ne ↦ all i (omega arith) ])
        | inr no_here ↦ inr (λ f. no_here (f n (omega arith)))
      ]
      | inr fails ↦ inr (λ f. fails (λ i (h : i < n). f i (omega arith)))
    ]
  where
    sym_ : {a b : ℕ} → a ≡ b → b ≡ a
    sym_ e = cc

-- below n there is a least number with the property, or none at all
pub least_below : (Q : ℕ → Type 0) → ((i : ℕ) → Decided (Q i)) → (n : ℕ) → ((t : ℕ) × (t < n) × IsLeast Q t) ⊎ ((i : ℕ) → i < n → Q i → ⊥)
least_below Q dec zero = inr (λ i (h : i < zero) q. omega arith)
least_below Q dec (suc n) =
    elim (least_below Q dec n) [
      | inl found ↦ inl (found.0, let h : found.0 < n = found.1 in omega arith, found.2)
      | inr none ↦ elim (dec n) [
        | inl here ↦ inl (n, omega arith, record { attained = here; least = λ u q. elim (cases_lt u n) [ inl h ↦ absurd (none u h q) | inr h ↦ h ] })
        | inr no_here ↦ inr (λ i (h : i < suc n) q. elim (cases_eq i n) [ inl e ↦ no_here (subst Q e q) | inr ne ↦ none i (omega arith) q ])
      ]
    ]

-- a decided property that a number has is had by a least one
pub least_of : (Q : ℕ → Type 0) → ((i : ℕ) → Decided (Q i)) → (n : ℕ) → Q n → (t : ℕ) × IsLeast Q t
least_of Q dec n q =
    elim (least_below Q dec (suc n)) [ inl found ↦ (found.0, found.2) | inr none ↦ absurd (none n (omega arith) q) ]

pub some_decided : (Q : ℕ → Type 0) → ((i : ℕ) → Decided (Q i)) → (n : ℕ) → Decided ((i : ℕ) × (i < n) × Q i)
some_decided Q dec n = elim (least_below Q dec n) [ inl found ↦ inl (found.0, found.1, found.2.attained) | inr none ↦ inr (λ s. none s.0 s.1 s.2) ]

-- A least number is one.
pub least-one : (Q : ℕ → Type 0) (a b : ℕ) → IsLeast Q a → IsLeast Q b → a ≡ b
least-one Q a b p q = let up = p.least b q.attained in let down = q.least a p.attained in omega arith
