-- It is decided whether placings of all jobs are a feasible schedule of a duration.
use Rattle.std.proofs.Common.{◌≡◌, ℕ, ◌+◌, ◌-◌, ◌<◌, ◌≤◌, inl, inr, arith, subst, List, [], ◌∷◌, length, Option, Some, None}
use Rattle.std.proofs.lemmas.Bool.{cases_eq}
use Rattle.rcpsp_model.specs.declared.parts.Entry.{Entry}
use Rattle.rcpsp_model.specs.declared.parts.Placing.{Placing}
use Rattle.rcpsp_model.specs.Project.{Project, job_count, modes_of, renewables, nonrenewables, budget, is_before, Before, IsMode, IsRenewable, IsNonrenewable}
use Rattle.rcpsp_model.specs.Schedule.{finish, usage, used, end_of, cap, entries, IsFeasible}
use Rattle.rcpsp_model.specs.Claim.{HasDuration}
use Rattle.rcpsp_model.proofs.Lists.{In, In-All, All-from_In, In-from_Contains, Contains-from_In}
use Rattle.rcpsp_model.proofs.Numbers.{Decided, le_decided, implies_decided, both_decided, true_decided, below_decided}

-- a property that is decided of each item is decided for all of them
each_decided : {X : Type 0} (Q : X → Type 0) → ((x : X) → Decided (Q x)) → (xs : List X) → Decided ((x : X) → In xs x → Q x)
each_decided Q dec [] = inl (λ x i. absurd i)
each_decided {X = X} Q dec (x ∷ xs) = elim (both_decided (dec x) (each_decided Q dec xs)) [
  | inl h ↦ inl (λ y (i : In (x ∷ xs) y). elim i [ inl e ↦ subst Q e h.0 | inr j ↦ h.1 y j ])
  | inr no_ ↦ inr (λ f. no_ (f x (inl refl_), λ y j. f y (inr j)))
]
  where
    refl_ : {a : X} → a ≡ a
    refl_ = cc

-- the same of the numbers from 1 to n
within_decided : (Q : ℕ → Type 0) → ((i : ℕ) → Decided (Q i)) → (n : ℕ) → Decided ((i : ℕ) → (1 ≤ i) × (i ≤ n) → Q i)
within_decided Q dec n = elim (below_decided (λ i. Q (i + 1)) (λ i. dec (i + 1)) n) [
  | inl all ↦ inl (λ i (h : (1 ≤ i) × (i ≤ n)). let low = h.0 in let high = h.1 in let one : (i - 1) + 1 ≡ i = omega arith in subst Q one (all (i - 1) (omega arith)))
  | inr no_ ↦ inr (λ f. no_ (λ i (low : i < n). f (i + 1) (omega arith, omega arith)))
]

pub mode_decided : (P : Project) (j m : ℕ) → Decided (IsMode P j m)
mode_decided P j m = both_decided (le_decided 1 m) (le_decided m (length (modes_of P j)))

-- The parts of a feasible schedule.

abbrev Precedes : Project → Entry → Entry → Type 0
Precedes P a b = Before P a.job b.job → finish P a ≤ b.start

abbrev KeepsOrder : Project → List Entry → Type 0
KeepsOrder P es = (a : Entry) → In es a → (b : Entry) → In es b → Precedes P a b

order_decided : (P : Project) (es : List Entry) → Decided (KeepsOrder P es)
order_decided P es =
    each_decided (λ a. (b : Entry) → In es b → Precedes P a b) (λ a. each_decided (Precedes P a) (λ b. implies_decided (true_decided (is_before P a.job b.job)) (le_decided (finish P a) b.start)) es) es

abbrev KeepsCapacity : Project → List Entry → Type 0
KeepsCapacity P es = (k : ℕ) → IsRenewable P k → (t : ℕ) → t < end_of P es → usage P es k t ≤ cap P k t

capacity_decided : (P : Project) (es : List Entry) → Decided (KeepsCapacity P es)
capacity_decided P es =
    within_decided (λ k. (t : ℕ) → t < end_of P es → usage P es k t ≤ cap P k t) (λ k. below_decided (λ t. usage P es k t ≤ cap P k t) (λ t. le_decided (usage P es k t) (cap P k t)) (end_of P es)) (renewables P)

budgets_decided : (P : Project) (es : List Entry) → Decided ((l : ℕ) → IsNonrenewable P l → used P es l ≤ budget P l)
budgets_decided P es = within_decided (λ l. used P es l ≤ budget P l) (λ l. le_decided (used P es l) (budget P l)) (nonrenewables P)

modes_decided : (P : Project) (es : List Entry) → Decided ((e : Entry) → In es e → IsMode P e.job e.mode)
modes_decided P es = each_decided (λ e. IsMode P e.job e.mode) (λ e. mode_decided P e.job e.mode) es

feasible_decided : (P : Project) (s : List Placing) → Decided (IsFeasible P s)
feasible_decided P s =
    let es = entries s in
    elim (both_decided (cases_eq (length s) (job_count P)) (both_decided (modes_decided P es) (both_decided (order_decided P es) (both_decided (capacity_decided P es) (budgets_decided P es))))) [
      | inl h ↦ inl (record {
        whole = h.0;
        modes = All-from_In (λ e. IsMode P e.job e.mode) es h.1.0;
        precedence = λ a b i j before. h.1.1.0 a (In-from_Contains es a i) b (In-from_Contains es b j) before;
        capacity = λ k t is low. h.1.1.1.0 k is t low;
        budgets = h.1.1.1.1;
      })
      | inr no_ ↦ inr (λ f. no_ (
        f.whole,
        (
          λ e i. In-All (λ x. IsMode P x.job x.mode) es f.modes e i,
          (λ a i b j before. f.precedence a b (Contains-from_In es a i) (Contains-from_In es b j) before, (λ k is t low. f.capacity k t is low, f.budgets)),
        ),
      ))
    ]

pub duration_decided : (P : Project) (d : Option ℕ) (s : List Placing) → Decided (HasDuration P d (Some s))
duration_decided P None s = inr (λ h. h)
duration_decided P (Some d) s = elim (both_decided (feasible_decided P s) (cases_eq (end_of P (entries s)) d)) [
  | inl h ↦ inl (record { feasible = h.0; end = h.1 })
  | inr no_ ↦ inr (λ e. no_ (e.feasible, e.end))
]
