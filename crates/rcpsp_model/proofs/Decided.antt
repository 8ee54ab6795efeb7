-- What is decided of a front, of a child by a choice, and of two fronts: tests that are exact, and the kinds of a child.
use Rattle.std.proofs.Common.{◌≡◌, ℕ, ◌+◌, ◌-◌, max, inl, inr, arith, refl, sym, ap, ◌∙◌, subst, List, [], ◌∷◌, ◌++◌, Bool, true, false, eqb, leb, ◌&&◌}
use Rattle.std.proofs.lemmas.Bool.{and_from, le-leb, cases_eq, cases_lt, cases_Bool, both_ways, eqb-true, or_left, or_right, false≢true}
use Rattle.rcpsp_model.specs.declared.parts.Child.{Child}
use Rattle.rcpsp_model.specs.declared.parts.Child.TheVariants.{Placed, Shut}
use Rattle.rcpsp_model.specs.declared.parts.Entry.{Entry}
use Rattle.rcpsp_model.specs.declared.parts.Shut.{Shut as Why}
use Rattle.rcpsp_model.specs.declared.parts.Shut.TheVariants.{NoCapacity, NoBudget, Inefficient}
use Rattle.rcpsp_model.specs.Project.{Project, successors_of, budget, renewables, nonrenewables}
use Rattle.rcpsp_model.specs.Schedule.{finish, usage, used, end_of}
use Rattle.rcpsp_model.specs.Chain.{IsLeast}
use Rattle.rcpsp_model.specs.Tree.{has_job, last_start, entry_at, CanStart, IsFront, IsLeaf, IsShut, IsPlacedChild, IsChild, HasGap, LeavesBudgets, rest_need, Choice, choices}
use Rattle.rcpsp_model.specs.Bounds.{IsBudgetGap}
use Rattle.rcpsp_model.specs.Dominance.{Dominates}
use Rattle.rcpsp_model.proofs.Lists.{In, Contains-from_In}
use Rattle.rcpsp_model.proofs.Numbers.{Decided, below_decided, both_decided, least-one}
use Rattle.rcpsp_model.proofs.Entries.{has_job-In}
use Rattle.rcpsp_model.proofs.Fronts.{named-in_turn}
use Rattle.rcpsp_model.proofs.Successors.{before-any, In-any}
use Rattle.rcpsp_model.proofs.Choices.{zip-left}
use Rattle.rcpsp_model.proofs.ChildLists.{one_list_law, child-one}
use Rattle.rcpsp_model.proofs.Tests.{all_below-from, all_to, every, implies-from}
use Rattle.rcpsp_model.proofs.ChildTests.{all_to-from, every-from, leaves_test, leaves_test-true, gap_test, gap_test-true, gap_test-from}
use Rattle.rcpsp_model.proofs.BoundTests.{leaf_test, leaf_test-true, leaf_test-from, has_jobs, soon_test, usage_test, dominates_test, dominates_test-true}

pub not_decided : {A : Type 0} → Decided A → Decided (A → ⊥)
not_decided (inl a) = inr (λ f. f a)
not_decided (inr n) = inl n

-- a test that is met exactly where the property holds decides it
pub tested : (A : Type 0) (b : Bool) → (b ≡ true → A) → (A → b ≡ true) → Decided A
tested A b to from = elim (cases_Bool b) [ inl y ↦ inl (to y) | inr n ↦ inr (λ a. both_ways b n (from a)) ]

pub least_decided : (Q : ℕ → Type 0) → ((i : ℕ) → Decided (Q i)) → (k : ℕ) → Decided (IsLeast Q k)
least_decided Q dec k =
    elim (both_decided (dec k) (below_decided (λ i. Q i → ⊥) (λ i. not_decided (dec i)) k)) [
      | inl h ↦ inl (record { attained = h.0; least = λ u q. elim (cases_lt u k) [ inl low ↦ absurd (h.1 u low q) | inr high ↦ high ] })
      | inr no_ ↦ inr (λ l. no_ (l.attained, λ i low q. let le = l.least i q in omega arith))
    ]

-- Budgets.
pub leaves_test-from : (P : Project) (F : List Entry) → LeavesBudgets P F → leaves_test P F ≡ true
leaves_test-from P F l = all_to-from (λ i. leb (used P F i + rest_need P F i) (budget P i)) (nonrenewables P) (λ i low high. le-leb _ _ (l i (low, high)))

pub leaves_decided : (P : Project) (F : List Entry) → Decided (LeavesBudgets P F)
leaves_decided P F = tested (LeavesBudgets P F) (leaves_test P F) (leaves_test-true P F) (leaves_test-from P F)

pub gap_decided : (P : Project) (F : List Entry) (l : ℕ) → Decided (IsBudgetGap P F l)
gap_decided P F l = least_decided (HasGap P F) (λ i. tested (HasGap P F i) (gap_test P F i) (gap_test-true P F i) (gap_test-from P F i)) l

-- The child by a choice: it is placed at one start, or shut by one cause.
pub data Kind (P : Project) (F : List Entry) (c : Choice) : Type 0 where
  is_placed : (t : ℕ) → IsPlacedChild P F (entry_at c.job c.mode t) → Kind P F c
  is_shut_by : (why : Why) → IsShut P F c.job c.mode why → Kind P F c

child-kind : (P : Project) (F : List Entry) (c : Choice) (d : Child (List Entry)) → IsChild P F c.job c.mode d → Kind P F c
child-kind P F c (Placed G) is = is_placed is.0 is.2
child-kind P F c (Shut j m why) is = is_shut_by why is.2

pub kind-of : (P : Project) (F : List Entry) (c : Choice) → In (choices P F) c → Kind P F c
kind-of P F c i =
    let all = one_list_law P F in
    let r = zip-left (λ (x : Choice) d. IsChild P F x.job x.mode d) (choices P F) all.children all.are c i in
    child-kind P F c r.0 r.2

-- a shut child isn't placed
pub shut-not_placed : (P : Project) (F : List Entry) (j m t : ℕ) (why : Why) → IsShut P F j m why → IsPlacedChild P F (entry_at j m t) → ⊥
shut-not_placed P F j m t why shut placed =
    let same = child-one P F j m (Placed (F ++ entry_at j m t ∷ [])) (Shut j m why) (t, refl, placed) (refl, refl, shut) in cc

pub placed_decided : (P : Project) (F : List Entry) (c : Choice) (t : ℕ) → Kind P F c → Decided (IsPlacedChild P F (entry_at c.job c.mode t))
placed_decided P F c t (is_placed u p) = elim (cases_eq u t) [
  | inl e ↦ inl (subst (λ (i : ℕ). IsPlacedChild P F (entry_at c.job c.mode i)) e p)
  | inr ne ↦ inr (λ q. ne (least-one (CanStart P F c.job c.mode) u t p.follows.start q.follows.start))
]
placed_decided P F c t (is_shut_by why s) = inr (λ p. shut-not_placed P F c.job c.mode t why s p)

pub why_decided : (a b : Why) → Decided (a ≡ b)
why_decided (NoCapacity k) (NoCapacity i) = elim (cases_eq k i) [ inl e ↦ inl (ap NoCapacity e) | inr n ↦ inr (λ e. n (cc)) ]
why_decided (NoBudget k) (NoBudget i) = elim (cases_eq k i) [ inl e ↦ inl (ap NoBudget e) | inr n ↦ inr (λ e. n (cc)) ]
why_decided (Inefficient k) (Inefficient i) = elim (cases_eq k i) [ inl e ↦ inl (ap Inefficient e) | inr n ↦ inr (λ e. n (cc)) ]
why_decided (NoCapacity k) (NoBudget i) = inr (λ e. cc)
why_decided (NoCapacity k) (Inefficient i) = inr (λ e. cc)
why_decided (NoBudget k) (NoCapacity i) = inr (λ e. cc)
why_decided (NoBudget k) (Inefficient i) = inr (λ e. cc)
why_decided (Inefficient k) (NoCapacity i) = inr (λ e. cc)
why_decided (Inefficient k) (NoBudget i) = inr (λ e. cc)

pub shut_decided : (P : Project) (F : List Entry) (c : Choice) (why : Why) → Kind P F c → Decided (IsShut P F c.job c.mode why)
shut_decided P F c why (is_placed t p) = inr (λ s. shut-not_placed P F c.job c.mode t why s p)
shut_decided P F c why (is_shut_by own s) = elim (why_decided own why) [
  | inl e ↦ inl (subst (IsShut P F c.job c.mode) e s)
  | inr ne ↦ inr (λ q.
      let same = child-one P F c.job c.mode (Shut c.job c.mode own) (Shut c.job c.mode why) (refl, refl, s) (refl, refl, q) in ne (cc))
]

-- Leaves.
pub leaf_decided : (P : Project) (F : List Entry) → Decided (IsLeaf P F)
leaf_decided P F = tested (IsLeaf P F) (leaf_test P F) (leaf_test-true P F) (leaf_test-from P F)

-- Dominance: of a front over any entries.
has_jobs-from : (A B : List Entry) → ((j : ℕ) → has_job B j ≡ true → has_job A j ≡ true) → has_jobs A B ≡ true
has_jobs-from A B h = every-from (λ e. has_job A e.job) B (λ e i. h e.job (has_job-In B e i))

some_fails : {X : Type 0} (p : X → Bool) (xs : List X) → every p xs ≡ false → (x : X) × In xs x × (p x ≡ false)
some_fails p [] h = absurd (false≢true (sym h))
some_fails p (x ∷ xs) h = elim (cases_Bool (p x)) [
  | inr n ↦ (x, inl refl, n)
  | inl y ↦ let r = some_fails p xs (ap (λ (b : Bool). b && every p xs) (sym y) ∙ h) in (r.0, inr r.1, r.2)
]

soon_test-from : (P : Project) (A B : List Entry) (a b : Entry) → IsFront P A → Dominates P A B → In A a → In B b → soon_test P A B a b ≡ true
soon_test-from P A B a b f d i j =
    implies-from (eqb a.job b.job) _ (λ same. elim (cases_Bool (every (has_job A) (successors_of P a.job))) [
      | inl all ↦ or_right (leb (finish P a) (max (finish P b) (last_start B))) _ all
      | inr no_ ↦
          let s = some_fails (has_job A) (successors_of P a.job) no_ in
          let job = (named-in_turn P [] A f a i).0 in
          let before = before-any P a.job s.0 job.0 ∙ In-any (successors_of P a.job) s.0 s.1 in
          or_left _ (every (has_job A) (successors_of P a.job)) (le-leb _ _ (d.finishes a b s.0 (Contains-from_In A a i) (Contains-from_In B b j) (eqb-true a.job b.job same) before s.2))
    ])

dominates_test-from : (P : Project) (A B : List Entry) → IsFront P A → Dominates P A B → dominates_test P A B ≡ true
dominates_test-from P A B f d =
    and_from (has_jobs A B) _ (has_jobs-from A B (λ j h. d.jobs j ∙ h))
    (and_from (has_jobs B A) _ (has_jobs-from B A (λ j h. sym (d.jobs j) ∙ h))
    (and_from (leb (last_start A) (last_start B)) _ (le-leb _ _ d.last)
    (and_from (leb (end_of P A) (end_of P B)) _ (le-leb _ _ d.end)
    (and_from (all_to (λ l. leb (used P A l) (used P B l)) (nonrenewables P)) _ (all_to-from (λ l. leb (used P A l) (used P B l)) (nonrenewables P) (λ l low high. le-leb _ _ (d.needs l (low, high))))
    (and_from (all_to (usage_test P A B) (renewables P)) _
    (all_to-from (usage_test P A B) (renewables P) (λ k low high. all_below-from (λ i. leb (usage P A k (last_start B + i)) (usage P B k (last_start B + i))) (end_of P A - last_start B)
    (λ i _. le-leb _ _ (d.usage k (last_start B + i) (low, high) (omega arith)))))
    (every-from (λ a. every (soon_test P A B a) B) A (λ a i. every-from (soon_test P A B a) B (λ b j. soon_test-from P A B a b f d i j))))))))

pub dominates_decided : (P : Project) (A B : List Entry) → IsFront P A → Decided (Dominates P A B)
dominates_decided P A B f = tested (Dominates P A B) (dominates_test P A B) (dominates_test-true P A B) (dominates_test-from P A B f)
