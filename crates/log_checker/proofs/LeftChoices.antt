-- The choices of a front, from one of them on.
use Rattle.std.proofs.Common.{◌≡◌, ℕ, zero, suc, ◌+◌, ◌-◌, ◌<◌, ◌≤◌, inl, inr, arith, sym, ap, ◌∙◌, List, [], ◌∷◌, ◌++◌, length, map, Bool, true, false}
use Rattle.std.specs.Prelude.{filter, Some}
use Rattle.std.specs.List.{flat_map}
use Rattle.std.proofs.lemmas.Bool.{cases_Bool, both_ways}
use Rattle.sched_base.specs.declared.job_set.JobSet.{JobSet}
use Rattle.sched_base.specs.JobSet.{member, IsNextMember}
use Rattle.rcpsp_model.specs.declared.parts.Entry.{Entry}
use Rattle.rcpsp_model.specs.Project.{Project, job_count, modes_of, numbers_from, IsJob, IsWithinLimits}
use Rattle.rcpsp_model.specs.Tree.{choices, choices_of, is_eligible, IsEligible}
use Rattle.rcpsp_model.proofs.Choices.{eligible_law}
use Rattle.rcpsp_model.proofs.Fronts.{activity-within}
use Rattle.precedence_tree.specs.Frontier.{AreEligible}
use Rattle.log_checker.specs.Judged.{choice_at}
use Rattle.log_checker.specs.Choices.{choices_above, choices_from, IsNextChoice}

-- all choices are those above 0
pub choices-above : (P : Project) (F : List Entry) → choices P F ≡ choices_above P F 0
choices-above P F = let e : job_count P ≡ job_count P - 0 = omega arith in ap (λ (n : ℕ). flat_map (choices_of P) (filter (is_eligible P F) (numbers_from 1 n))) e

-- a choice is the first of those from it on
pub from-first : (P : Project) (F : List Entry) (j m : ℕ) → m ≤ length (modes_of P j) → choices_from P F j m ≡ choice_at j m ∷ choices_from P F j (m + 1)
from-first P F j m within =
    let e : length (modes_of P j) + 1 - m ≡ suc (length (modes_of P j) + 1 - (m + 1)) = omega arith in
    ap (λ (n : ℕ). map (λ (i : ℕ). choice_at j i) (numbers_from m n) ++ choices_above P F j) e

-- after the last mode come the other jobs
pub from-last : (P : Project) (F : List Entry) (j m : ℕ) → length (modes_of P j) < m → choices_from P F j m ≡ choices_above P F j
from-last P F j m past =
    let e : length (modes_of P j) + 1 - m ≡ 0 = omega arith in
    ap (λ (n : ℕ). map (λ (i : ℕ). choice_at j i) (numbers_from m n) ++ choices_above P F j) e

-- numbers that fail a test are passed over
filter-kept : (p : ℕ → Bool) (x : ℕ) (xs : List ℕ) → p x ≡ true → filter p (x ∷ xs) ≡ x ∷ filter p xs
filter-kept p x xs h = rw h

filter-passed : (p : ℕ → Bool) (x : ℕ) (xs : List ℕ) → p x ≡ false → filter p (x ∷ xs) ≡ filter p xs
filter-passed p x xs h = rw h

passed : (p : ℕ → Bool) (i k n : ℕ) → ((x : ℕ) → i ≤ x → x < i + k → p x ≡ false) → filter p (numbers_from i (k + n)) ≡ filter p (numbers_from (i + k) n)
passed p i zero n none = let a : 0 + n ≡ n = omega arith in let b : i ≡ i + 0 = omega arith in ap (λ (m : ℕ). filter p (numbers_from i m)) a ∙ ap (λ (m : ℕ). filter p (numbers_from m n)) b
passed p i (suc k) n none =
    let a : suc k + n ≡ suc (k + n) = omega arith in
    let b : i + 1 + k ≡ i + suc k = omega arith in
    ap (λ (m : ℕ). filter p (numbers_from i m)) a
    ∙ filter-passed p i (numbers_from (i + 1) (k + n)) (none i (omega arith) (omega arith))
    ∙ passed p (i + 1) k n (λ x low high. none x (omega arith) (omega arith))
    ∙ ap (λ (m : ℕ). filter p (numbers_from m n)) b

test-false : (P : Project) (F : List Entry) (i : ℕ) → IsJob P i → (IsEligible P F i → ⊥) → is_eligible P F i ≡ false
test-false P F i job none = elim (cases_Bool (is_eligible P F i)) [ inl y ↦ absurd (none ((eligible_law P F i job).0 y)) | inr n ↦ n ]

-- up to the next eligible job there is none
pub above-next : (P : Project) (F : List Entry) (last j : ℕ) → last < j → IsEligible P F j → ((i : ℕ) → last < i → IsEligible P F i → j ≤ i) → choices_above P F last ≡ choices_from P F j 1
above-next P F last j above el least =
    let high = el.job.1 in
    let split : job_count P - last ≡ (j - 1 - last) + suc (job_count P - j) = omega arith in
    let to : last + 1 + (j - 1 - last) ≡ j = omega arith in
    let test = (eligible_law P F j el.job).1 el in
    let modes : length (modes_of P j) ≡ length (modes_of P j) + 1 - 1 = omega arith in
    ap (λ (n : ℕ). flat_map (choices_of P) (filter (is_eligible P F) (numbers_from (last + 1) n))) split
    ∙ ap (flat_map (choices_of P)) (passed (is_eligible P F) (last + 1) (j - 1 - last) (suc (job_count P - j))
    (λ x low less. test-false P F x (omega arith, omega arith) (λ own. let le = least x (omega arith) own in absurd (omega arith))))
    ∙ ap (λ (n : ℕ). flat_map (choices_of P) (filter (is_eligible P F) (numbers_from n (suc (job_count P - j))))) to
    ∙ ap (flat_map (choices_of P)) (filter-kept (is_eligible P F) j (numbers_from (j + 1) (job_count P - j)) test)
    ∙ ap (λ (n : ℕ). map (λ (i : ℕ). choice_at j i) (numbers_from 1 n) ++ choices_above P F j) modes

-- and after the last one none
pub above-none : (P : Project) (F : List Entry) (last : ℕ) → ((i : ℕ) → last < i → IsEligible P F i → ⊥) → choices_above P F last ≡ []
above-none P F last none =
    let split : job_count P - last ≡ (job_count P - last) + 0 = omega arith in
    ap (λ (n : ℕ). flat_map (choices_of P) (filter (is_eligible P F) (numbers_from (last + 1) n))) split
    ∙ ap (flat_map (choices_of P)) (passed (is_eligible P F) (last + 1) (job_count P - last) 0
    (λ x low less. test-false P F x (omega arith, omega arith) (none x (omega arith))))

-- The same by a set of the eligible jobs.
pub next-is : (P : Project) (F : List Entry) (known set : JobSet) (last j : ℕ) → IsWithinLimits P → AreEligible P F known → set ≡ known → IsNextMember set last j →
    IsNextChoice P F (choices_above P F last) (Some (record { job = j; mode = 1 }))
next-is P F known set last j limits are same next =
    let own : IsEligible P F j = (are j (let low = next.later in omega arith)).0 (ap (λ (s : JobSet). member s j) (sym same) ∙ next.own) in (
      above-next P F last j next.later own (λ i low el. next.lowest i low (ap (λ (s : JobSet). member s i) same ∙ (are i el.job.0).1 el)),
      record { eligible = own; mode = (omega arith, modes-some P limits j own.job) },
    )
  where
    modes-some : (Q : Project) → IsWithinLimits Q → (i : ℕ) → IsJob Q i → 1 ≤ length (modes_of Q i)
    modes-some Q l i job = unfold modes_of in (activity-within Q l i job).some_mode

pub none-is : (P : Project) (F : List Entry) (known set : JobSet) (last : ℕ) → AreEligible P F known → set ≡ known → ((i : ℕ) → last < i → member set i ≡ false) → choices_above P F last ≡ []
none-is P F known set last are same none =
    above-none P F last (λ i low el. both_ways (member set i) (none i low) (ap (λ (s : JobSet). member s i) same ∙ (are i el.job.0).1 el))
