-- A front has few choices, so a log has few lines.
use Rattle.std.proofs.Common.{◌≡◌, ℕ, zero, suc, ◌+◌, ◌-◌, ◌*◌, ◌≤◌, arith, refl, inl, inr, ap, ◌∙◌, List, [], ◌∷◌, ◌++◌, length, length-append, Bool, true, false, cond, Option, Some, None}
use Rattle.std.specs.Prelude.{sum_by, filter}
use Rattle.std.specs.List.{slice_index_or}
use Rattle.std.proofs.lemmas.Bool.{cases_Bool}
use Rattle.std.proofs.lemmas.List.{length-map}
use Rattle.std.proofs.lemmas.List.Concat.{length-flat_map}
use Rattle.std.proofs.lemmas.List.Sums.{sum_by-cons}
use Rattle.rcpsp_model.specs.declared.parts.Entry.{Entry}
use Rattle.rcpsp_model.specs.declared.parts.Verdict.{Verdict}
use Rattle.rcpsp_model.specs.Project.{Project, Activity, no_activity, job_count, jobs, modes_of, numbers_from, IsWithinLimits}
use Rattle.rcpsp_model.specs.Tree.{choices_of, choices, is_eligible}
use Rattle.proof_log.specs.declared.report.LogLine.{LogLine}
use Rattle.log_truth.specs.Log.{Branch, at_root, by_choice, is_expanded, front_at, expanded_branches, below}
use Rattle.log_truth.specs.Holds.{expanded_in}
use Rattle.log_truth.specs.Refusal.{expanded_by, WantsFrom}
use Rattle.log_truth.specs.Laws.{RoomLaw}
use Rattle.log_truth.proofs.OneRefusal.{expanded-cons, wants-few}

length-numbers : (i n : ℕ) → length (numbers_from i n) ≡ n
length-numbers i zero = refl
length-numbers i (suc n) = ap suc (length-numbers (i + 1) n)

-- some of the items weigh no more than all of them
sum_by-filter : {X : Type 0} (f : X → ℕ) (p : X → Bool) (xs : List X) → sum_by f (filter p xs) ≤ sum_by f xs
sum_by-filter f p [] = omega arith
sum_by-filter {X = X} f p (x ∷ xs) =
    let ih = sum_by-filter f p xs in
    let all = sum_by-cons f x xs in
    elim (cases_Bool (p x)) [
      | inl yes_ ↦ let kept = ap (λ (b : Bool). sum_by f (cond b (x ∷ filter p xs) (filter p xs))) yes_ ∙ sum_by-cons f x (filter p xs) in omega arith
      | inr no_ ↦ let left = ap (λ (b : Bool). sum_by f (cond b (x ∷ filter p xs) (filter p xs))) no_ in omega arith
    ]

-- a sum over the numbers of a list's items, where the list stands in another one behind i items
sum_by-numbers : (f : Activity → ℕ) (all : List Activity) (i : ℕ) (xs : List Activity) → ((k : ℕ) → slice_index_or all (i + k) no_activity ≡ slice_index_or xs k no_activity) →
    sum_by (λ j. f (slice_index_or all (j - 1) no_activity)) (numbers_from (i + 1) (length xs)) ≡ sum_by f xs
sum_by-numbers f all i [] at = refl
sum_by-numbers f all i (x ∷ xs) at =
    let ih = sum_by-numbers f all (i + 1) xs (λ k. let e : (i + 1) + k ≡ i + suc k = omega arith in ap (λ (n : ℕ). slice_index_or all n no_activity) e ∙ at (suc k)) in
    let first : (i + 1) - 1 ≡ i + 0 = omega arith in
    let own = ap (λ (n : ℕ). f (slice_index_or all n no_activity)) first ∙ ap f (at 0) in
    let left = sum_by-cons (λ (j : ℕ). f (slice_index_or all (j - 1) no_activity)) (i + 1) (numbers_from ((i + 1) + 1) (length xs)) in
    let right = sum_by-cons f x xs in
    omega arith

-- all modes of all jobs
modes-sum : (P : Project) → sum_by (λ j. length (modes_of P j)) (jobs P) ≡ sum_by (λ a. length a.modes) P.activities
unfolding modes_of job_count
modes-sum P = sum_by-numbers (λ a. length a.modes) P.activities 0 P.activities (λ k. let e : 0 + k ≡ k = omega arith in ap (λ (n : ℕ). slice_index_or P.activities n no_activity) e)

choices_of-sum : (P : Project) (js : List ℕ) → sum_by (λ j. length (choices_of P j)) js ≡ sum_by (λ j. length (modes_of P j)) js
choices_of-sum P [] = refl
choices_of-sum P (j ∷ js) =
    let ih = choices_of-sum P js in
    let own : length (choices_of P j) ≡ length (modes_of P j) = length-map (numbers_from 1 (length (modes_of P j))) (λ m. record { job = j; mode = m }) ∙ length-numbers 1 (length (modes_of P j)) in
    let left = sum_by-cons (λ (i : ℕ). length (choices_of P i)) j js in
    let right = sum_by-cons (λ (i : ℕ). length (modes_of P i)) j js in
    omega arith

pub few_choices : (P : Project) (F : List Entry) → IsWithinLimits P → length (choices P F) ≤ 512
few_choices P F w =
    let joined = length-flat_map (choices_of P) (filter (is_eligible P F) (jobs P)) in
    let some = sum_by-filter (λ j. length (choices_of P j)) (is_eligible P F) (jobs P) in
    let each = choices_of-sum P (jobs P) in
    let all = modes-sum P in
    let limit = w.few_modes in
    omega arith

few_branches : (P : Project) (x : Bool) (o : Option (List Entry)) → IsWithinLimits P → length (expanded_branches P x o) ≤ 512 * cond x 1 0
few_branches P true (Some F) w = let few = few_choices P F w in let same = length-map (choices P F) (λ c. by_choice F c) in omega arith
few_branches P true None w = omega arith
few_branches P false o w = omega arith

few_below : (P : Project) (b : Branch) (l : LogLine) → IsWithinLimits P → length (below P b l) ≤ 512 * expanded_by l
unfolding below
few_below P b l w = few_branches P (is_expanded l) (front_at b l) w

few_lines : (P : Project) (v : Verdict) (bs : List Branch) (k : ℕ) (ls : List LogLine) (rest : List Branch) → IsWithinLimits P → WantsFrom P v bs k ls rest →
    length ls + length rest ≤ length bs + 512 * expanded_in ls
few_lines P v bs k [] rest w wants = let same = ap (λ (cs : List Branch). length cs) wants in omega arith
few_lines P v [] k (l ∷ ls) rest w wants = absurd wants
few_lines P v (b ∷ bs) k (l ∷ ls) rest w wants =
    let ih = few_lines P v (below P b l ++ bs) (k + expanded_by l) ls rest w wants.1 in
    let few = few_below P b l w in
    let all = length-append (below P b l) bs in
    let count = expanded-cons l ls in
    omega arith

pub room_law : RoomLaw
room_law P v ls rest w wants =
    let few = wants-few P v (at_root ∷ []) 0 ls rest (omega arith) wants in
    let all = few_lines P v (at_root ∷ []) 0 ls rest w wants in
    (omega arith, omega arith)
