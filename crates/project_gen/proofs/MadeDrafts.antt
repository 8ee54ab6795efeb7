-- Made drafts are sound, and describe made projects.
use Rattle.std.proofs.Common.{◌≡◌, ℕ, zero, suc, ◌+◌, ◌-◌, ◌*◌, ◌<◌, ◌≤◌, max, Bool, true, false, cond, eqb, inl, inr, List, [], ◌∷◌, length, map, get_or, filter, refl, sym, ap, subst, ◌∙◌, arith}
use Rattle.std.specs.Prelude.{All, slice_index, sum_by, nat_lt, ◌&&◌}
use Rattle.std.specs.List.{range_with_len, fold}
use Rattle.std.proofs.lemmas.Bool.{cases_eq, cases_lt, eq-eqb, ne_eqb, eqb-true, or_cases, both_ways}
use Rattle.std.proofs.lemmas.List.Elements.{All-nil, All-cons, All-head, All-tail, All-map, All-weaker}
use Rattle.std.proofs.lemmas.List.FromFn.{length-range_with_len, length-map-range_with_len, get_or-map-range_with_len}
use Rattle.std.proofs.lemmas.List.Sums.{sum_by-le}
use Rattle.rand_core.specs.Stream.{Stream}
use Rattle.rcpsp_model.specs.declared.parts.Mode.{Mode}
use Rattle.rcpsp_model.specs.Project.{Project, Activity, IsModeWithinLimits, IsRowWithinLimits, IsAcyclic, IsAscending, Before, job_count}
use Rattle.rcpsp_model.specs.Chain.{least_over}
use Rattle.rcpsp_model.specs.Rank.{is_among}
use Rattle.project_net.specs.declared.draft.BuildRefusal.{BuildRefusal}
use Rattle.project_net.specs.declared.draft.BuildRefusal.TheVariants.{NoMemory}
use Rattle.project_net.specs.declared.draft.Draft.{Draft}
use Rattle.project_net.specs.declared.draft.DraftJob.{DraftJob}
use Rattle.project_net.specs.Canonical.{greatest}
use Rattle.project_net.specs.Draft.{activity_of, project_of, no_job, IsJobWithinLimits, IsWithinCounts, IsWithinLimits, HasSuccessorsWithin}
use Rattle.project_net.specs.Refusal.{IsRefusal, IsSound}
use Rattle.project_net.proofs.DraftProjects.{job_count-project_of, limits-project_of, is_before-project_of}
use Rattle.project_net.proofs.FirstFaults.{one_first_fault}
use Rattle.project_net.proofs.Listed.{ascending-found}
use Rattle.project_net.proofs.Pairs.{pairs}
use Rattle.project_net.proofs.Ranges.{ascending-filter, has-below}
use Rattle.project_gen.specs.Draws.{after, draw, two_draws}
use Rattle.project_gen.specs.Made.{has_budgets, need_words, mode_words, drawn_needs, drawn_mode, drawn_modes, idle_mode, drawn_predecessors, words_of_job, made_predecessors, made_modes, is_either, followers, or_last, made_successors, made_activity, need_of, needs_together, made_budget, project_from}
use Rattle.project_gen.specs.Drafting.{made_job, made_draft}
use Rattle.project_gen.proofs.Ranges.{map_range-same, map-map, range-numbers, All-filter_range, All-map_range}

-- ---- draws are small

draw-below : (s : Stream) (i q : ℕ) → 1 ≤ q → draw s i q < q
unfolding draw
draw-below s i q some = omega arith

abbrev IsAtMost : ℕ → ℕ → Type 0
IsAtMost m r = r ≤ m

two_small : (x y m : ℕ) → x ≤ m → y ≤ m → All (IsAtMost m) (x ∷ y ∷ [])
two_small x y m a b = All-cons (IsAtMost m) x (y ∷ []) a (All-cons (IsAtMost m) y [] b (All-nil (IsAtMost m)))

-- ---- modes

-- needs of 0 to 9 each
record AreSmallNeeds (n : ℕ) (needs : List ℕ) : Type 0 where
  pub size : length needs ≡ n
  pub limits : All (λ r. r ≤ 1000000) needs
  pub small : (k : ℕ) → slice_index needs k ≤ 9

small_at : (x y : ℕ) → x ≤ 9 → y ≤ 9 → (k : ℕ) → slice_index (x ∷ y ∷ []) k ≤ 9
small_at x y a b zero = a
small_at x y a b (suc zero) = b
small_at x y a b (suc (suc k)) = omega arith

small_needs : (b : Bool) (x y : ℕ) → x ≤ 9 → y ≤ 9 → AreSmallNeeds (cond b 2 0) (cond b (x ∷ y ∷ []) [])
small_needs true x y a b = record { size = refl; limits = two_small x y 1000000 (omega arith) (omega arith); small = small_at x y a b }
small_needs false x y a b = record { size = refl; limits = All-nil (λ (r : ℕ). r ≤ 1000000); small = λ k. omega arith }

record IsSmallMode (M : ℕ) (mode : Mode) : Type 0 where
  pub limits : IsModeWithinLimits 2 (need_words M) mode
  pub needs : (l : ℕ) → need_of l mode ≤ 9

small_mode : (M duration x y : ℕ) (needs : List ℕ) → duration ≤ 10000 → x ≤ 1000000 → y ≤ 1000000 → AreSmallNeeds (need_words M) needs → IsSmallMode M (record { duration = duration; requests = x ∷ y ∷ []; needs = needs })
small_mode M duration x y needs short a b small = record {
  limits = record { duration = short; all_requests = refl; all_needs = small.size; requests = two_small x y 1000000 a b; needs = small.limits };
  needs = λ l. small.small (l - 1);
}

small_drawn : (M : ℕ) (s : Stream) → IsSmallMode M (drawn_mode M s)
unfolding drawn_mode drawn_needs two_draws
small_drawn M s =
    small_mode M (1 + draw s 0 10) (draw s 1 6) (draw s (1 + 1) 6) (drawn_needs M s 3)
    (omega (arith, draw-below s 0 10 (omega arith))) (omega (arith, draw-below s 1 6 (omega arith))) (omega (arith, draw-below s (1 + 1) 6 (omega arith)))
    (small_needs (has_budgets M) (draw s 3 10) (draw s (3 + 1) 10) (omega (arith, draw-below s 3 10 (omega arith))) (omega (arith, draw-below s (3 + 1) 10 (omega arith))))

small_idle : (M : ℕ) → IsSmallMode M (idle_mode M)
unfolding idle_mode
small_idle M = small_mode M 0 0 0 (cond (has_budgets M) (0 ∷ 0 ∷ []) []) (omega arith) (omega arith) (omega arith) (small_needs (has_budgets M) 0 0 (omega arith) (omega arith))

-- one to four modes
record AreSmallModes (M : ℕ) (modes : List Mode) : Type 0 where
  pub some : 1 ≤ length modes
  pub few : length modes ≤ 4
  pub each : All (IsSmallMode M) modes

small_either : (M : ℕ) (b : Bool) (xs ys : List Mode) → AreSmallModes M xs → AreSmallModes M ys → AreSmallModes M (cond b xs ys)
small_either M true xs ys a b = a
small_either M false xs ys a b = b

small_all : (M : ℕ) (s : Stream) → 1 ≤ M → M ≤ 4 → AreSmallModes M (drawn_modes M s)
unfolding drawn_modes
small_all M s some few =
    let mode = λ (m : ℕ). drawn_mode M (after ((m - 1) * mode_words M) s) in
    let size = length-map-range_with_len mode 1 M in
    record { some = omega arith; few = omega arith; each = All-map_range (IsSmallMode M) mode 1 M (λ m low high. small_drawn M (after ((m - 1) * mode_words M) s)) }

small_modes : (n M : ℕ) (s : Stream) (j : ℕ) → 1 ≤ M → M ≤ 4 → AreSmallModes M (made_modes n M s j)
unfolding made_modes
small_modes n M s j some few =
    small_either M (nat_lt 1 j && nat_lt j n) (drawn_modes M (after 2 (words_of_job M s j))) (idle_mode M ∷ []) (small_all M (after 2 (words_of_job M s j)) some few)
    (record { some = omega arith; few = omega arith; each = All-cons (IsSmallMode M) (idle_mode M) [] (small_idle M) (All-nil (IsSmallMode M)) })

-- ---- budgets

least_small : (f : Mode → ℕ) (ms : List Mode) → All (λ m. f m ≤ 9) ms → least_over f ms ≤ 9
least_small f [] each = omega arith
least_small f (m ∷ []) each = All-head (λ (x : Mode). f x ≤ 9) m [] each
least_small f (m ∷ n ∷ ms) each = let first = All-head (λ (x : Mode). f x ≤ 9) m (n ∷ ms) each in omega arith

fold_small : (a : ℕ) (xs : List ℕ) → a ≤ 9 → All (IsAtMost 9) xs → fold max a xs ≤ 9
fold_small a [] small each = small
fold_small a (x ∷ xs) small each =
    let first : x ≤ 9 = All-head (IsAtMost 9) x xs each in
    fold_small (max a x) xs (omega arith) (All-tail (IsAtMost 9) x xs each)

needs_small : (M l : ℕ) (ms : List Mode) → AreSmallModes M ms → needs_together l ms ≤ 18
unfolding needs_together
needs_small M l ms small =
    let each : All (λ m. need_of l m ≤ 9) ms = All-weaker (IsSmallMode M) (λ (m : Mode). need_of l m ≤ 9) (λ m (a : IsSmallMode M m). a.needs l) ms small.each in
    let least = least_small (need_of l) ms each in
    let most : greatest (map (need_of l) ms) ≤ 9 = fold_small 0 (map (need_of l) ms) (omega arith) (All-map (IsAtMost 9) (need_of l) ms each) in
    omega arith

budget_small : (n M : ℕ) (s : Stream) (l : ℕ) → n ≤ 128 → 1 ≤ M → M ≤ 4 → made_budget n M s l ≤ 1000000
unfolding made_budget
budget_small n M s l few some few_modes =
    let f = λ (j : ℕ). needs_together l (made_modes n M s j) in
    let sum = sum_by-le f 18 (range_with_len 1 n) (λ k d h. needs_small M l (made_modes n M s (get_or (range_with_len 1 n) k d)) (small_modes n M s (get_or (range_with_len 1 n) k d) some few_modes)) in
    let size = length-range_with_len 1 n in
    omega arith

-- ---- successors

-- a drawn predecessor comes before the job
is_before_both : (M : ℕ) (s : Stream) (i j : ℕ) → 2 ≤ j → is_either i (made_predecessors M s j) ≡ true → i + 1 ≤ j
unfolding made_predecessors drawn_predecessors
is_before_both M s i j low either =
    let t = words_of_job M s j in
    let a = draw-below t 0 (j - 1) (omega arith) in
    let b = draw-below t 1 (j - 1) (omega arith) in
    elim (or_cases (eqb (1 + draw t 0 (j - 1)) i) (eqb (1 + draw t 1 (j - 1)) i) either) [
      | inl first ↦ let e = eqb-true (1 + draw t 0 (j - 1)) i first in omega arith
      | inr second ↦ let e = eqb-true (1 + draw t 1 (j - 1)) i second in omega arith
    ]

abbrev IsLater : ℕ → ℕ → ℕ → Type 0
IsLater i n j = (i + 1 ≤ j) × (j ≤ n)

followers_later : (n M : ℕ) (s : Stream) (i : ℕ) → All (IsLater i n) (followers n M s i)
unfolding followers
followers_later n M s i =
    All-filter_range (IsLater i n) (λ j. is_either i (made_predecessors M s j)) 2 (n - 2)
    (λ j low high either. (is_before_both M s i j low either, omega arith))

last_later : (i n : ℕ) (js : List ℕ) → i < n → All (IsLater i n) js → All (IsLater i n) (or_last n js)
last_later i n [] lt all = All-cons (IsLater i n) n [] (omega arith, omega arith) (All-nil (IsLater i n))
last_later i n (j ∷ js) lt all = all

successors_later : (n M : ℕ) (s : Stream) (i : ℕ) → i ≤ n → All (IsLater i n) (made_successors n M s i)
unfolding made_successors
successors_later n M s i high = elim (cases_eq i n) [
  | inl e ↦ subst (λ (b : Bool). All (IsLater i n) (cond b [] (or_last n (followers n M s i)))) (sym (eq-eqb i n e)) (All-nil (IsLater i n))
  | inr ne ↦
      subst (λ (b : Bool). All (IsLater i n) (cond b [] (or_last n (followers n M s i)))) (sym (ne_eqb i n ne))
      (last_later i n (followers n M s i) (let lt : i < n = below i n high ne in lt) (followers_later n M s i))
]
  where
    below : (i n : ℕ) → i ≤ n → (i ≡ n → ⊥) → i < n
    below i n high ne = omega arith

ascending_last : (n : ℕ) (js : List ℕ) → IsAscending js → IsAscending (or_last n js)
ascending_last n [] up = tt
ascending_last n (j ∷ js) up = up

ascending_either : (b : Bool) (js : List ℕ) → IsAscending js → IsAscending (cond b [] js)
ascending_either true js up = tt
ascending_either false js up = up

successors_ascend : (n M : ℕ) (s : Stream) (i : ℕ) → IsAscending (made_successors n M s i)
unfolding made_successors followers
successors_ascend n M s i = ascending_either (eqb i n) (or_last n (followers n M s i)) (ascending_last n (followers n M s i) (ascending-filter (λ j. is_either i (made_predecessors M s j)) 2 (n - 2)))

-- ---- the draft

pub size_of : (n M : ℕ) (s : Stream) → length (map (made_job n M s) (range_with_len 1 n)) ≡ n
size_of n M s = length-map-range_with_len (made_job n M s) 1 n

budgets_size : (b : Bool) (x y : ℕ) → length (cond b (x ∷ y ∷ []) []) ≡ cond b 2 0
budgets_size true x y = refl
budgets_size false x y = refl

budgets_few : (b : Bool) (x y : ℕ) → length (cond b (x ∷ y ∷ []) []) ≤ 16
budgets_few true x y = omega arith
budgets_few false x y = omega arith

budgets_small : (b : Bool) (x y : ℕ) → x ≤ 1000000 → y ≤ 1000000 → All (IsAtMost 1000000) (cond b (x ∷ y ∷ []) [])
budgets_small true x y a b = two_small x y 1000000 a b
budgets_small false x y a b = All-nil (IsAtMost 1000000)

pub job_limits : (n M : ℕ) (s : Stream) → 1 ≤ M → M ≤ 4 → All (IsJobWithinLimits 2 (need_words M)) (map (made_job n M s) (range_with_len 1 n))
unfolding made_job
job_limits n M s some few =
    All-map_range (IsJobWithinLimits 2 (need_words M)) (made_job n M s) 1 n
    (λ j low high.
    let small = small_modes n M s j some few in
    let a = small.some in let b = small.few in
    record {
      some_mode = a;
      few_modes = omega arith;
      modes = All-weaker (IsSmallMode M) (IsModeWithinLimits 2 (need_words M)) (λ m (x : IsSmallMode M m). x.limits) (made_modes n M s j) small.each;
    })

few_modes_in_all : (n M : ℕ) (s : Stream) → n ≤ 128 → 1 ≤ M → M ≤ 4 → sum_by (λ job. length job.modes) (map (made_job n M s) (range_with_len 1 n)) ≤ 512
unfolding made_job
few_modes_in_all n M s high some few =
    let each : All (λ job. length job.modes ≤ 4) (map (made_job n M s) (range_with_len 1 n)) =
    All-map_range (λ (job : DraftJob). length job.modes ≤ 4) (made_job n M s) 1 n (λ j l h. (small_modes n M s j some few).few) in
    let sum = sum_by-le (λ (job : DraftJob). length job.modes) 4 (map (made_job n M s) (range_with_len 1 n)) each in
    let size = size_of n M s in
    omega arith

counts_of : (n M : ℕ) (s : Stream) → 1 ≤ n → n ≤ 128 → 1 ≤ M → M ≤ 4 → IsWithinCounts (made_draft n M s)
unfolding made_draft
counts_of n M s low high some few =
    let size = size_of n M s in
    let x = made_budget n M s 1 in
    let y = made_budget n M s 2 in
    record {
      some_job = omega arith;
      few_jobs = omega arith;
      few_modes = few_modes_in_all n M s high some few;
      few_renewables = omega arith;
      few_nonrenewables = budgets_few (has_budgets M) x y;
      capacities = two_small 8 8 1000000 (omega arith) (omega arith);
      budgets = budgets_small (has_budgets M) x y (budget_small n M s 1 high some few) (budget_small n M s 2 high some few);
      few_rows = omega arith;
      rows = All-nil (IsRowWithinLimits (8 ∷ 8 ∷ []));
      calendar = tt;
    }

successor_limits : (n M : ℕ) (s : Stream) → All (HasSuccessorsWithin (length (map (made_job n M s) (range_with_len 1 n)))) (map (made_job n M s) (range_with_len 1 n))
unfolding made_job
successor_limits n M s =
    let jobs = map (made_job n M s) (range_with_len 1 n) in
    subst (λ (k : ℕ). All (HasSuccessorsWithin k) jobs) (sym (size_of n M s))
    (All-map_range (HasSuccessorsWithin n) (made_job n M s) 1 n
    (λ j low high.
    All-weaker (IsLater j n) (λ (s' : ℕ). (1 ≤ s') × (s' ≤ n)) (λ s' (later : IsLater j n s'). let a = later.0 in let b = later.1 in (omega arith, b)) (made_successors n M s j) (successors_later n M s j (omega arith))))

limits_of : (n M : ℕ) (s : Stream) → 1 ≤ n → n ≤ 128 → 1 ≤ M → M ≤ 4 → IsWithinLimits (made_draft n M s)
unfolding made_draft
limits_of n M s low high some few = record {
  counts = counts_of n M s low high some few;
  jobs =
      subst (λ (k : ℕ). All (IsJobWithinLimits 2 k) (map (made_job n M s) (range_with_len 1 n))) (sym (budgets_size (has_budgets M) (made_budget n M s 1) (made_budget n M s 2)))
      (job_limits n M s some few);
  successors = successor_limits n M s;
}

-- ---- no cycle: job numbers rise along each pair

later_than : (xs : List ℕ) (i j : ℕ) → All (λ s. i + 1 ≤ s) xs → is_among xs j ≡ true → i < j
later_than xs i j all among = elim (cases_lt j (i + 1)) [
  | inl lt ↦ absurd (both_ways (is_among xs j) (has-below xs (i + 1) j all lt) among)
  | inr le ↦ omega arith
]

rises_at : (n M : ℕ) (s : Stream) (i j : ℕ) → IsWithinLimits (made_draft n M s) → 1 ≤ i → i ≤ n → 1 ≤ j → Before (project_of (made_draft n M s)) i j → i < j
unfolding made_draft made_job
rises_at n M s i j w low high one before =
    let size = size_of n M s in
    let at : is_among (made_successors n M s i) j ≡ true =
    ap (λ (job : DraftJob). is_among job.successors j) (sym (get_or-map-range_with_len (made_job n M s) 1 n (i - 1) i no_job (omega arith) (omega arith)))
    ∙ sym (is_before-project_of (made_draft n M s) w i j low (omega arith) one)
    ∙ before in
    later_than (made_successors n M s i) i j (All-weaker (IsLater i n) (λ (k : ℕ). i + 1 ≤ k) (λ k (later : IsLater i n k). later.0) (made_successors n M s i) (successors_later n M s i high)) at

draft_size : (n M : ℕ) (s : Stream) → job_count (project_of (made_draft n M s)) ≡ n
unfolding made_draft
draft_size n M s = job_count-project_of (made_draft n M s) ∙ size_of n M s

acyclic_of : (n M : ℕ) (s : Stream) → 1 ≤ n → n ≤ 128 → 1 ≤ M → M ≤ 4 → IsAcyclic (project_of (made_draft n M s))
acyclic_of n M s low high some few =
    let P = project_of (made_draft n M s) in
    let w = limits_of n M s low high some few in
    record {
      jobs = pairs P (limits-project_of (made_draft n M s) w);
      rank = λ j. j;
      rises = λ i j before.
          let both = pairs P (limits-project_of (made_draft n M s) w) i j before in
          let k = both.0.1 in
          rises_at n M s i j w both.0.0 (omega (arith, draft_size n M s, k)) both.1.0 before;
    }

sound_of : (n M : ℕ) (s : Stream) → 1 ≤ n → n ≤ 128 → 1 ≤ M → M ≤ 4 → IsSound (made_draft n M s)
sound_of n M s low high some few = record { limits = limits_of n M s low high some few; acyclic = acyclic_of n M s low high some few }

-- a made draft is refused for want of memory alone
pub no_fault : (n M : ℕ) (s : Stream) (draft : Draft) (refusal : BuildRefusal) → 3 ≤ n → n ≤ 128 → 1 ≤ M → M ≤ 4 → draft ≡ made_draft n M s → IsRefusal draft refusal → refusal ≡ NoMemory
no_fault n M s draft refusal low high some few e refused = one_first_fault.sound draft refusal (subst IsSound (sym e) (sound_of n M s (omega arith) high some few)) refused

-- ---- the project

activity_made : (n M : ℕ) (s : Stream) (j : ℕ) → 1 ≤ j → j ≤ n → activity_of n (made_job n M s j) ≡ made_activity n M s j
unfolding made_job made_activity
activity_made n M s j low high =
    let js = made_successors n M s j in
    let later = successors_later n M s j high in
    ap (λ (xs : List ℕ). (let a : Activity = record { modes = made_modes n M s j; successors = xs } in a))
    (ap (filter (is_among js)) (range-numbers 1 n)
    ∙ ascending-found js 1 n (successors_ascend n M s j)
    (All-weaker (IsLater j n) (λ (k : ℕ). 1 ≤ k) (λ k (a : IsLater j n k). let x = a.0 in omega arith) js later)
    (All-weaker (IsLater j n) (λ (k : ℕ). k < 1 + n) (λ k (a : IsLater j n k). let x = a.1 in omega arith) js later))

pub project_made : (n M : ℕ) (s : Stream) → project_of (made_draft n M s) ≡ project_from n M s
unfolding made_draft project_from
project_made n M s =
    let jobs = map (made_job n M s) (range_with_len 1 n) in
    let budgets = cond (has_budgets M) (made_budget n M s 1 ∷ made_budget n M s 2 ∷ []) [] in
    ap (λ (xs : List Activity). (let P : Project = record { activities = xs; capacities = 8 ∷ 8 ∷ []; budgets = budgets; calendar = [] } in P))
    (ap (λ (k : ℕ). map (activity_of k) jobs) (size_of n M s)
    ∙ map-map (activity_of n) (made_job n M s) (range_with_len 1 n)
    ∙ map_range-same (λ j. activity_of n (made_job n M s j)) (made_activity n M s) 1 n (λ j low high. activity_made n M s j low (omega arith)))
