-- From a draft within the limits to its project.
use Rattle.std.proofs.Common.{◌≡◌, ℕ, ◌+◌, ◌-◌, ◌<◌, ◌≤◌, inl, inr, arith, refl, sym, ap, subst, ◌∙◌, List, [], ◌∷◌, length, get_or, false, ◌&&◌}
use Rattle.std.specs.Prelude.{map, filter, sum_by, nat_le, take, drop, slice_range}
use Rattle.std.specs.List.{range_with_len}
use Rattle.std.proofs.lemmas.Bool.{cases_lt, le-leb, and_right}
use Rattle.std.proofs.lemmas.List.{get_or-map, length-map, ext_get_or, get_or_past, get_or_default, take-append-drop, length-append}
use Rattle.std.proofs.lemmas.List.FromFn.{length-map-range_with_len, get_or-map-range_with_len}
use Rattle.std.proofs.lemmas.List.Elements.{All-from_get_or, All-get_or}
use Rattle.std.proofs.lemmas.List.Sums.{sum_by-cons}
use Rattle.std.proofs.lemmas.List.Concat.{flat_map-append}
use Rattle.sched_base.specs.declared.job_set.JobSet.{JobSet}
use Rattle.sched_base.specs.JobSet.{member}
use Rattle.rcpsp_model.specs.declared.parts.Mode.{Mode}
use Rattle.rcpsp_model.specs.Project.{Project, Activity, no_activity, job_count, successors_of, is_before, IsJob, IsWithinLimits, IsActivityWithinLimits}
use Rattle.project_net.specs.declared.draft.Draft.{Draft}
use Rattle.project_net.specs.declared.draft.DraftJob.{DraftJob}
use Rattle.rcpsp_model.specs.Rank.{is_among}
use Rattle.project_net.specs.Draft.{activity_of, project_of, IsJobWithinLimits, HasSuccessorsWithin, IsWithinLimits as IsDraftWithinLimits, no_job}
use Rattle.project_net.specs.Flat.{ModeList, row, activity_in, project_in, Agrees}
use Rattle.project_net.specs.Flatten.{all_modes, AreFirstPlaces, AreSuccessorSets, AreTurned}
use Rattle.project_net.proofs.FlattenSteps.{modes_between, length-all_modes_more}
use Rattle.project_net.proofs.Ranges.{All-filter-range, ascending-filter, filter-range-same, has-filter-range, has-above}

sum_by-map : {X Y : Type 0} (g : Y → ℕ) (f : X → Y) (xs : List X) → sum_by g (map f xs) ≡ sum_by (λ x. g (f x)) xs
sum_by-map g f [] = refl
sum_by-map {X = X} g f (x ∷ xs) = sum_by-cons g (f x) (map f xs) ∙ ap (λ n. g (f x) + n) (sum_by-map g f xs) ∙ sym (sum_by-cons (λ (y : X). g (f y)) x xs)

pub job_count-project_of : (draft : Draft) → job_count (project_of draft) ≡ length draft.jobs
unfolding job_count
job_count-project_of draft = length-map draft.jobs (activity_of (length draft.jobs))

pub limits-project_of : (draft : Draft) → IsDraftWithinLimits draft → IsWithinLimits (project_of draft)
limits-project_of draft w =
    let n = length draft.jobs in
    let f = activity_of n in
    let size = length-map draft.jobs f in
    let count = job_count-project_of draft in
    let some = w.counts.some_job in let few = w.counts.few_jobs in
    record {
      some_job = omega arith;
      few_jobs = omega arith;
      few_modes = let e = sum_by-map (λ (a : Activity). length a.modes) f draft.jobs in let le = w.counts.few_modes in omega arith;
      few_renewables = w.counts.few_renewables;
      few_nonrenewables = w.counts.few_nonrenewables;
      activities = All-from_get_or (IsActivityWithinLimits (length (map f draft.jobs)) (length draft.capacities) (length draft.budgets)) (map f draft.jobs) no_activity
          (λ i h.
          let lt : i < n = omega arith in
          let job = All-get_or (IsJobWithinLimits (length draft.capacities) (length draft.budgets)) draft.jobs i no_job lt w.jobs in
          let here : IsActivityWithinLimits n (length draft.capacities) (length draft.budgets) (f (get_or draft.jobs i no_job)) = record {
            some_mode = job.some_mode;
            few_modes = job.few_modes;
            modes = job.modes;
            ascending = ascending-filter (is_among (get_or draft.jobs i no_job).successors) 1 n;
            successors = All-filter-range (is_among (get_or draft.jobs i no_job).successors) 1 n 1 n (omega arith) (omega arith);
          } in
          subst (λ (a : Activity). IsActivityWithinLimits (length (map f draft.jobs)) (length draft.capacities) (length draft.budgets) a) (sym (get_or-map f draft.jobs i no_job no_activity lt))
          (subst (λ (k : ℕ). IsActivityWithinLimits k (length draft.capacities) (length draft.budgets) (f (get_or draft.jobs i no_job))) (sym size) here));
      capacities = w.counts.capacities;
      budgets = w.counts.budgets;
      few_rows = w.counts.few_rows;
      rows = w.counts.rows;
      calendar = w.counts.calendar;
    }

activity_is : (ms ms' : List Mode) (ss ss' : List ℕ) → ms ≡ ms' → ss ≡ ss' → (let a : Activity = record { modes = ms; successors = ss } in a) ≡ record { modes = ms'; successors = ss' }
activity_is ms ms' ss ss' a b = cc

each-in-of : (draft : Draft) (firsts : List ℕ) (after : List JobSet) → AreFirstPlaces draft.jobs firsts → AreSuccessorSets draft.jobs after → (i : ℕ) → i < length draft.jobs →
    activity_in (all_modes draft.jobs) firsts after (i + 1) ≡ activity_of (length draft.jobs) (get_or draft.jobs i no_job)
each-in-of draft firsts after f s i lt =
    let back : i + 1 - 1 ≡ i = omega arith in
    activity_is _ _ _ _
    (ap (λ k. slice_range (all_modes draft.jobs) (get_or firsts k 0) (get_or firsts (i + 1) 0)) back
    ∙ ap (λ k. slice_range (all_modes draft.jobs) k (get_or firsts (i + 1) 0)) (f.places i (omega arith))
    ∙ ap (λ k. slice_range (all_modes draft.jobs) (length (all_modes (take i draft.jobs))) k) (f.places (i + 1) (omega arith))
    ∙ modes_between draft.jobs i lt)
    (ap (λ k. filter (member (row after (i + 1))) (range_with_len 1 k)) s.size
    ∙ filter-range-same (member (row after (i + 1))) (is_among (get_or draft.jobs i no_job).successors) 1 (length draft.jobs)
    (λ j low high. ap (λ k. member (get_or after k (record { 0 = 0 })) j) back ∙ s.sets i j lt low))

-- the flat vectors of a draft stand for its project
pub project_in-of : (draft : Draft) (firsts : List ℕ) (after : List JobSet) → AreFirstPlaces draft.jobs firsts → AreSuccessorSets draft.jobs after →
    project_in (all_modes draft.jobs) firsts after draft.capacities draft.budgets draft.calendar ≡ project_of draft
project_in-of draft firsts after f s =
    let g = activity_in (all_modes draft.jobs) firsts after in
    let n = length draft.jobs in
    let size = length-map-range_with_len g 1 (length after) in
    let same = s.size in
    ap (λ (l : List Activity). (let p : Project = record { activities = l; capacities = draft.capacities; budgets = draft.budgets; calendar = draft.calendar } in p))
    (ext_get_or no_activity (map g (range_with_len 1 (length after))) (map (activity_of n) draft.jobs) (size ∙ same ∙ sym (length-map draft.jobs (activity_of n)))
    (λ i h.
    let lt : i < n = omega arith in
    get_or-map-range_with_len g 1 (length after) i (i + 1) no_activity (omega arith) (omega arith)
    ∙ each-in-of draft firsts after f s i lt ∙ sym (get_or-map (activity_of n) draft.jobs i no_job no_activity lt)))

pub is_before-project_of : (draft : Draft) → IsDraftWithinLimits draft → (i j : ℕ) → 1 ≤ i → i ≤ length draft.jobs → 1 ≤ j →
    is_before (project_of draft) i j ≡ is_among (get_or draft.jobs (i - 1) no_job).successors j
unfolding is_before successors_of
is_before-project_of draft w i j low high one =
    let n = length draft.jobs in
    let lt : i - 1 < n = omega arith in
    let named = (get_or draft.jobs (i - 1) no_job).successors in
    let is = ap (λ (a : Activity). a.successors) (get_or-map (activity_of n) draft.jobs (i - 1) no_job no_activity lt) in
    ap (λ b. b && is_among (get_or (map (activity_of n) draft.jobs) (i - 1) no_activity).successors j) (le-leb 1 i low)
    ∙ ap (λ (l : List ℕ). is_among l j) is
    ∙ elim (cases_lt n j) [
      | inl above ↦
          has-above (filter (is_among named) (range_with_len 1 n)) n j (All-filter-range (is_among named) 1 n 1 n (omega arith) (omega arith)) above
          ∙ sym (has-above named n j (All-get_or (HasSuccessorsWithin n) draft.jobs (i - 1) no_job lt w.successors) above)
      | inr within ↦ has-filter-range (is_among named) 1 n j one (omega arith)
    ]

pub is_before-beyond : (P : Project) (i j : ℕ) → job_count P < i → is_before P i j ≡ false
unfolding is_before successors_of job_count
is_before-beyond P i j h =
    ap (λ (a : Activity). nat_le 1 i && is_among a.successors j) (get_or_past P.activities (i - 1) no_activity (omega arith)) ∙ and_right (nat_le 1 i) false refl

member-beyond : (rows : List JobSet) (i j : ℕ) → length rows < i → member (row rows i) j ≡ false
member-beyond rows i j h = ap (λ (s : JobSet). member s j) (get_or_past rows (i - 1) (record { 0 = 0 }) (omega arith))

-- the vectors of a draft agree with its project
pub agrees-of : (draft : Draft) (firsts : List ℕ) (after before : List JobSet) → IsDraftWithinLimits draft → AreFirstPlaces draft.jobs firsts → AreSuccessorSets draft.jobs after → AreTurned after before →
    Agrees (project_of draft) (record { renewables = length draft.capacities; nonrenewables = length draft.budgets; modes = all_modes draft.jobs }) firsts after before
agrees-of draft firsts after before w f s t =
    let n = length draft.jobs in
    let count = job_count-project_of draft in
    let size = s.size in
    let turned = t.size in
    let pairs : (i j : ℕ) → IsJob (project_of draft) i → 1 ≤ j → member (row after i) j ≡ is_before (project_of draft) i j =
    λ i j r one. let low = r.0 in let high = r.1 in s.sets (i - 1) j (omega arith) one ∙ sym (is_before-project_of draft w i j low (omega arith) one) in
    record {
      limits = limits-project_of draft w;
      renewables = refl;
      nonrenewables = refl;
      all_places = let e = f.size in omega arith;
      first = f.places 0 (omega arith);
      rising = λ i h.
          let a = f.places i (omega arith) in let b = f.places (i + 1) (omega arith) in
          let e = length-all_modes_more draft.jobs i (get_or draft.jobs i no_job) (omega arith) (get_or_default draft.jobs i no_job (get_or draft.jobs i no_job) (omega arith)) in
          omega arith;
      within = λ i h.
          let a = f.places i (omega arith) in
          let e = ap length (sym (ap all_modes (take-append-drop i draft.jobs)) ∙ flat_map-append (λ (x : DraftJob). x.modes) (take i draft.jobs) (drop i draft.jobs)) in
          let l = length-append (all_modes (take i draft.jobs)) (all_modes (drop i draft.jobs)) in
          omega arith;
      all_predecessors = turned;
      successors = pairs;
      predecessors = λ i j r one.
          let low = r.0 in let high = r.1 in
          t.sets i j one low (omega arith)
          ∙ elim (cases_lt n i) [
            | inl above ↦ member-beyond after i j (omega arith) ∙ sym (is_before-beyond (project_of draft) i j (omega arith))
            | inr within ↦ pairs i j (one, omega arith) low
          ];
    }

pub in-of : (draft : Draft) (table : ModeList) (firsts : List ℕ) (after : List JobSet) →
    table ≡ record { renewables = length draft.capacities; nonrenewables = length draft.budgets; modes = all_modes draft.jobs } → AreFirstPlaces draft.jobs firsts → AreSuccessorSets draft.jobs after →
    project_in table.modes firsts after draft.capacities draft.budgets draft.calendar ≡ project_of draft
in-of draft table firsts after e f s = ap (λ (t : ModeList). project_in t.modes firsts after draft.capacities draft.budgets draft.calendar) e ∙ project_in-of draft firsts after f s

pub agrees-in : (draft : Draft) (table : ModeList) (firsts : List ℕ) (after before : List JobSet) → IsDraftWithinLimits draft →
    table ≡ record { renewables = length draft.capacities; nonrenewables = length draft.budgets; modes = all_modes draft.jobs } →
    AreFirstPlaces draft.jobs firsts → AreSuccessorSets draft.jobs after → AreTurned after before →
    Agrees (project_in table.modes firsts after draft.capacities draft.budgets draft.calendar) table firsts after before
agrees-in draft table firsts after before w e f s t =
    subst (λ (P : Project). Agrees P table firsts after before) (sym (in-of draft table firsts after e f s))
    (subst (λ (m : ModeList). Agrees (project_of draft) m firsts after before) (sym e) (agrees-of draft firsts after before w f s t))
