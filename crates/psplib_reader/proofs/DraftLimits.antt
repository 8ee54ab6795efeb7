-- A content within the limits makes a draft within the limits, of the project that the content describes.
use Rattle.std.proofs.Common.{◌≡◌, ℕ, ◌-◌, ◌≤◌, inl, inr, List, [], ◌∷◌, length, map, sum_by, All, refl, sym, ap, subst, ◌∙◌, arith}
use Rattle.std.specs.List.{AllByRecursion}
use Rattle.std.proofs.lemmas.List.{length-map}
use Rattle.std.proofs.lemmas.List.Elements.{All-from_recursion}
use Rattle.std.proofs.lemmas.List.Sums.{sum_by-cons}
use Rattle.rcpsp_model.specs.declared.parts.Mode.{Mode}
use Rattle.rcpsp_model.specs.Project.{Activity, Project, IsModeWithinLimits, IsRowWithinLimits, job_count}
use Rattle.psplib_layout.specs.declared.content.Content.{Content}
use Rattle.psplib_layout.specs.declared.content.JobRow.{JobRow}
use Rattle.psplib_layout.specs.Precedence.{IsRow, mode_total, IsJob}
use Rattle.psplib_layout.specs.Layout.{IsWithinContentLimits, mode_counts, project_of as described}
use Rattle.project_net.specs.declared.draft.Draft.{Draft}
use Rattle.project_net.specs.declared.draft.DraftJob.{DraftJob}
use Rattle.project_net.specs.declared.draft.BuildRefusal.TheVariants.{OutOfLimit, SuccessorOutOfRange}
use Rattle.project_net.specs.Draft.{activity_of, project_of, no_job, IsJobWithinLimits, HasSuccessorsWithin, IsWithinLimits}
use Rattle.project_net.specs.Refusal.{IsRefusal}
use Rattle.psplib_reader.specs.Drafted.{drafted}
use Rattle.psplib_reader.proofs.DraftedJobs.{activities_same}

-- each job has as many modes as its row says
abbrev HaveCounts : List JobRow → List (List Mode) → Type 0
HaveCounts rows modes = map (λ ms. length ms) modes ≡ mode_counts rows

length-counts : (rows : List JobRow) (modes : List (List Mode)) → HaveCounts rows modes → length rows ≡ length modes
length-counts [] [] e = refl
length-counts [] (ms ∷ more) e = absurd cc
length-counts (row ∷ rows) [] e = absurd cc
length-counts (row ∷ rows) (ms ∷ more) e = let later : HaveCounts rows more = cc in let same = length-counts rows more later in omega arith

length-drafted : (rows : List JobRow) (modes : List (List Mode)) → HaveCounts rows modes → length (drafted rows modes) ≡ length rows
length-drafted [] modes e = refl
length-drafted (row ∷ rows) [] e = absurd cc
length-drafted (row ∷ rows) (ms ∷ more) e = let later : HaveCounts rows more = cc in let same = length-drafted rows more later in omega arith

total_modes : (rows : List JobRow) (modes : List (List Mode)) → HaveCounts rows modes → sum_by (λ job. length job.modes) (drafted rows modes) ≡ mode_total rows
total_modes [] modes e = refl
total_modes (row ∷ rows) [] e = absurd cc
total_modes (row ∷ rows) (ms ∷ more) e =
    let first : length ms ≡ row.modes = cc in
    let later : HaveCounts rows more = cc in
    let job : DraftJob = record { modes = ms; successors = row.successors } in
    omega (arith, first, total_modes rows more later, sum_by-cons (λ (j : DraftJob). length j.modes) job (drafted rows more), sum_by-cons (λ (r : JobRow). r.modes) row rows)

job_limits : (n renewables nonrenewables : ℕ) (rows : List JobRow) (modes : List (List Mode)) → HaveCounts rows modes → AllByRecursion (IsRow n) rows → AllByRecursion (λ ms. AllByRecursion (IsModeWithinLimits renewables nonrenewables) ms) modes → AllByRecursion (IsJobWithinLimits renewables nonrenewables) (drafted rows modes)
job_limits n renewables nonrenewables [] modes e rs ms = tt
job_limits n renewables nonrenewables (row ∷ rows) [] e rs ms = absurd cc
job_limits n renewables nonrenewables (row ∷ rows) (m ∷ more) e rs ms =
    let first : length m ≡ row.modes = cc in
    let later : HaveCounts rows more = cc in
    let limits = rs.0 in
    let some = limits.some_mode in
    let few = limits.few_modes in
    let here : IsJobWithinLimits renewables nonrenewables (record { modes = m; successors = row.successors }) = record {
      some_mode = omega arith;
      few_modes = omega arith;
      modes = All-from_recursion (IsModeWithinLimits renewables nonrenewables) m ms.0;
    } in
    (here, job_limits n renewables nonrenewables rows more later rs.1 ms.1)

successor_limits : (n : ℕ) (rows : List JobRow) (modes : List (List Mode)) → AllByRecursion (IsRow n) rows → AllByRecursion (HasSuccessorsWithin n) (drafted rows modes)
successor_limits n [] modes rs = tt
successor_limits n (row ∷ rows) [] rs = tt
successor_limits n (row ∷ rows) (m ∷ more) rs = (All-from_recursion (IsJob n) row.successors rs.0.successors, successor_limits n rows more rs.1)

-- ---- of a whole content

pub rows_and_modes : (content : Content) → IsWithinContentLimits content → length content.rows ≡ length content.modes
rows_and_modes content h = length-counts content.rows content.modes h.modes.counts_are

small_row : (n : ℕ) → n ≤ 128 → (row : JobRow) → IsRow n row → All (λ s. s ≤ 128) row.successors
small_row n few row limits = λ k d h. let within = All-from_recursion (IsJob n) row.successors limits.successors k d h in let high = within.1 in omega arith

small_rows : (n : ℕ) → n ≤ 128 → (rows : List JobRow) → AllByRecursion (IsRow n) rows → AllByRecursion (λ row. All (λ s. s ≤ 128) row.successors) rows
small_rows n few [] each = tt
small_rows n few (row ∷ rows) each = (small_row n few row each.0, small_rows n few rows each.1)

pub small_successors : (content : Content) → IsWithinContentLimits content → All (λ row. All (λ s. s ≤ 128) row.successors) content.rows
small_successors content h = All-from_recursion (λ (row : JobRow). All (λ s. s ≤ 128) row.successors) content.rows (small_rows content.header.jobs h.few_jobs content.rows h.rows.each)

abbrev pub draft_in : Content → Draft
draft_in content = record { jobs = drafted content.rows content.modes; capacities = content.amounts.capacities; budgets = content.amounts.budgets; calendar = content.calendar }

job_count_is : (content : Content) → IsWithinContentLimits content → length (drafted content.rows content.modes) ≡ content.header.jobs
job_count_is content h = length-drafted content.rows content.modes h.modes.counts_are ∙ h.rows.count

pub draft_is : (content : Content) (rows : List JobRow) (jobs : List DraftJob) → jobs ≡ drafted rows content.modes → rows ≡ content.rows → (let d : Draft = record { jobs = jobs; capacities = content.amounts.capacities; budgets = content.amounts.budgets; calendar = content.calendar } in d) ≡ draft_in content
draft_is content rows jobs e r =
    ap (λ (js : List DraftJob). (let d : Draft = record { jobs = js; capacities = content.amounts.capacities; budgets = content.amounts.budgets; calendar = content.calendar } in d)) (e ∙ ap (λ (rs : List JobRow). drafted rs content.modes) r)

pub project_is : (content : Content) → IsWithinContentLimits content → project_of (draft_in content) ≡ described content
project_is content h =
    let jobs = drafted content.rows content.modes in
    ap (λ (as' : List Activity). (let P : Project = record { activities = as'; capacities = content.amounts.capacities; budgets = content.amounts.budgets; calendar = content.calendar } in P))
    (ap (λ (n : ℕ). map (activity_of n) jobs) (job_count_is content h) ∙ activities_same content.header.jobs content.rows content.modes)

pub described_count : (content : Content) → IsWithinContentLimits content → job_count (described content) ≡ content.header.jobs
unfolding job_count
described_count content h =
    let n = content.header.jobs in
    let jobs = drafted content.rows content.modes in
    ap length (sym (activities_same n content.rows content.modes)) ∙ length-map jobs (activity_of n) ∙ job_count_is content h

pub limits_are : (content : Content) → IsWithinContentLimits content → IsWithinLimits (draft_in content)
limits_are content h =
    let n = content.header.jobs in
    let jobs = drafted content.rows content.modes in
    let count = job_count_is content h in
    let renewables = h.amounts.all_capacities in
    let nonrenewables = h.amounts.all_budgets in
    record {
      counts = record {
        some_job = omega (arith, count, h.some_job);
        few_jobs = omega (arith, count, h.few_jobs);
        few_modes = omega (arith, total_modes content.rows content.modes h.modes.counts_are, h.rows.modes);
        few_renewables = omega (arith, renewables, h.few_renewables);
        few_nonrenewables = omega (arith, nonrenewables, h.few_nonrenewables);
        capacities = All-from_recursion (λ (c : ℕ). c ≤ 1000000) content.amounts.capacities h.amounts.capacities;
        budgets = All-from_recursion (λ (b : ℕ). b ≤ 1000000) content.amounts.budgets h.amounts.budgets;
        few_rows = h.calendar.few_rows;
        rows = All-from_recursion (IsRowWithinLimits content.amounts.capacities) content.calendar h.calendar.each;
        calendar = h.calendar.in_order;
      };
      jobs =
          subst (λ (r : ℕ). All (IsJobWithinLimits r (length content.amounts.budgets)) jobs) (sym renewables)
          (subst (λ (r : ℕ). All (IsJobWithinLimits content.header.renewables r) jobs) (sym nonrenewables)
          (All-from_recursion (IsJobWithinLimits content.header.renewables content.header.nonrenewables) jobs
          (job_limits n content.header.renewables content.header.nonrenewables content.rows content.modes h.modes.counts_are h.rows.each h.modes.each)));
      successors =
          subst (λ (m : ℕ). All (HasSuccessorsWithin m) jobs) (sym count)
          (All-from_recursion (HasSuccessorsWithin n) jobs (successor_limits n content.rows content.modes h.rows.each));
    }

-- ---- what such a draft isn't refused for

pub no_number_refused : (draft : Draft) (j : ℕ) → IsWithinLimits draft → IsRefusal draft (OutOfLimit j) → ⊥
no_number_refused draft j w r =
    elim r [
      | inl whole ↦ whole.1 w.counts
      | inr job ↦ let low = job.low in let high = job.high in job.fault (w.jobs (j - 1) no_job (omega arith))
    ]

pub no_successor_refused : (draft : Draft) (j : ℕ) → IsWithinLimits draft → IsRefusal draft (SuccessorOutOfRange j) → ⊥
no_successor_refused draft j w r =
    let low = r.low in
    let high = r.high in
    r.fault.1 (w.successors (j - 1) no_job (omega arith))
