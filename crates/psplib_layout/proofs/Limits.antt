-- A content is within the limits, and so is the project that it describes.
use Rattle.std.proofs.Common.{◌≡◌, ℕ, zero, suc, ◌+◌, ◌≤◌, ◌==◌, Bool, true, false, cond, List, [], ◌∷◌, length, map, filter, sum_by, All, Result, Ok, Err, refl, sym, ap, subst, ◌∙◌, arith}
use Rattle.std.specs.Prelude.{IfOk}
use Rattle.std.specs.List.{AllByRecursion, list_any}
use Rattle.std.proofs.lemmas.List.Elements.{All-from_recursion, All-weaker}
use Rattle.std.proofs.lemmas.List.Sums.{sum_by-cons}
use Rattle.psplib_lex.specs.Line.{Line, lines_of}
use Rattle.rcpsp_model.specs.declared.parts.Mode.{Mode}
use Rattle.rcpsp_model.specs.Project.{Activity, IsAscending, IsActivityWithinLimits, IsModeWithinLimits, IsRowWithinLimits, IsWithinLimits, numbers_from, job_count}
use Rattle.psplib_layout.specs.declared.fault.ReadError.{ReadError}
use Rattle.psplib_layout.specs.Place.{Gives}
use Rattle.psplib_layout.specs.Precedence.{JobRow, IsRow, mode_total}
use Rattle.psplib_layout.specs.Layout.{Content, ReadsLayout, IsWithinContentLimits, mode_counts, ascending, activities_of, project_of, layout_in}
use Rattle.psplib_layout.specs.Text.{HasContent, content_in}
use Rattle.psplib_layout.proofs.PartsRead.{layout_found}
use Rattle.psplib_layout.proofs.OneContent.{content_found}

pub limits_of : (lines : List Line) (content : Content) → ReadsLayout lines content → IsWithinContentLimits content
limits_of lines content h = record {
  some_job = h.header.some_job;
  few_jobs = h.header.few_jobs;
  few_renewables = h.header.few_renewables;
  few_nonrenewables = h.header.few_nonrenewables;
  rows = h.precedence.limits;
  modes = h.requests.limits;
  amounts = h.availabilities.limits;
  calendar = h.calendar.limits;
}

pub read_limits : (end : ℕ) (lines : List Line) (r : Result Content ReadError) → Gives (λ x. x) r (layout_in end lines) → IfOk r IsWithinContentLimits
read_limits end lines (Ok content) g = limits_of lines content (layout_found end lines content g)
read_limits end lines (Err e) g = tt

pub text_found : (text : List ℕ) (r : Result Content ReadError) → Gives (λ x. x) r (content_in text) → IfOk r (HasContent text)
text_found text (Ok content) g = content_found text content g
text_found text (Err e) g = tt

pub text_limits : (text : List ℕ) (r : Result Content ReadError) → Gives (λ x. x) r (content_in text) → IfOk r IsWithinContentLimits
text_limits text (Ok content) g = limits_of (lines_of text) content (content_found text content g).layout
text_limits text (Err e) g = tt

-- ---- successors in ascending order

abbrev IsFrom : ℕ → ℕ → ℕ → Type 0
IsFrom low high n = (low ≤ n) × (n ≤ high)

cons_ascending : (i high : ℕ) (xs : List ℕ) → AllByRecursion (IsFrom (i + 1) high) xs → IsAscending xs → IsAscending (i ∷ xs)
cons_ascending i high [] h a = tt
cons_ascending i high (x ∷ xs) h a = (omega arith, a)

wider : (low high : ℕ) (xs : List ℕ) → AllByRecursion (IsFrom (low + 1) high) xs → AllByRecursion (IsFrom low high) xs
wider low high [] h = tt
wider low high (x ∷ xs) h = ((omega arith, h.0.1), wider low high xs h.1)

record Ascends (low high : ℕ) (xs : List ℕ) : Type 0 where
  ascending_is : IsAscending xs
  within : AllByRecursion (IsFrom low high) xs

filter_ascends : (p : ℕ → Bool) (i n high : ℕ) → i + n ≤ high + 1 → Ascends i high (filter p (numbers_from i n))
filter_ascends p i zero high h = record { ascending_is = tt; within = tt }
filter_ascends p i (suc n) high h = go (p i) (filter_ascends p (i + 1) n high (omega arith))
  where
    go : (b : Bool) → Ascends (i + 1) high (filter p (numbers_from (i + 1) n)) → Ascends i high (cond b (i ∷ filter p (numbers_from (i + 1) n)) (filter p (numbers_from (i + 1) n)))
    go true a = record { ascending_is = cons_ascending i high _ a.within a.ascending_is; within = ((omega arith, omega arith), wider i high _ a.within) }
    go false a = record { ascending_is = a.ascending_is; within = wider i high _ a.within }

-- ---- the jobs of the project

length-activities_of : (jobs : ℕ) (rows : List JobRow) (modes : List (List Mode)) → map (λ ms. length ms) modes ≡ mode_counts rows → length (activities_of jobs rows modes) ≡ length rows
length-activities_of jobs [] modes e = refl
length-activities_of jobs (row ∷ rows) [] e = absurd cc
length-activities_of jobs (row ∷ rows) (ms ∷ more) e = let later : map (λ ns. length ns) more ≡ mode_counts rows = cc in ap suc (length-activities_of jobs rows more later)

total_modes : (jobs : ℕ) (rows : List JobRow) (modes : List (List Mode)) → map (λ ms. length ms) modes ≡ mode_counts rows → sum_by (λ a. length a.modes) (activities_of jobs rows modes) ≡ mode_total rows
total_modes jobs [] modes e = refl
total_modes jobs (row ∷ rows) [] e = absurd cc
total_modes jobs (row ∷ rows) (ms ∷ more) e =
    let first : length ms ≡ row.modes = cc in
    let later : map (λ ns. length ns) more ≡ mode_counts rows = cc in
    let a : Activity = record { modes = ms; successors = ascending jobs row.successors } in
    omega (arith, first, total_modes jobs rows more later, sum_by-cons (λ (b : Activity). length b.modes) a (activities_of jobs rows more), sum_by-cons (λ (r : JobRow). r.modes) row rows)

activity_limits : (jobs renewables nonrenewables : ℕ) (row : JobRow) (modes : List Mode) → length modes ≡ row.modes → IsRow jobs row → AllByRecursion (IsModeWithinLimits renewables nonrenewables) modes → IsActivityWithinLimits jobs renewables nonrenewables (record { modes = modes; successors = ascending jobs row.successors })
activity_limits jobs renewables nonrenewables row modes e limits each =
    let a = filter_ascends (λ job. list_any (λ s. s == job) row.successors) 1 jobs jobs (omega arith) in
    record {
      some_mode = omega (arith, limits.some_mode);
      few_modes = omega (arith, limits.few_modes);
      modes = All-from_recursion (IsModeWithinLimits renewables nonrenewables) modes each;
      ascending = a.ascending_is;
      successors = All-from_recursion (IsFrom 1 jobs) _ a.within;
    }

activities_limits : (jobs renewables nonrenewables : ℕ) (rows : List JobRow) (modes : List (List Mode)) → map (λ ms. length ms) modes ≡ mode_counts rows → AllByRecursion (IsRow jobs) rows → AllByRecursion (λ ms. AllByRecursion (IsModeWithinLimits renewables nonrenewables) ms) modes → AllByRecursion (IsActivityWithinLimits jobs renewables nonrenewables) (activities_of jobs rows modes)
activities_limits jobs renewables nonrenewables [] modes e rs ms = tt
activities_limits jobs renewables nonrenewables (row ∷ rows) [] e rs ms = absurd cc
activities_limits jobs renewables nonrenewables (row ∷ rows) (m ∷ more) e rs ms =
    let first : length m ≡ row.modes = cc in
    let later : map (λ ns. length ns) more ≡ mode_counts rows = cc in
    (activity_limits jobs renewables nonrenewables row m first rs.0 ms.0, activities_limits jobs renewables nonrenewables rows more later rs.1 ms.1)

pub project_limits : (content : Content) → IsWithinContentLimits content → IsWithinLimits (project_of content)
unfolding job_count
project_limits content h =
    let jobs = content.header.jobs in
    let activities = activities_of jobs content.rows content.modes in
    let count : length activities ≡ jobs = length-activities_of jobs content.rows content.modes h.modes.counts_are ∙ h.rows.count in
    let each = All-from_recursion (IsActivityWithinLimits jobs content.header.renewables content.header.nonrenewables) activities (activities_limits jobs content.header.renewables content.header.nonrenewables content.rows content.modes h.modes.counts_are h.rows.each h.modes.each) in
    record {
      some_job = omega (arith, count, h.some_job);
      few_jobs = omega (arith, count, h.few_jobs);
      few_modes = omega (arith, total_modes jobs content.rows content.modes h.modes.counts_are, h.rows.modes);
      few_renewables = omega (arith, h.amounts.all_capacities, h.few_renewables);
      few_nonrenewables = omega (arith, h.amounts.all_budgets, h.few_nonrenewables);
      activities = subst (λ (n : ℕ). All (IsActivityWithinLimits n (length content.amounts.capacities) (length content.amounts.budgets)) activities) (sym count) (rw (h.amounts.all_capacities, h.amounts.all_budgets) each);
      capacities = All-from_recursion (λ n. n ≤ 1000000) content.amounts.capacities h.amounts.capacities;
      budgets = All-from_recursion (λ n. n ≤ 1000000) content.amounts.budgets h.amounts.budgets;
      few_rows = h.calendar.few_rows;
      rows = All-from_recursion (IsRowWithinLimits content.amounts.capacities) content.calendar h.calendar.each;
      calendar = h.calendar.in_order;
    }

pub few_successors : (content : Content) → IsWithinContentLimits content → All (λ row. length row.successors ≤ 128) content.rows
few_successors content h =
    All-weaker (IsRow content.header.jobs) (λ (row : JobRow). length row.successors ≤ 128) (λ row limits. limits.few_successors) content.rows (All-from_recursion (IsRow content.header.jobs) content.rows h.rows.each)
