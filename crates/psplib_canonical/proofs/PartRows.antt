-- The rows of the precedence, requests and calendar parts are lines of the numbers that these parts are to spell.
use Rattle.std.proofs.Common.{◌≡◌, ℕ, suc, ◌+◌, ◌-◌, ◌^◌, ◌≤◌, ◌<◌, Bool, cond, List, [], ◌∷◌, ◌++◌, length, map, get_or, refl, sym, ap, subst, ◌∙◌, arith, append_assoc, length-append}
use Rattle.std.specs.Prelude.{All, sum_by, slice_index, decimal}
use Rattle.std.proofs.lemmas.List.{length-map}
use Rattle.std.proofs.lemmas.List.Sums.{sum_by-cons}
use Rattle.project_net.proofs.Appended.{length-numbers}
use Rattle.std.specs.List.{AllByRecursion}
use Rattle.std.proofs.lemmas.Bool.{ne_eqb}
use Rattle.std.proofs.lemmas.List.Elements.{All-head, All-tail, recursion_from_All}
use Rattle.rcpsp_model.specs.Project.{Project, Activity, IsActivityWithinLimits, IsModeWithinLimits, IsRowWithinLimits, IsWithinLimits, no_activity, no_mode, job_count, jobs, modes_of, mode_of, successors_of, numbers_from}
use Rattle.rcpsp_model.specs.declared.parts.CalRow.{CalRow}
use Rattle.rcpsp_model.specs.declared.parts.Mode.{Mode}
use Rattle.project_net.specs.Canonical.{row, precedence_row, mode_numbers, mode_row, mode_lines, all_mode_lines, calendar_row}
use Rattle.psplib_layout.specs.Precedence.{row_numbers, rows_numbers}
use Rattle.psplib_layout.specs.Requests.{modes_numbers, all_modes_numbers}
use Rattle.psplib_layout.specs.Calendar.{cal_row_numbers, cal_rows_numbers, calendar_numbers}
use Rattle.psplib_canonical.proofs.Rows.{IsSmall, IsRow, AreLines, no_lines, row_line, lines_behind, small-append}
use Rattle.psplib_canonical.proofs.ContentOf.{row_of, rows_of, modes_of_all, few_successors}

get_or-at : {X : Type 0} (before : List X) (x : X) (after : List X) (i : ℕ) (d : X) → i ≡ length before + 1 → get_or (before ++ x ∷ after) (i - 1) d ≡ x
get_or-at [] x after i d e = let z : i - 1 ≡ 0 = omega arith in ap (λ (k : ℕ). get_or (x ∷ after) k d) z
get_or-at {X} (y ∷ before) x after i d e =
    let size : length (y ∷ before) ≡ suc (length before) = refl in
    let z : i - 1 ≡ suc (i - 1 - 1) = omega arith in
    ap (λ (k : ℕ). get_or (y ∷ (before ++ x ∷ after)) k d) z ∙ get_or-at before x after (i - 1) d (omega arith)

pub small_all : (m : ℕ) (xs : List ℕ) → m < 2 ^ 64 → AllByRecursion (λ x. x ≤ m) xs → AllByRecursion IsSmall xs
small_all m [] h k = tt
small_all m (x ∷ xs) h k = (let low = k.0 in omega arith, small_all m xs h k.1)

module _ (P : Project) (limits : IsWithinLimits P) where
  abbrev IsWithin : Activity → Type 0
  IsWithin a = IsActivityWithinLimits (length P.activities) (length P.capacities) (length P.budgets) a

  few_jobs : length P.activities ≤ 128
  unfolding job_count
  few_jobs = limits.few_jobs

  jobs_small : (xs : List ℕ) → AllByRecursion (λ s. (1 ≤ s) × (s ≤ length P.activities)) xs → AllByRecursion IsSmall xs
  jobs_small [] h = tt
  jobs_small (x ∷ xs) h = (let k = h.0.1 in let few = few_jobs in omega arith, jobs_small xs h.1)

  -- ---- the precedence part

  row_of_job : (job : ℕ) (a : Activity) → job ≤ 128 → IsWithin a → IsRow (row_numbers job (row_of a))
  row_of_job job a low w =
      let count = few_successors (length P.activities) (length P.capacities) (length P.budgets) a w in
      let few = few_jobs in
      let modes = w.few_modes in
      let size : length (row_numbers job (row_of a)) ≡ suc (suc (suc (length a.successors))) = refl in
      record {
        some = omega arith;
        few = omega arith;
        small = (omega arith, (omega arith, (omega arith, jobs_small a.successors (recursion_from_All (λ (s : ℕ). (1 ≤ s) × (s ≤ length P.activities)) a.successors w.successors))));
      }

  -- what a job's row is
  job_row : (before : List Activity) (a : Activity) (after : List Activity) (job : ℕ) → P.activities ≡ before ++ a ∷ after → job ≡ length before + 1 → precedence_row P job ≡ row_numbers job (row_of a)
  unfolding modes_of successors_of
  job_row before a after job e i =
      let here : get_or P.activities (job - 1) no_activity ≡ a = ap (λ (acts : List Activity). get_or acts (job - 1) no_activity) e ∙ get_or-at before a after job no_activity i in
      ap (λ (b : Activity). job ∷ length b.modes ∷ length b.successors ∷ b.successors) here

  precedence-from : (before acts : List Activity) (job : ℕ) → P.activities ≡ before ++ acts → job ≡ length before + 1 → job + length acts ≤ 129 → All IsWithin acts →
      AreLines (map (λ j. row (precedence_row P j)) (numbers_from job (length acts))) (rows_numbers job (rows_of acts))
  precedence-from before [] job e i few w = no_lines
  precedence-from before (a ∷ acts) job e i few w =
      let size : length (a ∷ acts) ≡ suc (length acts) = refl in
      let longer : length (before ++ a ∷ []) ≡ length before + 1 = length-append before (a ∷ []) in
      let here = All-head IsWithin a acts w in
      let later = precedence-from (before ++ a ∷ []) acts (job + 1) (e ∙ sym (append_assoc before (a ∷ []) acts)) (omega arith) (omega arith) (All-tail IsWithin a acts w) in
      let is : precedence_row P job ≡ row_numbers job (row_of a) = job_row before a acts job e i in
      subst (λ (ns : List ℕ). AreLines (row ns ∷ map (λ j. row (precedence_row P j)) (numbers_from (job + 1) (length acts))) (row_numbers job (row_of a) ++ rows_numbers (job + 1) (rows_of acts))) (sym is)
      (row_line (row_numbers job (row_of a)) (map (λ j. row (precedence_row P j)) (numbers_from (job + 1) (length acts))) (rows_numbers (job + 1) (rows_of acts)) (row_of_job job a (omega arith) here) later)

  pub precedence_rows : AreLines (map (λ j. row (precedence_row P j)) (jobs P)) (rows_numbers 1 (rows_of P.activities))
  unfolding job_count
  precedence_rows = let few = few_jobs in precedence-from [] P.activities 1 refl refl (omega arith) limits.activities

  -- ---- the requests part

  abbrev IsModeWithin : Mode → Type 0
  IsModeWithin m = IsModeWithinLimits (length P.capacities) (length P.budgets) m

  amounts_small : (xs : List ℕ) → All (λ r. r ≤ 1000000) xs → AllByRecursion IsSmall xs
  amounts_small xs h = small_all 1000000 xs (omega arith) (recursion_from_All (λ (r : ℕ). r ≤ 1000000) xs h)

  row_of_mode : (m : ℕ) (mode : Mode) → m ≤ 16 → IsModeWithin mode → IsRow (mode_numbers m mode)
  row_of_mode m mode low w =
      let R = limits.few_renewables in let N = limits.few_nonrenewables in
      let r = w.all_requests in let n = w.all_needs in
      let duration = w.duration in
      let both : length (mode.requests ++ mode.needs) ≡ length mode.requests + length mode.needs = length-append mode.requests mode.needs in
      let size : length (mode_numbers m mode) ≡ suc (suc (length (mode.requests ++ mode.needs))) = refl in
      record {
        some = omega arith;
        few = omega arith;
        small = (omega arith, (omega arith, small-append mode.requests mode.needs (amounts_small mode.requests w.requests) (amounts_small mode.needs w.needs)));
      }

  -- with the job's number before it
  first_row : (job : ℕ) (mode : Mode) → job ≤ 128 → IsModeWithin mode → IsRow (job ∷ mode_numbers 1 mode)
  first_row job mode low w =
      let R = limits.few_renewables in let N = limits.few_nonrenewables in
      let r = w.all_requests in let n = w.all_needs in
      let k = row_of_mode 1 mode (omega arith) w in
      let both : length (mode.requests ++ mode.needs) ≡ length mode.requests + length mode.needs = length-append mode.requests mode.needs in
      let size : length (job ∷ mode_numbers 1 mode) ≡ suc (suc (suc (length (mode.requests ++ mode.needs)))) = refl in
      record { some = omega arith; few = omega arith; small = (omega arith, k.small) }

  module _ (job : ℕ) where
    mode_here : (before : List Mode) (mode : Mode) (after : List Mode) (m : ℕ) → modes_of P job ≡ before ++ mode ∷ after → m ≡ length before + 1 → mode_of P job m ≡ mode
    unfolding mode_of
    mode_here before mode after m e i = ap (λ (ms : List Mode). get_or ms (m - 1) no_mode) e ∙ get_or-at before mode after m no_mode i

    -- the rows of the modes behind the first
    modes-from : (before ms : List Mode) (m : ℕ) → modes_of P job ≡ before ++ ms → m ≡ length before + 1 → 2 ≤ m → m + length ms ≤ 17 → All IsModeWithin ms →
        AreLines (map (λ k. row (mode_row P job k)) (numbers_from m (length ms))) (modes_numbers m ms)
    modes-from before [] m e i low few w = no_lines
    modes-from before (mode ∷ ms) m e i low few w =
        let size : length (mode ∷ ms) ≡ suc (length ms) = refl in
        let longer : length (before ++ mode ∷ []) ≡ length before + 1 = length-append before (mode ∷ []) in
        let here = All-head IsModeWithin mode ms w in
        let later = modes-from (before ++ mode ∷ []) ms (m + 1) (e ∙ sym (append_assoc before (mode ∷ []) ms)) (omega arith) (omega arith) (omega arith) (All-tail IsModeWithin mode ms w) in
        let is : mode_row P job m ≡ mode_numbers m mode =
        ap (λ (b : Bool). cond b (job ∷ mode_numbers m (mode_of P job m)) (mode_numbers m (mode_of P job m))) (ne_eqb m 1 (λ f. omega arith))
        ∙ ap (mode_numbers m) (mode_here before mode ms m e i) in
        subst (λ (ns : List ℕ). AreLines (row ns ∷ map (λ k. row (mode_row P job k)) (numbers_from (m + 1) (length ms))) (mode_numbers m mode ++ modes_numbers (m + 1) ms)) (sym is)
        (row_line (mode_numbers m mode) (map (λ k. row (mode_row P job k)) (numbers_from (m + 1) (length ms))) (modes_numbers (m + 1) ms) (row_of_mode m mode (omega arith) here) later)

    modes-all : (ms : List Mode) → modes_of P job ≡ ms → job ≤ 128 → 1 ≤ length ms → length ms ≤ 16 → All IsModeWithin ms →
        AreLines (map (λ k. row (mode_row P job k)) (numbers_from 1 (length ms))) (job ∷ modes_numbers 1 ms)
    modes-all [] e low some few w = absurd (omega arith)
    modes-all (mode ∷ ms) e low some few w =
        let size : length (mode ∷ ms) ≡ suc (length ms) = refl in
        let here = All-head IsModeWithin mode ms w in
        let later = modes-from (mode ∷ []) ms 2 e refl (omega arith) (omega arith) (All-tail IsModeWithin mode ms w) in
        let is : mode_row P job 1 ≡ job ∷ mode_numbers 1 mode = ap (λ (k : Mode). job ∷ mode_numbers 1 k) (mode_here [] mode ms 1 e refl) in
        subst (λ (ns : List ℕ). AreLines (row ns ∷ map (λ k. row (mode_row P job k)) (numbers_from 2 (length ms))) (job ∷ (mode_numbers 1 mode ++ modes_numbers 2 ms))) (sym is)
        (row_line (job ∷ mode_numbers 1 mode) (map (λ k. row (mode_row P job k)) (numbers_from 2 (length ms))) (modes_numbers 2 ms) (first_row job mode low here) later)

  modes_here : (before : List Activity) (a : Activity) (after : List Activity) (job : ℕ) → P.activities ≡ before ++ a ∷ after → job ≡ length before + 1 → modes_of P job ≡ a.modes
  unfolding modes_of
  modes_here before a after job e i =
      ap (λ (b : Activity). b.modes) (ap (λ (acts : List Activity). get_or acts (job - 1) no_activity) e ∙ get_or-at before a after job no_activity i)

  job_modes : (before : List Activity) (a : Activity) (after : List Activity) (job : ℕ) → P.activities ≡ before ++ a ∷ after → job ≡ length before + 1 → job ≤ 128 → IsWithin a → AreLines (mode_lines P job) (job ∷ modes_numbers 1 a.modes)
  job_modes before a after job e i low w =
      let same = modes_here before a after job e i in
      subst (λ (k : ℕ). AreLines (map (λ m. row (mode_row P job m)) (numbers_from 1 k)) (job ∷ modes_numbers 1 a.modes)) (sym (ap (λ (ms : List Mode). length ms) same))
      (modes-all job a.modes same low w.some_mode w.few_modes w.modes)

  requests-from : (before acts : List Activity) (job : ℕ) → P.activities ≡ before ++ acts → job ≡ length before + 1 → job + length acts ≤ 129 → All IsWithin acts →
      AreLines (all_mode_lines P (numbers_from job (length acts))) (all_modes_numbers job (modes_of_all acts))
  requests-from before [] job e i few w = no_lines
  requests-from before (a ∷ acts) job e i few w =
      let size : length (a ∷ acts) ≡ suc (length acts) = refl in
      let longer : length (before ++ a ∷ []) ≡ length before + 1 = length-append before (a ∷ []) in
      lines_behind (mode_lines P job) (all_mode_lines P (numbers_from (job + 1) (length acts))) (job ∷ modes_numbers 1 a.modes) (all_modes_numbers (job + 1) (modes_of_all acts))
      (job_modes before a acts job e i (omega arith) (All-head IsWithin a acts w))
      (requests-from (before ++ a ∷ []) acts (job + 1) (e ∙ sym (append_assoc before (a ∷ []) acts)) (omega arith) (omega arith) (All-tail IsWithin a acts w))

  pub requests_rows : AreLines (all_mode_lines P (jobs P)) (all_modes_numbers 1 (modes_of_all P.activities))
  unfolding job_count
  requests_rows = let few = few_jobs in requests-from [] P.activities 1 refl refl (omega arith) limits.activities

  -- as many lines as there are modes
  lines-count : (before acts : List Activity) (job : ℕ) → P.activities ≡ before ++ acts → job ≡ length before + 1 → length (all_mode_lines P (numbers_from job (length acts))) ≡ sum_by (λ a. length a.modes) acts
  lines-count before [] job e i = refl
  lines-count before (a ∷ acts) job e i =
      let longer : length (before ++ a ∷ []) ≡ length before + 1 = length-append before (a ∷ []) in
      let here : length (mode_lines P job) ≡ length a.modes =
      length-map (numbers_from 1 (length (modes_of P job))) (λ m. row (mode_row P job m)) ∙ length-numbers 1 (length (modes_of P job)) ∙ ap (λ (ms : List Mode). length ms) (modes_here before a acts job e i) in
      let later = lines-count (before ++ a ∷ []) acts (job + 1) (e ∙ sym (append_assoc before (a ∷ []) acts)) (omega arith) in
      let both = length-append (mode_lines P job) (all_mode_lines P (numbers_from (job + 1) (length acts))) in
      let sum = sum_by-cons (λ (b : Activity). length b.modes) a acts in
      omega arith

  pub modes-count : length (all_mode_lines P (jobs P)) ≡ sum_by (λ a. length a.modes) P.activities
  unfolding job_count
  modes-count = lines-count [] P.activities 1 refl refl

  -- ---- the calendar part

  row_of_calendar : (r : CalRow) → IsRowWithinLimits P.capacities r → IsRow (cal_row_numbers r)
  row_of_calendar r w =
      let R = limits.few_renewables in
      let some = w.some_resource in let few = w.few_resources in
      let period = w.some_period in let until = w.until in
      let capacity = w.capacity in
      let most : slice_index P.capacities (r.resource - 1) ≤ 1000000 = limits.capacities (r.resource - 1) 0 (omega arith) in
      record { some = omega arith; few = omega arith; small = (omega arith, (omega arith, (omega arith, (omega arith, tt)))) }

  rows_of_calendar : (rows : List CalRow) → All (IsRowWithinLimits P.capacities) rows → AreLines (map (λ r. row (calendar_row r)) rows) (cal_rows_numbers rows)
  rows_of_calendar [] w = no_lines
  rows_of_calendar (r ∷ rows) w =
      row_line (cal_row_numbers r) (map (λ q. row (calendar_row q)) rows) (cal_rows_numbers rows)
      (row_of_calendar r (All-head (IsRowWithinLimits P.capacities) r rows w)) (rows_of_calendar rows (All-tail (IsRowWithinLimits P.capacities) r rows w))

  -- the number of rows, and the rows
  pub calendar_rows : AreLines (decimal (length P.calendar) ∷ map (λ r. row (calendar_row r)) P.calendar) (calendar_numbers P.calendar)
  calendar_rows =
      let few = limits.few_rows in
      row_line (length P.calendar ∷ []) (map (λ r. row (calendar_row r)) P.calendar) (cal_rows_numbers P.calendar)
      (record { some = omega arith; few = omega arith; small = (omega arith, tt) }) (rows_of_calendar P.calendar limits.rows)
