-- The content of a project's text, and that it describes the project.
use Rattle.std.proofs.Common.{◌≡◌, ℕ, zero, suc, ◌+◌, ◌≤◌, ◌<◌, List, [], ◌∷◌, length, map, filter, refl, sym, ap, ◌∙◌, arith, Bool, true, false, cond}
use Rattle.std.specs.Prelude.{All, sum_by}
use Rattle.std.specs.List.{AllByRecursion}
use Rattle.std.proofs.lemmas.List.Elements.{All-head, All-tail, All-weaker, recursion_from_All}
use Rattle.std.proofs.lemmas.List.Sums.{sum_by-cons}
use Rattle.rcpsp_model.specs.Project.{Project, Activity, IsActivityWithinLimits, IsModeWithinLimits, IsRowWithinLimits, IsWithinLimits, job_count, numbers_from}
use Rattle.rcpsp_model.specs.declared.parts.Mode.{Mode}
use Rattle.rcpsp_model.specs.Rank.{is_among}
use Rattle.project_net.proofs.Listed.{ascending-found}
use Rattle.psplib_layout.specs.declared.content.Header.{Header}
use Rattle.psplib_layout.specs.declared.content.JobRow.{JobRow}
use Rattle.psplib_layout.specs.declared.content.Amounts.{Amounts}
use Rattle.psplib_layout.specs.declared.content.Content.{Content}
use Rattle.psplib_layout.specs.Precedence.{IsRow, IsJob, AreRows, mode_total}
use Rattle.psplib_layout.specs.Requests.{AreModes}
use Rattle.psplib_layout.specs.Availabilities.{AreAmounts}
use Rattle.psplib_layout.specs.Calendar.{AreCalRows}
use Rattle.psplib_layout.specs.Layout.{mode_counts, ascending, activities_of, project_of}

abbrev pub row_of : Activity → JobRow
row_of a = record { modes = length a.modes; successors = a.successors }

abbrev pub header_of : Project → Header
header_of P = record { jobs = length P.activities; renewables = length P.capacities; nonrenewables = length P.budgets }

abbrev pub amounts_of : Project → Amounts
amounts_of P = record { capacities = P.capacities; budgets = P.budgets }

abbrev pub rows_of : List Activity → List JobRow
rows_of acts = map row_of acts

abbrev pub modes_of_all : List Activity → List (List Mode)
modes_of_all acts = map (λ a. a.modes) acts

abbrev pub content_of : Project → Content
content_of P = record { header = header_of P; rows = rows_of P.activities; modes = modes_of_all P.activities; amounts = amounts_of P; calendar = P.calendar }

abbrev IsWithin : ℕ → ℕ → ℕ → Activity → Type 0
IsWithin n R N a = IsActivityWithinLimits n R N a

-- ---- it describes the project

module _ (n R N : ℕ) where
  same_successors : (a : Activity) → IsWithin n R N a → ascending n a.successors ≡ a.successors
  same_successors a w =
      ascending-found a.successors 1 n w.ascending
      (All-weaker (λ (s : ℕ). (1 ≤ s) × (s ≤ n)) (λ (s : ℕ). 1 ≤ s) (λ s (b : (1 ≤ s) × (s ≤ n)). b.0) a.successors w.successors)
      (All-weaker (λ (s : ℕ). (1 ≤ s) × (s ≤ n)) (λ (s : ℕ). s < 1 + n) (λ s (b : (1 ≤ s) × (s ≤ n)). let h = b.1 in omega arith) a.successors w.successors)

  same_activities : (acts : List Activity) → All (IsWithin n R N) acts → activities_of n (rows_of acts) (modes_of_all acts) ≡ acts
  same_activities [] w = refl
  same_activities (a ∷ acts) w =
      ap (λ (ss : List ℕ). (let b : Activity = record { modes = a.modes; successors = ss } in b) ∷ activities_of n (rows_of acts) (modes_of_all acts)) (same_successors a (All-head (IsWithin n R N) a acts w))
      ∙ ap (λ (bs : List Activity). a ∷ bs) (same_activities acts (All-tail (IsWithin n R N) a acts w))

  -- ---- and keeps the limits

  length-filter : (p : ℕ → Bool) (a k : ℕ) → length (filter p (numbers_from a k)) ≤ k
  length-filter p a zero = omega arith
  length-filter p a (suc k) =
      let later = length-filter p (a + 1) k in
      let yes_ : length (a ∷ filter p (numbers_from (a + 1) k)) ≤ suc k = omega arith in
      let no_ : length (filter p (numbers_from (a + 1) k)) ≤ suc k = omega arith in
      elim (p a) as (λ b. length (cond b (a ∷ filter p (numbers_from (a + 1) k)) (filter p (numbers_from (a + 1) k))) ≤ suc k) [ true ↦ yes_ | false ↦ no_ ]

  pub few_successors : (a : Activity) → IsWithin n R N a → length a.successors ≤ n
  few_successors a w =
      let same : ascending n a.successors ≡ a.successors = same_successors a w in
      let few = length-filter (is_among a.successors) 1 n in
      let size : length (filter (is_among a.successors) (numbers_from 1 n)) ≡ length a.successors = ap (λ (xs : List ℕ). length xs) same in
      omega arith

  row_within : (a : Activity) → n ≤ 128 → IsWithin n R N a → IsRow n (row_of a)
  row_within a few w =
      let count = few_successors a w in
      record { some_mode = w.some_mode; few_modes = w.few_modes; few_successors = omega arith; successors = recursion_from_All (IsJob n) a.successors w.successors }

  rows_within : (acts : List Activity) → n ≤ 128 → All (IsWithin n R N) acts → AllByRecursion (IsRow n) (rows_of acts)
  rows_within [] few w = tt
  rows_within (a ∷ acts) few w = (row_within a few (All-head (IsWithin n R N) a acts w), rows_within acts few (All-tail (IsWithin n R N) a acts w))

  modes_within : (acts : List Activity) → All (IsWithin n R N) acts → AllByRecursion (λ ms. AllByRecursion (IsModeWithinLimits R N) ms) (modes_of_all acts)
  modes_within [] w = tt
  modes_within (a ∷ acts) w = (recursion_from_All (IsModeWithinLimits R N) a.modes (All-head (IsWithin n R N) a acts w).modes, modes_within acts (All-tail (IsWithin n R N) a acts w))

length-rows : (acts : List Activity) → length (rows_of acts) ≡ length acts
length-rows [] = refl
length-rows (a ∷ acts) = ap suc (length-rows acts)

total-rows : (acts : List Activity) → mode_total (rows_of acts) ≡ sum_by (λ a. length a.modes) acts
total-rows [] = refl
total-rows (a ∷ acts) =
    sum_by-cons (λ (r : JobRow). r.modes) (row_of a) (rows_of acts)
    ∙ ap (λ (k : ℕ). length a.modes + k) (total-rows acts)
    ∙ sym (sum_by-cons (λ (b : Activity). length b.modes) a acts)

same_counts : (acts : List Activity) → map (λ ms. length ms) (modes_of_all acts) ≡ mode_counts (rows_of acts)
same_counts [] = refl
same_counts (a ∷ acts) = ap (λ (ks : List ℕ). length a.modes ∷ ks) (same_counts acts)

-- the content describes the project
pub described : (P : Project) → IsWithinLimits P → project_of (content_of P) ≡ P
described P w =
    ap (λ (acts : List Activity). (let q : Project = record { activities = acts; capacities = P.capacities; budgets = P.budgets; calendar = P.calendar } in q))
    (same_activities (length P.activities) (length P.capacities) (length P.budgets) P.activities w.activities)

pub rows_limits : (P : Project) → IsWithinLimits P → AreRows (length P.activities) (rows_of P.activities)
unfolding job_count
rows_limits P w =
    let few : length P.activities ≤ 128 = w.few_jobs in
    let modes = w.few_modes in
    record {
      count = length-rows P.activities;
      each = rows_within (length P.activities) (length P.capacities) (length P.budgets) P.activities few w.activities;
      modes = let same = total-rows P.activities in omega arith;
    }

pub modes_limits : (P : Project) → IsWithinLimits P → AreModes (length P.capacities) (length P.budgets) (mode_counts (rows_of P.activities)) (modes_of_all P.activities)
modes_limits P w = record {
  counts_are = same_counts P.activities;
  each = modes_within (length P.activities) (length P.capacities) (length P.budgets) P.activities w.activities;
}

pub amounts_limits : (P : Project) → IsWithinLimits P → AreAmounts (length P.capacities) (length P.budgets) (amounts_of P)
amounts_limits P w = record {
  all_capacities = refl;
  all_budgets = refl;
  capacities = recursion_from_All (λ (c : ℕ). c ≤ 1000000) P.capacities w.capacities;
  budgets = recursion_from_All (λ (b : ℕ). b ≤ 1000000) P.budgets w.budgets;
}

pub calendar_limits : (P : Project) → IsWithinLimits P → AreCalRows P.capacities P.calendar
calendar_limits P w = record {
  few_rows = w.few_rows;
  each = recursion_from_All (IsRowWithinLimits P.capacities) P.calendar w.rows;
  in_order = w.calendar;
}
