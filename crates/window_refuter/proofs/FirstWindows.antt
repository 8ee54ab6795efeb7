-- The first windows for an end.
use Rattle.std.proofs.Common.{◌≡◌, ℕ, ◌-◌, ◌≤◌, inl, inr, arith, ap, ◌∙◌, List, length, take}
use Rattle.std.specs.Prelude.{replicate}
use Rattle.std.proofs.lemmas.Bool.{cases_lt}
use Rattle.std.proofs.lemmas.List.{get_or-replicate, length-replicate, get_or_past, take-replicate}
use Rattle.std.proofs.lemmas.List.Elements.{All-replicate}
use Rattle.rcpsp_model.specs.Project.{Project, job_count, IsJob}
use Rattle.window_refuter.specs.declared.window.Window.{Window}
use Rattle.window_refuter.specs.Windows.{window_of, no_window, es_of, lf_of, first_windows, AreWithin}

abbrev first_list : Project → ℕ → List Window
first_list P T = replicate (job_count P) (record { earliest_start = 0; latest_finish = T })

pub first-es : (P : Project) (T j : ℕ) → es_of (first_windows P T) j ≡ 0
unfolding first_windows window_of
first-es P T j = elim (cases_lt (j - 1) (job_count P)) [
  | inl within ↦ ap (λ (w : Window). w.earliest_start) (get_or-replicate (job_count P) (j - 1) (record { earliest_start = 0; latest_finish = T }) no_window within)
  | inr past ↦ ap (λ (w : Window). w.earliest_start) (get_or_past (first_list P T) (j - 1) no_window (let size : length (first_list P T) ≡ job_count P = length-replicate (job_count P) (record { earliest_start = 0; latest_finish = T }) in omega arith))
]

pub first-lf : (P : Project) (T j : ℕ) → IsJob P j → lf_of (first_windows P T) j ≡ T
unfolding first_windows window_of
first-lf P T j job = ap (λ (w : Window). w.latest_finish) (get_or-replicate (job_count P) (j - 1) (record { earliest_start = 0; latest_finish = T }) no_window (let low = job.0 in let high = job.1 in omega arith))

pub first-size : (P : Project) (T : ℕ) → length (first_windows P T) ≡ job_count P
unfolding first_windows
first-size P T = length-replicate (job_count P) (record { earliest_start = 0; latest_finish = T })

pub first-within : (P : Project) (T : ℕ) → AreWithin T (first_windows P T)
unfolding first_windows
first-within P T = record {
  starts = All-replicate (λ (w : Window). w.earliest_start ≤ 1290000) (job_count P) (record { earliest_start = 0; latest_finish = T }) (omega arith);
  finishes = All-replicate (λ (w : Window). w.latest_finish ≤ T) (job_count P) (record { earliest_start = 0; latest_finish = T }) (omega arith);
}

-- the first of many equal windows
pub first-taken : (P : Project) (T n : ℕ) (all : List Window) → n ≡ job_count P → n ≤ 128 → all ≡ replicate 128 (record { earliest_start = 0; latest_finish = T }) → take n all ≡ first_windows P T
unfolding first_windows
first-taken P T n all jobs few same =
    ap (take n) same ∙ take-replicate n 128 (record { earliest_start = 0; latest_finish = T }) few ∙ ap (λ (m : ℕ). replicate m (record { earliest_start = 0; latest_finish = T })) jobs
