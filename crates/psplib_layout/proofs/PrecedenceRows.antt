-- The numbers that the rows of a precedence part are.
use Rattle.std.proofs.Common.{◌≡◌, ℕ, zero, suc, ◌+◌, ◌-◌, ◌≤◌, List, [], ◌∷◌, ◌++◌, length, refl, ap, subst, ◌∙◌, arith}
use Rattle.std.specs.List.{AllByRecursion}
use Rattle.std.proofs.lemmas.List.{append-nil}
use Rattle.std.proofs.lemmas.List.Sums.{sum_by-cons}
use Rattle.psplib_layout.specs.Rule.{Keeps}
use Rattle.psplib_layout.specs.Wanted.{give, times, Stands, ◌>>=◌}
use Rattle.psplib_layout.specs.Precedence.{JobRow, successor, job_row, job_rows, row_numbers, rows_numbers, mode_total, IsJob, IsRow}
use Rattle.psplib_layout.proofs.Stand.{Stands-parts, Stands-both, given, times_found, times_again}

pub record RowFound (jobs job room : ℕ) (numbers : List ℕ) (row : JobRow) : Type 0 where
  pub same : numbers ≡ row_numbers job row
  pub limits : IsRow jobs row
  pub room_for : row.modes ≤ room

jobs_of : (jobs : ℕ) (xs : List ℕ) → AllByRecursion (Keeps (successor jobs)) xs → AllByRecursion (IsJob jobs) xs
jobs_of jobs [] h = tt
jobs_of jobs (x ∷ xs) h = (h.0, jobs_of jobs xs h.1)

of_jobs : (jobs : ℕ) (xs : List ℕ) → AllByRecursion (IsJob jobs) xs → AllByRecursion (Keeps (successor jobs)) xs
of_jobs jobs [] h = tt
of_jobs jobs (x ∷ xs) h = (h.0, of_jobs jobs xs h.1)

row_is : (a job m k : ℕ) (ns v : List ℕ) → a ≡ job → ns ≡ v → length v ≡ k → a ∷ m ∷ k ∷ ns ≡ job ∷ m ∷ length v ∷ v
row_is a job m k ns v e f g = rw (e, f, g) refl

pub mode_total-cons : (row : JobRow) (rows : List JobRow) → mode_total (row ∷ rows) ≡ row.modes + mode_total rows
mode_total-cons row rows = sum_by-cons (λ r. r.modes) row rows

pub row_found : (jobs job room : ℕ) (numbers : List ℕ) (row : JobRow) → Stands (job_row jobs job room) numbers row → RowFound jobs job room numbers row
unfolding job_row
row_found jobs job room [] row h = absurd h
row_found jobs job room (a ∷ []) row h = absurd h.1
row_found jobs job room (a ∷ m ∷ []) row h = absurd h.1.1
row_found jobs job room (a ∷ m ∷ k ∷ ns) row h =
    let b = Stands-parts (times k (successor jobs)) (λ ss. give (record { modes = m; successors = ss })) ns row h.1.1.1 in
    let t = times_found k (successor jobs) b.front b.value b.first in
    let g = given (record { modes = m; successors = b.value }) b.back row b.second in
    let first : a ≡ job = omega arith in
    let rest : ns ≡ b.value = b.numbers_are ∙ ap (λ (ys : List ℕ). b.front ++ ys) g.0 ∙ append-nil b.front ∙ t.same in
    let whole : a ∷ m ∷ k ∷ ns ≡ row_numbers job (record { modes = m; successors = b.value }) = row_is a job m k ns b.value first rest t.count in
    let limits : IsRow jobs (record { modes = m; successors = b.value }) = record { some_mode = omega arith; few_modes = omega arith; few_successors = omega (arith, t.count); successors = jobs_of jobs b.value t.each } in
    let room_for : m ≤ room = omega arith in
    subst (RowFound jobs job room (a ∷ m ∷ k ∷ ns)) g.1 (record { same = whole; limits = limits; room_for = room_for })

pub row_again : (jobs job room : ℕ) (row : JobRow) → IsRow jobs row → row.modes ≤ room → Stands (job_row jobs job room) (row_numbers job row) row
unfolding job_row
row_again jobs job room row h k =
    let s = row.successors in
    let more : JobRow → JobRow = λ r. r in
    let t : Stands (times (length s) (successor jobs) >>= λ ss. give (record { modes = row.modes; successors = ss })) (s ++ []) row =
    Stands-both (times (length s) (successor jobs)) (λ ss. give (record { modes = row.modes; successors = ss })) s [] s row (times_again (length s) (successor jobs) s refl (of_jobs jobs s h.successors)) refl in
    (omega arith, (omega (arith, h.some_mode, h.few_modes), (omega (arith, h.few_successors), rw append-nil at t)))

-- ---- the rows

pub record RowsFound (left jobs job room : ℕ) (numbers : List ℕ) (rows : List JobRow) : Type 0 where
  pub same : numbers ≡ rows_numbers job rows
  pub count : length rows ≡ left
  pub each : AllByRecursion (IsRow jobs) rows
  pub modes : mode_total rows ≤ room

pub rows_found : (left jobs job room : ℕ) (numbers : List ℕ) (rows : List JobRow) → Stands (job_rows left jobs job room) numbers rows → RowsFound left jobs job room numbers rows
unfolding job_rows
rows_found zero jobs job room numbers rows h =
    let g = given [] numbers rows h in
    subst (RowsFound 0 jobs job room numbers) g.1 (record { same = g.0; count = refl; each = tt; modes = omega arith })
rows_found (suc left) jobs job room numbers rows h =
    let b = Stands-parts (job_row jobs job room) (λ r. job_rows left jobs (job + 1) (room - r.modes) >>= λ rs. give (r ∷ rs)) numbers rows h in
    let c = Stands-parts (job_rows left jobs (job + 1) (room - b.value.modes)) (λ rs. give (b.value ∷ rs)) b.back rows b.second in
    let g = given (b.value ∷ c.value) c.back rows c.second in
    let one = row_found jobs job room b.front b.value b.first in
    let others = rows_found left jobs (job + 1) (room - b.value.modes) c.front c.value c.first in
    let back : b.back ≡ rows_numbers (job + 1) c.value = c.numbers_are ∙ ap (λ (ys : List ℕ). c.front ++ ys) g.0 ∙ append-nil c.front ∙ others.same in
    let whole : numbers ≡ rows_numbers job (b.value ∷ c.value) = b.numbers_are ∙ ap (λ (xs : List ℕ). xs ++ b.back) one.same ∙ ap (λ (ys : List ℕ). row_numbers job b.value ++ ys) back in
    subst (RowsFound (suc left) jobs job room numbers) g.1 (record { same = whole; count = ap suc others.count; each = (one.limits, others.each); modes = omega (arith, one.room_for, others.modes, mode_total-cons b.value c.value) })

pub rows_again : (left jobs job room : ℕ) (rows : List JobRow) → length rows ≡ left → AllByRecursion (IsRow jobs) rows → mode_total rows ≤ room → Stands (job_rows left jobs job room) (rows_numbers job rows) rows
unfolding job_rows
rows_again zero jobs job room [] c e m = refl
rows_again zero jobs job room (r ∷ rs) c e m = absurd cc
rows_again (suc left) jobs job room [] c e m = absurd cc
rows_again (suc left) jobs job room (r ∷ rs) c e m =
    let len : length rs ≡ left = omega arith in
    let total = mode_total-cons r rs in
    let one = row_again jobs job room r e.0 (omega arith) in
    let others = rows_again left jobs (job + 1) (room - r.modes) rs len e.1 (omega arith) in
    let tail : Stands (job_rows left jobs (job + 1) (room - r.modes) >>= λ ms. give (r ∷ ms)) (rows_numbers (job + 1) rs ++ []) (r ∷ rs) = Stands-both (job_rows left jobs (job + 1) (room - r.modes)) (λ ms. give (r ∷ ms)) (rows_numbers (job + 1) rs) [] rs (r ∷ rs) others refl in
    Stands-both (job_row jobs job room) (λ v. job_rows left jobs (job + 1) (room - v.modes) >>= λ ms. give (v ∷ ms)) (row_numbers job r) (rows_numbers (job + 1) rs) r (r ∷ rs) one (rw append-nil at tail)
