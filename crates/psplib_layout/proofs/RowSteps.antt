-- Reading the rows of jobs one by one.
use Rattle.std.proofs.Common.{◌≡◌, ℕ, suc, ◌-◌, ◌+◌, ◌≤◌, ◌<◌, List, ◌∷◌, Result, Ok, Err, refl, sym, ◌∙◌, arith}
use Rattle.psplib_lex.specs.Line.{Line}
use Rattle.psplib_layout.specs.declared.fault.Refusal.{Refusal}
use Rattle.psplib_layout.specs.Wanted as wanted
use Rattle.psplib_layout.specs.Wanted.{Wanted, give, number, times}
use Rattle.psplib_layout.specs.Reading.{◌>>=◌, number_in, read_wanted}
use Rattle.psplib_layout.specs.declared.fault.Fault.TheVariants.{WrongJobNumber}
use Rattle.psplib_layout.specs.Rule.{exactly, up_to}
use Rattle.psplib_layout.specs.Precedence.{JobRow, mode_count, successor, job_row, job_rows}
use Rattle.psplib_layout.proofs.Loops.{read_wanted->>=, with_front, with_none_more}

-- a row, once its successors are reached
pub row_ends : (end jobs job room first modes count : ℕ) (a b c d : List Line) → number_in end (exactly job WrongJobNumber) a ≡ Ok (first, b) → number_in end (mode_count room) b ≡ Ok (modes, c) → number_in end (up_to 128) c ≡ Ok (count, d)
    → read_wanted end (job_row jobs job room) a ≡ (read_wanted end (times count (successor jobs)) d >>= λ x. Ok (record { modes = modes; successors = x.0 }, x.1))
unfolding job_row
row_ends end jobs job room first modes count a b c d h k l =
    rw (h, k, l) (read_wanted->>= end (times count (successor jobs)) (λ ss. give (record { modes = modes; successors = ss })) d)

pub rows_next : (end left jobs job room : ℕ) (lines after : List Line) (row : JobRow) → read_wanted end (job_row jobs job room) lines ≡ Ok (row, after) → read_wanted end (job_rows (suc left) jobs job room) lines ≡ (read_wanted end (job_rows left jobs (job + 1) (room - row.modes)) after >>= λ x. Ok (row ∷ x.0, x.1))
unfolding job_rows
rows_next end left jobs job room lines after row h =
    read_wanted->>= end (job_row jobs job room) (λ r. wanted.◌>>=◌ (job_rows left jobs (job + 1) (room - r.modes)) (λ rs. give (r ∷ rs))) lines ∙ rw h (read_wanted->>= end (job_rows left jobs (job + 1) (room - row.modes)) (λ rs. give (row ∷ rs)) after)

pub rows_stop : (end left jobs job room : ℕ) (lines : List Line) (f : Refusal) → read_wanted end (job_row jobs job room) lines ≡ Err f → read_wanted end (job_rows (suc left) jobs job room) lines ≡ Err f
unfolding job_rows
rows_stop end left jobs job room lines f h =
    read_wanted->>= end (job_row jobs job room) (λ r. wanted.◌>>=◌ (job_rows left jobs (job + 1) (room - r.modes)) (λ rs. give (r ∷ rs))) lines ∙ rw h refl

pub rows_from : (end jobs i room : ℕ) (lines after : List Line) (row : JobRow) → i < jobs → read_wanted end (job_row jobs (i + 1) room) lines ≡ Ok (row, after) → read_wanted end (job_rows (jobs - i) jobs (i + 1) room) lines ≡ (read_wanted end (job_rows (jobs - (i + 1)) jobs (i + 1 + 1) (room - row.modes)) after >>= λ x. Ok (row ∷ x.0, x.1))
rows_from end jobs i room lines after row lt h =
    let k : jobs - i ≡ suc (jobs - (i + 1)) = omega arith in
    rw k (rows_next end (jobs - (i + 1)) jobs (i + 1) room lines after row h)

pub rows_from_stop : (end jobs i room : ℕ) (lines : List Line) (f : Refusal) → i < jobs → read_wanted end (job_row jobs (i + 1) room) lines ≡ Err f → read_wanted end (job_rows (jobs - i) jobs (i + 1) room) lines ≡ Err f
rows_from_stop end jobs i room lines f lt h =
    let k : jobs - i ≡ suc (jobs - (i + 1)) = omega arith in
    rw k (rows_stop end (jobs - (i + 1)) jobs (i + 1) room lines f h)

pub rows_done : (end jobs i room : ℕ) (front : List JobRow) (lines : List Line) (total : Result (List JobRow × List Line) Refusal) → jobs ≤ i → with_front front (read_wanted end (job_rows (jobs - i) jobs (i + 1) room) lines) ≡ total → total ≡ Ok (front, lines)
unfolding job_rows
rows_done end jobs i room front lines total le so_far =
    let k : jobs - i ≡ 0 = omega arith in
    sym so_far ∙ rw k (with_none_more front lines)
