-- Reading the modes of a job one by one.
use Rattle.std.proofs.Common.{◌≡◌, ℕ, suc, ◌-◌, ◌+◌, ◌≤◌, ◌<◌, List, [], ◌∷◌, length, drop, get_or, Result, Ok, Err, sym, ap, ◌∙◌, arith}
use Rattle.std.proofs.lemmas.List.{drop_more}
use Rattle.psplib_lex.specs.Line.{Line}
use Rattle.psplib_layout.specs.declared.fault.Refusal.{Refusal}
use Rattle.psplib_layout.specs.Wanted as wanted
use Rattle.psplib_layout.specs.Wanted.{Wanted, give, number, times}
use Rattle.psplib_layout.specs.Reading.{◌>>=◌, number_in, read_wanted}
use Rattle.rcpsp_model.specs.declared.parts.Mode.{Mode}
use Rattle.psplib_layout.specs.declared.fault.Fault.TheVariants.{WrongModeNumber}
use Rattle.psplib_layout.specs.Rule.{exactly, up_to}
use Rattle.psplib_layout.specs.Requests.{mode_row, mode_rows, job_modes, all_modes}
use Rattle.psplib_layout.specs.Availabilities.{all_amounts}
use Rattle.psplib_layout.specs.Precedence.{JobRow}
use Rattle.psplib_layout.specs.Layout.{mode_counts}
use Rattle.psplib_layout.proofs.Loops.{read_wanted->>=, with_front, with_none_more, first_of, first_stops}

pub mode_row_ends : (end renewables nonrenewables mode first duration : ℕ) (requests : List ℕ) (a b c d : List Line) → number_in end (exactly mode WrongModeNumber) a ≡ Ok (first, b) → number_in end (up_to 10000) b ≡ Ok (duration, c) → read_wanted end (times renewables (up_to 1000000)) c ≡ Ok (requests, d)
    → read_wanted end (mode_row renewables nonrenewables mode) a ≡ (read_wanted end (times nonrenewables (up_to 1000000)) d >>= λ x. Ok (record { duration = duration; requests = requests; needs = x.0 }, x.1))
unfolding mode_row
mode_row_ends end renewables nonrenewables mode first duration requests a b c d h k l =
    rw (h, k) (read_wanted->>= end (times renewables (up_to 1000000)) (λ rs. wanted.◌>>=◌ (times nonrenewables (up_to 1000000)) (λ ns. give (record { duration = duration; requests = rs; needs = ns }))) c ∙ rw l (read_wanted->>= end (times nonrenewables (up_to 1000000)) (λ ns. give (record { duration = duration; requests = requests; needs = ns })) d))

pub mode_row_stops : (end renewables nonrenewables mode first duration : ℕ) (a b c : List Line) (f : Refusal) → number_in end (exactly mode WrongModeNumber) a ≡ Ok (first, b) → number_in end (up_to 10000) b ≡ Ok (duration, c) → read_wanted end (times renewables (up_to 1000000)) c ≡ Err f
    → read_wanted end (mode_row renewables nonrenewables mode) a ≡ Err f
unfolding mode_row
mode_row_stops end renewables nonrenewables mode first duration a b c f h k l =
    rw (h, k) (first_stops end (times renewables (up_to 1000000)) (λ rs. wanted.◌>>=◌ (times nonrenewables (up_to 1000000)) (λ ns. give (record { duration = duration; requests = rs; needs = ns }))) c f l)

pub modes_from : (end count i renewables nonrenewables : ℕ) (lines after : List Line) (row : Mode) → i < count → read_wanted end (mode_row renewables nonrenewables (i + 1)) lines ≡ Ok (row, after) → read_wanted end (mode_rows (count - i) renewables nonrenewables (i + 1)) lines ≡ (read_wanted end (mode_rows (count - (i + 1)) renewables nonrenewables (i + 1 + 1)) after >>= λ x. Ok (row ∷ x.0, x.1))
unfolding mode_rows
modes_from end count i renewables nonrenewables lines after row lt h =
    let k : count - i ≡ suc (count - (i + 1)) = omega arith in
    rw k (first_of end (mode_row renewables nonrenewables (i + 1)) (λ r. mode_rows (count - (i + 1)) renewables nonrenewables (i + 1 + 1)) lines after row h)

pub modes_from_stop : (end count i renewables nonrenewables : ℕ) (lines : List Line) (f : Refusal) → i < count → read_wanted end (mode_row renewables nonrenewables (i + 1)) lines ≡ Err f → read_wanted end (mode_rows (count - i) renewables nonrenewables (i + 1)) lines ≡ Err f
unfolding mode_rows
modes_from_stop end count i renewables nonrenewables lines f lt h =
    let k : count - i ≡ suc (count - (i + 1)) = omega arith in
    rw k (first_stops end (mode_row renewables nonrenewables (i + 1)) (λ r. wanted.◌>>=◌ (mode_rows (count - (i + 1)) renewables nonrenewables (i + 1 + 1)) (λ rs. give (r ∷ rs))) lines f h)

pub modes_done : (end count i renewables nonrenewables : ℕ) (front : List Mode) (lines : List Line) (total : Result (List Mode × List Line) Refusal) → count ≤ i → with_front front (read_wanted end (mode_rows (count - i) renewables nonrenewables (i + 1)) lines) ≡ total → total ≡ Ok (front, lines)
unfolding mode_rows
modes_done end count i renewables nonrenewables front lines total le so_far =
    let k : count - i ≡ 0 = omega arith in
    sym so_far ∙ rw k (with_none_more front lines)

-- the modes of a job, and then those of the jobs behind it
pub all_from : (end renewables nonrenewables job count : ℕ) (counts all : List ℕ) (lines after : List Line) (modes : List Mode) → all ≡ count ∷ counts → read_wanted end (job_modes renewables nonrenewables job count) lines ≡ Ok (modes, after) → read_wanted end (all_modes renewables nonrenewables job all) lines ≡ (read_wanted end (all_modes renewables nonrenewables (job + 1) counts) after >>= λ x. Ok (modes ∷ x.0, x.1))
unfolding all_modes
all_from end renewables nonrenewables job count counts all lines after modes e h =
    rw e (first_of end (job_modes renewables nonrenewables job count) (λ m. all_modes renewables nonrenewables (job + 1) counts) lines after modes h)

pub all_from_stop : (end renewables nonrenewables job count : ℕ) (counts all : List ℕ) (lines : List Line) (f : Refusal) → all ≡ count ∷ counts → read_wanted end (job_modes renewables nonrenewables job count) lines ≡ Err f → read_wanted end (all_modes renewables nonrenewables job all) lines ≡ Err f
unfolding all_modes
all_from_stop end renewables nonrenewables job count counts all lines f e h =
    rw e (first_stops end (job_modes renewables nonrenewables job count) (λ m. wanted.◌>>=◌ (all_modes renewables nonrenewables (job + 1) counts) (λ ms. give (m ∷ ms))) lines f h)

pub all_done : (end renewables nonrenewables job : ℕ) (all : List ℕ) (front : List (List Mode)) (lines : List Line) (total : Result (List (List Mode) × List Line) Refusal) → all ≡ [] → with_front front (read_wanted end (all_modes renewables nonrenewables job all) lines) ≡ total → total ≡ Ok (front, lines)
unfolding all_modes
all_done end renewables nonrenewables job all front lines total e so_far = sym so_far ∙ rw e (with_none_more front lines)

pub counts_from : (rows : List JobRow) (i : ℕ) (row : JobRow) → i < length rows → row ≡ get_or rows i row → mode_counts (drop i rows) ≡ row.modes ∷ mode_counts (drop (i + 1) rows)
counts_from rows i row h e = ap mode_counts (drop_more rows i row h) ∙ ap (λ (r : JobRow). r.modes ∷ mode_counts (drop (i + 1) rows)) (sym e)

-- ---- capacities and budgets

pub amounts_end : (end renewables nonrenewables : ℕ) (capacities : List ℕ) (a b : List Line) → read_wanted end (times renewables (up_to 1000000)) a ≡ Ok (capacities, b) → read_wanted end (all_amounts renewables nonrenewables) a ≡ (read_wanted end (times nonrenewables (up_to 1000000)) b >>= λ x. Ok (record { capacities = capacities; budgets = x.0 }, x.1))
unfolding all_amounts
amounts_end end renewables nonrenewables capacities a b h =
    read_wanted->>= end (times renewables (up_to 1000000)) (λ cs. wanted.◌>>=◌ (times nonrenewables (up_to 1000000)) (λ bs. give (record { capacities = cs; budgets = bs }))) a ∙ rw h (read_wanted->>= end (times nonrenewables (up_to 1000000)) (λ bs. give (record { capacities = capacities; budgets = bs })) b)

pub amounts_stop : (end renewables nonrenewables : ℕ) (a : List Line) (f : Refusal) → read_wanted end (times renewables (up_to 1000000)) a ≡ Err f → read_wanted end (all_amounts renewables nonrenewables) a ≡ Err f
unfolding all_amounts
amounts_stop end renewables nonrenewables a f h =
    first_stops end (times renewables (up_to 1000000)) (λ cs. wanted.◌>>=◌ (times nonrenewables (up_to 1000000)) (λ bs. give (record { capacities = cs; budgets = bs }))) a f h
