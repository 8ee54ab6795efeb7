-- Reading the rows of a calendar one by one.
use Rattle.std.proofs.Common.{◌≡◌, ℕ, suc, ◌-◌, ◌+◌, ◌≤◌, ◌<◌, List, ◌∷◌, Result, Ok, Err, sym, subst, ◌∙◌, arith}
use Rattle.psplib_lex.specs.Line.{Line}
use Rattle.rcpsp_model.specs.declared.parts.CalRow.{CalRow}
use Rattle.psplib_layout.specs.declared.fault.Refusal.{Refusal}
use Rattle.psplib_layout.specs.declared.rule.Rule.{Rule}
use Rattle.psplib_layout.specs.Rule.{Keeps, ordered}
use Rattle.psplib_layout.specs.Wanted as wanted
use Rattle.psplib_layout.specs.Wanted.{give}
use Rattle.psplib_layout.specs.Reading.{◌>>=◌, number_in, read_wanted}
use Rattle.psplib_layout.specs.Calendar.{cal_row, cal_rows}
use Rattle.psplib_layout.proofs.Taking.{wanted_found}
use Rattle.psplib_layout.proofs.Faults.{number_taken}
use Rattle.psplib_layout.proofs.Loops.{with_front, with_none_more, first_of, first_stops}
use Rattle.psplib_layout.proofs.CalendarRows.{IsRead, row_read}

-- a number that was read keeps the rule that it was read under
pub ordered_read : (end floor least most : ℕ) (rule : Rule) (lines rest : List Line) (n : ℕ) → rule ≡ ordered floor least most → number_in end rule lines ≡ Ok (n, rest) → (least ≤ n) × (n ≤ most)
ordered_read end floor least most rule lines rest n is e = subst (λ (r : Rule). Keeps r n) is (number_taken end rule lines (n, rest) e).keeps

pub cal_row_read : (end : ℕ) (capacities : List ℕ) (before row : CalRow) (lines rest : List Line) → 1 ≤ before.resource → read_wanted end (cal_row capacities before) lines ≡ Ok (row, rest) → IsRead row
cal_row_read end capacities before row lines rest some e =
    let f = wanted_found end (cal_row capacities before) lines row rest e in
    row_read capacities before f.numbers row some f.stands

pub cal_rows_from : (end count i : ℕ) (capacities : List ℕ) (before row : CalRow) (lines after : List Line) → i < count → read_wanted end (cal_row capacities before) lines ≡ Ok (row, after)
    → read_wanted end (cal_rows (count - i) capacities before) lines ≡ (read_wanted end (cal_rows (count - (i + 1)) capacities row) after >>= λ x. Ok (row ∷ x.0, x.1))
unfolding cal_rows
cal_rows_from end count i capacities before row lines after lt h =
    let k : count - i ≡ suc (count - (i + 1)) = omega arith in
    rw k (first_of end (cal_row capacities before) (λ r. cal_rows (count - (i + 1)) capacities r) lines after row h)

pub cal_rows_from_stop : (end count i : ℕ) (capacities : List ℕ) (before : CalRow) (lines : List Line) (f : Refusal) → i < count → read_wanted end (cal_row capacities before) lines ≡ Err f → read_wanted end (cal_rows (count - i) capacities before) lines ≡ Err f
unfolding cal_rows
cal_rows_from_stop end count i capacities before lines f lt h =
    let k : count - i ≡ suc (count - (i + 1)) = omega arith in
    rw k (first_stops end (cal_row capacities before) (λ r. wanted.◌>>=◌ (cal_rows (count - (i + 1)) capacities r) (λ rs. give (r ∷ rs))) lines f h)

pub cal_rows_done : (end count i : ℕ) (capacities : List ℕ) (before : CalRow) (front : List CalRow) (lines : List Line) (total : Result (List CalRow × List Line) Refusal) → count ≤ i → with_front front (read_wanted end (cal_rows (count - i) capacities before) lines) ≡ total → total ≡ Ok (front, lines)
unfolding cal_rows
cal_rows_done end count i capacities before front lines total le so_far =
    let k : count - i ≡ 0 = omega arith in
    sym so_far ∙ rw k (with_none_more front lines)
