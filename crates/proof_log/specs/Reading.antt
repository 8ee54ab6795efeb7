-- How a line is read: its bytes are cut at each blank, and the words are judged by their number. What this reads is
-- exactly the lines of `Line`, as the contract of `parse_line` says.
use Rattle.std.specs.Prelude.{ℕ, ◌+◌, ◌-◌, ◌*◌, ◌==◌, ◌&&◌, ◌||◌, nat_le, Bool, false, not, if◌then◌else◌, Option, Some, None, is_some, option_map, option_and_then, List, [], ◌∷◌, length, codes}
use Rattle.std.specs.List.{slice_split}
use Rattle.std.specs.Str.{bytes_eq, all_ascii_digits}
use Rattle.proof_log.specs.declared.line.ReportLine.{ReportLine}
use Rattle.proof_log.specs.declared.line.ReportLine.TheVariants.{Title, Optimal, Infeasible, Limit, Duration, Lower, Job, LogYes, LogNo, Log, End}
use Rattle.proof_log.specs.Line.{has_number, is_bare, is_shut}

infixl 10 ◌>>=◌
abbrev pub ◌>>=◌ : {A B : Type 0} → Option A → (A → Option B) → Option B
o >>= f = option_and_then f o

-- the number that digits stand for, after what was read before them
abbrev pub value_after : ℕ → List ℕ → ℕ
value_after n [] = n
value_after n (digit ∷ digits) = value_after (10 * n + (digit - 0x30)) digits

-- from one to nine bytes, the first of which is a 0 only where it is the only one
unfoldable pub may_be_number : List ℕ → Bool
may_be_number [] = false
may_be_number (first ∷ more) = nat_le (length (first ∷ more)) 9 && (length (first ∷ more) == 1 || not (first == 0x30))

unfoldable pub number_in : List ℕ → Option ℕ
number_in word = if may_be_number word && all_ascii_digits word then Some (value_after 0 word) else None

-- a number, or `-`
unfoldable pub place_in : List ℕ → Option (Option ℕ)
place_in word = if bytes_eq word (codes "-") then Some None else option_map (λ n. Some n) (number_in word)

-- Lines of one, two, four and five words.

unfoldable pub single_in : List ℕ → Option ReportLine
single_in word = if bytes_eq word (codes "end") then Some End else None

unfoldable pub verdict_in : List ℕ → Option ReportLine
verdict_in word =
    if bytes_eq word (codes "optimal") then Some Optimal else
    (if bytes_eq word (codes "infeasible") then Some Infeasible else
    (if bytes_eq word (codes "limit") then Some Limit else None))

unfoldable pub log_flag_in : List ℕ → Option ReportLine
log_flag_in word = if bytes_eq word (codes "yes") then Some LogYes else (if bytes_eq word (codes "no") then Some LogNo else None)

unfoldable pub title_in : List ℕ → Option ReportLine
title_in word = if bytes_eq word (codes "1") then Some Title else None

unfoldable pub pair_in : List ℕ → List ℕ → Option ReportLine
pair_in key word =
    if bytes_eq key (codes "psplib-report") then title_in word else
    (if bytes_eq key (codes "verdict") then verdict_in word else
    (if bytes_eq key (codes "duration") then option_map Duration (place_in word) else
    (if bytes_eq key (codes "lower") then option_map Lower (place_in word) else
    (if bytes_eq key (codes "log") then log_flag_in word else None))))

unfoldable pub job_in : List ℕ → List ℕ → List ℕ → Option ReportLine
job_in job mode start = do
  j ← number_in job
  m ← number_in mode
  s ← number_in start
  Some (Job j m s)

-- the number behind a letter, 0 where none may stand
unfoldable pub fate_number_in : ℕ → Option (List ℕ) → Option ℕ
fate_number_in letter None = if is_bare letter then Some 0 else None
fate_number_in letter (Some word) = if has_number letter then number_in word else None

abbrev pub letter_in : List ℕ → Option ℕ
letter_in [] = None
letter_in (letter ∷ []) = Some letter
letter_in (letter ∷ other ∷ more) = None

-- whether job, mode and start may stand before a letter
unfoldable pub is_place : Option ℕ → Option ℕ → Option ℕ → ℕ → Bool
is_place None None start letter = not (is_some start)
is_place None (Some mode) start letter = false
is_place (Some job) None start letter = false
is_place (Some job) (Some mode) None letter = is_shut letter
is_place (Some job) (Some mode) (Some start) letter = not (is_shut letter)

-- a letter and its number
unfoldable pub fate_in : List ℕ → Option (List ℕ) → Option (ℕ × ℕ)
fate_in word number = do
  letter ← letter_in word
  n ← fate_number_in letter number
  Some (letter, n)

abbrev pub log_line : Option ℕ → Option ℕ → Option ℕ → ℕ → ℕ → ReportLine
log_line job mode start letter number = Log (record { job = job; mode = mode; start = start; letter = letter; number = number })

unfoldable pub placed_in : Option ℕ → Option ℕ → Option ℕ → (ℕ × ℕ) → Option ReportLine
placed_in job mode start fate = if is_place job mode start fate.0 then Some (log_line job mode start fate.0 fate.1) else None

unfoldable pub log_in : List ℕ → List ℕ → List ℕ → List ℕ → Option (List ℕ) → Option ReportLine
log_in job mode start fate number = do
  j ← place_in job
  m ← place_in mode
  s ← place_in start
  f ← fate_in fate number
  placed_in j m s f

unfoldable pub four_in : List ℕ → List ℕ → List ℕ → List ℕ → Option ReportLine
four_in first second third fourth = if bytes_eq first (codes "job") then job_in second third fourth else log_in first second third fourth None

-- a line by its words
unfoldable pub line_in : List (List ℕ) → Option ReportLine
line_in [] = None
line_in (a ∷ []) = single_in a
line_in (a ∷ b ∷ []) = pair_in a b
line_in (a ∷ b ∷ c ∷ []) = None
line_in (a ∷ b ∷ c ∷ d ∷ []) = four_in a b c d
line_in (a ∷ b ∷ c ∷ d ∷ e ∷ []) = log_in a b c d (Some e)
line_in (a ∷ b ∷ c ∷ d ∷ e ∷ f ∷ more) = None

-- the words between the blanks
unfoldable pub words_in : List ℕ → List (List ℕ)
words_in bytes = slice_split (λ byte. byte == 0x20) bytes
