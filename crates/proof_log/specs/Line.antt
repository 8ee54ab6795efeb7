-- The lines of a report, each by its words. A number is decimal, without leading zeros, and has at most nine digits.
use Rattle.std.specs.Prelude.{◌≡◌, ℕ, ◌==◌, ◌≤◌, ◌||◌, Bool, true, false, not, if◌then◌else◌, Option, Some, None, is_some, IfSome, List, [], ◌∷◌, codes, decimal}
use Rattle.std.specs.List.{join_with_byte}
use Rattle.proof_log.specs.declared.letter.TheConstants.{EXPANDED, LEAF, TAIL_BOUND, WORK_BOUND, BUDGET, CAPACITY, WORSE, CUTSET, LEFT}
use Rattle.proof_log.specs.declared.line.LogWords.{LogWords}
use Rattle.proof_log.specs.declared.line.ReportLine.{ReportLine}
use Rattle.proof_log.specs.declared.line.ReportLine.TheVariants.{Title, Optimal, Infeasible, Limit, Duration, Lower, Job, LogYes, LogNo, Log, End}

-- a number, or `-` where there is none
unfoldable pub number_word : Option ℕ → List ℕ
number_word None = codes "-"
number_word (Some n) = decimal n

-- the letters of the fates behind which a number stands, and those behind which none stands
abbrev pub has_number : ℕ → Bool
has_number letter = letter == WORK_BOUND || letter == BUDGET || letter == CAPACITY || letter == WORSE || letter == CUTSET || letter == LEFT

abbrev pub is_bare : ℕ → Bool
is_bare letter = letter == EXPANDED || letter == LEAF || letter == TAIL_BOUND

-- the letters of the children that are shut, which have no start
abbrev pub is_shut : ℕ → Bool
is_shut letter = letter == CAPACITY || letter == BUDGET || letter == WORSE

-- the letter of a fate, and the number where it has one
unfoldable pub fate_words : ℕ → ℕ → List (List ℕ)
fate_words letter number = if has_number letter then (letter ∷ []) ∷ number_word (Some number) ∷ [] else (letter ∷ []) ∷ []

-- job, mode, start and fate
unfoldable pub log_line_words : LogWords → List (List ℕ)
log_line_words line = number_word line.job ∷ number_word line.mode ∷ number_word line.start ∷ fate_words line.letter line.number

-- the words of a line
unfoldable pub line_words : ReportLine → List (List ℕ)
line_words Title = codes "psplib-report" ∷ codes "1" ∷ []
line_words Optimal = codes "verdict" ∷ codes "optimal" ∷ []
line_words Infeasible = codes "verdict" ∷ codes "infeasible" ∷ []
line_words Limit = codes "verdict" ∷ codes "limit" ∷ []
line_words (Duration n) = codes "duration" ∷ number_word n ∷ []
line_words (Lower n) = codes "lower" ∷ number_word n ∷ []
line_words (Job job mode start) = codes "job" ∷ number_word (Some job) ∷ number_word (Some mode) ∷ number_word (Some start) ∷ []
line_words LogYes = codes "log" ∷ codes "yes" ∷ []
line_words LogNo = codes "log" ∷ codes "no" ∷ []
line_words (Log line) = log_line_words line
line_words End = codes "end" ∷ []

-- the bytes of a line: its words, with one blank between two
unfoldable pub line_text : ReportLine → List ℕ
line_text line = join_with_byte 0x20 (line_words line)

-- Which lines there are.

abbrev pub IsNumber : ℕ → Type 0
IsNumber n = n ≤ 999999999

-- the root has neither job, mode nor start; another line has no start exactly where the child is shut
abbrev pub IsPlace : Option ℕ → Option ℕ → Option ℕ → ℕ → Type 0
IsPlace None None start letter = start ≡ None
IsPlace None (Some mode) start letter = ⊥
IsPlace (Some job) None start letter = ⊥
IsPlace (Some job) (Some mode) start letter = IsNumber job × IsNumber mode × IfSome start IsNumber × (is_some start ≡ not (is_shut letter))

pub record IsLogLine (line : LogWords) : Type 0 where
  pub place : IsPlace line.job line.mode line.start line.letter
  pub letter : (has_number line.letter || is_bare line.letter) ≡ true
  pub number : IsNumber line.number
  pub bare : has_number line.letter ≡ false → line.number ≡ 0

-- the lines that a report may have
abbrev pub IsLine : ReportLine → Type 0
IsLine (Duration n) = IfSome n IsNumber
IsLine (Lower n) = IfSome n IsNumber
IsLine (Job job mode start) = IsNumber job × IsNumber mode × IsNumber start
IsLine (Log line) = IsLogLine line
IsLine _ = Unit {0}
