-- The words of a line are read as that line again.
use Rattle.std.proofs.Common.{◌≡◌, ℕ, inl, inr, refl, sym, ap, Bool, true, false, ◌||◌, not, List, [], ◌∷◌, Option, Some, None, codes}
use Rattle.std.specs.Prelude.{IfSome, option_map}
use Rattle.std.specs.Str.{bytes_eq}
use Rattle.std.proofs.lemmas.Bool.{cases_Bool}
use Rattle.proof_log.specs.declared.line.LogWords.{LogWords}
use Rattle.proof_log.specs.declared.line.ReportLine.{ReportLine}
use Rattle.proof_log.specs.declared.line.ReportLine.TheVariants.{Title, Optimal, Infeasible, Limit, Duration, Lower, Job, LogYes, LogNo, Log, End}
use Rattle.proof_log.specs.Line.{number_word, has_number, is_bare, is_shut, fate_words, log_line_words, line_words, IsNumber, IsPlace, IsLogLine, IsLine}
use Rattle.proof_log.specs.Reading.{single_in, verdict_in, log_flag_in, title_in, pair_in, job_in, fate_number_in, is_place, fate_in, placed_in, log_in, four_in, line_in}
use Rattle.proof_log.proofs.NumberWords.{number_again, place_again, no_number_word}

-- numbers where there are some
pub record HasNumbers (job mode start : Option ℕ) : Type 0 where
  pub job_ : IfSome job IsNumber
  pub mode_ : IfSome mode IsNumber
  pub start_ : IfSome start IsNumber

pub place_numbers : (job mode start : Option ℕ) (letter : ℕ) → IsPlace job mode start letter → HasNumbers job mode start
place_numbers None None None letter h = record { job_ = tt; mode_ = tt; start_ = tt }
place_numbers None None (Some start) letter h = absurd (cc)
place_numbers None (Some mode) start letter h = absurd h
place_numbers (Some job) None start letter h = absurd h
place_numbers (Some job) (Some mode) start letter h = record { job_ = h.0; mode_ = h.1; start_ = h.2 }

not_false : (b : Bool) → false ≡ not b → b ≡ true
not_false true h = refl
not_false false h = absurd (cc)

place_true : (job mode start : Option ℕ) (letter : ℕ) → IsPlace job mode start letter → is_place job mode start letter ≡ true
unfolding is_place
place_true None None None letter h = refl
place_true None None (Some start) letter h = absurd (cc)
place_true None (Some mode) start letter h = absurd h
place_true (Some job) None start letter h = absurd h
place_true (Some job) (Some mode) None letter h = not_false (is_shut letter) h.3
place_true (Some job) (Some mode) (Some start) letter h = sym h.3

-- a number or `-` isn't the word of a job's line
no_job_word : (o : Option ℕ) → IfSome o IsNumber → bytes_eq (number_word o) (codes "job") ≡ false
unfolding number_word
no_job_word None h = refl
no_job_word (Some n) h = no_number_word n (codes "job") h refl

bare_from : (a b : Bool) → a || b ≡ true → a ≡ false → b ≡ true
bare_from true b h none = absurd (cc)
bare_from false b h none = h

numbered_fate_again : (letter number : ℕ) → has_number letter ≡ true → IsNumber number → fate_in (letter ∷ []) (Some (number_word (Some number))) ≡ Some (letter, number)
unfolding fate_in fate_number_in number_word
numbered_fate_again letter number has small = rw (has, number_again number small)

bare_fate_again : (letter number : ℕ) → is_bare letter ≡ true → number ≡ 0 → fate_in (letter ∷ []) None ≡ Some (letter, number)
unfolding fate_in fate_number_in
bare_fate_again letter number bare zero_ = rw (bare, zero_)

module _ (line : LogWords) (is : IsLogLine line) where
  read_again : (e : Option (List ℕ)) → fate_in (line.letter ∷ []) e ≡ Some (line.letter, line.number) → log_in (number_word line.job) (number_word line.mode) (number_word line.start) (line.letter ∷ []) e ≡ Some (Log line)
  unfolding log_in placed_in
  read_again e fate =
      let numbers = place_numbers line.job line.mode line.start line.letter is.place in
      rw (place_again line.job numbers.job_, place_again line.mode numbers.mode_, place_again line.start numbers.start_, fate, place_true line.job line.mode line.start line.letter is.place)

  pub log_again : line_in (log_line_words line) ≡ Some (Log line)
  unfolding line_in four_in log_line_words fate_words
  log_again = elim (cases_Bool (has_number line.letter)) [
    | inl has ↦ rw has (read_again (Some (number_word (Some line.number))) (numbered_fate_again line.letter line.number has is.number))
    | inr none ↦
        let numbers = place_numbers line.job line.mode line.start line.letter is.place in
        rw (none, no_job_word line.job numbers.job_) (read_again None (bare_fate_again line.letter line.number (bare_from (has_number line.letter) (is_bare line.letter) is.letter none) (is.bare none)))
  ]

job_again : (job mode start : ℕ) → IsNumber job → IsNumber mode → IsNumber start → job_in (number_word (Some job)) (number_word (Some mode)) (number_word (Some start)) ≡ Some (Job job mode start)
unfolding job_in number_word
job_again job mode start j m s = rw (number_again job j, number_again mode m, number_again start s)

-- the words of a line are read as that line
pub line_again : (line : ReportLine) → IsLine line → line_in (line_words line) ≡ Some line
unfolding line_in line_words single_in pair_in title_in verdict_in log_flag_in four_in
line_again Title h = refl
line_again Optimal h = refl
line_again Infeasible h = refl
line_again Limit h = refl
line_again (Duration n) h = ap (option_map Duration) (place_again n h)
line_again (Lower n) h = ap (option_map Lower) (place_again n h)
line_again (Job job mode start) h = job_again job mode start h.0 h.1 h.2
line_again LogYes h = refl
line_again LogNo h = refl
line_again (Log line) h = log_again line h
line_again End h = refl
