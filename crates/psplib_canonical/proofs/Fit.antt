-- Each line of a canonical text can be written, and there are few enough of them.
use Rattle.std.proofs.Common.{◌≡◌, ℕ, zero, suc, ◌+◌, ◌-◌, ◌*◌, ◌^◌, ◌≤◌, ◌<◌, Bool, true, false, cond, not, eqb, List, [], ◌∷◌, ◌++◌, length, map, replicate, codes, refl, ◌∙◌, arith, length-append}
use Rattle.std.specs.Prelude.{All, sum_by, max}
use Rattle.std.specs.List.{AllByRecursion, list_all, flat_map, fold}
use Rattle.std.specs.Fmt.{decimal}
use Rattle.std.proofs.lemmas.Bool.{and_from}
use Rattle.std.proofs.lemmas.Fmt.{length-decimal-le}
use Rattle.std.proofs.lemmas.List.{length-map, length-replicate}
use Rattle.std.proofs.lemmas.List.Elements.{All-head, All-tail, All-weaker}
use Rattle.std.proofs.lemmas.List.Folds.{list_all-append}
use Rattle.std.proofs.lemmas.List.Sums.{sum_by-le}
use Rattle.psplib_lex.specs.Line.{is_line_end}
use Rattle.rcpsp_model.specs.Project.{Project, Activity, IsWithinLimits, IsActivityWithinLimits, IsModeWithinLimits, job_count, jobs, renewables, nonrenewables, numbers_from}
use Rattle.rcpsp_model.specs.declared.parts.CalRow.{CalRow}
use Rattle.rcpsp_model.specs.declared.parts.Mode.{Mode}
use Rattle.rcpsp_model.proofs.Calendars.{calm_law}
use Rattle.project_net.specs.Canonical.{spaced, row, keyed, greatest, horizon, precedence_row, labels, all_labels, all_mode_lines, stars, hyphens, title_lines, resource_lines, information_lines, precedence_lines, requests_lines, amount_lines, availability_lines, calendar_row, calendar_lines, canonical_lines}
use Rattle.project_net.proofs.Appended.{length-numbers}
use Rattle.psplib_canonical.proofs.Words.{is_word, decimal-word}
use Rattle.psplib_canonical.proofs.Kept.{is_whole, is_fit}
use Rattle.psplib_canonical.proofs.Rows.{word_whole, whole-append, spaced_whole, spaced_short, fit-from}
use Rattle.psplib_canonical.proofs.PartRows.{precedence_rows, requests_rows, calendar_rows, modes-count}
use Rattle.psplib_canonical.proofs.Parts.{labels_words, amounts_line}

-- a line, and all lines, that can be written
record IsFit (line : List ℕ) : Type 0 where
  fit : is_fit line ≡ true

record AreFit (lines : List (List ℕ)) : Type 0 where
  all : list_all is_fit lines ≡ true

-- ---- header lines

blanks_whole : (k : ℕ) → is_whole (replicate k 0x20) ≡ true
blanks_whole zero = refl
blanks_whole (suc k) = blanks_whole k

keyed_fit : (key value : List ℕ) → is_whole key ≡ true → is_whole value ≡ true → length key ≤ 30 → length value ≤ 100 → IsFit (keyed key value)
unfolding keyed
keyed_fit key value h k few short =
    let blanks : List ℕ = replicate (30 - length key) 0x20 in
    let colon : List ℕ = 0x3A ∷ 0x20 ∷ 0x20 ∷ value in
    let size : length blanks ≡ 30 - length key = length-replicate (30 - length key) 0x20 in
    let one : length colon ≡ suc (suc (suc (length value))) = refl in
    let two : length (blanks ++ colon) ≡ length blanks + length colon = length-append blanks colon in
    let all : length (key ++ (blanks ++ colon)) ≡ length key + length (blanks ++ colon) = length-append key (blanks ++ colon) in
    record { fit = fit-from (key ++ (blanks ++ colon)) (whole-append key (blanks ++ colon) h (whole-append blanks colon (blanks_whole (30 - length key)) k)) (omega arith) }

decimal_short : (n : ℕ) → n < 2 ^ 64 → length (decimal n) ≤ 20
decimal_short n h = length-decimal-le 20 n (omega arith) (omega arith) h

number_fit : (key : List ℕ) (n : ℕ) → is_whole key ≡ true → length key ≤ 30 → n < 2 ^ 64 → IsFit (keyed key (decimal n))
number_fit key n h few small = let short = decimal_short n small in keyed_fit key (decimal n) h (word_whole (decimal n) (decimal-word n small)) few (omega arith)

counted_fit : (key : List ℕ) (n letter : ℕ) → is_whole key ≡ true → length key ≤ 30 → n < 2 ^ 64 → not (is_line_end letter) ≡ true → IsFit (keyed key (decimal n ++ 0x20 ∷ 0x20 ∷ 0x20 ∷ letter ∷ []))
counted_fit key n letter h few small plain =
    let short = decimal_short n small in
    let tail : List ℕ = 0x20 ∷ 0x20 ∷ 0x20 ∷ letter ∷ [] in
    let size : length (decimal n ++ tail) ≡ length (decimal n) + 4 = length-append (decimal n) tail in
    keyed_fit key (decimal n ++ tail) h (whole-append (decimal n) tail (word_whole (decimal n) (decimal-word n small)) (and_from (not (is_line_end letter)) true plain refl)) few (omega arith)

stars_fit : IsFit stars
unfolding stars
stars_fit = record { fit = refl }

hyphens_fit : IsFit hyphens
unfolding hyphens
hyphens_fit = record { fit = refl }

-- ---- the horizon is small

greatest-le : (ms : List Mode) (R N g : ℕ) → g ≤ 10000 → All (IsModeWithinLimits R N) ms → fold max g (map (λ m. m.duration) ms) ≤ 10000
greatest-le [] R N g h w = h
greatest-le (m ∷ ms) R N g h w = let d = (All-head (IsModeWithinLimits R N) m ms w).duration in greatest-le ms R N (max g m.duration) (omega arith) (All-tail (IsModeWithinLimits R N) m ms w)

horizon_small : (P : Project) → IsWithinLimits P → horizon P < 2 ^ 64
unfolding horizon job_count
horizon_small P w =
    let few = w.few_jobs in
    let calm = calm_law P w in
    let R = length P.capacities in let N = length P.budgets in
    let all : All (λ a. greatest (map (λ m. m.duration) a.modes) ≤ 10000) P.activities =
    All-weaker (IsActivityWithinLimits (length P.activities) R N) (λ (a : Activity). greatest (map (λ m. m.duration) a.modes) ≤ 10000) (λ a (l : IsActivityWithinLimits (length P.activities) R N a). greatest-le a.modes R N 0 (omega arith) l.modes) P.activities w.activities in
    let sum : sum_by (λ a. greatest (map (λ m. m.duration) a.modes)) P.activities ≤ length P.activities * 10000 = sum_by-le (λ (a : Activity). greatest (map (λ m. m.duration) a.modes)) 10000 P.activities all in
    omega arith

-- ---- lines of words

numbers_short : (letter : List ℕ) (i n : ℕ) → length letter ≤ 20 → i + n ≤ 1000 → AllByRecursion (λ w. length w ≤ 20) (flat_map (λ k. letter ∷ decimal k ∷ []) (numbers_from i n))
numbers_short letter i zero h few = tt
numbers_short letter i (suc n) h few = (h, (decimal_short i (omega arith), numbers_short letter (i + 1) n h (omega arith)))

short-append : (xs ys : List (List ℕ)) → AllByRecursion (λ w. length w ≤ 20) xs → AllByRecursion (λ w. length w ≤ 20) ys → AllByRecursion (λ w. length w ≤ 20) (xs ++ ys)
short-append [] ys h k = k
short-append (x ∷ xs) ys h k = (h.0, short-append xs ys h.1 k)

length-labels : (letter : List ℕ) (i n : ℕ) → length (flat_map (λ k. letter ∷ decimal k ∷ []) (numbers_from i n)) ≡ 2 * n
length-labels letter i zero = refl
length-labels letter i (suc n) = let later = length-labels letter (i + 1) n in omega arith

labels_short : (P : Project) → IsWithinLimits P → AllByRecursion (λ w. length w ≤ 20) (all_labels P)
labels_short P w =
    let R = w.few_renewables in let N = w.few_nonrenewables in
    short-append (labels (codes "R") (renewables P)) (labels (codes "N") (nonrenewables P))
    (numbers_short (codes "R") 1 (renewables P) (omega arith) (omega arith)) (numbers_short (codes "N") 1 (nonrenewables P) (omega arith) (omega arith))

few_labels : (P : Project) → IsWithinLimits P → length (all_labels P) ≤ 64
few_labels P w =
    let R = w.few_renewables in let N = w.few_nonrenewables in
    let r = length-labels (codes "R") 1 (renewables P) in let n = length-labels (codes "N") 1 (nonrenewables P) in
    let joined : length (all_labels P) ≡ length (labels (codes "R") (renewables P)) + length (labels (codes "N") (nonrenewables P)) = length-append (labels (codes "R") (renewables P)) (labels (codes "N") (nonrenewables P)) in
    omega arith

words_fit : (words : List (List ℕ)) → list_all is_word words ≡ true → AllByRecursion (λ w. length w ≤ 20) words → length words ≤ 100 → IsFit (spaced words)
words_fit words h k few = let short = spaced_short words k in record { fit = fit-from (spaced words) (spaced_whole words h) (omega arith) }

labels_fit : (P : Project) → IsWithinLimits P → IsFit (spaced (all_labels P))
labels_fit P w = let few = few_labels P w in words_fit (all_labels P) (labels_words P w) (labels_short P w) (omega arith)

heading_fit : (P : Project) → IsWithinLimits P → IsFit (spaced (codes "jobnr." ∷ codes "mode" ∷ codes "duration" ∷ all_labels P))
heading_fit P w =
    let few = few_labels P w in
    let size : length (codes "jobnr." ∷ codes "mode" ∷ codes "duration" ∷ all_labels P) ≡ suc (suc (suc (length (all_labels P)))) = refl in
    let six : length (codes "jobnr.") ≤ 20 = omega arith in
    let four : length (codes "mode") ≤ 20 = omega arith in
    let eight : length (codes "duration") ≤ 20 = omega arith in
    words_fit (codes "jobnr." ∷ codes "mode" ∷ codes "duration" ∷ all_labels P) (labels_words P w) (six, (four, (eight, labels_short P w))) (omega arith)

counts_fit : (n : ℕ) → n < 2 ^ 64 → IsFit (spaced (codes "1" ∷ decimal n ∷ codes "0" ∷ codes "0" ∷ codes "0" ∷ codes "0" ∷ []))
counts_fit n h =
    let one : length (codes "1") ≤ 20 = omega arith in
    let nil : length (codes "0") ≤ 20 = omega arith in
    let size : length (codes "1" ∷ decimal n ∷ codes "0" ∷ codes "0" ∷ codes "0" ∷ codes "0" ∷ []) ≡ 6 = refl in
    words_fit (codes "1" ∷ decimal n ∷ codes "0" ∷ codes "0" ∷ codes "0" ∷ codes "0" ∷ []) (and_from (is_word (decimal n)) true (decimal-word n h) refl) (one, (decimal_short n h, (nil, (nil, (nil, (nil, tt)))))) (omega arith)

-- ---- the parts

both : (line : List ℕ) (lines : List (List ℕ)) → IsFit line → AreFit lines → AreFit (line ∷ lines)
both line lines h k = record { all = and_from (is_fit line) (list_all is_fit lines) h.fit k.all }

plain : (line : List ℕ) (lines : List (List ℕ)) → is_fit line ≡ true → AreFit lines → AreFit (line ∷ lines)
plain line lines h k = both line lines (record { fit = h }) k

none_more : AreFit []
none_more = record { all = refl }

fit-append : (xs ys : List (List ℕ)) → AreFit xs → AreFit ys → AreFit (xs ++ ys)
fit-append xs ys h k = record { all = list_all-append is_fit xs ys ∙ and_from (list_all is_fit xs) (list_all is_fit ys) h.all k.all }

basedata_fit : IsFit (keyed (codes "file with basedata") (codes "-"))
unfolding keyed
basedata_fit = record { fit = refl }

seed_fit : IsFit (keyed (codes "initial value random generator") (codes "0"))
unfolding keyed
seed_fit = record { fit = refl }

projects_fit : IsFit (keyed (codes "projects") (codes "1"))
unfolding keyed
projects_fit = record { fit = refl }

doubly_fit : IsFit (keyed (codes "  - doubly constrained") (codes "0   D"))
unfolding keyed
doubly_fit = record { fit = refl }

module _ (P : Project) (limits : IsWithinLimits P) where
  few_jobs : length P.activities ≤ 128
  unfolding job_count
  few_jobs = limits.few_jobs

  jobs_small : job_count P < 2 ^ 64
  jobs_small = let few = limits.few_jobs in omega arith

  title_fit : AreFit (title_lines P)
  unfolding title_lines
  title_fit =
      both _ _ stars_fit
      (both _ _ basedata_fit
      (both _ _ seed_fit
      (both _ _ stars_fit
      (both _ _ projects_fit
      (both _ _ (number_fit (codes "jobs (incl. supersource/sink )") (job_count P) refl (omega arith) jobs_small)
      (both _ [] (number_fit (codes "horizon") (horizon P) refl (omega arith) (horizon_small P limits)) none_more))))))

  resource_fit : AreFit (resource_lines P)
  unfolding resource_lines
  resource_fit =
      let R = limits.few_renewables in let N = limits.few_nonrenewables in
      plain (codes "RESOURCES") _ refl
      (both _ _ (counted_fit (codes "  - renewable") (renewables P) 0x52 refl (omega arith) (omega arith) refl)
      (both _ _ (counted_fit (codes "  - nonrenewable") (nonrenewables P) 0x4E refl (omega arith) (omega arith) refl)
      (both _ _ doubly_fit
      (both stars [] stars_fit none_more))))

  information_fit : AreFit (information_lines P)
  unfolding information_lines
  information_fit =
      plain (codes "PROJECT INFORMATION:") _ refl
      (plain (codes "pronr.  #jobs rel.date duedate tardcost  MPM-Time") _ refl
      (both _ _ (counts_fit (job_count P) jobs_small)
      (both stars [] stars_fit none_more)))

  precedence_fit : AreFit (precedence_lines P)
  unfolding precedence_lines
  precedence_fit =
      plain (codes "PRECEDENCE RELATIONS:") _ refl
      (plain (codes "jobnr.    #modes  #successors   successors") _ refl
      (fit-append _ (stars ∷ []) (record { all = (precedence_rows P limits).fit }) (both stars [] stars_fit none_more)))

  requests_fit : AreFit (requests_lines P)
  unfolding requests_lines
  requests_fit =
      plain (codes "REQUESTS/DURATIONS:") _ refl
      (both _ _ (heading_fit P limits)
      (both _ _ hyphens_fit
      (fit-append _ (stars ∷ []) (record { all = (requests_rows P limits).fit }) (both stars [] stars_fit none_more))))

  amounts_fit : AreFit (amount_lines P)
  unfolding amount_lines
  amounts_fit = go (eqb (renewables P + nonrenewables P) 0) refl
    where
      some_of : (k : ℕ) → eqb k 0 ≡ false → 1 ≤ k
      some_of zero h = absurd cc
      some_of (suc k) h = omega arith

      go : (none : Bool) → eqb (renewables P + nonrenewables P) 0 ≡ none → AreFit (cond none [] (spaced (all_labels P) ∷ row (P.capacities ++ P.budgets) ∷ []))
      go true e = none_more
      go false e = both _ _ (labels_fit P limits) (record { all = (amounts_line P limits 0 (some_of (renewables P + nonrenewables P) e)).fit })

  availability_fit : AreFit (availability_lines P)
  unfolding availability_lines
  availability_fit = plain (codes "RESOURCEAVAILABILITIES:") _ refl (fit-append (amount_lines P) (stars ∷ []) amounts_fit (both stars [] stars_fit none_more))

  calendar_fit : AreFit (calendar_lines P)
  unfolding calendar_lines
  calendar_fit = go (eqb (length P.calendar) 0)
    where
      go : (none : Bool) → AreFit (cond none [] (codes "CALENDAR:" ∷ codes "resource from to capacity" ∷ decimal (length P.calendar) ∷ (map (λ r. row (calendar_row r)) P.calendar ++ stars ∷ [])))
      go true = none_more
      go false =
          plain (codes "CALENDAR:") _ refl
          (plain (codes "resource from to capacity") _ refl
          (fit-append (decimal (length P.calendar) ∷ map (λ r. row (calendar_row r)) P.calendar) (stars ∷ []) (record { all = (calendar_rows P limits).fit }) (both stars [] stars_fit none_more)))

  canonical_are : AreFit (canonical_lines P)
  unfolding canonical_lines
  canonical_are =
      fit-append (title_lines P) _ title_fit
      (fit-append (resource_lines P) _ resource_fit
      (fit-append (information_lines P) _ information_fit
      (fit-append (precedence_lines P) _ precedence_fit
      (fit-append (requests_lines P) _ requests_fit
      (fit-append (availability_lines P) (calendar_lines P) availability_fit calendar_fit)))))

  pub canonical_fit : list_all is_fit (canonical_lines P) ≡ true
  canonical_fit = canonical_are.all

  -- ---- how many lines there are

  title_count : length (title_lines P) ≤ 7
  unfolding title_lines
  title_count = omega arith

  resource_count : length (resource_lines P) ≤ 5
  unfolding resource_lines
  resource_count = omega arith

  information_count : length (information_lines P) ≤ 4
  unfolding information_lines
  information_count = omega arith

  precedence_count : length (precedence_lines P) ≤ 131
  unfolding precedence_lines job_count
  precedence_count =
      let few = few_jobs in
      let rows : List (List ℕ) = map (λ j. row (precedence_row P j)) (jobs P) in
      let count : length rows ≡ length P.activities = length-map (jobs P) (λ j. row (precedence_row P j)) ∙ length-numbers 1 (length P.activities) in
      let joined : length (rows ++ stars ∷ []) ≡ length rows + 1 = length-append rows (stars ∷ []) in
      omega arith

  requests_count : length (requests_lines P) ≤ 516
  unfolding requests_lines
  requests_count =
      let few = limits.few_modes in
      let rows : List (List ℕ) = all_mode_lines P (jobs P) in
      let count : length rows ≡ sum_by (λ a. length a.modes) P.activities = modes-count P limits in
      let joined : length (rows ++ stars ∷ []) ≡ length rows + 1 = length-append rows (stars ∷ []) in
      omega arith

  amounts_count : length (amount_lines P) ≤ 2
  unfolding amount_lines
  amounts_count = go (eqb (renewables P + nonrenewables P) 0)
    where
      go : (none : Bool) → length (cond none [] (spaced (all_labels P) ∷ row (P.capacities ++ P.budgets) ∷ [])) ≤ 2
      go true = omega arith
      go false = omega arith

  availability_count : length (availability_lines P) ≤ 4
  unfolding availability_lines
  availability_count =
      let few = amounts_count in
      let joined : length (amount_lines P ++ stars ∷ []) ≡ length (amount_lines P) + 1 = length-append (amount_lines P) (stars ∷ []) in
      omega arith

  calendar_count : length (calendar_lines P) ≤ 260
  unfolding calendar_lines
  calendar_count = go (eqb (length P.calendar) 0)
    where
      go : (none : Bool) → length (cond none [] (codes "CALENDAR:" ∷ codes "resource from to capacity" ∷ decimal (length P.calendar) ∷ (map (λ r. row (calendar_row r)) P.calendar ++ stars ∷ []))) ≤ 260
      go true = omega arith
      go false =
          let few = limits.few_rows in
          let rows : List (List ℕ) = map (λ r. row (calendar_row r)) P.calendar in
          let count : length rows ≡ length P.calendar = length-map P.calendar (λ (r : CalRow). row (calendar_row r)) in
          let joined : length (rows ++ stars ∷ []) ≡ length rows + 1 = length-append rows (stars ∷ []) in
          omega arith

  pub few_lines : length (canonical_lines P) ≤ 1000
  unfolding canonical_lines
  few_lines =
      let a = title_count in let b = resource_count in let c = information_count in let d = precedence_count in let e = requests_count in let f = availability_count in let g = calendar_count in
      let six = length-append (availability_lines P) (calendar_lines P) in
      let five = length-append (requests_lines P) (availability_lines P ++ calendar_lines P) in
      let four = length-append (precedence_lines P) (requests_lines P ++ (availability_lines P ++ calendar_lines P)) in
      let three = length-append (information_lines P) (precedence_lines P ++ (requests_lines P ++ (availability_lines P ++ calendar_lines P))) in
      let two = length-append (resource_lines P) (information_lines P ++ (precedence_lines P ++ (requests_lines P ++ (availability_lines P ++ calendar_lines P)))) in
      let one = length-append (title_lines P) (resource_lines P ++ (information_lines P ++ (precedence_lines P ++ (requests_lines P ++ (availability_lines P ++ calendar_lines P))))) in
      omega arith
