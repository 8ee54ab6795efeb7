-- The parts of a canonical text behind its header, and the layout as a whole.
use Rattle.std.proofs.Common.{◌≡◌, ℕ, zero, suc, ◌+◌, ◌≤◌, ◌⊎◌, inl, inr, Bool, true, false, cond, eqb, List, [], ◌∷◌, ◌++◌, length, map, codes, refl, sym, ap, subst, ◌∙◌, arith, append_assoc, length-append}
use Rattle.std.specs.List.{concat, list_all, flat_map}
use Rattle.std.specs.Fmt.{decimal}
use Rattle.std.proofs.lemmas.Bool.{and_from, eqb-true}
use Rattle.std.proofs.lemmas.List.{append-nil, nil_from_length}
use Rattle.std.proofs.lemmas.List.Elements.{recursion_from_All}
use Rattle.std.proofs.lemmas.List.Folds.{list_all-append}
use Rattle.psplib_lex.specs.Line.{Line, words_of, line_from}
use Rattle.psplib_layout.specs.Title.{begins_with}
use Rattle.psplib_layout.specs.Header.{HasTitle}
use Rattle.psplib_layout.specs.Part.{HasPart}
use Rattle.psplib_layout.specs.Precedence.{rows_numbers}
use Rattle.psplib_layout.specs.Requests.{all_modes_numbers}
use Rattle.psplib_layout.specs.Calendar.{calendar_numbers}
use Rattle.psplib_layout.specs.Layout.{ReadsPrecedence, ReadsRequests, ReadsAvailabilities, ReadsCalendar, ReadsLayout, HasAmounts, ListsRows, HasNoCalendar}
use Rattle.rcpsp_model.specs.Project.{Project, IsWithinLimits, jobs, renewables, nonrenewables, numbers_from}
use Rattle.project_net.specs.Canonical.{spaced, row, precedence_row, labels, all_labels, all_mode_lines, stars, hyphens, title_lines, resource_lines, information_lines, precedence_lines, requests_lines, amount_lines, availability_lines, calendar_row, calendar_lines, canonical_lines}
use Rattle.psplib_canonical.proofs.Words.{is_word, words_of-spaced, decimal-word}
use Rattle.psplib_canonical.proofs.Kept.{keep, kept, kept-none, keep_line, skip}
use Rattle.psplib_canonical.proofs.Rows.{IsRow, AreLines, no_lines, row_line, part_of, keeps, small-append}
use Rattle.psplib_canonical.proofs.ContentOf.{header_of, amounts_of, rows_of, modes_of_all, content_of, rows_limits, modes_limits, amounts_limits, calendar_limits}
use Rattle.psplib_canonical.proofs.PartRows.{precedence_rows, requests_rows, calendar_rows, small_all}
use Rattle.psplib_canonical.proofs.HeaderLines.{counts_line, behind_header, reads_header}

stars_rule : keep stars ≡ false
unfolding stars words_of
stars_rule = refl

hyphens_rule : keep hyphens ≡ false
unfolding hyphens words_of
hyphens_rule = refl

-- ---- the precedence part

precedence_kept : keep (codes "PRECEDENCE RELATIONS:") ≡ true
unfolding words_of
precedence_kept = refl

precedence_heading_kept : keep (codes "jobnr.    #modes  #successors   successors") ≡ true
unfolding words_of
precedence_heading_kept = refl

precedence_title : HasTitle (codes "PRECEDENCERELATIONS:") (line_from 17 (codes "PRECEDENCE RELATIONS:"))
unfolding words_of
precedence_title = refl

columns_other : begins_with (codes "PRECEDENCERELATIONS:") (concat (words_of (codes "pronr.  #jobs rel.date duedate tardcost  MPM-Time"))) ≡ false
unfolding words_of
columns_other = refl

counts_other : (P : Project) → begins_with (codes "PRECEDENCERELATIONS:") (concat (words_of (counts_line P))) ≡ false
unfolding words_of
counts_other P = refl

module _ (P : Project) (limits : IsWithinLimits P) where
  abbrev rows : List (List ℕ)
  rows = map (λ j. row (precedence_row P j)) (jobs P)

  -- the line behind the precedence part
  abbrev behind_rows : ℕ
  behind_rows = 19 + length rows + 1

  precedence_are : (rest : List (List ℕ)) → kept 17 (precedence_lines P ++ rest) ≡ line_from 17 (codes "PRECEDENCE RELATIONS:") ∷ line_from 18 (codes "jobnr.    #modes  #successors   successors") ∷ kept 19 (rows ++ stars ∷ rest)
  unfolding precedence_lines
  precedence_are rest =
      keep_line 17 _ _ _ precedence_kept
      (keep_line 18 _ _ _ precedence_heading_kept (ap (kept 19) (append_assoc rows (stars ∷ []) rest)))

  reads_precedence : (rest : List (List ℕ)) → ReadsPrecedence (header_of P) (behind_header P (precedence_lines P ++ rest)) (rows_of P.activities) (kept behind_rows rest)
  reads_precedence rest = record {
    unread = line_from 14 (codes "pronr.  #jobs rel.date duedate tardcost  MPM-Time") ∷ line_from 15 (counts_line P) ∷ [];
    title = line_from 17 (codes "PRECEDENCE RELATIONS:");
    heading = line_from 18 (codes "jobnr.    #modes  #successors   successors");
    behind = kept 19 (rows ++ stars ∷ rest);
    lines_are = ap (λ (ls : List Line). line_from 14 (codes "pronr.  #jobs rel.date duedate tardcost  MPM-Time") ∷ line_from 15 (counts_line P) ∷ ls) (precedence_are rest);
    first = (columns_other, (counts_other P, tt));
    title_is = precedence_title;
    part = part_of 19 rows rest (rows_numbers 1 (rows_of P.activities)) (precedence_rows P limits);
    limits = rows_limits P limits;
  }

-- ---- the requests part

requests_kept : keep (codes "REQUESTS/DURATIONS:") ≡ true
unfolding words_of
requests_kept = refl

requests_title : (n : ℕ) → HasTitle (codes "REQUESTS/DURATIONS:") (line_from n (codes "REQUESTS/DURATIONS:"))
unfolding words_of
requests_title n = refl

abbrev pub requests_heading : Project → List ℕ
requests_heading P = spaced (codes "jobnr." ∷ codes "mode" ∷ codes "duration" ∷ all_labels P)

requests_heading_kept : (P : Project) → keep (requests_heading P) ≡ true
unfolding words_of
requests_heading_kept P = refl

module _ (P : Project) (limits : IsWithinLimits P) (n : ℕ) where
  abbrev mode_rows : List (List ℕ)
  mode_rows = all_mode_lines P (jobs P)

  abbrev behind_modes : ℕ
  behind_modes = n + 1 + 1 + 1 + length mode_rows + 1

  requests_are : (rest : List (List ℕ)) → kept n (requests_lines P ++ rest) ≡ line_from n (codes "REQUESTS/DURATIONS:") ∷ line_from (n + 1) (requests_heading P) ∷ kept (n + 1 + 1 + 1) (mode_rows ++ stars ∷ rest)
  unfolding requests_lines
  requests_are rest =
      keep_line n _ _ _ requests_kept
      (keep_line (n + 1) _ _ _ (requests_heading_kept P)
      (skip (n + 1 + 1) _ _ _ hyphens_rule (ap (kept (n + 1 + 1 + 1)) (append_assoc mode_rows (stars ∷ []) rest))))

  reads_requests : (rest : List (List ℕ)) → ReadsRequests (header_of P) (rows_of P.activities) (kept n (requests_lines P ++ rest)) (modes_of_all P.activities) (kept behind_modes rest)
  reads_requests rest = record {
    title = line_from n (codes "REQUESTS/DURATIONS:");
    heading = line_from (n + 1) (requests_heading P);
    behind = kept (n + 1 + 1 + 1) (mode_rows ++ stars ∷ rest);
    lines_are = requests_are rest;
    title_is = requests_title n;
    part = part_of (n + 1 + 1 + 1) mode_rows rest (all_modes_numbers 1 (modes_of_all P.activities)) (requests_rows P limits);
    limits = modes_limits P limits;
  }

-- ---- the availabilities part

availability_kept : keep (codes "RESOURCEAVAILABILITIES:") ≡ true
unfolding words_of
availability_kept = refl

availability_title : (n : ℕ) → HasTitle (codes "RESOURCEAVAILABILITIES:") (line_from n (codes "RESOURCEAVAILABILITIES:"))
unfolding words_of
availability_title n = refl

numbers_words : (letter : List ℕ) (i n : ℕ) → is_word letter ≡ true → i + n ≤ 1000 → list_all is_word (flat_map (λ k. letter ∷ decimal k ∷ []) (numbers_from i n)) ≡ true
numbers_words letter i zero h few = refl
numbers_words letter i (suc n) h few =
    let rest = flat_map (λ k. letter ∷ decimal k ∷ []) (numbers_from (i + 1) n) in
    and_from (is_word letter) (list_all is_word (decimal i ∷ rest)) h
    (and_from (is_word (decimal i)) (list_all is_word rest) (decimal-word i (omega arith)) (numbers_words letter (i + 1) n h (omega arith)))

pub labels_words : (P : Project) → IsWithinLimits P → list_all is_word (all_labels P) ≡ true
labels_words P w =
    let R = w.few_renewables in let N = w.few_nonrenewables in
    list_all-append is_word (labels (codes "R") (renewables P)) (labels (codes "N") (nonrenewables P))
    ∙ and_from (list_all is_word (labels (codes "R") (renewables P))) (list_all is_word (labels (codes "N") (nonrenewables P)))
    (numbers_words (codes "R") 1 (renewables P) refl (omega arith)) (numbers_words (codes "N") 1 (nonrenewables P) refl (omega arith))

-- where there is a resource the labels are no rule
labels_keep : (r n : ℕ) → 1 ≤ r + n → keeps (labels (codes "R") r ++ labels (codes "N") n) ≡ true
labels_keep zero zero h = absurd (omega arith)
labels_keep zero (suc n) h = refl
labels_keep (suc r) n h = refl

module _ (P : Project) (limits : IsWithinLimits P) (n : ℕ) where
  labels_kept : 1 ≤ renewables P + nonrenewables P → keep (spaced (all_labels P)) ≡ true
  labels_kept some = ap keeps (words_of-spaced (all_labels P) (labels_words P limits)) ∙ labels_keep (renewables P) (nonrenewables P) some

  amounts_row : 1 ≤ renewables P + nonrenewables P → IsRow (P.capacities ++ P.budgets)
  amounts_row some =
      let R = limits.few_renewables in let N = limits.few_nonrenewables in
      let both : length (P.capacities ++ P.budgets) ≡ renewables P + nonrenewables P = length-append P.capacities P.budgets in
      record {
        some = omega arith;
        few = omega arith;
        small = small-append P.capacities P.budgets
            (small_all 1000000 P.capacities (omega arith) (recursion_from_All (λ (c : ℕ). c ≤ 1000000) P.capacities limits.capacities))
            (small_all 1000000 P.budgets (omega arith) (recursion_from_All (λ (b : ℕ). b ≤ 1000000) P.budgets limits.budgets));
      }

  pub amounts_line : 1 ≤ renewables P + nonrenewables P → AreLines (row (P.capacities ++ P.budgets) ∷ []) (P.capacities ++ P.budgets)
  amounts_line some =
      subst (λ (ns : List ℕ). AreLines (row (P.capacities ++ P.budgets) ∷ []) ns) (append-nil (P.capacities ++ P.budgets)) (row_line (P.capacities ++ P.budgets) [] [] (amounts_row some) no_lines)

  -- the lines behind the title
  abbrev behind_title : Bool → List (List ℕ) → List (List ℕ)
  behind_title none rest = cond none [] (spaced (all_labels P) ∷ row (P.capacities ++ P.budgets) ∷ []) ++ stars ∷ rest

  -- the line behind the part
  abbrev behind_amounts : Bool → ℕ
  behind_amounts none = cond none (n + 1 + 1) (n + 1 + 1 + 1 + 1)

  listed : (rest : List (List ℕ)) (none : Bool) → eqb (renewables P + nonrenewables P) 0 ≡ none → HasAmounts none (kept (n + 1) (behind_title none rest)) (amounts_of P) (kept (behind_amounts none) rest)
  listed rest true e = skip (n + 1) _ _ _ stars_rule refl
  listed rest false e =
      let some : 1 ≤ renewables P + nonrenewables P = some_of (renewables P + nonrenewables P) e in
      record {
        heading = line_from (n + 1) (spaced (all_labels P));
        behind = kept (n + 1 + 1) (row (P.capacities ++ P.budgets) ∷ stars ∷ rest);
        lines_are = keep_line (n + 1) _ _ _ (labels_kept some) refl;
        part = part_of (n + 1 + 1) (row (P.capacities ++ P.budgets) ∷ []) rest (P.capacities ++ P.budgets) (amounts_line some);
      }
    where
      some_of : (k : ℕ) → eqb k 0 ≡ false → 1 ≤ k
      some_of zero h = absurd cc
      some_of (suc k) h = omega arith

  availability_are : (rest : List (List ℕ)) → kept n (availability_lines P ++ rest) ≡ line_from n (codes "RESOURCEAVAILABILITIES:") ∷ kept (n + 1) (behind_title (eqb (renewables P + nonrenewables P) 0) rest)
  unfolding availability_lines amount_lines
  availability_are rest =
      keep_line n _ _ _ availability_kept
      (ap (kept (n + 1)) (append_assoc (cond (eqb (renewables P + nonrenewables P) 0) [] (spaced (all_labels P) ∷ row (P.capacities ++ P.budgets) ∷ [])) (stars ∷ []) rest))

  reads_availabilities : (rest : List (List ℕ)) → ReadsAvailabilities (header_of P) (kept n (availability_lines P ++ rest)) (amounts_of P) (kept (behind_amounts (eqb (renewables P + nonrenewables P) 0)) rest)
  reads_availabilities rest = record {
    title = line_from n (codes "RESOURCEAVAILABILITIES:");
    behind = kept (n + 1) (behind_title (eqb (renewables P + nonrenewables P) 0) rest);
    lines_are = availability_are rest;
    title_is = availability_title n;
    listed = listed rest (eqb (renewables P + nonrenewables P) 0) refl;
    limits = amounts_limits P limits;
  }

-- ---- the calendar part

calendar_kept : keep (codes "CALENDAR:") ≡ true
unfolding words_of
calendar_kept = refl

calendar_title : (n : ℕ) → HasTitle (codes "CALENDAR:") (line_from n (codes "CALENDAR:"))
unfolding words_of
calendar_title n = refl

calendar_heading_kept : keep (codes "resource from to capacity") ≡ true
unfolding words_of
calendar_heading_kept = refl

module _ (P : Project) (limits : IsWithinLimits P) (n : ℕ) where
  -- the number of rows, and the rows
  abbrev counted : List (List ℕ)
  counted = decimal (length P.calendar) ∷ map (λ r. row (calendar_row r)) P.calendar

  -- the lines of the part and the end of the text
  abbrev calendar_or : Bool → List (List ℕ)
  calendar_or none = cond none [] (codes "CALENDAR:" ∷ codes "resource from to capacity" ∷ (counted ++ stars ∷ [])) ++ [] ∷ []

  listed_rows : (none : Bool) → eqb (length P.calendar) 0 ≡ none → HasNoCalendar (kept n (calendar_or none)) P.calendar ⊎ ListsRows (kept n (calendar_or none)) P.calendar
  listed_rows true e = inl (kept-none n, nil_from_length P.calendar (eqb-true (length P.calendar) 0 e))
  listed_rows false e =
      let part = part_of (n + 1 + 1) counted ([] ∷ []) (calendar_numbers P.calendar) (calendar_rows P limits) in
      inr (record {
        title = line_from n (codes "CALENDAR:");
        heading = line_from (n + 1) (codes "resource from to capacity");
        behind = kept (n + 1 + 1) (counted ++ stars ∷ [] ∷ []);
        lines_are = keep_line n _ _ _ calendar_kept (keep_line (n + 1) _ _ _ calendar_heading_kept (ap (kept (n + 1 + 1)) (append_assoc counted (stars ∷ []) ([] ∷ []))));
        title_is = calendar_title n;
        part = subst (λ (ls : List Line). HasPart (calendar_numbers P.calendar) (kept (n + 1 + 1) (counted ++ stars ∷ [] ∷ [])) ls) (kept-none (n + 1 + 1 + length counted + 1)) part;
      })

  reads_calendar : ReadsCalendar P.capacities (kept n (calendar_lines P ++ [] ∷ [])) P.calendar
  unfolding calendar_lines
  reads_calendar = record { listed = listed_rows (eqb (length P.calendar) 0) refl; limits = calendar_limits P limits }

-- ---- the whole layout

regroup : (a b c d e f g h : List (List ℕ)) → (a ++ (b ++ (c ++ (d ++ (e ++ (f ++ g)))))) ++ h ≡ a ++ (b ++ (c ++ (d ++ (e ++ (f ++ (g ++ h))))))
regroup a b c d e f g h = simp append_assoc

pub reads_layout : (P : Project) → IsWithinLimits P → ReadsLayout (kept 1 (canonical_lines P ++ [] ∷ [])) (content_of P)
unfolding canonical_lines
reads_layout P w =
    let last : List (List ℕ) = calendar_lines P ++ [] ∷ [] in
    let behind : List (List ℕ) = availability_lines P ++ last in
    let m : ℕ = behind_rows P w in
    let k : ℕ = behind_modes P w m in
    let q : ℕ = behind_amounts P w k (eqb (renewables P + nonrenewables P) 0) in
    let whole = regroup (title_lines P) (resource_lines P) (information_lines P) (precedence_lines P) (requests_lines P) (availability_lines P) (calendar_lines P) ([] ∷ []) in
    subst (λ (ls : List (List ℕ)). ReadsLayout (kept 1 ls) (content_of P)) (sym whole) (record {
      behind_header = behind_header P (precedence_lines P ++ (requests_lines P ++ behind));
      behind_precedence = kept m (requests_lines P ++ behind);
      behind_requests = kept k behind;
      behind_availabilities = kept q last;
      header = reads_header P w (precedence_lines P ++ (requests_lines P ++ behind));
      precedence = reads_precedence P w (requests_lines P ++ behind);
      requests = reads_requests P w m behind;
      availabilities = reads_availabilities P w k last;
      calendar = reads_calendar P w q;
    })
