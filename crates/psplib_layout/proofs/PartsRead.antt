-- Each part, and the whole layout, is read exactly where the lines have it.
use Rattle.std.proofs.Common.{◌≡◌, ℕ, ◌+◌, ◌≤◌, ◌⊎◌, inl, inr, Bool, true, false, cond, List, [], ◌∷◌, ◌++◌, length, map, All, Ok, codes, refl, sym, ap, subst, ◌∙◌, arith, length-append}
use Rattle.std.proofs.lemmas.Bool.Decides.{nat_tests}
use Rattle.std.proofs.lemmas.List.{nil_from_length}
use Rattle.std.proofs.lemmas.List.Elements.{All-from_recursion, All-weaker}
use Rattle.rcpsp_model.specs.declared.parts.CalRow.{CalRow}
use Rattle.rcpsp_model.specs.declared.parts.Mode.{Mode}
use Rattle.psplib_lex.specs.Line.{Line}
use Rattle.psplib_layout.specs.declared.fault.Fault.TheVariants.{WordsLeft}
use Rattle.psplib_layout.specs.Reading.{◌>>=◌, refusal}
use Rattle.psplib_layout.specs.Title.{has_title, titled, skipped_to, any_line, no_more}
use Rattle.psplib_layout.specs.Part.{HasPart, part_in, HaveWords}
use Rattle.psplib_layout.specs.Header.{Header, HasTitle, NoneHasTitle, header_in}
use Rattle.psplib_layout.specs.Precedence.{JobRow, rows_numbers, IsRow, all_rows}
use Rattle.psplib_layout.specs.Requests.{all_modes_numbers, all_modes}
use Rattle.psplib_layout.specs.Availabilities.{Amounts, AreAmounts, all_amounts}
use Rattle.psplib_layout.specs.Calendar.{calendar_numbers, AreCalRows, whole_calendar}
use Rattle.psplib_layout.specs.Layout.{Content, ReadsPrecedence, ReadsRequests, ReadsAvailabilities, ReadsLayout, ListsAmounts, HasAmounts, ListsRows, HasNoCalendar, ReadsCalendar, has_no_resource, mode_counts, no_amounts, rows_begin_in, precedence_in, requests_in, listed_in, availabilities_in, listed_rows_in, calendar_in, layout_in}
use Rattle.psplib_layout.proofs.Steps.{bind_ok, ok_is}
use Rattle.psplib_layout.proofs.Titles.{titled_found, skipped_found, skipped_again, any_found, nothing_left}
use Rattle.psplib_layout.proofs.Whole.{part_found, part_again, words_back}
use Rattle.psplib_layout.proofs.PrecedenceRows.{rows_found, rows_again}
use Rattle.psplib_layout.proofs.ModeRows.{all_found, all_again}
use Rattle.psplib_layout.proofs.AmountRows.{amounts_found, amounts_again}
use Rattle.psplib_layout.proofs.CalendarRows.{calendar_found, calendar_again}
use Rattle.psplib_layout.proofs.Headers.{header_found, header_again}

-- ---- the precedence part

-- the lines up to the first row
pub record Begun (lines rest : List Line) : Type 0 where
  pub unread : List Line
  pub title : Line
  pub heading : Line
  pub lines_are : lines ≡ unread ++ (title ∷ heading ∷ rest)
  pub first : NoneHasTitle (codes "PRECEDENCERELATIONS:") unread
  pub title_is : HasTitle (codes "PRECEDENCERELATIONS:") title

begun_found : (end : ℕ) (lines rest : List Line) → rows_begin_in end lines ≡ Ok rest → Begun lines rest
unfolding rows_begin_in
begun_found end lines rest e =
    let key = codes "PRECEDENCERELATIONS:" in
    let a = bind_ok (skipped_to end key lines) (λ t. any_line end t >>= λ h. any_line end h) rest e in
    let b = bind_ok (any_line end a.0) (λ h. any_line end h) rest a.2 in
    let s = skipped_found end key lines a.0 a.1 in
    let t = any_found end a.0 b.0 b.1 in
    let h = any_found end b.0 rest b.2 in
    let more : s.more ≡ b.0 = let same : s.title ∷ s.more ≡ t.line ∷ b.0 = sym s.rest_is ∙ t.lines_are in cc in
    record {
      unread = s.unread;
      title = s.title;
      heading = h.line;
      lines_are = s.lines_are ∙ ap (λ (ls : List Line). s.unread ++ (s.title ∷ ls)) (more ∙ h.lines_are);
      first = s.none;
      title_is = s.titled;
    }

pub begun_again : (end : ℕ) (lines rest : List Line) → Begun lines rest → rows_begin_in end lines ≡ Ok rest
unfolding rows_begin_in
begun_again end lines rest h = rw (h.lines_are, skipped_again end (codes "PRECEDENCERELATIONS:") h.unread h.title (h.heading ∷ rest) h.first h.title_is) refl

pub precedence_found : (end : ℕ) (header : Header) (lines rest : List Line) (rows : List JobRow) → precedence_in end header lines ≡ Ok (rows, rest) → ReadsPrecedence header lines rows rest
unfolding precedence_in
precedence_found end header lines rest rows e =
    let a = bind_ok (rows_begin_in end lines) (λ r. part_in end (all_rows header.jobs) r) (rows, rest) e in
    let b = begun_found end lines a.0 a.1 in
    let p = part_found end (all_rows header.jobs) a.0 rows rest a.2 in
    let r = rows_found header.jobs header.jobs 1 512 p.numbers rows p.stands in
    record {
      unread = b.unread;
      title = b.title;
      heading = b.heading;
      behind = a.0;
      lines_are = b.lines_are;
      first = b.first;
      title_is = b.title_is;
      part = subst (λ (ns : List ℕ). HasPart ns a.0 rest) r.same p.part;
      limits = record { count = r.count; each = r.each; modes = r.modes };
    }

pub begun : (header : Header) (lines rest : List Line) (rows : List JobRow) (h : ReadsPrecedence header lines rows rest) → Begun lines h.behind
begun header lines rest rows h = record { unread = h.unread; title = h.title; heading = h.heading; lines_are = h.lines_are; first = h.first; title_is = h.title_is }

some_numbers : (job : ℕ) (rows : List JobRow) → 1 ≤ length rows → 1 ≤ length (rows_numbers job rows)
some_numbers job [] h = absurd (omega arith)
some_numbers job (row ∷ rows) h = omega arith

pub precedence_again : (end : ℕ) (header : Header) (lines rest : List Line) (rows : List JobRow) → 1 ≤ header.jobs → HaveWords lines → ReadsPrecedence header lines rows rest → precedence_in end header lines ≡ Ok (rows, rest)
unfolding precedence_in
precedence_again end header lines rest rows some words h =
    let all = words_back h.unread (h.title ∷ h.heading ∷ h.behind) (subst HaveWords h.lines_are words) in
    let numbers = some_numbers 1 rows (omega (arith, h.limits.count)) in
    let stands = rows_again header.jobs header.jobs 1 512 rows h.limits.count h.limits.each h.limits.modes in
    rw (begun_again end lines h.behind (begun header lines rest rows h)) (part_again end (all_rows header.jobs) h.behind rows rest (rows_numbers 1 rows) numbers all.1.1 h.part stands)

-- ---- the requests part

pub requests_found : (end : ℕ) (header : Header) (rows : List JobRow) (lines rest : List Line) (modes : List (List Mode)) → requests_in end header rows lines ≡ Ok (modes, rest) → ReadsRequests header rows lines modes rest
unfolding requests_in
requests_found end header rows lines rest modes e =
    let key = codes "REQUESTS/DURATIONS:" in
    let wanted = all_modes header.renewables header.nonrenewables 1 (mode_counts rows) in
    let a = bind_ok (titled end key lines) (λ t. any_line end t.1 >>= λ m. part_in end wanted m) (modes, rest) e in
    let b = bind_ok (any_line end a.0.1) (λ m. part_in end wanted m) (modes, rest) a.2 in
    let t = titled_found end key lines a.0 a.1 in
    let h = any_found end a.0.1 b.0 b.1 in
    let p = part_found end wanted b.0 modes rest b.2 in
    let r = all_found header.renewables header.nonrenewables 1 (mode_counts rows) p.numbers modes p.stands in
    record {
      title = a.0.0;
      heading = h.line;
      behind = b.0;
      lines_are = t.lines_are ∙ ap (λ (ls : List Line). a.0.0 ∷ ls) h.lines_are;
      title_is = t.titled;
      part = subst (λ (ns : List ℕ). HasPart ns b.0 rest) r.same p.part;
      limits = record { counts_are = r.counts_are; each = r.each };
    }

some_modes : (job : ℕ) (rows : List JobRow) (modes : List (List Mode)) → 1 ≤ length rows → map (λ ms. length ms) modes ≡ mode_counts rows → 1 ≤ length (all_modes_numbers job modes)
some_modes job [] modes h e = absurd (omega arith)
some_modes job (row ∷ rows) [] h e = absurd cc
some_modes job (row ∷ rows) (ms ∷ more) h e = omega arith

pub requests_again : (end : ℕ) (header : Header) (rows : List JobRow) (lines rest : List Line) (modes : List (List Mode)) → 1 ≤ length rows → HaveWords lines → ReadsRequests header rows lines modes rest → requests_in end header rows lines ≡ Ok (modes, rest)
unfolding requests_in
requests_again end header rows lines rest modes some words h =
    let all = subst HaveWords h.lines_are words in
    let wanted = all_modes header.renewables header.nonrenewables 1 (mode_counts rows) in
    let numbers = some_modes 1 rows modes some h.limits.counts_are in
    let stands = all_again header.renewables header.nonrenewables 1 (mode_counts rows) modes h.limits.counts_are h.limits.each in
    rw (h.lines_are, h.title_is) (part_again end wanted h.behind modes rest (all_modes_numbers 1 modes) numbers all.1.1 h.part stands)

-- ---- the availabilities part

listed_found : (end : ℕ) (header : Header) (lines rest : List Line) (amounts : Amounts) → listed_in end header lines ≡ Ok (amounts, rest) → ListsAmounts lines amounts rest × AreAmounts header.renewables header.nonrenewables amounts
unfolding listed_in
listed_found end header lines rest amounts e =
    let wanted = all_amounts header.renewables header.nonrenewables in
    let a = bind_ok (any_line end lines) (λ m. part_in end wanted m) (amounts, rest) e in
    let h = any_found end lines a.0 a.1 in
    let p = part_found end wanted a.0 amounts rest a.2 in
    let r = amounts_found header.renewables header.nonrenewables p.numbers amounts p.stands in
    (record { heading = h.line; behind = a.0; lines_are = h.lines_are; part = subst (λ (ns : List ℕ). HasPart ns a.0 rest) r.same p.part }, r.limits)

listed_again : (end : ℕ) (header : Header) (lines rest : List Line) (amounts : Amounts) → 1 ≤ header.renewables + header.nonrenewables → HaveWords lines → AreAmounts header.renewables header.nonrenewables amounts → ListsAmounts lines amounts rest → listed_in end header lines ≡ Ok (amounts, rest)
unfolding listed_in
listed_again end header lines rest amounts some words limits h =
    let all = subst HaveWords h.lines_are words in
    let numbers : 1 ≤ length (amounts.capacities ++ amounts.budgets) = omega (arith, length-append amounts.capacities amounts.budgets, limits.all_capacities, limits.all_budgets) in
    let stands = amounts_again header.renewables header.nonrenewables amounts limits in
    rw h.lines_are (part_again end (all_amounts header.renewables header.nonrenewables) h.behind amounts rest (amounts.capacities ++ amounts.budgets) numbers all.1 h.part stands)

none_of_each : (header : Header) → has_no_resource header ≡ true → (header.renewables ≡ 0) × (header.nonrenewables ≡ 0)
none_of_each header h =
    let sum : header.renewables + header.nonrenewables ≡ 0 = grind (arith, nat_tests) in
    (omega arith, omega arith)

some_of_one : (header : Header) → has_no_resource header ≡ false → 1 ≤ header.renewables + header.nonrenewables
some_of_one header h = grind (arith, nat_tests)

-- what stands behind the title
behind_title : (end : ℕ) (header : Header) (title : Line) (lines behind rest : List Line) (amounts : Amounts) → lines ≡ title ∷ behind → has_title (codes "RESOURCEAVAILABILITIES:") title ≡ true → (b : Bool) → has_no_resource header ≡ b → cond b (Ok (no_amounts, behind)) (listed_in end header behind) ≡ Ok (amounts, rest) → ReadsAvailabilities header lines amounts rest
behind_title end header title lines behind rest amounts l h true n f =
    let zero = none_of_each header n in
    let found : ReadsAvailabilities header lines no_amounts behind = record {
      title = title;
      behind = behind;
      lines_are = l;
      title_is = h;
      listed = subst (λ (b : Bool). HasAmounts b behind no_amounts behind) (sym n) refl;
      limits = record { all_capacities = sym zero.0; all_budgets = sym zero.1; capacities = tt; budgets = tt };
    } in
    subst (λ (x : Amounts × List Line). ReadsAvailabilities header lines x.0 x.1) (ok_is (no_amounts, behind) (amounts, rest) f) found
behind_title end header title lines behind rest amounts l h false n f =
    let k = listed_found end header behind rest amounts f in
    record {
      title = title;
      behind = behind;
      lines_are = l;
      title_is = h;
      listed = subst (λ (b : Bool). HasAmounts b behind amounts rest) (sym n) k.0;
      limits = k.1;
    }

pub availabilities_found : (end : ℕ) (header : Header) (lines rest : List Line) (amounts : Amounts) → availabilities_in end header lines ≡ Ok (amounts, rest) → ReadsAvailabilities header lines amounts rest
unfolding availabilities_in
availabilities_found end header lines rest amounts e =
    let key = codes "RESOURCEAVAILABILITIES:" in
    let a = bind_ok (titled end key lines) (λ t. cond (has_no_resource header) (Ok (no_amounts, t.1)) (listed_in end header t.1)) (amounts, rest) e in
    let t = titled_found end key lines a.0 a.1 in
    behind_title end header a.0.0 lines a.0.1 rest amounts t.lines_are t.titled (has_no_resource header) refl a.2

none_again : (header : Header) (amounts : Amounts) → has_no_resource header ≡ true → AreAmounts header.renewables header.nonrenewables amounts → no_amounts ≡ amounts
none_again header amounts n h =
    let zero = none_of_each header n in
    let capacities : [] ≡ amounts.capacities = sym (nil_from_length amounts.capacities (h.all_capacities ∙ zero.0)) in
    let budgets : [] ≡ amounts.budgets = sym (nil_from_length amounts.budgets (h.all_budgets ∙ zero.1)) in
    ap (λ (cs : List ℕ). let made : Amounts = record { capacities = cs; budgets = [] } in made) capacities
    ∙ ap (λ (bs : List ℕ). let made : Amounts = record { capacities = amounts.capacities; budgets = bs } in made) budgets

listed_or_none : (end : ℕ) (header : Header) (behind rest : List Line) (amounts : Amounts) → HaveWords behind → AreAmounts header.renewables header.nonrenewables amounts → (b : Bool) → has_no_resource header ≡ b → HasAmounts b behind amounts rest → cond b (Ok (no_amounts, behind)) (listed_in end header behind) ≡ Ok (amounts, rest)
listed_or_none end header behind rest amounts words limits true n listed = rw (none_again header amounts n limits, listed) refl
listed_or_none end header behind rest amounts words limits false n listed = listed_again end header behind rest amounts (some_of_one header n) words limits listed

pub availabilities_again : (end : ℕ) (header : Header) (lines rest : List Line) (amounts : Amounts) → HaveWords lines → ReadsAvailabilities header lines amounts rest → availabilities_in end header lines ≡ Ok (amounts, rest)
unfolding availabilities_in
availabilities_again end header lines rest amounts words h =
    let all = subst HaveWords h.lines_are words in
    rw (h.lines_are, h.title_is) (listed_or_none end header h.behind rest amounts all.1 h.limits (has_no_resource header) refl h.listed)

-- ---- the calendar part

no_calendar : (capacities : List ℕ) (lines : List Line) → lines ≡ [] → ReadsCalendar capacities lines []
no_calendar capacities lines none = record { listed = inl (none, refl); limits = record { few_rows = omega arith; each = tt; in_order = tt } }

-- what stands behind the title
listed_rows_found : (end : ℕ) (capacities : List ℕ) (title : Line) (lines : List Line) (rows : List CalRow) → has_title (codes "CALENDAR:") title ≡ true → listed_rows_in end capacities lines ≡ Ok rows → ReadsCalendar capacities (title ∷ lines) rows
unfolding listed_rows_in
listed_rows_found end capacities title lines rows t e =
    let wanted = whole_calendar capacities in
    let a = bind_ok (any_line end lines) (λ h. part_in end wanted h >>= λ r. no_more r.1 >>= λ n. Ok r.0) rows e in
    let b = bind_ok (part_in end wanted a.0) (λ r. no_more r.1 >>= λ n. Ok r.0) rows a.2 in
    let c = bind_ok (no_more b.0.1) (λ n. Ok b.0.0) rows b.2 in
    let h = any_found end lines a.0 a.1 in
    let p = part_found end wanted a.0 b.0.0 b.0.1 b.1 in
    let f = calendar_found capacities p.numbers b.0.0 p.stands in
    let none : b.0.1 ≡ [] = nothing_left b.0.1 c.0 c.1 in
    let found : ReadsCalendar capacities (title ∷ lines) b.0.0 = record {
      listed = inr (record {
        title = title;
        heading = h.line;
        behind = a.0;
        lines_are = ap (λ (ls : List Line). title ∷ ls) h.lines_are;
        title_is = t;
        part = subst (λ (ns : List ℕ). HasPart ns a.0 []) f.same (subst (λ (ls : List Line). HasPart p.numbers a.0 ls) none p.part);
      });
      limits = f.limits;
    } in
    subst (ReadsCalendar capacities (title ∷ lines)) (ok_is b.0.0 rows c.2) found

pub calendar_found_in : (end : ℕ) (capacities : List ℕ) (lines : List Line) (rows : List CalRow) → calendar_in end capacities lines ≡ Ok rows → ReadsCalendar capacities lines rows
calendar_found_in end capacities [] rows e = subst (ReadsCalendar capacities []) (ok_is [] rows e) (no_calendar capacities [] refl)
calendar_found_in end capacities (line ∷ more) rows e = go (has_title (codes "CALENDAR:") line) refl e
  where
    go : (t : Bool) → has_title (codes "CALENDAR:") line ≡ t → cond t (listed_rows_in end capacities more) (refusal WordsLeft line.number) ≡ Ok rows → ReadsCalendar capacities (line ∷ more) rows
    go true t f = listed_rows_found end capacities line more rows t f
    go false t f = absurd cc

listed_rows_again : (end : ℕ) (capacities : List ℕ) (lines : List Line) (rows : List CalRow) → HaveWords lines → AreCalRows capacities rows → ListsRows lines rows → calendar_in end capacities lines ≡ Ok rows
unfolding listed_rows_in
listed_rows_again end capacities lines rows words limits h =
    let all = subst HaveWords h.lines_are words in
    let numbers : 1 ≤ length (calendar_numbers rows) = omega arith in
    let stands = calendar_again capacities rows limits in
    rw (h.lines_are, h.title_is, part_again end (whole_calendar capacities) h.behind rows [] (calendar_numbers rows) numbers all.1.1 h.part stands) refl

pub calendar_again_in : (end : ℕ) (capacities : List ℕ) (lines : List Line) (rows : List CalRow) → HaveWords lines → ReadsCalendar capacities lines rows → calendar_in end capacities lines ≡ Ok rows
calendar_again_in end capacities lines rows words h = go h.listed
  where
    go : HasNoCalendar lines rows ⊎ ListsRows lines rows → calendar_in end capacities lines ≡ Ok rows
    go (inl none) = rw (none.0, none.1) refl
    go (inr listed) = listed_rows_again end capacities lines rows words h.limits listed

-- ---- the whole layout

part_rest : (numbers : List ℕ) (lines rest : List Line) → HasPart numbers lines rest → HaveWords lines → HaveWords rest
part_rest numbers lines rest p words = words_back p.part rest (subst HaveWords p.lines_are words)

-- the lines behind the availabilities have words too
behind_amounts : (b : Bool) (lines : List Line) (amounts : Amounts) (rest : List Line) → HasAmounts b lines amounts rest → HaveWords lines → HaveWords rest
behind_amounts true lines amounts rest same words = subst HaveWords same words
behind_amounts false lines amounts rest listed words = part_rest _ listed.behind rest listed.part (subst HaveWords listed.lines_are words).1

pub layout_found : (end : ℕ) (lines : List Line) (content : Content) → layout_in end lines ≡ Ok content → ReadsLayout lines content
unfolding layout_in
layout_found end lines content e =
    let a = bind_ok (header_in end lines) (λ h. precedence_in end h.0 h.1 >>= λ r. requests_in end h.0 r.0 r.1 >>= λ m. availabilities_in end h.0 m.1 >>= λ x. calendar_in end x.0.capacities x.1 >>= λ k. Ok (record { header = h.0; rows = r.0; modes = m.0; amounts = x.0; calendar = k })) content e in
    let b = bind_ok (precedence_in end a.0.0 a.0.1) (λ r. requests_in end a.0.0 r.0 r.1 >>= λ m. availabilities_in end a.0.0 m.1 >>= λ x. calendar_in end x.0.capacities x.1 >>= λ k. Ok (record { header = a.0.0; rows = r.0; modes = m.0; amounts = x.0; calendar = k })) content a.2 in
    let c = bind_ok (requests_in end a.0.0 b.0.0 b.0.1) (λ m. availabilities_in end a.0.0 m.1 >>= λ x. calendar_in end x.0.capacities x.1 >>= λ k. Ok (record { header = a.0.0; rows = b.0.0; modes = m.0; amounts = x.0; calendar = k })) content b.2 in
    let d = bind_ok (availabilities_in end a.0.0 c.0.1) (λ x. calendar_in end x.0.capacities x.1 >>= λ k. Ok (record { header = a.0.0; rows = b.0.0; modes = c.0.0; amounts = x.0; calendar = k })) content c.2 in
    let f = bind_ok (calendar_in end d.0.0.capacities d.0.1) (λ k. Ok (record { header = a.0.0; rows = b.0.0; modes = c.0.0; amounts = d.0.0; calendar = k })) content d.2 in
    let read : Content = record { header = a.0.0; rows = b.0.0; modes = c.0.0; amounts = d.0.0; calendar = f.0 } in
    let found : ReadsLayout lines read = record {
      behind_header = a.0.1;
      behind_precedence = b.0.1;
      behind_requests = c.0.1;
      behind_availabilities = d.0.1;
      header = header_found end lines a.0.1 a.0.0 a.1;
      precedence = precedence_found end a.0.0 a.0.1 b.0.1 b.0.0 b.1;
      requests = requests_found end a.0.0 b.0.0 b.0.1 c.0.1 c.0.0 c.1;
      availabilities = availabilities_found end a.0.0 c.0.1 d.0.1 d.0.0 d.1;
      calendar = calendar_found_in end d.0.0.capacities d.0.1 f.0 f.1;
    } in
    subst (ReadsLayout lines) (ok_is read content f.2) found

pub layout_again : (end : ℕ) (lines : List Line) (content : Content) → HaveWords lines → ReadsLayout lines content → layout_in end lines ≡ Ok content
unfolding layout_in
layout_again end lines content words h =
    let e = h.header in
    let w1 : HaveWords h.behind_header = (words_back e.unread _ (subst HaveWords e.lines_are words)).1.1.1.1.1.1.1.1 in
    let p = h.precedence in
    let w2 : HaveWords h.behind_precedence = part_rest _ p.behind h.behind_precedence p.part (words_back p.unread _ (subst HaveWords p.lines_are w1)).1.1 in
    let r = h.requests in
    let w3 : HaveWords h.behind_requests = part_rest _ r.behind h.behind_requests r.part (subst HaveWords r.lines_are w2).1.1 in
    let a = h.availabilities in
    let w4 : HaveWords h.behind_availabilities = behind_amounts (has_no_resource content.header) a.behind content.amounts h.behind_availabilities a.listed (subst HaveWords a.lines_are w3).1 in
    let some : 1 ≤ length content.rows = omega (arith, p.limits.count, e.some_job) in
    rw (header_again end lines h.behind_header content.header e, precedence_again end content.header h.behind_header h.behind_precedence content.rows e.some_job w1 p, requests_again end content.header content.rows h.behind_precedence h.behind_requests content.modes some w2 r, availabilities_again end content.header h.behind_requests h.behind_availabilities content.amounts w3 a, calendar_again_in end content.amounts.capacities h.behind_availabilities content.calendar w4 h.calendar) refl

-- ---- limits of what was read

pub few_rows : (end : ℕ) (header : Header) (lines rest : List Line) (rows : List JobRow) → header.jobs ≤ 128 → precedence_in end header lines ≡ Ok (rows, rest) → length rows ≤ 128
few_rows end header lines rest rows few e = omega (arith, (precedence_found end header lines rest rows e).limits.count)

pub few_modes : (end : ℕ) (header : Header) (lines rest : List Line) (rows : List JobRow) → precedence_in end header lines ≡ Ok (rows, rest) → All (λ row. row.modes ≤ 16) rows
few_modes end header lines rest rows e =
    All-weaker (IsRow header.jobs) (λ (row : JobRow). row.modes ≤ 16) (λ row limits. limits.few_modes) rows (All-from_recursion (IsRow header.jobs) rows (precedence_found end header lines rest rows e).limits.each)

pub few_capacities : (end : ℕ) (header : Header) (lines rest : List Line) (amounts : Amounts) → header.renewables ≤ 16 → availabilities_in end header lines ≡ Ok (amounts, rest) → length amounts.capacities ≤ 16
few_capacities end header lines rest amounts few e = let count = (availabilities_found end header lines rest amounts e).limits.all_capacities in omega arith

pub small_capacities : (end : ℕ) (header : Header) (lines rest : List Line) (amounts : Amounts) → availabilities_in end header lines ≡ Ok (amounts, rest) → All (λ c. c ≤ 1000000) amounts.capacities
small_capacities end header lines rest amounts e = All-from_recursion (λ c. c ≤ 1000000) amounts.capacities (availabilities_found end header lines rest amounts e).limits.capacities
