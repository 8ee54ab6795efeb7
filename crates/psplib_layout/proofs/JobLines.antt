-- The lines of words, and how many words the rows before a job's are.
use Rattle.std.proofs.Common.{◌≡◌, ℕ, ◌+◌, ◌-◌, ◌<◌, ◌≤◌, List, [], ◌∷◌, ◌++◌, length, take, drop, get_or, Ok, refl, sym, ap, ◌∙◌, arith, length-append, length-drop}
use Rattle.std.proofs.lemmas.Bool.{le-ltb, lt-ltb}
use Rattle.std.proofs.lemmas.List.{drop_all, take_more}
use Rattle.psplib_lex.specs.Line.{Line, line_at, lines_of}
use Rattle.psplib_layout.specs.Place.{past}
use Rattle.psplib_layout.specs.Precedence.{JobRow, row_numbers, rows_numbers}
use Rattle.psplib_layout.specs.Layout.{Content}
use Rattle.psplib_layout.specs.Text.{HasContent, line_of_word, row_line, job_line_in}
use Rattle.psplib_layout.proofs.Places.{lines_from, past-zero}
use Rattle.psplib_layout.proofs.Headers.{header_again}
use Rattle.psplib_layout.proofs.PartsRead.{begun, begun_again}

-- the word is on this line
pub line_here : (lines : List Line) (line word left : ℕ) → line < length lines → left < length (line_at lines line).words - word → line_of_word (past word (drop line lines)) left ≡ (line_at lines line).number
line_here lines line word left h k =
    let l = line_at lines line in
    let here : left < length (drop word l.words) = omega (arith, length-drop word l.words) in
    rw (lines_from lines line h, lt-ltb left (length (drop word l.words)) here) refl

-- it is on a later line
pub line_later : (lines : List Line) (line word left : ℕ) → line < length lines → length (line_at lines line).words - word ≤ left → line_of_word (past word (drop line lines)) left ≡ line_of_word (past 0 (drop (line + 1) lines)) (left - (length (line_at lines line).words - word))
line_later lines line word left h k =
    let l = line_at lines line in
    let later : length (drop word l.words) ≤ left = omega (arith, length-drop word l.words) in
    rw (lines_from lines line h, le-ltb left (length (drop word l.words)) later, length-drop word l.words, past-zero) refl

pub line_none : (lines : List Line) (line word left : ℕ) → length lines ≤ line → line_of_word (past word (drop line lines)) left ≡ 0
line_none lines line word left h = rw (drop_all line lines h) refl

length-rows_numbers : (job : ℕ) (rows : List JobRow) (row : JobRow) → length (rows_numbers job (rows ++ row ∷ [])) ≡ length (rows_numbers job rows) + (3 + length row.successors)
length-rows_numbers job [] row = omega (arith, length-append (row_numbers job row) [])
length-rows_numbers job (r ∷ rows) row =
    let e = length-rows_numbers (job + 1) rows row in
    omega (arith, length-append (row_numbers job r) (rows_numbers (job + 1) (rows ++ row ∷ [])), length-append (row_numbers job r) (rows_numbers (job + 1) rows))

-- one row more
pub count_more : (rows : List JobRow) (i : ℕ) (row : JobRow) → i < length rows → row ≡ get_or rows i row → length (rows_numbers 1 (take (i + 1) rows)) ≡ length (rows_numbers 1 (take i rows)) + (3 + length row.successors)
count_more rows i row h e =
    ap (λ (rs : List JobRow). length (rows_numbers 1 rs)) (take_more rows i row h ∙ ap (λ (r : JobRow). take i rows ++ r ∷ []) (sym e)) ∙ length-rows_numbers 1 (take i rows) row

-- a text that has a content has a line for each job
pub job_line_is : (end : ℕ) (text : List ℕ) (content : Content) (h : HasContent text content) (job : ℕ) → job_line_in end (lines_of text) content.rows job ≡ Ok (row_line h.layout.precedence.behind content.rows job)
unfolding job_line_in
job_line_is end text content h job =
    let l = h.layout in
    rw (header_again end (lines_of text) l.behind_header content.header l.header, begun_again end l.behind_header l.precedence.behind (begun content.header l.behind_header l.behind_precedence content.rows l.precedence)) refl
