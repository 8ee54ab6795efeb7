-- The lines that a reader finds are those of the bytes that it was fed.
use Rattle.std.proofs.Common.{◌≡◌, ℕ, suc, ◌+◌, ◌<◌, ◌≤◌, ◌∙◌, inl, inr, arith, refl, sym, ap, min, true, false, not, append_assoc, List, [], ◌∷◌, ◌++◌, length, length-append, length-drop, take, drop}
use Rattle.std.specs.Prelude.{◌==◌, nat_lt, position, unwrap_or}
use Rattle.std.specs.List.{position_or_len}
use Rattle.std.proofs.lemmas.Bool.{cases_lt, cases_Bool}
use Rattle.std.proofs.lemmas.Bool.Decides.{nat_tests}
use Rattle.std.proofs.lemmas.List.{append-nil, take_all, drop_all, drop-drop}
use Rattle.std.proofs.lemmas.List.Sums.{prefix_len-le-length}
use Rattle.proof_log.specs.declared.line_reader.LineStep.{LineStep}
use Rattle.proof_log.specs.declared.line_reader.LineStep.TheVariants.{More, Line, TooLong}
use Rattle.proof_log.specs.Lines.{is_line_end, line_len, ReaderState, Fed, fed_line, fed_after, fed, after_piece, lines_after, left_after, lines_left}

pub line_len-position : (bytes : List ℕ) → unwrap_or (position is_line_end bytes) (length bytes) ≡ line_len bytes
unfolding line_len
line_len-position bytes = elim (cases_lt (position_or_len is_line_end bytes) (length bytes)) [
  | inl less ↦ let test : nat_lt (position_or_len is_line_end bytes) (length bytes) ≡ true = grind (arith, nat_tests) in rw test
  | inr all ↦
      let test : nat_lt (position_or_len is_line_end bytes) (length bytes) ≡ false = grind (arith, nat_tests) in
      rw test (omega (arith, prefix_len-le-length (λ byte. not (is_line_end byte)) bytes))
]

pub line_len-le : (bytes : List ℕ) → line_len bytes ≤ length bytes
unfolding line_len
line_len-le bytes = prefix_len-le-length (λ byte. not (is_line_end byte)) bytes

len-end : (byte : ℕ) (bytes : List ℕ) → is_line_end byte ≡ true → line_len (byte ∷ bytes) ≡ 0
unfolding line_len
len-end byte bytes h = rw h

len-other : (byte : ℕ) (bytes : List ℕ) → is_line_end byte ≡ false → line_len (byte ∷ bytes) ≡ 1 + line_len bytes
unfolding line_len
len-other byte bytes h = rw h

lines-end : (line : List ℕ) (byte : ℕ) (bytes : List ℕ) → is_line_end byte ≡ true → lines_after line (byte ∷ bytes) ≡ line ∷ lines_after [] bytes
unfolding lines_after
lines-end line byte bytes h = rw h

lines-other : (line : List ℕ) (byte : ℕ) (bytes : List ℕ) → is_line_end byte ≡ false → length line == 64 ≡ false → lines_after line (byte ∷ bytes) ≡ lines_after (line ++ byte ∷ []) bytes
unfolding lines_after
lines-other line byte bytes h k = rw (h, k)

lines-long : (line : List ℕ) (byte : ℕ) (bytes : List ℕ) → is_line_end byte ≡ false → length line == 64 ≡ true → lines_after line (byte ∷ bytes) ≡ []
unfolding lines_after
lines-long line byte bytes h k = rw (h, k)

-- a piece without LF goes on with the line
goes_on : (line piece more : List ℕ) → line_len piece ≡ length piece → length line + length piece ≤ 64 → lines_after line (piece ++ more) ≡ lines_after (line ++ piece) more
goes_on line [] more all short = ap (λ (xs : List ℕ). lines_after xs more) (sym (append-nil line))
goes_on line (byte ∷ piece) more all short = elim (cases_Bool (is_line_end byte)) [
  | inl end ↦ absurd (omega (arith, len-end byte piece end))
  | inr other ↦
      let few : length line == 64 ≡ false = grind (arith, nat_tests) in
      lines-other line byte (piece ++ more) other few
      ∙ goes_on (line ++ byte ∷ []) piece more (omega (arith, len-other byte piece other)) (omega (arith, length-append line (byte ∷ [])))
      ∙ ap (λ (xs : List ℕ). lines_after xs more) (append_assoc line (byte ∷ []) piece)
]

-- a piece with LF ends it
ends : (line piece more : List ℕ) → line_len piece < length piece → length line + line_len piece ≤ 64 → lines_after line (piece ++ more) ≡ (line ++ take (line_len piece) piece) ∷ lines_after [] (drop (line_len piece + 1) piece ++ more)
ends line [] more some short = absurd (omega arith)
ends line (byte ∷ piece) more some short = elim (cases_Bool (is_line_end byte)) [
  | inl end ↦
      rw (len-end byte piece end)
      (lines-end line byte (piece ++ more) end ∙ ap (λ (xs : List ℕ). xs ∷ lines_after [] (piece ++ more)) (sym (append-nil line)))
  | inr other ↦
      let few : length line == 64 ≡ false = grind (arith, nat_tests, len-other byte piece other) in
      let next = len-other byte piece other in
      let one : line_len piece < length piece = omega (arith, next) in
      let two : length (line ++ byte ∷ []) + line_len piece ≤ 64 = omega (arith, next, length-append line (byte ∷ [])) in
      lines-other line byte (piece ++ more) other few
      ∙ ends (line ++ byte ∷ []) piece more one two
      ∙ ap (λ (xs : List ℕ). xs ∷ lines_after [] (drop (line_len piece + 1) piece ++ more)) (append_assoc line (byte ∷ []) (take (line_len piece) piece) ∙ ap (λ (i : ℕ). line ++ take i (byte ∷ piece)) (one_more next))
      ∙ ap (λ (i : ℕ). (line ++ take (line_len (byte ∷ piece)) (byte ∷ piece)) ∷ lines_after [] (drop i (byte ∷ piece) ++ more)) (two_more next)
]
  where
    one_more : line_len (byte ∷ piece) ≡ 1 + line_len piece → suc (line_len piece) ≡ line_len (byte ∷ piece)
    one_more e = omega arith

    two_more : line_len (byte ∷ piece) ≡ 1 + line_len piece → suc (line_len piece + 1) ≡ line_len (byte ∷ piece) + 1
    two_more e = omega arith

-- a line that is too long ends the lines
stops : (line piece more : List ℕ) → 64 < length line + line_len piece → length line ≤ 64 → lines_after line (piece ++ more) ≡ []
unfolding line_len
stops line [] more long short = absurd (omega arith)
stops line (byte ∷ piece) more long short = elim (cases_Bool (is_line_end byte)) [
  | inl end ↦ absurd (omega (arith, len-end byte piece end))
  | inr other ↦ elim (cases_Bool (length line == 64)) [
    | inl full ↦ lines-long line byte (piece ++ more) other full
    | inr few ↦
        let less : length line + 1 ≤ 64 = grind (arith, nat_tests) in
        lines-other line byte (piece ++ more) other few ∙ stops (line ++ byte ∷ []) piece more (omega (arith, len-other byte piece other, length-append line (byte ∷ []))) (omega (arith, length-append line (byte ∷ [])))
  ]
]

-- the line that a piece ended, where it ended one
abbrev pub ended_by : LineStep → List ℕ → List (List ℕ)
ended_by More line = []
ended_by Line line = line ∷ []
ended_by TooLong line = []

-- what a piece made of a line, and what is left of it
abbrev pub found_by : Fed → List ℕ → List ℕ → List (List ℕ)
found_by f piece more = ended_by f.step f.line ++ left_after f.step f.line (drop f.taken piece ++ more)

found_line : (line piece more : List ℕ) → length line ≤ 64 → lines_after line (piece ++ more) ≡ found_by (fed_line line piece) piece more
unfolding fed_line
found_line line piece more short = elim (cases_lt 64 (length line + line_len piece)) [
  | inl long ↦ let test : nat_lt 64 (length line + line_len piece) ≡ true = grind (arith, nat_tests) in rw test (stops line piece more long short)
  | inr fits ↦
      let test : nat_lt 64 (length line + line_len piece) ≡ false = grind (arith, nat_tests) in
      elim (cases_lt (line_len piece) (length piece)) [
        | inl some ↦
            let there : nat_lt (line_len piece) (length piece) ≡ true = grind (arith, nat_tests) in
            let count : min (line_len piece + 1) (length piece) ≡ line_len piece + 1 = omega arith in
            rw (test, there, count) (ends line piece more some fits)
        | inr all ↦
            let there : nat_lt (line_len piece) (length piece) ≡ false = grind (arith, nat_tests) in
            let count : line_len piece ≡ length piece = omega (arith, line_len-le piece) in
            rw (test, there, take_all (line_len piece) piece all, drop_all (min (line_len piece + 1) (length piece)) piece (omega arith)) (goes_on line piece more count (omega arith))
      ]
]

found_after : (last : LineStep) (line piece more : List ℕ) → length line ≤ 64 → left_after last line (piece ++ more) ≡ found_by (fed_after last line piece) piece more
found_after More line piece more short = found_line line piece more short
found_after Line line piece more short = found_line [] piece more (omega arith)
found_after TooLong line piece more short = refl

-- the lines that are left are what a piece brings and what is left after it
pub found_fed : (reader : ReaderState) (piece more : List ℕ) → length reader.line ≤ 64 → lines_left reader (piece ++ more) ≡ ended_by (fed reader piece).step (fed reader piece).line ++ lines_left (after_piece reader piece) (drop (fed reader piece).taken piece ++ more)
found_fed reader piece more short = found_after reader.last reader.line piece more short

line_takes_some : (line piece : List ℕ) → (fed_line line piece).step ≡ Line → 1 ≤ (fed_line line piece).taken
unfolding fed_line
line_takes_some line piece h = elim (cases_Bool (nat_lt 64 (length line + line_len piece))) [
  | inl long ↦ absurd (cc (rw long at h))
  | inr fits ↦ elim (cases_lt (line_len piece) (length piece)) [
    | inl some ↦ rw fits (omega arith)
    | inr all ↦ let there : nat_lt (line_len piece) (length piece) ≡ false = grind (arith, nat_tests) in absurd (cc (rw (fits, there) at h))
  ]
]

-- a piece that ends a line has at least its LF
pub some_taken : (last : LineStep) (line piece : List ℕ) → (fed_after last line piece).step ≡ Line → 1 ≤ (fed_after last line piece).taken
some_taken More line piece h = line_takes_some line piece h
some_taken Line line piece h = line_takes_some [] piece h
some_taken TooLong line piece h = absurd (cc)

line_takes_all : (line piece : List ℕ) → (fed_line line piece).step ≡ More → length piece ≤ (fed_line line piece).taken
unfolding fed_line
line_takes_all line piece h = elim (cases_Bool (nat_lt 64 (length line + line_len piece))) [
  | inl long ↦ absurd (cc (rw long at h))
  | inr fits ↦ elim (cases_lt (line_len piece) (length piece)) [
    | inl some ↦ let there : nat_lt (line_len piece) (length piece) ≡ true = grind (arith, nat_tests) in absurd (cc (rw (fits, there) at h))
    | inr all ↦ rw fits (omega arith)
  ]
]

-- where the line goes on, all of a piece was taken
pub all_taken : (last : LineStep) (line piece : List ℕ) → (fed_after last line piece).step ≡ More → length piece ≤ (fed_after last line piece).taken
all_taken More line piece h = line_takes_all line piece h
all_taken Line line piece h = line_takes_all [] piece h
all_taken TooLong line piece h = absurd (cc)

module _ (reader new : ReaderState) (piece part : List ℕ) (at taken : ℕ) (whole : part ≡ drop at piece) (short : length reader.line ≤ 64) (after : new ≡ after_piece reader part) (same : taken ≡ (fed reader part).taken) where
  left : (more : List ℕ) → lines_left reader (drop at piece ++ more) ≡ ended_by new.last new.line ++ lines_left new (drop (at + taken) piece ++ more)
  left more =
      let rest : drop taken part ≡ drop (at + taken) piece = ap (λ (xs : List ℕ). drop taken xs) whole ∙ drop-drop taken at piece ∙ ap (λ (i : ℕ). drop i piece) (omega arith) in
      ap (λ (xs : List ℕ). lines_left reader (xs ++ more)) (sym whole)
      ∙ found_fed reader part more short
      ∙ ap (λ (r : ReaderState). ended_by r.last r.line ++ lines_left r (drop (fed reader part).taken part ++ more)) (sym after)
      ∙ ap (λ (i : ℕ). ended_by new.last new.line ++ lines_left new (drop i part ++ more)) (sym same)
      ∙ ap (λ (xs : List ℕ). ended_by new.last new.line ++ lines_left new (xs ++ more)) rest

  -- a line that has ended joins the lines found
  pub line_joins : new.last ≡ Line → (found : List (List ℕ)) (more : List ℕ) → (found ++ new.line ∷ []) ++ lines_left new (drop (at + taken) piece ++ more) ≡ found ++ lines_left reader (drop at piece ++ more)
  line_joins step found more =
      append_assoc found (new.line ∷ []) (lines_left new (drop (at + taken) piece ++ more))
      ∙ ap (λ (xs : List (List ℕ)). found ++ xs) (ap (λ (s : LineStep). ended_by s new.line ++ lines_left new (drop (at + taken) piece ++ more)) (sym step) ∙ sym (left more))

  -- where a piece has ended, the lines that are left are those of what comes
  pub piece_ends : new.last ≡ More → (more : List ℕ) → lines_left new more ≡ lines_left reader (drop at piece ++ more)
  piece_ends step more =
      let last : (fed reader part).step ≡ More = ap (λ (r : ReaderState). r.last) (sym after) ∙ step in
      let all = all_taken reader.last reader.line part last in
      let none : drop (at + taken) piece ≡ [] = drop_all (at + taken) piece (omega (arith, length-drop at piece, ap length whole)) in
      sym (left more ∙ ap (λ (s : LineStep). ended_by s new.line ++ lines_left new (drop (at + taken) piece ++ more)) step ∙ ap (λ (xs : List ℕ). lines_left new (xs ++ more)) none)

  -- after a line that is too long nothing is left
  pub nothing_left : new.last ≡ TooLong → (more : List ℕ) → lines_left new more ≡ lines_left reader (drop at piece ++ more)
  nothing_left step more =
      ap (λ (s : LineStep). left_after s new.line more) step
      ∙ sym (left more ∙ ap (λ (s : LineStep). ended_by s new.line ++ left_after s new.line (drop (at + taken) piece ++ more)) step)

-- nothing is found in nothing
pub nothing_found : (reader : ReaderState) → lines_left reader [] ≡ []
unfolding lines_after
nothing_found reader = at reader.last
  where
    at : (last : LineStep) → left_after last reader.line [] ≡ []
    at More = refl
    at Line = refl
    at TooLong = refl
