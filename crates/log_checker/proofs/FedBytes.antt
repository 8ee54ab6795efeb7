-- What a reader makes of a piece, as lines of the text.
use Rattle.std.proofs.Common.{◌≡◌, ℕ, zero, suc, ◌+◌, ◌-◌, ◌<◌, ◌≤◌, min, inl, inr, arith, refl, sym, ap, subst, ◌∙◌, List, [], ◌∷◌, ◌++◌, length, length-append, length-take, length-drop, take, drop, append_assoc, true, false, Some, None}
use Rattle.std.specs.Prelude.{nat_lt, Ok, Err}
use Rattle.std.proofs.lemmas.Bool.{cases_Bool, cases_lt}
use Rattle.std.proofs.lemmas.Bool.Decides.{nat_tests}
use Rattle.std.proofs.lemmas.List.{append-nil, take_all, take-append-drop}
use Rattle.rcpsp_model.specs.Project.{Project, IsWithinLimits}
use Rattle.proof_log.specs.declared.line_reader.LineStep.{LineStep}
use Rattle.proof_log.specs.declared.line_reader.LineStep.TheVariants.{More, Line, TooLong}
use Rattle.proof_log.specs.Lines.{line_len, ReaderState, Fed, fed_line, fed_after, fed, after_piece}
use Rattle.proof_log.proofs.FedLines.{line_len-le, some_taken}
use Rattle.log_checker.specs.declared.refused.Refused.{Refused}
use Rattle.log_checker.specs.declared.refused.Refused.TheVariants.{Report, NoMemory}
use Rattle.log_checker.specs.declared.course.Course.{Course}
use Rattle.log_checker.specs.declared.reason.Reason.{Reason}
use Rattle.log_checker.specs.declared.reason.Reason.TheVariants.{BadLine, LinesLeft}
use Rattle.log_checker.specs.Reasons.{number_of}
use Rattle.log_checker.specs.Progress.{Progress, start, is_ended, IsStep, IsWholeStep}
use Rattle.log_checker.specs.Refusal.{whole_from, rest_from, whole_lines, rest_of, Leads, behind_end, too_long, IsQuiet, IsBroken}
use Rattle.log_checker.specs.Course.{Comes}
use Rattle.log_checker.specs.Checker.{CheckerState, held_after, held, GoesOn, Runs, Breaks, StandsAs, StandsFor}
use Rattle.log_checker.proofs.TextLines.{whole-append, rest-append, whole-front, rest-front, whole-line, rest-line, leads-append, stays, ended-broken, line-broken, long-broken}
use Rattle.log_checker.proofs.RoomForNumbers.{few-lines}

fed-held : (last : LineStep) (line piece : List ℕ) → GoesOn last → fed_after last line piece ≡ fed_line (held_after last line) piece
fed-held More line piece on = refl
fed-held Line line piece on = refl
fed-held TooLong line piece on = absurd on

record IsMore (line piece : List ℕ) (f : Fed) : Type 0 where
  all : line_len piece ≡ length piece
  short : length line + length piece ≤ 64
  now : f.line ≡ line ++ piece

record IsLine (line piece : List ℕ) (f : Fed) : Type 0 where
  some : line_len piece < length piece
  short : length line + line_len piece ≤ 64
  taken : f.taken ≡ line_len piece + 1
  now : f.line ≡ line ++ take (line_len piece) piece

fed-more : (line piece : List ℕ) → (fed_line line piece).step ≡ More → IsMore line piece (fed_line line piece)
unfolding fed_line
fed-more line piece h = elim (cases_lt 64 (length line + line_len piece)) [
  | inl long ↦ let test : nat_lt 64 (length line + line_len piece) ≡ true = grind (arith, nat_tests) in absurd (cc (rw test at h))
  | inr fits ↦
      let test : nat_lt 64 (length line + line_len piece) ≡ false = grind (arith, nat_tests) in
      elim (cases_lt (line_len piece) (length piece)) [
        | inl some ↦ let there : nat_lt (line_len piece) (length piece) ≡ true = grind (arith, nat_tests) in absurd (cc (rw (test, there) at h))
        | inr all ↦ let same : line_len piece ≡ length piece = omega (arith, line_len-le piece) in
            rw test (record { all = same; short = omega arith; now = ap (λ (n : ℕ). line ++ take n piece) same ∙ ap (λ (xs : List ℕ). line ++ xs) (take_all (length piece) piece (let low : length piece ≤ length piece = omega arith in low)) })
      ]
]

fed-line : (line piece : List ℕ) → (fed_line line piece).step ≡ Line → IsLine line piece (fed_line line piece)
unfolding fed_line
fed-line line piece h = elim (cases_lt 64 (length line + line_len piece)) [
  | inl long ↦ let test : nat_lt 64 (length line + line_len piece) ≡ true = grind (arith, nat_tests) in absurd (cc (rw test at h))
  | inr fits ↦
      let test : nat_lt 64 (length line + line_len piece) ≡ false = grind (arith, nat_tests) in
      elim (cases_lt (line_len piece) (length piece)) [
        | inl some ↦ rw test (record { some = some; short = fits; taken = omega arith; now = refl })
        | inr all ↦ let there : nat_lt (line_len piece) (length piece) ≡ false = grind (arith, nat_tests) in absurd (cc (rw (test, there) at h))
      ]
]

fed-long : (line piece : List ℕ) → (fed_line line piece).step ≡ TooLong → 64 < length line + line_len piece
unfolding fed_line
fed-long line piece h = elim (cases_lt 64 (length line + line_len piece)) [
  | inl long ↦ long
  | inr fits ↦
      let test : nat_lt 64 (length line + line_len piece) ≡ false = grind (arith, nat_tests) in
      elim (cases_Bool (nat_lt (line_len piece) (length piece))) [ inl some ↦ absurd (cc (rw (test, some) at h)) | inr all ↦ absurd (cc (rw (test, all) at h)) ]
]

-- the beginning of a line that is short enough, before the last line
pub quiet-short : (p : Progress) (rest : List ℕ) → is_ended p.stage ≡ false → length rest ≤ 64 → IsQuiet p rest
quiet-short p rest off short _ (behind_end e some) = let bad : true ≡ false = sym e ∙ off in cc
quiet-short p rest off short _ (too_long x long) = omega arith

pub quiet-none : (p : Progress) → IsQuiet p []
quiet-none p _ (behind_end e some) = omega arith
quiet-none p _ (too_long x long) = omega arith

-- One part of a piece, after bytes that break no rule.
module _ (P : Project) (reader now : ReaderState) (number : ℕ) (course : Course) (piece bytes : List ℕ) (limits : IsWithinLimits P) (after : now ≡ after_piece reader piece) (open_stage : is_ended course.stage ≡ false) (r : Runs P reader number course bytes) where
  off : is_ended r.progress.stage ≡ false
  off = ap is_ended (sym r.holds.stage) ∙ open_stage

  fed-is : fed reader piece ≡ fed_line (held reader) piece
  fed-is = fed-held reader.last reader.line piece r.goes_on

  pub exact : number ≡ 1 + length (whole_lines bytes)
  exact = let few = few-lines P r.progress (whole_lines bytes) limits r.leads in let is = r.number_is in omega arith

  last-is : now.last ≡ (fed_line (held reader) piece).step
  last-is = ap (λ (x : ReaderState). x.last) after ∙ ap (λ (f : Fed). f.step) (fed-held reader.last reader.line piece r.goes_on)

  now-is : now.line ≡ (fed_line (held reader) piece).line
  now-is = ap (λ (x : ReaderState). x.line) after ∙ ap (λ (f : Fed). f.line) (fed-held reader.last reader.line piece r.goes_on)

  -- the piece ends in a line
  pub runs-more : now.last ≡ More → Runs P now number course (bytes ++ piece)
  runs-more step =
      let f = fed-more (held reader) piece (sym last-is ∙ step) in
      let whole : take (length piece) piece ≡ piece = take_all (length piece) piece (let low : length piece ≤ length piece = omega arith in low) in
      let all : length piece ≤ line_len piece = let same = f.all in omega arith in
      let lines : whole_lines (bytes ++ piece) ≡ whole_lines bytes =
      whole-append [] bytes piece ∙ ap (λ (ls : List (List ℕ)). whole_lines bytes ++ ls) (ap (whole_from (rest_of bytes)) (sym whole) ∙ whole-front (rest_of bytes) piece (length piece) all) ∙ append-nil (whole_lines bytes) in
      let rest : rest_of (bytes ++ piece) ≡ rest_of bytes ++ piece =
      rest-append [] bytes piece ∙ ap (rest_from (rest_of bytes)) (sym whole) ∙ rest-front (rest_of bytes) piece (length piece) all ∙ ap (λ (xs : List ℕ). rest_of bytes ++ xs) whole in
      let size = length-append (rest_of bytes) piece in
      let kept = ap (λ (xs : List ℕ). length xs) r.rest in
      let short = f.short in
      record {
        progress = r.progress;
        leads = subst (λ (ls : List (List ℕ)). Leads P start ls r.progress) (sym lines) r.leads;
        quiet = subst (IsQuiet r.progress) (sym rest) (quiet-short r.progress (rest_of bytes ++ piece) off (omega arith));
        holds = r.holds;
        rest = ap (λ (s : LineStep). held_after s now.line) step ∙ now-is ∙ f.now ∙ ap (λ (xs : List ℕ). xs ++ piece) r.rest ∙ sym rest;
        goes_on = subst GoesOn (sym step) tt;
        number_is = r.number_is ∙ ap (λ (ls : List (List ℕ)). min (length ls + 1) 4294967295) (sym lines);
      }

  line-is : now.last ≡ Line → now.line ≡ rest_of bytes ++ take (line_len piece) piece
  line-is step = let f = fed-line (held reader) piece (sym last-is ∙ step) in now-is ∙ f.now ∙ ap (λ (xs : List ℕ). xs ++ take (line_len piece) piece) r.rest

  -- the whole line that it ends
  lines-are : now.last ≡ Line → whole_from (rest_of bytes) (take (line_len piece + 1) piece) ≡ now.line ∷ []
  lines-are step =
      let f = fed-line (held reader) piece (sym last-is ∙ step) in
      whole-line (rest_of bytes) piece f.some ∙ ap (λ (l : List ℕ). l ∷ []) (sym (line-is step))

  step-at : now.last ≡ Line → (out : _) → IsWholeStep P r.progress now.line out → IsStep P r.progress now.line out
  step-at step out s =
      let f = fed-line (held reader) piece (sym last-is ∙ step) in
      let size = ap (λ (xs : List ℕ). length xs) (now-is ∙ f.now) ∙ length-append (held reader) (take (line_len piece) piece) in
      let part = length-take (line_len piece) piece in
      let short = f.short in
      record { outcome = inr (off, inr (omega arith, s)) }

  pub taken-is : (taken : ℕ) → taken ≡ (fed reader piece).taken → now.last ≡ Line → taken ≡ line_len piece + 1
  taken-is taken e step = let f = fed-line (held reader) piece (sym last-is ∙ step) in e ∙ ap (λ (x : Fed). x.taken) fed-is ∙ f.taken

  pub runs-line : (taken : ℕ) (next : Course) → taken ≡ (fed reader piece).taken → now.last ≡ Line → Comes P (IsWholeStep P r.progress now.line) None next → Runs P now (min (number + 1) 4294967295) next (bytes ++ take taken piece)
  runs-line taken next e step come =
      let f = fed-line (held reader) piece (sym last-is ∙ step) in
      let count = taken-is taken e step in
      let part : bytes ++ take taken piece ≡ bytes ++ take (line_len piece + 1) piece = ap (λ (n : ℕ). bytes ++ take n piece) count in
      let lines : whole_lines (bytes ++ take (line_len piece + 1) piece) ≡ whole_lines bytes ++ now.line ∷ [] = whole-append [] bytes (take (line_len piece + 1) piece) ∙ ap (λ (ls : List (List ℕ)). whole_lines bytes ++ ls) (lines-are step) in
      let rest : rest_of (bytes ++ take (line_len piece + 1) piece) ≡ [] = rest-append [] bytes (take (line_len piece + 1) piece) ∙ rest-line (rest_of bytes) piece f.some in
      let one : Leads P r.progress (now.line ∷ []) come.0 = (come.0, step-at step (Ok come.0) come.1, refl) in
      let size = length-append (whole_lines bytes) (now.line ∷ []) in
      let few = few-lines P r.progress (whole_lines bytes) limits r.leads in
      let is = exact in
      subst (Runs P now (min (number + 1) 4294967295) next) (sym part) (record {
        progress = come.0;
        leads = subst (λ (ls : List (List ℕ)). Leads P start ls come.0) (sym lines) (leads-append P start r.progress come.0 (whole_lines bytes) (now.line ∷ []) r.leads one);
        quiet = subst (IsQuiet come.0) (sym rest) (quiet-none come.0);
        holds = come.2;
        rest = ap (λ (s : LineStep). held_after s now.line) step ∙ sym rest;
        goes_on = subst GoesOn (sym step) tt;
        number_is = (let e2 : min (number + 1) 4294967295 ≡ min (length (whole_lines bytes ++ now.line ∷ []) + 1) 4294967295 = omega arith in e2) ∙ ap (λ (ls : List (List ℕ)). min (length ls + 1) 4294967295) (sym lines);
      })

  -- what is broken by a part of the piece is broken by all of it
  by-part : (n : ℕ) (reason : Reason) → IsBroken P (bytes ++ take n piece) (1 + length (whole_lines bytes)) reason → Breaks P (bytes ++ piece) number (number_of reason)
  by-part n reason b =
      let all = stays P (bytes ++ take n piece) (drop n piece) (1 + length (whole_lines bytes)) reason b in
      let joined = append_assoc bytes (take n piece) (drop n piece) ∙ ap (λ (xs : List ℕ). bytes ++ xs) (take-append-drop n piece) in
      (reason, refl, subst (λ (i : ℕ). IsBroken P (bytes ++ piece) i reason) (sym exact) (subst (λ (xs : List ℕ). IsBroken P xs (1 + length (whole_lines bytes)) reason) joined all))

  pub broken-line : (reason : Reason) → now.last ≡ Line → IsWholeStep P r.progress now.line (Err reason) → Breaks P (bytes ++ piece) number (number_of reason)
  broken-line reason step s =
      by-part (line_len piece + 1) reason (line-broken P r.progress bytes (take (line_len piece + 1) piece) now.line reason r.leads (lines-are step) (step-at step (Err reason) s))

  pub broken-long : now.last ≡ TooLong → Breaks P (bytes ++ piece) number (number_of BadLine)
  broken-long step =
      let long = fed-long (held reader) piece (sym last-is ∙ step) in
      let low : line_len piece ≤ line_len piece = omega arith in
      let part = length-take (line_len piece) piece in
      let whole = line_len-le piece in
      let kept = ap (λ (xs : List ℕ). length xs) r.rest in
      let size = ap (λ (xs : List ℕ). length xs) (rest-front (rest_of bytes) piece (line_len piece) low) ∙ length-append (rest_of bytes) (take (line_len piece) piece) in
      by-part (line_len piece) BadLine (long-broken P r.progress bytes (take (line_len piece) piece) r.leads off (whole-front (rest_of bytes) piece (line_len piece) low) (omega arith))

-- a part that ends a line has its LF
pub taken-least : (reader : ReaderState) (piece : List ℕ) (taken : ℕ) → taken ≡ (fed reader piece).taken → (fed reader piece).step ≡ Line → 1 ≤ taken
taken-least reader piece taken e step = let least = some_taken reader.last reader.line piece step in omega arith

-- Parts of a piece, one after another.

take-empty : (n : ℕ) → take {A = ℕ} n [] ≡ []
take-empty zero = refl
take-empty (suc n) = refl

take-split : (i n : ℕ) (xs : List ℕ) → take i xs ++ take n (drop i xs) ≡ take (i + n) xs
take-split zero n xs = let e : n ≡ zero + n = omega arith in ap (λ (m : ℕ). take m xs) e
take-split (suc i) n [] = take-empty n ∙ sym (take-empty (suc i + n))
take-split (suc i) n (x ∷ xs) = let e : suc (i + n) ≡ suc i + n = omega arith in ap (λ (ys : List ℕ). x ∷ ys) (take-split i n xs) ∙ ap (λ (m : ℕ). take m (x ∷ xs)) e

-- what is left of a piece, as a slice gives it
whole-part : (piece : List ℕ) (i : ℕ) → take (length piece - i) (drop i piece) ≡ drop i piece
whole-part piece i = take_all (length piece - i) (drop i piece) (omega (arith, length-drop i piece))

pub more-bytes : (bytes piece : List ℕ) (i n : ℕ) → (bytes ++ take i piece) ++ take n (take (length piece - i) (drop i piece)) ≡ bytes ++ take (i + n) piece
more-bytes bytes piece i n =
    ap (λ (xs : List ℕ). (bytes ++ take i piece) ++ take n xs) (whole-part piece i) ∙ append_assoc bytes (take i piece) (take n (drop i piece)) ∙ ap (λ (xs : List ℕ). bytes ++ xs) (take-split i n piece)

pub all-bytes : (bytes piece : List ℕ) (i : ℕ) → (bytes ++ take i piece) ++ take (length piece - i) (drop i piece) ≡ bytes ++ piece
all-bytes bytes piece i =
    ap (λ (xs : List ℕ). (bytes ++ take i piece) ++ xs) (whole-part piece i) ∙ append_assoc bytes (take i piece) (drop i piece) ∙ ap (λ (xs : List ℕ). bytes ++ xs) (take-append-drop i piece)

pub part-length : (piece : List ℕ) (i : ℕ) → length (take (length piece - i) (drop i piece)) ≡ length piece - i
part-length piece i = ap (λ (xs : List ℕ). length xs) (whole-part piece i) ∙ length-drop i piece

-- a byte behind the last line
pub broken-end : (P : Project) (reader : ReaderState) (number : ℕ) (course : Course) (bytes piece : List ℕ) (i : ℕ) → IsWithinLimits P → is_ended course.stage ≡ true → i < length piece → Runs P reader number course (bytes ++ take i piece) →
    Breaks P (bytes ++ piece) number (number_of LinesLeft)
broken-end P reader number course bytes piece i limits e some r =
    let front = bytes ++ take i piece in
    let few = few-lines P r.progress (whole_lines front) limits r.leads in
    let exactly : 1 + length (whole_lines (bytes ++ take i piece)) ≡ number = let is = r.number_is in omega arith in
    let size = length-drop i piece in
    let broken = ended-broken P r.progress front (drop i piece) r.leads (ap is_ended (sym r.holds.stage) ∙ e) (omega arith) in
    let joined = append_assoc bytes (take i piece) (drop i piece) ∙ ap (λ (xs : List ℕ). bytes ++ xs) (take-append-drop i piece) in
    (LinesLeft, refl, subst (λ (n : ℕ). IsBroken P (bytes ++ piece) n LinesLeft) exactly (subst (λ (xs : List ℕ). IsBroken P xs (1 + length (whole_lines (bytes ++ take i piece))) LinesLeft) joined broken))

-- what was refused stays so
pub stands-refused : (c : CheckerState) (bytes more : List ℕ) (r : Refused) → c.refused ≡ Some r → StandsFor c bytes → StandsFor c (bytes ++ more)
stands-refused c bytes more r e s = subst (StandsAs c (bytes ++ more)) (sym e) (by r (subst (StandsAs c bytes) e s))
  where
    by : (x : Refused) → StandsAs c bytes (Some x) → StandsAs c (bytes ++ more) (Some x)
    by (Report line number) h = (h.0, h.1, stays c.project bytes more line h.0 h.2)
    by NoMemory h = tt
