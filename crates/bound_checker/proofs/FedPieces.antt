-- What a reader makes of a piece, as lines of the text.
use Rattle.std.proofs.Common.{◌≡◌, ℕ, zero, suc, ◌+◌, ◌-◌, ◌<◌, ◌≤◌, min, inl, inr, arith, refl, sym, ap, subst, ◌∙◌, List, [], ◌∷◌, ◌++◌, length, length-append, length-take, length-drop, take, drop, append_assoc, true, false, None}
use Rattle.std.specs.Prelude.{nat_lt}
use Rattle.std.proofs.lemmas.Bool.{cases_Bool, cases_lt}
use Rattle.std.proofs.lemmas.Bool.Decides.{nat_tests}
use Rattle.std.proofs.lemmas.List.{append-nil, take_all, take-append-drop}
use Rattle.rcpsp_model.specs.Project.{Project, IsProject}
use Rattle.proof_log.specs.declared.line_reader.LineStep.{LineStep}
use Rattle.proof_log.specs.declared.line_reader.LineStep.TheVariants.{More, Line, TooLong}
use Rattle.proof_log.specs.Lines.{line_len, ReaderState, Fed, fed_line, fed_after, fed, after_piece}
use Rattle.proof_log.proofs.FedLines.{line_len-le, some_taken}
use Rattle.window_refuter.specs.declared.line.BoundLine.{BoundLine}
use Rattle.window_refuter.specs.Text.{line_text}
use Rattle.bound_checker.specs.declared.course.Course.{Course}
use Rattle.bound_checker.specs.declared.stage.Stage.{Stage}
use Rattle.bound_checker.specs.declared.stage.Stage.TheVariants as stages
use Rattle.bound_checker.specs.Text.{text_of}
use Rattle.bound_checker.specs.Judged.{whole, too_long, behind_end, IsBroken}
use Rattle.bound_checker.specs.Stages.{IsAt, is_ended, IsNextText}
use Rattle.bound_checker.specs.Checker.{held_after, held, GoesOn, HasNoEnd, Runs, StandsAs}
use Rattle.bound_checker.specs.Laws.{RefusedLaw}
use Rattle.bound_checker.proofs.LineEnds.{no_end-append, no_end-front, with_end, one_cut, no_cut}
use Rattle.bound_checker.proofs.LineTexts.{text-append, text_no_end}
use Rattle.bound_checker.proofs.Beginnings.{is-line, at-begins, none-behind}
use Rattle.bound_checker.proofs.Outcomes.{stays, at-ended, not_both}
use Rattle.bound_checker.proofs.FewLines.{few-lines}

fed-held : (last : LineStep) (line piece : List ℕ) → GoesOn last → fed_after last line piece ≡ fed_line (held_after last line) piece
fed-held More line piece on = refl
fed-held Line line piece on = refl
fed-held TooLong line piece on = absurd on

record IsMore (line piece : List ℕ) (f : Fed) : Type 0 where
  all : line_len piece ≡ length piece
  short : length line + length piece ≤ 64
  now : f.line ≡ line ++ piece

record IsLine (line piece : List ℕ) (f : Fed) : Type 0 where
  some : line_len piece < length piece
  short : length line + line_len piece ≤ 64
  taken : f.taken ≡ line_len piece + 1
  now : f.line ≡ line ++ take (line_len piece) piece

fed-more : (line piece : List ℕ) → (fed_line line piece).step ≡ More → IsMore line piece (fed_line line piece)
unfolding fed_line
fed-more line piece h = elim (cases_lt 64 (length line + line_len piece)) [
  | inl long ↦ let test : nat_lt 64 (length line + line_len piece) ≡ true = grind (arith, nat_tests) in absurd (cc (rw test at h))
  | inr fits ↦
      let test : nat_lt 64 (length line + line_len piece) ≡ false = grind (arith, nat_tests) in
      elim (cases_lt (line_len piece) (length piece)) [
        | inl some ↦ let there : nat_lt (line_len piece) (length piece) ≡ true = grind (arith, nat_tests) in absurd (cc (rw (test, there) at h))
        | inr all ↦ let same : line_len piece ≡ length piece = omega (arith, line_len-le piece) in
            rw test (record { all = same; short = omega arith; now = ap (λ (n : ℕ). line ++ take n piece) same ∙ ap (λ (xs : List ℕ). line ++ xs) (take_all (length piece) piece (let low : length piece ≤ length piece = omega arith in low)) })
      ]
]

fed-line : (line piece : List ℕ) → (fed_line line piece).step ≡ Line → IsLine line piece (fed_line line piece)
unfolding fed_line
fed-line line piece h = elim (cases_lt 64 (length line + line_len piece)) [
  | inl long ↦ let test : nat_lt 64 (length line + line_len piece) ≡ true = grind (arith, nat_tests) in absurd (cc (rw test at h))
  | inr fits ↦
      let test : nat_lt 64 (length line + line_len piece) ≡ false = grind (arith, nat_tests) in
      elim (cases_lt (line_len piece) (length piece)) [
        | inl some ↦ rw test (record { some = some; short = fits; taken = omega arith; now = refl })
        | inr all ↦ let there : nat_lt (line_len piece) (length piece) ≡ false = grind (arith, nat_tests) in absurd (cc (rw (test, there) at h))
      ]
]

fed-long : (line piece : List ℕ) → (fed_line line piece).step ≡ TooLong → 64 < length line + line_len piece
unfolding fed_line
fed-long line piece h = elim (cases_lt 64 (length line + line_len piece)) [
  | inl long ↦ long
  | inr fits ↦
      let test : nat_lt 64 (length line + line_len piece) ≡ false = grind (arith, nat_tests) in
      elim (cases_Bool (nat_lt (line_len piece) (length piece))) [ inl some ↦ absurd (cc (rw (test, some) at h)) | inr all ↦ absurd (cc (rw (test, all) at h)) ]
]

-- One part of a piece, after bytes whose lines may stand there.
module _ (P : Project) (is : IsProject P) (reader now : ReaderState) (course : Course) (piece bytes : List ℕ) (after : now ≡ after_piece reader piece) (open_stage : is_ended course.stage ≡ false) (r : Runs P reader course bytes) where
  last-is : now.last ≡ (fed_line (held reader) piece).step
  last-is = ap (λ (x : ReaderState). x.last) after ∙ ap (λ (f : Fed). f.step) (fed-held reader.last reader.line piece r.goes_on)

  now-is : now.line ≡ (fed_line (held reader) piece).line
  now-is = ap (λ (x : ReaderState). x.line) after ∙ ap (λ (f : Fed). f.line) (fed-held reader.last reader.line piece r.goes_on)

  -- bytes behind those before
  more-text : (xs : List ℕ) → bytes ++ xs ≡ text_of r.lines ++ (held reader ++ xs)
  more-text xs = ap (λ (ys : List ℕ). ys ++ xs) r.text ∙ append_assoc (text_of r.lines) (held reader) xs

  -- the piece ends in a line
  pub runs-more : now.last ≡ More → Runs P now course (bytes ++ piece)
  runs-more step =
      let f = fed-more (held reader) piece (sym last-is ∙ step) in
      let held-now : held now ≡ held reader ++ piece = ap (λ (s : LineStep). held_after s now.line) step ∙ now-is ∙ f.now in
      let low : length piece ≤ length piece = omega arith in
      let whole_piece : take (line_len piece) piece ≡ piece = ap (λ (n : ℕ). take n piece) f.all ∙ take_all (length piece) piece low in
      let size = ap (λ (xs : List ℕ). length xs) held-now ∙ length-append (held reader) piece in
      let short = f.short in
      record {
        lines = r.lines;
        at = r.at;
        text = more-text piece ∙ ap (λ (xs : List ℕ). text_of r.lines ++ xs) (sym held-now);
        size = r.size;
        short = omega arith;
        no_end = subst HasNoEnd (sym held-now) (no_end-append (held reader) piece r.no_end (subst HasNoEnd whole_piece (no_end-front piece)));
        bare = λ ended. absurd (not_both (is_ended course.stage) ended open_stage);
        goes_on = subst GoesOn (sym step) tt;
        number_is = r.number_is;
      }

  -- a line that ends
  line-is : now.last ≡ Line → now.line ≡ held reader ++ take (line_len piece) piece
  line-is step = now-is ∙ (fed-line (held reader) piece (sym last-is ∙ step)).now

  line-no_end : now.last ≡ Line → HasNoEnd now.line
  line-no_end step = subst HasNoEnd (sym (line-is step)) (no_end-append (held reader) (take (line_len piece) piece) r.no_end (no_end-front piece))

  line-text : now.last ≡ Line → bytes ++ take (line_len piece + 1) piece ≡ text_of r.lines ++ (now.line ++ 10 ∷ [])
  line-text step =
      let f = fed-line (held reader) piece (sym last-is ∙ step) in
      more-text (take (line_len piece + 1) piece)
      ∙ ap (λ (xs : List ℕ). text_of r.lines ++ (held reader ++ xs)) (with_end piece f.some)
      ∙ ap (λ (xs : List ℕ). text_of r.lines ++ xs) (sym (append_assoc (held reader) (take (line_len piece) piece) (10 ∷ [])) ∙ ap (λ (xs : List ℕ). xs ++ 10 ∷ []) (sym (line-is step)))

  pub taken-is : (taken : ℕ) → taken ≡ (fed reader piece).taken → now.last ≡ Line → taken ≡ line_len piece + 1
  taken-is taken e step = e ∙ ap (λ (x : Fed). x.taken) (fed-held reader.last reader.line piece r.goes_on) ∙ (fed-line (held reader) piece (sym last-is ∙ step)).taken

  pub runs-line : (taken : ℕ) (line : BoundLine) (next : Course) → taken ≡ (fed reader piece).taken → now.last ≡ Line → now.line ≡ line_text line → IsAt P next.stage next.windows (r.lines ++ line ∷ []) → next.number ≡ min (course.number + 1) 4294967295 →
      Runs P now next (bytes ++ take taken piece)
  runs-line taken line next e step same at number =
      let f = fed-line (held reader) piece (sym last-is ∙ step) in
      let count = taken-is taken e step in
      let none : held now ≡ [] = ap (λ (s : LineStep). held_after s now.line) step in
      let own : text_of (r.lines ++ line ∷ []) ≡ text_of r.lines ++ (line_text line ++ 10 ∷ []) = text-append r.lines (line ∷ []) in
      let all : bytes ++ take taken piece ≡ text_of (r.lines ++ line ∷ []) =
      ap (λ (n : ℕ). bytes ++ take n piece) count ∙ line-text step ∙ ap (λ (xs : List ℕ). text_of r.lines ++ (xs ++ 10 ∷ [])) same ∙ sym own in
      let sizes = ap (λ (xs : List ℕ). length xs) own ∙ length-append (text_of r.lines) (line_text line ++ 10 ∷ []) in
      let tail = length-append (line_text line) (10 ∷ []) in
      let width = ap (λ (xs : List ℕ). length xs) (sym same ∙ line-is step) ∙ length-append (held reader) (take (line_len piece) piece) in
      let part = length-take (line_len piece) piece in
      let lines = length-append r.lines (line ∷ []) in
      let short = f.short in let size = r.size in let is-number = r.number_is in
      let few = few-lines P r.lines is (at-begins P course.stage course.windows r.lines r.at) in
      let zero-size = ap (λ (xs : List ℕ). length xs) none in
      record {
        lines = r.lines ++ line ∷ [];
        at = at;
        text = all ∙ sym (append-nil (text_of (r.lines ++ line ∷ []))) ∙ ap (λ (xs : List ℕ). text_of (r.lines ++ line ∷ []) ++ xs) (sym none);
        size = omega arith;
        short = omega arith;
        no_end = subst HasNoEnd (sym none) tt;
        bare = λ ended. none;
        goes_on = subst GoesOn (sym step) tt;
        number_is = omega arith;
      }

  -- what a part of the piece shows, all of it shows
  by-part : (n k : ℕ) → IsBroken P (bytes ++ take n piece) k → IsBroken P (bytes ++ piece) k
  by-part n k b =
      subst (λ (xs : List ℕ). IsBroken P xs k) (append_assoc bytes (take n piece) (drop n piece) ∙ ap (λ (xs : List ℕ). bytes ++ xs) (take-append-drop n piece))
      (stays P is (bytes ++ take n piece) (drop n piece) k b)

  pub broken-line : now.last ≡ Line → IsNextText P course.stage course.windows now.line None course.windows → IsBroken P (bytes ++ piece) course.number
  broken-line step stuck = by-part (line_len piece + 1) course.number (record {
    fault = record {
      before = r.lines;
      rest = now.line ++ 10 ∷ [];
      place = r.number_is;
      cut = line-text step;
      begins = at-begins P course.stage course.windows r.lines r.at;
      none = λ line more same b.
          stuck r.lines line r.at (one_cut now.line (line_text line) [] more (line-no_end step) (text_no_end line (is-line P r.lines line is b)) same).0 b;
    };
    shown = whole now.line [] refl;
  })

  pub broken-long : now.last ≡ TooLong → IsBroken P (bytes ++ piece) course.number
  broken-long step =
      let long = fed-long (held reader) piece (sym last-is ∙ step) in
      let part = length-take (line_len piece) piece in
      let least = line_len-le piece in
      let size = length-append (held reader) (take (line_len piece) piece) in
      by-part (line_len piece) course.number (record {
        fault = record {
          before = r.lines;
          rest = held reader ++ take (line_len piece) piece;
          place = r.number_is;
          cut = more-text (take (line_len piece) piece);
          begins = at-begins P course.stage course.windows r.lines r.at;
          none = λ line more same b. no_cut (held reader ++ take (line_len piece) piece) (line_text line) more (no_end-append (held reader) (take (line_len piece) piece) r.no_end (no_end-front piece)) same;
        };
        shown = too_long (omega arith);
      })

-- a part that ends a line has its LF
pub taken-least : (reader : ReaderState) (piece : List ℕ) (taken : ℕ) → taken ≡ (fed reader piece).taken → (fed reader piece).step ≡ Line → 1 ≤ taken
taken-least reader piece taken e step = let least = some_taken reader.last reader.line piece step in omega arith

-- a byte behind the last line
pub broken-end : (P : Project) (reader : ReaderState) (course : Course) (bytes more : List ℕ) → is_ended course.stage ≡ true → 0 < length more → Runs P reader course bytes → IsBroken P (bytes ++ more) course.number
broken-end P reader course bytes more ended some r =
    let all = at-ended P course.stage course.windows r.lines r.at ended in
    let size = length-append (held reader) more in
    record {
      fault = record {
        before = r.lines;
        rest = held reader ++ more;
        place = r.number_is;
        cut = ap (λ (xs : List ℕ). xs ++ more) r.text ∙ append_assoc (text_of r.lines) (held reader) more;
        begins = at-begins P course.stage course.windows r.lines r.at;
        none = λ line m same b. none-behind P r.lines line all b;
      };
      shown = behind_end all (omega arith);
    }

-- Parts of a piece, one after another.

take-empty : (n : ℕ) → take {A = ℕ} n [] ≡ []
take-empty zero = refl
take-empty (suc n) = refl

take-split : (i n : ℕ) (xs : List ℕ) → take i xs ++ take n (drop i xs) ≡ take (i + n) xs
take-split zero n xs = let e : n ≡ zero + n = omega arith in ap (λ (m : ℕ). take m xs) e
take-split (suc i) n [] = take-empty n ∙ sym (take-empty (suc i + n))
take-split (suc i) n (x ∷ xs) = let e : suc (i + n) ≡ suc i + n = omega arith in ap (λ (ys : List ℕ). x ∷ ys) (take-split i n xs) ∙ ap (λ (m : ℕ). take m (x ∷ xs)) e

-- what is left of a piece, as a slice gives it
whole-part : (piece : List ℕ) (i : ℕ) → take (length piece - i) (drop i piece) ≡ drop i piece
whole-part piece i = take_all (length piece - i) (drop i piece) (omega (arith, length-drop i piece))

pub part-length : (piece : List ℕ) (i : ℕ) → length (take (length piece - i) (drop i piece)) ≡ length piece - i
part-length piece i = ap (λ (xs : List ℕ). length xs) (whole-part piece i) ∙ length-drop i piece

pub more-bytes : (bytes piece : List ℕ) (i n : ℕ) → (bytes ++ take i piece) ++ take n (take (length piece - i) (drop i piece)) ≡ bytes ++ take (i + n) piece
more-bytes bytes piece i n =
    ap (λ (xs : List ℕ). (bytes ++ take i piece) ++ take n xs) (whole-part piece i) ∙ append_assoc bytes (take i piece) (take n (drop i piece)) ∙ ap (λ (xs : List ℕ). bytes ++ xs) (take-split i n piece)

pub all-bytes : (bytes piece : List ℕ) (i : ℕ) → (bytes ++ take i piece) ++ take (length piece - i) (drop i piece) ≡ bytes ++ piece
all-bytes bytes piece i =
    ap (λ (xs : List ℕ). (bytes ++ take i piece) ++ xs) (whole-part piece i) ∙ append_assoc bytes (take i piece) (drop i piece) ∙ ap (λ (xs : List ℕ). bytes ++ xs) (take-append-drop i piece)

pub ended-part : (P : Project) (reader : ReaderState) (course : Course) (bytes piece : List ℕ) (i : ℕ) → is_ended course.stage ≡ true → i < length piece → Runs P reader course (bytes ++ take i piece) → IsBroken P (bytes ++ piece) course.number
ended-part P reader course bytes piece i ended some r =
    subst (λ (xs : List ℕ). IsBroken P xs course.number) (append_assoc bytes (take i piece) (drop i piece) ∙ ap (λ (xs : List ℕ). bytes ++ xs) (take-append-drop i piece))
    (broken-end P reader course (bytes ++ take i piece) (drop i piece) ended (omega (arith, length-drop i piece)) r)

-- Nothing has come.
pub new-runs : (P : Project) (reader : ReaderState) (course : Course) → reader ≡ record { line = []; last = More } → course.stage ≡ stages.Title → course.number ≡ 1 → Runs P reader course []
new-runs P reader course e first one =
    let none : held reader ≡ [] = ap held e in
    let size = ap (λ (xs : List ℕ). length xs) none in
    record {
      lines = [];
      at = subst (λ (s : Stage). IsAt P s course.windows []) (sym first) refl;
      text = sym none;
      size = omega arith;
      short = omega arith;
      no_end = subst HasNoEnd (sym none) tt;
      bare = λ ended. none;
      goes_on = subst (λ (x : ReaderState). GoesOn x.last) (sym e) tt;
      number_is = one;
    }

-- what stands refused stays so
pub refused_law : RefusedLaw
refused_law c bytes more refused is e s =
    subst (StandsAs c (bytes ++ more)) (sym e) (stays c.project is bytes more refused.line (subst (StandsAs c bytes) e s))
