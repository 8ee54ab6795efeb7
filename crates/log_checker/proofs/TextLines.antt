-- A text is cut at each LF: what more bytes make of its lines, and that what was broken stays so.
use Rattle.std.proofs.Common.{◌≡◌, ℕ, zero, suc, ◌+◌, ◌<◌, ◌≤◌, inl, inr, arith, refl, sym, ap, subst, ◌∙◌, append_assoc, List, [], ◌∷◌, ◌++◌, length, length-append, take, true, false}
use Rattle.std.specs.Prelude.{Err}
use Rattle.std.proofs.lemmas.Bool.{cases_Bool}
use Rattle.std.proofs.lemmas.List.{append-nil}
use Rattle.rcpsp_model.specs.Project.{Project}
use Rattle.proof_log.specs.declared.line_reader.LineStep.TheVariants.{More}
use Rattle.proof_log.specs.Lines.{is_line_end, line_len, ReaderState}
use Rattle.log_checker.specs.declared.course.Course.{Course}
use Rattle.log_checker.specs.declared.reason.Reason.{Reason}
use Rattle.log_checker.specs.declared.reason.Reason.TheVariants.{BadLine, LinesLeft}
use Rattle.log_checker.specs.Progress.{Progress, start, is_ended, IsStep}
use Rattle.log_checker.specs.Refusal.{whole_from, rest_from, whole_lines, rest_of, Leads, IsFirst, IsEarly, behind_end, too_long, IsBroken}
use Rattle.log_checker.specs.Course.{Holds}
use Rattle.log_checker.specs.Checker.{held, GoesOn, Runs}

-- One byte.

whole-end : (line : List ℕ) (b : ℕ) (bs : List ℕ) → is_line_end b ≡ true → whole_from line (b ∷ bs) ≡ line ∷ whole_from [] bs
unfolding whole_from
whole-end line b bs h = rw h

whole-other : (line : List ℕ) (b : ℕ) (bs : List ℕ) → is_line_end b ≡ false → whole_from line (b ∷ bs) ≡ whole_from (line ++ b ∷ []) bs
unfolding whole_from
whole-other line b bs h = rw h

rest-end : (line : List ℕ) (b : ℕ) (bs : List ℕ) → is_line_end b ≡ true → rest_from line (b ∷ bs) ≡ rest_from [] bs
unfolding rest_from
rest-end line b bs h = rw h

rest-other : (line : List ℕ) (b : ℕ) (bs : List ℕ) → is_line_end b ≡ false → rest_from line (b ∷ bs) ≡ rest_from (line ++ b ∷ []) bs
unfolding rest_from
rest-other line b bs h = rw h

whole-none : (line : List ℕ) → whole_from line [] ≡ []
unfolding whole_from
whole-none line = refl

rest-none : (line : List ℕ) → rest_from line [] ≡ line
unfolding rest_from
rest-none line = refl

-- More bytes.

pub whole-append : (line xs ys : List ℕ) → whole_from line (xs ++ ys) ≡ whole_from line xs ++ whole_from (rest_from line xs) ys
whole-append line [] ys = sym (ap (λ (ls : List (List ℕ)). ls ++ whole_from (rest_from line []) ys) (whole-none line) ∙ ap (λ (l : List ℕ). whole_from l ys) (rest-none line))
whole-append line (x ∷ xs) ys = elim (cases_Bool (is_line_end x)) [
  | inl end ↦
      whole-end line x (xs ++ ys) end ∙ ap (λ (ls : List (List ℕ)). line ∷ ls) (whole-append [] xs ys)
      ∙ sym (ap (λ (ls : List (List ℕ)). ls ++ whole_from (rest_from line (x ∷ xs)) ys) (whole-end line x xs end) ∙ ap (λ (l : List ℕ). (line ∷ whole_from [] xs) ++ whole_from l ys) (rest-end line x xs end))
  | inr other ↦
      whole-other line x (xs ++ ys) other ∙ whole-append (line ++ x ∷ []) xs ys
      ∙ sym (ap (λ (ls : List (List ℕ)). ls ++ whole_from (rest_from line (x ∷ xs)) ys) (whole-other line x xs other) ∙ ap (λ (l : List ℕ). whole_from (line ++ x ∷ []) xs ++ whole_from l ys) (rest-other line x xs other))
]

pub rest-append : (line xs ys : List ℕ) → rest_from line (xs ++ ys) ≡ rest_from (rest_from line xs) ys
rest-append line [] ys = sym (ap (λ (l : List ℕ). rest_from l ys) (rest-none line))
rest-append line (x ∷ xs) ys = elim (cases_Bool (is_line_end x)) [
  | inl end ↦ rest-end line x (xs ++ ys) end ∙ rest-append [] xs ys ∙ sym (ap (λ (l : List ℕ). rest_from l ys) (rest-end line x xs end))
  | inr other ↦ rest-other line x (xs ++ ys) other ∙ rest-append (line ++ x ∷ []) xs ys ∙ sym (ap (λ (l : List ℕ). rest_from l ys) (rest-other line x xs other))
]

len-end : (b : ℕ) (bs : List ℕ) → is_line_end b ≡ true → line_len (b ∷ bs) ≡ 0
unfolding line_len
len-end b bs h = rw h

len-other : (b : ℕ) (bs : List ℕ) → is_line_end b ≡ false → line_len (b ∷ bs) ≡ 1 + line_len bs
unfolding line_len
len-other b bs h = rw h

-- the first n bytes, where none of them is an LF
pub whole-front : (line xs : List ℕ) (n : ℕ) → n ≤ line_len xs → whole_from line (take n xs) ≡ []
whole-front line [] zero low = whole-none line
whole-front line [] (suc n) low = whole-none line
whole-front line (x ∷ xs) zero low = whole-none line
whole-front line (x ∷ xs) (suc n) low = elim (cases_Bool (is_line_end x)) [
  | inl end ↦ absurd (omega (arith, len-end x xs end))
  | inr other ↦ whole-other line x (take n xs) other ∙ whole-front (line ++ x ∷ []) xs n (omega (arith, len-other x xs other))
]

pub rest-front : (line xs : List ℕ) (n : ℕ) → n ≤ line_len xs → rest_from line (take n xs) ≡ line ++ take n xs
rest-front line [] zero low = rest-none line ∙ sym (append-nil line)
rest-front line [] (suc n) low = rest-none line ∙ sym (append-nil line)
rest-front line (x ∷ xs) zero low = rest-none line ∙ sym (append-nil line)
rest-front line (x ∷ xs) (suc n) low = elim (cases_Bool (is_line_end x)) [
  | inl end ↦ absurd (omega (arith, len-end x xs end))
  | inr other ↦
      rest-other line x (take n xs) other ∙ rest-front (line ++ x ∷ []) xs n (omega (arith, len-other x xs other)) ∙ append_assoc line (x ∷ []) (take n xs)
]

-- the bytes up to the first LF and with it
pub whole-line : (line xs : List ℕ) → line_len xs < length xs → whole_from line (take (line_len xs + 1) xs) ≡ (line ++ take (line_len xs) xs) ∷ []
whole-line line [] some = absurd (omega arith)
whole-line line (x ∷ xs) some = elim (cases_Bool (is_line_end x)) [
  | inl end ↦
      let zero_len = len-end x xs end in
      ap (λ (n : ℕ). whole_from line (take (n + 1) (x ∷ xs))) zero_len ∙ whole-end line x [] end ∙ ap (λ (ls : List (List ℕ)). line ∷ ls) (whole-none [])
      ∙ sym (ap (λ (n : ℕ). (line ++ take n (x ∷ xs)) ∷ []) zero_len ∙ ap (λ (l : List ℕ). l ∷ []) (append-nil line))
  | inr other ↦
      let more = len-other x xs other in
      let one : line_len (x ∷ xs) + 1 ≡ suc (line_len xs + 1) = omega arith in
      let two : line_len (x ∷ xs) ≡ suc (line_len xs) = omega arith in
      ap (λ (n : ℕ). whole_from line (take n (x ∷ xs))) one ∙ whole-other line x (take (line_len xs + 1) xs) other ∙ whole-line (line ++ x ∷ []) xs (omega arith)
      ∙ ap (λ (l : List ℕ). l ∷ []) (append_assoc line (x ∷ []) (take (line_len xs) xs)) ∙ sym (ap (λ (n : ℕ). (line ++ take n (x ∷ xs)) ∷ []) two)
]

pub rest-line : (line xs : List ℕ) → line_len xs < length xs → rest_from line (take (line_len xs + 1) xs) ≡ []
rest-line line [] some = absurd (omega arith)
rest-line line (x ∷ xs) some = elim (cases_Bool (is_line_end x)) [
  | inl end ↦ ap (λ (n : ℕ). rest_from line (take (n + 1) (x ∷ xs))) (len-end x xs end) ∙ rest-end line x [] end ∙ rest-none []
  | inr other ↦
      let more = len-other x xs other in
      let one : line_len (x ∷ xs) + 1 ≡ suc (line_len xs + 1) = omega arith in
      ap (λ (n : ℕ). rest_from line (take n (x ∷ xs))) one ∙ rest-other line x (take (line_len xs + 1) xs) other ∙ rest-line (line ++ x ∷ []) xs (omega arith)
]

-- a line doesn't get shorter
first-longer : (line more w : List ℕ) (vs : List (List ℕ)) → whole_from line more ≡ w ∷ vs → length line ≤ length w
first-longer line [] w vs e = let bad = sym (whole-none line) ∙ e in absurd (cc)
first-longer line (x ∷ more) w vs e = elim (cases_Bool (is_line_end x)) [
  | inl end ↦ let same : line ≡ w = heads (sym (whole-end line x more end) ∙ e) in let size = ap (λ (l : List ℕ). length l) same in omega arith
  | inr other ↦ let up = first-longer (line ++ x ∷ []) more w vs (sym (whole-other line x more other) ∙ e) in let size = length-append line (x ∷ []) in omega arith
]
  where
    heads : {a b : List ℕ} {as_ bs : List (List ℕ)} → a ∷ as_ ≡ b ∷ bs → a ≡ b
    heads h = cc

rest-longer : (line more : List ℕ) → whole_from line more ≡ [] → length line + length more ≤ length (rest_from line more)
rest-longer line [] e = let same = ap (λ (l : List ℕ). length l) (rest-none line) in omega arith
rest-longer line (x ∷ more) e = elim (cases_Bool (is_line_end x)) [
  | inl end ↦ let bad = sym (whole-end line x more end) ∙ e in absurd (cc)
  | inr other ↦
      let up = rest-longer (line ++ x ∷ []) more (sym (whole-other line x more other) ∙ e) in
      let size = length-append line (x ∷ []) in
      let same = ap (λ (l : List ℕ). length l) (rest-other line x more other) in omega arith
]

-- Lines, one after another.

pub leads-append : (P : Project) (p q r : Progress) (xs ys : List (List ℕ)) → Leads P p xs q → Leads P q ys r → Leads P p (xs ++ ys) r
leads-append P p q r [] ys a b = subst (λ (x : Progress). Leads P x ys r) (sym a) b
leads-append P p q r (x ∷ xs) ys a b = (a.0, a.1, leads-append P a.0 q r xs ys a.2 b)

pub first-append : (P : Project) (B : Progress → ℕ → ℕ → Reason → Type 0) (p q : Progress) (i : ℕ) (xs ys : List (List ℕ)) (n : ℕ) (r : Reason) → Leads P p xs q → IsFirst P B q (i + length xs) ys n r → IsFirst P B p i (xs ++ ys) n r
first-append P B p q i [] ys n r a f =
    let at : i + 0 ≡ i = omega arith in subst (λ (x : Progress). IsFirst P B x i ys n r) (sym a) (subst (λ (k : ℕ). IsFirst P B q k ys n r) at f)
first-append P B p q i (x ∷ xs) ys n r a f =
    let at : i + length (x ∷ xs) ≡ (i + 1) + length xs = omega arith in
    inr (a.0, a.1, first-append P B a.0 q (i + 1) xs ys n r a.2 (subst (λ (k : ℕ). IsFirst P B q k ys n r) at f))

abbrev pub Early : List ℕ → Progress → ℕ → ℕ → Reason → Type 0
Early rest p i n r = (n ≡ i) × IsEarly p rest r

-- what the lines lead to, and then more bytes break
pub broken-after : (P : Project) (p : Progress) (bytes more : List ℕ) (n : ℕ) (r : Reason) → Leads P start (whole_lines bytes) p → IsFirst P (Early (rest_from (rest_of bytes) more)) p (1 + length (whole_lines bytes)) (whole_from (rest_of bytes) more) n r →
    IsBroken P (bytes ++ more) n r
broken-after P p bytes more n r a f =
    let lines = whole-append [] bytes more in
    let rest = rest-append [] bytes more in
    subst (λ (ls : List (List ℕ)). IsFirst P (Early (rest_of (bytes ++ more))) start 1 ls n r) (sym lines)
    (first-append P (Early (rest_of (bytes ++ more))) start p 1 (whole_lines bytes) (whole_from (rest_of bytes) more) n r a
    (subst (λ (l : List ℕ). IsFirst P (Early l) p (1 + length (whole_lines bytes)) (whole_from (rest_of bytes) more) n r) (sym rest) f))

-- what the beginning of a line shows, any line that begins so shows
early-line : (P : Project) (p : Progress) (rest w : List ℕ) (r : Reason) → IsEarly p rest r → length rest ≤ length w → IsStep P p w (Err r)
early-line P p rest w _ (behind_end e some) low = record { outcome = inl (λ off. let bad : true ≡ false = sym e ∙ off in cc, refl) }
early-line P p rest w _ (too_long off long) low = record { outcome = inr (off, inl (λ short. absurd (omega arith), refl)) }

early-rest : (p : Progress) (rest more : List ℕ) (r : Reason) → IsEarly p rest r → length rest ≤ length more → IsEarly p more r
early-rest p rest more _ (behind_end e some) low = behind_end e (omega arith)
early-rest p rest more _ (too_long off long) low = too_long off (omega arith)

stays-at : (P : Project) (p : Progress) (i : ℕ) (rest more : List ℕ) (n : ℕ) (r : Reason) → Early rest p i n r → (vs : List (List ℕ)) → whole_from rest more ≡ vs → IsFirst P (Early (rest_from rest more)) p i vs n r
stays-at P p i rest more n r h [] e = (h.0, early-rest p rest (rest_from rest more) r h.1 (let longer = rest-longer rest more e in omega arith))
stays-at P p i rest more n r h (w ∷ vs) e = inl (h.0, early-line P p rest w r h.1 (first-longer rest more w vs e))

stays-from : (P : Project) (p : Progress) (i : ℕ) (ws : List (List ℕ)) (rest more : List ℕ) (n : ℕ) (r : Reason) → IsFirst P (Early rest) p i ws n r → IsFirst P (Early (rest_from rest more)) p i (ws ++ whole_from rest more) n r
stays-from P p i [] rest more n r h = stays-at P p i rest more n r h (whole_from rest more) refl
stays-from P p i (w ∷ ws) rest more n r (inl h) = inl h
stays-from P p i (w ∷ ws) rest more n r (inr h) = inr (h.0, h.1, stays-from P h.0 (i + 1) ws rest more n r h.2)

-- what was broken stays so, whatever comes after it
pub stays : (P : Project) (bytes more : List ℕ) (n : ℕ) (r : Reason) → IsBroken P bytes n r → IsBroken P (bytes ++ more) n r
stays P bytes more n r h =
    subst (λ (ls : List (List ℕ)). IsFirst P (Early (rest_of (bytes ++ more))) start 1 ls n r) (sym (whole-append [] bytes more))
    (subst (λ (l : List ℕ). IsFirst P (Early l) start 1 (whole_lines bytes ++ whole_from (rest_of bytes) more) n r) (sym (rest-append [] bytes more))
    (stays-from P start 1 (whole_lines bytes) (rest_of bytes) more n r h))

-- a byte behind the last line
ended-at : (P : Project) (p : Progress) (i : ℕ) (rest more : List ℕ) → is_ended p.stage ≡ true → 0 < length more → (vs : List (List ℕ)) → whole_from rest more ≡ vs → IsFirst P (Early (rest_from rest more)) p i vs i LinesLeft
ended-at P p i rest more e some [] same = (refl, behind_end e (let longer = rest-longer rest more same in omega arith))
ended-at P p i rest more e some (w ∷ vs) same = inl (refl, record { outcome = inl (λ off. let bad : true ≡ false = sym e ∙ off in cc, refl) })

pub ended-broken : (P : Project) (p : Progress) (bytes more : List ℕ) → Leads P start (whole_lines bytes) p → is_ended p.stage ≡ true → 0 < length more → IsBroken P (bytes ++ more) (1 + length (whole_lines bytes)) LinesLeft
ended-broken P p bytes more a e some =
    broken-after P p bytes more (1 + length (whole_lines bytes)) LinesLeft a (ended-at P p (1 + length (whole_lines bytes)) (rest_of bytes) more e some (whole_from (rest_of bytes) more) refl)

-- a line that breaks a rule
pub line-broken : (P : Project) (p : Progress) (bytes more line : List ℕ) (r : Reason) → Leads P start (whole_lines bytes) p → whole_from (rest_of bytes) more ≡ line ∷ [] → IsStep P p line (Err r) → IsBroken P (bytes ++ more) (1 + length (whole_lines bytes)) r
line-broken P p bytes more line r a e s =
    broken-after P p bytes more (1 + length (whole_lines bytes)) r a (subst (λ (vs : List (List ℕ)). IsFirst P (Early (rest_from (rest_of bytes) more)) p (1 + length (whole_lines bytes)) vs (1 + length (whole_lines bytes)) r) (sym e) (inl (refl, s)))

-- one that gets too long
pub long-broken : (P : Project) (p : Progress) (bytes more : List ℕ) → Leads P start (whole_lines bytes) p → is_ended p.stage ≡ false → whole_from (rest_of bytes) more ≡ [] → 64 < length (rest_from (rest_of bytes) more) →
    IsBroken P (bytes ++ more) (1 + length (whole_lines bytes)) BadLine
long-broken P p bytes more a off e long =
    broken-after P p bytes more (1 + length (whole_lines bytes)) BadLine a (subst (λ (vs : List (List ℕ)). IsFirst P (Early (rest_from (rest_of bytes) more)) p (1 + length (whole_lines bytes)) vs (1 + length (whole_lines bytes)) BadLine) (sym e) (refl, too_long off long))

-- nothing has come
pub new-runs : (P : Project) (reader : ReaderState) (c : Course) → reader ≡ record { line = []; last = More } → Holds P c start → Runs P reader 1 c []
new-runs P reader c e h = record {
  progress = start;
  leads = subst (λ (ls : List (List ℕ)). Leads P start ls start) (sym (whole-none [])) refl;
  quiet = λ r early. quiet-none start r (subst (λ (l : List ℕ). IsEarly start l r) (rest-none []) early);
  holds = h;
  rest = ap held e ∙ sym (rest-none []);
  goes_on = subst (λ (x : ReaderState). GoesOn x.last) (sym e) tt;
  number_is = let none = ap (λ (ls : List (List ℕ)). length ls) (whole-none []) in omega arith;
}
  where
    quiet-none : (p : Progress) (r : Reason) → IsEarly p [] r → ⊥
    quiet-none p _ (behind_end x some) = omega arith
    quiet-none p _ (too_long x long) = omega arith
