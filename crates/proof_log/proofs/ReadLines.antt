-- What is read is a line with these words.
use Rattle.std.specs.Prelude.{◌==◌}
use Rattle.std.proofs.lemmas.Bool.Decides.{nat_tests}
use Rattle.proof_log.specs.declared.letter.TheConstants.{EXPANDED, LEAF, TAIL_BOUND}
use Rattle.std.proofs.Common.{◌≡◌, ℕ, arith, ◌∙◌, ◌⊎◌, inl, inr, refl, sym, ap, subst, Bool, true, false, cond, ◌||◌, not, List, [], ◌∷◌, Option, Some, None, codes}
use Rattle.std.specs.Prelude.{IfSome, option_map, option_to_list}
use Rattle.std.specs.Str.{bytes_eq}
use Rattle.proof_log.specs.declared.line.ReportLine.{ReportLine}
use Rattle.proof_log.specs.declared.line.ReportLine.TheVariants.{Title, Optimal, Infeasible, Limit, Duration, Lower, Job, LogYes, LogNo, End}
use Rattle.proof_log.specs.Line.{number_word, has_number, is_bare, fate_words, log_line_words, line_words, IsNumber, IsPlace, IsLine}
use Rattle.proof_log.specs.Reading.{number_in, place_in, single_in, verdict_in, log_flag_in, title_in, pair_in, job_in, fate_number_in, letter_in, is_place, fate_in, log_line, placed_in, log_in, four_in, line_in}
use Rattle.proof_log.proofs.NumberWords.{chosen, only, mapped, bound, same_word, number_found, place_found}

-- the line is one that a report may have, and has these words
abbrev pub Has : ReportLine → List (List ℕ) → Type 0
Has line words = IsLine line × (line_words line ≡ words)

single_found : (word : List ℕ) (line : ReportLine) → single_in word ≡ Some line → Has line (word ∷ [])
unfolding single_in line_words
single_found word line h =
    let end = only (bytes_eq word (codes "end")) End line h in
    subst (λ (l : ReportLine). Has l (word ∷ [])) end.1 (tt, ap (λ (w : List ℕ). w ∷ []) (sym (same_word word (codes "end") end.0)))

-- a line of two words that are both fixed
pair_of : (line found : ReportLine) (key word first second : List ℕ) → IsLine line → line_words line ≡ first ∷ second ∷ [] → line ≡ found → bytes_eq key first ≡ true → bytes_eq word second ≡ true → Has found (key ∷ word ∷ [])
pair_of line found key word first second is words same one two =
    subst (λ (l : ReportLine). Has l (key ∷ word ∷ [])) same
    (is, words ∙ ap (λ (w : List ℕ). w ∷ second ∷ []) (sym (same_word key first one)) ∙ ap (λ (w : List ℕ). key ∷ w ∷ []) (sym (same_word word second two)))

title_found : (key word : List ℕ) (line : ReportLine) → bytes_eq key (codes "psplib-report") ≡ true → title_in word ≡ Some line → Has line (key ∷ word ∷ [])
unfolding title_in line_words
title_found key word line k h =
    let t = only (bytes_eq word (codes "1")) Title line h in
    pair_of Title line key word (codes "psplib-report") (codes "1") tt refl t.1 k t.0

verdict_found : (key word : List ℕ) (line : ReportLine) → bytes_eq key (codes "verdict") ≡ true → verdict_in word ≡ Some line → Has line (key ∷ word ∷ [])
unfolding verdict_in line_words
verdict_found key word line k h = elim (chosen (bytes_eq word (codes "optimal")) (Some Optimal) (cond (bytes_eq word (codes "infeasible")) (Some Infeasible) (cond (bytes_eq word (codes "limit")) (Some Limit) None)) (Some line) h) [
  | inl t ↦ pair_of Optimal line key word (codes "verdict") (codes "optimal") tt refl (cc t.1) k t.0
  | inr f ↦ elim (chosen (bytes_eq word (codes "infeasible")) (Some Infeasible) (cond (bytes_eq word (codes "limit")) (Some Limit) None) (Some line) f.1) [
    | inl t ↦ pair_of Infeasible line key word (codes "verdict") (codes "infeasible") tt refl (cc t.1) k t.0
    | inr g ↦ let t = only (bytes_eq word (codes "limit")) Limit line g.1 in pair_of Limit line key word (codes "verdict") (codes "limit") tt refl t.1 k t.0
  ]
]

flag_found : (key word : List ℕ) (line : ReportLine) → bytes_eq key (codes "log") ≡ true → log_flag_in word ≡ Some line → Has line (key ∷ word ∷ [])
unfolding log_flag_in line_words
flag_found key word line k h = elim (chosen (bytes_eq word (codes "yes")) (Some LogYes) (cond (bytes_eq word (codes "no")) (Some LogNo) None) (Some line) h) [
  | inl t ↦ pair_of LogYes line key word (codes "log") (codes "yes") tt refl (cc t.1) k t.0
  | inr f ↦ let t = only (bytes_eq word (codes "no")) LogNo line f.1 in pair_of LogNo line key word (codes "log") (codes "no") tt refl t.1 k t.0
]

-- a fixed word, and a number or `-`
duration_found : (key word : List ℕ) (line : ReportLine) → bytes_eq key (codes "duration") ≡ true → option_map Duration (place_in word) ≡ Some line → Has line (key ∷ word ∷ [])
unfolding line_words
duration_found key word line k h =
    let m = mapped Duration (place_in word) line h in
    let p = place_found word m.0 m.1 in
    subst (λ (l : ReportLine). Has l (key ∷ word ∷ [])) m.2 (p.1, ap (λ (w : List ℕ). w ∷ number_word m.0 ∷ []) (sym (same_word key (codes "duration") k)) ∙ ap (λ (w : List ℕ). key ∷ w ∷ []) p.0)

lower_found : (key word : List ℕ) (line : ReportLine) → bytes_eq key (codes "lower") ≡ true → option_map Lower (place_in word) ≡ Some line → Has line (key ∷ word ∷ [])
unfolding line_words
lower_found key word line k h =
    let m = mapped Lower (place_in word) line h in
    let p = place_found word m.0 m.1 in
    subst (λ (l : ReportLine). Has l (key ∷ word ∷ [])) m.2 (p.1, ap (λ (w : List ℕ). w ∷ number_word m.0 ∷ []) (sym (same_word key (codes "lower") k)) ∙ ap (λ (w : List ℕ). key ∷ w ∷ []) p.0)

pair_found : (key word : List ℕ) (line : ReportLine) → pair_in key word ≡ Some line → Has line (key ∷ word ∷ [])
unfolding pair_in
pair_found key word line h = elim (chosen (bytes_eq key (codes "psplib-report")) (title_in word) _ (Some line) h) [
  | inl t ↦ title_found key word line t.0 t.1
  | inr f ↦ elim (chosen (bytes_eq key (codes "verdict")) (verdict_in word) _ (Some line) f.1) [
    | inl t ↦ verdict_found key word line t.0 t.1
    | inr g ↦ elim (chosen (bytes_eq key (codes "duration")) (option_map Duration (place_in word)) _ (Some line) g.1) [
      | inl t ↦ duration_found key word line t.0 t.1
      | inr k ↦ elim (chosen (bytes_eq key (codes "lower")) (option_map Lower (place_in word)) _ (Some line) k.1) [
        | inl t ↦ lower_found key word line t.0 t.1
        | inr n ↦ elim (chosen (bytes_eq key (codes "log")) (log_flag_in word) None (Some line) n.1) [
          | inl t ↦ flag_found key word line t.0 t.1
          | inr none ↦ absurd (cc none.1)
        ]
      ]
    ]
  ]
]

job_found : (first second third fourth : List ℕ) (line : ReportLine) → bytes_eq first (codes "job") ≡ true → job_in second third fourth ≡ Some line → Has line (first ∷ second ∷ third ∷ fourth ∷ [])
unfolding job_in line_words number_word
job_found first second third fourth line k h =
    let j = bound _ (number_in second) line h in
    let m = bound _ (number_in third) line j.2 in
    let s = bound _ (number_in fourth) line m.2 in
    let one = number_found second j.0 j.1 in
    let two = number_found third m.0 m.1 in
    let three = number_found fourth s.0 s.1 in
    let same : Job j.0 m.0 s.0 ≡ line = cc s.2 in
    let key = same_word first (codes "job") k in
    subst (λ (l : ReportLine). Has l (first ∷ second ∷ third ∷ fourth ∷ [])) same ((one.1, two.1, three.1), cc (one.0, two.0, three.0, key))

pub or_true : (a b : Bool) → a || b ≡ true → (a ≡ true) ⊎ (b ≡ true)
or_true true b h = inl refl
or_true false b h = inr h

pub letter_is : (letter n : ℕ) → letter == n ≡ true → letter ≡ n
letter_is letter n h = grind (arith, nat_tests)

-- behind a letter that stands bare no number stands
bare_has_none : (letter : ℕ) → is_bare letter ≡ true → has_number letter ≡ false
bare_has_none letter h = elim (or_true (letter == EXPANDED || letter == LEAF) (letter == TAIL_BOUND) h) [
  | inl two ↦ elim (or_true (letter == EXPANDED) (letter == LEAF) two) [
    | inl e ↦ ap has_number (letter_is letter EXPANDED e)
    | inr l ↦ ap has_number (letter_is letter LEAF l)
  ]
  | inr t ↦ ap has_number (letter_is letter TAIL_BOUND t)
]

-- the letter of a fate with its number, and its words
pub record FateFound (fate : ℕ × ℕ) (words : List (List ℕ)) : Type 0 where
  pub words_ : fate_words fate.0 fate.1 ≡ words
  pub letter : (has_number fate.0 || is_bare fate.0) ≡ true
  pub number : IsNumber fate.1
  pub bare : has_number fate.0 ≡ false → fate.1 ≡ 0

letter_word : (word : List ℕ) (letter : ℕ) → letter_in word ≡ Some letter → word ≡ letter ∷ []
letter_word [] letter h = absurd (cc)
letter_word (byte ∷ []) letter h = cc
letter_word (byte ∷ other ∷ more) letter h = absurd (cc)

number_behind : (letter n : ℕ) (number : Option (List ℕ)) → fate_number_in letter number ≡ Some n → FateFound (letter, n) ((letter ∷ []) ∷ option_to_list number)
unfolding fate_number_in fate_words number_word
number_behind letter n None h =
    let bare = only (is_bare letter) 0 n h in
    let none = bare_has_none letter bare.0 in
    record { words_ = rw none; letter = rw (none, bare.0); number = omega (arith, bare.1); bare = λ _. sym bare.1 }
number_behind letter n (Some word) h = elim (chosen (has_number letter) (number_in word) None (Some n) h) [
  | inl t ↦
      let found = number_found word n t.1 in
      let has = t.0 in
      record { words_ = rw has (ap (λ (w : List ℕ). (letter ∷ []) ∷ w ∷ []) found.0); letter = rw has; number = found.1; bare = λ no. absurd (cc (no, has)) }
  | inr f ↦ absurd (cc f.1)
]

fate_found : (word : List ℕ) (number : Option (List ℕ)) (fate : ℕ × ℕ) → fate_in word number ≡ Some fate → FateFound fate (word ∷ option_to_list number)
unfolding fate_in
fate_found word number fate h =
    let l = bound _ (letter_in word) fate h in
    let n = bound _ (fate_number_in l.0 number) fate l.2 in
    let same : (l.0, n.0) ≡ fate = cc n.2 in
    subst (λ (f : ℕ × ℕ). FateFound f (word ∷ option_to_list number)) same
    (subst (λ (w : List ℕ). FateFound (l.0, n.0) (w ∷ option_to_list number)) (sym (letter_word word l.0 l.1)) (number_behind l.0 n.0 number n.1))

place_facts : (job mode start : Option ℕ) (letter : ℕ) → is_place job mode start letter ≡ true → IfSome job IsNumber → IfSome mode IsNumber → IfSome start IsNumber → IsPlace job mode start letter
unfolding is_place
place_facts None None None letter h j m s = refl
place_facts None None (Some start) letter h j m s = absurd (cc)
place_facts None (Some mode) start letter h j m s = absurd (cc)
place_facts (Some job) None start letter h j m s = absurd (cc)
place_facts (Some job) (Some mode) None letter h j m s = (j, m, s, sym (ap not h))
place_facts (Some job) (Some mode) (Some start) letter h j m s = (j, m, s, sym h)

log_found : (a b c d : List ℕ) (e : Option (List ℕ)) (line : ReportLine) → log_in a b c d e ≡ Some line → Has line (a ∷ b ∷ c ∷ d ∷ option_to_list e)
unfolding log_in line_words log_line_words placed_in
log_found a b c d e line h =
    let j = bound _ (place_in a) line h in
    let m = bound _ (place_in b) line j.2 in
    let s = bound _ (place_in c) line m.2 in
    let f = bound _ (fate_in d e) line s.2 in
    let p = only (is_place j.0 m.0 s.0 f.0.0) (log_line j.0 m.0 s.0 f.0.0 f.0.1) line f.2 in
    let one = place_found a j.0 j.1 in
    let two = place_found b m.0 m.1 in
    let three = place_found c s.0 s.1 in
    let fate = fate_found d e f.0 f.1 in
    subst (λ (l : ReportLine). Has l (a ∷ b ∷ c ∷ d ∷ option_to_list e)) p.1 (
      record { place = place_facts j.0 m.0 s.0 f.0.0 p.0 one.1 two.1 three.1; letter = fate.letter; number = fate.number; bare = fate.bare },
      cc (one.0, two.0, three.0, fate.words_),
    )

-- what is read is a line with these words
pub line_found : (words : List (List ℕ)) (line : ReportLine) → line_in words ≡ Some line → Has line words
unfolding line_in four_in
line_found [] line h = absurd (cc)
line_found (a ∷ []) line h = single_found a line h
line_found (a ∷ b ∷ []) line h = pair_found a b line h
line_found (a ∷ b ∷ c ∷ []) line h = absurd (cc)
line_found (a ∷ b ∷ c ∷ d ∷ []) line h = elim (chosen (bytes_eq a (codes "job")) (job_in b c d) (log_in a b c d None) (Some line) h) [
  | inl t ↦ job_found a b c d line t.0 t.1
  | inr f ↦ log_found a b c d None line f.1
]
line_found (a ∷ b ∷ c ∷ d ∷ e ∷ []) line h = log_found a b c d (Some e) line h
line_found (a ∷ b ∷ c ∷ d ∷ e ∷ f ∷ more) line h = absurd (cc)
