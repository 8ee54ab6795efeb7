-- The text of a report that holds is accepted.
use Rattle.std.proofs.Common.{◌≡◌, ℕ, ◌+◌, ◌≤◌, inl, inr, arith, refl, sym, ap, subst, ◌∙◌, append_assoc, length-append, List, [], ◌∷◌, ◌++◌, length, map, true, false, Option, Some, None, codes}
use Rattle.std.specs.Prelude.{◌==◌, nat_lt, Ok, IfSome}
use Rattle.std.specs.List.{AllByRecursion, join_with_byte}
use Rattle.std.proofs.lemmas.Bool.{cases_Bool}
use Rattle.std.proofs.lemmas.Bool.Decides.{nat_tests}
use Rattle.std.proofs.lemmas.Fmt.{length-decimal-le}
use Rattle.std.proofs.lemmas.List.{append-nil}
use Rattle.rcpsp_model.specs.declared.parts.Verdict.{Verdict}
use Rattle.rcpsp_model.specs.declared.parts.Placing.{Placing}
use Rattle.rcpsp_model.specs.Project.{Project}
use Rattle.proof_log.specs.declared.line.ReportLine.{ReportLine}
use Rattle.proof_log.specs.declared.line.ReportLine.TheVariants as texts
use Rattle.proof_log.specs.declared.report.LogLine.{LogLine}
use Rattle.proof_log.specs.Line.{number_word, has_number, fate_words, log_line_words, line_words, line_text, IsNumber, IsLine}
use Rattle.proof_log.specs.Text.{log_words, log_lines, text_of_lines}
use Rattle.proof_log.proofs.CutParts.{is_above, parts_true}
use Rattle.proof_log.proofs.LinesAgain.{text_above}
use Rattle.proof_log.proofs.ReadAgain.{place_numbers}
use Rattle.proof_log.proofs.WrittenParts.{text_of_line, text_of_parts, nothing}
use Rattle.log_truth.specs.Log.{Branch, below}
use Rattle.log_truth.specs.Holds.{expanded_in}
use Rattle.log_truth.specs.Refusal.{WantsFrom, Wants}
use Rattle.log_truth.proofs.NextLines.{next_law}
use Rattle.log_checker.specs.declared.stage.Stage.TheVariants as stages
use Rattle.log_checker.specs.Progress.{Progress, is_ended, IsLineStep, IsStep}
use Rattle.log_checker.specs.Refusal.{whole_from, rest_from, whole_lines, rest_of, Leads}
use Rattle.log_checker.proofs.WantedBranches.{expanded-push}

-- The text of lines is cut into them again.

not_end : (x : ℕ) → nat_lt 10 x ≡ true → x == 10 ≡ false
not_end x h = grind (arith, nat_tests)

whole-text : (line w rest : List ℕ) → is_above 10 w ≡ true → whole_from line (w ++ 0x0A ∷ rest) ≡ (line ++ w) ∷ whole_from [] rest
unfolding whole_from
whole-text line [] rest h = ap (λ (l : List ℕ). l ∷ whole_from [] rest) (sym (append-nil line))
whole-text line (x ∷ w) rest h =
    let two = parts_true (nat_lt 10 x) (is_above 10 w) h in
    rw (not_end x two.0) (whole-text (line ++ x ∷ []) w rest two.1 ∙ ap (λ (l : List ℕ). l ∷ whole_from [] rest) (append_assoc line (x ∷ []) w))

rest-text : (line w rest : List ℕ) → is_above 10 w ≡ true → rest_from line (w ++ 0x0A ∷ rest) ≡ rest_from [] rest
unfolding rest_from
rest-text line [] rest h = refl
rest-text line (x ∷ w) rest h =
    let two = parts_true (nat_lt 10 x) (is_above 10 w) h in
    rw (not_end x two.0) (rest-text (line ++ x ∷ []) w rest two.1)

text-cons : (l : ReportLine) (ls : List ReportLine) → text_of_lines (l ∷ ls) ≡ line_text l ++ 0x0A ∷ text_of_lines ls
text-cons l ls = text_of_parts (l ∷ []) ls ∙ ap (λ (xs : List ℕ). xs ++ text_of_lines ls) (text_of_line l) ∙ append_assoc (line_text l) (0x0A ∷ []) (text_of_lines ls)

none-whole : whole_from [] [] ≡ []
unfolding whole_from
none-whole = refl

none-rest : rest_from [] [] ≡ []
unfolding rest_from
none-rest = refl

pub lines-whole : (ls : List ReportLine) → AllByRecursion IsLine ls → whole_lines (text_of_lines ls) ≡ map line_text ls
lines-whole [] all = ap whole_lines nothing ∙ none-whole
lines-whole (l ∷ ls) all =
    ap whole_lines (text-cons l ls) ∙ whole-text [] (line_text l) (text_of_lines ls) (text_above l all.0) ∙ ap (λ (ws : List (List ℕ)). line_text l ∷ ws) (lines-whole ls all.1)

pub lines-rest : (ls : List ReportLine) → AllByRecursion IsLine ls → rest_of (text_of_lines ls) ≡ []
lines-rest [] all = ap rest_of nothing ∙ none-rest
lines-rest (l ∷ ls) all = ap rest_of (text-cons l ls) ∙ rest-text [] (line_text l) (text_of_lines ls) (text_above l all.0) ∙ lines-rest ls all.1

-- No line is too long.

abbrev sizes : List (List ℕ) → ℕ
sizes [] = 0
sizes (w ∷ ws) = (length w + 1) + sizes ws

join-short : (ws : List (List ℕ)) → length (join_with_byte 0x20 ws) ≤ sizes ws
join-short [] = omega arith
join-short (w ∷ []) = omega arith
join-short (w ∷ v ∷ ws) = let rest = join-short (v ∷ ws) in let size = length-append w (0x20 ∷ join_with_byte 0x20 (v ∷ ws)) in omega arith

word-short : (o : Option ℕ) → IfSome o IsNumber → length (number_word o) ≤ 9
unfolding number_word
word-short None h = omega arith
word-short (Some n) h = length-decimal-le 9 n (omega arith) (omega arith) (omega arith)

fate-short : (letter number : ℕ) → IsNumber number → sizes (fate_words letter number) ≤ 12
unfolding fate_words
fate-short letter number small = elim (cases_Bool (has_number letter)) [
  | inl e ↦ let word = word-short (Some number) small in rw e (omega arith)
  | inr no_ ↦ rw no_ (omega arith)
]

pub line-short : (l : ReportLine) → IsLine l → length (line_text l) ≤ 64
unfolding line_text line_words log_line_words
line-short texts.Title h = omega arith
line-short texts.Optimal h = omega arith
line-short texts.Infeasible h = omega arith
line-short texts.Limit h = omega arith
line-short (texts.Duration n) h = let all = join-short (codes "duration" ∷ number_word n ∷ []) in let word = word-short n h in omega arith
line-short (texts.Lower n) h = let all = join-short (codes "lower" ∷ number_word n ∷ []) in let word = word-short n h in omega arith
line-short (texts.Job j m s) h =
    let all = join-short (codes "job" ∷ number_word (Some j) ∷ number_word (Some m) ∷ number_word (Some s) ∷ []) in
    let job = word-short (Some j) h.0 in let mode = word-short (Some m) h.1 in let begin = word-short (Some s) h.2 in omega arith
line-short texts.LogYes h = omega arith
line-short texts.LogNo h = omega arith
line-short (texts.Log w) h =
    let all = join-short (number_word w.job ∷ number_word w.mode ∷ number_word w.start ∷ fate_words w.letter w.number) in
    let numbers = place_numbers w.job w.mode w.start w.letter h.place in
    let job = word-short w.job numbers.job_ in let mode = word-short w.mode numbers.mode_ in let begin = word-short w.start numbers.start_ in
    let fate = fate-short w.letter w.number h.number in omega arith
line-short texts.End h = omega arith

-- A line leads on.

pub goes : (P : Project) (p q : Progress) (l : ReportLine) → is_ended p.stage ≡ false → IsLine l → IsLineStep P p p.stage (Some l) (Ok q) → IsStep P p (line_text l) (Ok q)
goes P p q l off is step = record { outcome = inr (off, inr (line-short l is, (Some l, (is, refl), step))) }

abbrev pub at_log : Verdict → List Placing → List LogLine → Progress
at_log v places lines = record { stage = stages.Line v; places = places; lines = lines }

abbrev pub at_end : Verdict → List Placing → List LogLine → Progress
at_end v places lines = record { stage = stages.Ended v; places = places; lines = lines }

-- from a line of the log on which these branches are wanted to the last line
pub log-leads : (P : Project) (v : Verdict) (places : List Placing) (done ls : List LogLine) (bs : List Branch) → Wants P v done bs → WantsFrom P v bs (expanded_in done) ls [] → AllByRecursion IsLine (log_lines ls ++ texts.End ∷ []) →
    Leads P (at_log v places done) (map line_text (log_lines ls ++ texts.End ∷ [])) (at_end v places (done ++ ls))
log-leads P v places done [] bs wants w all =
    let none = subst (Wants P v done) w wants in
    (at_end v places done, goes P (at_log v places done) (at_end v places done) texts.End refl all.0 ([], none, refl), ap (at_end v places) (sym (append-nil done)))
log-leads P v places done (l ∷ ls) [] wants w all = absurd w
log-leads P v places done (l ∷ ls) (b ∷ bs) wants w all =
    let next = next_law P v done l b bs wants w.0 in
    let rest = log-leads P v places (done ++ l ∷ []) ls (below P b l ++ bs) next (subst (λ (k : ℕ). WantsFrom P v (below P b l ++ bs) k ls []) (sym (expanded-push done l)) w.1) all.1 in
    let last = append_assoc done (l ∷ []) ls in (
      at_log v places (done ++ l ∷ []),
      goes P (at_log v places done) (at_log v places (done ++ l ∷ [])) (texts.Log (log_words l)) refl all.0 (b ∷ bs, wants, inr (l, refl, inr (w.0, refl))),
      subst (λ (xs : List LogLine). Leads P (at_log v places (done ++ l ∷ [])) (map line_text (log_lines ls ++ texts.End ∷ [])) (at_end v places xs)) last rest,
    )
