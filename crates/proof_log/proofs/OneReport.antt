-- The lines of a report are lines, and say all of it.
use Rattle.std.proofs.Common.{◌≡◌, ℕ, ◌+◌, ◌<◌, ◌≤◌, ◌∙◌, arith, refl, sym, ap, Bool, true, false, cond, ◌||◌, not, List, [], ◌∷◌, ◌++◌, length, Option, Some, None}
use Rattle.std.specs.Prelude.{◌==◌, is_some, IfSome, All}
use Rattle.std.specs.List.{AllByRecursion}
use Rattle.std.proofs.lemmas.Bool.Decides.{nat_tests}
use Rattle.std.proofs.lemmas.List.Elements.{recursion_from_All}
use Rattle.sched_base.specs.declared.fate.Fate.{Fate}
use Rattle.sched_base.specs.declared.fate.Fate.TheVariants.{Expanded, Leaf, TailBound, WorkBound, Budget, Capacity, Worse, Cutset, Left}
use Rattle.rcpsp_model.specs.declared.parts.Placing.{Placing}
use Rattle.rcpsp_model.specs.declared.parts.Verdict.{Verdict}
use Rattle.rcpsp_model.specs.declared.parts.Verdict.TheVariants as verdicts
use Rattle.proof_log.specs.declared.line.ReportLine.{ReportLine}
use Rattle.proof_log.specs.declared.line.ReportLine.TheVariants.{Duration, Lower, Job, LogYes, LogNo, Log, End}
use Rattle.proof_log.specs.declared.line.LogWords.{LogWords}
use Rattle.proof_log.specs.declared.report.LogLine.{LogLine}
use Rattle.proof_log.specs.declared.report.Report.{Report}
use Rattle.proof_log.specs.Line.{IsNumber, IsPlace, IsLine, has_number, is_bare, is_shut}
use Rattle.proof_log.specs.Report.{duration_of, lower_of, letter_of, fate_number, IsInnerLine, IsLog, IsPlan, IsReport}
use Rattle.proof_log.specs.Text.{verdict_line, best_part, from_one, log_words, log_lines, log_part, lines_of, job_lines}
use Rattle.proof_log.specs.Laws.{HasBytes, OneReportLaw}
use Rattle.proof_log.proofs.OneList.{one_list}
use Rattle.proof_log.proofs.WrittenParts.{jobs_from}

both_parts : {X : Type 0} (P : X → Type 0) (xs ys : List X) → AllByRecursion P xs → AllByRecursion P ys → AllByRecursion P (xs ++ ys)
both_parts P [] ys p q = q
both_parts P (x ∷ xs) ys p q = (p.0, both_parts P xs ys p.1 q)

jobs_are_lines : (job : ℕ) (places : List Placing) → job + length places ≤ 999999999 → AllByRecursion (λ place. place.mode < 256) places → AllByRecursion (λ place. IsNumber place.start) places → AllByRecursion IsLine (jobs_from job places)
jobs_are_lines job [] few modes starts = tt
jobs_are_lines job (place ∷ places) few modes starts =
    let number : IsNumber job = omega arith in
    let mode : IsNumber place.mode = omega (arith, modes.0) in
    ((number, mode, starts.0), jobs_are_lines (job + 1) places (omega arith) modes.1 starts.1)

letter_known : (fate : Fate) → (has_number (letter_of fate) || is_bare (letter_of fate)) ≡ true
letter_known Expanded = refl
letter_known Leaf = refl
letter_known TailBound = refl
letter_known (WorkBound n) = refl
letter_known (Budget n) = refl
letter_known (Capacity n) = refl
letter_known (Worse n) = refl
letter_known (Cutset n) = refl
letter_known (Left n) = refl

number_none : (fate : Fate) → has_number (letter_of fate) ≡ false → fate_number fate ≡ 0
number_none Expanded h = refl
number_none Leaf h = refl
number_none TailBound h = refl
number_none (WorkBound n) h = absurd (cc)
number_none (Budget n) h = absurd (cc)
number_none (Capacity n) h = absurd (cc)
number_none (Worse n) h = absurd (cc)
number_none (Cutset n) h = absurd (cc)
number_none (Left n) h = absurd (cc)

root_place : (job mode : ℕ) (start : Option ℕ) (letter : ℕ) → job ≡ 0 → mode ≡ 0 → start ≡ None → IsPlace (from_one job) (from_one mode) start letter
root_place job mode start letter j m s = rw (j, m) s

inner_place : (job mode : ℕ) (start : Option ℕ) (letter : ℕ) → 1 ≤ job → 1 ≤ mode → job < 256 → mode < 256 → IfSome start IsNumber → is_some start ≡ not (is_shut letter) → IsPlace (from_one job) (from_one mode) start letter
inner_place job mode start letter j m small_j small_m number shut =
    let first : job == 0 ≡ false = grind (arith, nat_tests) in
    let second : mode == 0 ≡ false = grind (arith, nat_tests) in
    let job_ : IsNumber job = omega arith in
    let mode_ : IsNumber mode = omega arith in
    rw (first, second) (job_, mode_, number, shut)

inner_are_lines : (log : List LogLine) → AllByRecursion IsInnerLine log → AllByRecursion (λ line. (line.job < 256) × (line.mode < 256)) log → AllByRecursion IsLine (log_lines log)
inner_are_lines [] inner bytes = tt
inner_are_lines (line ∷ log) inner bytes = (
  record {
    place = inner_place line.job line.mode line.start (letter_of line.fate) inner.0.job inner.0.mode bytes.0.0 bytes.0.1 inner.0.start inner.0.shut;
    letter = letter_known line.fate;
    number = inner.0.number;
    bare = number_none line.fate;
  },
  inner_are_lines log inner.1 bytes.1,
)

log_is_lines : (log : List LogLine) → IsLog log → AllByRecursion (λ line. (line.job < 256) × (line.mode < 256)) log → AllByRecursion IsLine (log_lines log)
log_is_lines [] is bytes = tt
log_is_lines (root ∷ log) is bytes = (
  record {
    place = root_place root.job root.mode root.start (letter_of root.fate) is.0.job is.0.mode is.0.start;
    letter = letter_known root.fate;
    number = is.0.number;
    bare = number_none root.fate;
  },
  inner_are_lines log (recursion_from_All IsInnerLine log is.1) bytes.1,
)

verdict_is_line : (verdict : Verdict) → IsLine (verdict_line verdict)
verdict_is_line (verdicts.Optimal d) = tt
verdict_is_line verdicts.Infeasible = tt
verdict_is_line (verdicts.Limit d l) = tt

best_is_lines : (best : Option (List Placing)) → IfSome best IsPlan → IfSome best (All (λ place. place.mode < 256)) → AllByRecursion IsLine (best_part best)
best_is_lines None is bytes = tt
best_is_lines (Some places) is bytes =
    jobs_are_lines 1 places (omega (arith, is.jobs)) (recursion_from_All (λ place. place.mode < 256) places bytes) (recursion_from_All (λ place. IsNumber place.start) places is.starts)

part_is_lines : (log : Option (List LogLine)) → IfSome log IsLog → IfSome log (All (λ line. (line.job < 256) × (line.mode < 256))) → AllByRecursion IsLine (log_part log)
part_is_lines None is bytes = (tt, tt)
part_is_lines (Some log) is bytes = (tt, log_is_lines log is (recursion_from_All (λ line. (line.job < 256) × (line.mode < 256)) log bytes))

-- the lines of a report are lines
pub lines_are_lines : (r : Report) → IsReport r → HasBytes r → AllByRecursion IsLine (lines_of r)
lines_are_lines r is bytes =
    let tail = both_parts IsLine (log_part r.log) (End ∷ []) (part_is_lines r.log is.log bytes.log) (tt, tt) in
    let rest = both_parts IsLine (best_part r.best) (log_part r.log ++ End ∷ []) (best_is_lines r.best is.best bytes.modes) tail in
    (tt, (verdict_is_line r.verdict, (is.duration, (is.lower, rest))))

same_verdict : (v w : Verdict) → verdict_line v ≡ verdict_line w → Duration (duration_of v) ≡ Duration (duration_of w) → Lower (lower_of v) ≡ Lower (lower_of w) → v ≡ w
same_verdict (verdicts.Optimal d) (verdicts.Optimal e) a b c = cc
same_verdict (verdicts.Optimal d) verdicts.Infeasible a b c = absurd (cc)
same_verdict (verdicts.Optimal d) (verdicts.Limit e l) a b c = absurd (cc)
same_verdict verdicts.Infeasible (verdicts.Optimal e) a b c = absurd (cc)
same_verdict verdicts.Infeasible verdicts.Infeasible a b c = refl
same_verdict verdicts.Infeasible (verdicts.Limit e l) a b c = absurd (cc)
same_verdict (verdicts.Limit d k) (verdicts.Optimal e) a b c = absurd (cc)
same_verdict (verdicts.Limit d k) verdicts.Infeasible a b c = absurd (cc)
same_verdict (verdicts.Limit d k) (verdicts.Limit e l) a b c = cc

heads : (x y : ReportLine) (xs ys : List ReportLine) → x ∷ xs ≡ y ∷ ys → (x ≡ y) × (xs ≡ ys)
heads x y xs ys same = (cc, cc)

is_job : ReportLine → Bool
is_job (Job job mode start) = true
is_job line = false

job_is : (job mode start : ℕ) → is_job (Job job mode start) ≡ true
unfolding is_job
job_is job mode start = refl

same_place : (job : ℕ) (p q : Placing) → Job job p.mode p.start ≡ Job job q.mode q.start → p ≡ q
same_place job p q same =
    let mode : p.mode ≡ q.mode = cc in
    let start : p.start ≡ q.start = cc in
    ap (λ (m : ℕ). let place : Placing = record { mode = m; start = p.start } in place) mode ∙ ap (λ (s : ℕ). let place : Placing = record { mode = q.mode; start = s } in place) start

same_jobs : (job : ℕ) (ps qs : List Placing) (x y : ReportLine) (xs ys : List ReportLine) → is_job x ≡ false → is_job y ≡ false → jobs_from job ps ++ x ∷ xs ≡ jobs_from job qs ++ y ∷ ys → (ps ≡ qs) × (x ∷ xs ≡ y ∷ ys)
same_jobs job [] [] x y xs ys a b same = (refl, same)
same_jobs job [] (q ∷ qs) x y xs ys a b same =
    let h = heads x (Job job q.mode q.start) xs (jobs_from (job + 1) qs ++ y ∷ ys) same in
    let t = job_is job q.mode q.start in
    absurd (cc (ap is_job h.0, t, a))
same_jobs job (p ∷ ps) [] x y xs ys a b same =
    let h = heads (Job job p.mode p.start) y (jobs_from (job + 1) ps ++ x ∷ xs) ys same in
    let t = job_is job p.mode p.start in
    absurd (cc (ap is_job h.0, t, b))
same_jobs job (p ∷ ps) (q ∷ qs) x y xs ys a b same =
    let h = heads (Job job p.mode p.start) (Job job q.mode q.start) (jobs_from (job + 1) ps ++ x ∷ xs) (jobs_from (job + 1) qs ++ y ∷ ys) same in
    let rest = same_jobs (job + 1) ps qs x y xs ys a b h.1 in
    (ap (λ (z : Placing). z ∷ ps) (same_place job p q h.0) ∙ ap (λ (zs : List Placing). q ∷ zs) rest.0, rest.1)

-- the fate with a letter and a number, found by trying
fate_from : ℕ → ℕ → Fate
fate_from letter number =
    cond (letter == 69) Expanded (cond (letter == 76) Leaf (cond (letter == 84) TailBound (cond (letter == 87) (WorkBound number) (cond (letter == 78) (Budget number)
    (cond (letter == 88) (Capacity number) (cond (letter == 77) (Worse number) (cond (letter == 67) (Cutset number) (Left number))))))))

fate_again : (fate : Fate) → fate_from (letter_of fate) (fate_number fate) ≡ fate
unfolding fate_from
fate_again Expanded = refl
fate_again Leaf = refl
fate_again TailBound = refl
fate_again (WorkBound n) = refl
fate_again (Budget n) = refl
fate_again (Capacity n) = refl
fate_again (Worse n) = refl
fate_again (Cutset n) = refl
fate_again (Left n) = refl

to_number : Option ℕ → ℕ
to_number None = 0
to_number (Some n) = n

from_one_again : (n : ℕ) → to_number (from_one n) ≡ n
unfolding to_number
from_one_again n = at (n == 0) (λ h. grind (arith, nat_tests))
  where
    at : (b : Bool) → (b ≡ true → n ≡ 0) → to_number (cond b None (Some n)) ≡ n
    at true h = sym (h refl)
    at false h = refl

-- a log line from its words
line_from : LogWords → LogLine
line_from w = record { job = to_number w.job; mode = to_number w.mode; start = w.start; fate = fate_from w.letter w.number }

line_from_words : (line : LogLine) → line_from (log_words line) ≡ line
unfolding line_from
line_from_words line =
    ap (λ (j : ℕ). let l : LogLine = record { job = j; mode = to_number (from_one line.mode); start = line.start; fate = fate_from (letter_of line.fate) (fate_number line.fate) } in l) (from_one_again line.job)
    ∙ ap (λ (m : ℕ). let l : LogLine = record { job = line.job; mode = m; start = line.start; fate = fate_from (letter_of line.fate) (fate_number line.fate) } in l) (from_one_again line.mode)
    ∙ ap (λ (f : Fate). let l : LogLine = record { job = line.job; mode = line.mode; start = line.start; fate = f } in l) (fate_again line.fate)

same_line : (a b : LogLine) → Log (log_words a) ≡ Log (log_words b) → a ≡ b
same_line a b same =
    let words : log_words a ≡ log_words b = cc in
    sym (line_from_words a) ∙ ap line_from words ∙ line_from_words b

same_log : (a b : List LogLine) → log_lines a ++ End ∷ [] ≡ log_lines b ++ End ∷ [] → a ≡ b
same_log [] [] same = refl
same_log [] (y ∷ ys) same = let h = heads End (Log (log_words y)) [] (log_lines ys ++ End ∷ []) same in absurd (cc h.0)
same_log (x ∷ xs) [] same = let h = heads (Log (log_words x)) End (log_lines xs ++ End ∷ []) [] same in absurd (cc h.0)
same_log (x ∷ xs) (y ∷ ys) same =
    let h = heads (Log (log_words x)) (Log (log_words y)) (log_lines xs ++ End ∷ []) (log_lines ys ++ End ∷ []) same in
    ap (λ (z : LogLine). z ∷ xs) (same_line x y h.0) ∙ ap (λ (zs : List LogLine). y ∷ zs) (same_log xs ys h.1)

same_part : (a b : Option (List LogLine)) → log_part a ++ End ∷ [] ≡ log_part b ++ End ∷ [] → a ≡ b
same_part None None same = refl
same_part None (Some b) same = let h = heads LogNo LogYes (End ∷ []) (log_lines b ++ End ∷ []) same in absurd (cc h.0)
same_part (Some a) None same = let h = heads LogYes LogNo (log_lines a ++ End ∷ []) (End ∷ []) same in absurd (cc h.0)
same_part (Some a) (Some b) same =
    let h = heads LogYes LogYes (log_lines a ++ End ∷ []) (log_lines b ++ End ∷ []) same in
    ap (λ (log : List LogLine). Some log) (same_log a b h.1)

-- the first line behind those of the jobs, and the others
first_of : Option (List LogLine) → ReportLine
first_of None = LogNo
first_of (Some log) = LogYes

others_of : Option (List LogLine) → List ReportLine
others_of None = End ∷ []
others_of (Some log) = log_lines log ++ End ∷ []

part_is : (log : Option (List LogLine)) → log_part log ++ End ∷ [] ≡ first_of log ∷ others_of log
unfolding first_of others_of
part_is None = refl
part_is (Some log) = refl

first_no_job : (log : Option (List LogLine)) → is_job (first_of log) ≡ false
unfolding first_of is_job
first_no_job None = refl
first_no_job (Some log) = refl

same_best : (a b : Option (List Placing)) (g h : Option (List LogLine)) → is_some a ≡ is_some b → best_part a ++ (log_part g ++ End ∷ []) ≡ best_part b ++ (log_part h ++ End ∷ []) → (a ≡ b) × (log_part g ++ End ∷ [] ≡ log_part h ++ End ∷ [])
same_best None None g h some same = (refl, same)
same_best None (Some b) g h some same = absurd (cc)
same_best (Some a) None g h some same = absurd (cc)
same_best (Some a) (Some b) g h some same =
    let e = ap (λ (xs : List ReportLine). job_lines a ++ xs) (sym (part_is g)) ∙ same ∙ ap (λ (xs : List ReportLine). job_lines b ++ xs) (part_is h) in
    let r = same_jobs 1 a b (first_of g) (first_of h) (others_of g) (others_of h) (first_no_job g) (first_no_job h) e in
    (ap (λ (places : List Placing). Some places) r.0, part_is g ∙ r.1 ∙ sym (part_is h))

same_report : (r s : Report) → r.verdict ≡ s.verdict → r.best ≡ s.best → r.log ≡ s.log → r ≡ s
same_report r s v b l =
    ap (λ (x : Verdict). let t : Report = record { verdict = x; best = r.best; log = r.log } in t) v
    ∙ ap (λ (x : Option (List Placing)). let t : Report = record { verdict = s.verdict; best = x; log = r.log } in t) b
    ∙ ap (λ (x : Option (List LogLine)). let t : Report = record { verdict = s.verdict; best = s.best; log = x } in t) l

pub one_report_law : OneReportLaw
one_report_law r s is_r bytes_r is_s bytes_s same =
    let lines = one_list (lines_of r) (lines_of s) (lines_are_lines r is_r bytes_r) (lines_are_lines s is_s bytes_s) same in
    let one = heads _ _ _ _ lines in
    let two = heads _ _ _ _ one.1 in
    let three = heads _ _ _ _ two.1 in
    let four = heads _ _ _ _ three.1 in
    let verdict = same_verdict r.verdict s.verdict two.0 three.0 four.0 in
    let has : is_some r.best ≡ is_some s.best = is_r.has_best ∙ ap (λ (v : Verdict). is_some (duration_of v)) verdict ∙ sym is_s.has_best in
    let best = same_best r.best s.best r.log s.log has four.1 in
    same_report r s verdict best.0 (same_part r.log s.log best.1)
