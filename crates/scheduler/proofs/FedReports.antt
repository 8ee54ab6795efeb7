-- What a checker stands for while a report is read: all of it in the end, since what breaks no rule is short.
use Rattle.std.proofs.Common.{◌≡◌, ℕ, ◌+◌, ◌*◌, ◌<◌, ◌≤◌, inl, inr, arith, refl, subst, true, false, if◌then◌else◌, Option, Some, None, List, [], ◌∷◌, ◌++◌, length, length-append}
use Rattle.std.specs.Prelude.{Ok, Result}
use Rattle.std.proofs.lemmas.Bool.{cases_Bool, cases_lt}
use Rattle.rcpsp_model.specs.declared.parts.Verdict.{Verdict}
use Rattle.rcpsp_model.specs.Project.{Project, IsProject, IsWithinLimits}
use Rattle.proof_log.specs.declared.line_reader.TheConstants.{LONGEST_LINE}
use Rattle.proof_log.specs.Lines.{ReaderState, is_line_end}
use Rattle.log_checker.specs.declared.course.Course.{Course}
use Rattle.log_checker.specs.declared.reason.Reason.TheVariants.{BadLine, LinesLeft}
use Rattle.log_checker.specs.declared.refused.Refused.{Refused}
use Rattle.log_checker.specs.Progress.{Progress, start, is_ended, IsStep}
use Rattle.log_checker.specs.Refusal.{whole_from, rest_from, whole_lines, rest_of, Leads, behind_end, too_long, IsQuiet}
use Rattle.log_checker.specs.Checker.{CheckerState, Runs, StandsAs, StandsFor, IsFinished, IsJudgement}
use Rattle.log_checker.proofs.FedBytes.{stands-refused}
use Rattle.log_checker.proofs.RoomForNumbers.{few-lines}
use Rattle.scheduler.specs.declared.answer.Judgement.{Judgement}
use Rattle.scheduler.specs.declared.answer.Judgement.TheVariants as judgements
use Rattle.scheduler.specs.declared.feeding.TheConstants.{MOST_JUDGED}
use Rattle.scheduler.specs.Feeding.{HasText}
use Rattle.scheduler.specs.Judging.{result_of, IsJudgementOf}

-- Bytes that break no rule are few.

abbrev Short : List (List ℕ) → Type 0
Short [] = Unit {0}
Short (line ∷ lines) = (length line ≤ LONGEST_LINE) × Short lines

step-short : (P : Project) (p q : Progress) (line : List ℕ) → IsStep P p line (Ok q) → length line ≤ LONGEST_LINE
step-short P p q line s = elim s.outcome [
  | inl x ↦ absurd (cc (x.1))
  | inr x ↦ elim x.1 [ inl y ↦ absurd (cc (y.1)) | inr y ↦ y.0 ]
]

leads-short : (P : Project) (p q : Progress) (lines : List (List ℕ)) → Leads P p lines q → Short lines
leads-short P p q [] h = tt
leads-short P p q (line ∷ lines) h = (step-short P p h.0 line h.1, leads-short P h.0 q lines h.2)

-- a text is no longer than its lines, each with its end, and what stands behind them
sized : (line bytes : List ℕ) → Short (whole_from line bytes) → length line + length bytes ≤ 65 * length (whole_from line bytes) + length (rest_from line bytes)
unfolding whole_from rest_from
sized line [] short = omega arith
sized line (byte ∷ bytes) short =
    elim (is_line_end byte) as (λ ends. Short (if ends then line ∷ whole_from [] bytes else whole_from (line ++ byte ∷ []) bytes)
    → length line + length (byte ∷ bytes) ≤ 65 * length (if ends then line ∷ whole_from [] bytes else whole_from (line ++ byte ∷ []) bytes) + length (if ends then rest_from [] bytes else rest_from (line ++ byte ∷ []) bytes)) [
      | true ↦ λ s. let r = sized [] bytes s.1 in let low = s.0 in omega arith
      | false ↦ λ s. let r = sized (line ++ byte ∷ []) bytes s in let e = length-append line (byte ∷ []) in omega arith
    ] short

quiet-short : (p : Progress) (rest : List ℕ) → IsQuiet p rest → length rest ≤ LONGEST_LINE
quiet-short p rest quiet = elim (cases_lt LONGEST_LINE (length rest)) [
  | inl long ↦ elim (cases_Bool (is_ended p.stage)) [
    | inl ended ↦ absurd (quiet LinesLeft (behind_end ended (omega arith)))
    | inr wanted ↦ absurd (quiet BadLine (too_long wanted long))
  ]
  | inr short ↦ short
]

few-bytes : (P : Project) (reader : ReaderState) (number : ℕ) (course : Course) (bytes : List ℕ) → IsWithinLimits P → Runs P reader number course bytes → length bytes < 3328008905
few-bytes P reader number course bytes limits runs =
    let size = sized [] bytes (leads-short P start runs.progress (whole_lines bytes) runs.leads) in
    let lines = few-lines P runs.progress (whole_lines bytes) limits runs.leads in
    let rest = quiet-short runs.progress (rest_of bytes) runs.quiet in
    omega arith

-- Read after read.

-- after so many bytes the checker has refused them
pub report_stays : (c : CheckerState) (bytes more : List ℕ) → IsProject c.project → MOST_JUDGED ≤ length bytes → StandsFor c bytes → StandsFor c (bytes ++ more)
report_stays c bytes more is most stands = by c.refused refl
  where
    by : (r : Option Refused) → c.refused ≡ r → StandsFor c (bytes ++ more)
    by None e = let few = few-bytes c.project c.reader c.number c.course bytes is.limits (subst (StandsAs c bytes) e stands) in absurd (omega arith)
    by (Some refused) e = stands-refused c bytes more refused e stands

-- At the end.

by_judgement : (P : Project) (bytes : List ℕ) (judgement : Judgement) → IsFinished P bytes (result_of judgement) → IsJudgement P bytes (result_of judgement)
by_judgement P bytes (judgements.Accepted verdict) is = is
by_judgement P bytes (judgements.Refused line reason) is = is

pub judged_all : (P : Project) (texts : Option (List (List ℕ × List ℕ))) (name : List ℕ) (c : CheckerState) (out : Result Verdict Refused) (judgement : Judgement) → c.project ≡ P → HasText texts (StandsFor c) name →
    ((bytes : List ℕ) → StandsFor c bytes → IsFinished c.project bytes out) → out ≡ result_of judgement → IsJudgementOf P texts name judgement
judged_all P texts name c out judgement same has finished is = record {
  report = has.bytes;
  is_report = has.is_text;
  judged = by_judgement P has.bytes judgement (subst (λ (Q : Project). IsFinished Q has.bytes (result_of judgement)) same (subst (IsFinished c.project has.bytes) is (finished has.bytes has.stands)));
}
