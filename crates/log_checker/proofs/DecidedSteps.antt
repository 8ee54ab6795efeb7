-- Each line leads on or breaks a rule, and so each text is accepted or refused.
use Rattle.std.proofs.Common.{◌≡◌, ℕ, ◌+◌, ◌⊎◌, inl, inr, arith, refl, sym, ap, subst, ◌∙◌, List, [], ◌∷◌, ◌++◌, length, true, Option, Some, None}
use Rattle.std.specs.Prelude.{Ok, Err}
use Rattle.std.proofs.lemmas.Bool.{cases_Bool, cases_eq, cases_lt, both_ways}
use Rattle.rcpsp_model.specs.declared.parts.Verdict.{Verdict}
use Rattle.rcpsp_model.specs.Project.{Project, IsAcyclic, job_count}
use Rattle.rcpsp_model.proofs.Lists.{In, In-append}
use Rattle.rcpsp_model.proofs.Numbers.{Decided, le_decided, both_decided, implies_decided}
use Rattle.proof_log.specs.declared.line.LogWords.{LogWords}
use Rattle.proof_log.specs.declared.line.ReportLine.{ReportLine}
use Rattle.proof_log.specs.declared.line.ReportLine.TheVariants as texts
use Rattle.proof_log.specs.declared.report.LogLine.{LogLine}
use Rattle.proof_log.specs.Report.{duration_of}
use Rattle.proof_log.specs.Text.{log_words}
use Rattle.proof_log.specs.Reading.{line_in, words_in}
use Rattle.proof_log.proofs.LinesAgain.{text_again, text_found}
use Rattle.log_truth.specs.Log.{Branch, at_root, below}
use Rattle.log_truth.specs.Holds.{AreServed, HasLower, expanded_in}
use Rattle.log_truth.specs.Refusal.{expanded_by, WantsFrom, Wants, at_line, at_citation, at_lower}
use Rattle.log_truth.proofs.LineFronts.{IsBranch, root-branch, below-branch}
use Rattle.log_truth.proofs.OneRefusal.{good-line, wants-no_fault}
use Rattle.log_truth.proofs.FirstFaults.{line-found, either_law}
use Rattle.log_checker.specs.declared.reason.Reason.{Reason}
use Rattle.log_checker.specs.declared.reason.Reason.TheVariants.{BadLine, WrongChild, BadSchedule, BadCitation, BadVerdict, TextEnds, LinesLeft}
use Rattle.log_checker.specs.declared.stage.Stage.{Stage}
use Rattle.log_checker.specs.declared.stage.Stage.TheVariants as stages
use Rattle.log_checker.specs.Reasons.{reason_of}
use Rattle.log_checker.specs.Progress.{Progress, Outcome, start, moved, title_stage, kind_stage, duration_stage, lower_stage, flag_stage, end_stage, placed, after_job, is_ended, IsRightPlan, IsJobStep, IsJudgedStep, IsWordsStep, IsWantedStep, IsLineStep, IsReadAs, IsStep}
use Rattle.log_checker.specs.Refusal.{rest_of, whole_lines, Leads, IsFirst, IsEarly, behind_end, too_long, AfterLog, unserved, not_least, lines_before, AtEnd, IsQuiet, IsRefusal}
use Rattle.log_checker.specs.Checker.{IsAcceptedAs}
use Rattle.log_checker.proofs.FedBytes.{quiet-short, quiet-none}
use Rattle.log_checker.proofs.ReportEnds.{Behind, behind-refused, nothing-left}
use Rattle.log_checker.proofs.OneOutcomes.{line_by, line-back}
use Rattle.log_checker.proofs.SoundVerdicts.{SettledBy, Settled, step-settled}
use Rattle.log_checker.proofs.DecidedPlans.{mode_decided, duration_decided}

-- The line of a job.

abbrev Comes : (Outcome → Type 0) → Type 0
Comes Step = (out : Outcome) × Step out

plan_decided : (P : Project) (v : Verdict) (p : Progress) (m s : ℕ) → Decided (IsRightPlan P v (placed p m s))
plan_decided P v p m s = implies_decided (cases_eq (length (placed p m s)) (job_count P)) (duration_decided P (duration_of v) (placed p m s))

job-comes : (P : Project) (p : Progress) (v : Verdict) (o : Option ReportLine) → Comes (IsJobStep P p v o)
job-comes P p v (Some (texts.Job j m s)) = elim (cases_eq j (length p.places + 1)) [
  | inr no_ ↦ (Err BadLine, inl (no_, refl))
  | inl job ↦ elim (mode_decided P j m) [
    | inr no_ ↦ (Err BadSchedule, inr (job, inl (no_, refl)))
    | inl mode ↦ elim (plan_decided P v p m s) [
      | inr no_ ↦ (Err BadSchedule, inr (job, inr (mode, inl (no_, refl))))
      | inl plan ↦ (Ok (after_job P v p (placed p m s)), inr (job, inr (mode, inr (plan, refl))))
    ]
  ]
]
job-comes P p v _ = (Err BadLine, refl)

-- Lines of the log.

number_decided : (a b : Option ℕ) → Decided (a ≡ b)
number_decided None None = inl refl
number_decided None (Some b) = inr (λ e. cc)
number_decided (Some a) None = inr (λ e. cc)
number_decided (Some a) (Some b) = elim (cases_eq a b) [ inl e ↦ inl (ap (λ (n : ℕ). Some n) e) | inr no_ ↦ inr (λ e. no_ (cc)) ]

abbrev words_of : Option ℕ → Option ℕ → Option ℕ → ℕ → ℕ → LogWords
words_of job mode start letter number = record { job = job; mode = mode; start = start; letter = letter; number = number }

words_decided : (a b : LogWords) → Decided (a ≡ b)
words_decided a b =
    elim (both_decided (number_decided a.job b.job) (both_decided (number_decided a.mode b.mode) (both_decided (number_decided a.start b.start) (both_decided (cases_eq a.letter b.letter) (cases_eq a.number b.number))))) [
      | inl h ↦ inl
          (ap (λ (x : Option ℕ). words_of x a.mode a.start a.letter a.number) h.0 ∙ ap (λ (x : Option ℕ). words_of b.job x a.start a.letter a.number) h.1.0
          ∙ ap (λ (x : Option ℕ). words_of b.job b.mode x a.letter a.number) h.1.1.0 ∙ ap (λ (x : ℕ). words_of b.job b.mode b.start x a.number) h.1.1.1.0
          ∙ ap (λ (x : ℕ). words_of b.job b.mode b.start b.letter x) h.1.1.1.1)
      | inr no_ ↦ inr (λ e. no_ (
        ap (λ (x : LogWords). x.job) e,
        (ap (λ (x : LogWords). x.mode) e, (ap (λ (x : LogWords). x.start) e, (ap (λ (x : LogWords). x.letter) e, ap (λ (x : LogWords). x.number) e))),
      ))
    ]

judged-comes : (P : Project) (a : IsAcyclic P) (p : Progress) (v : Verdict) (b : Branch) (l : LogLine) → IsBranch P b → Comes (IsJudgedStep P p v b l)
judged-comes P a p v b l real = elim (line-found P a v (expanded_in p.lines) b l real) [
  | inl good ↦ (Ok (record { stage = p.stage; places = p.places; lines = p.lines ++ l ∷ [] }), inr (good, refl))
  | inr f ↦ (Err (reason_of f.0), inl (f.0, f.1, refl))
]

words-come : (P : Project) (a : IsAcyclic P) (p : Progress) (v : Verdict) (b : Branch) (w : LogWords) → IsBranch P b → Comes (IsWordsStep P p v b w)
words-come P a p v b w real = elim (words_decided (log_words (line_by w)) w) [
  | inr no_ ↦ (Err WrongChild, inl (λ l e. no_ (ap (λ (x : LogWords). log_words (line_by x)) (sym e) ∙ ap log_words (line-back l) ∙ e), refl))
  | inl same ↦ let r = judged-comes P a p v b (line_by w) real in (r.0, inr (line_by w, same, r.1))
]

wanted-comes : (P : Project) (a : IsAcyclic P) (p : Progress) (v : Verdict) (bs : List Branch) (o : Option ReportLine) → ((b : Branch) → In bs b → IsBranch P b) → Comes (IsWantedStep P p v bs o)
wanted-comes P a p v [] o real = (moved p (end_stage v o), refl)
wanted-comes P a p v (b ∷ rest) (Some (texts.Log words)) real = words-come P a p v b words (real b (inl refl))
wanted-comes P a p v (b ∷ rest) (Some texts.End) real = (Err WrongChild, refl)
wanted-comes P a p v (b ∷ rest) _ real = (Err BadLine, refl)

-- the branches that are wanted are those of the tree
wanted-real : (P : Project) (v : Verdict) (bs : List Branch) (k : ℕ) (ls : List LogLine) (wanted : List Branch) → WantsFrom P v bs k ls wanted → ((b : Branch) → In bs b → IsBranch P b) → (b : Branch) → In wanted b → IsBranch P b
wanted-real P v bs k [] wanted w real = subst (λ (cs : List Branch). (b : Branch) → In cs b → IsBranch P b) w real
wanted-real P v [] k (l ∷ ls) wanted w real = absurd w
wanted-real P v (c ∷ bs) k (l ∷ ls) wanted w real =
    wanted-real P v (below P c l ++ bs) (k + expanded_by l) ls wanted w.1
    (λ b (i : In (below P c l ++ bs) b). elim (In-append (below P c l) bs b i) [ inl under ↦ below-branch P c b l (real c (inl refl)) (good-line P v k c l w.0) under | inr other ↦ real b (inr other) ])

-- Any line.

line-comes : (P : Project) (a : IsAcyclic P) (p : Progress) (s : Stage) (o : Option ReportLine) → Settled P s p.places p.lines → Comes (IsLineStep P p s o)
line-comes P a p (stages.Job v) o h = job-comes P p v o
line-comes P a p (stages.Line v) o h =
    let r = wanted-comes P a p v h.1.0 o (wanted-real P v (at_root ∷ []) 0 p.lines h.1.0 h.1.1 (root-branch P)) in (r.0, (h.1.0, h.1.1, r.1))
line-comes P a p (stages.Ended v) o h = (Err LinesLeft, refl)
line-comes P a p stages.Title o h = (moved p (title_stage o), refl)
line-comes P a p stages.Kind o h = (moved p (kind_stage o), refl)
line-comes P a p (stages.Duration k) o h = (moved p (duration_stage k o), refl)
line-comes P a p (stages.Lower k d) o h = (moved p (lower_stage k d o), refl)
line-comes P a p (stages.Flag v) o h = (moved p (flag_stage v o), refl)

read-as : (w : List ℕ) (o : Option ReportLine) → line_in (words_in w) ≡ o → IsReadAs w o
read-as w (Some l) e = text_found w l e
read-as w None e = λ l is same. let again : None ≡ Some l = sym e ∙ ap (λ (x : List ℕ). line_in (words_in x)) same ∙ text_again l is in absurd (cc)

step-comes : (P : Project) (a : IsAcyclic P) (p : Progress) (w : List ℕ) → SettledBy P p → Comes (IsStep P p w)
step-comes P a p w h = elim (cases_Bool (is_ended p.stage)) [
  | inl on ↦ (Err LinesLeft, record { outcome = inl (λ off. both_ways (is_ended p.stage) off on, refl) })
  | inr off ↦ elim (le_decided (length w) 64) [
    | inr long ↦ (Err BadLine, record { outcome = inr (off, inl (long, refl)) })
    | inl short ↦
        let r = line-comes P a p p.stage (line_in (words_in w)) h in
        (r.0, record { outcome = inr (off, inr (short, (line_in (words_in w), read-as w (line_in (words_in w)) refl, r.1))) })
  ]
]

-- All lines: they lead on, or one breaks a rule first.

abbrev LeadOn : Project → Progress → List (List ℕ) → Type 0
LeadOn P p ws = (q : Progress) × Leads P p ws q × SettledBy P q

abbrev AreBroken : Project → List ℕ → Progress → ℕ → List (List ℕ) → Type 0
AreBroken P rest p i ws = (n : ℕ) × (r : Reason) × IsFirst P (Behind P rest) p i ws n r

lines-come : (P : Project) (a : IsAcyclic P) (rest : List ℕ) (p : Progress) (i : ℕ) (ws : List (List ℕ)) → SettledBy P p → LeadOn P p ws ⊎ AreBroken P rest p i ws
lines-come P a rest p i [] h = inl (p, refl, h)
lines-come P a rest p i (w ∷ ws) h = let s = step-comes P a p w h in by s.0 s.1 (λ q settled. lines-come P a rest q (i + 1) ws settled)
  where
    by : (out : Outcome) → IsStep P p w out → ((q : Progress) → SettledBy P q → LeadOn P q ws ⊎ AreBroken P rest q (i + 1) ws) → LeadOn P p (w ∷ ws) ⊎ AreBroken P rest p i (w ∷ ws)
    by (Err r) s later = inr (i, r, inl (refl, s))
    by (Ok q) s later = elim (later q (step-settled P p q w h s)) [ inl on ↦ inl (on.0, (q, s, on.1), on.2) | inr b ↦ inr (b.0, b.1, inr (q, s, b.2)) ]

-- The end.

rest-comes : (p : Progress) (rest : List ℕ) → IsQuiet p rest ⊎ ((r : Reason) × IsEarly p rest r)
rest-comes p rest = elim (cases_Bool (is_ended p.stage)) [
  | inl on ↦ after on rest
  | inr off ↦ elim (cases_lt 64 (length rest)) [ inl long ↦ inr (BadLine, too_long off long) | inr short ↦ inl (quiet-short p rest off short) ]
]
  where
    after : is_ended p.stage ≡ true → (xs : List ℕ) → IsQuiet p xs ⊎ ((r : Reason) × IsEarly p xs r)
    after on [] = inl (quiet-none p)
    after on (x ∷ xs) = inr (LinesLeft, behind_end on (omega arith))

abbrev Breaks : (ℕ → Reason → Type 0) → Type 0
Breaks At = (n : ℕ) × (r : Reason) × At n r

log-comes : (P : Project) (a : IsAcyclic P) (v : Verdict) (p : Progress) → Wants P v p.lines [] → (AreServed P p.lines × HasLower v p.lines) ⊎ Breaks (AfterLog P v p)
log-comes P a v p wants = elim (either_law P v p.lines a) [
  | inl holds ↦ inl (holds.served, holds.lower)
  | inr wrong ↦ elim wrong.2 [
    | at_line f ↦ absurd (wants-no_fault P v (at_root ∷ []) 0 1 p.lines wrong.0 wrong.1 wants f)
    | at_citation w u e ↦ inr (lines_before p + wrong.0, BadCitation, unserved wrong.0 u)
    | at_lower w s no_ z e ↦ inr (4, BadVerdict, not_least s no_)
  ]
]

abbrev IsDone : Project → Progress → Type 0
IsDone P p = (v : Verdict) × (p.stage ≡ stages.Ended v) × AreServed P p.lines × HasLower v p.lines

end-comes : (P : Project) (a : IsAcyclic P) (p : Progress) (i : ℕ) (s : Stage) → p.stage ≡ s → Settled P s p.places p.lines → IsDone P p ⊎ Breaks (AtEnd P p s i)
end-comes P a p i (stages.Ended v) e h = elim (log-comes P a v p h.1) [ inl done ↦ inl (v, e, done.0, done.1) | inr b ↦ inr b ]
end-comes P a p i stages.Title e h = inr (i, TextEnds, (refl, refl))
end-comes P a p i stages.Kind e h = inr (i, TextEnds, (refl, refl))
end-comes P a p i (stages.Duration k) e h = inr (i, TextEnds, (refl, refl))
end-comes P a p i (stages.Lower k d) e h = inr (i, TextEnds, (refl, refl))
end-comes P a p i (stages.Job v) e h = inr (i, TextEnds, (refl, refl))
end-comes P a p i (stages.Flag v) e h = inr (i, TextEnds, (refl, refl))
end-comes P a p i (stages.Line v) e h = inr (i, TextEnds, (refl, refl))

pub text-comes : (P : Project) (bytes : List ℕ) → IsAcyclic P → ((v : Verdict) × IsAcceptedAs P bytes v) ⊎ ((n : ℕ) × (r : Reason) × IsRefusal P bytes n r)
text-comes P bytes a = elim (lines-come P a (rest_of bytes) start 1 (whole_lines bytes) refl) [
  | inr b ↦ inr b
  | inl on ↦
      let p = on.0 in
      let behind = 1 + length (whole_lines bytes) in
      elim (rest-comes p (rest_of bytes)) [
        | inr early ↦ inr (behind, early.0, behind-refused P p bytes behind early.0 on.1 (inl (refl, early.1)))
        | inl quiet ↦ elim (end-comes P a p behind p.stage refl on.2) [
          | inr b ↦ inr (b.0, b.1, behind-refused P p bytes b.0 b.1 on.1 (inr (quiet, b.2)))
          | inl done ↦ inl (
            done.0,
            record {
              progress = p;
              leads = on.1;
              ended = done.1;
              all = nothing-left p (rest_of bytes) (ap is_ended done.1) quiet;
              served = done.2;
              lower = done.3;
            },
          )
        ]
      ]
]
