-- The status of an answer says what the words and the text are.
use Rattle.std.proofs.Common.{◌≡◌, ℕ, ◌↔◌, ◌⊎◌, List, Option, None, Some, IfSome, inl, inr, refl, sym, subst, ◌∙◌}
use Rattle.std.specs.Prelude.{Result, Ok, Err}
use Rattle.rcpsp_model.specs.declared.parts.Verdict.{Verdict}
use Rattle.rcpsp_model.specs.declared.parts.Verdict.TheVariants.{Optimal, Infeasible, Limit}
use Rattle.psplib_reader.proofs.OneReading.{never_both}
use Rattle.sched_base.specs.Outside.{text_under}
use Rattle.proof_log.specs.declared.report.Report.{Report}
use Rattle.scheduler.specs.declared.answer.Answer.{Answer}
use Rattle.scheduler.specs.declared.answer.Answer.TheVariants as answers
use Rattle.scheduler.specs.declared.answer.Judgement.{Judgement}
use Rattle.scheduler.specs.declared.answer.Judgement.TheVariants as judgements
use Rattle.scheduler.specs.declared.answer.Outcome.{Outcome}
use Rattle.scheduler.specs.declared.answer.Outcome.TheVariants as outcomes
use Rattle.scheduler.specs.declared.planning.Plan.{Plan}
use Rattle.bound_checker.specs.declared.checker.BoundRefusal.{BoundRefusal}
use Rattle.scheduler.specs.declared.status.Status.{Status}
use Rattle.scheduler.specs.declared.status.Status.TheVariants as statuses
use Rattle.plan_words.specs.Words.{IsSolve, IsCheck, IsShow, IsPlan, IsBound, IsVerify, IsMake, IsTrial, IsMade, IsPrint, IsOnProject, project_name}
use Rattle.scheduler.specs.Status.{IsSolved, IsServed}
use Rattle.scheduler.specs.Answer.{IsOutcomeOf, IsOutcomeUnder, IsAnswerTo, NamesProject, NamesNoProject, HasProject, status_of, status_of_plan, status_of_verdict, status_of_judgement, status_of_bound_judgement}
use Rattle.plan_words.proofs.CommandWords.{on_project_stands, bad_is_none, not_made, not_shown, judged_not_shown, not_tried, make_not_tried, made_stands, read_not_made, planned_not_shown, bound_not_shown, verified_not_shown}

verdict_serves : (v : Verdict) → IsServed (status_of_verdict v)
verdict_serves (Optimal d) = tt
verdict_serves Infeasible = tt
verdict_serves (Limit d b) = tt

judgement_serves : (j : Judgement) → IsServed (status_of_judgement j)
judgement_serves (judgements.Accepted v) = tt
judgement_serves (judgements.Refused line reason) = tt

bound_serves : (j : Result ℕ BoundRefusal) → IsServed (status_of_bound_judgement j)
bound_serves (Ok bound) = tt
bound_serves (Err refused) = tt

plan_serves : (plan : Option Plan) → IsServed (status_of_plan plan)
plan_serves None = tt
plan_serves (Some plan) = tt

plan_not_bad : (plan : Option Plan) → status_of_plan plan ≡ statuses.BadProject → ⊥
plan_not_bad None e = cc
plan_not_bad (Some plan) e = cc

bound_not_bad : (j : Result ℕ BoundRefusal) → status_of_bound_judgement j ≡ statuses.BadProject → ⊥
bound_not_bad (Ok bound) e = cc
bound_not_bad (Err refused) e = cc

not_bad_project : (v : Verdict) → status_of_verdict v ≡ statuses.BadProject → ⊥
not_bad_project (Optimal d) e = cc
not_bad_project Infeasible e = cc
not_bad_project (Limit d b) e = cc

judged_not_bad : (j : Judgement) → status_of_judgement j ≡ statuses.BadProject → ⊥
judged_not_bad (judgements.Accepted v) e = cc
judged_not_bad (judgements.Refused line reason) e = cc

-- an answer refuses the text exactly where that is no project
pub bad_project_exactly : (words : List (List ℕ)) (texts : List (List ℕ × List ℕ)) (answer : Answer) → IsAnswerTo words (Some texts) answer → (status_of answer ≡ statuses.BadProject) ↔ NamesNoProject words texts
bad_project_exactly words texts (answers.BadWords bad) is = (λ e. absurd cc, λ names. absurd (bad_is_none words bad.place is (on_project_stands words names.0)))
bad_project_exactly words texts (answers.Made printed) is = (λ e. absurd cc, λ names. absurd (not_made words names.0 is.0))
bad_project_exactly words texts (answers.Tried trial) is = (λ e. absurd (not_bad_project trial.verdict e), λ names. absurd (not_tried words names.0 is.0))
bad_project_exactly words texts (answers.Judged j) is = (λ e. absurd (judged_not_bad j e), λ names. absurd (names.1 (is.project, is.named)))
bad_project_exactly words texts (answers.Verified j) is = (λ e. absurd (bound_not_bad j e), λ names. absurd (names.1 (is.project, is.named)))
bad_project_exactly words texts (answers.Read (outcomes.Solved report)) is = (λ e. absurd (not_bad_project report.verdict e), λ names. absurd (names.1 (is.0, is.1)))
bad_project_exactly words texts (answers.Read (outcomes.Planned plan)) is = (λ e. absurd (plan_not_bad plan e), λ names. absurd (names.1 (is.0, is.1)))
bad_project_exactly words texts (answers.Read (outcomes.Shown printed)) is = (λ e. absurd cc, λ names. absurd (names.1 (is.0, is.1)))
bad_project_exactly words texts (answers.Read (outcomes.Bounded printed)) is = (λ e. absurd cc, λ names. absurd (names.1 (is.0, is.1)))
bad_project_exactly words texts (answers.Read (outcomes.BadProject f)) is = (λ _. (is.0, λ p. never_both (text_under texts (project_name words)) p.0 f p.1 is.1), λ _. refl)

-- words that can't stand have no project
bad_has_none : (words : List (List ℕ)) (texts : List (List ℕ × List ℕ)) → (IsOnProject words → ⊥) → (IsMade words → ⊥) → HasProject words texts → ⊥
bad_has_none words texts read made (inl names) = read names.0
bad_has_none words texts read made (inr make) = made make

-- a text that is refused is no project
refused_has_none : (words : List (List ℕ)) (texts : List (List ℕ × List ℕ)) → IsOnProject words → (NamesProject words texts → ⊥) → HasProject words texts → ⊥
refused_has_none words texts on refused (inl names) = refused names
refused_has_none words texts on refused (inr made) = read_not_made words on made

-- it has a verdict, a judgement or the text of a project exactly where there is one
pub served_exactly : (words : List (List ℕ)) (texts : List (List ℕ × List ℕ)) (answer : Answer) → IsAnswerTo words (Some texts) answer → IsServed (status_of answer) ↔ HasProject words texts
served_exactly words texts (answers.BadWords bad) is =
    (λ s. absurd s, λ has. absurd (bad_has_none words texts (λ on. bad_is_none words bad.place is (on_project_stands words on)) (λ made. bad_is_none words bad.place is (made_stands words made)) has))
served_exactly words texts (answers.Made printed) is = (λ _. inr (inl is.0), λ _. tt)
served_exactly words texts (answers.Tried trial) is = (λ _. inr (inr is.0), λ _. verdict_serves trial.verdict)
served_exactly words texts (answers.Judged j) is = (λ _. inl (inr (inl is.check), (is.project, is.named)), λ _. judgement_serves j)
served_exactly words texts (answers.Verified j) is = (λ _. inl (inr (inr (inr (inr (inr is.verify)))), (is.project, is.named)), λ _. bound_serves j)
served_exactly words texts (answers.Read (outcomes.Solved report)) is = (λ _. inl (inl is.2.0, (is.0, is.1)), λ _. verdict_serves report.verdict)
served_exactly words texts (answers.Read (outcomes.Planned plan)) is = (λ _. inl (inr (inr (inr (inl is.2))), (is.0, is.1)), λ _. plan_serves plan)
served_exactly words texts (answers.Read (outcomes.Shown printed)) is = (λ _. inl (inr (inr (inl is.2)), (is.0, is.1)), λ _. tt)
served_exactly words texts (answers.Read (outcomes.Bounded printed)) is = (λ _. inl (inr (inr (inr (inr (inl is.2)))), (is.0, is.1)), λ _. tt)
served_exactly words texts (answers.Read (outcomes.BadProject f)) is =
    (λ s. absurd s, λ has. absurd (refused_has_none words texts is.0 (λ names. never_both (text_under texts (project_name words)) names.1.0 f names.1.1 is.1) has))

-- what the words ask for, whether or not the shelf tells its texts
pub asks_solve : (words : List (List ℕ)) (texts : Option (List (List ℕ × List ℕ))) (name : List ℕ) (report : Report) → IsOutcomeUnder words texts name (outcomes.Solved report) → IsSolve words
asks_solve words None name report is = is.1.2.0
asks_solve words (Some ts) name report is = is.2.0

pub asks_plan : (words : List (List ℕ)) (texts : Option (List (List ℕ × List ℕ))) (name : List ℕ) (plan : Option Plan) → IsOutcomeUnder words texts name (outcomes.Planned plan) → IsPlan words
asks_plan words None name plan is = is.1.2
asks_plan words (Some ts) name plan is = is.2

-- words that ask for the text of a bound are `bound`
abbrev pub AsksIfBounded : List (List ℕ) → Outcome → Type 0
AsksIfBounded words (outcomes.Bounded printed) = IsBound words
AsksIfBounded words (outcomes.Shown printed) = Unit {0}
AsksIfBounded words (outcomes.Solved report) = Unit {0}
AsksIfBounded words (outcomes.Planned plan) = Unit {0}
AsksIfBounded words (outcomes.BadProject f) = Unit {0}

bounded-asks : (words : List (List ℕ)) (bytes : List ℕ) (outcome : Outcome) → IsOutcomeOf words bytes outcome → AsksIfBounded words outcome
bounded-asks words bytes (outcomes.Bounded printed) is = is.2
bounded-asks words bytes (outcomes.Shown printed) is = tt
bounded-asks words bytes (outcomes.Solved report) is = tt
bounded-asks words bytes (outcomes.Planned plan) is = tt
bounded-asks words bytes (outcomes.BadProject f) is = tt

pub asks_bound : (words : List (List ℕ)) (texts : Option (List (List ℕ × List ℕ))) (name : List ℕ) (outcome : Outcome) → IsOutcomeUnder words texts name outcome → AsksIfBounded words outcome
asks_bound words None name outcome is = bounded-asks words is.0 outcome is.1
asks_bound words (Some ts) name outcome is = bounded-asks words (text_under ts name) outcome is

-- words that ask for a canonical text are `show`
abbrev pub AsksIfShown : List (List ℕ) → Outcome → Type 0
AsksIfShown words (outcomes.Shown printed) = IsShow words
AsksIfShown words (outcomes.Solved report) = Unit {0}
AsksIfShown words (outcomes.Planned plan) = Unit {0}
AsksIfShown words (outcomes.Bounded printed) = Unit {0}
AsksIfShown words (outcomes.BadProject f) = Unit {0}

shown-asks : (words : List (List ℕ)) (bytes : List ℕ) (outcome : Outcome) → IsOutcomeOf words bytes outcome → AsksIfShown words outcome
shown-asks words bytes (outcomes.Shown printed) is = is.2
shown-asks words bytes (outcomes.Solved report) is = tt
shown-asks words bytes (outcomes.Planned plan) is = tt
shown-asks words bytes (outcomes.Bounded printed) is = tt
shown-asks words bytes (outcomes.BadProject f) is = tt

pub asks_show : (words : List (List ℕ)) (texts : Option (List (List ℕ × List ℕ))) (name : List ℕ) (outcome : Outcome) → IsOutcomeUnder words texts name outcome → AsksIfShown words outcome
asks_show words None name outcome is = shown-asks words is.0 outcome is.1
asks_show words (Some ts) name outcome is = shown-asks words (text_under ts name) outcome is

outcome-on : (words : List (List ℕ)) (bytes : List ℕ) (outcome : Outcome) → IsOutcomeOf words bytes outcome → IsOnProject words
outcome-on words bytes (outcomes.Solved report) is = inl is.2.0
outcome-on words bytes (outcomes.Planned plan) is = inr (inr (inr (inl is.2)))
outcome-on words bytes (outcomes.Bounded printed) is = inr (inr (inr (inr (inl is.2))))
outcome-on words bytes (outcomes.Shown printed) is = inr (inr (inl is.2))
outcome-on words bytes (outcomes.BadProject f) is = is.0

pub asks_project : (words : List (List ℕ)) (texts : Option (List (List ℕ × List ℕ))) (name : List ℕ) (outcome : Outcome) → IsOutcomeUnder words texts name outcome → IsOnProject words
asks_project words None name outcome is = outcome-on words is.0 outcome is.1
asks_project words (Some ts) name outcome is = outcome-on words (text_under ts name) outcome is

-- a project that is printed has no verdict
not_printed : (words : List (List ℕ)) → IsSolve words → IsPrint words → ⊥
not_printed words solve (inl show) = not_shown words solve show
not_printed words solve (inr make) = not_made words (inl solve) make

judged_not_printed : (words : List (List ℕ)) → IsCheck words → IsPrint words → ⊥
judged_not_printed words check (inl show) = judged_not_shown words check show
judged_not_printed words check (inr make) = not_made words (inr (inl check)) make

planned_not_printed : (words : List (List ℕ)) → IsPlan words → IsPrint words → ⊥
planned_not_printed words plan (inl show) = planned_not_shown words plan show
planned_not_printed words plan (inr make) = not_made words (inr (inr (inr (inl plan)))) make

bound_not_printed : (words : List (List ℕ)) → IsBound words → IsPrint words → ⊥
bound_not_printed words bound (inl show) = bound_not_shown words bound show
bound_not_printed words bound (inr make) = not_made words (inr (inr (inr (inr (inl bound))))) make

verified_not_printed : (words : List (List ℕ)) → IsVerify words → IsPrint words → ⊥
verified_not_printed words verify (inl show) = verified_not_shown words verify show
verified_not_printed words verify (inr make) = not_made words (inr (inr (inr (inr (inr verify))))) make

tried_not_printed : (words : List (List ℕ)) → IsTrial words → IsPrint words → ⊥
tried_not_printed words trial (inl show) = not_tried words (inr (inr (inl show))) trial
tried_not_printed words trial (inr make) = make_not_tried words make trial

pub printed_is_done : (words : List (List ℕ)) (texts : Option (List (List ℕ × List ℕ))) (answer : Answer) → IsAnswerTo words texts answer → IsServed (status_of answer) → IsPrint words → status_of answer ≡ statuses.Done
printed_is_done words texts (answers.BadWords bad) is solved print = absurd solved
printed_is_done words texts (answers.Made printed) is solved print = refl
printed_is_done words texts (answers.Tried trial) is solved print = absurd (tried_not_printed words is.0 print)
printed_is_done words texts (answers.Judged j) is solved print = absurd (judged_not_printed words is.check print)
printed_is_done words texts (answers.Verified j) is solved print = absurd (verified_not_printed words is.verify print)
printed_is_done words texts (answers.Read (outcomes.Solved report)) is solved print = absurd (not_printed words (asks_solve words texts (project_name words) report is) print)
printed_is_done words texts (answers.Read (outcomes.Planned plan)) is solved print = absurd (planned_not_printed words (asks_plan words texts (project_name words) plan is) print)
printed_is_done words texts (answers.Read (outcomes.Shown printed)) is solved print = refl
printed_is_done words texts (answers.Read (outcomes.Bounded printed)) is solved print = refl
printed_is_done words texts (answers.Read (outcomes.BadProject f)) is solved print = absurd solved

-- what is made is printed
pub made_is_done : (words : List (List ℕ)) (texts : Option (List (List ℕ × List ℕ))) (answer : Answer) → IsAnswerTo words texts answer → IsMake words → status_of answer ≡ statuses.Done
made_is_done words texts (answers.BadWords bad) is make = absurd (bad_is_none words bad.place is make.0)
made_is_done words texts (answers.Made printed) is make = refl
made_is_done words texts (answers.Tried trial) is make = absurd (make_not_tried words make is.0)
made_is_done words texts (answers.Judged j) is make = absurd (not_made words (inr (inl is.check)) make)
made_is_done words texts (answers.Verified j) is make = absurd (not_made words (inr (inr (inr (inr (inr is.verify))))) make)
made_is_done words texts (answers.Read outcome) is make = absurd (not_made words (asks_project words texts (project_name words) outcome is) make)

-- ---- the same of a status, where the texts may be told

pub told_bad_project : (words : List (List ℕ)) (texts : Option (List (List ℕ × List ℕ))) (answer : Answer) (status : Status) → IsAnswerTo words texts answer → status ≡ status_of answer →
    IfSome texts (λ ts. (status ≡ statuses.BadProject) ↔ NamesNoProject words ts)
told_bad_project words None answer status is e = tt
told_bad_project words (Some ts) answer status is e = let exactly = bad_project_exactly words ts answer is in (λ same. exactly.0 (sym e ∙ same), λ names. e ∙ exactly.1 names)

pub told_served : (words : List (List ℕ)) (texts : Option (List (List ℕ × List ℕ))) (answer : Answer) (status : Status) → IsAnswerTo words texts answer → status ≡ status_of answer →
    IfSome texts (λ ts. IsServed status ↔ HasProject words ts)
told_served words None answer status is e = tt
told_served words (Some ts) answer status is e = let exactly = served_exactly words ts answer is in (λ served. exactly.0 (subst IsServed e served), λ has. subst IsServed (sym e) (exactly.1 has))

pub told_printed : (words : List (List ℕ)) (texts : Option (List (List ℕ × List ℕ))) (answer : Answer) (status : Status) → IsAnswerTo words texts answer → status ≡ status_of answer →
    IsServed status → IsPrint words → status ≡ statuses.Done
told_printed words texts answer status is e served print = e ∙ printed_is_done words texts answer is (subst IsServed e served) print

-- a project that there is is solved, printed, or a report on it judged, where its answer is told
pub told_complete : (words : List (List ℕ)) (texts : Option (List (List ℕ × List ℕ))) (answer : Answer) (status : Status) (A B C : Type 0) → IsAnswerTo words texts answer → status ≡ status_of answer →
    IfSome texts (λ ts. HasProject words ts → A → B → C → IsServed status)
told_complete words None answer status A B C is e = tt
told_complete words (Some ts) answer status A B C is e = λ has _ _ _. subst IsServed (sym e) ((served_exactly words ts answer is).1 has)

-- ---- a report is refused by `check` alone, and a bound by `verify`

plan_unrefused : (plan : Option Plan) → status_of_plan plan ≡ statuses.ReportRefused → ⊥
plan_unrefused None e = cc
plan_unrefused (Some plan) e = cc

verdict_unrefused : (v : Verdict) → status_of_verdict v ≡ statuses.ReportRefused → ⊥
verdict_unrefused (Optimal d) e = cc
verdict_unrefused Infeasible e = cc
verdict_unrefused (Limit d b) e = cc

refused_is_judged : (words : List (List ℕ)) (texts : Option (List (List ℕ × List ℕ))) (answer : Answer) → IsAnswerTo words texts answer → status_of answer ≡ statuses.ReportRefused → IsCheck words ⊎ IsVerify words
refused_is_judged words texts (answers.BadWords bad) is e = absurd cc
refused_is_judged words texts (answers.Made printed) is e = absurd cc
refused_is_judged words texts (answers.Tried trial) is e = absurd (verdict_unrefused trial.verdict e)
refused_is_judged words texts (answers.Judged j) is e = inl is.check
refused_is_judged words texts (answers.Verified j) is e = inr is.verify
refused_is_judged words texts (answers.Read (outcomes.Solved report)) is e = absurd (verdict_unrefused report.verdict e)
refused_is_judged words texts (answers.Read (outcomes.Planned plan)) is e = absurd (plan_unrefused plan e)
refused_is_judged words texts (answers.Read (outcomes.Shown printed)) is e = absurd cc
refused_is_judged words texts (answers.Read (outcomes.Bounded printed)) is e = absurd cc
refused_is_judged words texts (answers.Read (outcomes.BadProject f)) is e = absurd cc

pub told_refused : (words : List (List ℕ)) (texts : Option (List (List ℕ × List ℕ))) (answer : Answer) (status : Status) → IsAnswerTo words texts answer → status ≡ status_of answer → status ≡ statuses.ReportRefused → IsCheck words ⊎ IsVerify words
told_refused words texts answer status is e refused = refused_is_judged words texts answer is (sym e ∙ refused)

-- ---- a made project that is solved has a verdict

verdict_solves : (v : Verdict) → IsSolved (status_of_verdict v)
verdict_solves (Optimal d) = tt
verdict_solves Infeasible = tt
verdict_solves (Limit d b) = tt

tried_is_solved : (words : List (List ℕ)) (texts : Option (List (List ℕ × List ℕ))) (answer : Answer) → IsAnswerTo words texts answer → IsTrial words → IsSolved (status_of answer)
tried_is_solved words texts (answers.BadWords bad) is trial = absurd (bad_is_none words bad.place is trial.0)
tried_is_solved words texts (answers.Made printed) is trial = absurd (make_not_tried words is.0 trial)
tried_is_solved words texts (answers.Judged j) is trial = absurd (not_tried words (inr (inl is.check)) trial)
tried_is_solved words texts (answers.Verified j) is trial = absurd (not_tried words (inr (inr (inr (inr (inr is.verify))))) trial)
tried_is_solved words texts (answers.Tried t) is trial = verdict_solves t.verdict
tried_is_solved words texts (answers.Read outcome) is trial = absurd (not_tried words (asks_project words texts (project_name words) outcome is) trial)

pub told_tried : (words : List (List ℕ)) (texts : Option (List (List ℕ × List ℕ))) (answer : Answer) (status : Status) → IsAnswerTo words texts answer → status ≡ status_of answer → IsTrial words → IsSolved status
told_tried words texts answer status is e trial = subst IsSolved (sym e) (tried_is_solved words texts answer is trial)
