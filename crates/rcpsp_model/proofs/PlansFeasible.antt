-- What is placed in turn, within the capacities and the budgets, is a feasible schedule.
use Rattle.std.proofs.Common.{◌≡◌, ℕ, ◌∙◌, sym, replicate, inl, inr, arith, ap, subst, List, [], ◌∷◌, ◌++◌, length, Bool, cond}
use Rattle.std.specs.Prelude.{Contains}
use Rattle.std.proofs.lemmas.List.{length-replicate}
use Rattle.rcpsp_model.specs.declared.parts.Entry.{Entry}
use Rattle.rcpsp_model.specs.declared.parts.Placing.{Placing}
use Rattle.rcpsp_model.specs.Project.{Project, need, job_count, IsJob, IsMode, IsAcyclic}
use Rattle.rcpsp_model.specs.Schedule.{end_of, entries, Agrees, IsFeasible, KeepsCapacities, KeepsBudgets}
use Rattle.rcpsp_model.specs.Modes.{IsExecutable}
use Rattle.rcpsp_model.specs.Tree.{has_job, IsLeaf, InTurn}
use Rattle.rcpsp_model.specs.Plan.{ModeRule, IsShortestMode, IsCheapestMode, IsPlacedInTurn, IsScheduledNext, IsPlanBy}
use Rattle.rcpsp_model.specs.Laws.{OwnSchedule, PlanLaw, FirstPlanLaw, NoModeLaw}
use Rattle.rcpsp_model.proofs.Lists.{In, In-push, In-from_Contains, Contains-from_In, All-from_In, In-All, total, total-zero, sum_by-total}
use Rattle.rcpsp_model.proofs.Entries.{DistinctJobs, distinct-push, has_job-In, entry_of, same_entry, total-others, entries-distinct, entry_at, job-from, job-below}
use Rattle.rcpsp_model.proofs.Usage.{load, usage-total, finish-le-end, end-le}
use Rattle.rcpsp_model.proofs.Completed.{feasible-executable}
use Rattle.rcpsp_model.proofs.Fronts.{keeps-push, in_turn, spot}
use Rattle.rcpsp_model.proofs.Merged.{merged, length-merged, merged-In, same-placings}
use Rattle.rcpsp_model.proofs.Sound.{IsSound, sound-push}

-- What holds of all entries placed so far.
pub record IsPlan (P : Project) (F : List Entry) : Type 0 where
  pub jobs : (e : Entry) → In F e → IsJob P e.job
  pub distinct : DistinctJobs F
  pub keeps : KeepsCapacities P F
  pub sound : IsSound P F
  pub modes : (e : Entry) → In F e → IsMode P e.job e.mode

plan-push : (P : Project) → IsAcyclic P → (F : List Entry) (e : Entry) → IsPlan P F → IsPlacedInTurn P F e → IsPlan P (F ++ e ∷ [])
plan-push P a F e p f = record {
  jobs = λ x i. elim (In-push F e x i) [ inl j ↦ p.jobs x j | inr q ↦ subst (λ (z : Entry). IsJob P z.job) q f.eligible.job ];
  distinct = distinct-push F e p.distinct f.eligible.unplaced;
  keeps = keeps-push P F e p.keeps f.can_run.fits;
  sound = sound-push P a F e p.sound f.eligible f.can_run.after_preds;
  modes = λ x i. elim (In-push F e x i) [ inl j ↦ p.modes x j | inr q ↦ subst (λ (z : Entry). IsMode P z.job z.mode) q f.mode ];
}

-- A schedule that agrees with entries has them.
pub agrees-In : (L : List Entry) (s : List Placing) → Agrees s L → (e : Entry) → In L e → In (entries s) e
agrees-In L s agrees e i = In-from_Contains (entries s) e (In-All (Contains (entries s)) L agrees e i)

-- Where all jobs are placed, the schedule with these entries has no others.
pub plan-entries : (P : Project) (L : List Entry) (s : List Placing) → IsLeaf P L → length s ≡ job_count P → ((e : Entry) → In L e → In (entries s) e) → (e : Entry) → In (entries s) e → In L e
plan-entries P L s leaf w sub e i =
    let placed = leaf e.job (let low = job-from 1 s e i in let high = job-below 1 s e i in (omega arith, omega arith)) in
    let at = entry_of L e.job placed in
    subst (λ (z : Entry). In L z) (same_entry (entries s) (entries-distinct 1 s) at.0 e (sub at.0 at.1) i at.2) at.1

-- the entries of a plan of all jobs are those of a schedule that is feasible
pub plan-feasible : (P : Project) (L : List Entry) (s : List Placing) → IsPlan P L → IsLeaf P L → length s ≡ job_count P → ((e : Entry) → In L e → In (entries s) e) →
    KeepsBudgets P L → IsFeasible P s
plan-feasible P L s p leaf w sub budgets = record {
  whole = w;
  modes = All-from_In (λ (x : Entry). IsMode P x.job x.mode) (entries s) (λ x i. p.modes x (back x i));
  precedence = λ x y i j b. p.sound.done x y (back x (In-from_Contains _ x i)) (back y (In-from_Contains _ y j)) b;
  capacity = λ k t r within.
      let a1 = usage-total P (entries s) k t in let a2 = usage-total P L k t in let a3 = same (load P k t) in let a4 = p.keeps k t r in omega arith;
  budgets = λ l r.
      let taken : Entry → ℕ = λ x. need P x.job x.mode l in
      let a1 = sum_by-total taken (entries s) in let a2 = sum_by-total taken L in let a3 = same taken in let a4 = budgets l r in omega arith;
}
  where
    back : (x : Entry) → In (entries s) x → In L x
    back = plan-entries P L s leaf w sub

    same : (h : Entry → ℕ) → total h (entries s) ≡ total h L
    same h =
        let all = total-others h (entries s) L (entries-distinct 1 s) p.distinct sub in
        let none = total-zero (λ (x : Entry). cond (has_job L x.job) 0 (h x)) (entries s) (λ x i. ap (λ (b : Bool). cond b 0 (h x)) (has_job-In L x (back x i))) in
        omega arith

plan-in_turn : (P : Project) → IsAcyclic P → (R : List Entry → Entry → Type 0) → ((F : List Entry) (e : Entry) → R F e → IsPlacedInTurn P F e) → (L : List Entry) → InTurn R [] L → IsPlan P L
plan-in_turn P a R rule L t =
    in_turn R (IsPlan P) (λ F e p r. plan-push P a F e p (rule F e r)) [] L
    (record { jobs = λ e i. absurd i; distinct = tt; keeps = λ k u r. omega arith; sound = record { closed = λ i j b h. cc; done = λ x y i j b. absurd i }; modes = λ e i. absurd i }) t

-- The schedule with the entries of a plan of all jobs.
pub own-schedule : (P : Project) (L : List Entry) → IsPlan P L → IsLeaf P L → OwnSchedule P L
own-schedule P L p leaf = record {
  schedule = own;
  jobs = size;
  agrees = All-from_In (Contains (entries own)) L (λ e i. Contains-from_In (entries own) e (sub e i));
  end =
      let up = end-le P (entries own) (end_of P L) (λ e i. finish-le-end P L e (plan-entries P L own leaf size sub e i)) in
      let down = end-le P L (end_of P (entries own)) (λ e i. finish-le-end P (entries own) e (sub e i)) in
      omega arith;
  only = λ s w agrees. same-placings 1 s own (w ∙ sym size) (λ e i. sub e (plan-entries P L s leaf w (agrees-In L s agrees) e i));
}
  where
    own : List Placing
    own = merged L 1 (replicate (job_count P) spot)

    size : length own ≡ job_count P
    size = length-merged L 1 (replicate (job_count P) spot) ∙ length-replicate (job_count P) spot

    sub : (e : Entry) → In L e → In (entries own) e
    sub e i =
        let job = p.jobs e i in
        let len = length-replicate (job_count P) spot in
        merged-In L p.distinct 1 (replicate (job_count P) spot) e i job.0 (let high = job.1 in omega arith)

pub plan_law : PlanLaw
plan_law P placed a t leaf budgets =
    let plan = plan-in_turn P a (IsPlacedInTurn P) (λ F e r. r) placed t in
    let own = own-schedule P placed plan leaf in
    (own, plan-feasible P placed own.schedule plan leaf own.jobs (agrees-In placed own.schedule own.agrees) budgets)

-- what the serial scheme places is placed in turn
plan_by-feasible : (P : Project) (Rule : ModeRule) (s : List Placing) → IsAcyclic P → IsPlanBy P Rule s → IsFeasible P s
plan_by-feasible P Rule s a p =
    plan-feasible P p.placed s (plan-in_turn P a (IsScheduledNext P Rule) (λ F e r. record { eligible = r.urgent.eligible; mode = r.mode; can_run = r.start.attained }) p.placed p.serial.in_turn) p.serial.whole p.jobs
    (agrees-In p.placed s p.agrees) p.budgets

pub first_plan_law : FirstPlanLaw
first_plan_law P s a (inl f) = plan_by-feasible P IsShortestMode s a f.0
first_plan_law P s a (inr f) = plan_by-feasible P IsCheapestMode s a f.0

pub no_mode_law : NoModeLaw
no_mode_law P j job none s f =
    let at = entry_at 1 s j job.0 (let w = f.whole in omega (arith, job.1)) in
    let mode = In-All (λ (z : Entry). IsMode P z.job z.mode) (entries s) f.modes at.0 at.1 in
    none at.0.mode (subst (λ (i : ℕ). IsMode P i at.0.mode) at.2 mode) (subst (λ (i : ℕ). IsExecutable P i at.0.mode) at.2 (feasible-executable P s at.0 f at.1))
