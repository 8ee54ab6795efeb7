-- What holds of entries that were placed in turn.
use Rattle.std.proofs.Common.{◌≡◌, ℕ, ◌+◌, ◌*◌, ◌<◌, ◌≤◌, max, inl, inr, arith, refl, sym, ap, subst, ◌∙◌, List, [], ◌∷◌, ◌++◌, length, length-append, replicate, Bool, true, false, cond, eqb, ◌||◌}
use Rattle.std.specs.Prelude.{filter, Option, Some, IfSome}
use Rattle.std.proofs.lemmas.Bool.{cases_eq, eq-eqb, ne_eqb}
use Rattle.std.proofs.lemmas.List.{length-replicate}
use Rattle.sched_base.specs.declared.job_set.JobSet.{JobSet}
use Rattle.sched_base.specs.JobSet.{member}
use Rattle.rcpsp_model.specs.declared.parts.Entry.{Entry}
use Rattle.rcpsp_model.specs.declared.parts.Placing.{Placing}
use Rattle.rcpsp_model.specs.Project.{Project, IsJob, IsMode, job_count, is_before, Before, IsAcyclic, IsWithinLimits, IsProject}
use Rattle.rcpsp_model.specs.Schedule.{calm, finish, end_of, entries_from, AreOf, IsOf}
use Rattle.rcpsp_model.specs.Chain.{IsLeast}
use Rattle.rcpsp_model.specs.Modes.{IsExecutable}
use Rattle.rcpsp_model.specs.Tree.{has_job, IsEligible, Fits, InTurn, entry_at}
use Rattle.rcpsp_model.specs.Plan.{ModeRule, CanRun, IsPlacedInTurn, IsScheduledNext, IsUrgent, IsSerialPlan}
use Rattle.rcpsp_model.proofs.Lists.{In, In-push, In-filter, filter-In, All-from_In, In-All, total, total-le}
use Rattle.rcpsp_model.proofs.Entries.{DistinctJobs, distinct-push}
use Rattle.rcpsp_model.proofs.Usage.{finish-le-end, end-le}
use Rattle.rcpsp_model.proofs.Calendars.{calm_law}
use Rattle.rcpsp_model.proofs.Successors.{before-job}
use Rattle.rcpsp_model.proofs.Fronts.{in_turn, keeps-push, end-push, duration-limit, fits-past_end, fits-executable, part-jobs, spot, each}
use Rattle.rcpsp_model.proofs.Sound.{sound-push}
use Rattle.rcpsp_model.proofs.RootAndLeaves.{in_turn-push}
use Rattle.rcpsp_model.proofs.PlansFeasible.{IsPlan}
use Rattle.project_net.specs.Placings.{HaveJobsOnce}
use Rattle.project_net.proofs.PlaceSteps.{in_turn-weaker}
use Rattle.profiles.specs.Room.{FitsFrom}
use Rattle.project_net.specs.Order.{IsFree}
use Rattle.serial_scheme.specs.Priority.{IsMostUrgent, done_at}
use Rattle.serial_scheme.proofs.JobSteps.{all-placed}

pub as-placed : (P : Project) (Rule : ModeRule) (F : List Entry) (e : Entry) → IsScheduledNext P Rule F e → IsPlacedInTurn P F e
as-placed P Rule F e r = record { eligible = r.urgent.eligible; mode = r.mode; can_run = r.start.attained }

-- Entries placed in turn have jobs of the project, each once, and keep the capacities.

pub record IsPlacing (P : Project) (F : List Entry) : Type 0 where
  pub plan : IsPlan P F
  pub jobs : (e : Entry) → In F e → IsJob P e.job

placing-push : (P : Project) → IsAcyclic P → (F : List Entry) (e : Entry) → IsPlacing P F → IsPlacedInTurn P F e → IsPlacing P (F ++ e ∷ [])
placing-push P a F e p f = record {
  plan = record {
    jobs = λ x i. elim (In-push F e x i) [ inl j ↦ p.jobs x j | inr q ↦ subst (λ (z : Entry). IsJob P z.job) q f.eligible.job ];
    distinct = distinct-push F e p.plan.distinct f.eligible.unplaced;
    keeps = keeps-push P F e p.plan.keeps f.can_run.fits;
    sound = sound-push P a F e p.plan.sound f.eligible f.can_run.after_preds;
    modes = λ x i. elim (In-push F e x i) [ inl j ↦ p.plan.modes x j | inr q ↦ subst (λ (z : Entry). IsMode P z.job z.mode) q f.mode ];
  };
  jobs = λ x i. elim (In-push F e x i) [ inl j ↦ p.jobs x j | inr q ↦ subst (λ (z : Entry). IsJob P z.job) q f.eligible.job ];
}

placing-none : (P : Project) → IsPlacing P []
placing-none P = record {
  plan = record { jobs = λ e i. absurd i; distinct = tt; keeps = λ k u r. omega arith; sound = record { closed = λ i j b h. cc; done = λ x y i j b. absurd i }; modes = λ e i. absurd i };
  jobs = λ e i. absurd i;
}

pub placing-of : (P : Project) → IsAcyclic P → (F : List Entry) → InTurn (IsPlacedInTurn P) [] F → IsPlacing P F
placing-of P a F t = in_turn (IsPlacedInTurn P) (IsPlacing P) (λ G e p r. placing-push P a G e p r) [] F (placing-none P) t

-- They are no more than the jobs.

cond-le_one : (b : Bool) → cond b 1 0 ≤ 1
cond-le_one true = omega arith
cond-le_one false = omega arith

total-ones : (i : ℕ) (ps : List Placing) → total (λ (x : Entry). 1) (entries_from i ps) ≡ length ps
total-ones i [] = refl
total-ones i (p ∷ ps) = let ih = total-ones (i + 1) ps in omega arith

length-distinct : (n : ℕ) (F : List Entry) → DistinctJobs F → ((e : Entry) → In F e → (1 ≤ e.job) × (e.job ≤ n)) → length F ≤ n
length-distinct n F d r =
    let all = part-jobs n F d r in
    let le = total-le (λ (x : Entry). cond (has_job F x.job) 1 0) (λ (x : Entry). 1) (each n) (λ x i. cond-le_one (has_job F x.job)) in
    let size = total-ones 1 (replicate n spot) in
    let len = length-replicate n spot in
    omega arith

pub length-placing : (P : Project) (F : List Entry) → IsPlacing P F → length F ≤ job_count P
length-placing P F p = length-distinct (job_count P) F p.plan.distinct p.jobs

-- while a job is eligible, not all are placed
pub length-eligible : (P : Project) (F : List Entry) (j : ℕ) → IsPlacing P F → IsEligible P F j → length F < job_count P
length-eligible P F j p el =
    let e : Entry = record { job = j; mode = 1; start = 0 } in
    let le = length-distinct (job_count P) (F ++ e ∷ []) (distinct-push F e p.plan.distinct el.unplaced)
    (λ x i. elim (In-push F e x i) [ inl k ↦ p.jobs x k | inr q ↦ subst (λ (z : Entry). IsJob P z.job) q el.job ]) in
    let n = length-append F (e ∷ []) in
    omega arith

-- What the serial scheme placed ends within its jobs' durations after the calm.

EndsSoon : Project → List Entry → Type 0
EndsSoon P F = end_of P F ≤ calm P + 10000 * length F

soon-push : (P : Project) → IsWithinLimits P → (Rule : ModeRule) (F : List Entry) (e : Entry) → EndsSoon P F → IsScheduledNext P Rule F e → EndsSoon P (F ++ e ∷ [])
unfolding EndsSoon
soon-push P w Rule F e h r =
    let end = max (end_of P F) (calm P) in
    let soon : e.start ≤ end = r.start.least end (record {
      after_preds = All-from_In (λ (x : Entry). Before P x.job e.job → finish P x ≤ end) F (λ x i b. let le = finish-le-end P F x i in omega arith);
      fits = fits-past_end P F e.job e.mode end (fits-executable P F e.job e.mode e.start r.start.attained.fits) (omega arith) (omega arith);
    }) in
    let push = end-push P F e in
    let dur = duration-limit P w e.job e.mode r.urgent.eligible.job r.mode in
    let len = length-append F (e ∷ []) in
    omega arith

pub ends-soon : (P : Project) → IsWithinLimits P → (Rule : ModeRule) (F : List Entry) → InTurn (IsScheduledNext P Rule) [] F → end_of P F ≤ calm P + 10000 * length F
unfolding EndsSoon
ends-soon P w Rule F t = in_turn (IsScheduledNext P Rule) (EndsSoon P) (λ G e h r. soon-push P w Rule G e h r) [] F (omega arith) t

pub scheduled-placing : (P : Project) → IsAcyclic P → (Rule : ModeRule) (F : List Entry) → InTurn (IsScheduledNext P Rule) [] F → IsPlacing P F
scheduled-placing P a Rule F t = placing-of P a F (in_turn-weaker (IsScheduledNext P Rule) (IsPlacedInTurn P) (as-placed P Rule) [] F t)

-- entries that were scheduled in turn say where each job stands
pub scheduled-once : (P : Project) → IsAcyclic P → (Rule : ModeRule) (F : List Entry) → InTurn (IsScheduledNext P Rule) [] F → HaveJobsOnce (job_count P) F
scheduled-once P a Rule F t = record {
  jobs = All-from_In (λ (e : Entry). IsJob P e.job) F (scheduled-placing P a Rule F t).jobs;
  once = in_turn-weaker (IsScheduledNext P Rule) (λ before e. has_job before e.job ≡ false) (λ before e next. next.urgent.eligible.unplaced) [] F t;
}

pub scheduled-end : (P : Project) → IsProject P → (Rule : ModeRule) (F : List Entry) → InTurn (IsScheduledNext P Rule) [] F → end_of P F ≤ 1290000
unfolding job_count
scheduled-end P p Rule F t =
    let soon = ends-soon P p.limits Rule F t in let n = length-placing P F (scheduled-placing P p.acyclic Rule F t) in
    let few = p.limits.few_jobs in let calm_soon = calm_law P p.limits in omega arith

pub scheduled-of : (P : Project) → IsProject P → (Rule : ModeRule) (F : List Entry) → InTurn (IsScheduledNext P Rule) [] F → AreOf P F
scheduled-of P p Rule F t =
    let placing = scheduled-placing P p.acyclic Rule F t in
    All-from_In (IsOf P) F (λ e i. record {
      job = placing.jobs e i;
      mode = placing.plan.modes e i;
      start = let h = finish-le-end P F e i in let k = scheduled-end P p Rule F t in omega arith;
    })

-- The next job by the set of those that are placed.

pub record HasPlaced (P : Project) (placed : JobSet) (F : List Entry) : Type 0 where
  pub same : (i : ℕ) → 1 ≤ i → member placed i ≡ has_job F i

open-from_eligible : (P : Project) (placed : JobSet) (F : List Entry) (j : ℕ) → HasPlaced P placed F → IsEligible P F j → IsFree P (member placed) j
open-from_eligible P placed F j h e = record {
  job = e.job;
  untaken = h.same j e.job.0 ∙ e.unplaced;
  predecessors = λ i b. h.same i (before-job P i j b).0 ∙ e.preds i b;
}

pub urgent-from_most : (P : Project) (placed : JobSet) (F : List Entry) (j : ℕ) → HasPlaced P placed F → IsMostUrgent P (member placed) j → IsUrgent P F j
urgent-from_most P placed F j h u = record {
  eligible = record {
    job = u.free.job;
    unplaced = sym (h.same j u.free.job.0) ∙ u.free.untaken;
    preds = λ i b. sym (h.same i (before-job P i j b).0) ∙ u.free.predecessors i b;
  };
  first = λ i a b el ta tb. u.first i a b (open-from_eligible P placed F i h el) ta tb;
}

eqb-swap : (i j : ℕ) → eqb i j ≡ eqb j i
eqb-swap i j = elim (cases_eq i j) [ inl e ↦ eq-eqb i j e ∙ sym (eq-eqb j i (sym e)) | inr ne ↦ ne_eqb i j ne ∙ sym (ne_eqb j i (λ e. ne (sym e))) ]

or-last : (b : Bool) → (b || false) ≡ b
or-last true = refl
or-last false = refl

or-assoc : (a b c : Bool) → (a || (b || c)) ≡ ((a || b) || c)
or-assoc true b c = refl
or-assoc false b c = refl

has_job-push : (F : List Entry) (e : Entry) (j : ℕ) → has_job (F ++ e ∷ []) j ≡ (has_job F j || eqb e.job j)
has_job-push [] e j = or-last (eqb e.job j)
has_job-push (x ∷ F) e j = ap (λ b. eqb x.job j || b) (has_job-push F e j) ∙ or-assoc (eqb x.job j) (has_job F j) (eqb e.job j)

pub has_placed-push : (P : Project) (placed next : JobSet) (F : List Entry) (e : Entry) → HasPlaced P placed F → ((i : ℕ) → 1 ≤ i → member next i ≡ (member placed i || eqb i e.job)) →
    HasPlaced P next (F ++ e ∷ [])
has_placed-push P placed next F e h w = record { same = λ i low. w i low ∙ ap (λ b. b || eqb i e.job) (h.same i low) ∙ ap (λ b. has_job F i || b) (eqb-swap i e.job) ∙ sym (has_job-push F e i) }

-- When the predecessors are done a job can run where it fits.

pub floor-limit : (P : Project) (F : List Entry) (j : ℕ) → done_at P F j ≤ end_of P F
floor-limit P F j = end-le P (filter (λ (e : Entry). is_before P e.job j) F) (end_of P F) (λ x i. finish-le-end P F x (In-filter (λ (e : Entry). is_before P e.job j) F x i).0)

pub can_run-from : (P : Project) (F : List Entry) (j m t : ℕ) → IsLeast (λ u. (done_at P F j ≤ u) × Fits P F j m u) t → IsLeast (CanRun P F j m) t
can_run-from P F j m t h =
    let test : Entry → Bool = λ e. is_before P e.job j in record {
      attained = record {
        after_preds = All-from_In (λ (x : Entry). Before P x.job j → finish P x ≤ t) F (λ x i b.
            let r = h.attained.0 in let e = finish-le-end P (filter test F) x (filter-In test F x i b) in omega arith);
        fits = h.attained.1;
      };
      least = λ u c. h.least u (end-le P (filter test F) u (λ y i. let r = In-filter test F y i in In-All (λ (x : Entry). Before P x.job j → finish P x ≤ u) F c.after_preds y r.0 r.1), c.fits);
    }

-- The serial scheme has placed these entries so far, and the set has their jobs.

pub record SoFar (P : Project) (Rule : ModeRule) (placed : JobSet) (F : List Entry) : Type 0 where
  pub turn : InTurn (IsScheduledNext P Rule) [] F
  pub set : HasPlaced P placed F

pub so_far-none : (P : Project) (Rule : ModeRule) (placed : JobSet) → ((i : ℕ) → member placed i ≡ false) → SoFar P Rule placed []
so_far-none P Rule placed none = record { turn = tt; set = record { same = λ i low. none i } }

pub so_far-push : (P : Project) (Rule : ModeRule) (placed next : JobSet) (F : List Entry) (j m t : ℕ) → SoFar P Rule placed F → IsMostUrgent P (member placed) j → IsMode P j m → Rule P j m →
    IsLeast (λ u. (done_at P F j ≤ u) × Fits P F j m u) t → ((i : ℕ) → 1 ≤ i → member next i ≡ (member placed i || eqb i j)) → SoFar P Rule next (F ++ entry_at j m t ∷ [])
so_far-push P Rule placed next F j m t s u mode rule least w =
    let scheduled : IsScheduledNext P Rule F (entry_at j m t) = record { urgent = urgent-from_most P placed F j s.set u; mode = mode; rule = rule; start = can_run-from P F j m t least } in
    record {
      turn = in_turn-push (IsScheduledNext P Rule) [] F (entry_at j m t) s.turn scheduled;
      set = has_placed-push P placed next F (entry_at j m t) s.set w;
    }

pub start-limit : (P : Project) → IsProject P → (Rule : ModeRule) (F : List Entry) (j m t : ℕ) → InTurn (IsScheduledNext P Rule) [] F → IsExecutable P j m →
    IsLeast (λ u. (done_at P F j ≤ u) × Fits P F j m u) t → t ≤ 999999999
start-limit P p Rule F j m t turn can least =
    let end = max (end_of P F) (calm P) in
    let soon : t ≤ end = least.least end ((let floor = floor-limit P F j in omega arith), fits-past_end P F j m end can (omega arith) (omega arith)) in
    let far = scheduled-end P p Rule F turn in let calm_soon = calm_law P p.limits in omega arith

-- while a job is open, not all are placed
pub length-open : (P : Project) → IsAcyclic P → (Rule : ModeRule) (placed : JobSet) (F : List Entry) (j : ℕ) → SoFar P Rule placed F → IsMostUrgent P (member placed) j → length F < job_count P
length-open P a Rule placed F j s u = length-eligible P F j (scheduled-placing P a Rule F s.turn) (urgent-from_most P placed F j s.set u).eligible

pub serial-from : (P : Project) → IsAcyclic P → (Rule : ModeRule) (placed : JobSet) (F : List Entry) → SoFar P Rule placed F → ((j : ℕ) → IsFree P (member placed) j → ⊥) → IsSerialPlan P Rule F
serial-from P a Rule placed F s none = record {
  in_turn = s.turn;
  whole = λ j job. sym (s.set.same j job.0) ∙ all-placed P a (member placed) none j job;
}

pub least-from : (P : Project) (F es : List Entry) (j m n t : ℕ) (o : Option ℕ) → IfSome o (IsLeast (FitsFrom P F j m n)) → o ≡ Some t → n ≡ done_at P es j → es ≡ F →
    IsLeast (λ u. (done_at P F j ≤ u) × Fits P F j m u) t
least-from P F es j m n t o least is done same =
    let h : IfSome (Some t) (IsLeast (FitsFrom P F j m n)) = subst (λ (x : Option ℕ). IfSome x (IsLeast (FitsFrom P F j m n))) is least in
    subst (λ x. IsLeast (λ u. (x ≤ u) × Fits P F j m u) t) (done ∙ ap (λ (xs : List Entry). done_at P xs j) same) h
