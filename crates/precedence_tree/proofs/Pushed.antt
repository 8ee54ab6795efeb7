-- What is known of a front with one entry more.
use Rattle.std.proofs.Common.{◌≡◌, ℕ, ◌+◌, ◌-◌, ◌≤◌, inl, inr, arith, refl, sym, ap, subst, ◌∙◌, List, [], ◌∷◌, ◌++◌, Bool, true, false, eqb, ◌||◌}
use Rattle.std.specs.Prelude.{◌↔◌, ◌⊎◌, slice_index, sum_by}
use Rattle.std.proofs.lemmas.Bool.{cases_Bool, cases_lt, both_ways}
use Rattle.std.proofs.lemmas.List.Sums.{sum_by_push}
use Rattle.std.proofs.lemmas.List.Elements.{All-get_or}
use Rattle.sched_base.specs.declared.job_set.JobSet.{JobSet}
use Rattle.sched_base.specs.JobSet.{member}
use Rattle.rcpsp_model.specs.declared.parts.Entry.{Entry}
use Rattle.rcpsp_model.specs.Project.{Project, need, budget, jobs, is_before, Before, IsNonrenewable, IsRenewable, IsWithinLimits, IsAcyclic}
use Rattle.rcpsp_model.specs.Schedule.{used, IsOf, KeepsBudgets}
use Rattle.rcpsp_model.specs.Chain.{IsLeast}
use Rattle.rcpsp_model.specs.Modes.{least_need, least_work}
use Rattle.rcpsp_model.specs.Tree.{has_job, rest_need, entry_at, extended, IsEligible, IsFront, Follows, HasGap, LeavesBudgets}
use Rattle.rcpsp_model.proofs.Lists.{In-All, In-push_new}
use Rattle.rcpsp_model.proofs.Entries.{has_job-push_false, has_job-push_none}
use Rattle.rcpsp_model.proofs.Sound.{has_job-push_cases, has_job-push_true}
use Rattle.rcpsp_model.proofs.Fronts.{in_turn, front-of}
use Rattle.rcpsp_model.proofs.RootAndLeaves.{front-push}
use Rattle.rcpsp_model.proofs.ChildLists.{used-start, rest_need-start}
use Rattle.project_net.proofs.Ranges.{eqb-swap}
use Rattle.precedence_tree.specs.declared.needs.Needs.{Needs}
use Rattle.precedence_tree.specs.Needs.{AreSmall, HaveLeast, HaveLeastWork, AreNeeds, AreWorks, AreBefore, Exceeds}
use Rattle.precedence_tree.specs.Frontier.{HasJobs, IsOpenBeside, AreEligible}
use Rattle.precedence_tree.proofs.Rests.{rest-by, rest-none}

-- what may follow a front is an entry of the project
pub follows-of : (P : Project) (F : List Entry) (e : Entry) → IsWithinLimits P → IsFront P F → Follows P F e → IsOf P e
follows-of P F e w f follows = In-All (IsOf P) (F ++ e ∷ []) (front-of P (F ++ e ∷ []) w (front-push P F e f follows)) e (In-push_new F e)

-- Sets of jobs.

or-false : (b : Bool) → (b || false) ≡ b
or-false true = refl
or-false false = refl

or-assoc : (a b c : Bool) → (a || (b || c)) ≡ ((a || b) || c)
or-assoc true b c = refl
or-assoc false b c = refl

pub has_job-push : (F : List Entry) (e : Entry) (j : ℕ) → has_job (F ++ e ∷ []) j ≡ (has_job F j || eqb e.job j)
has_job-push [] e j = or-false (eqb e.job j)
has_job-push (x ∷ F) e j = ap (λ b. eqb x.job j || b) (has_job-push F e j) ∙ or-assoc (eqb x.job j) (has_job F j) (eqb e.job j)

pub has_jobs-push : (F : List Entry) (e : Entry) (placed next : JobSet) → HasJobs F placed → ((i : ℕ) → 1 ≤ i → member next i ≡ (member placed i || eqb i e.job)) → HasJobs (F ++ e ∷ []) next
has_jobs-push F e placed next h more i low = more i low ∙ ap (λ b. b || eqb i e.job) (h i low) ∙ ap (λ b. has_job F i || b) (eqb-swap i e.job) ∙ sym (has_job-push F e i)

-- by the set of the placed jobs, what is open is what is eligible
pub open-eligible : (P : Project) (F : List Entry) (placed : JobSet) (j : ℕ) → IsAcyclic P → HasJobs F placed → IsOpenBeside P placed j → IsEligible P F j
open-eligible P F placed j a has o = record {
  job = o.job;
  unplaced = sym (has j o.job.0) ∙ o.untaken;
  preds = λ i b. sym (has i (a.jobs i j b).0.0) ∙ o.predecessors i b;
}

pub eligible-open : (P : Project) (F : List Entry) (placed : JobSet) (j : ℕ) → IsAcyclic P → HasJobs F placed → IsEligible P F j → IsOpenBeside P placed j
eligible-open P F placed j a has el = record {
  job = el.job;
  untaken = has j el.job.0 ∙ el.unplaced;
  predecessors = λ i b. has i (a.jobs i j b).0.0 ∙ el.preds i b;
}

pub eligible-none : (P : Project) (F : List Entry) (placed set : JobSet) → IsAcyclic P → HasJobs F placed → ((j : ℕ) → 1 ≤ j → (member set j ≡ true) ↔ IsOpenBeside P placed j) → AreEligible P F set
eligible-none P F placed set a has are j low = let both = are j low in (λ e. open-eligible P F placed j a has (both.0 e), λ el. both.1 (eligible-open P F placed j a has el))

-- what is eligible was so before, or follows the job that was placed
pub eligible-before : (P : Project) (F : List Entry) (e : Entry) (j : ℕ) → IsEligible P (F ++ e ∷ []) j → IsEligible P F j ⊎ Before P e.job j
eligible-before P F e j el = elim (cases_Bool (is_before P e.job j)) [
  | inl follows ↦ inr follows
  | inr other ↦ inl (record {
    job = el.job;
    unplaced = (has_job-push_false F e j el.unplaced).0;
    preds = λ i b. elim (has_job-push_cases F e i (el.preds i b)) [
      | inl there ↦ there
      | inr mine ↦ absurd (both_ways (is_before P e.job j) other (subst (λ (k : ℕ). is_before P k j ≡ true) (sym mine) b))
    ];
  })
]

-- and what was so is so still, but for that job
pub still-eligible : (P : Project) (F : List Entry) (e : Entry) (j : ℕ) → IsEligible P F j → eqb e.job j ≡ false → IsEligible P (F ++ e ∷ []) j
still-eligible P F e j el other = record {
  job = el.job;
  unplaced = has_job-push_none F e j el.unplaced other;
  preds = λ i b. has_job-push_true F e i (el.preds i b);
}

-- Needs and works.

pub budget-limit : (P : Project) (l : ℕ) → IsWithinLimits P → IsNonrenewable P l → budget P l ≤ 1000000
unfolding budget
budget-limit P l w r = All-get_or (λ b. b ≤ 1000000) P.budgets (l - 1) 0 (let low = r.0 in let high = r.1 in omega arith) w.budgets

pub used-limit : (P : Project) (F : List Entry) (l : ℕ) → IsWithinLimits P → IsFront P F → IsNonrenewable P l → used P F l ≤ 1000000
used-limit P F l w f r =
    let keeps : used P F l ≤ budget P l = in_turn (Follows P) (KeepsBudgets P) (λ G e before follows. follows.budgets) [] F (λ k s. omega arith) f l r in
    let few = budget-limit P l w r in
    omega arith

pub needs-small : (P : Project) (F : List Entry) (needs : Needs) → IsWithinLimits P → IsFront P F → AreNeeds P F needs → AreSmall P needs.used
needs-small P F needs w f are l r = let limit = used-limit P F l w f r in let same = are.used l r in omega arith

pub needs-least : (P : Project) (F : List Entry) (needs : Needs) (j : ℕ) → IsFront P F → IsEligible P F j → AreNeeds P F needs → HaveLeast P j needs.rest
needs-least P F needs j f el are l r = let parts = rest-by P F (entry_at j 0 0) (λ i. least_need P i l) f el in let same = are.rest l r in omega arith

pub needs-push : (P : Project) (F : List Entry) (e : Entry) (old next : Needs) → IsFront P F → IsEligible P F e.job → AreNeeds P F old →
    ((l : ℕ) → IsNonrenewable P l → slice_index next.used (l - 1) ≡ slice_index old.used (l - 1) + need P e.job e.mode l) →
    ((l : ℕ) → IsNonrenewable P l → slice_index next.rest (l - 1) + least_need P e.job l ≡ slice_index old.rest (l - 1)) → AreNeeds P (F ++ e ∷ []) next
needs-push P F e old next f el are more less = record {
  used = λ l r. let push = sum_by_push (λ (x : Entry). need P x.job x.mode l) F e in let was = are.used l r in let now = more l r in omega arith;
  rest = λ l r. let parts = rest-by P F e (λ i. least_need P i l) f el in let was = are.rest l r in let now = less l r in omega arith;
}

pub needs-none : (P : Project) (needs : Needs) → ((i : ℕ) → slice_index needs.used i ≡ 0) →
    ((l : ℕ) → IsNonrenewable P l → slice_index needs.rest (l - 1) ≡ sum_by (λ j. least_need P j l) (jobs P)) → AreNeeds P [] needs
needs-none P needs zero_ all = record { used = λ l r. zero_ (l - 1); rest = λ l r. all l r ∙ sym (rest-none P (λ j. least_need P j l)) }

pub works-least : (P : Project) (F : List Entry) (works : List ℕ) (j : ℕ) → IsFront P F → IsEligible P F j → AreWorks P F works → HaveLeastWork P j works
works-least P F works j f el are k r = let parts = rest-by P F (entry_at j 0 0) (λ i. least_work P i k) f el in let same = are.rest k r in omega arith

pub works-push : (P : Project) (F : List Entry) (e : Entry) (old next : List ℕ) → IsFront P F → IsEligible P F e.job → AreWorks P F old →
    ((k : ℕ) → IsRenewable P k → slice_index next (k - 1) + least_work P e.job k ≡ slice_index old (k - 1)) → AreWorks P (F ++ e ∷ []) next
works-push P F e old next f el are less = record {
  rest = λ k r. let parts = rest-by P F e (λ i. least_work P i k) f el in let was = are.rest k r in let now = less k r in omega arith;
  limit = λ k r. let was = are.limit k r in let now = less k r in omega arith;
}

pub works-none : (P : Project) (works : List ℕ) → ((k : ℕ) → IsRenewable P k → slice_index works (k - 1) ≡ sum_by (λ j. least_work P j k) (jobs P)) →
    ((k : ℕ) → IsRenewable P k → slice_index works (k - 1) ≤ 1280000000000) → AreWorks P [] works
works-none P works all few = record { rest = λ k r. all k r ∙ sym (rest-none P (λ j. least_work P j k)); limit = few }

-- Gaps.

pub exceeds-gap : (P : Project) (F : List Entry) (needs : Needs) (j m l : ℕ) → AreBefore P F needs j → Exceeds P needs j m l → HasGap P (extended F j m) l
exceeds-gap P F needs j m l b x = record {
  nonrenewable = x.nonrenewable;
  exceeds =
      let parts = rest-by P F (entry_at j m 0) (λ i. least_need P i l) b.front b.eligible in
      let longer = sum_by_push (λ (e : Entry). need P e.job e.mode l) F (entry_at j m 0) in
      let mine = b.are.used l x.nonrenewable in
      let rest = b.are.rest l x.nonrenewable in
      let over = x.over in
      omega arith;
}

pub gap-exceeds : (P : Project) (F : List Entry) (needs : Needs) (j m l : ℕ) → AreBefore P F needs j → HasGap P (extended F j m) l → Exceeds P needs j m l
gap-exceeds P F needs j m l b g = record {
  nonrenewable = g.nonrenewable;
  over =
      let parts = rest-by P F (entry_at j m 0) (λ i. least_need P i l) b.front b.eligible in
      let longer = sum_by_push (λ (e : Entry). need P e.job e.mode l) F (entry_at j m 0) in
      let mine = b.are.used l g.nonrenewable in
      let rest = b.are.rest l g.nonrenewable in
      let over = g.exceeds in
      omega arith;
}

-- what leaves the budgets to the other jobs keeps them, wherever it starts
pub leaves-keeps : (P : Project) (F : List Entry) (j m t : ℕ) → LeavesBudgets P (extended F j m) → KeepsBudgets P (F ++ entry_at j m t ∷ [])
leaves-keeps P F j m t leaves l r = let ok = leaves l r in let same = used-start P F j m t 0 l in omega arith

pub leaves-start : (P : Project) (F : List Entry) (j m t : ℕ) → LeavesBudgets P (extended F j m) → LeavesBudgets P (F ++ entry_at j m t ∷ [])
leaves-start P F j m t leaves l r =
    let ok = leaves l r in let same = used-start P F j m t 0 l in let rest = rest_need-start P F j m t 0 l in omega arith

pub gap-least : (P : Project) (F : List Entry) (needs : Needs) (j m l : ℕ) → AreBefore P F needs j → IsLeast (Exceeds P needs j m) l → IsLeast (HasGap P (extended F j m)) l
gap-least P F needs j m l b x = record { attained = exceeds-gap P F needs j m l b x.attained; least = λ u g. x.least u (gap-exceeds P F needs j m u b g) }

pub gap-none : (P : Project) (F : List Entry) (needs : Needs) (j m : ℕ) → AreBefore P F needs j → ((l : ℕ) → Exceeds P needs j m l → ⊥) → LeavesBudgets P (extended F j m)
gap-none P F needs j m b none l r = elim (cases_lt (budget P l) (used P (extended F j m) l + rest_need P (extended F j m) l)) [
  | inl over ↦ absurd (none l (gap-exceeds P F needs j m l b (record { nonrenewable = r; exceeds = over })))
  | inr enough ↦ enough
]

-- the budgets are kept where the sums with the new needs keep them
pub keeps-push : (P : Project) (F : List Entry) (needs : Needs) (e : Entry) → AreNeeds P F needs → ((l : ℕ) → IsNonrenewable P l → slice_index needs.used (l - 1) + need P e.job e.mode l ≤ budget P l) → KeepsBudgets P (F ++ e ∷ [])
keeps-push P F needs e are fits l r = let push = sum_by_push (λ (x : Entry). need P x.job x.mode l) F e in let is = are.used l r in let fit = fits l r in omega arith

pub push-keeps : (P : Project) (F : List Entry) (needs : Needs) (e : Entry) → AreNeeds P F needs → KeepsBudgets P (F ++ e ∷ []) → (l : ℕ) → IsNonrenewable P l → slice_index needs.used (l - 1) + need P e.job e.mode l ≤ budget P l
push-keeps P F needs e are keeps l r = let push = sum_by_push (λ (x : Entry). need P x.job x.mode l) F e in let is = are.used l r in let keep = keeps l r in omega arith
