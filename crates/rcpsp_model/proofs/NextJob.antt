-- The unplaced job that comes first in a schedule, by its start and then by its rank, can be placed next.
use Rattle.std.proofs.Common.{◌≡◌, ℕ, ◌+◌, ◌<◌, ◌≤◌, inl, inr, arith, sym, ap, subst, ◌∙◌, List, ◌∷◌, Bool, false, cond}
use Rattle.std.proofs.lemmas.Bool.{cases_Bool}
use Rattle.rcpsp_model.specs.declared.parts.Entry.{Entry}
use Rattle.rcpsp_model.specs.declared.parts.Placing.{Placing}
use Rattle.rcpsp_model.specs.Project.{Project, Before, IsJob, IsAcyclic}
use Rattle.rcpsp_model.specs.Schedule.{finish, entries}
use Rattle.rcpsp_model.specs.Tree.{has_job, last_start, CanStart, IsEligible, IsFront, Completes}
use Rattle.rcpsp_model.proofs.Lists.{In, All-from_In, In-All, total, total-zero, IsFirst, NoLater}
use Rattle.rcpsp_model.proofs.Entries.{total-others, entries-distinct, entry_at, job-from, job-below}
use Rattle.rcpsp_model.proofs.Usage.{load, usage-total, load-active, load-before, finish-le-end}
use Rattle.rcpsp_model.proofs.Completed.{front-distinct, kept-In, precedes}

-- an unplaced job that comes first by its start and then by its rank
unfoldable pub IsNext : (P : Project) → IsAcyclic P → List Entry → List Placing → Entry → Type 0
IsNext P a F s e = IsFirst (λ (x : Entry). has_job F x.job) (λ (x : Entry). x.start) (λ (x : Entry). a.rank x.job) (entries s) e

-- (i) the next job is eligible
pub next-eligible : (P : Project) (a : IsAcyclic P) (F : List Entry) (s : List Placing) (e : Entry) → Completes P F s → IsNext P a F s e → IsEligible P F e.job
unfolding IsNext
next-eligible P a F s e c n = record {
  job = is_job;
  unplaced = n.fails;
  preds = λ i before. elim (cases_Bool (has_job F i)) [
    | inl h ↦ h
    | inr unplaced ↦
        let job = (a.jobs i e.job before).0 in
        let at = entry_at 1 s i job.0 (let w = c.feasible.whole in omega (arith, job.1)) in
        let x = at.0 in
        let done : finish P x ≤ e.start = precedes P s c.feasible x e at.1 n.member (subst (λ (k : ℕ). Before P k e.job) (sym at.2) before) in
        let up : a.rank x.job < a.rank e.job = a.rises x.job e.job (subst (λ (k : ℕ). Before P k e.job) (sym at.2) before) in
        elim (n.first x at.1 (subst (λ (k : ℕ). has_job F k ≡ false) (sym at.2) unplaced)) [
          | inl sooner ↦ absurd (omega arith)
          | inr tie ↦ absurd (omega (arith, tie.1))
        ]
  ];
}
  where
    is_job : IsJob P e.job
    is_job =
        let low = job-from 1 s e n.member in let high = job-below 1 s e n.member in let w = c.feasible.whole in
        (omega arith, omega arith)

-- The front and the next entry together take no more than the schedule.
pub front-le-usage : (P : Project) (a : IsAcyclic P) (F : List Entry) (s : List Placing) (e : Entry) → IsFront P F → Completes P F s → IsNext P a F s e → (k t : ℕ) →
    load P k t e + total (load P k t) F ≤ total (load P k t) (entries s)
unfolding IsNext
front-le-usage P a F s e f c n k t =
    let sub : (x : Entry) → In (e ∷ F) x → In (entries s) x =
    λ x (i : In (e ∷ F) x). elim i [ inl p ↦ subst (λ (z : Entry). In (entries s) z) p n.member | inr j ↦ kept-In P F s c x j ] in
    let all = total-others (load P k t) (entries s) (e ∷ F) (entries-distinct 1 s) (n.fails, front-distinct P F f) sub in
    omega arith

-- Before the next entry's start in the schedule, only the front is active.
pub usage-before : (P : Project) (a : IsAcyclic P) (F : List Entry) (s : List Placing) (e : Entry) → IsFront P F → Completes P F s → IsNext P a F s e → (k t : ℕ) →
    t < e.start → total (load P k t) (entries s) ≡ total (load P k t) F
unfolding IsNext
usage-before P a F s e f c n k t early =
    let all = total-others (load P k t) (entries s) F (entries-distinct 1 s) (front-distinct P F f) (kept-In P F s c) in
    let none : total (λ (x : Entry). cond (has_job F x.job) 0 (load P k t x)) (entries s) ≡ 0 = total-zero _ (entries s) (λ x i.
    elim (cases_Bool (has_job F x.job)) [
      | inl placed ↦ ap (λ (b : Bool). cond b 0 (load P k t x)) placed
      | inr unplaced ↦ ap (λ (b : Bool). cond b 0 (load P k t x)) unplaced ∙ load-before P k t x (later x (n.first x i unplaced))
    ]) in
    omega arith
  where
    later : (x : Entry) → NoLater (λ (y : Entry). y.start) (λ (y : Entry). a.rank y.job) e x → t < x.start
    later x (inl h) = omega arith
    later x (inr h) = omega (arith, h.0)

-- (ii) the next job can start, beside the front, where it starts in the schedule
pub next-can_start : (P : Project) (a : IsAcyclic P) (F : List Entry) (s : List Placing) (e : Entry) → IsFront P F → Completes P F s → IsNext P a F s e →
    CanStart P F e.job e.mode e.start
unfolding IsNext
next-can_start P a F s e f c n = record {
  after_last = In-All (λ (x : Entry). has_job F x.job ≡ false → last_start F ≤ x.start) (entries s) c.rest e n.member n.fails;
  after_preds = All-from_In (λ (x : Entry). Before P x.job e.job → finish P x ≤ e.start) F
      (λ x i b. precedes P s c.feasible x e (kept-In P F s c x i) n.member b);
  fits = λ k u r low high.
      let both = front-le-usage P a F s e f c n k u in
      let active = load-active P k u e low high in
      let alone = usage-total P F k u in
      let whole = usage-total P (entries s) k u in
      let end = finish-le-end P (entries s) e n.member in
      let within = c.feasible.capacity k u r (omega arith) in
      omega arith;
}
