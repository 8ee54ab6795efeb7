-- A feasible schedule that keeps the windows keeps those after a step.
use Rattle.std.proofs.Common.{◌≡◌, ℕ, ◌+◌, ◌-◌, ◌<◌, ◌≤◌, ◌⊎◌, inl, inr, arith, sym, ap, subst, ◌∙◌, max, min, List, [], ◌∷◌}
use Rattle.std.specs.Prelude.{slice_index}
use Rattle.std.proofs.lemmas.Bool.{cases_lt}
use Rattle.rcpsp_model.specs.declared.parts.Entry.{Entry}
use Rattle.rcpsp_model.specs.declared.parts.Mode.{Mode}
use Rattle.rcpsp_model.specs.declared.parts.Placing.{Placing}
use Rattle.rcpsp_model.specs.Project.{Project, modes_of, mode_of, request, Before, IsAcyclic, IsJob, IsMode}
use Rattle.rcpsp_model.specs.Schedule.{finish, entries, IsFeasible}
use Rattle.rcpsp_model.specs.Chain.{least_duration}
use Rattle.rcpsp_model.proofs.Lists.{In, In-All, All-from_In, total, In-le-total}
use Rattle.rcpsp_model.proofs.Entries.{entry_at, job-from}
use Rattle.rcpsp_model.proofs.Usage.{load, usage-total, load-active, finish-le-end}
use Rattle.rcpsp_model.proofs.Calendars.{cap_law}
use Rattle.rcpsp_model.proofs.Completed.{precedes}
use Rattle.rcpsp_model.proofs.LeastModes.{least_over-le, mode-In}
use Rattle.rcpsp_model.proofs.BoundsHold.{least_duration-le}
use Rattle.window_refuter.specs.declared.window.Window.{Window}
use Rattle.window_refuter.specs.declared.step.BoundStep.{BoundStep}
use Rattle.window_refuter.specs.declared.step.BoundStep.TheVariants.{Head, Tail, Disjoint, Work, Empty}
use Rattle.window_refuter.specs.Windows.{es_of, lf_of, earliest_finish, latest_start, least_request, KeepsWindows}
use Rattle.window_refuter.specs.Steps.{IsConflict, RaisesHead, LowersTail, Orders, with_start, with_finish, after_step}
use Rattle.window_refuter.specs.Narrowing.{Narrows}
use Rattle.window_refuter.proofs.WindowLimits.{with_start-es, with_start-lf, with_finish-es, with_finish-lf}

pub least_request-le : (P : Project) (j m k : ℕ) → IsMode P j m → least_request P j k ≤ request P j m k
unfolding least_request request mode_of
least_request-le P j m k r = least_over-le (λ (x : Mode). slice_index x.requests (k - 1)) (modes_of P j) _ (mode-In P j m r)

-- two entries of different jobs
In-two : (f : Entry → ℕ) (es : List Entry) (a b : Entry) → In es a → In es b → (a.job ≡ b.job → ⊥) → f a + f b ≤ total f es
In-two f [] a b i j other = absurd i
In-two f (x ∷ es) a b (inl p) (inl q) other = absurd (other (ap (λ (e : Entry). e.job) (sym p ∙ q)))
In-two f (x ∷ es) a b (inl p) (inr j) other = let one = ap f p in let two = In-le-total f es b j in omega arith
In-two f (x ∷ es) a b (inr i) (inl q) other = let one = ap f q in let two = In-le-total f es a i in omega arith
In-two f (x ∷ es) a b (inr i) (inr j) other = let ih = In-two f es a b i j other in omega arith

module _ (P : Project) (s : List Placing) (feasible : IsFeasible P s) where
  pub mode-in : (e : Entry) → In (entries s) e → IsMode P e.job e.mode
  mode-in e i = In-All (λ (z : Entry). IsMode P z.job z.mode) (entries s) feasible.modes e i

  pub entry-of : (j : ℕ) → IsJob P j → (e : Entry) × In (entries s) e × (e.job ≡ j)
  entry-of j job = entry_at 1 s j job.0 (let whole = feasible.whole in let high = job.1 in omega arith)

  -- entries of two jobs in conflict don't run in the same period
  pub apart : (i j k : ℕ) → IsConflict P i j k → (a b : Entry) → In (entries s) a → In (entries s) b → a.job ≡ i → b.job ≡ j → (finish P a ≤ b.start) ⊎ (finish P b ≤ a.start)
  apart i j k c a b ia ib ja jb = elim (cases_lt b.start (finish P a)) [
    | inr before ↦ inl before
    | inl over ↦ elim (cases_lt a.start (finish P b)) [
      | inr after ↦ inr after
      | inl under ↦
          let t = max a.start b.start in
          let ma = mode-in a ia in let mb = mode-in b ib in
          let da = least_duration-le P a.job a.mode ma in
          let db = least_duration-le P b.job b.mode mb in
          let some_a : 0 < least_duration P a.job = subst (λ (n : ℕ). 0 < least_duration P n) (sym ja) c.first_takes_time in
          let some_b : 0 < least_duration P b.job = subst (λ (n : ℕ). 0 < least_duration P n) (sym jb) c.second_takes_time in
          let la = load-active P k t a (omega arith) (omega arith) in
          let lb = load-active P k t b (omega arith) (omega arith) in
          let two = In-two (load P k t) (entries s) a b ia ib (λ same. c.other (sym ja ∙ same ∙ jb)) in
          let all = usage-total P (entries s) k t in
          let end = finish-le-end P (entries s) a ia in
          let keeps = feasible.capacity k t c.renewable (omega arith) in
          let most = cap_law P k t in
          let ra = least_request-le P a.job a.mode k ma in
          let rb = least_request-le P b.job b.mode k mb in
          let sa = ap (λ (n : ℕ). least_request P n k) ja in
          let sb = ap (λ (n : ℕ). least_request P n k) jb in
          let exceeds = c.exceeds in
          absurd (omega arith)
    ]
  ]

  -- an entry keeps its window
  abbrev Keeps : List Window → Entry → Type 0
  Keeps ws e = (es_of ws e.job ≤ e.start) × (finish P e ≤ lf_of ws e.job)

  module _ (ws : List Window) (keeps : KeepsWindows P ws s) where
    pub keeps-in : (e : Entry) → In (entries s) e → Keeps ws e
    keeps-in e i = In-All (Keeps ws) (entries s) keeps e i

    -- a job's entry ends at its earliest finish or later, and starts at its latest start or earlier
    pub finish-ge : (j : ℕ) (e : Entry) → In (entries s) e → e.job ≡ j → earliest_finish P ws j ≤ finish P e
    finish-ge j e i same =
        let own = keeps-in e i in let start = own.0 in
        let least = least_duration-le P e.job e.mode (mode-in e i) in
        let es = ap (es_of ws) same in let ld = ap (least_duration P) same in
        omega arith

    pub start-le : (j : ℕ) (e : Entry) → In (entries s) e → e.job ≡ j → e.start ≤ latest_start P ws j
    start-le j e i same =
        let own = keeps-in e i in let end = own.1 in
        let least = least_duration-le P e.job e.mode (mode-in e i) in
        let lf = ap (lf_of ws) same in let ld = ap (least_duration P) same in
        omega arith

    -- with a later start of one job, which its entry keeps, and with an earlier finish
    keeps-start : (j t : ℕ) → 1 ≤ j → ((e : Entry) → In (entries s) e → e.job ≡ j → t ≤ e.start) → KeepsWindows P (with_start ws j t) s
    keeps-start j t low late = All-from_In (Keeps (with_start ws j t)) (entries s) (λ e i.
        let own = keeps-in e i in let start = own.0 in let end = own.1 in
        let job = job-from 1 s e i in
        let lf = with_start-lf ws j t e.job in (
          elim (with_start-es ws j t e.job low job) [
            | inl new ↦ let here = late e i new.0 in let es = new.1 in omega arith
            | inr old ↦ omega arith
          ],
          omega arith,
        ))

    keeps-finish : (j t : ℕ) → 1 ≤ j → ((e : Entry) → In (entries s) e → e.job ≡ j → finish P e ≤ t) → KeepsWindows P (with_finish ws j t) s
    keeps-finish j t low early = All-from_In (Keeps (with_finish ws j t)) (entries s) (λ e i.
        let own = keeps-in e i in let start = own.0 in let end = own.1 in
        let job = job-from 1 s e i in
        let es = with_finish-es ws j t e.job in (
          omega arith,
          elim (with_finish-lf ws j t e.job low job) [
            | inl new ↦ let here = early e i new.0 in let lf = new.1 in omega arith
            | inr old ↦ omega arith
          ],
        ))

  head-keeps : (ws : List Window) (i j : ℕ) → IsAcyclic P → KeepsWindows P ws s → RaisesHead P ws i j → KeepsWindows P (with_start ws j (earliest_finish P ws i)) s
  head-keeps ws i j acyclic keeps r =
      let are = acyclic.jobs i j r.before in
      let first = entry-of i are.0 in
      keeps-start ws keeps j (earliest_finish P ws i) (let low = are.1.0 in low) (λ e m same.
      let after = precedes P s feasible first.0 e first.1 m (subst (λ (n : ℕ). Before P first.0.job n) (sym same) (subst (λ (n : ℕ). Before P n j) (sym first.2) r.before)) in
      let done = finish-ge ws keeps i first.0 first.1 first.2 in
      omega arith)

  tail-keeps : (ws : List Window) (i j : ℕ) → IsAcyclic P → KeepsWindows P ws s → LowersTail P ws i j → KeepsWindows P (with_finish ws i (latest_start P ws j)) s
  tail-keeps ws i j acyclic keeps r =
      let are = acyclic.jobs i j r.before in
      let second = entry-of j are.1 in
      keeps-finish ws keeps i (latest_start P ws j) (let low = are.0.0 in low) (λ e m same.
      let after = precedes P s feasible e second.0 m second.1 (subst (λ (n : ℕ). Before P e.job n) (sym second.2) (subst (λ (n : ℕ). Before P n j) (sym same) r.before)) in
      let begun = start-le ws keeps j second.0 second.1 second.2 in
      omega arith)

  -- where the other order has no room, the first entry ends before the second starts
  in-order : (ws : List Window) (i j k : ℕ) → KeepsWindows P ws s → Orders P ws i j k → (a b : Entry) → In (entries s) a → In (entries s) b → a.job ≡ i → b.job ≡ j → finish P a ≤ b.start
  in-order ws i j k keeps o a b ia ib ja jb = elim (apart i j k o.conflict a b ia ib ja jb) [
    | inl before ↦ before
    | inr after ↦
        let done = finish-ge ws keeps j b ib jb in
        let own = keeps-in ws keeps a ia in let end = own.1 in
        let least = least_duration-le P a.job a.mode (mode-in a ia) in
        let lf = ap (lf_of ws) ja in let ld = ap (least_duration P) ja in
        let room = o.no_room in
        absurd (omega arith)
  ]

  order-keeps : (ws : List Window) (i j k : ℕ) → KeepsWindows P ws s → Orders P ws i j k → KeepsWindows P (after_step P ws (Disjoint i j k)) s
  order-keeps ws i j k keeps o =
      let first = entry-of i o.conflict.first in
      let second = entry-of j o.conflict.second in
      let begun = keeps-start ws keeps j (max (es_of ws j) (earliest_finish P ws i)) (let low = o.conflict.second.0 in low) (λ e m same.
      let after = in-order ws i j k keeps o first.0 e first.1 m first.2 same in
      let done = finish-ge ws keeps i first.0 first.1 first.2 in
      let own = (keeps-in ws keeps e m).0 in
      let es = ap (es_of ws) same in
      omega arith) in
      keeps-finish (with_start ws j (max (es_of ws j) (earliest_finish P ws i))) begun i (min (lf_of ws i) (latest_start P ws j)) (let low = o.conflict.first.0 in low) (λ e m same.
      let after = in-order ws i j k keeps o e second.0 m second.1 same second.2 in
      let start = start-le ws keeps j second.0 second.1 second.2 in
      let own = (keeps-in ws keeps e m).1 in
      let lf = ap (lf_of ws) same in
      omega arith)

  -- a step that narrows a window
  pub narrow-keeps : (ws : List Window) (step : BoundStep) → IsAcyclic P → KeepsWindows P ws s → Narrows P ws step → KeepsWindows P (after_step P ws step) s
  narrow-keeps ws (Head i j) acyclic keeps n = head-keeps ws i j acyclic keeps n
  narrow-keeps ws (Tail i j) acyclic keeps n = tail-keeps ws i j acyclic keeps n
  narrow-keeps ws (Disjoint i j k) acyclic keeps n = order-keeps ws i j k keeps n
  narrow-keeps ws (Work k a b) acyclic keeps n = absurd n
  narrow-keeps ws (Empty j) acyclic keeps n = absurd n

  -- no window is empty
  pub keeps-nonempty : (ws : List Window) (j : ℕ) → IsJob P j → KeepsWindows P ws s → earliest_finish P ws j ≤ lf_of ws j
  keeps-nonempty ws j job keeps =
      let own = entry-of j job in
      let done = finish-ge ws keeps j own.0 own.1 own.2 in
      let end = (keeps-in ws keeps own.0 own.1).1 in
      let lf = ap (lf_of ws) own.2 in
      omega arith
