-- What refutes windows shows that no feasible schedule keeps them.
use Rattle.std.proofs.Common.{◌≡◌, ℕ, zero, suc, ◌+◌, ◌-◌, ◌*◌, ◌≤◌, inl, inr, arith, refl, sym, ap, subst, ◌∙◌, max, List, [], ◌∷◌, length, Bool, true, cond, MatchBool}
use Rattle.std.proofs.Math.Nat.{mul-suc, mul_comm}
use Rattle.std.proofs.lemmas.Bool.{cases_lt, cases_Bool, and_parts, leb-true}
use Rattle.rcpsp_model.specs.declared.parts.Entry.{Entry}
use Rattle.rcpsp_model.specs.declared.parts.Placing.{Placing}
use Rattle.rcpsp_model.specs.Project.{Project, duration, request, jobs, numbers_from, IsAcyclic, IsRenewable}
use Rattle.rcpsp_model.specs.Schedule.{finish, usage, end_of, entries, entries_from, cap, IsFeasible}
use Rattle.rcpsp_model.specs.Modes.{least_work}
use Rattle.rcpsp_model.specs.Bounds.{supply}
use Rattle.rcpsp_model.proofs.Lists.{In, All-from_In, total, total-le, total-zero, sum_by-filter}
use Rattle.rcpsp_model.proofs.Entries.{job-from, job-below}
use Rattle.rcpsp_model.proofs.Usage.{load, usage-total, load-active, usage-past_end, finish-le-end}
use Rattle.rcpsp_model.proofs.LeastModes.{least_work-le}
use Rattle.rcpsp_model.proofs.WorkHeld.{spent}
use Rattle.window_refuter.specs.declared.window.Window.{Window}
use Rattle.window_refuter.specs.declared.step.BoundStep.{BoundStep}
use Rattle.window_refuter.specs.declared.step.BoundStep.TheVariants.{Head, Tail, Disjoint, Work, Empty}
use Rattle.window_refuter.specs.Windows.{es_of, lf_of, first_windows, is_within, KeepsWindows}
use Rattle.window_refuter.specs.Steps.{IsOverfull, IsAllowed, is_contradiction, after_step, RefutesFrom}
use Rattle.window_refuter.specs.Laws.{WindowsLaw, EndLaw}
use Rattle.window_refuter.proofs.SoundSteps.{mode-in, keeps-in, narrow-keeps, keeps-nonempty}
use Rattle.window_refuter.proofs.FirstWindows.{first-es, first-lf}
use Rattle.window_refuter.proofs.Within.{allowed-narrows}

-- What entries take of a resource in some periods.
total-add : (f g : Entry → ℕ) (es : List Entry) → total (λ e. f e + g e) es ≡ total f es + total g es
total-add f g [] = refl
total-add f g (e ∷ es) = let ih = total-add f g es in omega arith

-- entries that keep the capacities take no more than there is
spent-supply : (P : Project) (es : List Entry) (k t n : ℕ) → ((u : ℕ) → usage P es k u ≤ cap P k u) → total (spent P k t n) es ≤ supply P k t n
spent-supply P es k t zero keeps = let none = total-zero (λ (e : Entry). 0) es (λ _ _. refl) in omega arith
spent-supply P es k t (suc n) keeps =
    let now = keeps t in
    let sum = usage-total P es k t in
    let parts = total-add (load P k t) (spent P k (t + 1) n) es in
    let ih = spent-supply P es k (t + 1) n keeps in
    omega arith

-- an entry that is done in these periods takes its request in each of its periods among them
spent-ge : (P : Project) (k t n : ℕ) (e : Entry) → finish P e ≤ t + n → request P e.job e.mode k * (finish P e - max e.start t) ≤ spent P k t n e
spent-ge P k t zero e done =
    let none : finish P e - max e.start t ≡ 0 = omega arith in
    let product : request P e.job e.mode k * (finish P e - max e.start t) ≡ request P e.job e.mode k * 0 = ap (λ x. request P e.job e.mode k * x) none in
    omega arith
spent-ge P k t (suc n) e done =
    let r = request P e.job e.mode k in
    let ih = spent-ge P k (t + 1) n e (omega arith) in
    elim (cases_lt t e.start) [
      | inl early ↦
          let same : finish P e - max e.start t ≡ finish P e - max e.start (t + 1) = omega arith in
          let product = ap (λ x. r * x) same in
          omega arith
      | inr started ↦ elim (cases_lt t (finish P e)) [
        | inl active ↦
            let more : finish P e - max e.start t ≡ suc (finish P e - max e.start (t + 1)) = omega arith in
            let product : r * (finish P e - max e.start t) ≡ r * (finish P e - max e.start (t + 1)) + r = ap (λ x. r * x) more ∙ mul-suc r _ in
            let now = load-active P k t e started active in
            omega arith
        | inr late ↦
            let none : finish P e - max e.start t ≡ 0 = omega arith in
            let product : r * (finish P e - max e.start t) ≡ r * 0 = ap (λ x. r * x) none in
            omega arith
      ]
    ]

-- a sum over the jobs is one over the entries of a schedule
total-jobs : (g : ℕ → ℕ) (i : ℕ) (ps : List Placing) → total g (numbers_from i (length ps)) ≡ total (λ (x : Entry). g x.job) (entries_from i ps)
total-jobs g i [] = refl
total-jobs g i (p ∷ ps) = let ih = total-jobs g (i + 1) ps in omega arith

module _ (P : Project) (s : List Placing) (feasible : IsFeasible P s) where
  keeps-capacities : (k : ℕ) → IsRenewable P k → (t : ℕ) → usage P (entries s) k t ≤ cap P k t
  keeps-capacities k r t = elim (cases_lt t (end_of P (entries s))) [
    | inl before ↦ feasible.capacity k t r before
    | inr past ↦ let none = usage-past_end P (entries s) k t past in omega arith
  ]

  -- a job that has to run within some periods takes its least work or more in these
  work-spent : (ws : List Window) (k a b : ℕ) → KeepsWindows P ws s → a ≤ b → (e : Entry) → In (entries s) e → cond (is_within ws a b e.job) (least_work P e.job k) 0 ≤ spent P k a (b - a) e
  work-spent ws k a b keeps h e i = elim (cases_Bool (is_within ws a b e.job)) [
    | inr out ↦ let none = ap (λ (x : Bool). cond x (least_work P e.job k) 0) out in omega arith
    | inl inside ↦
        let parts = and_parts _ _ inside in
        let low = leb-true a (es_of ws e.job) parts.0 in
        let high = leb-true (lf_of ws e.job) b parts.1 in
        let own = keeps-in P s feasible ws keeps e i in
        let start = own.0 in let end = own.1 in
        let all = ap (λ (x : Bool). cond x (least_work P e.job k) 0) inside in
        let ge = spent-ge P k a (b - a) e (omega arith) in
        let same : finish P e - max e.start a ≡ duration P e.job e.mode = omega arith in
        let product = ap (λ (x : ℕ). request P e.job e.mode k * x) same in
        let least = least_work-le P e.job e.mode k (mode-in P s feasible e i) in
        let turned = mul_comm (duration P e.job e.mode) (request P e.job e.mode k) in
        omega arith
  ]

  -- so no interval is overfull
  pub never-overfull : (T : ℕ) (ws : List Window) (k a b : ℕ) → KeepsWindows P ws s → IsOverfull P T ws k a b → ⊥
  never-overfull T ws k a b keeps over =
      let f : ℕ → ℕ = λ j. least_work P j k in
      let g : ℕ → ℕ = λ j. cond (is_within ws a b j) (least_work P j k) 0 in
      let sum = sum_by-filter f (is_within ws a b) (jobs P) in
      let count : total g (jobs P) ≡ total g (numbers_from 1 (length s)) = ap (λ (n : ℕ). total g (numbers_from 1 n)) (sym feasible.whole) in
      let turned = total-jobs g 1 s in
      let each = total-le (λ (e : Entry). g e.job) (spent P k a (b - a)) (entries s) (work-spent ws k a b keeps over.forwards) in
      let held = spent-supply P (entries s) k a (b - a) (keeps-capacities k over.renewable) in
      let exceeds = over.exceeds in
      absurd (omega arith)

  no-contradiction : (T : ℕ) (ws : List Window) (step : BoundStep) → KeepsWindows P ws s → IsAllowed P T ws step → is_contradiction step ≡ true → ⊥
  no-contradiction T ws (Head i j) keeps a h = absurd (cc)
  no-contradiction T ws (Tail i j) keeps a h = absurd (cc)
  no-contradiction T ws (Disjoint i j k) keeps a h = absurd (cc)
  no-contradiction T ws (Work k a b) keeps al h = never-overfull T ws k a b keeps al.1
  no-contradiction T ws (Empty j) keeps a h = let room = keeps-nonempty P s feasible ws j a.0 keeps in let empty = a.1 in absurd (omega arith)

  pub never-refuted : (T : ℕ) (ws : List Window) (steps : List BoundStep) → IsAcyclic P → KeepsWindows P ws s → RefutesFrom P T ws steps → ⊥
  never-refuted T ws [] acyclic keeps r = r
  never-refuted T ws (step ∷ steps) acyclic keeps r = elim (cases_Bool (is_contradiction step)) [
    | inl last ↦ no-contradiction T ws step keeps r.0 last
    | inr further ↦
        let n = allowed-narrows P T ws step r.0 further in
        never-refuted T (after_step P ws step) steps acyclic (narrow-keeps P s feasible ws step acyclic keeps n.1)
        (subst (λ (b : Bool). MatchBool b (steps ≡ []) (RefutesFrom P T (after_step P ws step) steps)) further r.1)
  ]

pub windows_law : WindowsLaw
windows_law P T ws steps s acyclic refuted feasible keeps = never-refuted P s feasible T ws steps acyclic keeps refuted

pub end_law : EndLaw
end_law P T steps acyclic refuted s feasible soon =
    never-refuted P s feasible T (first_windows P T) steps acyclic
    (All-from_In (λ (e : Entry). (es_of (first_windows P T) e.job ≤ e.start) × (finish P e ≤ lf_of (first_windows P T) e.job)) (entries s) (λ e i.
    let none = first-es P T e.job in
    let end = finish-le-end P (entries s) e i in
    let low = job-from 1 s e i in let high = job-below 1 s e i in let whole = feasible.whole in
    let last = first-lf P T e.job (low, omega arith) in
    (omega arith, omega arith)))
    refuted
