-- The schedule in which that job is moved to its least start, in a mode that takes no more, is feasible too.
use Rattle.std.proofs.Common.{◌≡◌, ℕ, ◌+◌, ◌<◌, ◌≤◌, ◌⊎◌, inl, inr, arith, refl, sym, ap, subst, ◌∙◌, List, [], ◌∷◌, ◌++◌, true, false, eqb}
use Rattle.std.specs.Prelude.{Contains}
use Rattle.std.proofs.lemmas.Bool.{cases_lt, both_ways}
use Rattle.std.proofs.lemmas.List.Sums.{fold_push}
use Rattle.rcpsp_model.specs.declared.parts.Entry.{Entry}
use Rattle.rcpsp_model.specs.declared.parts.Placing.{Placing}
use Rattle.rcpsp_model.specs.Project.{Project, duration, need, Before, IsMode, IsRenewable, IsAcyclic}
use Rattle.rcpsp_model.specs.Schedule.{cap, finish, usage, end_of, entries, IsFeasible}
use Rattle.rcpsp_model.specs.Modes.{TakesNoMore}
use Rattle.rcpsp_model.specs.Tree.{has_job, last_start, CanStart, IsEligible, IsFront, Completes}
use Rattle.rcpsp_model.proofs.Lists.{In, In-push, In-from_Contains, Contains-from_In, All-from_In, In-All, sum_by-total}
use Rattle.rcpsp_model.proofs.Entries.{has_job-In, entry_of, same_entry, entries-distinct, has_job-push_false}
use Rattle.rcpsp_model.proofs.Changed.{changed, length-changed, In-changed, In-changed_other, In-changed_new, total-changed}
use Rattle.rcpsp_model.proofs.Usage.{load, usage-total, load-active, load-before, load-after, finish-le-end, end-le}
use Rattle.rcpsp_model.proofs.Completed.{kept-In, precedes}
use Rattle.rcpsp_model.proofs.NextJob.{IsNext, usage-before}

-- the schedule with the next job moved to t
abbrev pub moved : List Placing → Entry → ℕ → ℕ → List Placing
moved s e n t = changed e.job (record { mode = n; start = t }) 1 s

abbrev pub at : Entry → ℕ → ℕ → Entry
at e n t = record { job = e.job; mode = n; start = t }

moved-cases : (s : List Placing) (e : Entry) (o t : ℕ) (x : Entry) → In (entries (moved s e o t)) x → (x ≡ at e o t) ⊎ (In (entries s) x × (x.job ≡ e.job → ⊥))
moved-cases s e o t x i = In-changed e.job (record { mode = o; start = t }) 1 s x i

pub moved-end : (P : Project) (s : List Placing) (e : Entry) (o t : ℕ) → In (entries s) e → t ≤ e.start → TakesNoMore P e.job o e.mode → end_of P (entries (moved s e o t)) ≤ end_of P (entries s)
moved-end P s e o t m le less = end-le P (entries (moved s e o t)) (end_of P (entries s)) (λ x i.
    elim (moved-cases s e o t x i) [
      | inl p ↦ let same = ap (finish P) p in let old = finish-le-end P (entries s) e m in let d = less.duration in omega arith
      | inr r ↦ finish-le-end P (entries s) x r.0
    ])

-- an entry before the next one in the network is done when the next one can start
pred-done : (P : Project) (F : List Entry) (s : List Placing) (e : Entry) (o t : ℕ) → Completes P F s → IsEligible P F e.job → CanStart P F e.job o t →
    (x : Entry) → In (entries s) x → Before P x.job e.job → finish P x ≤ t
pred-done P F s e o t c el can x i b =
    let placed = entry_of F x.job (el.preds x.job b) in
    let z = placed.0 in
    let same : z ≡ x = same_entry (entries s) (entries-distinct 1 s) z x (kept-In P F s c z placed.1) i placed.2 in
    let done : finish P z ≤ t = In-All (λ (y : Entry). Before P y.job e.job → finish P y ≤ t) F can.after_preds z placed.1 (subst (λ (k : ℕ). Before P k e.job) (sym placed.2) b) in
    subst (λ (y : Entry). finish P y ≤ t) same done

moved-precedence : (P : Project) (a : IsAcyclic P) (F : List Entry) (s : List Placing) (e : Entry) (o t : ℕ) → Completes P F s → In (entries s) e →
    IsEligible P F e.job → CanStart P F e.job o t → t ≤ e.start → TakesNoMore P e.job o e.mode →
    (x y : Entry) → In (entries (moved s e o t)) x → In (entries (moved s e o t)) y → Before P x.job y.job → finish P x ≤ y.start
moved-precedence P a F s e o t c m el can le less x y i j b =
    elim (moved-cases s e o t x i) [
      | inl p ↦ elim (moved-cases s e o t y j) [
        | inl q ↦ let up = a.rises x.job y.job b in let jx = ap (λ (z : Entry). a.rank z.job) p in let jy = ap (λ (z : Entry). a.rank z.job) q in absurd (omega arith)
        | inr q ↦
            let old : finish P e ≤ y.start = precedes P s c.feasible e y m q.0 (subst (λ (k : ℕ). Before P k y.job) (ap (λ (z : Entry). z.job) p) b) in
            let same = ap (finish P) p in let d = less.duration in omega arith
      ]
      | inr p ↦ elim (moved-cases s e o t y j) [
        | inl q ↦
            let done = pred-done P F s e o t c el can x p.0 (subst (λ (k : ℕ). Before P x.job k) (ap (λ (z : Entry). z.job) q) b) in
            let start = ap (λ (z : Entry). z.start) q in omega arith
        | inr q ↦ precedes P s c.feasible x y p.0 q.0 b
      ]
    ]

-- no period exceeds a capacity after the move
moved-capacity : (P : Project) (a : IsAcyclic P) (F : List Entry) (s : List Placing) (e : Entry) (o t : ℕ) → IsFront P F → Completes P F s → IsNext P a F s e →
    CanStart P F e.job o t → t ≤ e.start → TakesNoMore P e.job o e.mode →
    (k u : ℕ) → IsRenewable P k → u < end_of P (entries (moved s e o t)) → usage P (entries (moved s e o t)) k u ≤ cap P k u
unfolding IsNext
moved-capacity P a F s e o t f c n can le less k u r within =
    let whole = usage-total P (entries s) k u in
    let after = usage-total P (entries (moved s e o t)) k u in
    let front = usage-total P F k u in
    let change = total-changed (load P k u) e.job (record { mode = o; start = t }) 1 s e n.member refl in
    let shorter = moved-end P s e o t n.member le less in
    let d = less.duration in
    let q = less.requests k r in
    let old : usage P (entries s) k u ≤ cap P k u = c.feasible.capacity k u r (omega arith) in
    elim (cases_lt u t) [
      | inl early ↦ let new = load-before P k u (at e o t) early in omega arith
      | inr started ↦ elim (cases_lt u (t + duration P e.job o)) [
        | inr late ↦ let new = load-after P k u (at e o t) late in omega arith
        | inl active ↦ elim (cases_lt u e.start) [
          | inl before ↦
              let only = usage-before P a F s e f c n k u before in
              let new = load-active P k u (at e o t) started active in
              let gone = load-before P k u e before in
              let fit = can.fits k u r started active in
              omega arith
          | inr both ↦
              let new = load-active P k u (at e o t) started active in
              let same = load-active P k u e both (omega arith) in
              omega arith
        ]
      ]
    ]

-- (iii) the changed schedule is feasible
moved-feasible : (P : Project) (a : IsAcyclic P) (F : List Entry) (s : List Placing) (e : Entry) (o t : ℕ) → IsFront P F → Completes P F s → IsNext P a F s e →
    IsMode P e.job o → IsEligible P F e.job → CanStart P F e.job o t → t ≤ e.start → TakesNoMore P e.job o e.mode → IsFeasible P (moved s e o t)
unfolding IsNext
moved-feasible P a F s e o t f c n mode el can le less = record {
  whole = length-changed e.job _ 1 s ∙ c.feasible.whole;
  modes = All-from_In (λ (x : Entry). IsMode P x.job x.mode) (entries (moved s e o t)) (λ x i. elim (moved-cases s e o t x i) [
    | inl p ↦ subst (λ (z : Entry). IsMode P z.job z.mode) (sym p) mode
    | inr q ↦ mode_ok x q.0
  ]);
  precedence = λ x y i j b. moved-precedence P a F s e o t c n.member el can le less x y (In-from_Contains _ x i) (In-from_Contains _ y j) b;
  capacity = moved-capacity P a F s e o t f c n can le less;
  budgets = λ l r.
      let taken : Entry → ℕ = λ x. need P x.job x.mode l in
      let change = total-changed taken e.job (record { mode = o; start = t }) 1 s e n.member refl in
      let before = sum_by-total taken (entries s) in
      let after = sum_by-total taken (entries (moved s e o t)) in
      let ok = c.feasible.budgets l r in
      let q = less.needs l r in
      omega arith;
}
  where
    mode_ok : (x : Entry) → In (entries s) x → IsMode P x.job x.mode
    mode_ok x i = In-All (λ (z : Entry). IsMode P z.job z.mode) (entries s) c.feasible.modes x i

-- (iv) it completes the child
pub moved-completes : (P : Project) (a : IsAcyclic P) (F : List Entry) (s : List Placing) (e : Entry) (o t : ℕ) → IsFront P F → Completes P F s → IsNext P a F s e →
    IsMode P e.job o → IsEligible P F e.job → CanStart P F e.job o t → t ≤ e.start → TakesNoMore P e.job o e.mode → Completes P (F ++ at e o t ∷ []) (moved s e o t)
unfolding IsNext
moved-completes P a F s e o t f c n mode el can le less = record {
  feasible = moved-feasible P a F s e o t f c n mode el can le less;
  kept = All-from_In (Contains (entries (moved s e o t))) (F ++ at e o t ∷ []) (λ x i. Contains-from_In (entries (moved s e o t)) x (stays x (In-push F (at e o t) x i)));
  rest = All-from_In (λ (x : Entry). has_job (F ++ at e o t ∷ []) x.job ≡ false → last_start (F ++ at e o t ∷ []) ≤ x.start) (entries (moved s e o t)) (λ x i h.
      let late = later x i (has_job-push_false F (at e o t) x.job h) in let last = fold_push (λ (_ : ℕ) (y : Entry). y.start) 0 F (at e o t) in omega arith);
}
  where
    stays : (x : Entry) → In F x ⊎ (at e o t ≡ x) → In (entries (moved s e o t)) x
    stays x (inr p) = subst (λ (z : Entry). In (entries (moved s e o t)) z) p (In-changed_new e.job _ 1 s e n.member refl)
    stays x (inl i) = In-changed_other e.job _ 1 s x (kept-In P F s c x i) (λ w. both_ways (has_job F e.job) n.fails (subst (λ (k : ℕ). has_job F k ≡ true) w (has_job-In F x i)))

    later : (x : Entry) → In (entries (moved s e o t)) x → (has_job F x.job ≡ false) × (eqb e.job x.job ≡ false) → t ≤ x.start
    later x i h = elim (moved-cases s e o t x i) [
      | inl p ↦ let start = ap (λ (z : Entry). z.start) p in omega arith
      | inr q ↦ elim (n.first x q.0 h.0) [ inl sooner ↦ omega arith | inr tie ↦ omega (arith, tie.0) ]
    ]
