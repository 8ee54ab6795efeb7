-- A schedule that completes the dominated front, with the placings of the dominating one put in, completes that one.
use Rattle.std.proofs.Common.{◌≡◌, ℕ, ◌+◌, ◌<◌, ◌≤◌, ◌⊎◌, inl, inr, arith, sym, ap, subst, ◌∙◌, List, [], Bool, false, cond}
use Rattle.std.specs.Prelude.{Contains}
use Rattle.std.proofs.lemmas.Bool.{cases_lt, cases_Bool, both_ways}
use Rattle.rcpsp_model.specs.declared.parts.Entry.{Entry}
use Rattle.rcpsp_model.specs.declared.parts.Placing.{Placing}
use Rattle.rcpsp_model.specs.Project.{Project, need, Before, IsMode, IsRenewable, IsAcyclic}
use Rattle.rcpsp_model.specs.Schedule.{cap, finish, usage, end_of, entries}
use Rattle.rcpsp_model.specs.Tree.{has_job, last_start, IsFront, Completes}
use Rattle.rcpsp_model.specs.Dominance.{Dominates}
use Rattle.rcpsp_model.specs.Laws.{Replaces, DominanceLaw}
use Rattle.rcpsp_model.proofs.Lists.{In, In-from_Contains, Contains-from_In, All-from_In, In-All, total, total-same, total-zero, sum_by-total}
use Rattle.rcpsp_model.proofs.Entries.{has_job-In, entry_of, total-others, entries-distinct}
use Rattle.rcpsp_model.proofs.Usage.{load, usage-total, load-before, finish-le-end, end-le}
use Rattle.rcpsp_model.proofs.Completed.{kept-In, precedes, front-distinct}
use Rattle.rcpsp_model.proofs.Fronts.{front-keeps, named-in_turn}
use Rattle.rcpsp_model.proofs.Sound.{front-sound}
use Rattle.rcpsp_model.proofs.Merged.{merged, length-merged, In-merged, merged-In, total-merged}

-- What completes B, with the placings of A.
module _ (P : Project) (a : IsAcyclic P) (A B : List Entry) (s : List Placing) (fa : IsFront P A) (fb : IsFront P B) (d : Dominates P A B) (c : Completes P B s) where
  abbrev new : List Placing
  new = merged A 1 s

  cases : (x : Entry) → In (entries new) x → In A x ⊎ ((has_job A x.job ≡ false) × In (entries s) x)
  cases x i = In-merged A 1 s x i

  kept-A : (x : Entry) → In A x → In (entries new) x
  kept-A x i =
      let job = (named-in_turn P [] A fa x i).0 in let w = c.feasible.whole in
      merged-In A (front-distinct P A fa) 1 s x i job.0 (let h = job.1 in omega arith)

  rest-start : (x : Entry) → In (entries s) x → has_job A x.job ≡ false → last_start B ≤ x.start
  rest-start x i n = In-All (λ (y : Entry). has_job B y.job ≡ false → last_start B ≤ y.start) (entries s) c.rest x i (sym (d.jobs x.job) ∙ n)

  new-total : (h : Entry → ℕ) → total h (entries new) ≡ total h A + total (λ (x : Entry). cond (has_job A x.job) 0 (h x)) (entries s)
  new-total h =
      let all = total-others h (entries new) A (entries-distinct 1 new) (front-distinct P A fa) kept-A in
      let same = total-merged h A 1 s in omega arith

  old-total : (h : Entry → ℕ) → total h (entries s) ≡ total h B + total (λ (x : Entry). cond (has_job A x.job) 0 (h x)) (entries s)
  old-total h =
      let all = total-others h (entries s) B (entries-distinct 1 s) (front-distinct P B fb) (kept-In P B s c) in
      let same = total-same (λ (x : Entry). cond (has_job B x.job) 0 (h x)) (λ (x : Entry). cond (has_job A x.job) 0 (h x)) (entries s) (λ x i. ap (λ (b : Bool). cond b 0 (h x)) (sym (d.jobs x.job))) in
      omega arith

  new-end : end_of P (entries new) ≤ end_of P (entries s)
  new-end = end-le P (entries new) (end_of P (entries s)) (λ x i. elim (cases x i) [
    | inl m ↦
        let own = finish-le-end P A x m in let le = d.end in
        let all = end-le P B (end_of P (entries s)) (λ y j. finish-le-end P (entries s) y (kept-In P B s c y j)) in omega arith
    | inr r ↦ finish-le-end P (entries s) x r.1
  ])

  new-precedence : (x y : Entry) → In (entries new) x → In (entries new) y → Before P x.job y.job → finish P x ≤ y.start
  new-precedence x y i j b = elim (cases y j) [
    | inl my ↦ elim (cases x i) [
      | inl mx ↦ (front-sound P a A fa).done x y mx my b
      | inr rx ↦ absurd (both_ways _ rx.0 ((front-sound P a A fa).closed x.job y.job b (has_job-In A y my)))
    ]
    | inr ry ↦ elim (cases x i) [
      | inl mx ↦
          let at = entry_of B x.job (sym (d.jobs x.job) ∙ has_job-In A x mx) in
          let soon = d.finishes x at.0 y.job (Contains-from_In A x mx) (Contains-from_In B at.0 at.1) (sym at.2) b ry.0 in
          let before : finish P at.0 ≤ y.start = precedes P s c.feasible at.0 y (kept-In P B s c at.0 at.1) ry.1 (subst (λ (k : ℕ). Before P k y.job) (sym at.2) b) in
          let late = rest-start y ry.1 ry.0 in omega arith
      | inr rx ↦ precedes P s c.feasible x y rx.1 ry.1 b
    ]
  ]

  new-capacity : (k t : ℕ) → IsRenewable P k → t < end_of P (entries new) → usage P (entries new) k t ≤ cap P k t
  new-capacity k t r within =
      let u-new = usage-total P (entries new) k t in let u-old = usage-total P (entries s) k t in
      let u-A = usage-total P A k t in let u-B = usage-total P B k t in
      let t-new = new-total (load P k t) in let t-old = old-total (load P k t) in
      elim (cases_lt t (last_start B)) [
        | inl early ↦
            let none : total (λ (x : Entry). cond (has_job A x.job) 0 (load P k t x)) (entries s) ≡ 0 = total-zero _ (entries s) (λ x i.
            elim (cases_Bool (has_job A x.job)) [
              | inl y ↦ ap (λ (b : Bool). cond b 0 (load P k t x)) y
              | inr n ↦ ap (λ (b : Bool). cond b 0 (load P k t x)) n ∙ load-before P k t x (let h = rest-start x i n in omega arith)
            ]) in
            let keeps = front-keeps P A fa k t r in omega arith
        | inr late ↦ let less = d.usage k t r late in let ends = new-end in let ok = c.feasible.capacity k t r (omega arith) in omega arith
      ]

  mode_ok : (x : Entry) → In (entries new) x → IsMode P x.job x.mode
  mode_ok x i = elim (cases x i) [
    | inl m ↦ (named-in_turn P [] A fa x m).1
    | inr r ↦ In-All (λ (z : Entry). IsMode P z.job z.mode) (entries s) c.feasible.modes x r.1
  ]

  replaced : Replaces P A s
  replaced = record {
    better = new;
    completes = record {
      feasible = record {
        whole = length-merged A 1 s ∙ c.feasible.whole;
        modes = All-from_In (λ (z : Entry). IsMode P z.job z.mode) (entries new) mode_ok;
        precedence = λ x y i j b. new-precedence x y (In-from_Contains _ x i) (In-from_Contains _ y j) b;
        capacity = new-capacity;
        budgets = λ l r.
            let taken : Entry → ℕ = λ x. need P x.job x.mode l in
            let a1 = sum_by-total taken (entries new) in let a2 = sum_by-total taken (entries s) in
            let a3 = sum_by-total taken A in let a4 = sum_by-total taken B in
            let a5 = new-total taken in let a6 = old-total taken in
            let a7 = d.needs l r in let a8 = c.feasible.budgets l r in omega arith;
      };
      kept = All-from_In (Contains (entries new)) A (λ x i. Contains-from_In (entries new) x (kept-A x i));
      rest = All-from_In (λ (y : Entry). has_job A y.job ≡ false → last_start A ≤ y.start) (entries new) (λ x i n. elim (cases x i) [
        | inl m ↦ absurd (both_ways _ n (has_job-In A x m))
        | inr r ↦ let h = rest-start x r.1 n in let l = d.last in omega arith
      ]);
    };
    no_later = new-end;
  }

pub dominance_law : DominanceLaw
dominance_law P A B s a fa fb d c = replaced P a A B s fa fb d c
