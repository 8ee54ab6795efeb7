-- The jobs of a schedule one by one, and one job beside all others.
use Rattle.std.proofs.Common.{◌≡◌, ℕ, zero, suc, ◌+◌, ◌-◌, ◌<◌, ◌≤◌, max, inl, inr, arith, refl, sym, ap, subst, ◌∙◌, List, [], ◌∷◌, length, get_or, drop, set, get_or-set_other, Bool, true, false, cond, eqb, ◌||◌, not}
use Rattle.std.specs.Prelude.{map, All}
use Rattle.std.proofs.lemmas.Bool.{cases_eq, eq-eqb, ne_eqb, eqb-false}
use Rattle.std.proofs.lemmas.List.{drop_all}
use Rattle.rcpsp_model.specs.declared.parts.Entry.{Entry}
use Rattle.rcpsp_model.specs.declared.parts.Placing.{Placing}
use Rattle.rcpsp_model.specs.Project.{Project, IsJob, IsMode, IsAcyclic, Before, job_count}
use Rattle.rcpsp_model.specs.Schedule.{end_of, entries, entries_from, finish, usage}
use Rattle.rcpsp_model.specs.Tree.{has_job}
use Rattle.rcpsp_model.proofs.Lists.{In, total, total-same, sum_by-total, sum_by-filter, In-All, All-from_In, In-filter, filter-In}
use Rattle.rcpsp_model.proofs.Entries.{entries-distinct, total-others}
use Rattle.rcpsp_model.proofs.Usage.{load, usage-total, finish-le-end}
use Rattle.rcpsp_model.proofs.Changed.{changed, changed-past}
use Rattle.project_net.specs.Feasible.{IsPlaced, entry_in, placing_in}
use Rattle.project_net.proofs.FeasibleParts.{entry-same, In-entry, entries-next}
use Rattle.justify_plans.specs.Placings.{mode_in, start_in, finish_in, others, moved}

pub mode-in : (P : Project) (s : List Placing) (j : ℕ) → IsPlaced P s → IsJob P j → IsMode P j (mode_in s j)
mode-in P s j placed job = In-All (λ (e : Entry). IsMode P e.job e.mode) (entries s) placed.modes (entry_in s j) (In-entry P s j placed.whole job)

-- the end, one job more
pub end-next : (P : Project) (s : List Placing) (i : ℕ) → i < length s → end_of P (entries_from (i + 1) (drop i s)) ≡ max (finish_in P s (i + 1)) (end_of P (entries_from (i + 1 + 1) (drop (i + 1) s)))
end-next P s i h = ap (end_of P) (entries-next s i h)

pub end-none : (P : Project) (s : List Placing) (i : ℕ) → length s ≤ i → end_of P (entries_from (i + 1) (drop i s)) ≡ 0
end-none P s i h = ap (λ (l : List Placing). end_of P (entries_from (i + 1) l)) (drop_all i s h)

pub finish-le : (P : Project) (s : List Placing) (j : ℕ) → length s ≡ job_count P → IsJob P j → finish_in P s j ≤ end_of P (entries s)
finish-le P s j whole job = finish-le-end P (entries s) (entry_in s j) (In-entry P s j whole job)

-- ---- the other jobs

not-true : (b : Bool) → not b ≡ true → b ≡ false
not-true true h = cc
not-true false h = refl

not-false : (b : Bool) → b ≡ false → not b ≡ true
not-false true h = cc
not-false false h = refl

pub In-others : (s : List Placing) (j : ℕ) (x : Entry) → In (others s j) x → In (entries s) x × (x.job ≡ j → ⊥)
In-others s j x i =
    let r = In-filter (λ (e : Entry). not (eqb e.job j)) (entries s) x i in
    (r.0, eqb-false x.job j (not-true (eqb x.job j) r.1))

pub others-In : (s : List Placing) (j : ℕ) (x : Entry) → In (entries s) x → (x.job ≡ j → ⊥) → In (others s j) x
others-In s j x i ne = filter-In (λ (e : Entry). not (eqb e.job j)) (entries s) x i (not-false (eqb x.job j) (ne_eqb x.job j ne))

-- what one entry takes where it isn't that of the job
abbrev pub load_beside : Project → ℕ → ℕ → ℕ → Entry → ℕ
load_beside P j k t e = cond (eqb e.job j) 0 (load P k t e)

flip-cond : (b : Bool) (n : ℕ) → cond (not b) n 0 ≡ cond b 0 n
flip-cond true n = refl
flip-cond false n = refl

pub usage-others : (P : Project) (s : List Placing) (j k t : ℕ) → usage P (others s j) k t ≡ total (load_beside P j k t) (entries s)
usage-others P s j k t =
    usage-total P (others s j) k t
    ∙ sym (sum_by-total (load P k t) (others s j))
    ∙ sum_by-filter (load P k t) (λ (e : Entry). not (eqb e.job j)) (entries s)
    ∙ total-same (λ (e : Entry). cond (not (eqb e.job j)) (load P k t e) 0) (load_beside P j k t) (entries s) (λ e i. flip-cond (eqb e.job j) (load P k t e))

eqb-flip : (a b : ℕ) → (eqb a b || false) ≡ eqb b a
eqb-flip a b = elim (cases_eq a b) [
  | inl e ↦ ap (λ (x : Bool). x || false) (eq-eqb a b e) ∙ sym (eq-eqb b a (sym e))
  | inr ne ↦ ap (λ (x : Bool). x || false) (ne_eqb a b ne) ∙ sym (ne_eqb b a (λ e. ne (sym e)))
]

-- the usage is what the job takes and what the others take
pub usage-split : (P : Project) (s : List Placing) (j k t : ℕ) → length s ≡ job_count P → IsJob P j → usage P (entries s) k t ≡ load P k t (entry_in s j) + usage P (others s j) k t
usage-split P s j k t whole job =
    let own : List Entry = entry_in s j ∷ [] in
    let m = In-entry P s j whole job in
    let whole_sum = usage-total P (entries s) k t in
    let split = total-others (load P k t) (entries s) own (entries-distinct 1 s) (refl, tt) (λ e (i : In own e). elim i [ inl q ↦ subst (λ (x : Entry). In (entries s) x) q m | inr none ↦ absurd none ]) in
    let rest = total-same (λ (e : Entry). cond (has_job own e.job) 0 (load P k t e)) (load_beside P j k t) (entries s) (λ e i. ap (λ (b : Bool). cond b 0 (load P k t e)) (eqb-flip j e.job)) in
    let beside = usage-others P s j k t in
    omega arith

-- ---- the precedences, job by job

no_loop : (P : Project) → IsAcyclic P → (i j : ℕ) → Before P i j → i ≡ j → ⊥
no_loop P a i j b e = let up = a.rises i j b in let same = ap a.rank e in absurd (omega arith)

pub preds-from : (P : Project) (s : List Placing) (j t : ℕ) → ((i : ℕ) → Before P i j → finish_in P s i ≤ t) → All (λ (x : Entry). Before P x.job j → finish P x ≤ t) (others s j)
preds-from P s j t f = All-from_In (λ (x : Entry). Before P x.job j → finish P x ≤ t) (others s j) (λ x i b.
    subst (λ (e : Entry). finish P e ≤ t) (entry-same s x (In-others s j x i).0) (f x.job b))

pub preds-of : (P : Project) → IsAcyclic P → (s : List Placing) (j t : ℕ) → length s ≡ job_count P → All (λ (x : Entry). Before P x.job j → finish P x ≤ t) (others s j) → (i : ℕ) → Before P i j → finish_in P s i ≤ t
preds-of P a s j t whole all i b =
    In-All (λ (x : Entry). Before P x.job j → finish P x ≤ t) (others s j) all (entry_in s i)
    (others-In s j (entry_in s i) (In-entry P s i whole (a.jobs i j b).0) (no_loop P a i j b)) b

pub succs-from : (P : Project) (s : List Placing) (j f : ℕ) → ((i : ℕ) → Before P j i → f ≤ start_in s i) → All (λ (x : Entry). Before P j x.job → f ≤ x.start) (others s j)
succs-from P s j f h = All-from_In (λ (x : Entry). Before P j x.job → f ≤ x.start) (others s j) (λ x i b.
    subst (λ (e : Entry). f ≤ e.start) (entry-same s x (In-others s j x i).0) (h x.job b))

pub succs-of : (P : Project) → IsAcyclic P → (s : List Placing) (j f : ℕ) → length s ≡ job_count P → All (λ (x : Entry). Before P j x.job → f ≤ x.start) (others s j) → (i : ℕ) → Before P j i → f ≤ start_in s i
succs-of P a s j f whole all i b =
    In-All (λ (x : Entry). Before P j x.job → f ≤ x.start) (others s j) all (entry_in s i)
    (others-In s j (entry_in s i) (In-entry P s i whole (a.jobs j i b).1) (λ e. no_loop P a j i b (sym e))) b

-- ---- a job at another start

set-changed : (i : ℕ) (s : List Placing) (j : ℕ) (p : Placing) → i ≤ j → set s (j - i) p ≡ changed j p i s
set-changed i [] j p h = refl
set-changed i (q ∷ qs) j p h = elim (cases_eq i j) [
  | inl e ↦
      ap (λ (n : ℕ). set (q ∷ qs) n p) (let z : j - i ≡ zero = omega arith in z)
      ∙ ap (λ (r : List Placing). p ∷ r) (sym (changed-past j p (i + 1) qs (omega arith)))
      ∙ ap (λ (b : Bool). cond b p q ∷ changed j p (i + 1) qs) (sym (eq-eqb i j e))
  | inr ne ↦
      ap (λ (n : ℕ). set (q ∷ qs) n p) (let z : j - i ≡ suc (j - (i + 1)) = omega arith in z)
      ∙ ap (λ (r : List Placing). q ∷ r) (set-changed (i + 1) qs j p (omega arith))
      ∙ ap (λ (b : Bool). cond b p q ∷ changed j p (i + 1) qs) (sym (ne_eqb i j ne))
]

pub moved-changed : (s : List Placing) (j t : ℕ) → 1 ≤ j → moved s j t ≡ changed j (record { mode = mode_in s j; start = t }) 1 s
moved-changed s j t low = set-changed 1 s j (record { mode = mode_in s j; start = t }) low

-- the others stay where they are
pub moved-other : (s : List Placing) (j t i : ℕ) → 1 ≤ j → 1 ≤ i → (i ≡ j → ⊥) → placing_in (moved s j t) i ≡ placing_in s i
moved-other s j t i lj li ne = get_or-set_other s (j - 1) (i - 1) (record { mode = mode_in s j; start = t }) (record { mode = 0; start = 0 }) (λ e. ne (omega arith))

modes-set : (s : List Placing) (i : ℕ) (v : Placing) → v.mode ≡ (get_or s i (record { mode = 0; start = 0 })).mode → map (λ (p : Placing). p.mode) (set s i v) ≡ map (λ (p : Placing). p.mode) s
modes-set [] i v e = refl
modes-set (p ∷ ps) zero v e = ap (λ (m : ℕ). m ∷ map (λ (q : Placing). q.mode) ps) e
modes-set (p ∷ ps) (suc i) v e = ap (λ (ms : List ℕ). p.mode ∷ ms) (modes-set ps i v e)

pub modes-moved : (s : List Placing) (j t : ℕ) → map (λ (p : Placing). p.mode) (moved s j t) ≡ map (λ (p : Placing). p.mode) s
modes-moved s j t = modes-set s (j - 1) (record { mode = mode_in s j; start = t }) refl
