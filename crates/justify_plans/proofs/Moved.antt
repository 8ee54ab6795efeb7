-- A feasible schedule stays feasible where a job is moved to a start at which it can stand; and each start to which a pass
-- moves a job is one.
use Rattle.std.proofs.Common.{◌≡◌, ℕ, ◌+◌, ◌≤◌, ◌⊎◌, inl, inr, arith, refl, sym, ap, subst, ◌∙◌, List, [], ◌∷◌, length}
use Rattle.std.proofs.lemmas.Bool.{cases_lt}
use Rattle.rcpsp_model.specs.declared.parts.Entry.{Entry}
use Rattle.rcpsp_model.specs.declared.parts.Placing.{Placing}
use Rattle.rcpsp_model.specs.Project.{Project, IsJob, IsMode, IsAcyclic, IsRenewable, Before, job_count, duration, need}
use Rattle.rcpsp_model.specs.Schedule.{IsFeasible, cap, end_of, entries, entries_from, finish, usage}
use Rattle.rcpsp_model.specs.Chain.{IsLeast, IsGreatest}
use Rattle.rcpsp_model.specs.Tree.{Fits}
use Rattle.rcpsp_model.specs.Plan.{CanRun}
use Rattle.rcpsp_model.proofs.Lists.{In, In-from_Contains, All-from_In, In-All, sum_by-total}
use Rattle.rcpsp_model.proofs.Completed.{precedes}
use Rattle.rcpsp_model.proofs.Usage.{load, usage-total, load-active, load-before, load-after, end-le, finish-le-end}
use Rattle.rcpsp_model.proofs.Changed.{changed, length-changed, In-changed, total-changed}
use Rattle.project_net.specs.Feasible.{IsPlaced, entry_in}
use Rattle.project_net.proofs.FeasibleParts.{entry-same, In-entry, capacities-of}
use Rattle.justify_plans.specs.declared.direction.Direction.{Direction}
use Rattle.justify_plans.specs.declared.direction.Direction.TheVariants.{Backward, Forward}
use Rattle.justify_plans.specs.Placings.{mode_in, start_in, finish_in, others, moved}
use Rattle.justify_plans.specs.Passes.{CanRunBy, IsNewStart, Moves}
use Rattle.justify_plans.specs.Improved.{HasSameModes}
use Rattle.justify_plans.specs.Room.{FitsBy, FitsFrom}
use Rattle.justify_plans.specs.Laws.{FitsLaw}
use Rattle.justify_plans.proofs.JobByJob.{finish-le, usage-split, preds-from, preds-of, succs-from, succs-of, moved-changed, modes-moved}

-- a start at which the job can stand, all else being as it is
pub record CanStand (P : Project) (s : List Placing) (j t : ℕ) : Type 0 where
  pub preds : (i : ℕ) → Before P i j → finish_in P s i ≤ t
  pub succs : (i : ℕ) → Before P j i → t + duration P j (mode_in s j) ≤ start_in s i
  pub fits : Fits P (others s j) j (mode_in s j) t

-- where it is it can stand
pub stands-now : (P : Project) → IsAcyclic P → (s : List Placing) (j : ℕ) → IsFeasible P s → IsJob P j → CanStand P s j (start_in s j)
stands-now P a s j f job = record {
  preds = λ i b. precedes P s f (entry_in s i) (entry_in s j) (In-entry P s i f.whole (a.jobs i j b).0) (In-entry P s j f.whole job) b;
  succs = λ i b. precedes P s f (entry_in s j) (entry_in s i) (In-entry P s j f.whole job) (In-entry P s i f.whole (a.jobs j i b).1) b;
  fits = λ k u r begun during.
      let all = capacities-of P s f k u r in
      let split = usage-split P s j k u f.whole job in
      let own = load-active P k u (entry_in s j) begun during in
      omega arith;
}

abbrev place : List Placing → ℕ → ℕ → Placing
place s j t = record { mode = mode_in s j; start = t }

-- the schedule as the list in which one placing is changed
abbrev other : List Placing → ℕ → ℕ → List Placing
other s j t = changed j (place s j t) 1 s

cases-of : (s : List Placing) (j t : ℕ) (x : Entry) → In (entries (other s j t)) x → (x ≡ record { job = j; mode = mode_in s j; start = t }) ⊎ (In (entries s) x × (x.job ≡ j → ⊥))
cases-of s j t x i = In-changed j (place s j t) 1 s x i

changed-precedence : (P : Project) → IsAcyclic P → (s : List Placing) (j t : ℕ) → IsFeasible P s → CanStand P s j t →
    (x y : Entry) → In (entries (other s j t)) x → In (entries (other s j t)) y → Before P x.job y.job → finish P x ≤ y.start
changed-precedence P a s j t f c x y i k b =
    elim (cases-of s j t x i) [
      | inl p ↦ elim (cases-of s j t y k) [
        | inl q ↦ let up = a.rises x.job y.job b in let jx = ap (λ (z : Entry). a.rank z.job) p in let jy = ap (λ (z : Entry). a.rank z.job) q in absurd (omega arith)
        | inr q ↦
            let le : t + duration P j (mode_in s j) ≤ y.start =
            subst (λ (z : Entry). t + duration P j (mode_in s j) ≤ z.start) (entry-same s y q.0) (c.succs y.job (subst (λ (n : ℕ). Before P n y.job) (ap (λ (z : Entry). z.job) p) b)) in
            let same = ap (finish P) p in omega arith
      ]
      | inr p ↦ elim (cases-of s j t y k) [
        | inl q ↦
            let le : finish P x ≤ t =
            subst (λ (z : Entry). finish P z ≤ t) (entry-same s x p.0) (c.preds x.job (subst (λ (n : ℕ). Before P x.job n) (ap (λ (z : Entry). z.job) q) b)) in
            let start = ap (λ (z : Entry). z.start) q in omega arith
        | inr q ↦ precedes P s f x y p.0 q.0 b
      ]
    ]

changed-capacity : (P : Project) (s : List Placing) (j t : ℕ) → IsFeasible P s → IsJob P j → CanStand P s j t → (k u : ℕ) → IsRenewable P k → usage P (entries (other s j t)) k u ≤ cap P k u
changed-capacity P s j t f job c k u r =
    let e : Entry = record { job = j; mode = mode_in s j; start = t } in
    let before = usage-total P (entries s) k u in
    let after = usage-total P (entries (other s j t)) k u in
    let change = total-changed (load P k u) j (place s j t) 1 s (entry_in s j) (In-entry P s j f.whole job) refl in
    let split = usage-split P s j k u f.whole job in
    let old = capacities-of P s f k u r in
    elim (cases_lt u t) [
      | inl early ↦ let new = load-before P k u e early in omega arith
      | inr started ↦ elim (cases_lt u (t + duration P j (mode_in s j))) [
        | inr late ↦ let new = load-after P k u e late in omega arith
        | inl active ↦ let new = load-active P k u e started active in let fit = c.fits k u r started active in omega arith
      ]
    ]

changed-feasible : (P : Project) → IsAcyclic P → (s : List Placing) (j t : ℕ) → IsFeasible P s → IsJob P j → CanStand P s j t → IsFeasible P (other s j t)
changed-feasible P a s j t f job c = record {
  whole = length-changed j (place s j t) 1 s ∙ f.whole;
  modes = All-from_In (λ (x : Entry). IsMode P x.job x.mode) (entries (other s j t)) (λ x i. elim (cases-of s j t x i) [
    | inl p ↦ subst (λ (z : Entry). IsMode P z.job z.mode) (sym p) (modes (entry_in s j) (In-entry P s j f.whole job))
    | inr q ↦ modes x q.0
  ]);
  precedence = λ x y i k b. changed-precedence P a s j t f c x y (In-from_Contains _ x i) (In-from_Contains _ y k) b;
  capacity = λ k u r within. changed-capacity P s j t f job c k u r;
  budgets = λ l r.
      let taken : Entry → ℕ = λ x. need P x.job x.mode l in
      let change = total-changed taken j (place s j t) 1 s (entry_in s j) (In-entry P s j f.whole job) refl in
      let before = sum_by-total taken (entries s) in
      let after = sum_by-total taken (entries (other s j t)) in
      let ok = f.budgets l r in
      omega arith;
}
  where
    modes : (x : Entry) → In (entries s) x → IsMode P x.job x.mode
    modes x i = In-All (λ (z : Entry). IsMode P z.job z.mode) (entries s) f.modes x i

changed-end : (P : Project) (s : List Placing) (j t end : ℕ) → end_of P (entries s) ≤ end → t + duration P j (mode_in s j) ≤ end → end_of P (entries (other s j t)) ≤ end
changed-end P s j t end old new = end-le P (entries (other s j t)) end (λ x i. elim (cases-of s j t x i) [
  | inl p ↦ let same = ap (finish P) p in omega arith
  | inr q ↦ let le = finish-le-end P (entries s) x q.0 in omega arith
])

-- what is kept of a plan: it is feasible, ends in time, and has the modes that it had
pub record IsKept (P : Project) (end : ℕ) (s r : List Placing) : Type 0 where
  pub feasible : IsFeasible P r
  pub within : end_of P (entries r) ≤ end
  pub modes : HasSameModes s r

pub stands-kept : (P : Project) → IsAcyclic P → (s : List Placing) (j t end : ℕ) → IsFeasible P s → end_of P (entries s) ≤ end → IsJob P j → CanStand P s j t → t + duration P j (mode_in s j) ≤ end → IsKept P end s (moved s j t)
stands-kept P a s j t end f within job c by =
    let same = moved-changed s j t job.0 in record {
      feasible = subst (IsFeasible P) (sym same) (changed-feasible P a s j t f job c);
      within = subst (λ (r : List Placing). end_of P (entries r) ≤ end) (sym same) (changed-end P s j t end within by);
      modes = modes-moved s j t;
    }

-- ---- where a pass moves a job

pub runs-by-now : (P : Project) → IsAcyclic P → (s : List Placing) (j end : ℕ) → IsFeasible P s → end_of P (entries s) ≤ end → IsJob P j → CanRunBy P (others s j) end j (mode_in s j) (start_in s j)
runs-by-now P a s j end f within job =
    let now = stands-now P a s j f job in record {
      by_end = let le = finish-le P s j f.whole job in omega arith;
      before_succs = succs-from P s j (start_in s j + duration P j (mode_in s j)) now.succs;
      fits = now.fits;
    }

pub runs-now : (P : Project) → IsAcyclic P → (s : List Placing) (j : ℕ) → IsFeasible P s → IsJob P j → CanRun P (others s j) j (mode_in s j) (start_in s j)
runs-now P a s j f job = let now = stands-now P a s j f job in record { after_preds = preds-from P s j (start_in s j) now.preds; fits = now.fits }

pub new_start-stands : (way : Direction) (P : Project) → IsAcyclic P → (s : List Placing) (j t end : ℕ) → IsFeasible P s → end_of P (entries s) ≤ end → IsJob P j → IsNewStart way P end s j t →
    CanStand P s j t × (t + duration P j (mode_in s j) ≤ end)
new_start-stands Backward P a s j t end f within job g =
    let now = stands-now P a s j f job in
    let later = g.greatest (start_in s j) (runs-by-now P a s j end f within job) in
    let there = g.attained in (
      record {
        preds = λ i b. let le = now.preds i b in omega arith;
        succs = succs-of P a s j (t + duration P j (mode_in s j)) f.whole there.before_succs;
        fits = there.fits;
      },
      there.by_end,
    )
new_start-stands Forward P a s j t end f within job l =
    let now = stands-now P a s j f job in
    let sooner = l.least (start_in s j) (runs-now P a s j f job) in
    let there = l.attained in (
      record {
        preds = preds-of P a s j t f.whole there.after_preds;
        succs = λ i b. let le = now.succs i b in omega arith;
        fits = there.fits;
      },
      (let le = finish-le P s j f.whole job in omega arith),
    )

pub moves-kept : (way : Direction) (P : Project) → IsAcyclic P → (s r : List Placing) (j end : ℕ) → IsFeasible P s → end_of P (entries s) ≤ end → IsJob P j → Moves way P end s j r → IsKept P end s r
moves-kept way P a s r j end f within job m =
    let stands = new_start-stands way P a s j m.0 end f within job m.1 in
    subst (IsKept P end s) (sym m.2) (stands-kept P a s j m.0 end f within job stands.0 stands.1)

-- ---- what the searches find

pub placed-from : (P : Project) (s : List Placing) (end : ℕ) → IsFeasible P s → end_of P (entries s) ≤ end → end ≤ 1290000 → IsPlaced P s
placed-from P s end f within few = record {
  whole = f.whole;
  modes = f.modes;
  starts = All-from_In (λ (p : Placing). p.start ≤ 999999999) s (λ p i.
      let e = entry-with 1 s p i in let le = finish-le-end P (entries s) e.0 e.1 in let same = e.2 in omega arith);
}
  where
    entry-with : (i : ℕ) (ps : List Placing) (q : Placing) → In ps q → (e : Entry) × In (entries_from i ps) e × (e.start ≡ q.start)
    entry-with i [] q m = absurd m
    entry-with i (p ∷ ps) q (inl e) = (record { job = i; mode = p.mode; start = p.start }, inl refl, ap (λ (x : Placing). x.start) e)
    entry-with i (p ∷ ps) q (inr m) = let r = entry-with (i + 1) ps q m in (r.0, inr r.1, r.2)

-- the job is done by the limit that its successors set, where it is
pub fits_by-now : (P : Project) → IsAcyclic P → (s : List Placing) (j end until : ℕ) → IsFeasible P s → end_of P (entries s) ≤ end → IsJob P j →
    ((f : ℕ) → f ≤ end → ((i : ℕ) → Before P j i → f ≤ start_in s i) → f ≤ until) → FitsBy P (others s j) until j (mode_in s j) (start_in s j)
fits_by-now P a s j end until f within job greatest =
    let now = stands-now P a s j f job in
    record { by = greatest (start_in s j + duration P j (mode_in s j)) (let le = finish-le P s j f.whole job in omega arith) now.succs; fits = now.fits }

pub fits_from-now : (P : Project) → IsAcyclic P → (s : List Placing) (j from : ℕ) → IsFeasible P s → IsJob P j →
    ((t : ℕ) → ((i : ℕ) → Before P i j → finish_in P s i ≤ t) → from ≤ t) → FitsFrom P (others s j) from j (mode_in s j) (start_in s j)
fits_from-now P a s j from f job least = let now = stands-now P a s j f job in record { after = least (start_in s j) now.preds; fits = now.fits }

pub backward-start : (P : Project) → IsAcyclic P → (s : List Placing) (j end until t : ℕ) → length s ≡ job_count P → until ≤ end → ((i : ℕ) → Before P j i → until ≤ start_in s i) →
    ((f : ℕ) → f ≤ end → ((i : ℕ) → Before P j i → f ≤ start_in s i) → f ≤ until) → IsGreatest (FitsBy P (others s j) until j (mode_in s j)) t → IsNewStart Backward P end s j t
backward-start P a s j end until t whole le succs greatest g =
    let there = g.attained in let by = there.by in record {
      attained = record {
        by_end = omega arith;
        before_succs = succs-from P s j (t + duration P j (mode_in s j)) (λ i b. let x = succs i b in omega arith);
        fits = there.fits;
      };
      greatest = λ u r. g.greatest u (record {
        by = greatest (u + duration P j (mode_in s j)) r.by_end (succs-of P a s j (u + duration P j (mode_in s j)) whole r.before_succs);
        fits = r.fits;
      });
    }

pub forward-start : (P : Project) → IsAcyclic P → (s : List Placing) (j end from t : ℕ) → length s ≡ job_count P → ((i : ℕ) → Before P i j → finish_in P s i ≤ from) →
    ((t : ℕ) → ((i : ℕ) → Before P i j → finish_in P s i ≤ t) → from ≤ t) → IsLeast (FitsFrom P (others s j) from j (mode_in s j)) t → IsNewStart Forward P end s j t
forward-start P a s j end from t whole preds least l =
    let there = l.attained in let after = there.after in record {
      attained = record { after_preds = preds-from P s j t (λ i b. let x = preds i b in omega arith); fits = there.fits };
      least = λ u r. l.least u (record { after = least u (preds-of P a s j u whole r.after_preds); fits = r.fits });
    }

pub placed-self : (P : Project) (s : List Placing) → IsFeasible P s → end_of P (entries s) ≤ 1290000 → IsPlaced P s
placed-self P s f few = placed-from P s (end_of P (entries s)) f (omega arith) few

-- ---- to fit beside the others is to keep the capacities together with them

moved-usage : (P : Project) (s : List Placing) (j t k u : ℕ) → length s ≡ job_count P → IsJob P j → usage P (entries (moved s j t)) k u ≡ usage P (others s j) k u + load P k u (record { job = j; mode = mode_in s j; start = t })
moved-usage P s j t k u whole job =
    let before = usage-total P (entries s) k u in
    let after = usage-total P (entries (other s j t)) k u in
    let change = total-changed (load P k u) j (place s j t) 1 s (entry_in s j) (In-entry P s j whole job) refl in
    let split = usage-split P s j k u whole job in
    let same = ap (λ (r : List Placing). usage P (entries r) k u) (moved-changed s j t job.0) in
    omega arith

pub fits_law : FitsLaw
fits_law P s j t f job = (
  λ fits k u r.
      let e : Entry = record { job = j; mode = mode_in s j; start = t } in
      let sum = moved-usage P s j t k u f.whole job in
      let split = usage-split P s j k u f.whole job in
      let old = capacities-of P s f k u r in
      elim (cases_lt u t) [
        | inl early ↦ let new = load-before P k u e early in omega arith
        | inr started ↦ elim (cases_lt u (t + duration P j (mode_in s j))) [
          | inr late ↦ let new = load-after P k u e late in omega arith
          | inl active ↦ let new = load-active P k u e started active in let fit = fits k u r started active in omega arith
        ]
      ],
  λ keeps k u r begun during.
      let e : Entry = record { job = j; mode = mode_in s j; start = t } in
      let sum = moved-usage P s j t k u f.whole job in
      let new = load-active P k u e begun during in
      let le = keeps k u r in
      omega arith,
)
