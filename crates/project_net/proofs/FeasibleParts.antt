-- A schedule is feasible where its jobs keep their order and the budgets, and the usage fits where jobs start and
-- stretches begin.
use Rattle.std.proofs.Common.{◌≡◌, ℕ, zero, suc, ◌+◌, ◌-◌, ◌<◌, ◌≤◌, ◌⊎◌, inl, inr, arith, refl, ap, subst, ◌∙◌, List, [], ◌∷◌, length, get_or, drop}
use Rattle.std.proofs.lemmas.Bool.{cases_lt, cases_eq}
use Rattle.std.proofs.lemmas.List.{drop_more, drop_all}
use Rattle.rcpsp_model.specs.declared.parts.Entry.{Entry}
use Rattle.rcpsp_model.specs.declared.parts.Placing.{Placing}
use Rattle.rcpsp_model.specs.Project.{Project, IsJob, IsWithinLimits, job_count, request, need}
use Rattle.rcpsp_model.specs.Schedule.{IsFeasible, KeepsBudgets, KeepsCapacities, cap, end_of, entries, entries_from, finish, usage, used}
use Rattle.rcpsp_model.proofs.Lists.{In, In-from_Contains, Contains-from_In, total, sum_by-total}
use Rattle.rcpsp_model.proofs.Entries.{job-from, job-below}
use Rattle.rcpsp_model.proofs.Usage.{load, usage-total, load-active, load-before, load-after, usage-past_end}
use Rattle.project_net.specs.declared.stretches.Stretch.{Stretch}
use Rattle.project_net.specs.Stretches.{begin_of, AreStretches}
use Rattle.project_net.specs.Feasible.{IsPlaced, placing_in, entry_in, EndsBeforeSuccessors, FitsAtStart, FitsAtBegin, KeepsCapacity}
use Rattle.project_net.proofs.Pairs.{pairs}
use Rattle.project_net.proofs.PlaceSteps.{entry-in}

-- ---- the entries of a schedule, by their jobs

abbrev placing_at : List Placing → ℕ → Placing
placing_at s i = get_or s i (record { mode = 0; start = 0 })

abbrev entry_with : ℕ → Placing → Entry
entry_with j p = record { job = j; mode = p.mode; start = p.start }

-- an entry of a list that begins with job i
entry-from : (i : ℕ) (s : List Placing) (e : Entry) → In (entries_from i s) e → entry_with e.job (placing_at s (e.job - i)) ≡ e
entry-from i [] e m = absurd m
entry-from i (p ∷ ps) e (inl q) =
    subst (λ (x : Entry). entry_with x.job (placing_at (p ∷ ps) (x.job - i)) ≡ x) q
    (ap (λ (n : ℕ). entry_with i (placing_at (p ∷ ps) n)) (let z : i - i ≡ 0 = omega arith in z))
entry-from i (p ∷ ps) e (inr m) =
    let low = job-from (i + 1) ps e m in
    ap (λ (n : ℕ). entry_with e.job (placing_at (p ∷ ps) n)) (let z : e.job - i ≡ suc (e.job - (i + 1)) = omega arith in z) ∙ entry-from (i + 1) ps e m

-- the entry of its job
pub entry-same : (s : List Placing) (e : Entry) → In (entries s) e → entry_in s e.job ≡ e
entry-same s e m = entry-from 1 s e m

pub entry-job : (P : Project) (s : List Placing) (e : Entry) → length s ≡ job_count P → In (entries s) e → IsJob P e.job
entry-job P s e whole m = let low = job-from 1 s e m in let high = job-below 1 s e m in (low, omega arith)

-- each job has its entry
pub In-entry : (P : Project) (s : List Placing) (j : ℕ) → length s ≡ job_count P → IsJob P j → In (entries s) (entry_in s j)
In-entry P s j whole job = let low = job.0 in let high = job.1 in entry-in 1 s (j - 1) j (placing_in s j) (omega arith) (omega arith) refl

-- the entries from a job on
pub entries-next : (s : List Placing) (i : ℕ) → i < length s → entries_from (i + 1) (drop i s) ≡ entry_in s (i + 1) ∷ entries_from (i + 1 + 1) (drop (i + 1) s)
entries-next s i h =
    ap (entries_from (i + 1)) (drop_more s i (record { mode = 0; start = 0 }) h)
    ∙ ap (λ (n : ℕ). entry_with (i + 1) (placing_at s n) ∷ entries_from (i + 1 + 1) (drop (i + 1) s)) (let z : i ≡ i + 1 - 1 = omega arith in z)

-- one entry more of a sum, and none more
pub sum-more : (f : Entry → ℕ) (s : List Placing) (i n x sum : ℕ) → i < length s → x ≡ f (entry_in s (i + 1)) → n + total f (entries_from (i + 1) (drop i s)) ≡ sum →
    n + x + total f (entries_from (i + 1 + 1) (drop (i + 1) s)) ≡ sum
sum-more f s i n x sum h is old = let next = ap (total f) (entries-next s i h) in omega arith

pub sum-all : (f : Entry → ℕ) (s : List Placing) (i n sum : ℕ) → length s ≤ i → n + total f (entries_from (i + 1) (drop i s)) ≡ sum → n ≡ sum
sum-all f s i n sum h old = let none = ap (λ (l : List Placing). total f (entries_from (i + 1) l)) (drop_all i s h) in omega arith

-- what one entry needs of a nonrenewable resource
abbrev pub need_of : Project → ℕ → Entry → ℕ
need_of P l e = need P e.job e.mode l

pub used-total : (P : Project) (es : List Entry) (l : ℕ) → used P es l ≡ total (need_of P l) es
used-total P es l = sum_by-total (need_of P l) es

-- what one entry takes of a resource in a period
pub usage-one : (P : Project) (e : Entry) (k t : ℕ) → usage P (e ∷ []) k t ≡ load P k t e
usage-one P e k t = usage-total P (e ∷ []) k t ∙ (let z : load P k t e + 0 ≡ load P k t e = omega arith in z)

-- ---- usage from period to period

-- an entry takes no more than in the period before, or it starts and takes something
load-step : (P : Project) (k t : ℕ) (e : Entry) → (load P k (suc t) e ≤ load P k t e) ⊎ ((e.start ≡ suc t) × (0 < request P e.job e.mode k))
load-step P k t e = elim (cases_lt (suc t) (finish P e)) [
  | inl during ↦ elim (cases_lt t e.start) [
    | inl before ↦ elim (cases_eq e.start (suc t)) [
      | inl now ↦ elim (cases_lt 0 (request P e.job e.mode k)) [
        | inl some ↦ inr (now, some)
        | inr none ↦ inl (let a = load-active P k (suc t) e (omega arith) during in omega arith)
      ]
      | inr later ↦ inl (let a = load-before P k (suc t) e (omega arith) in omega arith)
    ]
    | inr begun ↦ inl (let a = load-active P k (suc t) e (omega arith) during in let b = load-active P k t e begun (omega arith) in omega arith)
  ]
  | inr over ↦ inl (let a = load-after P k (suc t) e over in omega arith)
]

-- all entries take no more than in the period before, or one starts and takes something
usage-step : (P : Project) (k t : ℕ) (es : List Entry) → (total (load P k (suc t)) es ≤ total (load P k t) es) ⊎ ((e : Entry) × In es e × (e.start ≡ suc t) × (0 < request P e.job e.mode k))
usage-step P k t [] = inl (omega arith)
usage-step P k t (e ∷ es) = elim (load-step P k t e) [
  | inr starts ↦ inr (e, inl refl, starts.0, starts.1)
  | inl less ↦ elim (usage-step P k t es) [
    | inl rest ↦ inl (omega arith)
    | inr found ↦ inr (found.0, inr found.1, found.2, found.3)
  ]
]

-- the stretch that has the period, in which the usage fits
record FitsIn (P : Project) (s : List Placing) (k : ℕ) (stretches : List Stretch) (t : ℕ) : Type 0 where
  place : ℕ
  within : place < length stretches
  begun : begin_of stretches place ≤ t
  ahead : place + 1 < length stretches → t < begin_of stretches (place + 1)
  fits : usage P (entries s) k t ≤ cap P k t

-- where the usage fits at each start and each begin of a stretch, it fits in each period
fits-in : (P : Project) (s : List Placing) (k : ℕ) (S : List Stretch) → length s ≡ job_count P → AreStretches P k S →
    ((i : ℕ) → i < length S → FitsAtBegin P s k S i) → ((j : ℕ) → IsJob P j → FitsAtStart P s k j) → (t : ℕ) → FitsIn P s k S t
fits-in P s k S whole a begins starts zero =
    let first = a.first in
    let some = a.some in
    record {
      place = 0;
      within = omega arith;
      begun = omega arith;
      ahead = λ more. let r = a.rising 0 1 (omega arith) (omega arith) in omega arith;
      fits =
          let fits = begins 0 (omega arith) in
          let is = a.each 0 0 (omega arith) (omega arith) (λ more. let r = a.rising 0 1 (omega arith) (omega arith) in omega arith) in
          let same = ap (usage P (entries s) k) first in
          omega arith;
    }
fits-in P s k S whole a begins starts (suc t) =
    let before = fits-in P s k S whole a begins starts t in
    elim (next before.place before.within before.begun before.ahead) [
      | inl reached ↦ at-begin (before.place + 1) reached.0 reached.1
      | inr stays ↦ after before.place before.within before.begun before.ahead stays before.fits
    ]
  where
    next : (i : ℕ) → i < length S → begin_of S i ≤ t → (i + 1 < length S → t < begin_of S (i + 1)) → ((i + 1 < length S) × (begin_of S (i + 1) ≡ suc t)) ⊎ (i + 1 < length S → suc t < begin_of S (i + 1))
    next i within begun ahead = elim (cases_lt (i + 1) (length S)) [
      | inl more ↦ let low = ahead more in elim (cases_lt (suc t) (begin_of S (i + 1))) [ inl h ↦ inr (λ _. h) | inr h ↦ inl (more, omega arith) ]
      | inr last ↦ inr (λ more. absurd (omega arith))
    ]

    at-begin : (i : ℕ) → i < length S → begin_of S i ≡ suc t → FitsIn P s k S (suc t)
    at-begin i within is =
        let ahead : i + 1 < length S → suc t < begin_of S (i + 1) = λ more. let r = a.rising i (i + 1) (omega arith) more in omega arith in record {
          place = i;
          within = within;
          begun = omega arith;
          ahead = ahead;
          fits = let fits = begins i within in let all = a.each i (suc t) within (omega arith) ahead in let same = ap (usage P (entries s) k) is in omega arith;
        }

    started : (e : Entry) → In (entries s) e → e.start ≡ suc t → 0 < request P e.job e.mode k → usage P (entries s) k (suc t) ≤ cap P k (suc t)
    started e m now some =
        let fits : (request P e.job e.mode k ≡ 0) ⊎ (usage P (entries s) k e.start ≤ cap P k e.start) =
        subst (λ (x : Entry). (request P e.job x.mode k ≡ 0) ⊎ (usage P (entries s) k x.start ≤ cap P k x.start)) (entry-same s e m) (starts e.job (entry-job P s e whole m)) in
        elim fits [
          | inl none ↦ absurd (omega arith)
          | inr le ↦ subst (λ (u : ℕ). usage P (entries s) k u ≤ cap P k u) now le
        ]

    after : (i : ℕ) → i < length S → begin_of S i ≤ t → (i + 1 < length S → t < begin_of S (i + 1)) → (i + 1 < length S → suc t < begin_of S (i + 1)) → usage P (entries s) k t ≤ cap P k t → FitsIn P s k S (suc t)
    after i within begun ahead stays fits =
        let old = a.each i t within begun ahead in let new = a.each i (suc t) within (omega arith) stays in
        let now = usage-total P (entries s) k (suc t) in let then = usage-total P (entries s) k t in record {
          place = i;
          within = within;
          begun = omega arith;
          ahead = stays;
          fits = elim (usage-step P k t (entries s)) [
            | inl less ↦ omega arith
            | inr found ↦ started found.0 found.1 found.2 found.3
          ];
        }

pub keeps-capacity : (P : Project) (s : List Placing) (k : ℕ) (S : List Stretch) → length s ≡ job_count P → AreStretches P k S →
    ((i : ℕ) → i < length S → FitsAtBegin P s k S i) → ((j : ℕ) → IsJob P j → FitsAtStart P s k j) → KeepsCapacity P (entries s) k
keeps-capacity P s k S whole a begins starts t = (fits-in P s k S whole a begins starts t).fits

-- what there is where a stretch begins
pub begins-fit : (P : Project) (s : List Placing) (k : ℕ) (S : List Stretch) → AreStretches P k S → KeepsCapacity P (entries s) k → (i : ℕ) → i < length S → FitsAtBegin P s k S i
begins-fit P s k S a keeps i within =
    let fits = keeps (begin_of S i) in
    let is = a.each i (begin_of S i) within (omega arith) (λ more. a.rising i (i + 1) (omega arith) more) in
    omega arith

pub starts-fit : (P : Project) (s : List Placing) (k : ℕ) → KeepsCapacity P (entries s) k → (j : ℕ) → IsJob P j → FitsAtStart P s k j
starts-fit P s k keeps j job = inr (keeps (entry_in s j).start)

-- ---- the whole

pub feasible-from : (P : Project) (s : List Placing) → IsPlaced P s → ((i : ℕ) → IsJob P i → EndsBeforeSuccessors P s i) → KeepsBudgets P (entries s) → KeepsCapacities P (entries s) → IsFeasible P s
feasible-from P s placed order budgets capacities = record {
  whole = placed.whole;
  modes = placed.modes;
  precedence = λ a b ca cb before.
      let ia = In-from_Contains (entries s) a ca in
      let ib = In-from_Contains (entries s) b cb in
      subst (λ (x : Entry). finish P x ≤ b.start) (entry-same s a ia)
      (subst (λ (x : Entry). finish P (entry_in s a.job) ≤ x.start) (entry-same s b ib) (order a.job (entry-job P s a placed.whole ia) b.job before));
  capacity = λ k t r h. capacities k t r;
  budgets = budgets;
}

pub order-of : (P : Project) (s : List Placing) → IsWithinLimits P → IsFeasible P s → (i : ℕ) → IsJob P i → EndsBeforeSuccessors P s i
order-of P s w f i job j before =
    let next = (pairs P w i j before).1 in
    f.precedence (entry_in s i) (entry_in s j) (Contains-from_In (entries s) _ (In-entry P s i f.whole job)) (Contains-from_In (entries s) _ (In-entry P s j f.whole next)) before

pub capacities-of : (P : Project) (s : List Placing) → IsFeasible P s → KeepsCapacities P (entries s)
capacities-of P s f k t r = elim (cases_lt t (end_of P (entries s))) [
  | inl during ↦ f.capacity k t r during
  | inr past ↦ let none = usage-past_end P (entries s) k t past in omega arith
]
