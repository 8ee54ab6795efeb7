-- Where each job has an executable mode, the serial scheme places all jobs.
use Rattle.std.proofs.Common.{◌≡◌, ℕ, zero, suc, ◌+◌, ◌-◌, ◌<◌, ◌≤◌, max, ◌⊎◌, inl, inr, arith, sym, ap, subst, List, [], ◌∷◌, ◌++◌, length, false}
use Rattle.std.proofs.lemmas.Bool.{cases_Bool, cases_eq, cases_lt}
use Rattle.rcpsp_model.specs.declared.parts.Entry.{Entry}
use Rattle.rcpsp_model.specs.Project.{Project, job_count, jobs, modes_of, capacity, request, duration, Before, IsJob, IsMode, IsAcyclic}
use Rattle.rcpsp_model.specs.Schedule.{finish, end_of, calm}
use Rattle.rcpsp_model.specs.Chain.{IsTail, IsLeast}
use Rattle.rcpsp_model.specs.Modes.{LacksCapacity, IsExecutable, total_need}
use Rattle.rcpsp_model.specs.Tree.{has_job, IsEligible, InTurn, entry_at}
use Rattle.rcpsp_model.specs.Plan.{ModeRule, IsShortestMode, IsCheapestMode, CanRun, IsUrgent, IsScheduledNext, IsSerialPlan}
use Rattle.rcpsp_model.specs.Laws.{SerialPlanLaw}
use Rattle.rcpsp_model.proofs.Lists.{In-push_new, All-from_In, In-All, total, In-le-total, IsFirst, first_failing}
use Rattle.rcpsp_model.proofs.Numbers.{Decided, le_decided, least_below, least_of, both_decided}
use Rattle.rcpsp_model.proofs.Entries.{has_job-In}
use Rattle.rcpsp_model.proofs.Usage.{finish-le-end, fits_decided, preds_decided}
use Rattle.rcpsp_model.proofs.LeastModes.{numbers-In, numbers-range, total-lt}
use Rattle.rcpsp_model.proofs.Fronts.{fits-past_end}
use Rattle.rcpsp_model.proofs.Sound.{has_job-push_true}
use Rattle.rcpsp_model.proofs.RootAndLeaves.{in_turn-push}
use Rattle.rcpsp_model.proofs.ChildLists.{lack_decided, eligible_decided}
use Rattle.rcpsp_model.proofs.Ranks.{one_unless, untaken_one, untaken_none, untaken_some}
use Rattle.rcpsp_model.proofs.Tails.{has_tail_law}
use Rattle.rcpsp_model.proofs.BoundsHold.{greatest-one}

pub executable_decided : (P : Project) (j m : ℕ) → Decided (IsExecutable P j m)
executable_decided P j m = elim (least_below (LacksCapacity P j m) (lack_decided P j m) (length P.capacities + 1)) [
  | inl lack ↦ inr (λ can. let l = lack.2.attained in let enough = can l.takes_time lack.0 l.renewable in let more = l.lacks in omega arith)
  | inr none ↦ inl (λ takes_time k r. elim (cases_lt (capacity P k) (request P j m k)) [
    | inl lacks ↦ absurd (none k (let high = r.1 in omega arith) (record { renewable = r; takes_time = takes_time; lacks = lacks }))
    | inr enough ↦ enough
  ])
]

-- The best number: of those with a property the one with the least value, the lowest on a tie.

abbrev IsBetter : (ℕ → ℕ) → ℕ → ℕ → Type 0
IsBetter f m k = (f m < f k) ⊎ ((f m ≡ f k) × (m ≤ k))

abbrev IsBest : (ℕ → Type 0) → (ℕ → ℕ) → ℕ → ℕ → Type 0
IsBest Q f n m = (m < n) × Q m × ((k : ℕ) → k < n → Q k → IsBetter f m k)

best_below : (Q : ℕ → Type 0) → ((i : ℕ) → Decided (Q i)) → (f : ℕ → ℕ) (n : ℕ) → ((m : ℕ) → m < n → Q m → ⊥) ⊎ ((m : ℕ) × IsBest Q f n m)
best_below Q dec f zero = inl (λ m low q. absurd (omega arith))
best_below Q dec f (suc n) = elim (dec n) [
  | inr no_ ↦ elim (best_below Q dec f n) [
    | inl none ↦ inl (λ m low q. elim (cases_eq m n) [ inl e ↦ no_ (subst Q e q) | inr ne ↦ none m (omega arith) q ])
    | inr best ↦ inr (best.0, (let low = best.1.0 in omega arith, best.1.1, λ k low q. elim (cases_eq k n) [ inl e ↦ absurd (no_ (subst Q e q)) | inr ne ↦ best.1.2 k (omega arith) q ]))
  ]
  | inl here ↦ elim (best_below Q dec f n) [
    | inl none ↦ inr (n, (omega arith, here, λ k low q. elim (cases_eq k n) [ inl e ↦ inr (ap f (sym e), omega arith) | inr ne ↦ absurd (none k (omega arith) q) ]))
    | inr best ↦ elim (cases_lt (f n) (f best.0)) [
      | inl less ↦ inr (n, (omega arith, here, λ k low q. elim (cases_eq k n) [ inl e ↦ inr (ap f (sym e), omega arith) | inr ne ↦ worse (f n) best.0 k less (best.1.2 k (omega arith) q) ]))
      | inr more ↦ inr (best.0, (let low = best.1.0 in omega arith, best.1.1, λ k low q. elim (cases_eq k n) [ inl e ↦ not_better best.0 k (best.1.0) e more | inr ne ↦ best.1.2 k (omega arith) q ]))
    ]
  ]
]
  where
    worse : (a m k : ℕ) → a < f m → IsBetter f m k → (a < f k) ⊎ ((a ≡ f k) × (n ≤ k))
    worse a m k less (inl h) = inl (omega arith)
    worse a m k less (inr h) = let e = h.0 in inl (omega arith)

    not_better : (m k : ℕ) → m < n → k ≡ n → f m ≤ f n → IsBetter f m k
    not_better m k low e le = let same = ap f e in elim (cases_lt (f m) (f k)) [ inl h ↦ inl h | inr h ↦ inr (omega arith, omega arith) ]

-- The modes of the rules.

abbrev Runs : Project → ℕ → ℕ → Type 0
Runs P j m = IsMode P j m × IsExecutable P j m

runs_decided : (P : Project) (j m : ℕ) → Decided (Runs P j m)
runs_decided P j m = both_decided (both_decided (le_decided 1 m) (le_decided m (length (modes_of P j)))) (executable_decided P j m)

best_mode : (P : Project) (j m : ℕ) (f : ℕ → ℕ) → Runs P j m → (b : ℕ) × IsBest (Runs P j) f (length (modes_of P j) + 1) b
best_mode P j m f runs = elim (best_below (Runs P j) (runs_decided P j) f (length (modes_of P j) + 1)) [
  | inl none ↦ absurd (none m (let high = runs.0.1 in omega arith) runs)
  | inr best ↦ best
]

shortest : (P : Project) (j m : ℕ) → Runs P j m → (b : ℕ) × IsShortestMode P j b
shortest P j m runs =
    let best = best_mode P j m (duration P j) runs in
    let own = best.1.1 in
    (best.0, record { mode = own.0; executable = own.1; shortest = λ n mode can. best.1.2 n (let high = mode.1 in omega arith) (mode, can) })

cheapest : (P : Project) (j m : ℕ) → Runs P j m → (b : ℕ) × IsCheapestMode P j b
cheapest P j m runs =
    let best = best_mode P j m (total_need P j) runs in
    let own = best.1.1 in
    (best.0, record { mode = own.0; executable = own.1; cheapest = λ n mode can. best.1.2 n (let high = mode.1 in omega arith) (mode, can) })

-- The most urgent job.

-- of the jobs that aren't placed, the one of the lowest number among those that rise along the pairs is eligible
first-eligible : (P : Project) (a : IsAcyclic P) (F : List Entry) (x : ℕ) → IsFirst (has_job F) a.rank (λ _. 0) (jobs P) x → IsEligible P F x
first-eligible P a F x first = record {
  job = let range = numbers-range 1 (job_count P) x first.member in (range.0, let high = range.1 in omega arith);
  unplaced = first.fails;
  preds = λ i b. elim (cases_Bool (has_job F i)) [
    | inl y ↦ y
    | inr n ↦
        let job = (a.jobs i x b).0 in
        let up = a.rises i x b in
        elim (first.first i (numbers-In 1 (job_count P) i job.0 (let high = job.1 in omega arith)) n) [ inl less ↦ absurd (omega arith) | inr same ↦ let e = same.0 in absurd (omega arith) ]
  ];
}

-- a number that is the tail of a job
tail_at : (P : Project) → IsAcyclic P → (j : ℕ) → (t : ℕ) × (IsJob P j → IsTail P j t)
tail_at P a j = elim (both_decided (le_decided 1 j) (le_decided j (job_count P))) [
  | inl job ↦ let tail = has_tail_law P j a job in (tail.0, λ _. tail.1)
  | inr no_ ↦ (0, λ job. absurd (no_ job))
]

abbrev tail_of : (P : Project) → IsAcyclic P → ℕ → ℕ
tail_of P a j = (tail_at P a j).0

-- the greater the tail, the less this is
abbrev slack : (P : Project) → IsAcyclic P → ℕ → ℕ
slack P a j = total (tail_of P a) (jobs P) - tail_of P a j

tail-le : (P : Project) (a : IsAcyclic P) (j : ℕ) → IsJob P j → tail_of P a j ≤ total (tail_of P a) (jobs P)
tail-le P a j job = In-le-total (tail_of P a) (jobs P) j (numbers-In 1 (job_count P) j job.0 (let high = job.1 in omega arith))

urgent : (P : Project) → IsAcyclic P → (F : List Entry) (j : ℕ) → IsEligible P F j → (i : ℕ) × IsUrgent P F i
urgent P a F j el = elim (best_below (IsEligible P F) (eligible_decided P F) (slack P a) (job_count P + 1)) [
  | inl none ↦ absurd (none j (let high = el.job.1 in omega arith) el)
  | inr best ↦ (best.0, record { eligible = best.1.1; first = λ i t u el_i is_t is_u. compare best.0 best.1.1 i t u el_i is_t is_u (best.1.2 i (let high = el_i.job.1 in omega arith) el_i) })
]
  where
    compare : (b : ℕ) → IsEligible P F b → (i t u : ℕ) → IsEligible P F i → IsTail P i t → IsTail P b u → IsBetter (slack P a) b i → (t < u) ⊎ ((t ≡ u) × (b ≤ i))
    compare b el_b i t u el_i is_t is_u better =
        let of_i = greatest-one _ t (tail_of P a i) is_t ((tail_at P a i).1 el_i.job) in
        let of_b = greatest-one _ u (tail_of P a b) is_u ((tail_at P a b).1 el_b.job) in
        let most_i = tail-le P a i el_i.job in
        let most_b = tail-le P a b el_b.job in
        elim better [ inl less ↦ inl (omega arith) | inr same ↦ let e = same.0 in inr (omega arith, same.1) ]

-- Its start.

can_run_decided : (P : Project) (F : List Entry) (j m t : ℕ) → Decided (CanRun P F j m t)
can_run_decided P F j m t =
    elim (both_decided (preds_decided P F j t) (fits_decided P F j m t)) [
      | inl h ↦ inl (record { after_preds = All-from_In (λ (x : Entry). Before P x.job j → finish P x ≤ t) F h.0; fits = h.1 })
      | inr fails ↦ inr (λ c. fails (In-All (λ (x : Entry). Before P x.job j → finish P x ≤ t) F c.after_preds, c.fits))
    ]

first_start : (P : Project) (F : List Entry) (j m : ℕ) → IsExecutable P j m → (t : ℕ) × IsLeast (CanRun P F j m) t
first_start P F j m can = least_of (CanRun P F j m) (can_run_decided P F j m) (max (end_of P F) (calm P)) (record {
  after_preds = All-from_In (λ (x : Entry). Before P x.job j → finish P x ≤ max (end_of P F) (calm P)) F (λ x i b. let done = finish-le-end P F x i in omega arith);
  fits = fits-past_end P F j m (max (end_of P F) (calm P)) can (omega arith) (omega arith);
})

-- All jobs, one after another.

abbrev left : Project → List Entry → ℕ
left P F = total (λ j. one_unless (has_job F j)) (jobs P)

left-push : (P : Project) (F : List Entry) (e : Entry) → IsJob P e.job → has_job F e.job ≡ false → left P (F ++ e ∷ []) < left P F
left-push P F e job free =
    total-lt (λ j. one_unless (has_job (F ++ e ∷ []) j)) (λ j. one_unless (has_job F j)) (jobs P) e.job (λ j m. fewer j) (numbers-In 1 (job_count P) e.job job.0 (let high = job.1 in omega arith)) here
  where
    fewer : (j : ℕ) → one_unless (has_job (F ++ e ∷ []) j) ≤ one_unless (has_job F j)
    fewer j = elim (cases_Bool (has_job F j)) [
      | inl y ↦ let new = untaken_none (has_job (F ++ e ∷ []) j) (has_job-push_true F e j y) in omega arith
      | inr n ↦ let old = untaken_some (has_job F j) n in let most = untaken_one (has_job (F ++ e ∷ []) j) in omega arith
    ]

    here : one_unless (has_job (F ++ e ∷ []) e.job) < one_unless (has_job F e.job)
    here =
        let new = untaken_none (has_job (F ++ e ∷ []) e.job) (has_job-In (F ++ e ∷ []) e (In-push_new F e)) in
        let old = untaken_some (has_job F e.job) free in
        omega arith

-- a mode by the rule for each job, which can run
abbrev Modes : Project → ModeRule → Type 0
Modes P Rule = (j : ℕ) → IsJob P j → (m : ℕ) × IsMode P j m × IsExecutable P j m × Rule P j m

scheduled_next : (P : Project) → IsAcyclic P → (Rule : ModeRule) → Modes P Rule → (F : List Entry) (j : ℕ) → IsEligible P F j → (e : Entry) × IsScheduledNext P Rule F e
scheduled_next P a Rule modes F j el =
    let first = urgent P a F j el in
    let mode = modes first.0 first.1.eligible.job in
    let start = first_start P F first.0 mode.0 mode.2 in
    (entry_at first.0 mode.0 start.0, record { urgent = first.1; mode = mode.1; rule = mode.3; start = start.1 })

serial_from : (P : Project) → IsAcyclic P → (Rule : ModeRule) → Modes P Rule → (most : ℕ) (F : List Entry) → InTurn (IsScheduledNext P Rule) [] F → left P F < most → (b : List Entry) × IsSerialPlan P Rule b
serial_from P a Rule modes zero F t few = absurd (omega arith)
serial_from P a Rule modes (suc most) F t few = elim (first_failing (has_job F) a.rank (λ _. 0) (jobs P)) [
  | inl all ↦ (F, record { in_turn = t; whole = λ j job. all j (numbers-In 1 (job_count P) j job.0 (let high = job.1 in omega arith)) })
  | inr found ↦
      let next = scheduled_next P a Rule modes F found.0 (first-eligible P a F found.0 found.1) in
      let el = next.1.urgent.eligible in
      let fewer = left-push P F next.0 el.job el.unplaced in
      serial_from P a Rule modes most (F ++ next.0 ∷ []) (in_turn-push (IsScheduledNext P Rule) [] F next.0 t next.1) (omega arith)
]

pub serial_plan_law : SerialPlanLaw
serial_plan_law P a modes = (
  serial_from P a IsShortestMode (λ j job. let m = modes j job in let best = shortest P j m.0 (m.1, m.2) in (best.0, best.1.mode, best.1.executable, best.1)) (left P [] + 1) [] tt (omega arith),
  serial_from P a IsCheapestMode (λ j job. let m = modes j job in let best = cheapest P j m.0 (m.1, m.2) in (best.0, best.1.mode, best.1.executable, best.1)) (left P [] + 1) [] tt (omega arith),
)
