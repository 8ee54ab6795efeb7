-- Each pass from a feasible schedule makes one, and so there is one to which it is improved.
use Rattle.std.proofs.Common.{◌≡◌, ℕ, zero, suc, ◌+◌, ◌<◌, ◌≤◌, ◌⊎◌, inl, inr, arith, refl, sym, subst, List, [], ◌∷◌, ◌++◌, append_assoc, Bool, true, false}
use Rattle.std.specs.Prelude.{Option, Some, None}
use Rattle.std.proofs.lemmas.Bool.{cases_Bool, cases_lt, cases_eq, cases_order}
use Rattle.std.proofs.lemmas.List.{append-nil}
use Rattle.rcpsp_model.specs.declared.parts.Entry.{Entry}
use Rattle.rcpsp_model.specs.declared.parts.Placing.{Placing}
use Rattle.rcpsp_model.specs.Project.{Project, IsJob, IsAcyclic, Before, is_before, duration, job_count}
use Rattle.rcpsp_model.specs.Schedule.{IsFeasible, end_of, entries, finish}
use Rattle.rcpsp_model.specs.Chain.{IsGreatest}
use Rattle.rcpsp_model.specs.Tree.{InTurn}
use Rattle.rcpsp_model.specs.Plan.{CanRun}
use Rattle.rcpsp_model.specs.Rank.{is_among}
use Rattle.rcpsp_model.proofs.Lists.{In, In-All, All-from_In}
use Rattle.rcpsp_model.proofs.Numbers.{Decided, le_decided, both_decided, implies_decided, true_decided, least_of}
use Rattle.rcpsp_model.proofs.Usage.{fits_decided, preds_decided}
use Rattle.rcpsp_model.proofs.Ranks.{rank_law}
use Rattle.justify_plans.specs.declared.direction.Direction.{Direction}
use Rattle.justify_plans.specs.declared.direction.Direction.TheVariants.{Backward, Forward}
use Rattle.justify_plans.specs.Placings.{mode_in, start_in, finish_in, others, moved}
use Rattle.justify_plans.specs.Order.{HasNoGreaterRank, ComesFirst, IsNext, IsOrder}
use Rattle.justify_plans.specs.Passes.{CanRunBy, IsNewStart, Moves, MovesAll, IsPass}
use Rattle.justify_plans.specs.Improved.{IsDoublePass, IsImproved, at_last, goes_on}
use Rattle.justify_plans.specs.Laws.{PassLaw, ImprovedLaw}
use Rattle.justify_plans.proofs.Ordered.{no_greater-from, comes-self, FirstBelow, below-skip, below-more, below-some, below-none}
use Rattle.justify_plans.proofs.Moved.{runs-by-now, runs-now, moves-kept}
use Rattle.justify_plans.proofs.PassSteps.{left, left-less, among-push, pass-kept, double-kept}
use Rattle.justify_plans.proofs.OneOrder.{pass-one, improved-one}

-- ---- while a job wasn't moved, one comes next

comes-total : (way : Direction) (P : Project) → IsAcyclic P → (s : List Placing) (i j : ℕ) → IsJob P i → IsJob P j → ComesFirst way P s i j ⊎ ComesFirst way P s j i
comes-total way P a s i j ji jj =
    let x = rank_law P i a ji in let y = rank_law P j a jj in
    by_way way (elim (cases_lt y.rank x.rank) [
      | inl less ↦ inr (no_greater-from P a j i y.rank x.rank jj ji y.is x.is (omega arith))
      | inr more ↦ inl (no_greater-from P a i j x.rank y.rank ji jj x.is y.is more)
    ])
  where
    by_way : (way : Direction) → HasNoGreaterRank P i j ⊎ HasNoGreaterRank P j i → ComesFirst way P s i j ⊎ ComesFirst way P s j i
    by_way Backward ranks = elim (cases_order (finish_in P s i) (finish_in P s j)) [
      | inl e ↦ elim ranks [ inl r ↦ inr (inr (sym e, r)) | inr r ↦ inl (inr (e, r)) ]
      | inr o ↦ elim o [ inl h ↦ inr (inl h) | inr h ↦ inl (inl h) ]
    ]
    by_way Forward ranks = elim (cases_order (start_in s i) (start_in s j)) [
      | inl e ↦ elim ranks [ inl r ↦ inl (inr (e, r)) | inr r ↦ inr (inr (sym e, r)) ]
      | inr o ↦ elim o [ inl h ↦ inl (inl h) | inr h ↦ inr (inl h) ]
    ]

abbrev Best : Direction → Project → List Placing → (ℕ → Bool) → ℕ → Type 0
Best way P s done n = (best : Option ℕ) × FirstBelow way P s done n best

-- one number more
best-job : (way : Direction) (P : Project) → IsAcyclic P → (s : List Placing) (done : ℕ → Bool) (n : ℕ) → IsJob P n → (best : Option ℕ) → FirstBelow way P s done n best → Best way P s done (n + 1)
best-job way P a s done n job best u = elim (cases_Bool (done n)) [
  | inl moved ↦ (best, below-skip way P s done n best moved u)
  | inr free ↦ more best u free
]
  where
    more : (best : Option ℕ) → FirstBelow way P s done n best → done n ≡ false → Best way P s done (n + 1)
    more None u free = (Some n, below-more way P a s done n None n job free (inl refl) (comes-self way P a s n job) (λ x e. absurd (let z : None ≡ Some x = e in cc)) u)
    more (Some b) u free = elim (comes-total way P a s b n u.1 job) [
      | inl first ↦ (Some b, below-more way P a s done n (Some b) b job free (inr refl) first (λ x e. subst (ComesFirst way P s b) (let z : b ≡ x = cc in z) (comes-self way P a s b u.1)) u)
      | inr later ↦ (Some n, below-more way P a s done n (Some b) n job free (inl refl) (comes-self way P a s n job) (λ x e. subst (ComesFirst way P s n) (let z : b ≡ x = cc in z) later) u)
    ]

best-below : (way : Direction) (P : Project) → IsAcyclic P → (s : List Placing) (done : ℕ → Bool) (n : ℕ) → n ≤ job_count P → Best way P s done (n + 1)
best-below way P a s done zero h = (None, λ i job low. absurd (let one = job.0 in omega arith))
best-below way P a s done (suc n) h =
    let before = best-below way P a s done n (omega arith) in
    let job : IsJob P (n + 1) = (omega arith, omega arith) in
    subst (Best way P s done) (let z : n + 1 + 1 ≡ suc n + 1 = omega arith in z) (best-job way P a s done (n + 1) job before.0 before.1)

next-or_all : (way : Direction) (P : Project) → IsAcyclic P → (s : List Placing) (done : ℕ → Bool) → ((j : ℕ) × IsNext way P s done j) ⊎ ((j : ℕ) → IsJob P j → done j ≡ true)
next-or_all way P a s done = let best = best-below way P a s done (job_count P) (omega arith) in pick best.0 best.1
  where
    pick : (best : Option ℕ) → FirstBelow way P s done (job_count P + 1) best → ((j : ℕ) × IsNext way P s done j) ⊎ ((j : ℕ) → IsJob P j → done j ≡ true)
    pick None u = inr (below-none way P s done (job_count P + 1) None (omega arith) u)
    pick (Some j) u = inl (j, below-some way P s done (job_count P + 1) (Some j) (omega arith) u)

-- the jobs that are left, in their order
abbrev Rest : Direction → Project → List Placing → List ℕ → Type 0
Rest way P s before = (js : List ℕ) × InTurn (λ earlier. IsNext way P s (is_among earlier)) before js × ((j : ℕ) → IsJob P j → is_among (before ++ js) j ≡ true)

rest-of : (way : Direction) (P : Project) → IsAcyclic P → (s : List Placing) (most : ℕ) (before : List ℕ) → left P (is_among before) < most → Rest way P s before
rest-of way P a s zero before few = absurd (omega arith)
rest-of way P a s (suc most) before few = elim (next-or_all way P a s (is_among before)) [
  | inr all ↦ ([], tt, λ j job. subst (λ (js : List ℕ). is_among js j ≡ true) (sym (append-nil before)) (all j job))
  | inl next ↦
      let less = left-less P (is_among before) (is_among (before ++ next.0 ∷ [])) next.0 next.1.job next.1.unmoved (λ i low. among-push before next.0 i) in
      let rest = rest-of way P a s most (before ++ next.0 ∷ []) (omega arith) in
      (next.0 ∷ rest.0, (next.1, rest.1), λ j job. subst (λ (js : List ℕ). is_among js j ≡ true) (append_assoc before (next.0 ∷ []) rest.0) (rest.2 j job))
]

order-of : (way : Direction) (P : Project) → IsAcyclic P → (s : List Placing) → (js : List ℕ) × IsOrder way P s js
order-of way P a s = let rest = rest-of way P a s (left P (is_among []) + 1) [] (omega arith) in (rest.0, record { in_turn = rest.1; whole = rest.2 })

-- ---- each job has a new start

greatest-below : (Q : ℕ → Type 0) → ((i : ℕ) → Decided (Q i)) → (n : ℕ) → ((t : ℕ) × Q t × ((u : ℕ) → u < n → Q u → u ≤ t)) ⊎ ((u : ℕ) → u < n → Q u → ⊥)
greatest-below Q dec zero = inr (λ u (h : u < zero) q. omega arith)
greatest-below Q dec (suc n) = elim (dec n) [
  | inl here ↦ inl (n, here, λ u (h : u < suc n) q. omega arith)
  | inr no_here ↦ elim (greatest-below Q dec n) [
    | inl found ↦ inl (found.0, found.1, λ u (h : u < suc n) q. elim (cases_eq u n) [ inl e ↦ absurd (no_here (subst Q e q)) | inr ne ↦ found.2 u (omega arith) q ])
    | inr none ↦ inr (λ u (h : u < suc n) q. elim (cases_eq u n) [ inl e ↦ no_here (subst Q e q) | inr ne ↦ none u (omega arith) q ])
  ]
]

greatest-of : (Q : ℕ → Type 0) → ((i : ℕ) → Decided (Q i)) → (end : ℕ) → ((u : ℕ) → Q u → u ≤ end) → (now : ℕ) → Q now → (t : ℕ) × IsGreatest Q t
greatest-of Q dec end limit now here = elim (greatest-below Q dec (end + 1)) [
  | inl found ↦ (found.0, record { attained = found.1; greatest = λ u q. found.2 u (let le = limit u q in omega arith) q })
  | inr none ↦ absurd (none now (let le = limit now here in omega arith) here)
]

succs_decided : (P : Project) (es : List Entry) (j f : ℕ) → Decided ((x : Entry) → In es x → Before P j x.job → f ≤ x.start)
succs_decided P [] j f = inl (λ x i. absurd i)
succs_decided P (e ∷ es) j f = elim (both_decided (implies_decided (true_decided (is_before P j e.job)) (le_decided f e.start)) (succs_decided P es j f)) [
  | inl both ↦ inl (λ x (i : In (e ∷ es) x). elim i [ inl q ↦ subst (λ (z : Entry). Before P j z.job → f ≤ z.start) q both.0 | inr k ↦ both.1 x k ])
  | inr fails ↦ inr (λ all. fails (all e (inl refl), λ x i. all x (inr i)))
]

runs_by_decided : (P : Project) (es : List Entry) (end j m t : ℕ) → Decided (CanRunBy P es end j m t)
runs_by_decided P es end j m t = elim (both_decided (le_decided (t + duration P j m) end) (both_decided (succs_decided P es j (t + duration P j m)) (fits_decided P es j m t))) [
  | inl h ↦ inl (record { by_end = h.0; before_succs = All-from_In (λ (x : Entry). Before P j x.job → t + duration P j m ≤ x.start) es h.1.0; fits = h.1.1 })
  | inr fails ↦ inr (λ r. fails (r.by_end, (In-All (λ (x : Entry). Before P j x.job → t + duration P j m ≤ x.start) es r.before_succs, r.fits)))
]

runs_decided : (P : Project) (es : List Entry) (j m t : ℕ) → Decided (CanRun P es j m t)
runs_decided P es j m t = elim (both_decided (preds_decided P es j t) (fits_decided P es j m t)) [
  | inl h ↦ inl (record { after_preds = All-from_In (λ (x : Entry). Before P x.job j → finish P x ≤ t) es h.0; fits = h.1 })
  | inr fails ↦ inr (λ r. fails (In-All (λ (x : Entry). Before P x.job j → finish P x ≤ t) es r.after_preds, r.fits))
]

new_start-of : (way : Direction) (P : Project) → IsAcyclic P → (s : List Placing) (j end : ℕ) → IsFeasible P s → end_of P (entries s) ≤ end → IsJob P j → (t : ℕ) × IsNewStart way P end s j t
new_start-of Backward P a s j end f within job =
    greatest-of (CanRunBy P (others s j) end j (mode_in s j)) (runs_by_decided P (others s j) end j (mode_in s j)) end (λ u r. let by = r.by_end in omega arith) (start_in s j) (runs-by-now P a s j end f within job)
new_start-of Forward P a s j end f within job = least_of (CanRun P (others s j) j (mode_in s j)) (runs_decided P (others s j) j (mode_in s j)) (start_in s j) (runs-now P a s j f job)

-- ---- so there is a result

moves-of : (way : Direction) (P : Project) → IsAcyclic P → (first : List Placing) (before js : List ℕ) (s : List Placing) (end : ℕ) → InTurn (λ earlier. IsNext way P first (is_among earlier)) before js →
    IsFeasible P s → end_of P (entries s) ≤ end → (r : List Placing) × MovesAll way P end s js r
moves-of way P a first before [] s end turn f within = (s, refl)
moves-of way P a first before (j ∷ js) s end turn f within =
    let start = new_start-of way P a s j end f within turn.0.job in
    let move : Moves way P end s j (moved s j start.0) = (start.0, start.1, refl) in
    let kept = moves-kept way P a s (moved s j start.0) j end f within turn.0.job move in
    let rest = moves-of way P a first (before ++ j ∷ []) js (moved s j start.0) end turn.1 kept.feasible kept.within in
    (rest.0, (moved s j start.0, move, rest.1))

pass-of : (way : Direction) (P : Project) → IsAcyclic P → (s : List Placing) → IsFeasible P s → (r : List Placing) × IsPass way P s r
pass-of way P a s f =
    let order = order-of way P a s in
    let moves = moves-of way P a s [] order.0 s (end_of P (entries s)) order.1.in_turn f (omega arith) in
    (moves.0, record { order = order.0; is_order = order.1; moves = moves.1 })

double-of : (P : Project) → IsAcyclic P → (s : List Placing) → IsFeasible P s → (r : List Placing) × IsDoublePass P s r
double-of P a s f =
    let back = pass-of Backward P a s f in
    let forth = pass-of Forward P a back.0 (pass-kept Backward P a s back.0 f back.1).feasible in
    (forth.0, record { late = back.0; backward = back.1; forward = forth.1 })

improved-of : (P : Project) → IsAcyclic P → (most : ℕ) (s : List Placing) → IsFeasible P s → end_of P (entries s) < most → (r : List Placing) × IsImproved P s r
improved-of P a zero s f few = absurd (omega arith)
improved-of P a (suc most) s f few =
    let double = double-of P a s f in
    elim (cases_lt (end_of P (entries double.0)) (end_of P (entries s))) [
      | inr last ↦ (double.0, at_last double.1 last)
      | inl falls ↦ let rest = improved-of P a most double.0 (double-kept P a s double.0 f double.1).feasible (omega arith) in (rest.0, goes_on double.1 falls rest.1)
    ]

pub pass_law : PassLaw
pass_law way P s a f = let p = pass-of way P a s f in record { schedule = p.0; is = p.1; only = λ r q. pass-one way P a s r p.0 q p.1 }

pub improved_law : ImprovedLaw
improved_law P s a f = let p = improved-of P a (end_of P (entries s) + 1) s f (omega arith) in record { schedule = p.0; is = p.1; only = λ r q. improved-one P a s r p.0 q p.1 }
