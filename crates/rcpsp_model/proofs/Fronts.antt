-- What a front keeps from entry to entry, and how far it reaches.
use Rattle.std.proofs.Common.{◌≡◌, ℕ, zero, suc, ◌+◌, ◌*◌, ◌-◌, ◌<◌, ◌≤◌, max, inl, inr, arith, refl, sym, ap, subst, List, [], ◌∷◌, ◌++◌, length, length-append, get_or, append_assoc, take, Bool, true, false, cond, eqb, ◌||◌, replicate}
use Rattle.std.specs.Prelude.{fold, filter}
use Rattle.std.proofs.lemmas.Bool.{cases_lt}
use Rattle.std.proofs.lemmas.List.{append-nil, length-replicate}
use Rattle.std.proofs.lemmas.List.Sums.{sum_by_push}
use Rattle.std.proofs.lemmas.List.Elements.{All-get_or}
use Rattle.rcpsp_model.specs.declared.parts.Entry.{Entry}
use Rattle.rcpsp_model.specs.declared.parts.Placing.{Placing}
use Rattle.rcpsp_model.specs.Project.{Project, duration, is_before, job_count, Before, IsJob, IsMode, IsWithinLimits, IsActivityWithinLimits, IsModeWithinLimits, mode_of, modes_of, no_mode, no_activity}
use Rattle.rcpsp_model.specs.Schedule.{calm, finish, usage, end_of, entries_from, KeepsCapacities, IsOf, AreOf}
use Rattle.rcpsp_model.specs.Chain.{IsLeast}
use Rattle.rcpsp_model.specs.Modes.{IsExecutable}
use Rattle.rcpsp_model.specs.Tree.{has_job, last_start, Fits, CanStart, Follows, IsFront, InTurn}
use Rattle.rcpsp_model.specs.Bounds.{ready}
use Rattle.rcpsp_model.proofs.Lists.{In, total, total-same, sum_by-total, In-All, All-from_In, total-le, total-zero, In-filter, filter-In}
use Rattle.rcpsp_model.proofs.Entries.{DistinctJobs, part, part-more, entry_at, entries-distinct}
use Rattle.rcpsp_model.proofs.Usage.{load, usage-total, load-active, load-before, load-after, finish-le-end, end-le, usage-past_end}
use Rattle.rcpsp_model.proofs.Calendars.{whole_law, cap_law, calm_law}
use Rattle.rcpsp_model.proofs.Completed.{front-distinct}

-- A rule that keeps a fact from entry to entry keeps it to the end.
pub in_turn : {X : Type 0} (R : List X → X → Type 0) (Q : List X → Type 0) → ((F : List X) (e : X) → Q F → R F e → Q (F ++ e ∷ [])) →
    (F es : List X) → Q F → InTurn R F es → Q (F ++ es)
in_turn R Q step F [] q t = subst Q (sym (append-nil F)) q
in_turn R Q step F (e ∷ es) q t = subst Q (append_assoc F (e ∷ []) es) (in_turn R Q step (F ++ e ∷ []) es (step F e q t.0) t.1)

-- the entry past the end of a list
abbrev pub no_entry : Entry
no_entry = record { job = 0; mode = 0; start = 0 }

-- Each item of a list in turn stands in the relation to those before it.
pub in_turn-at : {X : Type 0} (R : List X → X → Type 0) (before xs : List X) (i : ℕ) (d : X) → InTurn R before xs → i < length xs → R (before ++ take i xs) (get_or xs i d)
in_turn-at R before [] i d turn low = absurd (omega arith)
in_turn-at R before (x ∷ xs) zero d turn low = subst (λ bs. R bs x) (sym (append-nil before)) turn.0
in_turn-at R before (x ∷ xs) (suc i) d turn low = subst (λ bs. R bs (get_or xs i d)) (append_assoc before (x ∷ []) (take i xs)) (in_turn-at R (before ++ x ∷ []) xs i d turn.1 (omega arith))

pub usage-push : (P : Project) (F : List Entry) (e : Entry) (k t : ℕ) → usage P (F ++ e ∷ []) k t ≡ usage P F k t + load P k t e
usage-push P F e k t =
    let a = usage-total P (F ++ e ∷ []) k t in let b = usage-total P F k t in
    let c = sum_by-total (load P k t) (F ++ e ∷ []) in let d = sum_by-total (load P k t) F in
    let s = sum_by_push (load P k t) F e in omega arith

-- Where capacities are kept, an entry that fits keeps them.
pub keeps-push : (P : Project) (F : List Entry) (e : Entry) → KeepsCapacities P F → Fits P F e.job e.mode e.start → KeepsCapacities P (F ++ e ∷ [])
keeps-push P F e keeps fits k t r =
    let push = usage-push P F e k t in
    let before = keeps k t r in
    elim (cases_lt t e.start) [
      | inl early ↦ let none = load-before P k t e early in omega arith
      | inr started ↦ elim (cases_lt t (finish P e)) [
        | inl active ↦ let full = load-active P k t e started active in let fit = fits k t r started active in omega arith
        | inr late ↦ let none = load-after P k t e late in omega arith
      ]
    ]

keeps-in_turn : (P : Project) (F es : List Entry) → InTurn (Follows P) F es → KeepsCapacities P F → KeepsCapacities P (F ++ es)
keeps-in_turn P F [] f k = subst (KeepsCapacities P) (sym (append-nil F)) k
keeps-in_turn P F (e ∷ es) f k =
    subst (KeepsCapacities P) (append_assoc F (e ∷ []) es) (keeps-in_turn P (F ++ e ∷ []) es f.1 (keeps-push P F e k f.0.start.attained.fits))

pub front-keeps : (P : Project) (F : List Entry) → IsFront P F → KeepsCapacities P F
front-keeps P F f = keeps-in_turn P [] F f (λ k t r. omega arith)

pub end-push : (P : Project) (es : List Entry) (e : Entry) → end_of P (es ++ e ∷ []) ≡ max (end_of P es) (finish P e)
end-push P [] e = omega arith
end-push P (x ∷ es) e = let ih = end-push P es e in omega arith

-- a mode that fits somewhere asks for no more than the capacities
pub fits-executable : (P : Project) (es : List Entry) (j m t : ℕ) → Fits P es j m t → IsExecutable P j m
fits-executable P es j m t fits takes_time k r =
    let fit = fits k t r (omega arith) (omega arith) in let le = cap_law P k t in omega arith

-- past the end and the calm an executable mode fits
pub fits-past_end : (P : Project) (es : List Entry) (j m t : ℕ) → IsExecutable P j m → end_of P es ≤ t → calm P ≤ t → Fits P es j m t
fits-past_end P es j m t can past calm_ k u r low high =
    let none = usage-past_end P es k u (omega arith) in
    let whole = whole_law P k u (omega arith) in
    let enough = can (omega arith) k r in
    omega arith

last-le : (P : Project) (d : ℕ) (F : List Entry) → fold (λ _ (e : Entry). e.start) d F ≤ max d (end_of P F)
last-le P d [] = omega arith
last-le P d (e ∷ F) = let ih = last-le P e.start F in omega arith

pub last-le-end : (P : Project) (F : List Entry) → last_start F ≤ end_of P F
last-le-end P F = let h = last-le P 0 F in omega arith

-- the earliest start is at most the end of the front, or the calm
start-le : (P : Project) (F : List Entry) (e : Entry) → Follows P F e → e.start ≤ max (end_of P F) (calm P)
start-le P F e f = f.start.least (max (end_of P F) (calm P)) (record {
  after_last = let l = last-le-end P F in omega arith;
  after_preds = All-from_In (λ (x : Entry). Before P x.job e.job → finish P x ≤ max (end_of P F) (calm P)) F (λ x i b. let h = finish-le-end P F x i in omega arith);
  fits = fits-past_end P F e.job e.mode (max (end_of P F) (calm P)) (fits-executable P F e.job e.mode e.start f.start.attained.fits) (omega arith) (omega arith);
})

pub activity-within : (P : Project) → IsWithinLimits P → (j : ℕ) → IsJob P j → IsActivityWithinLimits (length P.activities) (length P.capacities) (length P.budgets) (get_or P.activities (j - 1) no_activity)
unfolding job_count
activity-within P w j a =
    All-get_or (IsActivityWithinLimits (length P.activities) (length P.capacities) (length P.budgets)) P.activities (j - 1) no_activity (let low = a.0 in let high = a.1 in omega arith) w.activities

pub mode-within : (P : Project) → IsWithinLimits P → (j m : ℕ) → IsJob P j → IsMode P j m → IsModeWithinLimits (length P.capacities) (length P.budgets) (mode_of P j m)
unfolding mode_of modes_of
mode-within P w j m a b =
    All-get_or (IsModeWithinLimits (length P.capacities) (length P.budgets)) (get_or P.activities (j - 1) no_activity).modes (m - 1) no_mode (let low = b.0 in let high = b.1 in omega arith) (activity-within P w j a).modes

pub duration-limit : (P : Project) → IsWithinLimits P → (j m : ℕ) → IsJob P j → IsMode P j m → duration P j m ≤ 10000
unfolding duration
duration-limit P w j m a b = (mode-within P w j m a b).duration

-- A front ends within its durations after the calm.
end-in_turn : (P : Project) → IsWithinLimits P → (F es : List Entry) → InTurn (Follows P) F es → end_of P F ≤ calm P + 10000 * length F → end_of P (F ++ es) ≤ calm P + 10000 * length (F ++ es)
end-in_turn P w F [] f h = subst (λ (G : List Entry). end_of P G ≤ calm P + 10000 * length G) (sym (append-nil F)) h
end-in_turn P w F (e ∷ es) f h =
    let push = end-push P F e in let len = length-append F (e ∷ []) in let start = start-le P F e f.0 in
    let dur = duration-limit P w e.job e.mode f.0.eligible.job f.0.mode in
    subst (λ (G : List Entry). end_of P G ≤ calm P + 10000 * length G) (append_assoc F (e ∷ []) es) (end-in_turn P w (F ++ e ∷ []) es f.1 (omega arith))

abbrev pub spot : Placing
spot = record { mode = 0; start = 0 }

-- one entry for each job up to n
abbrev pub each : ℕ → List Entry
each n = entries_from 1 (replicate n spot)

cond-le_one : (b : Bool) → cond b 1 0 ≤ 1
cond-le_one true = omega arith
cond-le_one false = omega arith

total-ones : (i : ℕ) (ps : List Placing) → total (λ (x : Entry). 1) (entries_from i ps) ≡ length ps
total-ones i [] = refl
total-ones i (p ∷ ps) = let ih = total-ones (i + 1) ps in omega arith

pub part-jobs : (n : ℕ) (F : List Entry) → DistinctJobs F → ((e : Entry) → In F e → (1 ≤ e.job) × (e.job ≤ n)) → part (has_job F) (λ (x : Entry). 1) (each n) ≡ length F
part-jobs n [] d r = total-zero _ (each n) (λ x i. refl)
part-jobs n (e ∷ F) d r =
    let ih = part-jobs n F d.1 (λ x i. r x (inr i)) in
    let range = r e (inl refl) in
    let len = length-replicate n spot in
    let at = entry_at 1 (replicate n spot) e.job range.0 (omega (arith, range.1)) in
    let more = part-more (has_job F) (λ (x : Entry). 1) (each n) at.0 (entries-distinct 1 (replicate n spot)) at.1 (subst (λ (k : ℕ). has_job F k ≡ false) (sym at.2) d.0) in
    let same = ap (λ (k : ℕ). part (λ j. eqb k j || has_job F j) (λ (x : Entry). 1) (each n)) at.2 in
    omega arith

-- Distinct jobs of the network are no more than its jobs.
length-distinct : (n : ℕ) (F : List Entry) → DistinctJobs F → ((e : Entry) → In F e → (1 ≤ e.job) × (e.job ≤ n)) → length F ≤ n
length-distinct n F d r =
    let all = part-jobs n F d r in
    let le = total-le (λ (x : Entry). cond (has_job F x.job) 1 0) (λ (x : Entry). 1) (each n) (λ x i. cond-le_one (has_job F x.job)) in
    let size = total-ones 1 (replicate n spot) in
    let len = length-replicate n spot in
    omega arith

-- each entry of a front has a job and a mode of the network
abbrev pub IsNamed : Project → Entry → Type 0
IsNamed P e = IsJob P e.job × IsMode P e.job e.mode

pub named-in_turn : (P : Project) (F es : List Entry) → InTurn (Follows P) F es → (e : Entry) → In es e → IsNamed P e
named-in_turn P F [] f e i = absurd i
named-in_turn P F (x ∷ es) f e (inl q) = subst (IsNamed P) q (f.0.eligible.job, f.0.mode)
named-in_turn P F (x ∷ es) f e (inr i) = named-in_turn P (F ++ x ∷ []) es f.1 e i

pub length-front : (P : Project) (F : List Entry) → IsFront P F → length F ≤ job_count P
length-front P F f = length-distinct (job_count P) F (front-distinct P F f) (λ e i. (named-in_turn P [] F f e i).0)

-- Fronts with the same jobs have one length.
pub same-length : (P : Project) (A B : List Entry) → IsFront P A → IsFront P B → ((j : ℕ) → has_job A j ≡ has_job B j) → length A ≡ length B
same-length P A B a b h =
    let n = job_count P in
    let one = part-jobs n A (front-distinct P A a) (λ e i. (named-in_turn P [] A a e i).0) in
    let two = part-jobs n B (front-distinct P B b) (λ e i. (named-in_turn P [] B b e i).0) in
    let same = total-same (λ (x : Entry). cond (has_job A x.job) 1 0) (λ (x : Entry). cond (has_job B x.job) 1 0) (each n) (λ x i. ap (λ (t : Bool). cond t 1 0) (h x.job)) in
    omega arith

pub front-end_le : (P : Project) (F : List Entry) → IsWithinLimits P → IsFront P F → end_of P F ≤ calm P + 10000 * length F
front-end_le P F w f = end-in_turn P w [] F f (omega arith)

pub front-end : (P : Project) (F : List Entry) → IsWithinLimits P → IsFront P F → end_of P F ≤ 1290000
unfolding job_count
front-end P F w f =
    let h = front-end_le P F w f in let len = length-front P F f in let few = w.few_jobs in let soon = calm_law P w in omega arith

pub front-of : (P : Project) (F : List Entry) → IsWithinLimits P → IsFront P F → AreOf P F
front-of P F w f = All-from_In (IsOf P) F (λ e i.
    let named = named-in_turn P [] F f e i in
    record { job = named.0; mode = named.1; start = let h = finish-le-end P F e i in let k = front-end P F w f in omega arith })

-- The least number at which an entry is ready and fits is its earliest start.
pub can_start-from : (P : Project) (F : List Entry) (j m t : ℕ) → IsLeast (λ u. (ready P F j ≤ u) × Fits P F j m u) t → IsLeast (CanStart P F j m) t
can_start-from P F j m t h = record {
  attained = record {
    after_last = let r = h.attained.0 in omega arith;
    after_preds = All-from_In (λ (x : Entry). Before P x.job j → finish P x ≤ t) F (λ x i b.
        let r = h.attained.0 in let e = finish-le-end P (filter (λ (e : Entry). is_before P e.job j) F) x (filter-In (λ (e : Entry). is_before P e.job j) F x i b) in omega arith);
    fits = h.attained.1;
  };
  least = λ u c. h.least u (ready-least P F j m u c, c.fits);
}
  where
    ready-least : (P : Project) (F : List Entry) (j m u : ℕ) → CanStart P F j m u → ready P F j ≤ u
    ready-least P F j m u c =
        let last = c.after_last in
        let preds = end-le P (filter (λ (e : Entry). is_before P e.job j) F) u (λ y i.
        let r = In-filter (λ (e : Entry). is_before P e.job j) F y i in In-All (λ (x : Entry). Before P x.job j → finish P x ≤ u) F c.after_preds y r.0 r.1) in
        omega arith

pub ready-limit : (P : Project) (F : List Entry) (j : ℕ) → IsWithinLimits P → IsFront P F → ready P F j ≤ 1290000
ready-limit P F j w f =
    let all = front-end P F w f in
    let last = last-le-end P F in
    let some = end-le P (filter (λ (e : Entry). is_before P e.job j) F) (end_of P F) (λ x i. finish-le-end P F x (In-filter (λ (e : Entry). is_before P e.job j) F x i).0) in
    omega arith
