-- The places of a schedule, one entry further.
use Rattle.std.proofs.Common.{◌≡◌, ℕ, zero, suc, ◌+◌, ◌-◌, ◌<◌, ◌≤◌, inl, inr, arith, sym, ap, subst, ◌∙◌, List, [], ◌∷◌, ◌++◌, length, get_or, take, set, length-set, get_or-set_same, get_or-set_other, true, false}
use Rattle.std.specs.Prelude.{Contains}
use Rattle.std.proofs.lemmas.Bool.{both_ways}
use Rattle.std.proofs.lemmas.List.{take_more}
use Rattle.std.proofs.lemmas.List.Elements.{Contains-get_or}
use Rattle.rcpsp_model.specs.declared.parts.Entry.{Entry}
use Rattle.rcpsp_model.specs.declared.parts.Placing.{Placing}
use Rattle.rcpsp_model.specs.Schedule.{entries, entries_from, Agrees}
use Rattle.rcpsp_model.proofs.Lists.{In, In-push, In-from_Contains, Contains-from_In, All-from_In, In-All}
use Rattle.rcpsp_model.proofs.Entries.{has_job-In}
use Rattle.rcpsp_model.specs.Tree.{has_job, entry_at, InTurn}
use Rattle.rcpsp_model.proofs.Fronts.{spot, in_turn-at}
use Rattle.project_net.specs.Placings.{HaveJobsOnce}

-- where an entry's job stands
abbrev pub place_of : Entry → Placing
place_of e = record { mode = e.mode; start = e.start }

-- a job from 1 to n
abbrev pub IsBelow : ℕ → ℕ → Type 0
IsBelow n j = (1 ≤ j) × (j ≤ n)

-- each entry stands at the place of its job
pub record HasPlaces (n : ℕ) (F : List Entry) (places : List Placing) : Type 0 where
  pub size : length places ≡ n
  pub at : (e : Entry) → In F e → get_or places (e.job - 1) spot ≡ place_of e

pub places-none : (n : ℕ) (places : List Placing) → length places ≡ n → HasPlaces n [] places
places-none n places size = record { size = size; at = λ e i. absurd i }

pub places-push : (n : ℕ) (F : List Entry) (e : Entry) (places : List Placing) → IsBelow n e.job → ((x : Entry) → In F x → IsBelow n x.job) → has_job F e.job ≡ false → HasPlaces n F places →
    HasPlaces n (F ++ e ∷ []) (set places (e.job - 1) (place_of e))
places-push n F e places job jobs new h =
    let inside : e.job - 1 < length places = let size = h.size in let low = job.0 in let high = job.1 in omega arith in
    record {
      size = length-set places (e.job - 1) (place_of e) ∙ h.size;
      at = λ x i. elim (In-push F e x i) [
        | inl old ↦
            let apart : x.job ≡ e.job → ⊥ = λ same. both_ways (has_job F e.job) new (subst (λ j. has_job F j ≡ true) same (has_job-In F x old)) in
            get_or-set_other places (e.job - 1) (x.job - 1) (place_of e) spot (λ same. apart (let a = job.0 in let b = (jobs x old).0 in omega arith)) ∙ h.at x old
        | inr q ↦ subst (λ (z : Entry). get_or (set places (e.job - 1) (place_of e)) (z.job - 1) spot ≡ place_of z) q (get_or-set_same places (e.job - 1) (place_of e) spot inside)
      ];
    }

pub entry-in : (i : ℕ) (ps : List Placing) (k j : ℕ) (q : Placing) → k < length ps → j ≡ i + k → get_or ps k spot ≡ q → In (entries_from i ps) (record { job = j; mode = q.mode; start = q.start })
entry-in i [] k j q h n e = absurd (let z : k < 0 = h in omega arith)
entry-in i (p ∷ ps) zero j q h n e =
    inl (ap (λ (x : ℕ). entry_at x p.mode p.start) (let same : i ≡ j = omega arith in same) ∙ ap (λ (z : Placing). entry_at j z.mode z.start) e)
entry-in i (p ∷ ps) (suc k) j q h n e = inr (entry-in (i + 1) ps k j q (let z : suc k < suc (length ps) = h in omega arith) (omega arith) e)

-- the jobs of the entries, by membership
pub all-jobs : (n : ℕ) (es : List Entry) → HaveJobsOnce n es → (x : Entry) → In es x → IsBelow n x.job
all-jobs n es have x i = In-All (λ (e : Entry). IsBelow n e.job) es have.jobs x i

pub agrees-from : (n : ℕ) (F : List Entry) (places : List Placing) → ((x : Entry) → In F x → IsBelow n x.job) → HasPlaces n F places → Agrees places F
agrees-from n F places jobs h = All-from_In (Contains (entries places)) F (λ e i.
    let job = jobs e i in
    Contains-from_In (entries places) e (entry-in 1 places (e.job - 1) e.job (place_of e)
    (let low = job.0 in let high = job.1 in let size = h.size in omega arith) (let low = job.0 in omega arith) (h.at e i)))

pub In-get : (es : List Entry) (i : ℕ) (d : Entry) → i < length es → In es (get_or es i d)
In-get es i d h = In-from_Contains es (get_or es i d) (Contains-get_or es i d h)

pub In-take : (es : List Entry) (i : ℕ) (x : Entry) → In (take i es) x → In es x
In-take [] i x m = absurd (let z : In (take i []) x = m in none i z)
  where
    none : (n : ℕ) → In (take n []) x → ⊥
    none zero z = z
    none (suc n) z = z
In-take (e ∷ es) zero x m = absurd m
In-take (e ∷ es) (suc i) x (inl q) = inl q
In-take (e ∷ es) (suc i) x (inr m) = inr (In-take es i x m)

-- a weaker relation holds in turn too
pub in_turn-weaker : {X : Type 0} (R S : List X → X → Type 0) → ((F : List X) (x : X) → R F x → S F x) → (F es : List X) → InTurn R F es → InTurn S F es
in_turn-weaker R S w F [] t = tt
in_turn-weaker R S w F (e ∷ es) t = (w F e t.0, in_turn-weaker R S w (F ++ e ∷ []) es t.1)

pub places-more : (n : ℕ) (es : List Entry) (places : List Placing) (i : ℕ) (d : Entry) → HaveJobsOnce n es → i < length es → HasPlaces n (take i es) places →
    HasPlaces n (take (i + 1) es) (set places ((get_or es i d).job - 1) (place_of (get_or es i d)))
places-more n es places i d have h old =
    let jobs = all-jobs n es have in
    subst (λ (xs : List Entry). HasPlaces n xs (set places ((get_or es i d).job - 1) (place_of (get_or es i d)))) (sym (take_more es i d h))
    (places-push n (take i es) (get_or es i d) places (jobs (get_or es i d) (In-get es i d h)) (λ x m. jobs x (In-take es i x m)) (in_turn-at (λ before e. has_job before e.job ≡ false) [] es i d have.once h) old)
