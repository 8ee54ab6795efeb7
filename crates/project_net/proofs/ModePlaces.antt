-- The places of the modes among the modes of all jobs, and what is known of the modes in the first places.
use Rattle.std.proofs.Common.{◌≡◌, ℕ, zero, suc, ◌+◌, ◌-◌, ◌<◌, ◌≤◌, inl, inr, arith, refl, sym, ap, subst, ◌∙◌, List, [], ◌∷◌, ◌++◌, length, take}
use Rattle.std.specs.Prelude.{sum_by, slice_index}
use Rattle.std.proofs.lemmas.Bool.{cases_lt}
use Rattle.std.proofs.lemmas.List.{get_or_append_left, get_or_push, length_push, take-take}
use Rattle.std.proofs.lemmas.List.Sums.{sum_by_more, sum_by-take-le}
use Rattle.rcpsp_model.specs.Project.{Project, Activity, IsJob, IsMode, no_activity, job_count, modes_of}
use Rattle.project_net.specs.declared.causes.ModeCauses.{ModeCauses}
use Rattle.project_net.specs.Causes.{mode_count, mode_place, AreCauses, AreFirstCauses, AreAllCauses}

-- ---- places

-- the modes of the first jobs, and of one job more
pub mode_count-more : (P : Project) (j : ℕ) → IsJob P j → mode_count P j ≡ mode_count P (j - 1) + length (modes_of P j)
unfolding mode_count modes_of job_count
mode_count-more P j r =
    let low = r.0 in let high = r.1 in
    let up : j ≡ j - 1 + 1 = omega arith in
    ap (mode_count P) up ∙ sum_by_more (λ (a : Activity). length a.modes) P.activities (j - 1) no_activity (omega arith)

mode_count-le : (P : Project) (i j : ℕ) → i ≤ j → mode_count P i ≤ mode_count P j
unfolding mode_count
mode_count-le P i j h =
    let front = sum_by-take-le (λ (a : Activity). length a.modes) (take j P.activities) i in
    let same = ap (sum_by (λ (a : Activity). length a.modes)) (take-take i j P.activities h) in
    omega arith

-- a job's modes stand before those of a later job
pub place-before : (P : Project) (i n j m : ℕ) → IsJob P i → IsMode P i n → i < j → mode_place P i n < mode_place P j m
place-before P i n j m r s h =
    let low = r.0 in let one = s.0 in let most = s.1 in
    let own = mode_count-more P i r in
    let le = mode_count-le P i (j - 1) (omega arith) in
    omega arith

pub places-apart : (P : Project) (i n j m : ℕ) → IsJob P i → IsMode P i n → IsJob P j → IsMode P j m → mode_place P i n ≡ mode_place P j m → (i ≡ j) × (n ≡ m)
places-apart P i n j m ri si rj sj at = elim (cases_lt i j) [
  | inl before ↦ let lt = place-before P i n j m ri si before in absurd (omega arith)
  | inr from ↦ elim (cases_lt j i) [
    | inl after ↦ let lt = place-before P j m i n rj sj after in absurd (omega arith)
    | inr to ↦
        let same : i ≡ j = omega arith in
        let count = ap (λ k. mode_count P (k - 1)) same in
        let onei = si.0 in let onej = sj.0 in
        (same, omega arith)
  ]
]

-- where each job's modes end, there the next job's begin
pub first-places : (P : Project) (firsts : List ℕ) → slice_index firsts 0 ≡ 0 → ((j : ℕ) → IsJob P j → slice_index firsts (j - 1) + length (modes_of P j) ≡ slice_index firsts j) →
    (i : ℕ) → i ≤ job_count P → slice_index firsts i ≡ mode_count P i
unfolding mode_count
first-places P firsts first spans zero h = first
first-places P firsts first spans (suc i) h =
    let job : IsJob P (suc i) = (omega arith, h) in
    let span = spans (suc i) job in
    let more = mode_count-more P (suc i) job in
    let back : suc i - 1 ≡ i = omega arith in
    let here = first-places P firsts first spans i (omega arith) in
    let a = ap (slice_index firsts) back in let b = ap (mode_count P) back in
    omega arith

-- ---- causes

-- of no mode
pub causes-none : (P : Project) → AreFirstCauses P (mode_count P 0) []
unfolding mode_count
causes-none P = record { size = refl; each = λ j m d r s h. absurd (omega arith) }

-- of one mode more
pub causes-push : (P : Project) (causes : List ModeCauses) (j m : ℕ) (own : ModeCauses) → IsJob P j → IsMode P j m → AreFirstCauses P (mode_place P j m) causes → AreCauses P j m own →
    AreFirstCauses P (mode_place P j (m + 1)) (causes ++ own ∷ [])
causes-push P causes j m own r s known is = record {
  size = length_push causes own ∙ (let size = known.size in let one = s.0 in omega arith);
  each = λ i n d ri si h. elim (cases_lt (mode_place P i n) (mode_place P j m)) [
    | inl before ↦ subst (AreCauses P i n) (sym (get_or_append_left causes (own ∷ []) d (mode_place P i n) (let size = known.size in omega arith))) (known.each i n d ri si before)
    | inr last ↦
        let one = s.0 in
        let at : mode_place P j m ≡ mode_place P i n = omega arith in
        let same = places-apart P j m i n r s ri si at in
        subst (AreCauses P i n) (sym (get_or_push causes own d (mode_place P i n) (known.size ∙ at)))
        (subst (λ k. AreCauses P i k own) same.1 (subst (λ k. AreCauses P k m own) same.0 is))
  ];
}

-- past a job's last mode stand those of the next job
pub causes-end : (P : Project) (causes : List ModeCauses) (j m : ℕ) → IsJob P j → m ≡ length (modes_of P j) + 1 → AreFirstCauses P (mode_place P j m) causes → AreFirstCauses P (mode_count P j) causes
causes-end P causes j m r end known =
    let more = mode_count-more P j r in
    let same : mode_place P j m ≡ mode_count P j = omega arith in
    subst (λ done. AreFirstCauses P done causes) same known

-- of all modes
pub causes-all : (P : Project) (causes : List ModeCauses) → AreFirstCauses P (mode_count P (job_count P)) causes → AreAllCauses P causes
causes-all P causes known = record {
  within = λ j m r s. let lt = place-end P j m r s in let size = known.size in omega arith;
  each = λ j m d r s. known.each j m d r s (place-end P j m r s);
}
  where
    place-end : (P : Project) (j m : ℕ) → IsJob P j → IsMode P j m → mode_place P j m < mode_count P (job_count P)
    place-end P j m r s =
        let high = r.1 in
        let lt = place-before P j m (job_count P + 1) 1 r s (omega arith) in
        let back = ap (mode_count P) (let z : job_count P + 1 - 1 ≡ job_count P = omega arith in z) in
        omega arith
