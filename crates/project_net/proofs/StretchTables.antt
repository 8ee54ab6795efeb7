-- The stretches of all resources, one resource's after another's.
use Rattle.std.proofs.Common.{◌≡◌, ℕ, ◌+◌, ◌-◌, ◌<◌, ◌≤◌, inl, inr, arith, sym, ap, ◌∙◌, subst, refl, List, [], ◌∷◌, ◌++◌, length, get_or, take, drop, length-append, length-drop}
use Rattle.std.specs.Prelude.{slice_range}
use Rattle.std.proofs.lemmas.Bool.{cases_lt}
use Rattle.std.proofs.lemmas.List.{get_or_append_left, get_or_push, length_push, take_all, take-append-le, drop-append-le, drop_at}
use Rattle.rcpsp_model.specs.Project.{Project, renewables}
use Rattle.rcpsp_model.specs.Schedule.{calm}
use Rattle.project_net.specs.declared.stretches.Stretch.{Stretch}
use Rattle.project_net.specs.declared.stretches.StretchTable.{StretchTable}
use Rattle.project_net.specs.Stretches.{AreStretches, AreAllStretches}

-- the stretches of the first resources, one resource's after another's
pub record HasTable (P : Project) (n : ℕ) (firsts : List ℕ) (stretches : List Stretch) : Type 0 where
  pub size : length firsts ≡ n + 1
  pub top : get_or firsts n 0 ≡ length stretches
  pub rising : (k : ℕ) → k < n → get_or firsts k 0 ≤ get_or firsts (k + 1) 0
  pub within : (k : ℕ) → k ≤ n → get_or firsts k 0 ≤ length stretches
  pub each : (k : ℕ) → 1 ≤ k → k ≤ n → AreStretches P k (slice_range stretches (get_or firsts (k - 1) 0) (get_or firsts k 0))

pub table-none : (P : Project) → HasTable P 0 (0 ∷ []) []
table-none P = record {
  size = refl;
  top = refl;
  rising = λ k h. absurd (omega arith);
  within = λ k h. let z : k ≡ 0 = omega arith in let e = ap (λ (i : ℕ). get_or {A = ℕ} (0 ∷ []) i 0) z in omega arith;
  each = λ k low high. absurd (omega arith);
}

range-old : (xs ys : List Stretch) (a b : ℕ) → b ≤ length xs → slice_range (xs ++ ys) a b ≡ slice_range xs a b
range-old xs ys a b h =
    elim (cases_lt (length xs) a) [
      | inl none ↦ ap (λ (n : ℕ). take n (drop a (xs ++ ys))) (let z : b - a ≡ 0 = omega arith in z) ∙ sym (ap (λ (n : ℕ). take n (drop a xs)) (let z : b - a ≡ 0 = omega arith in z))
      | inr some ↦ ap (take (b - a)) (drop-append-le a xs ys some) ∙ take-append-le (b - a) (drop a xs) ys (omega (arith, length-drop a xs))
    ]

range-new : (xs ys : List Stretch) (b : ℕ) → length xs + length ys ≤ b → slice_range (xs ++ ys) (length xs) b ≡ ys
range-new xs ys b h = ap (take (b - length xs)) (drop_at xs ys (length xs) refl) ∙ take_all (b - length xs) ys (omega arith)

-- the stretches of one resource more
pub table-more : (P : Project) (n : ℕ) (firsts : List ℕ) (stretches own : List Stretch) → HasTable P n firsts stretches → AreStretches P (n + 1) own →
    HasTable P (n + 1) (firsts ++ length (stretches ++ own) ∷ []) (stretches ++ own)
table-more P n firsts stretches own h mine =
    let all : ℕ = length (stretches ++ own) in
    let joined = length-append stretches own in
    let size = h.size in
    let top = h.top in
    let old : (k : ℕ) → k ≤ n → get_or (firsts ++ all ∷ []) k 0 ≡ get_or firsts k 0 = λ k le. get_or_append_left firsts (all ∷ []) 0 k (omega arith) in
    let new : get_or (firsts ++ all ∷ []) (n + 1) 0 ≡ all = get_or_push firsts all 0 (n + 1) size in
    record {
      size = let z = length_push firsts all in omega arith;
      top = new;
      rising = λ k lt. elim (cases_lt k n) [
        | inl before ↦ let a = old k (omega arith) in let b = old (k + 1) (omega arith) in let r = h.rising k before in omega arith
        | inr last ↦
            let a = old k (omega arith) in let b = ap (λ (i : ℕ). get_or (firsts ++ all ∷ []) i 0) (let z : k + 1 ≡ n + 1 = omega arith in z) in
            let c = h.within k (omega arith) in omega arith
      ];
      within = λ k le. elim (cases_lt k (n + 1)) [
        | inl before ↦ let a = old k (omega arith) in let c = h.within k (omega arith) in omega arith
        | inr last ↦ let b = ap (λ (i : ℕ). get_or (firsts ++ all ∷ []) i 0) (let z : k ≡ n + 1 = omega arith in z) in omega arith
      ];
      each = λ k low high. elim (cases_lt k (n + 1)) [
        | inl before ↦
            let a = old (k - 1) (omega arith) in let b = old k (omega arith) in
            let same : slice_range (stretches ++ own) (get_or (firsts ++ all ∷ []) (k - 1) 0) (get_or (firsts ++ all ∷ []) k 0) ≡ slice_range stretches (get_or firsts (k - 1) 0) (get_or firsts k 0) =
            ap (λ (i : ℕ). slice_range (stretches ++ own) i (get_or (firsts ++ all ∷ []) k 0)) a
            ∙ ap (λ (i : ℕ). slice_range (stretches ++ own) (get_or firsts (k - 1) 0) i) b
            ∙ range-old stretches own (get_or firsts (k - 1) 0) (get_or firsts k 0) (h.within k (omega arith)) in
            subst (AreStretches P k) (sym same) (h.each k low (omega arith))
        | inr last ↦
            let e : n + 1 ≡ k = omega arith in
            let a : get_or (firsts ++ all ∷ []) (n + 1 - 1) 0 ≡ length stretches = ap (λ (i : ℕ). get_or (firsts ++ all ∷ []) i 0) (let z : n + 1 - 1 ≡ n = omega arith in z) ∙ old n (omega arith) ∙ top in
            let same : slice_range (stretches ++ own) (get_or (firsts ++ all ∷ []) (n + 1 - 1) 0) (get_or (firsts ++ all ∷ []) (n + 1) 0) ≡ own =
            ap (λ (i : ℕ). slice_range (stretches ++ own) i (get_or (firsts ++ all ∷ []) (n + 1) 0)) a
            ∙ range-new stretches own (get_or (firsts ++ all ∷ []) (n + 1) 0) (omega arith) in
            subst (λ (i : ℕ). AreStretches P i (slice_range (stretches ++ own) (get_or (firsts ++ all ∷ []) (i - 1) 0) (get_or (firsts ++ all ∷ []) i 0))) e
            (subst (AreStretches P (n + 1)) (sym same) mine)
      ];
    }

-- what was pushed for one resource more
pub own-more : (P : Project) (n size : ℕ) (firsts firsts' : List ℕ) (stretches stretches' own : List Stretch) → HasTable P n firsts stretches → AreStretches P (n + 1) own →
    stretches' ≡ stretches ++ own → size ≡ length stretches' → firsts' ≡ firsts ++ size ∷ [] → HasTable P (n + 1) firsts' stretches'
own-more P n size firsts firsts' stretches stretches' own h mine joined counted pushed =
    subst (λ (l : List Stretch). HasTable P (n + 1) firsts' l) (sym joined)
    (subst (λ (l : List ℕ). HasTable P (n + 1) l (stretches ++ own)) (sym (pushed ∙ ap (λ (i : ℕ). firsts ++ i ∷ []) (counted ∙ ap length joined))) (table-more P n firsts stretches own h mine))

-- the tables of all resources
pub table-all : (P : Project) (n : ℕ) (table : StretchTable) → n ≡ renewables P → HasTable P n table.firsts.items table.stretches.items → table.calm ≡ calm P → AreAllStretches P table
table-all P n table e h whole =
    subst (λ (m : ℕ). HasTable P m table.firsts.items table.stretches.items → AreAllStretches P table) (sym e)
    (λ (all : HasTable P (renewables P) table.firsts.items table.stretches.items). record {
      size = all.size;
      rising = all.rising;
      within = all.within;
      each = λ k r. all.each k r.0 r.1;
      calm = whole;
    }) h
