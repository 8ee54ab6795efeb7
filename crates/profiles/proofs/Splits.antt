-- A time that is put in among the times, with a row like the one before: the numbers of the periods stay.
use Rattle.std.proofs.Common.{◌≡◌, ℕ, ◌+◌, ◌-◌, ◌*◌, ◌<◌, ◌≤◌, ◌⊎◌, inl, inr, arith, refl, sym, ap, subst, ◌∙◌, List, length, get_or, ltb, add-mul, mul_comm, one-mul, zero-mul, mul-le-mul_right}
use Rattle.std.proofs.lemmas.Bool.{cases_lt, cases_order, lt-ltb, le-ltb, cond-true, cond-false}
use Rattle.std.proofs.lemmas.Nat.{mul-add-lt}
use Rattle.std.proofs.lemmas.List.Edits.{length-insert, get_or-insert_below, get_or-insert_at, get_or-insert_above}
use Rattle.profiles.specs.declared.steps.Steps.{Steps}
use Rattle.profiles.specs.Steps.{IsStepped, HasSteps, AreInOrder}
use Rattle.profiles.specs.Adding.{IsPutIn, IsThere, IsSplit}

-- one row more
pub rows-more : (n w : ℕ) → (n + 1) * w ≡ n * w + w
rows-more n w = let a = add-mul n 1 w in let b = one-mul w in omega arith

pub rows-le : (i j w : ℕ) → i ≤ j → i * w ≤ j * w
rows-le i j w h = mul-le-mul_right {m = i} {n = j} w h

pub row-lt : (i w p n : ℕ) → i < n → p < w → i * w + p < n * w
row-lt i w p n a b = let lt = mul-add-lt i w p n a b in let same = mul_comm w n in omega arith

-- what is known after a split
pub record SplitFacts (old new : Steps) (time at : ℕ) : Type 0 where
  pub width : new.width ≡ old.width
  pub order : AreInOrder new
  pub few : length new.times.items ≤ length old.times.items + 1
  pub longer : length old.times.items ≤ length new.times.items
  pub within : at < length new.times.items
  pub found : get_or new.times.items at 0 ≡ time
  pub stepped : (number : ℕ → ℕ) (place : ℕ) → place < old.width → HasSteps number old place → HasSteps number new place
  pub low : (m : ℕ) → ((q : ℕ) → get_or old.levels.items q 0 ≤ m) → (q : ℕ) → get_or new.levels.items q 0 ≤ m
  pub kept : (i : ℕ) → i < length old.times.items → (j : ℕ) × (j < length new.times.items) × (get_or new.times.items j 0 ≡ get_or old.times.items i 0)
  pub before : (i : ℕ) → i < length old.times.items → get_or old.times.items i 0 ≤ time → get_or new.times.items i 0 ≡ get_or old.times.items i 0
  pub only : (j : ℕ) → j < length new.times.items → ((i : ℕ) × (i < length old.times.items) × (get_or old.times.items i 0 ≡ get_or new.times.items j 0)) ⊎ (get_or new.times.items j 0 ≡ time)

there-facts : (old new : Steps) (time at : ℕ) → AreInOrder old → IsThere old new time at → SplitFacts old new time at
there-facts old new time at o h =
    let own : SplitFacts old old time at = record {
      width = refl;
      order = o;
      few = omega arith;
      longer = omega arith;
      within = h.within;
      found = h.found;
      stepped = λ number place lt s. s;
      low = λ m all. all;
      kept = λ i lt. (i, lt, refl);
      before = λ i lt le. refl;
      only = λ j lt. inl (j, lt, refl);
    } in
    subst (λ (s : Steps). SplitFacts old s time at) (sym h.same) own

-- the times after one was put in
time-below : (old new : Steps) (time at : ℕ) → IsPutIn old new time at → (i : ℕ) → i < at → get_or new.times.items i 0 ≡ get_or old.times.items i 0
time-below old new time at h i lt = ap (λ (ts : List ℕ). get_or ts i 0) h.times ∙ get_or-insert_below old.times.items at time 0 i lt h.within

time-at : (old new : Steps) (time at : ℕ) → IsPutIn old new time at → get_or new.times.items at 0 ≡ time
time-at old new time at h = ap (λ (ts : List ℕ). get_or ts at 0) h.times ∙ get_or-insert_at old.times.items at time 0 h.within

time-above : (old new : Steps) (time at : ℕ) → IsPutIn old new time at → (i : ℕ) → at ≤ i → get_or new.times.items (i + 1) 0 ≡ get_or old.times.items i 0
time-above old new time at h i le = ap (λ (ts : List ℕ). get_or ts (i + 1) 0) h.times ∙ get_or-insert_above old.times.items at time 0 i le h.within

times-length : (old new : Steps) (time at : ℕ) → IsPutIn old new time at → length new.times.items ≡ length old.times.items + 1
times-length old new time at h = ap (λ (ts : List ℕ). length ts) h.times ∙ length-insert old.times.items at time h.within

-- the rows after one was put in
row-below : (old new : Steps) (time at : ℕ) → IsPutIn old new time at → (i p : ℕ) → p < old.width → i < at → get_or new.levels.items (i * old.width + p) 0 ≡ get_or old.levels.items (i * old.width + p) 0
row-below old new time at h i p lt below = h.levels.below (i * old.width + p) (row-lt i old.width p at below lt)

row-first : (old new : Steps) (time at : ℕ) → IsPutIn old new time at → (p : ℕ) → p < old.width → at ≡ 0 → get_or new.levels.items (at * old.width + p) 0 ≡ 0
row-first old new time at h p lt e =
    let z : at * old.width ≡ 0 = ap (λ (n : ℕ). n * old.width) e ∙ zero-mul old.width in
    h.levels.own (at * old.width + p) (omega arith) (omega arith) ∙ cond-true (ltb (at * old.width) old.width) 0 (get_or old.levels.items (at * old.width + p - old.width) 0) (lt-ltb (at * old.width) old.width (omega arith))

row-like : (old new : Steps) (time at : ℕ) → IsPutIn old new time at → (i p : ℕ) → p < old.width → at ≡ i + 1 → get_or new.levels.items (at * old.width + p) 0 ≡ get_or old.levels.items (i * old.width + p) 0
row-like old new time at h i p lt e =
    let z : at * old.width ≡ i * old.width + old.width = ap (λ (n : ℕ). n * old.width) e ∙ rows-more i old.width in
    h.levels.own (at * old.width + p) (omega arith) (omega arith)
    ∙ cond-false (ltb (at * old.width) old.width) 0 (get_or old.levels.items (at * old.width + p - old.width) 0) (le-ltb (at * old.width) old.width (omega arith))
    ∙ ap (λ (q : ℕ). get_or old.levels.items q 0) (let y : at * old.width + p - old.width ≡ i * old.width + p = omega arith in y)

row-above : (old new : Steps) (time at : ℕ) → IsPutIn old new time at → (i p : ℕ) → p < old.width → at ≤ i → get_or new.levels.items ((i + 1) * old.width + p) 0 ≡ get_or old.levels.items (i * old.width + p) 0
row-above old new time at h i p lt le =
    let z = rows-more i old.width in
    let up = rows-le at i old.width le in
    ap (λ (q : ℕ). get_or new.levels.items q 0) (let y : (i + 1) * old.width + p ≡ i * old.width + p + (at * old.width + old.width - at * old.width) = omega arith in y)
    ∙ h.levels.above (i * old.width + p) (omega arith)

-- the numbers of the periods are what they were
put-stepped : (old new : Steps) (time at : ℕ) → IsPutIn old new time at → (number : ℕ → ℕ) (place : ℕ) → place < old.width → HasSteps number old place →
    IsStepped number new.times.items new.levels.items old.width place
put-stepped old new time at h number place lt s =
    let longer = times-length old new time at h in
    let low = h.within in
    let none_before : (t : ℕ) → at ≡ 0 → (at < length old.times.items → t < get_or old.times.items at 0) → number t ≡ 0 =
    λ t e next. s.before t (λ some. let x = next (omega arith) in let same = ap (λ (i : ℕ). get_or old.times.items i 0) e in omega arith) in
    record {
      before = λ t first. elim (cases_lt 0 at) [
        | inl some ↦ let is = time-below old new time at h 0 some in s.before t (λ more. let x = first (omega arith) in omega arith)
        | inr none ↦
            let e : at ≡ 0 = omega arith in
            let is = ap (λ (i : ℕ). get_or new.times.items i 0) (sym e) ∙ time-at old new time at h in
            none_before t e (λ more. let x = first (omega arith) in let y = h.above at (omega arith) more in omega arith)
      ];
      within = λ i t within come next. elim (cases_order i at) [
        | inl e ↦
            let is = ap (λ (j : ℕ). get_or new.times.items j 0) e ∙ time-at old new time at h in
            let after : at < length old.times.items → t < get_or old.times.items at 0 = λ more.
            let x = next (omega arith) in let same = ap (λ (j : ℕ). get_or new.times.items (j + 1) 0) e in let y = time-above old new time at h at (omega arith) in omega arith in
            (elim (cases_lt 0 at) [
              | inl some ↦
                  let z : at ≡ at - 1 + 1 = omega arith in
                  let same = ap (λ (j : ℕ). get_or old.times.items j 0) z in
                  s.within (at - 1) t (omega arith) (let b = h.below (at - 1) (omega arith) in omega arith) (λ more. let x = after (omega arith) in omega arith) ∙ sym (row-like old new time at h (at - 1) place lt z)
              | inr none ↦ let z : at ≡ 0 = omega arith in none_before t z after ∙ sym (row-first old new time at h place lt z)
            ] ∙ ap (λ (j : ℕ). get_or new.levels.items (j * old.width + place) 0) (sym e))
        | inr o ↦ elim o [
          | inl below ↦
              let is = time-below old new time at h i below in
              s.within i t (omega arith) (omega arith) (λ more. elim (cases_lt (i + 1) at) [
                | inl still ↦ let x = next (omega arith) in let y = time-below old new time at h (i + 1) still in omega arith
                | inr last ↦
                    let e : i + 1 ≡ at = omega arith in
                    let x = next (omega arith) in
                    let y = ap (λ (j : ℕ). get_or new.times.items j 0) e ∙ time-at old new time at h in
                    let z = ap (λ (j : ℕ). get_or old.times.items j 0) e in
                    let a = h.above at (omega arith) (omega arith) in
                    omega arith
              ]) ∙ sym (row-below old new time at h i place lt below)
          | inr above ↦
              let z : i ≡ i - 1 + 1 = omega arith in
              let is = ap (λ (j : ℕ). get_or new.times.items j 0) z ∙ time-above old new time at h (i - 1) (omega arith) in
              s.within (i - 1) t (omega arith) (omega arith) (λ more.
              let x = next (omega arith) in
              let y = time-above old new time at h i (omega arith) in
              let same = ap (λ (j : ℕ). get_or old.times.items j 0) z in
              omega arith)
              ∙ sym (row-above old new time at h (i - 1) place lt (omega arith)) ∙ ap (λ (j : ℕ). get_or new.levels.items (j * old.width + place) 0) (sym z)
        ]
      ];
    }

put-rising : (old new : Steps) (time at : ℕ) → AreInOrder old → IsPutIn old new time at → (i j : ℕ) → i < j → j < length new.times.items → get_or new.times.items i 0 < get_or new.times.items j 0
put-rising old new time at o h i j lt within =
    let longer = times-length old new time at h in
    let low = h.within in
    let place : (k : ℕ) → at < k → get_or new.times.items k 0 ≡ get_or old.times.items (k - 1) 0 =
    λ k more. ap (λ (n : ℕ). get_or new.times.items n 0) (let z : k ≡ k - 1 + 1 = omega arith in z) ∙ time-above old new time at h (k - 1) (omega arith) in
    elim (cases_order i at) [
      | inl e ↦
          let a = ap (λ (n : ℕ). get_or new.times.items n 0) e ∙ time-at old new time at h in
          let b = place j (omega arith) in
          let c = h.above (j - 1) (omega arith) (omega arith) in omega arith
      | inr p ↦ elim p [
        | inl below ↦
            let a = time-below old new time at h i below in
            elim (cases_order j at) [
              | inl e ↦ let b = ap (λ (n : ℕ). get_or new.times.items n 0) e ∙ time-at old new time at h in let c = h.below i below in omega arith
              | inr q ↦ elim q [
                | inl under ↦ let b = time-below old new time at h j under in let c = o.rising i j lt (omega arith) in omega arith
                | inr over ↦ let b = place j over in let c = h.below i below in let d = h.above (j - 1) (omega arith) (omega arith) in omega arith
              ]
            ]
        | inr above ↦ let a = place i above in let b = place j (omega arith) in let c = o.rising (i - 1) (j - 1) (omega arith) (omega arith) in omega arith
      ]
    ]

put-low : (old new : Steps) (time at m : ℕ) → IsPutIn old new time at → ((q : ℕ) → get_or old.levels.items q 0 ≤ m) → (q : ℕ) → get_or new.levels.items q 0 ≤ m
put-low old new time at m h all q =
    elim (cases_lt q (at * old.width)) [
      | inl below ↦ let is = h.levels.below q below in let le = all q in omega arith
      | inr from ↦ elim (cases_lt q (at * old.width + old.width)) [
        | inl own ↦
            let is = h.levels.own q from own in
            let le = all (q - old.width) in
            elim (cases_lt (at * old.width) old.width) [
              | inl zero_row ↦ let z = cond-true (ltb (at * old.width) old.width) 0 (get_or old.levels.items (q - old.width) 0) (lt-ltb (at * old.width) old.width zero_row) in omega arith
              | inr some_row ↦ let z = cond-false (ltb (at * old.width) old.width) 0 (get_or old.levels.items (q - old.width) 0) (le-ltb (at * old.width) old.width some_row) in omega arith
            ]
        | inr above ↦
            let z : q ≡ q - old.width + (at * old.width + old.width - at * old.width) = omega arith in
            let is = ap (λ (n : ℕ). get_or new.levels.items n 0) z ∙ h.levels.above (q - old.width) (omega arith) in
            let le = all (q - old.width) in omega arith
      ]
    ]

put-facts : (old new : Steps) (time at : ℕ) → AreInOrder old → IsPutIn old new time at → SplitFacts old new time at
put-facts old new time at o h =
    let longer = times-length old new time at h in
    let low = h.within in
    record {
      width = h.width;
      order = record {
        rising = put-rising old new time at o h;
        size = let a = h.levels.size in let b = o.size in let c = rows-more (length old.times.items) old.width in
            let d : (length old.times.items + 1) * old.width ≡ length new.times.items * new.width = ap (λ (n : ℕ). n * old.width) (sym longer) ∙ ap (λ (w : ℕ). length new.times.items * w) (sym h.width) in omega arith;
      };
      few = omega arith;
      longer = omega arith;
      within = omega arith;
      found = time-at old new time at h;
      stepped = λ number place lt s. subst (λ (w : ℕ). IsStepped number new.times.items new.levels.items w place) (sym h.width) (put-stepped old new time at h number place lt s);
      low = λ m. put-low old new time at m h;
      kept = λ i lt. elim (cases_lt i at) [
        | inl below ↦ (i, omega arith, time-below old new time at h i below)
        | inr above ↦ (i + 1, omega arith, time-above old new time at h i above)
      ];
      before = λ i lt le. elim (cases_lt i at) [
        | inl below ↦ time-below old new time at h i below
        | inr above ↦ absurd (let a = h.above i above lt in omega arith)
      ];
      only = λ j lt. elim (cases_order j at) [
        | inl e ↦ inr (ap (λ (n : ℕ). get_or new.times.items n 0) e ∙ time-at old new time at h)
        | inr p ↦ elim p [
          | inl below ↦ inl (j, omega arith, sym (time-below old new time at h j below))
          | inr above ↦
              inl (j - 1, omega arith, sym (ap (λ (n : ℕ). get_or new.times.items n 0) (let z : j ≡ j - 1 + 1 = omega arith in z) ∙ time-above old new time at h (j - 1) (omega arith)))
        ]
      ];
    }

pub split-facts : (old new : Steps) (time at : ℕ) → AreInOrder old → IsSplit old new time at → SplitFacts old new time at
split-facts old new time at o (inl there) = there-facts old new time at o there
split-facts old new time at o (inr put) = put-facts old new time at o put
