-- The stretches of a resource, row by row of the calendar.
use Rattle.std.proofs.Common.{◌≡◌, ℕ, ◌+◌, ◌-◌, ◌<◌, ◌≤◌, inl, inr, arith, sym, ap, ◌∙◌, subst, refl, List, [], ◌∷◌, ◌++◌, length, get_or, Bool, cond, ltb, append_assoc}
use Rattle.std.proofs.lemmas.Bool.{cases_lt, cases_order, cases_Bool, ltb-true, ltb-false}
use Rattle.std.proofs.lemmas.List.{get_or_append_left, get_or_push, get_or_past, get_or_default, length_push}
use Rattle.std.proofs.lemmas.List.Elements.{All-get_or, Contains-get_or}
use Rattle.rcpsp_model.specs.declared.parts.CalRow.{CalRow}
use Rattle.rcpsp_model.specs.Project.{Project, IsRenewable, IsWithinLimits, IsRowWithinLimits, capacity}
use Rattle.rcpsp_model.specs.Schedule.{cap}
use Rattle.rcpsp_model.proofs.Calendars.{row_law, other_period_law}
use Rattle.project_net.specs.declared.stretches.Stretch.{Stretch}
use Rattle.project_net.specs.Stretches.{no_stretch, begin_of, capacity_of, AreStretches, row_stretches}
use Rattle.project_net.proofs.CalendarRows.{no_row, over-before}

abbrev stretch : ℕ → ℕ → Stretch
stretch begin capacity = record { begin = begin; capacity = capacity }

-- stretches of a resource as far as a period
pub record AreStretchesUpTo (P : Project) (k at : ℕ) (stretches : List Stretch) : Type 0 where
  pub none : length stretches ≡ 0 → at ≡ 0
  pub first : begin_of stretches 0 ≡ 0
  pub rising : (i j : ℕ) → i < j → j < length stretches → begin_of stretches i < begin_of stretches j
  pub below : (i : ℕ) → i < length stretches → begin_of stretches i < at
  pub each : (i t : ℕ) → i < length stretches → begin_of stretches i ≤ t → (i + 1 < length stretches → t < begin_of stretches (i + 1)) → t < at → cap P k t ≡ capacity_of stretches i
  pub limits : (i : ℕ) → (begin_of stretches i ≤ 10000) × (capacity_of stretches i ≤ 1000000)

begin-old : (S : List Stretch) (s : Stretch) (i : ℕ) → i < length S → begin_of (S ++ s ∷ []) i ≡ begin_of S i
begin-old S s i h = ap (λ (x : Stretch). x.begin) (get_or_append_left S (s ∷ []) no_stretch i h)

capacity-old : (S : List Stretch) (s : Stretch) (i : ℕ) → i < length S → capacity_of (S ++ s ∷ []) i ≡ capacity_of S i
capacity-old S s i h = ap (λ (x : Stretch). x.capacity) (get_or_append_left S (s ∷ []) no_stretch i h)

begin-new : (S : List Stretch) (s : Stretch) (i : ℕ) → length S ≡ i → begin_of (S ++ s ∷ []) i ≡ s.begin
begin-new S s i e = ap (λ (x : Stretch). x.begin) (get_or_push S s no_stretch i e)

capacity-new : (S : List Stretch) (s : Stretch) (i : ℕ) → length S ≡ i → capacity_of (S ++ s ∷ []) i ≡ s.capacity
capacity-new S s i e = ap (λ (x : Stretch). x.capacity) (get_or_push S s no_stretch i e)

-- one stretch more
stretches-push : (P : Project) (k at until c : ℕ) (S : List Stretch) → AreStretchesUpTo P k at S → at < until → at ≤ 10000 → c ≤ 1000000 →
    ((t : ℕ) → at ≤ t → t < until → cap P k t ≡ c) → AreStretchesUpTo P k until (S ++ stretch at c ∷ [])
stretches-push P k at until c S h some early few same =
    let s : Stretch = stretch at c in
    let n = length S in
    let size = length_push S s in
    record {
      none = λ e. absurd (omega arith);
      first = elim (cases_lt 0 n) [
        | inl old ↦ begin-old S s 0 old ∙ h.first
        | inr new ↦ let e : n ≡ 0 = omega arith in begin-new S s 0 e ∙ h.none e
      ];
      rising = λ i j lt within. elim (cases_lt j n) [
        | inl old ↦ let a = begin-old S s i (omega arith) in let b = begin-old S s j old in let r = h.rising i j lt old in omega arith
        | inr new ↦ let a = begin-old S s i (omega arith) in let b = begin-new S s j (omega arith) in let r = h.below i (omega arith) in omega arith
      ];
      below = λ i within. elim (cases_lt i n) [
        | inl old ↦ let a = begin-old S s i old in let r = h.below i old in omega arith
        | inr new ↦ let a = begin-new S s i (omega arith) in omega arith
      ];
      each = λ i t within begun next before. elim (cases_lt i n) [
        | inl old ↦
            let a = begin-old S s i old in
            let upto : (i + 1 < n → t < begin_of S (i + 1)) × (t < at) = elim (cases_lt (i + 1) n) [
              | inl more ↦ let b = begin-old S s (i + 1) more in let z = next (omega arith) in let r = h.below (i + 1) more in (λ _. omega arith, omega arith)
              | inr last ↦ let b = begin-new S s (i + 1) (omega arith) in let z = next (omega arith) in (λ more. absurd (omega arith), omega arith)
            ] in
            h.each i t old (omega arith) upto.0 upto.1 ∙ sym (capacity-old S s i old)
        | inr new ↦ let e : n ≡ i = omega arith in let a = begin-new S s i e in same t (omega arith) before ∙ sym (capacity-new S s i e)
      ];
      limits = λ i. elim (cases_order i n) [
        | inl e ↦ let a = begin-new S s i (sym e) in let b = capacity-new S s i (sym e) in (omega arith, omega arith)
        | inr o ↦ elim o [
          | inl old ↦ let a = begin-old S s i old in let b = capacity-old S s i old in let r = (h.limits i).0 in let q = (h.limits i).1 in (omega arith, omega arith)
          | inr past ↦
              let e = get_or_past (S ++ s ∷ []) i no_stretch (omega arith) in
              let a = ap (λ (x : Stretch). x.begin) e in let b = ap (λ (x : Stretch). x.capacity) e in (omega arith, omega arith)
        ]
      ];
    }

-- the last stretch, for good
stretches-end : (P : Project) (k at c : ℕ) (S : List Stretch) → AreStretchesUpTo P k at S → at ≤ 10000 → c ≤ 1000000 → ((t : ℕ) → at ≤ t → cap P k t ≡ c) → AreStretches P k (S ++ stretch at c ∷ [])
stretches-end P k at c S h early few same =
    let upto : (t : ℕ) → AreStretchesUpTo P k (at + t + 1) (S ++ stretch at c ∷ []) = λ t. stretches-push P k at (at + t + 1) c S h (omega arith) early few (λ u low high. same u low) in
    record {
      some = let size = length_push S (stretch at c) in omega arith;
      first = (upto 0).first;
      rising = (upto 0).rising;
      each = λ i t within begun next. (upto t).each i t within begun next (omega arith);
      limits = (upto 0).limits;
    }

-- the stretches of a resource after the first rows of the calendar: they reach up to the end of its last row among them
pub record HasStretches (P : Project) (k i at : ℕ) (stretches : List Stretch) : Type 0 where
  pub upto : AreStretchesUpTo P k at stretches
  pub over : (j : ℕ) → j < i → (get_or P.calendar j no_row).resource ≡ k → (get_or P.calendar j no_row).until ≤ at
  pub ahead : (j : ℕ) → i ≤ j → j < length P.calendar → (get_or P.calendar j no_row).resource ≡ k → at ≤ (get_or P.calendar j no_row).begin
  pub early : at ≤ 10000

pub stretches-none : (P : Project) (k : ℕ) → HasStretches P k 0 0 []
stretches-none P k = record {
  upto = record {
    none = λ e. refl;
    first = refl;
    rising = λ i j lt h. absurd (let z : j < 0 = h in omega arith);
    below = λ i h. absurd (let z : i < 0 = h in omega arith);
    each = λ i t h. absurd (let z : i < 0 = h in omega arith);
    limits = λ i. (omega arith, omega arith);
  };
  over = λ j h. absurd (omega arith);
  ahead = λ j low h e. omega arith;
  early = omega arith;
}

-- a row of another resource
pub stretches-skip : (P : Project) (k i at : ℕ) (S : List Stretch) → HasStretches P k i at S → ((get_or P.calendar i no_row).resource ≡ k → ⊥) → HasStretches P k (i + 1) at S
stretches-skip P k i at S h other = record {
  upto = h.upto;
  over = λ j lt e. elim (cases_lt j i) [
    | inl old ↦ h.over j old e
    | inr new ↦ absurd (other (ap (λ (n : ℕ). (get_or P.calendar n no_row).resource) (let z : i ≡ j = omega arith in z) ∙ e))
  ];
  ahead = λ j low within e. h.ahead j (omega arith) within e;
  early = h.early;
}

-- no row of the resource has a period between those that are over and those ahead
between-rows : (P : Project) (k i at t : ℕ) (S : List Stretch) → HasStretches P k i at S → at ≤ t →
    ((j : ℕ) → i ≤ j → j < length P.calendar → (get_or P.calendar j no_row).resource ≡ k → t < (get_or P.calendar j no_row).begin) → cap P k t ≡ capacity P k
between-rows P k i at t S h low ahead =
    other_period_law P k t (λ r has e begun before.
    let j = has.0 in
    let is : get_or P.calendar j no_row ≡ r = get_or_default P.calendar j no_row r has.1 ∙ has.2 in
    let resource = ap (λ (x : CalRow). x.resource) is ∙ e in
    let begin = ap (λ (x : CalRow). x.begin) is in
    let until = ap (λ (x : CalRow). x.until) is in
    elim (cases_lt j i) [
      | inl old ↦ let z = h.over j old resource in omega arith
      | inr new ↦ let z = ahead j new has.1 resource in omega arith
    ])

row-pushed : (P : Project) (k at c : ℕ) (S : List Stretch) (r : CalRow) → AreStretchesUpTo P k at S → at ≤ 10000 → at ≤ r.begin → r.begin < r.until → r.until ≤ 10000 → c ≤ 1000000 → r.capacity ≤ c →
    ((t : ℕ) → at ≤ t → t < r.begin → cap P k t ≡ c) → ((t : ℕ) → r.begin ≤ t → t < r.until → cap P k t ≡ r.capacity) → AreStretchesUpTo P k r.until (S ++ row_stretches at c r)
row-pushed P k at c S r h early ahead some until few less before own = elim (cases_Bool (ltb at r.begin)) [
  | inl gap ↦
      let first = stretches-push P k at r.begin c S h (ltb-true at r.begin gap) early few before in
      let both = stretches-push P k r.begin r.until r.capacity (S ++ stretch at c ∷ []) first some (omega arith) (omega arith) own in
      subst (λ (l : List Stretch). AreStretchesUpTo P k r.until l)
      (append_assoc S (stretch at c ∷ []) (stretch r.begin r.capacity ∷ [])
      ∙ ap (λ (b : Bool). S ++ cond b (stretch at c ∷ stretch r.begin r.capacity ∷ []) (stretch r.begin r.capacity ∷ [])) (sym gap)) both
  | inr none ↦
      let le = ltb-false at r.begin none in
      let e : at ≡ r.begin = omega arith in
      let one = stretches-push P k r.begin r.until r.capacity S (subst (λ (n : ℕ). AreStretchesUpTo P k n S) e h) some (omega arith) (omega arith) own in
      subst (λ (l : List Stretch). AreStretchesUpTo P k r.until l)
      (ap (λ (b : Bool). S ++ cond b (stretch at c ∷ stretch r.begin r.capacity ∷ []) (stretch r.begin r.capacity ∷ [])) (sym none)) one
]

-- a row of the resource
stretches-row : (P : Project) (k i at : ℕ) (S : List Stretch) → IsWithinLimits P → IsRenewable P k → i < length P.calendar → HasStretches P k i at S → (get_or P.calendar i no_row).resource ≡ k →
    HasStretches P k (i + 1) (get_or P.calendar i no_row).until (S ++ row_stretches at (capacity P k) (get_or P.calendar i no_row))
unfolding capacity
stretches-row P k i at S w r within h mine =
    let row : CalRow = get_or P.calendar i no_row in
    let limits = All-get_or (IsRowWithinLimits P.capacities) P.calendar i no_row within w.rows in
    let some = limits.some_period in let until = limits.until in
    let ahead = h.ahead i (omega arith) within mine in
    let later : (j : ℕ) → i + 1 ≤ j → j < length P.calendar → (get_or P.calendar j no_row).resource ≡ k → row.until ≤ (get_or P.calendar j no_row).begin =
    λ j low high e. over-before P.capacities P.calendar w.rows w.calendar i j (omega arith) high (mine ∙ sym e) in
    let low = r.0 in let high = r.1 in
    let few = All-get_or (λ (n : ℕ). n ≤ 1000000) P.capacities (k - 1) 0 (omega arith) w.capacities in
    record {
      upto = row-pushed P k at (capacity P k) S row h.upto h.early ahead some until few
          (let less = limits.capacity in let e = ap (λ (n : ℕ). get_or P.capacities (n - 1) 0) mine in omega arith)
          (λ t from before. between-rows P k i at t S h from (λ j l within' e. elim (cases_lt i j) [
            | inl more ↦ let z = later j (omega arith) within' e in omega arith
            | inr same ↦ subst (λ (n : ℕ). t < (get_or P.calendar n no_row).begin) (let z : i ≡ j = omega arith in z) before
          ]))
          (λ t from before. subst (λ (n : ℕ). cap P n t ≡ row.capacity) mine (row_law P row t w (Contains-get_or P.calendar i no_row within) from before));
      over = λ j lt e. elim (cases_lt j i) [
        | inl old ↦ let z = h.over j old e in omega arith
        | inr new ↦ let same = ap (λ (n : ℕ). (get_or P.calendar n no_row).until) (let z : i ≡ j = omega arith in z) in omega arith
      ];
      ahead = later;
      early = until;
    }

-- after the last row
stretches-all : (P : Project) (k i at : ℕ) (S : List Stretch) → IsWithinLimits P → IsRenewable P k → length P.calendar ≤ i → HasStretches P k i at S → AreStretches P k (S ++ stretch at (capacity P k) ∷ [])
unfolding capacity
stretches-all P k i at S w r past h =
    let low = r.0 in let high = r.1 in
    stretches-end P k at (capacity P k) S h.upto h.early (All-get_or (λ (n : ℕ). n ≤ 1000000) P.capacities (k - 1) 0 (omega arith) w.capacities)
    (λ t from. between-rows P k i at t S h from (λ j l within e. absurd (omega arith)))

-- what was pushed for a row of the resource, and at the end
pub row-more : (P : Project) (k i at c : ℕ) (S now : List Stretch) (r : CalRow) → IsWithinLimits P → IsRenewable P k → i < length P.calendar → HasStretches P k i at S →
    r ≡ get_or P.calendar i no_row → r.resource ≡ k → c ≡ capacity P k → now ≡ S ++ row_stretches at c r → HasStretches P k (i + 1) r.until now
row-more P k i at c S now r w own within h is mine all pushed =
    let here = stretches-row P k i at S w own within h (ap (λ (x : CalRow). x.resource) (sym is) ∙ mine) in
    let same : S ++ row_stretches at (capacity P k) (get_or P.calendar i no_row) ≡ now =
    sym (pushed ∙ ap (λ (x : CalRow). S ++ row_stretches at c x) is ∙ ap (λ (n : ℕ). S ++ row_stretches at n (get_or P.calendar i no_row)) all) in
    subst (HasStretches P k (i + 1) r.until) same
    (subst (λ (x : CalRow). HasStretches P k (i + 1) x.until (S ++ row_stretches at (capacity P k) (get_or P.calendar i no_row))) (sym is) here)

pub end-more : (P : Project) (k i at c : ℕ) (S now : List Stretch) → IsWithinLimits P → IsRenewable P k → length P.calendar ≤ i → HasStretches P k i at S →
    c ≡ capacity P k → now ≡ S ++ stretch at c ∷ [] → AreStretches P k now
end-more P k i at c S now w own past h all pushed =
    subst (AreStretches P k) (sym (pushed ∙ ap (λ (n : ℕ). S ++ stretch at n ∷ []) all)) (stretches-all P k i at S w own past h)
