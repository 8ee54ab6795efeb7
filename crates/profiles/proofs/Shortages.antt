-- Where there is too little of a resource, stretch by stretch.
use Rattle.std.proofs.Common.{◌≡◌, ℕ, ◌+◌, ◌-◌, ◌<◌, ◌≤◌, ◌^◌, min, max, inl, inr, arith, ap, List, length, refl, cond, ltb}
use Rattle.std.proofs.lemmas.Bool.{cases_lt, cases_eq, cond-true, cond-false, lt-ltb, le-ltb}
use Rattle.rcpsp_model.specs.Project.{Project}
use Rattle.rcpsp_model.specs.Schedule.{cap}
use Rattle.project_net.specs.declared.stretches.Stretch.{Stretch}
use Rattle.project_net.specs.Stretches.{begin_of, capacity_of, AreStretches}
use Rattle.profiles.specs.Steps.{IsSpan}

-- a request that exceeds the capacity alone is short all along
pub span-all : (number : ℕ → ℕ) (capacity request from until next : ℕ) → capacity < request → from < until → until ≤ next → IsSpan (λ t. capacity < number t + request) from until next
span-all number capacity request from until next short some within = record { begin = from; after = omega arith; inside = some; some = omega arith; each = λ t low high. omega arith }

-- what is above the rest of the capacity is short, up to the next stretch
pub span-rest : (number : ℕ → ℕ) (capacity request from until end end' next : ℕ) → request ≤ capacity → until ≤ next → end' ≡ min end next → IsSpan (λ t. capacity - request < number t) from until end →
    IsSpan (λ t. capacity < number t + request) from until end'
span-rest number capacity request from until end end' next enough within e s =
    let a = s.after in let b = s.inside in let c = s.some in
    record { begin = s.begin; after = a; inside = b; some = omega arith; each = λ t low high. let over = s.each t low (omega arith) in omega arith }

-- the stretch of a place, as far as it is one of some periods
pub record IsWithin (stretches : List Stretch) (from until i first end next : ℕ) : Type 0 where
  pub place : i < length stretches
  pub after : from ≤ first
  pub begun : begin_of stretches i ≤ first
  pub least : (t : ℕ) → from ≤ t → begin_of stretches i ≤ t → first ≤ t
  pub some : first < end
  pub inside : end ≤ until
  pub within : end ≤ next
  pub up_to : (t : ℕ) → t < next → i + 1 < length stretches → t < begin_of stretches (i + 1)
  pub whole : (t : ℕ) → t < until → (i + 1 < length stretches → t < begin_of stretches (i + 1)) → t < end

-- the places that the code walks over
pub within-from : (P : Project) (k : ℕ) (stretches : List Stretch) (from until first place begin end next : ℕ) → AreStretches P k stretches → first ≤ place → place < length stretches →
    (first + 1 < length stretches → from < begin_of stretches (first + 1)) → begin ≡ max from (begin_of stretches place) →
    begin < until → until < 2 ^ 64 → begin < 2 ^ 32 → (place + 1 < length stretches → next ≡ begin_of stretches (place + 1)) → (length stretches ≤ place + 1 → next ≡ 2 ^ 64 - 1) → end ≡ min next until →
    IsWithin stretches from until place begin end next
within-from P k stretches from until first place begin end next s le within ahead is some small small' more last e =
    let later : begin < next = elim (cases_lt (place + 1) (length stretches)) [
      | inl m ↦
          let n = more m in
          let r = s.rising place (place + 1) (omega arith) m in
          let y = ahead (omega arith) in
          elim (cases_eq first place) [
            | inl same ↦ let z = ap (λ (i : ℕ). begin_of stretches (i + 1)) same in omega arith
            | inr other ↦ let q = s.rising (first + 1) (place + 1) (omega arith) m in omega arith
          ]
      | inr none ↦ let n = last none in omega arith
    ] in
    record {
      place = within;
      after = omega arith;
      begun = omega arith;
      least = λ t a b. omega arith;
      some = omega arith;
      inside = omega arith;
      within = omega arith;
      up_to = λ t h m. let n = more m in omega arith;
      whole = λ t h before. elim (cases_lt (place + 1) (length stretches)) [ inl m ↦ let n = more m in let b = before m in omega arith | inr none ↦ let n = last none in omega arith ];
    }

-- the periods before a stretch's end are those before its begin and those of the stretch
pub enough-more : (number : ℕ → ℕ) (P : Project) (k : ℕ) (stretches : List Stretch) (request from until place begin end next : ℕ) → AreStretches P k stretches → IsWithin stretches from until place begin end next →
    ((t : ℕ) → begin ≤ t → t < end → number t + request ≤ capacity_of stretches place) →
    (t : ℕ) → from ≤ t → t < until → (t < begin_of stretches place → number t + request ≤ cap P k t) → (place + 1 < length stretches → t < begin_of stretches (place + 1)) → number t + request ≤ cap P k t
enough-more number P k stretches request from until place begin end next s w here t low high old before =
    elim (cases_lt t (begin_of stretches place)) [
      | inl earlier ↦ old earlier
      | inr begun ↦ let is = s.each place t w.place begun before in let fits = here t (w.least t low begun) (w.whole t high before) in omega arith
    ]

-- a span in a stretch is one of the periods
pub span-stretch : (number : ℕ → ℕ) (P : Project) (k : ℕ) (stretches : List Stretch) (request from until place begin end next last : ℕ) → AreStretches P k stretches → IsWithin stretches from until place begin end next →
    last ≤ next → IsSpan (λ t. capacity_of stretches place < number t + request) begin end last → IsSpan (λ t. cap P k t < number t + request) from until last
span-stretch number P k stretches request from until place begin end next last s w le span =
    let a = span.after in let b = span.inside in let c = w.after in let d = w.inside in let f = w.begun in
    record {
      begin = span.begin;
      after = omega arith;
      inside = omega arith;
      some = span.some;
      each = λ t low high. let over = span.each t low high in let is = s.each place t w.place (omega arith) (λ m. w.up_to t (omega arith) m) in omega arith;
    }

-- a usage that only falls from the first period on is decided where the stretch begins
pub falls-more : (number : ℕ → ℕ) (P : Project) (k : ℕ) (stretches : List Stretch) (request from until place begin end next : ℕ) → AreStretches P k stretches → IsWithin stretches from until place begin end next →
    ((u : ℕ) → begin ≤ u → number u ≤ number begin) → number begin + request ≤ capacity_of stretches place →
    (t : ℕ) → from ≤ t → t < until → (t < begin_of stretches place → number t + request ≤ cap P k t) → (place + 1 < length stretches → t < begin_of stretches (place + 1)) → number t + request ≤ cap P k t
falls-more number P k stretches request from until place begin end next s w falls here =
    enough-more number P k stretches request from until place begin end next s w (λ t low high. let le = falls t low in omega arith)

-- and where it exceeds the capacity there, there is too little
pub short-begin : (number : ℕ → ℕ) (P : Project) (k : ℕ) (stretches : List Stretch) (request from until place begin end next : ℕ) → AreStretches P k stretches → IsWithin stretches from until place begin end next →
    capacity_of stretches place < number begin + request → ((t : ℕ) → from ≤ t → t < until → number t + request ≤ cap P k t) → ⊥
short-begin number P k stretches request from until place begin end next s w short enough =
    let some = w.some in
    let inside = w.inside in
    let within = w.within in
    let fits = enough begin w.after (omega arith) in
    let is = s.each place begin w.place w.begun (λ m. w.up_to begin (omega arith) m) in
    omega arith

-- where the next stretch begins, or a period that no job reaches
abbrev pub next_of : List Stretch → ℕ → ℕ
next_of stretches place = cond (ltb (place + 1) (length stretches)) (begin_of stretches (place + 1)) (2 ^ 64 - 1)

-- the same where the code doesn't ask for the next stretch
pub within-here : (P : Project) (k : ℕ) (stretches : List Stretch) (from until first place begin : ℕ) → AreStretches P k stretches → first ≤ place → place < length stretches →
    (first + 1 < length stretches → from < begin_of stretches (first + 1)) → begin ≡ max from (begin_of stretches place) → begin < until → until < 2 ^ 64 → begin < 2 ^ 32 →
    IsWithin stretches from until place begin (min (next_of stretches place) until) (next_of stretches place)
within-here P k stretches from until first place begin s le within ahead is some small small' =
    within-from P k stretches from until first place begin (min (next_of stretches place) until) (next_of stretches place) s le within ahead is some small small'
    (λ m. cond-true (ltb (place + 1) (length stretches)) (begin_of stretches (place + 1)) (2 ^ 64 - 1) (lt-ltb (place + 1) (length stretches) m))
    (λ n. cond-false (ltb (place + 1) (length stretches)) (begin_of stretches (place + 1)) (2 ^ 64 - 1) (le-ltb (place + 1) (length stretches) n))
    refl
