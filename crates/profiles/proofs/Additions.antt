-- The requests of an entry, added in the rows from its start up to its finish.
use Rattle.std.proofs.Common.{◌≡◌, ℕ, ◌+◌, ◌*◌, ◌%◌, ◌<◌, ◌≤◌, ◌⊎◌, inl, inr, arith, sym, ap, ◌∙◌, List, length, get_or, cond, ltb, leb, Bool}
use Rattle.std.proofs.lemmas.Bool.{cases_lt, and_from, and_left, and_right, le-leb, lt-leb, lt-ltb, le-ltb}
use Rattle.std.proofs.lemmas.Nat.{mod-mul-add}
use Rattle.profiles.specs.declared.steps.Steps.{Steps}
use Rattle.profiles.specs.Steps.{IsStepped}
use Rattle.profiles.specs.Adding.{AreRaised, IsAdded, between}
use Rattle.profiles.proofs.Reading.{rising-le}
use Rattle.profiles.proofs.Splits.{SplitFacts, rows-le, row-lt}

between-in : (start finish r t : ℕ) → start ≤ t → t < finish → between start finish r t ≡ r
between-in start finish r t a b = ap (λ (c : Bool). cond c r 0) (and_from _ _ (le-leb start t a) (lt-ltb t finish b))

between-before : (start finish r t : ℕ) → t < start → between start finish r t ≡ 0
between-before start finish r t a = ap (λ (c : Bool). cond c r 0) (and_left _ (ltb t finish) (lt-leb start t a))

between-after : (start finish r t : ℕ) → finish ≤ t → between start finish r t ≡ 0
between-after start finish r t a = ap (λ (c : Bool). cond c r 0) (and_right (leb start t) _ (le-ltb t finish a))

-- the rows from the start's up to the finish's have the request more
raised-row : (old new requests : List ℕ) (first last width i place : ℕ) → AreRaised old new (first * width) (last * width) requests → length requests ≡ width → place < width → first ≤ i → i < last →
    get_or new (i * width + place) 0 ≡ get_or old (i * width + place) 0 + get_or requests place 0
raised-row old new requests first last width i place h e lt low high =
    let up = rows-le first i width low in
    let is = h.inside (i * width + place) (omega arith) (row-lt i width place last high lt) in
    let same = ap (λ (n : ℕ). get_or requests ((i * width + place) % n) 0) e ∙ ap (λ (n : ℕ). get_or requests n 0) (mod-mul-add i width place lt) in
    omega arith

same-row : (old new requests : List ℕ) (first last width i place : ℕ) → AreRaised old new (first * width) (last * width) requests → place < width → (i < first) ⊎ (last ≤ i) →
    get_or new (i * width + place) 0 ≡ get_or old (i * width + place) 0
same-row old new requests first last width i place h lt out = elim out [
  | inl before ↦ h.outside (i * width + place) (inl (row-lt i width place first before lt))
  | inr after ↦ h.outside (i * width + place) (inr (let up = rows-le last i width after in omega arith))
]

-- the numbers of the periods with the request more from the start up to the finish
added-stepped : (number : ℕ → ℕ) (times old new requests : List ℕ) (first last width start finish place : ℕ) → ((i j : ℕ) → i < j → j < length times → get_or times i 0 < get_or times j 0) →
    first < length times → last < length times → get_or times first 0 ≡ start → get_or times last 0 ≡ finish → start ≤ finish → AreRaised old new (first * width) (last * width) requests →
    length requests ≡ width → place < width → IsStepped number times old width place → IsStepped (λ t. number t + between start finish (get_or requests place 0) t) times new width place
added-stepped number times old new requests first last width start finish place rising in_first in_last is_start is_finish order h e lt s =
    let r : ℕ = get_or requests place 0 in
    record {
      before = λ t none.
          let zero_old = s.before t none in
          let x = none (omega arith) in
          let up = rising-le times rising 0 first (omega arith) in_first in
          let zero_new = between-before start finish r t (omega arith) in omega arith;
      within = λ i t within come next.
          let was = s.within i t within come next in
          elim (cases_lt i first) [
            | inl before ↦
                let x = next (omega arith) in
                let up = rising-le times rising (i + 1) first (omega arith) in_first in
                let none = between-before start finish r t (omega arith) in
                let row = same-row old new requests first last width i place h lt (inl before) in omega arith
            | inr begun ↦ elim (cases_lt i last) [
              | inl running ↦
                  let x = next (omega arith) in
                  let up = rising-le times rising first i begun within in
                  let down = rising-le times rising (i + 1) last (omega arith) in_last in
                  let all = between-in start finish r t (omega arith) (omega arith) in
                  let row = raised-row old new requests first last width i place h e lt begun running in omega arith
              | inr over ↦
                  let up = rising-le times rising last i over within in
                  let none = between-after start finish r t (omega arith) in
                  let row = same-row old new requests first last width i place h lt (inr over) in omega arith
            ]
          ];
    }

-- both times are there, in their order
pub first-there : (old middle both : Steps) (start finish first last : ℕ) → start ≤ finish → SplitFacts old middle start first → SplitFacts middle both finish last → get_or both.times.items first 0 ≡ start
first-there old middle both start finish first last le a b = let found = a.found in b.before first a.within (omega arith) ∙ found

pub first-within : (old middle both : Steps) (start finish first last : ℕ) → SplitFacts old middle start first → SplitFacts middle both finish last → first < length both.times.items
first-within old middle both start finish first last a b = let within = a.within in let longer = b.longer in omega arith

pub first-le : (old middle both : Steps) (start finish first last : ℕ) → start ≤ finish → SplitFacts old middle start first → SplitFacts middle both finish last → first ≤ last
first-le old middle both start finish first last le a b =
    let there = first-there old middle both start finish first last le a b in
    let within = first-within old middle both start finish first last a b in
    let found = b.found in
    elim (cases_lt last first) [ inl lt ↦ absurd (let r = b.order.rising last first lt within in omega arith) | inr ge ↦ ge ]

-- the rows after both splits, with the requests added in the rows between
abbrev pub with_levels : Steps → Steps → Steps
with_levels both given = record { times = both.times; levels = given.levels; width = both.width }

pub added : (old middle both given : Steps) (start finish first last : ℕ) (requests : List ℕ) → start ≤ finish → SplitFacts old middle start first → SplitFacts middle both finish last →
    AreRaised both.levels.items given.levels.items (first * both.width) (last * both.width) requests → length requests ≡ old.width → IsAdded old (with_levels both given) start finish requests
added old middle both given start finish first last requests le a b raised wide =
    let same : both.width ≡ old.width = b.width ∙ a.width in
    let middle_width = a.width in
    let there = first-there old middle both start finish first last le a b in
    let within = first-within old middle both start finish first last a b in
    record {
      width = same;
      order = record { rising = b.order.rising; size = raised.size ∙ b.order.size };
      few = let x = a.few in let y = b.few in omega arith;
      stepped = λ number place lt s.
          added-stepped number both.times.items both.levels.items given.levels.items requests first last both.width start finish place b.order.rising within b.within there b.found le raised (wide ∙ sym same) (omega arith)
          (b.stepped number place (omega arith) (a.stepped number place lt s));
      kept = λ i lt. let x = a.kept i lt in let y = b.kept x.0 x.1 in (y.0, y.1, y.2 ∙ x.2);
      first = (first, within, there);
      last = (last, b.within, b.found);
      only = λ j lt. elim (b.only j lt) [
        | inl x ↦ elim (a.only x.0 x.1) [
          | inl y ↦ inl (y.0, y.1, y.2 ∙ x.2)
          | inr e ↦ inr (inl (sym x.2 ∙ e))
        ]
        | inr e ↦ inr (inr e)
      ];
    }
