-- A start and the stretches of a resource that the job's periods meet.
use Rattle.std.proofs.Common.{◌≡◌, ℕ, ◌+◌, ◌-◌, ◌<◌, ◌≤◌, max, inl, inr, arith, ap, List, length}
use Rattle.std.specs.Prelude.{◌↔◌}
use Rattle.std.proofs.lemmas.Bool.{cases_lt}
use Rattle.rcpsp_model.specs.Project.{Project, request, duration, capacity, IsRenewable}
use Rattle.rcpsp_model.specs.Schedule.{cap, calm}
use Rattle.rcpsp_model.proofs.Calendars.{whole_law}
use Rattle.project_net.specs.declared.stretches.Stretch.{Stretch}
use Rattle.project_net.specs.Stretches.{begin_of, capacity_of, AreStretches}
use Rattle.precedence_tree.specs.declared.active.Active.{Active}
use Rattle.precedence_tree.specs.Active.{load_at}
use Rattle.precedence_tree.specs.Starts.{HasRoomAt, FitsOn, FitsBeside, IsNextTry}
use Rattle.precedence_tree.proofs.StartSteps.{room-later}

-- the job fits in its periods before a period
abbrev pub FitsBefore : Project → List Active → ℕ → ℕ → ℕ → ℕ → ℕ → Type 0
FitsBefore P xs j m k start until = (u : ℕ) → start ≤ u → u < start + duration P j m → u < until → load_at P xs k u + request P j m k ≤ cap P k u

-- from the period on there is what the mode asks of so much of the resource, if that comes before the end
abbrev pub IsFreeFrom : Project → List Active → ℕ → ℕ → ℕ → ℕ → ℕ → Type 0
IsFreeFrom P xs k asked c until free = (t : ℕ) → t < until → (free ≤ t) ↔ (load_at P xs k t + asked ≤ c)

-- none of its periods is before the start
pub before-start : (P : Project) (xs : List Active) (j m k start until : ℕ) → until ≤ start → FitsBefore P xs j m k start until
before-start P xs j m k start until le u low high before = absurd (omega arith)

-- one stretch more in which it fits
pub before-more : (P : Project) (xs : List Active) (j m k : ℕ) (S : List Stretch) (start place free : ℕ) → AreStretches P k S → place + 1 < length S → free ≤ max start (begin_of S place) →
    IsFreeFrom P xs k (request P j m k) (capacity_of S place) (begin_of S (place + 1)) free → FitsBefore P xs j m k start (begin_of S place) → FitsBefore P xs j m k start (begin_of S (place + 1))
before-more P xs j m k S start place free are within le frees fits u low high before = elim (cases_lt u (begin_of S place)) [
  | inl old ↦ fits u low high old
  | inr here ↦
      let there = are.each place u (omega arith) here (λ _. before) in
      let enough = (frees u before).0 (omega arith) in
      omega arith
]

-- a stretch in which it doesn't fit at once
pub next-from : (P : Project) (xs : List Active) (j m k : ℕ) (S : List Stretch) (start place free : ℕ) → AreStretches P k S → place + 1 < length S → begin_of S place < start + duration P j m → 0 < duration P j m →
    max start (begin_of S place) < free → free ≤ begin_of S (place + 1) → IsFreeFrom P xs k (request P j m k) (capacity_of S place) (begin_of S (place + 1)) free → IsNextTry (FitsOn P xs j m k) start free
next-from P xs j m k S start place free are within meets some over few frees = record {
  later = omega arith;
  least = λ t from fits. elim (cases_lt t free) [
    | inl before ↦
        let u = max t (begin_of S place) in
        let there = are.each place u (omega arith) (omega arith) (λ _. omega arith) in
        let enough = fits u (omega arith) (omega arith) in
        let free_by = (frees u (omega arith)).1 (omega arith) in
        absurd (omega arith)
    | inr from_here ↦ from_here
  ];
}

-- in the last stretch there is the whole capacity
pub last-whole : (P : Project) (k : ℕ) (S : List Stretch) (u : ℕ) → AreStretches P k S → begin_of S (length S - 1) ≤ u → cap P k u ≡ capacity P k
last-whole P k S u are begun =
    let some = are.some in
    let here = are.each (length S - 1) u (omega arith) begun (λ more. absurd (omega arith)) in
    let late = are.each (length S - 1) (max u (calm P)) (omega arith) (omega arith) (λ more. absurd (omega arith)) in
    let whole = whole_law P k (max u (calm P)) (omega arith) in
    omega arith

-- where it fits before the last stretch, it fits
pub before-all : (P : Project) (xs : List Active) (j m k : ℕ) (S : List Stretch) (start place : ℕ) → AreStretches P k S → IsRenewable P k → place + 1 ≡ length S → HasRoomAt P xs j m start →
    FitsBefore P xs j m k start (begin_of S place) → FitsOn P xs j m k start
before-all P xs j m k S start place are r all room fits u low high = elim (cases_lt u (begin_of S place)) [
  | inl before ↦ fits u low high before
  | inr last ↦
      let here = room-later P xs j m start u low room k r in
      let whole = last-whole P k S u are (let same : begin_of S (length S - 1) ≡ begin_of S place = ap (begin_of S) (let e : length S - 1 ≡ place = omega arith in e) in omega arith) in
      omega arith
]

-- what can't fit on one resource can't fit on all
pub next-of_all : (P : Project) (xs : List Active) (j m k start next : ℕ) → IsRenewable P k → IsNextTry (FitsOn P xs j m k) start next → IsNextTry (FitsBeside P xs j m) start next
next-of_all P xs j m k start next r is = record { later = is.later; least = λ t from fits. is.least t from (fits k r) }
