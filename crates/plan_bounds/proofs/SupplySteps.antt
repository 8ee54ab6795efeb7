-- The periods that hold so much work, stretch by stretch.
use Rattle.std.proofs.Common.{◌≡◌, ℕ, zero, suc, ◌+◌, ◌-◌, ◌*◌, ◌/◌, ◌<◌, ◌≤◌, inl, inr, arith, ap, ◌∙◌, subst, min, List, length}
use Rattle.std.proofs.Math.Nat.{suc-mul, mul_comm, lt-div-mul-add}
use Rattle.std.proofs.lemmas.Nat.{div_below}
use Rattle.std.proofs.lemmas.Bool.{cases_lt}
use Rattle.rcpsp_model.specs.declared.parts.Entry.{Entry}
use Rattle.rcpsp_model.specs.Project.{Project, IsRenewable, capacity}
use Rattle.rcpsp_model.specs.Schedule.{cap}
use Rattle.rcpsp_model.specs.Chain.{IsLeast}
use Rattle.rcpsp_model.specs.Tree.{last_start}
use Rattle.rcpsp_model.specs.Bounds.{rest_work, supply, IsWorkBound}
use Rattle.project_net.specs.declared.stretches.Stretch.{Stretch}
use Rattle.project_net.specs.Stretches.{begin_of, capacity_of, AreStretches}
use Rattle.precedence_tree.proofs.BreakSteps.{last-whole}
use Rattle.plan_bounds.specs.Work.{Holds, IsEndOfWork}

-- The quotient, rounded up.
pub quotient-least : (work c : ℕ) → 0 < c → IsLeast (λ n. work ≤ n * c) ((work + c - 1) / c)
quotient-least work c some = record {
  attained = let below = lt-div-mul-add {a = work + c - 1} {b = c} some in omega arith;
  least = λ n enough. let product = suc-mul n c in let below = div_below (work + c - 1) c (suc n) some (omega arith) in omega arith;
}

-- one unit or more in each period
pub one-each : (work c : ℕ) → 0 < c → work ≤ work * c
one-each zero c some = omega arith
one-each (suc work) c some = let product = suc-mul work c in let ih = one-each work c some in omega arith

-- What there is in some periods, and in those after them.
supply-add : (P : Project) (k t m n : ℕ) → supply P k t (m + n) ≡ supply P k t m + supply P k (t + m) n
supply-add P k t zero n =
    let one : supply P k t (zero + n) ≡ supply P k t n = ap (supply P k t) (let e : zero + n ≡ n = omega arith in e) in
    let two : supply P k (t + zero) n ≡ supply P k t n = ap (λ (u : ℕ). supply P k u n) (let e : t + zero ≡ t = omega arith in e) in
    omega arith
supply-add P k t (suc m) n =
    let ih = supply-add P k (t + 1) m n in
    let one : supply P k t (suc m + n) ≡ supply P k t (suc (m + n)) = ap (supply P k t) (let e : suc m + n ≡ suc (m + n) = omega arith in e) in
    let two : supply P k (t + 1 + m) n ≡ supply P k (t + suc m) n = ap (λ (u : ℕ). supply P k u n) (let e : t + 1 + m ≡ t + suc m = omega arith in e) in
    omega arith

-- one amount in each of them
supply-even : (P : Project) (k t n c : ℕ) → ((u : ℕ) → t ≤ u → u < t + n → cap P k u ≡ c) → supply P k t n ≡ n * c
supply-even P k t zero c same = omega arith
supply-even P k t (suc n) c same =
    let now = same t (omega arith) (omega arith) in
    let ih = supply-even P k (t + 1) n c (λ u low high. same u (omega arith) (omega arith)) in
    let product = suc-mul n c in
    omega arith

-- from the first period up to a later one, and so many more in which there is one amount
supply-from : (P : Project) (k first at n c : ℕ) → first ≤ at → ((u : ℕ) → at ≤ u → u < at + n → cap P k u ≡ c) → supply P k first (at + n - first) ≡ supply P k first (at - first) + n * c
supply-from P k first at n c later same =
    let parts = supply-add P k first (at - first) n in
    let even = supply-even P k at n c same in
    let one : supply P k first (at + n - first) ≡ supply P k first (at - first + n) = ap (supply P k first) (let e : at + n - first ≡ at - first + n = omega arith in e) in
    let two : supply P k (first + (at - first)) n ≡ supply P k at n = ap (λ (u : ℕ). supply P k u n) (let e : first + (at - first) ≡ at = omega arith in e) in
    omega arith

-- The work that is left where the periods up to one don't hold all of it; the period is in the stretch.
pub record IsLeftAt (P : Project) (k first work : ℕ) (S : List Stretch) (place at left : ℕ) : Type 0 where
  pub within : place < length S
  pub later : first ≤ at
  pub begun : begin_of S place ≤ at
  pub inside : place + 1 < length S → at < begin_of S (place + 1)
  pub some : 0 < left
  pub sum : supply P k first (at - first) + left ≡ work

pub left-first : (P : Project) (k first work : ℕ) (S : List Stretch) (place : ℕ) → 0 < work → place < length S → begin_of S place ≤ first → (place + 1 < length S → first < begin_of S (place + 1)) → IsLeftAt P k first work S place first work
left-first P k first work S place some within begun inside = record {
  within = within;
  later = omega arith;
  begun = begun;
  inside = inside;
  some = some;
  sum = let none : supply P k first (first - first) ≡ supply P k first zero = ap (supply P k first) (let e : first - first ≡ zero = omega arith in e) in omega arith;
}

-- what a stretch holds from the period on, by equal numbers
pub same-held : (a b t u at : ℕ) → a ≡ b → t ≡ u → a * (t - at) ≡ b * (u - at)
same-held a b t u at same last = ap (λ (n : ℕ). n * (t - at)) same ∙ ap (λ (e : ℕ). b * (e - at)) last

-- what is left after one stretch more
pub left-next : (P : Project) (k first work : ℕ) (S : List Stretch) (place at left held : ℕ) → AreStretches P k S → place + 1 < length S → held ≡ capacity_of S place * (begin_of S (place + 1) - at) → held < left →
    IsLeftAt P k first work S place at left → IsLeftAt P k first work S (place + 1) (begin_of S (place + 1)) (left - held)
left-next P k first work S place at left held are more is over so_far =
    let inside = so_far.inside more in
    let later = so_far.later in
    let until : at + (begin_of S (place + 1) - at) ≡ begin_of S (place + 1) = omega arith in
    let parts = supply-from P k first at (begin_of S (place + 1) - at) (capacity_of S place) later (λ u low high. are.each place u so_far.within (let b = so_far.begun in omega arith) (λ _. omega arith)) in
    let turned = mul_comm (capacity_of S place) (begin_of S (place + 1) - at) in
    let same : supply P k first (at + (begin_of S (place + 1) - at) - first) ≡ supply P k first (begin_of S (place + 1) - first) = ap (λ (e : ℕ). supply P k first (e - first)) until in
    record {
      within = more;
      later = omega arith;
      begun = omega arith;
      inside = λ last. are.rising (place + 1) (place + 1 + 1) (omega arith) last;
      some = omega arith;
      sum = let sum = so_far.sum in omega arith;
    }

-- so many periods more hold it, where there is one amount in each
holds-after : (P : Project) (k first work at left n c : ℕ) → first ≤ at → 0 < left → supply P k first (at - first) + left ≡ work → ((u : ℕ) → at ≤ u → u < at + n → cap P k u ≡ c) → IsLeast (λ q. left ≤ q * c) n →
    IsLeast (Holds P k first work) (at + n)
holds-after P k first work at left n c later some sum same least = record {
  attained = record {
    after = omega arith;
    enough = let all = supply-from P k first at n c later same in let enough = least.attained in omega arith;
  };
  least = λ e holds. elim (cases_lt e at) [
    | inl before ↦
        let parts = supply-add P k first (e - first) (at - e) in
        let from_first = holds.after in
        let whole : supply P k first (at - first) ≡ supply P k first (e - first + (at - e)) = ap (supply P k first) (let z : at - first ≡ e - first + (at - e) = omega arith in z) in
        let enough = holds.enough in
        absurd (omega arith)
    | inr after ↦ elim (cases_lt e (at + n)) [
      | inl few ↦
          let there : at + (e - at) ≡ e = omega arith in
          let parts = supply-from P k first at (e - at) c later (λ u low high. same u low (omega arith)) in
          let all : supply P k first (at + (e - at) - first) ≡ supply P k first (e - first) = ap (λ (u : ℕ). supply P k first (u - first)) there in
          let enough = holds.enough in
          let most = least.least (e - at) (omega arith) in
          absurd (omega arith)
      | inr enough ↦ enough
    ]
  ];
}

-- a stretch that holds the rest
pub ends-within : (P : Project) (k first work : ℕ) (S : List Stretch) (place at left held n : ℕ) → AreStretches P k S → place + 1 < length S → held ≡ capacity_of S place * (begin_of S (place + 1) - at) → left ≤ held →
    IsLeftAt P k first work S place at left → IsLeast (λ q. left ≤ q * capacity_of S place) n → (at + n ≤ begin_of S (place + 1)) × IsEndOfWork P k first work (at + n)
ends-within P k first work S place at left held n are more is enough so_far least =
    let inside = so_far.inside more in
    let turned = mul_comm (capacity_of S place) (begin_of S (place + 1) - at) in
    let few = least.least (begin_of S (place + 1) - at) (omega arith) in
    let limit = (are.limits (place + 1)).0 in (
      (let by : at + n ≤ begin_of S (place + 1) = omega arith in by),
      record {
        enough = at + n;
        least = holds-after P k first work at left n (capacity_of S place) so_far.later so_far.some so_far.sum
            (λ u low high. are.each place u so_far.within (let b = so_far.begun in omega arith) (λ _. omega arith)) least;
        capped = omega arith;
      },
    )

-- and the last one holds any
pub ends-last : (P : Project) (k first work : ℕ) (S : List Stretch) (place at left n end : ℕ) → AreStretches P k S → place + 1 ≡ length S → IsLeftAt P k first work S place at left → IsLeast (λ q. left ≤ q * capacity P k) n →
    end ≡ min (at + n) 999999999 → IsEndOfWork P k first work end
ends-last P k first work S place at left n end are all so_far least is = record {
  enough = at + n;
  least = holds-after P k first work at left n (capacity P k) so_far.later so_far.some so_far.sum
      (λ u low high. last-whole P k S u are (let begun = so_far.begun in let same : begin_of S (length S - 1) ≡ begin_of S place = ap (begin_of S) (let e : length S - 1 ≡ place = omega arith in e) in omega arith)) least;
  capped = omega arith;
}

-- no work is held at once
pub ends-at_once : (P : Project) (k first work : ℕ) → work ≡ 0 → first ≤ 999999999 → IsEndOfWork P k first work first
ends-at_once P k first work none early = record {
  enough = first;
  least = record { attained = record { after = omega arith; enough = omega arith }; least = λ e holds. holds.after };
  capped = omega arith;
}

-- The work bound of a front is the end of its work.
pub bound-from : (P : Project) (F : List Entry) (k first work w : ℕ) → IsRenewable P k → 0 < capacity P k → first ≡ last_start F → work ≡ rest_work P F k → IsEndOfWork P k first work w → IsWorkBound P F k w
bound-from P F k first work w r some is_first is_work is =
    let own = subst (λ (u : ℕ). IsEndOfWork P k u (rest_work P F k) w) is_first (subst (λ (n : ℕ). IsEndOfWork P k first n w) is_work is) in
    record {
      renewable = r;
      some = some;
      enough = own.enough;
      least = record {
        attained = record { after_last = own.least.attained.after; holds = own.least.attained.enough };
        least = λ e h. own.least.least e (record { after = h.after_last; enough = h.holds });
      };
      bound = own.capped;
    }
