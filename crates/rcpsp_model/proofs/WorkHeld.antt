-- What a renewable resource has to hold from a front's last start on: the work bound, and its quotient.
use Rattle.std.proofs.Common.{◌≡◌, ℕ, zero, suc, ◌+◌, ◌*◌, ◌-◌, ◌<◌, ◌≤◌, max, inl, inr, arith, refl, ap, ◌∙◌, List, [], ◌∷◌, Bool, true, false, cond}
use Rattle.std.proofs.Math.Nat.{mul-suc, suc-mul, mul_comm, lt-div-mul-add}
use Rattle.std.proofs.lemmas.Nat.{div_below}
use Rattle.std.proofs.lemmas.Bool.{cases_lt}
use Rattle.std.proofs.lemmas.List.Sums.{fold_push}
use Rattle.rcpsp_model.specs.declared.parts.Entry.{Entry}
use Rattle.rcpsp_model.specs.declared.parts.Placing.{Placing}
use Rattle.rcpsp_model.specs.Project.{Project, duration, request, capacity, IsMode, IsRenewable}
use Rattle.rcpsp_model.specs.Schedule.{finish, usage, end_of, entries, cap, calm}
use Rattle.rcpsp_model.specs.Chain.{IsLeast}
use Rattle.rcpsp_model.specs.Modes.{least_work}
use Rattle.rcpsp_model.specs.Tree.{has_job, last_start, Follows, IsFront, Completes}
use Rattle.rcpsp_model.specs.Bounds.{periods_left, rest_work, supply, HoldsWork}
use Rattle.rcpsp_model.specs.Laws.{WorkLaw, QuotientLaw, quotient_up}
use Rattle.rcpsp_model.proofs.Lists.{In, In-push, In-All, total, total-le, sum_by-total}
use Rattle.rcpsp_model.proofs.Entries.{total-others, entries-distinct}
use Rattle.rcpsp_model.proofs.Usage.{load, usage-total, load-active, finish-le-end, end-le}
use Rattle.rcpsp_model.proofs.Calendars.{whole_law}
use Rattle.rcpsp_model.proofs.LeastModes.{least_work-le, sum_by-unplaced}
use Rattle.rcpsp_model.proofs.Completed.{kept-In, front-distinct}
use Rattle.rcpsp_model.proofs.Fronts.{last-le-end, in_turn}

-- what an entry takes of a resource in n periods from t on
abbrev pub spent : Project → ℕ → ℕ → ℕ → Entry → ℕ
spent P k t zero e = 0
spent P k t (suc n) e = load P k t e + spent P k (t + 1) n e

total-add : (f g : Entry → ℕ) (es : List Entry) → total (λ e. f e + g e) es ≡ total f es + total g es
total-add f g [] = refl
total-add f g (e ∷ es) = let ih = total-add f g es in omega arith

total-none : (es : List Entry) → total (λ (e : Entry). 0) es ≡ 0
total-none [] = refl
total-none (e ∷ es) = let ih = total-none es in omega arith

-- What keeps the capacities takes no more than they supply.
spent-supply : (P : Project) (es : List Entry) (k t n : ℕ) → ((u : ℕ) → t ≤ u → u < t + n → usage P es k u ≤ cap P k u) → total (spent P k t n) es ≤ supply P k t n
spent-supply P es k t zero keeps = let none = total-none es in omega arith
spent-supply P es k t (suc n) keeps =
    let now = keeps t (omega arith) (omega arith) in
    let sum = usage-total P es k t in
    let parts = total-add (load P k t) (spent P k (t + 1) n) es in
    let ih = spent-supply P es k (t + 1) n (λ u low high. keeps u (omega arith) (omega arith)) in
    omega arith

-- An entry that is done in these periods takes its request in each of its periods among them.
spent-ge : (P : Project) (k t n : ℕ) (e : Entry) → finish P e ≤ t + n → request P e.job e.mode k * (finish P e - max e.start t) ≤ spent P k t n e
spent-ge P k t zero e done =
    let none : finish P e - max e.start t ≡ 0 = omega arith in
    let product : request P e.job e.mode k * (finish P e - max e.start t) ≡ request P e.job e.mode k * 0 = ap (λ x. request P e.job e.mode k * x) none in
    omega arith
spent-ge P k t (suc n) e done =
    let r = request P e.job e.mode k in
    let ih = spent-ge P k (t + 1) n e (omega arith) in
    elim (cases_lt t e.start) [
      | inl early ↦
          let same : finish P e - max e.start t ≡ finish P e - max e.start (t + 1) = omega arith in
          let product = ap (λ x. r * x) same in
          omega arith
      | inr started ↦ elim (cases_lt t (finish P e)) [
        | inl active ↦
            let more : finish P e - max e.start t ≡ suc (finish P e - max e.start (t + 1)) = omega arith in
            let product : r * (finish P e - max e.start t) ≡ r * (finish P e - max e.start (t + 1)) + r = ap (λ x. r * x) more ∙ mul-suc r _ in
            let now = load-active P k t e started active in
            omega arith
        | inr late ↦
            let none : finish P e - max e.start t ≡ 0 = omega arith in
            let product : r * (finish P e - max e.start t) ≡ r * 0 = ap (λ x. r * x) none in
            omega arith
      ]
    ]

-- No entry of a front starts after the last one.
front-starts : (P : Project) (F : List Entry) → IsFront P F → (e : Entry) → In F e → e.start ≤ last_start F
front-starts P F f =
    in_turn (Follows P) (λ G. (e : Entry) → In G e → e.start ≤ last_start G) (λ G x starts follows e i.
    let last = fold_push (λ (_ : ℕ) (y : Entry). y.start) 0 G x in
    let after = follows.start.attained.after_last in
    elim (In-push G x e i) [
      | inl old ↦ let before = starts e old in omega arith
      | inr new ↦ let same = ap (λ (y : Entry). y.start) new in omega arith
    ]) [] F (λ e i. absurd i) f

-- what an entry of a schedule takes from the front's last start to the schedule's end
abbrev takes : Project → List Entry → List Placing → ℕ → Entry → ℕ
takes P F s k e = spent P k (last_start F) (end_of P (entries s) - last_start F) e

last-le-schedule : (P : Project) (F : List Entry) (s : List Placing) → Completes P F s → last_start F ≤ end_of P (entries s)
last-le-schedule P F s c =
    let last = last-le-end P F in
    let own = end-le P F (end_of P (entries s)) (λ x i. finish-le-end P (entries s) x (kept-In P F s c x i)) in
    omega arith

-- A placed job takes its request in the periods that are left to it.
takes-placed : (P : Project) (F : List Entry) (s : List Placing) (k : ℕ) → IsFront P F → Completes P F s → (e : Entry) → In F e → request P e.job e.mode k * periods_left P (last_start F) e ≤ takes P F s k e
takes-placed P F s k f c e i =
    let start = front-starts P F f e i in
    let done = finish-le-end P (entries s) e (kept-In P F s c e i) in
    let soon = last-le-schedule P F s c in
    let ge = spent-ge P k (last_start F) (end_of P (entries s) - last_start F) e (omega arith) in
    let same : finish P e - max e.start (last_start F) ≡ finish P e - last_start F = omega arith in
    let product = ap (λ x. request P e.job e.mode k * x) same in
    omega arith

-- Another job takes its least work or more.
takes-other : (P : Project) (F : List Entry) (s : List Placing) (k : ℕ) → Completes P F s → (e : Entry) → In (entries s) e → has_job F e.job ≡ false → least_work P e.job k ≤ takes P F s k e
takes-other P F s k c e i n =
    let start : last_start F ≤ e.start = In-All (λ (y : Entry). has_job F y.job ≡ false → last_start F ≤ y.start) (entries s) c.rest e i n in
    let done = finish-le-end P (entries s) e i in
    let soon = last-le-schedule P F s c in
    let ge = spent-ge P k (last_start F) (end_of P (entries s) - last_start F) e (omega arith) in
    let same : finish P e - max e.start (last_start F) ≡ duration P e.job e.mode = omega arith in
    let product = ap (λ x. request P e.job e.mode k * x) same in
    let least = least_work-le P e.job e.mode k (In-All (λ (z : Entry). IsMode P z.job z.mode) (entries s) c.feasible.modes e i) in
    let turned = mul_comm (duration P e.job e.mode) (request P e.job e.mode k) in
    omega arith

cond-le : (b : Bool) (x y : ℕ) → (b ≡ false → x ≤ y) → cond b 0 x ≤ cond b 0 y
cond-le true x y h = omega arith
cond-le false x y h = h refl

-- The periods from the last start to the end of a schedule that completes the front hold the work that is left.
pub completed-holds : (P : Project) (F : List Entry) (s : List Placing) (k : ℕ) → IsFront P F → IsRenewable P k → Completes P F s → HoldsWork P F k (end_of P (entries s))
completed-holds P F s k f r c = record {
  after_last = last-le-schedule P F s c;
  holds =
      let soon = last-le-schedule P F s c in
      let left = sum_by-total (λ (e : Entry). request P e.job e.mode k * periods_left P (last_start F) e) F in
      let rest = sum_by-unplaced P F s (λ j. least_work P j k) c.feasible.whole in
      let one = total-le (λ (e : Entry). request P e.job e.mode k * periods_left P (last_start F) e) (takes P F s k) F (takes-placed P F s k f c) in
      let two = total-le (λ (e : Entry). cond (has_job F e.job) 0 (least_work P e.job k)) (λ (e : Entry). cond (has_job F e.job) 0 (takes P F s k e)) (entries s)
      (λ e i. cond-le (has_job F e.job) (least_work P e.job k) (takes P F s k e) (takes-other P F s k c e i)) in
      let all = total-others (takes P F s k) (entries s) F (entries-distinct 1 s) (front-distinct P F f) (kept-In P F s c) in
      let keeps = spent-supply P (entries s) k (last_start F) (end_of P (entries s) - last_start F) (λ u low high. c.feasible.capacity k u r (omega arith)) in
      omega arith;
}

pub work_law : WorkLaw
work_law P F s k w f c b =
    let least = b.least.least (end_of P (entries s)) (completed-holds P F s k f b.renewable c) in
    let bound = b.bound in
    omega arith

-- where the capacity is whole, the periods supply their number times the capacity
supply-whole : (P : Project) (k t n : ℕ) → calm P ≤ t → supply P k t n ≡ n * capacity P k
supply-whole P k t zero h = omega arith
supply-whole P k t (suc n) h =
    let now = whole_law P k t h in
    let ih = supply-whole P k (t + 1) n (omega arith) in
    let product = suc-mul n (capacity P k) in
    omega arith

quotient-holds : (n d : ℕ) → 0 < d → n ≤ quotient_up n d * d
quotient-holds n d h = let below = lt-div-mul-add {a = n + d - 1} {b = d} h in omega arith

quotient-least : (n d q : ℕ) → 0 < d → n ≤ q * d → quotient_up n d ≤ q
quotient-least n d q h enough =
    let product = suc-mul q d in
    let below = div_below (n + d - 1) d (suc q) h (omega arith) in
    omega arith

quotient-bound : (P : Project) (F : List Entry) (k : ℕ) → 0 < capacity P k → calm P ≤ last_start F → IsLeast (HoldsWork P F k) (last_start F + quotient_up (rest_work P F k) (capacity P k))
quotient-bound P F k some whole = record {
  attained = record {
    after_last = omega arith;
    holds =
        let q = quotient_up (rest_work P F k) (capacity P k) in
        let n : (last_start F + q) - last_start F ≡ q = omega arith in
        let all = supply-whole P k (last_start F) ((last_start F + q) - last_start F) whole in
        let product : ((last_start F + q) - last_start F) * capacity P k ≡ q * capacity P k = ap (λ x. x * capacity P k) n in
        let enough = quotient-holds (rest_work P F k) (capacity P k) some in
        omega arith;
  };
  least = λ e h.
      let all = supply-whole P k (last_start F) (e - last_start F) whole in
      let holds = h.holds in let after = h.after_last in
      let least = quotient-least (rest_work P F k) (capacity P k) (e - last_start F) some (omega arith) in
      omega arith;
}

pub quotient_law : QuotientLaw
quotient_law P F k w r some whole = (
  λ b.
      let q = quotient-bound P F k some whole in
      let up = b.least.least _ q.attained in let down = q.least b.enough b.least.attained in let bound = b.bound in
      omega arith,
  λ is. record { renewable = r; some = some; enough = last_start F + quotient_up (rest_work P F k) (capacity P k); least = quotient-bound P F k some whole; bound = is },
)
