-- What there is of a renewable resource in some periods, stretch by stretch.
use Rattle.std.proofs.Common.{◌≡◌, ℕ, zero, suc, ◌+◌, ◌-◌, ◌*◌, ◌<◌, ◌≤◌, inl, inr, arith, ap, min, List, length, Bool, cond}
use Rattle.std.proofs.Math.Nat.{suc-mul, mul_comm}
use Rattle.std.proofs.lemmas.Bool.{cases_lt, lt-ltb, le-ltb}
use Rattle.rcpsp_model.specs.Project.{Project}
use Rattle.rcpsp_model.specs.Schedule.{cap}
use Rattle.rcpsp_model.specs.Bounds.{supply}
use Rattle.project_net.specs.declared.stretches.Stretch.{Stretch}
use Rattle.project_net.specs.Stretches.{begin_of, capacity_of, AreStretches}
use Rattle.window_refuter.specs.Supply.{border}

-- What there is in some periods, and in those after them.
pub supply-add : (P : Project) (k t m n : ℕ) → supply P k t (m + n) ≡ supply P k t m + supply P k (t + m) n
supply-add P k t zero n =
    let one : supply P k t (zero + n) ≡ supply P k t n = ap (supply P k t) (let e : zero + n ≡ n = omega arith in e) in
    let two : supply P k (t + zero) n ≡ supply P k t n = ap (λ (u : ℕ). supply P k u n) (let e : t + zero ≡ t = omega arith in e) in
    omega arith
supply-add P k t (suc m) n =
    let ih = supply-add P k (t + 1) m n in
    let one : supply P k t (suc m + n) ≡ supply P k t (suc (m + n)) = ap (supply P k t) (let e : suc m + n ≡ suc (m + n) = omega arith in e) in
    let two : supply P k (t + 1 + m) n ≡ supply P k (t + suc m) n = ap (λ (u : ℕ). supply P k u n) (let e : t + 1 + m ≡ t + suc m = omega arith in e) in
    omega arith

-- one amount in each of them
supply-even : (P : Project) (k t n c : ℕ) → ((u : ℕ) → t ≤ u → u < t + n → cap P k u ≡ c) → supply P k t n ≡ n * c
supply-even P k t zero c same = omega arith
supply-even P k t (suc n) c same =
    let now = same t (omega arith) (omega arith) in
    let ih = supply-even P k (t + 1) n c (λ u low high. same u (omega arith) (omega arith)) in
    let product = suc-mul n c in
    omega arith

-- the periods of an interval are those before its end without those before its begin
pub supply-from : (P : Project) (k a b : ℕ) → a ≤ b → supply P k 0 b ≡ supply P k 0 a + supply P k a (b - a)
supply-from P k a b h =
    let parts = supply-add P k 0 a (b - a) in
    let one : supply P k 0 (a + (b - a)) ≡ supply P k 0 b = ap (supply P k 0) (let e : a + (b - a) ≡ b = omega arith in e) in
    let two : supply P k (0 + a) (b - a) ≡ supply P k a (b - a) = ap (λ (u : ℕ). supply P k u (b - a)) (let e : 0 + a ≡ a = omega arith in e) in
    omega arith

pub supply-between : (P : Project) (k a b : ℕ) → a ≤ b → supply P k 0 b - supply P k 0 a ≡ supply P k a (b - a)
supply-between P k a b h = let e = supply-from P k a b h in omega arith

-- an interval has no more than one that it lies in
pub supply-within : (P : Project) (k a b c d : ℕ) → a ≤ c → c ≤ d → d ≤ b → supply P k c (d - c) ≤ supply P k a (b - a)
supply-within P k a b c d low inside high =
    let one = supply-from P k a b (omega arith) in
    let two = supply-from P k a c low in
    let three = supply-from P k c d inside in
    let four = supply-from P k d b high in
    omega arith

-- Borders of stretches.
at_border : (S : List Stretch) (until i : ℕ) → i < length S → border S until i ≡ min (begin_of S i) until
unfolding border
at_border S until i within = ap (λ (b : Bool). cond b (min (begin_of S i) until) until) (lt-ltb i (length S) within)

past_border : (S : List Stretch) (until i : ℕ) → length S ≤ i → border S until i ≡ until
unfolding border
past_border S until i past = ap (λ (b : Bool). cond b (min (begin_of S i) until) until) (le-ltb i (length S) past)

pub first_border : (P : Project) (k : ℕ) (S : List Stretch) (until : ℕ) → AreStretches P k S → border S until 0 ≡ 0
first_border P k S until are = let at = at_border S until 0 (let some = are.some in omega arith) in let first = are.first in omega arith

pub last_border : (S : List Stretch) (until i : ℕ) → length S ≤ i → border S until i ≡ until
last_border S until i past = past_border S until i past

border-le : (S : List Stretch) (until i : ℕ) → border S until i ≤ until
border-le S until i = elim (cases_lt i (length S)) [
  | inl within ↦ let at = at_border S until i within in omega arith
  | inr past ↦ let at = past_border S until i past in omega arith
]

pub next_border : (P : Project) (k : ℕ) (S : List Stretch) (until i : ℕ) → AreStretches P k S → i < length S → (border S until i ≤ border S until (i + 1)) × (border S until (i + 1) ≤ until)
next_border P k S until i are within =
    let here = at_border S until i within in
    let le = border-le S until (i + 1) in
    elim (cases_lt (i + 1) (length S)) [
      | inl more ↦ let next = at_border S until (i + 1) more in let rising = are.rising i (i + 1) (omega arith) more in (omega arith, omega arith)
      | inr last ↦ let next = past_border S until (i + 1) last in (omega arith, omega arith)
    ]

-- what one stretch adds
pub supply-stretch : (P : Project) (k : ℕ) (S : List Stretch) (until i : ℕ) → AreStretches P k S → i < length S →
    supply P k 0 (border S until (i + 1)) ≡ supply P k 0 (border S until i) + capacity_of S i * (border S until (i + 1) - border S until i)
supply-stretch P k S until i are within =
    let a = border S until i in
    let b = border S until (i + 1) in
    let here = at_border S until i within in
    let le = next_border P k S until i are within in
    let rising = le.0 in
    let most = le.1 in
    let parts = supply-from P k a b rising in
    let even = supply-even P k a (b - a) (capacity_of S i) (λ u low high. are.each i u within (omega arith) (λ more. let next = at_border S until (i + 1) more in omega arith)) in
    let turned = mul_comm (capacity_of S i) (b - a) in
    omega arith

-- no more than 1,000,000 in each period
pub stretch-limit : (P : Project) (k : ℕ) (S : List Stretch) (i n : ℕ) → AreStretches P k S → capacity_of S i * n ≤ 1000000 * n
stretch-limit P k S i zero are = let c = (are.limits i).1 in let none : capacity_of S i * zero ≡ 0 = omega arith in omega arith
stretch-limit P k S i (suc n) are =
    let c = (are.limits i).1 in
    let ih = stretch-limit P k S i n are in
    let one = mul_comm (capacity_of S i) (suc n) in
    let two = suc-mul n (capacity_of S i) in
    let three = mul_comm (capacity_of S i) n in
    omega arith
