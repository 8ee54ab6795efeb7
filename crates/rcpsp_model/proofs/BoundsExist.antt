-- Each front has one tail bound, one work bound of each resource that has a capacity, and one lower bound.
use Rattle.std.proofs.Common.{◌≡◌, ℕ, zero, suc, ◌+◌, ◌-◌, ◌<◌, ◌≤◌, ◌⊎◌, min, inl, inr, arith, refl, sym, ap, ◌∙◌, subst, List, [], ◌∷◌, false, not}
use Rattle.std.specs.Prelude.{All, sum_by}
use Rattle.std.proofs.lemmas.Bool.{cases_eq, cases_lt, cases_Bool, both_ways}
use Rattle.std.proofs.lemmas.List.Elements.{All-cons, All-nil, All-head}
use Rattle.rcpsp_model.specs.declared.parts.Entry.{Entry}
use Rattle.rcpsp_model.specs.Project.{Project, jobs, capacity, renewables, IsJob, IsRenewable, IsAcyclic}
use Rattle.rcpsp_model.specs.Schedule.{end_of, cap, calm}
use Rattle.rcpsp_model.specs.Chain.{least_duration, IsChain, IsTail, IsLeast}
use Rattle.rcpsp_model.specs.Tree.{has_job, last_start, unplaced, IsFront}
use Rattle.rcpsp_model.specs.Bounds.{ready, TailValue, of_front, of_chain, IsTailBound, rest_work, supply, HoldsWork, IsWorkBound, LowerValue, of_tail, of_work, IsLowerBound}
use Rattle.rcpsp_model.proofs.Lists.{In, In-filter}
use Rattle.rcpsp_model.proofs.TreeTests.{not-true}
use Rattle.rcpsp_model.proofs.Numbers.{Decided, least_of, least-one, le_decided, both_decided}
use Rattle.rcpsp_model.proofs.Calendars.{whole_law}
use Rattle.rcpsp_model.proofs.Tails.{has_tail_law}
use Rattle.rcpsp_model.proofs.Sound.{IsSound, front-sound}
use Rattle.rcpsp_model.specs.Laws.{OneTailBoundLaw, OneWorkBoundLaw, OneLowerBoundLaw}
use Rattle.rcpsp_model.proofs.BoundTests.{unplaced-In, unplaced-job}

-- an unplaced job has no entry
unplaced-free : (P : Project) (F : List Entry) (j : ℕ) → In (unplaced P F) j → has_job F j ≡ false
unplaced-free P F j i = not-true (has_job F j) (In-filter (λ k. not (has_job F k)) (jobs P) j i).1

tail-one : (P : Project) (j a b : ℕ) → IsTail P j a → IsTail P j b → a ≡ b
tail-one P j a b p q = let x = p.greatest b q.attained in let y = q.greatest a p.attained in omega arith

-- the greatest of the front's end and of what these jobs lead to
record TailOver (P : Project) (F : List Entry) (js : List ℕ) (m : ℕ) : Type 0 where
  own : end_of P F ≤ m
  each : (j t : ℕ) → In js j → IsTail P j t → ready P F j + t ≤ m
  reached : (m ≡ end_of P F) ⊎ ((j : ℕ) × (t : ℕ) × In js j × IsTail P j t × (m ≡ ready P F j + t))

tail_over : (P : Project) (a : IsAcyclic P) (F : List Entry) (js : List ℕ) → ((j : ℕ) → In js j → IsJob P j) → (m : ℕ) × TailOver P F js m
tail_over P a F [] named = (end_of P F, record { own = omega arith; each = λ j t i. absurd i; reached = inl refl })
tail_over P a F (j ∷ js) named =
    let r = tail_over P a F js (λ k i. named k (inr i)) in
    let t = has_tail_law P j a (named j (inl refl)) in
    let old = r.1.own in
    let here : (k u : ℕ) → j ≡ k → IsTail P k u → ready P F k + u ≡ ready P F j + t.0 = λ k u e is.
    let same = tail-one P j u t.0 (subst (λ (i : ℕ). IsTail P i u) (sym e) is) t.1 in let at = ap (ready P F) e in omega arith in
    elim (cases_lt r.0 (ready P F j + t.0)) [
      | inl more ↦ (
        ready P F j + t.0,
        record {
          own = omega arith;
          each = λ k u (i : In (j ∷ js) k) is. elim i [ inl e ↦ let s = here k u e is in omega arith | inr m ↦ let le = r.1.each k u m is in omega arith ];
          reached = inr (j, t.0, inl refl, t.1, refl);
        },
      )
      | inr less ↦ (
        r.0,
        record {
          own = old;
          each = λ k u (i : In (j ∷ js) k) is. elim i [ inl e ↦ let s = here k u e is in omega arith | inr m ↦ r.1.each k u m is ];
          reached = elim r.1.reached [ inl e ↦ inl e | inr x ↦ inr (x.0, x.1, inr x.2, x.3, x.4) ];
        },
      )
    ]

-- a chain from an unplaced job has unplaced jobs alone
chain-unplaced : (P : Project) (F : List Entry) → IsSound P F → (j : ℕ) (js : List ℕ) → has_job F j ≡ false → IsChain P (j ∷ js) → All (λ i. has_job F i ≡ false) (j ∷ js)
chain-unplaced P F s j [] n c = All-cons (λ i. has_job F i ≡ false) j [] n (All-nil (λ i. has_job F i ≡ false))
chain-unplaced P F s j (k ∷ js) n c =
    let next : has_job F k ≡ false = elim (cases_Bool (has_job F k)) [ inl y ↦ absurd (both_ways _ n (s.closed j k c.0 y)) | inr m ↦ m ] in
    All-cons (λ i. has_job F i ≡ false) j (k ∷ js) n (chain-unplaced P F s k js next c.1)

pub tail_bound-exists : (P : Project) (a : IsAcyclic P) (F : List Entry) → IsFront P F → (t : ℕ) × IsTailBound P F t
tail_bound-exists P a F f =
    let r = tail_over P a F (unplaced P F) (unplaced-job P F) in (
      r.0,
      record {
        attained = elim r.1.reached [
          | inl e ↦ subst (TailValue P F) (sym e) of_front
          | inr x ↦
              let c = x.3.attained in
              subst (TailValue P F) (sym (x.4 ∙ ap (λ (n : ℕ). ready P F x.0 + n) c.2))
              (of_chain x.0 c.0 (unplaced-job P F x.0 x.2) c.1 (chain-unplaced P F (front-sound P a F f) x.0 c.0 (unplaced-free P F x.0 x.2) c.1))
        ];
        greatest = over r.0 r.1;
      },
    )
  where
    over : (m : ℕ) → TailOver P F (unplaced P F) m → (u : ℕ) → TailValue P F u → u ≤ m
    over m o _ of_front = o.own
    over m o _ (of_chain j js job is free) =
        let t = has_tail_law P j a job in
        let le = t.1.greatest (sum_by (least_duration P) (j ∷ js)) (js, is, refl) in
        let up = o.each j t.0 (unplaced-In P F j job (All-head (λ i. has_job F i ≡ false) j js free)) t.1 in
        omega arith

pub tail_bound-one : (P : Project) (F : List Entry) (t u : ℕ) → IsTailBound P F t → IsTailBound P F u → t ≡ u
tail_bound-one P F t u p q = let x = p.greatest u q.attained in let y = q.greatest t p.attained in omega arith

-- Where there is a capacity, enough periods hold any work.
supply-late : (P : Project) (k t n m : ℕ) → supply P k (t + n) m ≤ supply P k t (n + m)
supply-late P k t zero m =
    let at : t + 0 ≡ t = omega arith in let few : 0 + m ≡ m = omega arith in
    let same : supply P k (t + 0) m ≡ supply P k t (0 + m) = ap (λ (u : ℕ). supply P k u m) at ∙ ap (supply P k t) (sym few) in omega arith
supply-late P k t (suc n) m =
    let ih = supply-late P k (t + 1) n m in
    let at : t + suc n ≡ (t + 1) + n = omega arith in
    let many : suc n + m ≡ suc (n + m) = omega arith in
    let left = ap (λ (u : ℕ). supply P k u m) at in
    let right = ap (supply P k t) many in
    let step : supply P k t (suc (n + m)) ≡ cap P k t + supply P k (t + 1) (n + m) = refl in
    omega arith

supply-some : (P : Project) (k t n : ℕ) → calm P ≤ t → 0 < capacity P k → n ≤ supply P k t n
supply-some P k t zero whole some = omega arith
supply-some P k t (suc n) whole some =
    let ih = supply-some P k (t + 1) n (omega arith) some in let own = whole_law P k t whole in omega arith

holds_work_decided : (P : Project) (F : List Entry) (k e : ℕ) → Decided (HoldsWork P F k e)
holds_work_decided P F k e = elim (both_decided (le_decided (last_start F) e) (le_decided (rest_work P F k) (supply P k (last_start F) (e - last_start F)))) [
  | inl h ↦ inl (record { after_last = h.0; holds = h.1 })
  | inr no_ ↦ inr (λ w. no_ (w.after_last, w.holds))
]

pub work_bound-exists : (P : Project) (F : List Entry) (k : ℕ) → IsRenewable P k → 0 < capacity P k → (w : ℕ) × IsWorkBound P F k w
work_bound-exists P F k r some =
    let last = last_start F in
    let n = calm P - last in
    let m = rest_work P F k in
    let late = supply-late P k last n m in
    let enough = supply-some P k (last + n) m (omega arith) some in
    let len : (last + (n + m)) - last ≡ n + m = omega arith in
    let all = ap (supply P k last) len in
    let holds : HoldsWork P F k (last + (n + m)) = record { after_last = omega arith; holds = omega arith } in
    let least = least_of (HoldsWork P F k) (holds_work_decided P F k) (last + (n + m)) holds in
    least_bound least.0 least.1
  where
    least_bound : (e : ℕ) → IsLeast (HoldsWork P F k) e → (w : ℕ) × IsWorkBound P F k w
    least_bound e is = (min 999999999 e, record { renewable = r; some = some; enough = e; least = is; bound = refl })

pub work_bound-one : (P : Project) (F : List Entry) (k v w : ℕ) → IsWorkBound P F k v → IsWorkBound P F k w → v ≡ w
work_bound-one P F k v w p q = let same = least-one (HoldsWork P F k) p.enough q.enough p.least q.least in p.bound ∙ (ap (min 999999999) same ∙ sym q.bound)

-- the greatest of the tail bound and of the first work bounds
record LowerOver (P : Project) (F : List Entry) (n m : ℕ) : Type 0 where
  tails : (t : ℕ) → IsTailBound P F t → t ≤ m
  works : (k w : ℕ) → k ≤ n → IsWorkBound P F k w → w ≤ m
  reached : LowerValue P F m

lower_over : (P : Project) (a : IsAcyclic P) (F : List Entry) → IsFront P F → (n : ℕ) → (m : ℕ) × LowerOver P F n m
lower_over P a F f zero =
    let t = tail_bound-exists P a F f in (
      t.0,
      record {
        tails = λ u is. let same = tail_bound-one P F u t.0 is t.1 in omega arith;
        works = λ k w few is. let low = is.renewable.0 in absurd (omega arith);
        reached = of_tail t.0 t.1;
      },
    )
lower_over P a F f (suc n) =
    let r = lower_over P a F f n in
    let old : (k w : ℕ) → k ≤ suc n → IsWorkBound P F k w → (k ≡ suc n) ⊎ (w ≤ r.0) = λ k w few is. elim (cases_eq k (suc n)) [ inl e ↦ inl e | inr ne ↦ inr (r.1.works k w (omega arith) is) ] in
    elim (both_decided (le_decided (suc n) (renewables P)) (le_decided 1 (capacity P (suc n)))) [
      | inr none ↦ (
        r.0,
        record {
          tails = r.1.tails;
          works = λ k w few is. elim (old k w few is) [
            | inl e ↦ absurd (none (let high = is.renewable.1 in omega arith, subst (λ (i : ℕ). 1 ≤ capacity P i) e is.some))
            | inr le ↦ le
          ];
          reached = r.1.reached;
        },
      )
      | inl both ↦
          let own = work_bound-exists P F (suc n) (omega arith, both.0) both.1 in
          let same : (k w : ℕ) → k ≡ suc n → IsWorkBound P F k w → w ≡ own.0 = λ k w e is. work_bound-one P F (suc n) w own.0 (subst (λ (i : ℕ). IsWorkBound P F i w) e is) own.1 in
          elim (cases_lt r.0 own.0) [
            | inl more ↦ (
              own.0,
              record {
                tails = λ t is. let le = r.1.tails t is in omega arith;
                works = λ k w few is. elim (old k w few is) [ inl e ↦ let s = same k w e is in omega arith | inr le ↦ omega arith ];
                reached = of_work (suc n) own.0 own.1;
              },
            )
            | inr less ↦ (
              r.0,
              record {
                tails = r.1.tails;
                works = λ k w few is. elim (old k w few is) [ inl e ↦ let s = same k w e is in omega arith | inr le ↦ le ];
                reached = r.1.reached;
              },
            )
          ]
    ]

pub lower_bound-exists : (P : Project) (a : IsAcyclic P) (F : List Entry) → IsFront P F → (b : ℕ) × IsLowerBound P F b
lower_bound-exists P a F f =
    let r = lower_over P a F f (renewables P) in (r.0, record { attained = r.1.reached; greatest = over r.0 r.1 })
  where
    over : (m : ℕ) → LowerOver P F (renewables P) m → (u : ℕ) → LowerValue P F u → u ≤ m
    over m o u (of_tail t is) = o.tails u is
    over m o u (of_work k w is) = o.works k u is.renewable.1 is

pub lower_bound-one : (P : Project) (F : List Entry) (b c : ℕ) → IsLowerBound P F b → IsLowerBound P F c → b ≡ c
lower_bound-one P F b c p q = let x = p.greatest c q.attained in let y = q.greatest b p.attained in omega arith

pub one_tail_bound_law : OneTailBoundLaw
one_tail_bound_law P F a f = let t = tail_bound-exists P a F f in record { number = t.0; has = t.1; only = λ u is. tail_bound-one P F u t.0 is t.1 }

pub one_work_bound_law : OneWorkBoundLaw
one_work_bound_law P F k r some = let w = work_bound-exists P F k r some in record { number = w.0; has = w.1; only = λ u is. work_bound-one P F k u w.0 is w.1 }

pub one_lower_bound_law : OneLowerBoundLaw
one_lower_bound_law P F a f = let b = lower_bound-exists P a F f in record { number = b.0; has = b.1; only = λ u is. lower_bound-one P F u b.0 is b.1 }
