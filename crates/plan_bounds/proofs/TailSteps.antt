-- The tail bound by the jobs that were eligible before the newest one, and by the active ones.
use Rattle.std.proofs.Common.{◌≡◌, ℕ, zero, suc, ◌+◌, ◌-◌, ◌<◌, ◌≤◌, max, ◌⊎◌, inl, inr, arith, refl, sym, ap, subst, ◌∙◌, false, eqb, List, [], ◌∷◌, length, get_or, take}
use Rattle.std.specs.Prelude.{◌++◌, All, Option, Some, None, sum_by, filter}
use Rattle.std.proofs.lemmas.Bool.{cases_Bool, cases_lt, both_ways, eqb-true}
use Rattle.std.proofs.lemmas.List.Elements.{All-cons, All-nil, All-head, All-more, All-contains, Contains-get_or}
use Rattle.std.proofs.lemmas.List.Sums.{fold_push}
use Rattle.std.proofs.Math.Seq.{take-length}
use Rattle.rcpsp_model.specs.declared.parts.Entry.{Entry}
use Rattle.rcpsp_model.specs.Project.{Project, IsJob, IsAcyclic, Before, is_before, job_count}
use Rattle.rcpsp_model.specs.Schedule.{finish, end_of}
use Rattle.rcpsp_model.specs.Chain.{least_duration, IsChain, IsTail, IsGreatest}
use Rattle.rcpsp_model.specs.Tree.{has_job, last_start, IsEligible, IsFront, Follows}
use Rattle.rcpsp_model.specs.Bounds.{ready, TailValue, of_front, of_chain, IsTailBound}
use Rattle.rcpsp_model.proofs.Lists.{In, In-All, In-push_new, In-filter, filter-In, In-from_Contains, Contains-from_In, sum_by-total}
use Rattle.rcpsp_model.proofs.Numbers.{some_decided, both_decided, true_decided, false_decided}
use Rattle.rcpsp_model.proofs.Entries.{entry_of}
use Rattle.rcpsp_model.proofs.Usage.{finish-le-end, end-le}
use Rattle.rcpsp_model.proofs.Fronts.{last-le-end, named-in_turn}
use Rattle.rcpsp_model.proofs.Tails.{has_tail_law}
use Rattle.rcpsp_model.proofs.Sound.{IsSound, front-sound, has_job-push_cases}
use Rattle.rcpsp_model.proofs.RootAndLeaves.{front-push}
use Rattle.rcpsp_model.proofs.BoundsHold.{least_duration-le}
use Rattle.precedence_tree.specs.declared.active.Active.{Active}
use Rattle.precedence_tree.specs.Active.{IsActive, AreActive}
use Rattle.precedence_tree.specs.declared.base.Base.{Base}
use Rattle.precedence_tree.specs.Node.{joined, front_before, ContinuesFrom}
use Rattle.precedence_tree.proofs.Ordered.{no_active}
use Rattle.precedence_tree.proofs.Pushed.{eligible-before, still-eligible}
use Rattle.precedence_tree.proofs.Actives.{front-starts, active-has}
use Rattle.precedence_tree.specs.Tails.{IsLongestTail}
use Rattle.precedence_tree.proofs.LongestTails.{tail-one}
use Rattle.plan_bounds.specs.Tails.{IsAfter, IsFloorOrAfter}

-- Tails.

pub tail-own : (P : Project) (j t : ℕ) → IsTail P j t → least_duration P j ≤ t
tail-own P j t is = is.greatest (least_duration P j) ([], tt, let sum = sum_by-total (least_duration P) (j ∷ []) in omega arith)

-- a tail goes over the tails of the successors
pub tail-before : (P : Project) (i j t u : ℕ) → Before P i j → IsTail P i t → IsTail P j u → least_duration P i + u ≤ t
tail-before P i j t u b is next =
    let c = next.attained in
    is.greatest (least_duration P i + u) (j ∷ c.0, (b, c.1), let sum = sum_by-total (least_duration P) (i ∷ j ∷ c.0) in let rest = sum_by-total (least_duration P) (j ∷ c.0) in let same = c.2 in omega arith)

-- a job is its whole tail, or the tail goes on with that of a successor
pub tail-follows : (P : Project) → IsAcyclic P → (i t : ℕ) → IsTail P i t → (t ≡ least_duration P i) ⊎ ((j : ℕ) × (u : ℕ) × Before P i j × IsTail P j u × (t ≡ least_duration P i + u))
tail-follows P a i t is = go is.attained.0 is.attained.1 is.attained.2
  where
    go : (js : List ℕ) → IsChain P (i ∷ js) → t ≡ sum_by (least_duration P) (i ∷ js) → (t ≡ least_duration P i) ⊎ ((j : ℕ) × (u : ℕ) × Before P i j × IsTail P j u × (t ≡ least_duration P i + u))
    go [] c e = inl (let sum = sum_by-total (least_duration P) (i ∷ []) in omega arith)
    go (k ∷ js) c e =
        let own = has_tail_law P k a (a.jobs i k c.0).1 in
        let within = own.1.greatest (sum_by (least_duration P) (k ∷ js)) (js, c.1, refl) in
        let whole = tail-before P i k t own.0 c.0 is own.1 in
        let sum = sum_by-total (least_duration P) (i ∷ k ∷ js) in
        let rest = sum_by-total (least_duration P) (k ∷ js) in
        inr (k, own.0, c.0, own.1, (let same : t ≡ least_duration P i + own.0 = omega arith in same))

-- The greatest of a floor and of when the chains after the first n active jobs can be done.
pub record PastTo (P : Project) (xs : List Active) (floor n bound : ℕ) : Type 0 where
  pub attained : IsFloorOrAfter P xs floor bound
  pub from_floor : floor ≤ bound
  pub each : All (λ (a : Active). (u : ℕ) → IsAfter P a u → u ≤ bound) (take n xs)

pub past-none : (P : Project) (xs : List Active) (floor : ℕ) → PastTo P xs floor 0 floor
past-none P xs floor = record { attained = inl refl; from_floor = omega arith; each = All-nil (λ (a : Active). (u : ℕ) → IsAfter P a u → u ≤ floor) }

after-one : (P : Project) (a : Active) (t u v : ℕ) → IsTail P a.entry.job t → IsAfter P a u → IsAfter P a v → u ≡ v
after-one P a t u v is one two = let x = one t is in let y = two t is in omega arith

pub past-more : (P : Project) → IsAcyclic P → (xs : List Active) (floor n bound own next : ℕ) → n < length xs → IsJob P (get_or xs n no_active).entry.job → IsAfter P (get_or xs n no_active) own → next ≡ max bound own →
    PastTo P xs floor n bound → PastTo P xs floor (n + 1) next
past-more P acyclic xs floor n bound own next within job is now so_far = record {
  attained = elim (cases_lt bound own) [
    | inl more ↦ inr (get_or xs n no_active, Contains-get_or xs n no_active within, subst (IsAfter P (get_or xs n no_active)) (let e : own ≡ next = omega arith in e) is)
    | inr less ↦ subst (IsFloorOrAfter P xs floor) (let e : bound ≡ next = omega arith in e) so_far.attained
  ];
  from_floor = let old = so_far.from_floor in omega arith;
  each = All-more (λ (a : Active). (u : ℕ) → IsAfter P a u → u ≤ next) xs n no_active within (raised (take n xs) so_far.each)
      (λ u after. let t = has_tail_law P (get_or xs n no_active).entry.job acyclic job in let same = after-one P (get_or xs n no_active) t.0 u own t.1 after is in omega arith);
}
  where
    raised : (ys : List Active) → All (λ (a : Active). (u : ℕ) → IsAfter P a u → u ≤ bound) ys → All (λ (a : Active). (u : ℕ) → IsAfter P a u → u ≤ next) ys
    raised ys h k d low u after = let le = h k d low u after in omega arith

pub past-all : (P : Project) (xs : List Active) (floor n bound : ℕ) → n ≡ length xs → PastTo P xs floor n bound → IsGreatest (IsFloorOrAfter P xs floor) bound
past-all P xs floor n bound all so_far = record { attained = so_far.attained; greatest = over }
  where
    whole : All (λ (a : Active). (u : ℕ) → IsAfter P a u → u ≤ bound) xs
    whole = subst (All (λ (a : Active). (u : ℕ) → IsAfter P a u → u ≤ bound)) (ap (λ i. take i xs) all ∙ take-length xs) so_far.each

    over : (u : ℕ) → IsFloorOrAfter P xs floor u → u ≤ bound
    over u (inl e) = let h = so_far.from_floor in omega arith
    over u (inr a) = All-contains (λ (x : Active). (v : ℕ) → IsAfter P x v → v ≤ bound) xs a.0 whole a.1 u a.2

-- What the bound reaches: a value of the tail bound that is no less.
abbrev pub Reached : Project → List Entry → ℕ → Type 0
Reached P F n = (v : ℕ) × TailValue P F v × (n ≤ v)

-- a chain from an unplaced job has unplaced jobs alone
chain-unplaced : (P : Project) (F : List Entry) → IsSound P F → (j : ℕ) (js : List ℕ) → has_job F j ≡ false → IsChain P (j ∷ js) → All (λ i. has_job F i ≡ false) (j ∷ js)
chain-unplaced P F s j [] n c = All-cons (λ i. has_job F i ≡ false) j [] n (All-nil (λ i. has_job F i ≡ false))
chain-unplaced P F s j (k ∷ js) n c =
    let next : has_job F k ≡ false = elim (cases_Bool (has_job F k)) [ inl y ↦ absurd (both_ways _ n (s.closed j k c.0 y)) | inr m ↦ m ] in
    All-cons (λ i. has_job F i ≡ false) j (k ∷ js) n (chain-unplaced P F s k js next c.1)

-- an unplaced job leads to its tail from when it is ready
reach-unplaced : (P : Project) → IsAcyclic P → (F : List Entry) → IsFront P F → (j t : ℕ) → IsJob P j → has_job F j ≡ false → IsTail P j t → Reached P F (ready P F j + t)
reach-unplaced P a F f j t job un is =
    let c = is.attained in
    (ready P F j + sum_by (least_duration P) (j ∷ c.0), of_chain j c.0 job c.1 (chain-unplaced P F (front-sound P a F f) j c.0 un c.1), let same = c.2 in omega arith)

reach-eligible : (P : Project) → IsAcyclic P → (F : List Entry) → IsFront P F → (j t : ℕ) → IsEligible P F j → IsTail P j t → Reached P F (last_start F + t)
reach-eligible P a F f j t el is = let r = reach-unplaced P a F f j t el.job el.unplaced is in (r.0, r.1, let le = r.2 in omega arith)

-- what starts after a placed job leads to its tail from that job's finish
reach-after : (P : Project) → IsAcyclic P → (F : List Entry) → IsFront P F → (e : Entry) (j t : ℕ) → In F e → Before P e.job j → has_job F j ≡ false → IsTail P j t → Reached P F (finish P e + t)
reach-after P a F f e j t there before un is =
    let r = reach-unplaced P a F f j t (a.jobs e.job j before).1 un is in
    let waits = finish-le-end P (filter (λ (x : Entry). is_before P x.job j) F) e (filter-In (λ (x : Entry). is_before P x.job j) F e there before) in
    (r.0, r.1, let le = r.2 in omega arith)

reach-active : (P : Project) → IsAcyclic P → (F : List Entry) → IsFront P F → (a : Active) (n : ℕ) → IsActive P F a → IsJob P a.entry.job → IsAfter P a n → Reached P F n
reach-active P acyclic F f a n act job is =
    let own = has_tail_law P a.entry.job acyclic job in
    let at = is own.0 own.1 in
    elim (tail-follows P acyclic a.entry.job own.0 own.1) [
      | inl alone ↦ (end_of P F, of_front, let within = finish-le-end P F a.entry there in let same = act.finish in omega arith)
      | inr next ↦
          let r = reach-after P acyclic F f a.entry next.0 next.1 there next.2 (unplaced next.0 next.2) next.3 in
          (r.0, r.1, let le = r.2 in let same = act.finish in let sum = next.4 in omega arith)
    ]
  where
    there : In F a.entry
    there = In-from_Contains F a.entry act.placed

    -- a job that starts after an active one isn't placed
    unplaced : (s : ℕ) → Before P a.entry.job s → has_job F s ≡ false
    unplaced s b = elim (cases_Bool (has_job F s)) [
      | inl has ↦
          let e = entry_of F s has in
          let done = (front-sound P acyclic F f).done a.entry e.0 there e.1 (subst (λ (i : ℕ). Before P a.entry.job i) (sym e.2) b) in
          let starts = front-starts P F f e.0 e.1 in
          let same = act.finish in
          let later = act.later in
          absurd (omega arith)
      | inr none ↦ none
    ]

-- Each job that could be placed next after G leads on to its tail from the last start of F, and each that can be placed
-- next after F is no further from the end than one of them.
pub record AreAhead (P : Project) (F G : List Entry) : Type 0 where
  pub reached : (j t : ℕ) → IsEligible P G j → IsTail P j t → Reached P F (last_start F + t)
  pub longer : (j t longest : ℕ) → IsEligible P F j → IsTail P j t → IsLongestTail P G longest → t ≤ longest

-- at the root the eligible jobs are such
ahead-root : (P : Project) → IsAcyclic P → AreAhead P [] []
ahead-root P a = record { reached = λ j t own is. reach-eligible P a [] tt j t own is; longer = λ j t longest own is long. long.greatest t (inr (j, own, is)) }

-- what starts after the newest job isn't placed
after-newest : (P : Project) → IsAcyclic P → (G : List Entry) (e : Entry) (j : ℕ) → IsFront P G → Follows P G e → Before P e.job j → has_job (G ++ e ∷ []) j ≡ false
after-newest P a G e j f follows b = elim (cases_Bool (has_job (G ++ e ∷ []) j)) [
  | inl has ↦ elim (has_job-push_cases G e j has) [
    | inl old ↦ absurd (both_ways (has_job G e.job) follows.eligible.unplaced ((front-sound P a G f).closed e.job j b old))
    | inr own ↦ absurd (let up = a.rises e.job j b in let same = ap a.rank own in omega arith)
  ]
  | inr none ↦ none
]

-- the newest job leads on to its tail from the last start, since it is done no earlier than after its least duration
reach-newest : (P : Project) → IsAcyclic P → (G : List Entry) (e : Entry) (t : ℕ) → IsFront P G → Follows P G e → IsTail P e.job t → Reached P (G ++ e ∷ []) (last_start (G ++ e ∷ []) + t)
reach-newest P a G e t f follows is =
    let F = G ++ e ∷ [] in
    let there = In-push_new G e in
    let last = fold_push (λ (_ : ℕ) (y : Entry). y.start) 0 G e in
    let time = least_duration-le P e.job e.mode follows.mode in
    elim (tail-follows P a e.job t is) [
      | inl alone ↦ (end_of P F, of_front, let within = finish-le-end P F e there in omega arith)
      | inr next ↦
          let r = reach-after P a F (front-push P G e f follows) e next.0 next.1 there next.2 (after-newest P a G e next.0 f follows next.2) next.3 in
          (r.0, r.1, let le = r.2 in let sum = next.4 in omega arith)
    ]

-- after it the jobs that were eligible before are such
ahead-step : (P : Project) → IsAcyclic P → (G : List Entry) (e : Entry) → IsFront P G → Follows P G e → AreAhead P (G ++ e ∷ []) G
ahead-step P a G e f follows = record {
  reached = λ j t own is. elim (cases_Bool (eqb e.job j)) [
    | inl mine ↦ reach-newest P a G e t f follows (subst (λ (i : ℕ). IsTail P i t) (sym (eqb-true e.job j mine)) is)
    | inr other ↦ reach-eligible P a (G ++ e ∷ []) (front-push P G e f follows) j t (still-eligible P G e j own other) is
  ];
  longer = λ j t longest own is long. elim (eligible-before P G e j own) [
    | inl before ↦ long.greatest t (inr (j, before, is))
    | inr after ↦
        let newest = follows.eligible in
        let tail = has_tail_law P e.job a newest.job in
        let most = long.greatest tail.0 (inr (e.job, newest, tail.1)) in
        let less = tail-before P e.job j tail.0 t after tail.1 is in
        omega arith
  ];
}

pub ahead-node : (P : Project) → IsAcyclic P → (o : Option Base) (F : List Entry) (e : Entry) (f : ℕ) → ContinuesFrom P o F e f → AreAhead P F (front_before o)
ahead-node P a None F e f kept = subst (λ (H : List Entry). AreAhead P H []) (sym kept.0) (ahead-root P a)
ahead-node P a (Some b) F e f kept = subst (λ (H : List Entry). AreAhead P H b.front) (sym kept.front) (ahead-step P a b.front e kept.base.front kept.follows)

-- Each unplaced job is no further from the end than an eligible one.
pub record IsAhead (P : Project) (F : List Entry) (j i : ℕ) : Type 0 where
  pub eligible : IsEligible P F i
  pub longer : (t u : ℕ) → IsTail P i t → IsTail P j u → u ≤ t

open-or-waits : (P : Project) → IsAcyclic P → (F : List Entry) (j : ℕ) → IsJob P j → has_job F j ≡ false → IsEligible P F j ⊎ ((i : ℕ) × Before P i j × (has_job F i ≡ false))
open-or-waits P a F j job un = elim (some_decided (λ i. Before P i j × (has_job F i ≡ false)) (λ i. both_decided (true_decided (is_before P i j)) (false_decided (has_job F i))) (job_count P + 1)) [
  | inl waits ↦ inr (waits.0, waits.2.0, waits.2.1)
  | inr none ↦ inl (record {
    job = job;
    unplaced = un;
    preds = λ i b. elim (cases_Bool (has_job F i)) [ inl y ↦ y | inr n ↦ absurd (none (i, (let high = (a.jobs i j b).0.1 in omega arith), (b, n))) ];
  })
]

ahead : (P : Project) (a : IsAcyclic P) (F : List Entry) (n j : ℕ) → a.rank j < n → IsJob P j → has_job F j ≡ false → (i : ℕ) × IsAhead P F j i
ahead P a F zero j low job un = absurd (omega arith)
ahead P a F (suc n) j low job un = elim (open-or-waits P a F j job un) [
  | inl el ↦ (j, record { eligible = el; longer = λ t u p q. let same = tail-one P j t u p q in omega arith })
  | inr w ↦
      let before = (a.jobs w.0 j w.1).0 in
      let up = ahead P a F n w.0 (let rise = a.rises w.0 j w.1 in omega arith) before w.2 in (
        up.0,
        record {
          eligible = up.1.eligible;
          longer = λ t u p q.
              let own = has_tail_law P w.0 a before in
              let first = up.1.longer t own.0 p own.1 in
              let second = tail-before P w.0 j own.0 u w.1 own.1 q in
              omega arith;
        },
      )
]

-- the bound is no less than what leads on from each eligible and each active job
pub record Covers (P : Project) (F : List Entry) (xs : List Active) (bound : ℕ) : Type 0 where
  pub end : end_of P F ≤ bound
  pub eligible : (j t : ℕ) → IsEligible P F j → IsTail P j t → last_start F + t ≤ bound
  pub active : (a : Active) (u : ℕ) → In xs a → IsAfter P a u → u ≤ bound

cover-all : (P : Project) → IsAcyclic P → (F : List Entry) (xs : List Active) (bound : ℕ) → IsFront P F → AreActive P F xs → Covers P F xs bound → (u : ℕ) → TailValue P F u → u ≤ bound
cover-all P a F xs bound f are c u of_front = c.end
cover-all P a F xs bound f are c u (of_chain j js job ch un) =
    let free = All-head (λ i. has_job F i ≡ false) j js un in
    let t = has_tail_law P j a job in
    let within = t.1.greatest (sum_by (least_duration P) (j ∷ js)) (js, ch, refl) in
    let lead = ahead P a F (a.rank j + 1) j (omega arith) job free in
    let far = has_tail_law P lead.0 a lead.1.eligible.job in
    let longer = lead.1.longer far.0 t.0 far.1 t.1 in
    let some = c.eligible lead.0 far.0 lead.1.eligible far.1 in
    let preds = end-le P (filter (λ (e : Entry). is_before P e.job j) F) (bound - t.0) (λ e m.
    let own = In-filter (λ (x : Entry). is_before P x.job j) F e m in
    elim (cases_lt (last_start F) (finish P e)) [
      | inl on ↦
          let has = active-has P F xs e f are own.0 on in
          let act = In-All (IsActive P F) xs are.each has.0 has.1 in
          let before : Before P has.0.entry.job j = subst (λ (x : Entry). Before P x.job j) (sym has.2) own.1 in
          let tail = has_tail_law P has.0.entry.job a (a.jobs has.0.entry.job j before).0 in
          let goes = tail-before P has.0.entry.job j tail.0 t.0 before tail.1 t.1 in
          let n = has.0.finish + tail.0 - least_duration P has.0.entry.job in
          let after : IsAfter P has.0 n = λ v is. (let same = tail-one P has.0.entry.job tail.0 v tail.1 is in omega arith) in
          let le = c.active has.0 n has.1 after in
          let same = act.finish ∙ ap (finish P) has.2 in
          omega arith
      | inr done ↦ omega arith
    ]) in
    omega arith

pub bound-is : (P : Project) → IsAcyclic P → (F : List Entry) (xs : List Active) (bound : ℕ) → IsFront P F → AreActive P F xs → Covers P F xs bound → Reached P F bound → IsTailBound P F bound
bound-is P a F xs bound f are c r = record {
  attained = let up = cover-all P a F xs bound f are c r.0 r.1 in subst (TailValue P F) (let e : r.0 ≡ bound = (let le = r.2 in omega arith) in e) r.1;
  greatest = cover-all P a F xs bound f are c;
}

-- The bound of a node, part by part.

In-joined : (o : Option Active) (xs : List Active) (a : Active) → In (joined o xs) a → In (joined o []) a ⊎ In xs a
In-joined None xs a i = inr i
In-joined (Some b) xs a (inl e) = inl (inl e)
In-joined (Some b) xs a (inr i) = inr i

joined-In : (o : Option Active) (xs : List Active) (a : Active) → In (joined o []) a ⊎ In xs a → In (joined o xs) a
joined-In None xs a (inl i) = absurd i
joined-In None xs a (inr i) = i
joined-In (Some b) xs a (inl (inl e)) = inl e
joined-In (Some b) xs a (inl (inr i)) = absurd i
joined-In (Some b) xs a (inr i) = inr i

pub bound-from : (P : Project) → IsAcyclic P → (F G : List Entry) (o : Option Active) (xs : List Active) (last end longest first newest bound : ℕ) → IsFront P F → AreActive P F (joined o xs) → AreAhead P F G →
    last ≡ last_start F → end ≡ end_of P F → IsLongestTail P G longest → first ≡ max end (last + longest) → IsGreatest (IsFloorOrAfter P (joined o []) first) newest → IsGreatest (IsFloorOrAfter P xs newest) bound → IsTailBound P F bound
bound-from P a F G o xs last end longest first newest bound f are ahead_of is_last is_end long now by_newest by_older = bound-is P a F (joined o xs) bound f are covers reached
  where
    low : first ≤ newest
    low = by_newest.greatest first (inl refl)

    high : newest ≤ bound
    high = by_older.greatest newest (inl refl)

    covers : Covers P F (joined o xs) bound
    covers = record {
      end = let x = low in let y = high in omega arith;
      eligible = λ j t own tail. let le = ahead_of.longer j t longest own tail long in let x = low in let y = high in omega arith;
      active = λ b u i after. elim (In-joined o xs b i) [
        | inl m ↦ let le = by_newest.greatest u (inr (b, Contains-from_In (joined o []) b m, after)) in let y = high in omega arith
        | inr m ↦ by_older.greatest u (inr (b, Contains-from_In xs b m, after))
      ];
    }

    reach : (b : Active) (n : ℕ) → In (joined o xs) b → IsAfter P b n → Reached P F n
    reach b n i after =
        let act = In-All (IsActive P F) (joined o xs) are.each b i in
        reach-active P a F f b n act (named-in_turn P [] F f b.entry (In-from_Contains F b.entry act.placed)).0 after

    start : Reached P F first
    start = elim long.attained [
      | inl none ↦ (end_of P F, of_front, let within = last-le-end P F in omega arith)
      | inr j ↦ elim (cases_lt end (last + longest)) [
        | inl more ↦ let r = ahead_of.reached j.0 longest j.1 j.2 in (r.0, r.1, let le = r.2 in omega arith)
        | inr less ↦ (end_of P F, of_front, omega arith)
      ]
    ]

    middle : Reached P F newest
    middle = elim by_newest.attained [
      | inl e ↦ subst (Reached P F) (sym e) start
      | inr b ↦ reach b.0 newest (joined-In o xs b.0 (inl (In-from_Contains (joined o []) b.0 b.1))) b.2
    ]

    reached : Reached P F bound
    reached = elim by_older.attained [
      | inl e ↦ subst (Reached P F) (sym e) middle
      | inr b ↦ reach b.0 bound (joined-In o xs b.0 (inr (In-from_Contains xs b.0 b.1))) b.2
    ]
