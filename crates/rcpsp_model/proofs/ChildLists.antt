-- The children of a front: each eligible job and mode has one, and their list is one.
use Rattle.std.proofs.Common.{◌≡◌, ℕ, ◌+◌, ◌≤◌, max, inl, inr, arith, refl, sym, ap, subst, ◌∙◌, List, [], ◌∷◌, ◌++◌, length, Bool, true, cond, eqb, ◌||◌, not}
use Rattle.std.specs.Prelude.{Contains}
use Rattle.std.proofs.lemmas.Bool.{cases_lt}
use Rattle.std.proofs.lemmas.List.Sums.{sum_by_push}
use Rattle.rcpsp_model.specs.declared.parts.Child.{Child}
use Rattle.rcpsp_model.specs.declared.parts.Child.TheVariants.{Placed, Shut}
use Rattle.rcpsp_model.specs.declared.parts.Entry.{Entry}
use Rattle.rcpsp_model.specs.declared.parts.Shut.{Shut as Why}
use Rattle.rcpsp_model.specs.declared.parts.Shut.TheVariants.{NoCapacity, NoBudget, Inefficient}
use Rattle.rcpsp_model.specs.Project.{Project, job_count, jobs, modes_of, need, request, capacity, budget, duration, is_before, Before, IsMode}
use Rattle.rcpsp_model.specs.Schedule.{finish, used, end_of, calm}
use Rattle.rcpsp_model.specs.Modes.{least_need, LacksCapacity, IsExecutable, IsInefficientBy, IsEfficient}
use Rattle.rcpsp_model.specs.Tree.{has_job, CanStart, IsEligible, IsFront, rest_need, HasGap, LeavesBudgets, entry_at, extended, IsShut, IsPlacedChild, IsChild, Choice, choices}
use Rattle.rcpsp_model.specs.Laws.{ChildrenLaw, OneListLaw, ListExchangeLaw}
use Rattle.rcpsp_model.proofs.Lists.{In-from_Contains, Contains-from_In, All-from_In, total-same, sum_by-filter}
use Rattle.rcpsp_model.proofs.Numbers.{least-one, Decided, le_decided, lt_decided, below_decided, least_below, least_of, both_decided, implies_decided, true_decided, false_decided}
use Rattle.rcpsp_model.proofs.Usage.{finish-le-end, can_start_decided}
use Rattle.rcpsp_model.proofs.LeastModes.{inefficient_decided, renewable_decided, nonrenewable_decided}
use Rattle.rcpsp_model.proofs.Successors.{before-job}
use Rattle.rcpsp_model.proofs.Choices.{choice-In, choice-is, zip-left, zip-right, zip-one, some-zip}
use Rattle.rcpsp_model.proofs.Fronts.{fits-past_end, last-le-end}
use Rattle.rcpsp_model.proofs.Exchanged.{exchange_law}
use Rattle.rcpsp_model.proofs.RootAndLeaves.{front-push}

-- The needs of an entry don't speak of its start.
has_job-start : (F : List Entry) (j m t u i : ℕ) → has_job (F ++ entry_at j m t ∷ []) i ≡ has_job (F ++ entry_at j m u ∷ []) i
has_job-start [] j m t u i = refl
has_job-start (x ∷ F) j m t u i = ap (λ (b : Bool). eqb x.job i || b) (has_job-start F j m t u i)

pub used-start : (P : Project) (F : List Entry) (j m t u l : ℕ) → used P (F ++ entry_at j m t ∷ []) l ≡ used P (F ++ entry_at j m u ∷ []) l
used-start P F j m t u l =
    let one = sum_by_push (λ (e : Entry). need P e.job e.mode l) F (entry_at j m t) in
    let two = sum_by_push (λ (e : Entry). need P e.job e.mode l) F (entry_at j m u) in
    omega arith

pub rest_need-start : (P : Project) (F : List Entry) (j m t u l : ℕ) → rest_need P (F ++ entry_at j m t ∷ []) l ≡ rest_need P (F ++ entry_at j m u ∷ []) l
rest_need-start P F j m t u l =
    let g : ℕ → ℕ = λ i. least_need P i l in
    let one = sum_by-filter g (λ i. not (has_job (F ++ entry_at j m t ∷ []) i)) (jobs P) in
    let two = sum_by-filter g (λ i. not (has_job (F ++ entry_at j m u ∷ []) i)) (jobs P) in
    let same = total-same (λ i. cond (not (has_job (F ++ entry_at j m t ∷ []) i)) (g i) 0) (λ i. cond (not (has_job (F ++ entry_at j m u ∷ []) i)) (g i) 0) (jobs P)
    (λ i _. ap (λ (b : Bool). cond (not b) (g i) 0) (has_job-start F j m t u i)) in
    omega arith

-- Where no cause to shut it applies, the child is placed at the least start.
child-placed : (P : Project) (F : List Entry) (e : Entry) (c : Child (List Entry)) → IsPlacedChild P F e → IsChild P F e.job e.mode c → c ≡ Placed (F ++ e ∷ [])
child-placed P F e (Placed G) p c =
    let other = c.2.follows.start in let own = p.follows.start in
    let same : c.0 ≡ e.start = let down = other.least e.start own.attained in let up = own.least c.0 other.attained in omega arith in
    ap Placed (c.1 ∙ ap (λ (t : ℕ). F ++ entry_at e.job e.mode t ∷ []) same)
child-placed P F e (Shut i n (NoCapacity k)) p c =
    let lack = c.2.attained in let ok = p.executable lack.takes_time k lack.renewable in let more = lack.lacks in absurd (omega arith)
child-placed P F e (Shut i n (NoBudget l)) p c =
    let gap = c.2.1.attained in
    let ok = p.budgets l gap.nonrenewable in
    let same = used-start P F e.job e.mode e.start 0 l in
    let rest = rest_need-start P F e.job e.mode e.start 0 l in
    let more = gap.exceeds in
    absurd (omega arith)
child-placed P F e (Shut i n (Inefficient m)) p c = absurd (p.efficient m c.2.2.attained)

-- a child by a choice
abbrev ByChoice : Project → List Entry → Choice → Child (List Entry) → Type 0
ByChoice P F choice c = IsChild P F choice.job choice.mode c

pub children_law : ChildrenLaw
children_law P F cs f are = record {
  fronts = λ G i.
      let one = zip-right (ByChoice P F) (choices P F) cs are (Placed G) (In-from_Contains cs (Placed G) i) in
      let c = one.2 in
      subst (IsFront P) (sym c.1) (front-push P F (entry_at one.0.job one.0.mode c.0) f c.2.follows);
  whole = λ e p.
      let choice : Choice = record { job = e.job; mode = e.mode } in
      let r = zip-left (ByChoice P F) (choices P F) cs are choice (choice-In P F e.job e.mode p.follows.eligible p.follows.mode) in
      subst (Contains cs) (child-placed P F e r.0 p r.2) (Contains-from_In cs r.0 r.1);
}

pub list_exchange_law : ListExchangeLaw
list_exchange_law P F cs a f are not_leaf s c =
    let x = exchange_law P F s a f not_leaf c in
    let listed = children_law P F cs f are in
    record { child = F ++ x.entry ∷ []; placed = listed.whole x.entry x.child; better = x.better; completes = x.completes; no_later = x.no_later }

executable-capacity : (P : Project) (j m k : ℕ) → IsExecutable P j m → LacksCapacity P j m k → ⊥
executable-capacity P j m k can lack = let enough = can lack.takes_time k lack.renewable in let lacks = lack.lacks in omega arith

budgets-gap : (P : Project) (F : List Entry) (l : ℕ) → LeavesBudgets P F → HasGap P F l → ⊥
budgets-gap P F l leaves gap = let enough = leaves l gap.nonrenewable in let exceeds = gap.exceeds in omega arith

shut-one : (P : Project) (F : List Entry) (j m : ℕ) (a b : Why) → IsShut P F j m a → IsShut P F j m b → a ≡ b
shut-one P F j m (NoCapacity k) (NoCapacity i) p q = ap NoCapacity (least-one (LacksCapacity P j m) k i p q)
shut-one P F j m (NoCapacity k) (NoBudget l) p q = absurd (executable-capacity P j m k q.0 p.attained)
shut-one P F j m (NoCapacity k) (Inefficient n) p q = absurd (executable-capacity P j m k q.0 p.attained)
shut-one P F j m (NoBudget l) (NoCapacity k) p q = absurd (executable-capacity P j m k p.0 q.attained)
shut-one P F j m (NoBudget l) (NoBudget i) p q = ap NoBudget (least-one (HasGap P (extended F j m)) l i p.1 q.1)
shut-one P F j m (NoBudget l) (Inefficient n) p q = absurd (budgets-gap P (extended F j m) l q.1 p.1.attained)
shut-one P F j m (Inefficient n) (NoCapacity k) p q = absurd (executable-capacity P j m k p.0 q.attained)
shut-one P F j m (Inefficient n) (NoBudget l) p q = absurd (budgets-gap P (extended F j m) l p.1 q.1.attained)
shut-one P F j m (Inefficient n) (Inefficient i) p q = ap Inefficient (least-one (IsInefficientBy P j m) n i p.2 q.2)

-- A job in a mode has no two children.
pub child-one : (P : Project) (F : List Entry) (j m : ℕ) (c d : Child (List Entry)) → IsChild P F j m c → IsChild P F j m d → c ≡ d
child-one P F j m (Placed G) d p q = ap Placed p.1 ∙ sym (child-placed P F (entry_at j m p.0) d p.2 q)
child-one P F j m (Shut i n a) (Placed H) p q = child-placed P F (entry_at j m q.0) (Shut i n a) q.2 p ∙ sym (ap Placed q.1)
child-one P F j m (Shut i n a) (Shut u v b) p q =
    ap (λ (x : ℕ). Shut x n a) (p.0 ∙ sym q.0) ∙ ap (λ (x : ℕ). Shut u x a) (p.1 ∙ sym q.1) ∙ ap (λ (x : Why). Shut u v x) (shut-one P F j m a b p.2 q.2)

gap_decided : (P : Project) (F : List Entry) (l : ℕ) → Decided (HasGap P F l)
gap_decided P F l = elim (both_decided (nonrenewable_decided P l) (lt_decided (budget P l) (used P F l + rest_need P F l))) [
  | inl h ↦ inl (record { nonrenewable = h.0; exceeds = h.1 })
  | inr no_ ↦ inr (λ g. no_ (g.nonrenewable, g.exceeds))
]

pub lack_decided : (P : Project) (j m k : ℕ) → Decided (LacksCapacity P j m k)
lack_decided P j m k = elim (both_decided (renewable_decided P k) (both_decided (lt_decided 0 (duration P j m)) (lt_decided (capacity P k) (request P j m k)))) [
  | inl h ↦ inl (record { renewable = h.0; takes_time = h.1.0; lacks = h.1.1 })
  | inr no_ ↦ inr (λ l. no_ (l.renewable, (l.takes_time, l.lacks)))
]

-- Past the end of the entries, and from the calm on, an executable mode of a job whose predecessors are placed can start.
can_start-past_end : (P : Project) (F : List Entry) (j m : ℕ) → IsExecutable P j m → CanStart P F j m (max (end_of P F) (calm P))
can_start-past_end P F j m can = record {
  after_last = let last = last-le-end P F in omega arith;
  after_preds = All-from_In (λ (x : Entry). Before P x.job j → finish P x ≤ max (end_of P F) (calm P)) F (λ x i b. let done = finish-le-end P F x i in omega arith);
  fits = fits-past_end P F j m (max (end_of P F) (calm P)) can (omega arith) (omega arith);
}

leaves-start : (P : Project) (F : List Entry) (j m t : ℕ) → LeavesBudgets P (extended F j m) → LeavesBudgets P (F ++ entry_at j m t ∷ [])
leaves-start P F j m t leaves l r =
    let ok = leaves l r in let used_ = used-start P F j m t 0 l in let rest = rest_need-start P F j m t 0 l in omega arith

placed-child : (P : Project) (F : List Entry) (j m : ℕ) → IsEligible P F j → IsMode P j m → IsExecutable P j m → LeavesBudgets P (extended F j m) → IsEfficient P j m → (c : Child (List Entry)) × IsChild P F j m c
placed-child P F j m el mode can leaves efficient =
    let first = least_of (CanStart P F j m) (can_start_decided P F j m) (max (end_of P F) (calm P)) (can_start-past_end P F j m can) in
    let t = first.0 in
    let budgets = leaves-start P F j m t leaves in (
      Placed (F ++ entry_at j m t ∷ []),
      (
        t,
        refl,
        record {
          follows = record { eligible = el; mode = mode; start = first.1; budgets = λ l r. let ok = budgets l r in omega arith };
          executable = can;
          budgets = budgets;
          efficient = efficient;
        },
      ),
    )

-- An eligible job in one of its modes has a child.
some_child : (P : Project) (F : List Entry) (j m : ℕ) → IsEligible P F j → IsMode P j m → (c : Child (List Entry)) × IsChild P F j m c
some_child P F j m el mode =
    elim (least_below (LacksCapacity P j m) (lack_decided P j m) (length P.capacities + 1)) [
      | inl lack ↦ (Shut j m (NoCapacity lack.0), (refl, refl, lack.2))
      | inr none ↦
          let can : IsExecutable P j m = λ takes_time k r. elim (cases_lt (capacity P k) (request P j m k)) [
            | inl lacks ↦ absurd (none k (let high = r.1 in omega arith) (record { renewable = r; takes_time = takes_time; lacks = lacks }))
            | inr enough ↦ enough
          ] in
          elim (least_below (HasGap P (extended F j m)) (gap_decided P (extended F j m)) (length P.budgets + 1)) [
            | inl gap ↦ (Shut j m (NoBudget gap.0), (refl, refl, (can, gap.2)))
            | inr no_gap ↦
                let leaves : LeavesBudgets P (extended F j m) = λ l r. elim (cases_lt (budget P l) (used P (extended F j m) l + rest_need P (extended F j m) l)) [
                  | inl exceeds ↦ absurd (no_gap l (let high = r.1 in omega arith) (record { nonrenewable = r; exceeds = exceeds }))
                  | inr enough ↦ enough
                ] in
                elim (least_below (IsInefficientBy P j m) (inefficient_decided P j m) (length (modes_of P j) + 1)) [
                  | inl worse ↦ (Shut j m (Inefficient worse.0), (refl, refl, (can, leaves, worse.2)))
                  | inr best ↦ placed-child P F j m el mode can leaves (λ n b. best n (let high = b.mode.1 in omega arith) b)
                ]
          ]
    ]

pub eligible_decided : (P : Project) (F : List Entry) (j : ℕ) → Decided (IsEligible P F j)
eligible_decided P F j =
    elim (both_decided (both_decided (le_decided 1 j) (le_decided j (job_count P))) (both_decided (false_decided (has_job F j)) (below_decided (λ i. Before P i j → has_job F i ≡ true) (λ i. implies_decided (true_decided (is_before P i j)) (true_decided (has_job F i))) (job_count P + 1)))) [
      | inl h ↦ inl (record { job = h.0; unplaced = h.1.0; preds = λ i b. h.1.1 i (let r = before-job P i j b in let high = r.1 in omega arith) b })
      | inr no_ ↦ inr (λ e. no_ (e.job, (e.unplaced, λ i _. e.preds i)))
    ]

-- Of lists of children there is one.
pub one_list_law : OneListLaw
one_list_law P F =
    let all = some-zip (ByChoice P F) (choices P F) (λ c i. let is = choice-is P F c i in some_child P F c.job c.mode is.0 is.1) in
    record { children = all.0; are = all.1; only = λ ds are. zip-one (ByChoice P F) (λ c a b. child-one P F c.job c.mode a b) (choices P F) ds all.0 are all.1 }
