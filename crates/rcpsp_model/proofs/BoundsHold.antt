-- No schedule that completes a front ends before its tail bound or its lower bound, and none completes one with a gap.
use Rattle.std.proofs.Common.{◌≡◌, ℕ, ◌+◌, ◌-◌, ◌≤◌, arith, sym, ap, subst, List, [], ◌∷◌, get_or, false}
use Rattle.std.specs.Prelude.{filter}
use Rattle.std.proofs.lemmas.List.Elements.{All-head, Contains-get_or}
use Rattle.rcpsp_model.specs.declared.parts.Entry.{Entry}
use Rattle.rcpsp_model.specs.declared.parts.Placing.{Placing}
use Rattle.rcpsp_model.specs.declared.parts.Mode.{Mode}
use Rattle.rcpsp_model.specs.Project.{Project, modes_of, mode_of, no_mode, duration, Before, is_before, IsAcyclic, IsMode}
use Rattle.rcpsp_model.specs.Schedule.{finish, end_of, entries, IsFeasible}
use Rattle.rcpsp_model.specs.Chain.{IsGreatest, least_duration, IsChain}
use Rattle.rcpsp_model.specs.Tree.{has_job, last_start, Completes}
use Rattle.rcpsp_model.specs.Bounds.{IsTailBound, IsWorkBound, IsLowerBound, HoldsWork, LowerValue, of_tail, of_work, ready, TailValue, of_front, of_chain}
use Rattle.rcpsp_model.specs.Laws.{TailLaw, JobTailLaw, GapLaw, LowerLaw}
use Rattle.rcpsp_model.proofs.Lists.{In, In-filter, In-from_Contains, In-All, total, sum_by-total}
use Rattle.rcpsp_model.proofs.Entries.{entry_at}
use Rattle.rcpsp_model.proofs.LeastModes.{least_over-le}
use Rattle.rcpsp_model.proofs.Numbers.{least-one}
use Rattle.rcpsp_model.proofs.Usage.{finish-le-end, end-le}
use Rattle.rcpsp_model.proofs.Completed.{kept-In, precedes, completed-budgets, front-distinct}
use Rattle.rcpsp_model.proofs.WorkHeld.{work_law}

pub least_duration-le : (P : Project) (j m : ℕ) → IsMode P j m → least_duration P j ≤ duration P j m
unfolding least_duration duration mode_of
least_duration-le P j m r =
    least_over-le (λ (x : Mode). x.duration) (modes_of P j) (get_or (modes_of P j) (m - 1) no_mode)
    (In-from_Contains _ _ (Contains-get_or (modes_of P j) (m - 1) no_mode (let low = r.0 in let high = r.1 in omega arith)))

-- an unplaced job starts when it is ready or later
pub ready-le : (P : Project) (F : List Entry) (s : List Placing) (x : Entry) → Completes P F s → In (entries s) x → has_job F x.job ≡ false → ready P F x.job ≤ x.start
ready-le P F s x c i unplaced =
    let last : last_start F ≤ x.start = In-All (λ (y : Entry). has_job F y.job ≡ false → last_start F ≤ y.start) (entries s) c.rest x i unplaced in
    let preds = end-le P (filter (λ (e : Entry). is_before P e.job x.job) F) x.start (λ y j.
    let r = In-filter (λ (e : Entry). is_before P e.job x.job) F y j in precedes P s c.feasible y x (kept-In P F s c y r.0) i r.1) in
    omega arith

-- after a job's start, the least durations along a chain go by before the end
chain-end : (P : Project) (s : List Placing) → IsAcyclic P → IsFeasible P s → (x : Entry) (js : List ℕ) → In (entries s) x → IsChain P (x.job ∷ js) →
    x.start + (least_duration P x.job + total (least_duration P) js) ≤ end_of P (entries s)
chain-end P s a f x [] i c =
    let least = least_duration-le P x.job x.mode (In-All (λ (z : Entry). IsMode P z.job z.mode) (entries s) f.modes x i) in
    let done = finish-le-end P (entries s) x i in
    omega arith
chain-end P s a f x (k ∷ js) i c =
    let least = least_duration-le P x.job x.mode (In-All (λ (z : Entry). IsMode P z.job z.mode) (entries s) f.modes x i) in
    let job = (a.jobs x.job k c.0).1 in
    let at = entry_at 1 s k job.0 (let w = f.whole in omega (arith, job.1)) in
    let y = at.0 in
    let after : finish P x ≤ y.start = precedes P s f x y i at.1 (subst (λ (n : ℕ). Before P x.job n) (sym at.2) c.0) in
    let ih = chain-end P s a f y js at.1 (subst (λ (n : ℕ). IsChain P (n ∷ js)) (sym at.2) c.1) in
    let same = ap (least_duration P) at.2 in
    omega arith

tail-value : (P : Project) (F : List Entry) (s : List Placing) (t : ℕ) → IsAcyclic P → Completes P F s → TailValue P F t → t ≤ end_of P (entries s)
tail-value P F s t a c of_front = end-le P F (end_of P (entries s)) (λ x i. finish-le-end P (entries s) x (kept-In P F s c x i))
tail-value P F s t a c (of_chain j js job is_chain unplaced) =
    let at = entry_at 1 s j job.0 (let w = c.feasible.whole in omega (arith, job.1)) in
    let x = at.0 in
    let free = All-head (λ i. has_job F i ≡ false) j js unplaced in
    let start = ready-le P F s x c at.1 (subst (λ (n : ℕ). has_job F n ≡ false) (sym at.2) free) in
    let along = chain-end P s a c.feasible x js at.1 (subst (λ (n : ℕ). IsChain P (n ∷ js)) (sym at.2) is_chain) in
    let sum = sum_by-total (least_duration P) (j ∷ js) in
    let same = ap (least_duration P) at.2 in
    let same_ready = ap (ready P F) at.2 in
    omega arith

pub tail_law : TailLaw
tail_law P F s t a c b = tail-value P F s t a c b.attained

pub job_tail_law : JobTailLaw
job_tail_law P s j t a f job is =
    let at = entry_at 1 s j job.0 (let w = f.whole in omega (arith, job.1)) in
    let chain = is.attained in
    let along = chain-end P s a f at.0 chain.0 at.1 (subst (λ (n : ℕ). IsChain P (n ∷ chain.0)) (sym at.2) chain.1) in
    let sum = sum_by-total (least_duration P) (j ∷ chain.0) in
    let same = ap (least_duration P) at.2 in
    let whole = chain.2 in
    omega arith

pub gap_law : GapLaw
gap_law P F s l f gap c = let keeps = completed-budgets P F s (front-distinct P F f) c l gap.nonrenewable in let exceeds = gap.exceeds in omega arith

pub lower_law : LowerLaw
lower_law P F s b a f c is = by_value b is.attained
  where
    by_value : (v : ℕ) → LowerValue P F v → v ≤ end_of P (entries s)
    by_value _ (of_tail v bound) = tail_law P F s v a c bound
    by_value _ (of_work k v bound) = work_law P F s k v f c bound

-- A greatest number is one, and so is each bound.
pub greatest-one : (Q : ℕ → Type 0) (a b : ℕ) → IsGreatest Q a → IsGreatest Q b → a ≡ b
greatest-one Q a b p q = let up = p.greatest b q.attained in let down = q.greatest a p.attained in omega arith

pub tail_bound-one : (P : Project) (F : List Entry) (t u : ℕ) → IsTailBound P F t → IsTailBound P F u → t ≡ u
tail_bound-one P F t u p q = greatest-one (TailValue P F) t u p q

pub work_bound-one : (P : Project) (F : List Entry) (k v w : ℕ) → IsWorkBound P F k v → IsWorkBound P F k w → v ≡ w
work_bound-one P F k v w p q = let same = least-one (HoldsWork P F k) p.enough q.enough p.least q.least in let one = p.bound in let two = q.bound in omega arith

pub lower_bound-one : (P : Project) (F : List Entry) (b c : ℕ) → IsLowerBound P F b → IsLowerBound P F c → b ≡ c
lower_bound-one P F b c p q = greatest-one (LowerValue P F) b c p q
