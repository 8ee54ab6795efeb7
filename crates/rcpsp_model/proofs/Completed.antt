-- What a front and a schedule that completes it have in common.
use Rattle.std.proofs.Common.{ℕ, ◌≤◌, arith, sym, subst, List, [], ◌∷◌, ◌++◌, append_assoc, cond}
use Rattle.std.specs.Prelude.{Contains}
use Rattle.std.proofs.lemmas.List.{append-nil}
use Rattle.rcpsp_model.specs.declared.parts.Entry.{Entry}
use Rattle.rcpsp_model.specs.declared.parts.Placing.{Placing}
use Rattle.rcpsp_model.specs.Project.{Project, need, Before, IsMode}
use Rattle.rcpsp_model.specs.Schedule.{finish, entries, IsFeasible}
use Rattle.rcpsp_model.specs.Modes.{least_need, IsExecutable}
use Rattle.rcpsp_model.specs.Tree.{has_job, Follows, IsFront, InTurn, Completes, LeavesBudgets}
use Rattle.rcpsp_model.proofs.Lists.{total-le, In, In-from_Contains, Contains-from_In, In-All, total, sum_by-total, In-le-total}
use Rattle.rcpsp_model.proofs.Entries.{DistinctJobs, total-others, entries-distinct, distinct-push}
use Rattle.rcpsp_model.proofs.LeastModes.{least_need-le, sum_by-unplaced, cond-mono}
use Rattle.rcpsp_model.proofs.Usage.{load, usage-total, load-active, finish-le-end}
use Rattle.rcpsp_model.proofs.Calendars.{cap_law}

-- The entries of a front have distinct jobs.
distinct-in_turn : (P : Project) (F es : List Entry) → InTurn (Follows P) F es → DistinctJobs F → DistinctJobs (F ++ es)
distinct-in_turn P F [] f d = subst DistinctJobs (sym (append-nil F)) d
distinct-in_turn P F (e ∷ es) f d =
    subst DistinctJobs (append_assoc F (e ∷ []) es) (distinct-in_turn P (F ++ e ∷ []) es f.1 (distinct-push F e d f.0.eligible.unplaced))

pub front-distinct : (P : Project) (F : List Entry) → IsFront P F → DistinctJobs F
front-distinct P F f = distinct-in_turn P [] F f tt

-- What completes a front has its entries.
pub kept-In : (P : Project) (F : List Entry) (s : List Placing) → Completes P F s → (x : Entry) → In F x → In (entries s) x
kept-In P F s c x i = In-from_Contains (entries s) x (In-All (Contains (entries s)) F c.kept x i)

pub precedes : (P : Project) (s : List Placing) → IsFeasible P s → (a b : Entry) → In (entries s) a → In (entries s) b → Before P a.job b.job → finish P a ≤ b.start
precedes P s f a b i j = f.precedence a b (Contains-from_In (entries s) a i) (Contains-from_In (entries s) b j)

-- a mode in a feasible schedule is executable
pub feasible-executable : (P : Project) (s : List Placing) (e : Entry) → IsFeasible P s → In (entries s) e → IsExecutable P e.job e.mode
feasible-executable P s e f m takes_time k r =
    let whole = usage-total P (entries s) k e.start in
    let active = load-active P k e.start e (omega arith) (omega arith) in
    let one = In-le-total (load P k e.start) (entries s) e m in
    let end = finish-le-end P (entries s) e m in
    let within = f.capacity k e.start r (omega arith) in
    let le = cap_law P k e.start in
    omega arith

-- what a completed front needs, and the least that the other jobs need, keeps the budgets
pub completed-budgets : (P : Project) (F : List Entry) (s : List Placing) → DistinctJobs F → Completes P F s → LeavesBudgets P F
completed-budgets P F s d c l r =
    let taken : Entry → ℕ = λ x. need P x.job x.mode l in
    let all = sum_by-total taken (entries s) in
    let mine = sum_by-total taken F in
    let parts = total-others taken (entries s) F (entries-distinct 1 s) d (kept-In P F s c) in
    let least : total (λ (x : Entry). cond (has_job F x.job) 0 (least_need P x.job l)) (entries s) ≤ total (λ (x : Entry). cond (has_job F x.job) 0 (taken x)) (entries s) =
    total-le _ _ (entries s) (λ x i. cond-mono (has_job F x.job) (least_need-le P x.job x.mode l (In-All (λ (z : Entry). IsMode P z.job z.mode) (entries s) c.feasible.modes x i))) in
    let rest = sum_by-unplaced P F s (λ j. least_need P j l) c.feasible.whole in
    let ok = c.feasible.budgets l r in
    omega arith
