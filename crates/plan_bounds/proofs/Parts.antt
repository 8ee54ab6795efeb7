-- The active jobs of a node, which are the newest and the older ones.
use Rattle.std.proofs.Common.{◌≡◌, ℕ, ◌+◌, ◌-◌, ◌*◌, ◌≤◌, arith, ap, List, []}
use Rattle.std.specs.Prelude.{All, Option, Some, None, sum_by}
use Rattle.std.proofs.lemmas.List.Sums.{sum_by-cons}
use Rattle.rcpsp_model.specs.declared.parts.Entry.{Entry}
use Rattle.rcpsp_model.specs.Project.{Project, request, IsWithinLimits}
use Rattle.rcpsp_model.specs.Tree.{last_start, IsFront}
use Rattle.rcpsp_model.specs.Bounds.{periods_left}
use Rattle.rcpsp_model.proofs.Lists.{In-All, In-from_Contains, total-same, sum_by-total}
use Rattle.rcpsp_model.proofs.Usage.{finish-le-end}
use Rattle.rcpsp_model.proofs.Fronts.{front-end, named-in_turn, duration-limit}
use Rattle.precedence_tree.specs.declared.active.Active.{Active}
use Rattle.precedence_tree.specs.Active.{IsActive, AreActive}
use Rattle.precedence_tree.specs.Node.{joined}
use Rattle.precedence_tree.proofs.Actives.{front-starts, sum-active}
use Rattle.plan_bounds.specs.Work.{work_from}

-- active jobs finish by the front's end
pub active-ends : (P : Project) (F : List Entry) (xs : List Active) → IsWithinLimits P → IsFront P F → AreActive P F xs → All (λ (a : Active). a.finish ≤ 1290000) xs
active-ends P F xs w f are k d h =
    let act = are.each k d h in
    let within = finish-le-end P F _ (In-from_Contains F _ act.placed) in
    let limit = front-end P F w f in
    let same = act.finish in
    omega arith

-- and no more than a longest mode after the last start
pub active-periods : (P : Project) (F : List Entry) (xs : List Active) (from : ℕ) → IsWithinLimits P → IsFront P F → AreActive P F xs → from ≡ last_start F → All (λ (a : Active). (from ≤ a.finish) × (a.finish ≤ from + 10000)) xs
active-periods P F xs from w f are is k d h =
    let act = are.each k d h in
    let there = In-from_Contains F _ act.placed in
    let named = named-in_turn P [] F f _ there in
    let starts = front-starts P F f _ there in
    let time = duration-limit P w _ _ named.0 named.1 in
    let same = act.finish in
    let later = act.later in
    (omega arith, omega arith)

-- the work of the placed jobs that is left is that of the active ones
pub placed-work : (P : Project) (F : List Entry) (xs : List Active) (k from : ℕ) → AreActive P F xs → from ≡ last_start F → sum_by (λ (e : Entry). request P e.job e.mode k * periods_left P (last_start F) e) F ≡ sum_by (work_from P k from) xs
placed-work P F xs k from are is =
    let left : Entry → ℕ = λ e. request P e.job e.mode k * periods_left P (last_start F) e in
    let active = sum-active P F xs left are (λ e i done. none (request P e.job e.mode k) (periods_left P (last_start F) e) (omega arith)) in
    let mine = sum_by-total (λ (a : Active). left a.entry) xs in
    let theirs = sum_by-total (work_from P k from) xs in
    let same = total-same (λ (a : Active). left a.entry) (work_from P k from) xs (λ a i.
    let act = In-All (IsActive P F) xs are.each a i in
    ap (λ n. request P a.entry.job a.entry.mode k * n) (let e : periods_left P (last_start F) a.entry ≡ a.finish - from = (let finish_is = act.finish in omega arith) in e)) in
    omega arith
  where
    none : (r n : ℕ) → n ≡ 0 → r * n ≡ 0
    none r n z = let product : r * n ≡ r * 0 = ap (λ m. r * m) z in omega arith

pub joined-sum : (f : Active → ℕ) (o : Option Active) (xs : List Active) → sum_by f (joined o xs) ≡ sum_by f (joined o []) + sum_by f xs
joined-sum f None xs = omega arith
joined-sum f (Some a) xs = let whole = sum_by-cons f a xs in let one = sum_by-cons f a [] in omega arith
