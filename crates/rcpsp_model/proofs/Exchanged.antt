-- What completes a front that isn't a leaf can be exchanged for what completes a placed child.
use Rattle.std.proofs.Common.{◌≡◌, ℕ, ◌≤◌, inl, inr, arith, subst, List, [], ◌∷◌, ◌++◌, true}
use Rattle.rcpsp_model.specs.declared.parts.Entry.{Entry}
use Rattle.rcpsp_model.specs.declared.parts.Placing.{Placing}
use Rattle.rcpsp_model.specs.Project.{Project, IsMode, IsAcyclic}
use Rattle.rcpsp_model.specs.Schedule.{entries}
use Rattle.rcpsp_model.specs.Modes.{TakesNoMore, IsExecutable}
use Rattle.rcpsp_model.specs.Tree.{has_job, CanStart, IsFront, Completes}
use Rattle.rcpsp_model.specs.Laws.{Exchange, ExchangeLaw}
use Rattle.rcpsp_model.proofs.Lists.{In-All, first_failing}
use Rattle.rcpsp_model.proofs.Numbers.{least_of}
use Rattle.rcpsp_model.proofs.Entries.{entry_at, distinct-push}
use Rattle.rcpsp_model.proofs.LeastModes.{efficient_mode}
use Rattle.rcpsp_model.proofs.Usage.{can_start_decided}
use Rattle.rcpsp_model.proofs.Completed.{front-distinct, feasible-executable, completed-budgets}
use Rattle.rcpsp_model.proofs.NextJob.{IsNext, next-eligible, next-can_start}
use Rattle.rcpsp_model.proofs.MovedJob.{moved, at, moved-end, moved-completes}

-- what takes no more can start where the mode itself can
can_start-less : (P : Project) (F : List Entry) (j o m t : ℕ) → TakesNoMore P j o m → CanStart P F j m t → CanStart P F j o t
can_start-less P F j o m t less can = record {
  after_last = can.after_last;
  after_preds = can.after_preds;
  fits = λ k u r low high. let d = less.duration in let q = less.requests k r in let fit = can.fits k u r low (omega arith) in omega arith;
}

executable-less : (P : Project) (j o m : ℕ) → TakesNoMore P j o m → IsExecutable P j m → IsExecutable P j o
executable-less P j o m less can takes_time k r = let d = less.duration in let q = less.requests k r in let fit = can (omega arith) k r in omega arith

exchange_with : (P : Project) (a : IsAcyclic P) (F : List Entry) (s : List Placing) (e : Entry) → IsFront P F → Completes P F s → IsNext P a F s e → Exchange P F s
unfolding IsNext
exchange_with P a F s e f c n =
    let el = next-eligible P a F s e c n in
    let mode = In-All (λ (z : Entry). IsMode P z.job z.mode) (entries s) c.feasible.modes e n.member in
    let best = efficient_mode P e.job e.mode mode in
    let o = best.0 in
    let can = can_start-less P F e.job o e.mode e.start best.2 (next-can_start P a F s e f c n) in
    let least = least_of (CanStart P F e.job o) (can_start_decided P F e.job o) e.start can in
    let t = least.0 in
    let le : t ≤ e.start = least.1.least e.start can in
    let done = moved-completes P a F s e o t f c n best.1 el least.1.attained le best.2 in
    let distinct = distinct-push F (at e o t) (front-distinct P F f) n.fails in
    let budgets = completed-budgets P (F ++ at e o t ∷ []) (moved s e o t) distinct done in
    record {
      entry = at e o t;
      child = record {
        follows = record { eligible = el; mode = best.1; start = least.1; budgets = λ l r. let b = budgets l r in omega arith };
        executable = executable-less P e.job o e.mode best.2 (feasible-executable P s e c.feasible n.member);
        budgets = budgets;
        efficient = best.3;
      };
      better = moved s e o t;
      completes = done;
      no_later = moved-end P s e o t n.member le best.2;
    }

-- what completes a front that isn't a leaf can be changed to complete a child, at no later end
pub exchange_law : ExchangeLaw
unfolding IsNext
exchange_law P F s a f not_leaf c =
    elim (first_failing (λ (x : Entry). has_job F x.job) (λ (x : Entry). x.start) (λ (x : Entry). a.rank x.job) (entries s)) [
      | inl all ↦ absurd (not_leaf (λ j r.
          let at_ = entry_at 1 s j r.0 (let w = c.feasible.whole in omega (arith, r.1)) in
          subst (λ (k : ℕ). has_job F k ≡ true) at_.2 (all at_.0 at_.1)))
      | inr found ↦ exchange_with P a F s found.0 f c found.1
    ]
