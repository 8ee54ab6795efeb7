-- The published counts stay kept, whichever view changes, comes or is joined away.
use Rattle.std.proofs.Common.{◌≡◌, ◌≢◌, ℕ, ◌+◌, ◌≤◌, ◌==◌, List, [], ◌∷◌, ◌++◌, length, set, sym, refl, ap, ◌∙◌, ⊎_elim, subst, arith}
use Rattle.std.specs.Prelude.{if◌then◌else◌}
use mathlib.Core.Logic.{dite}
use native.Mathlib.Decide.{ℕ_discrete}
use Rattle.atomic_table.proofs.Lists.{at_set}
use Rattle.search_table.specs.declared.view.PassView.{PassView}
use Rattle.search_table.specs.declared.view.RoundTerms.{RoundTerms}
use Rattle.search_table.specs.Lists.{Lacks}
use Rattle.search_table.specs.Counts.{greatest_of, sum_of, times_of, counts_of, made_by, seen_of, passes_of_worker}
use Rattle.search_table.specs.Views.{first_view, with_publication, with_count, with_worker, worker_view, joint_view, spent_view}
use Rattle.search_table.specs.Passes.{IsLive, At, total}
use Rattle.search_table.specs.Rule.{passes_of, AreNumbered}
use Rattle.search_table.specs.CountRule.{IsWorker, HasSplitOff, KeepsCounts}
use Rattle.search_table.proofs.Totals.{nobody, At-snoc, EachView-set, EachView-snoc, total-set, total-snoc, le-total, total-one}
use Rattle.search_table.proofs.SplitWorkers.{Lacks-before, Lacks-last}
use Rattle.search_table.proofs.NumberSteps.{IsSamePass}
use Rattle.search_table.proofs.CountSums.{if-same, if-apart, if-le, sum_of-none, made_by-joint_view, seen_of-joint_view, passes_of_worker-joint_view}

pub KeepsCounts-same : (workers : ℕ) (count count' : ℕ → ℕ) (vs : List PassView) → KeepsCounts workers count vs → ((worker : ℕ) → 1 ≤ worker → count' worker ≡ count worker) → KeepsCounts workers count' vs
KeepsCounts-same workers count count' vs r same = record {
  made = λ q is. same q is.low ∙ r.made q is;
  seen = λ q is j u e l. let s = r.seen q is j u e l in let c = same q is.low in omega arith;
  once = r.once;
  first = r.first;
  spent = r.spent;
}

-- a view changes, and stands for as many passes of each worker as before
KeepsCounts-set : (workers : ℕ) (count count' : ℕ → ℕ) (vs : List PassView) (i : ℕ) (v w : PassView) → KeepsCounts workers count vs → At vs i v → IsLive v → IsSamePass v w
    → ((worker : ℕ) → passes_of_worker worker w ≡ passes_of_worker worker v)
    → ((worker : ℕ) → IsWorker workers worker → (count' worker + made_by worker v ≡ count worker + made_by worker w) × (count worker ≤ count' worker) × (seen_of worker w ≤ count' worker))
    → KeepsCounts workers count' (set vs i w)
KeepsCounts-set workers count count' vs i v w r at live s same up =
    let new : List PassView = set vs i w in let number = s.number in let passes = s.passes in
    let all : (q : ℕ) → total (passes_of_worker q) new ≡ total (passes_of_worker q) vs = λ q. let t = total-set (passes_of_worker q) vs i v w at in let e = same q in omega arith in record {
      made = λ q is. let t = total-set (made_by q) vs i v w at in let m = r.made q is in let u = up q is in let u0 = u.0 in omega arith;
      seen = λ q is. let u = up q is in let u1 = u.1 in
          EachView-set (λ x. IsLive x → seen_of q x ≤ count' q) vs i w (λ j x e l. let h = r.seen q is j x e l in omega arith) (λ _. u.2);
      once = λ q pos. let a = all q in let o = r.once q pos in omega arith;
      first = EachView-set (HasSplitOff new) vs i w (λ j x e l z q pos out. all q ∙ r.first j x e l z q pos out)
          (λ l z q pos out. all q ∙ r.first i v at live (sym number ∙ z) q pos (subst (λ (ws : List ℕ). Lacks ws q) s.split_off out));
      spent = EachView-set (λ x. x.passes ≡ 0 → (q : ℕ) → made_by q x ≡ 0) vs i w r.spent (λ none. absurd (omega arith));
    }

-- a view changes, and neither what it has published nor the counts that it has seen
pub KeepsCounts-quiet : (workers : ℕ) (count : ℕ → ℕ) (vs : List PassView) (i : ℕ) (v w : PassView) → KeepsCounts workers count vs → At vs i v → IsLive v → IsSamePass v w → counts_of w ≡ counts_of v → w.seen_counts ≡ v.seen_counts
    → KeepsCounts workers count (set vs i w)
KeepsCounts-quiet workers count vs i v w r at live s made seen = KeepsCounts-set workers count count vs i v w r at live s (λ q. ap (times_of q) made) (λ q is.
    let m : made_by q w ≡ made_by q v = ap (sum_of q) made in let e : seen_of q w ≡ seen_of q v = ap (greatest_of q) seen in let h = r.seen q is i v at live in
    (omega arith, omega arith, omega arith))

-- what a worker has published is what its pass has
own_count : (workers : ℕ) (count : ℕ → ℕ) (vs : List PassView) (i : ℕ) (v : PassView) → KeepsCounts workers count vs → At vs i v → 1 ≤ v.number → total (made_by v.number) vs ≡ v.own
own_count workers count vs i v r at pos =
    let n : ℕ = v.number in let once = r.once n pos in let le = le-total (passes_of_worker n) vs i v at in
    let one = if-same n 1 in let own = if-same n v.own in
    let none : times_of n v.joined_counts ≡ 0 = omega arith in let all : total (passes_of_worker n) vs ≡ passes_of_worker n v = omega arith in
    let mine = total-one (passes_of_worker n) (made_by n) vs i v at all (λ j u e. sum_of-none n (counts_of u)) in let nothing = sum_of-none n v.joined_counts none in omega arith

-- a pass publishes: the count of its worker, which was its own, is one more
pub KeepsCounts-publish : (workers : ℕ) (count count' : ℕ → ℕ) (vs : List PassView) (i : ℕ) (v : PassView) → KeepsCounts workers count vs → At vs i v → IsLive v → IsWorker workers v.number
    → count' v.number ≡ count v.number + 1 → ((q : ℕ) → q ≢ v.number → count' q ≡ count q) → KeepsCounts workers count' (set vs i (with_publication v)) × (count v.number ≡ v.own)
KeepsCounts-publish workers count count' vs i v r at live is here others =
    let n : ℕ = v.number in let w : PassView = with_publication v in
    let up : (q : ℕ) → IsWorker workers q → (count' q + made_by q v ≡ count q + made_by q w) × (count q ≤ count' q) × (seen_of q w ≤ count' q) = λ q of. let h = r.seen q of i v at live in dite (ℕ_discrete q n)
    (λ e.
    let c' : count' q ≡ count n + 1 = ap count' e ∙ here in let c : count q ≡ count n = ap count e in
    let a : (if n == q then v.own else 0) ≡ v.own = ap (λ (m : ℕ). if n == m then v.own else 0) e ∙ if-same n v.own in
    let b : (if n == q then v.own + 1 else 0) ≡ v.own + 1 = ap (λ (m : ℕ). if n == m then v.own + 1 else 0) e ∙ if-same n (v.own + 1) in (omega arith, omega arith, omega arith))
    (λ ne.
    let c = others q ne in let a = if-apart n q v.own (λ e. ne (sym e)) in let b = if-apart n q (v.own + 1) (λ e. ne (sym e)) in (omega arith, omega arith, omega arith)) in (
      KeepsCounts-set workers count count' vs i v w r at live record { number = refl; passes = refl; split_off = refl } (λ q. refl) up,
      r.made n is ∙ own_count workers count vs i v r at is.low,
    )

-- a pass loads the count of a worker, of whom it had seen no more
pub KeepsCounts-load : (workers : ℕ) (count : ℕ → ℕ) (vs : List PassView) (i worker : ℕ) (v : PassView) → KeepsCounts workers count vs → At vs i v → IsLive v → IsWorker workers worker
    → KeepsCounts workers count (set vs i (with_count worker (count worker) v)) × (seen_of worker v ≤ count worker)
KeepsCounts-load workers count vs i worker v r at live is = let w : PassView = with_count worker (count worker) v in (
  KeepsCounts-set workers count count vs i v w r at live record { number = refl; passes = refl; split_off = refl } (λ q. refl) (λ q of. (
    omega arith,
    omega arith,
    (let h = r.seen q of i v at live in dite (ℕ_discrete worker q) (λ e. let c : count worker ≡ count q = ap count e in let l = if-le (worker == q) (count worker) in omega arith)
        (λ ne. let z = if-apart worker q (count worker) ne in omega arith)),
  )),
  r.seen worker is i v at live,
)

-- the pass of a worker is split off
pub KeepsCounts-split : (workers : ℕ) (count : ℕ → ℕ) (worker : ℕ) (vs : List PassView) (i : ℕ) (v : PassView) → KeepsCounts workers count vs → AreNumbered workers vs → At vs i v → IsLive v → v.number ≡ 0
    → 1 ≤ worker → Lacks v.split_off worker → KeepsCounts workers count (set vs i (with_worker worker v) ++ worker_view worker v ∷ [])
KeepsCounts-split workers count worker vs i v r numbers at live zeroth pos out =
    let left : PassView = with_worker worker v in let right : PassView = worker_view worker v in let mid : List PassView = set vs i left in let new : List PassView = mid ++ right ∷ [] in
    let some : (q : ℕ) → total (passes_of_worker q) new ≡ total (passes_of_worker q) vs + (if worker == q then 1 else 0) = λ q.
    let t = total-set (passes_of_worker q) vs i v left at in let s = total-snoc (passes_of_worker q) mid right in omega arith in record {
      made = λ q is. let t = total-set (made_by q) vs i v left at in let s = total-snoc (made_by q) mid right in let m = r.made q is in let z = if-le (worker == q) 0 in omega arith;
      seen = λ q is. let h = r.seen q is i v at live in EachView-snoc (λ x. IsLive x → seen_of q x ≤ count q) mid right (EachView-set (λ x. IsLive x → seen_of q x ≤ count q) vs i left (r.seen q is) (λ _. h)) (λ _. h);
      once = λ q low. let a = some q in dite (ℕ_discrete worker q)
          (λ e. let none : total (passes_of_worker q) vs ≡ 0 = r.first i v at live zeroth q low (subst (Lacks v.split_off) e out) in let l = if-le (worker == q) 1 in omega arith)
          (λ ne. let z = if-apart worker q 1 ne in let o = r.once q low in omega arith);
      first = λ j u e l z q low lacks. ⊎_elim
          (λ (x : At mid j u). ⊎_elim
          (λ (y : (j ≡ i) × (left ≡ u)).
          let lacks' : Lacks left.split_off q = subst (λ (o : PassView). Lacks o.split_off q) (sym y.1) lacks in let a = some q in
          let none = r.first i v at live zeroth q low (Lacks-before v.split_off worker q lacks') in let z' = if-apart worker q 1 (λ (e : worker ≡ q). Lacks-last v.split_off worker q lacks' (sym e)) in omega arith)
          (λ (y : (j ≢ i) × At vs j u). absurd (y.0 (numbers.apart j i u v y.1 at l live (z ∙ sym zeroth)))) (at_set vs i j left u x))
          (λ (x : (j ≡ length mid) × (right ≡ u)). let n : worker ≡ u.number = ap (λ (o : PassView). o.number) x.1 in absurd (omega arith)) (At-snoc mid right j u e);
      spent = EachView-snoc (λ x. x.passes ≡ 0 → (q : ℕ) → made_by q x ≡ 0) mid right (EachView-set (λ x. x.passes ≡ 0 → (q : ℕ) → made_by q x ≡ 0) vs i left r.spent (λ none. absurd (omega arith))) (λ none. absurd (omega arith));
    }

-- a pass takes in another
pub KeepsCounts-join : (workers : ℕ) (count : ℕ → ℕ) (vs : List PassView) (i o : ℕ) (v w : PassView) → KeepsCounts workers count vs → At vs i v → At vs o w → At (set vs i (joint_view v w)) o w → IsLive v → IsLive w
    → KeepsCounts workers count (set (set vs i (joint_view v w)) o spent_view)
KeepsCounts-join workers count vs i o v w r at at' there live live' =
    let both : PassView = joint_view v w in let mid : List PassView = set vs i both in let new : List PassView = set mid o spent_view in
    let all : (q : ℕ) → 1 ≤ q → total (passes_of_worker q) new ≡ total (passes_of_worker q) vs = λ q pos.
    let t = total-set (passes_of_worker q) vs i v both at in let t' = total-set (passes_of_worker q) mid o w spent_view there in
    let a = passes_of_worker-joint_view q v w in let z = if-apart 0 q 1 (λ e. omega arith) in omega arith in
    let P : ℕ → PassView → Type 0 = λ q x. IsLive x → seen_of q x ≤ count q in record {
      made = λ q is.
          let t = total-set (made_by q) vs i v both at in let t' = total-set (made_by q) mid o w spent_view there in
          let a = made_by-joint_view q v w in let z = if-le (0 == q) 0 in let m = r.made q is in omega arith;
      seen = λ q is. let h = r.seen q is i v at live in let h' = r.seen q is o w at' live' in let g = seen_of-joint_view q v w in
          EachView-set (P q) mid o spent_view (EachView-set (P q) vs i both (r.seen q is) (λ _. omega arith)) (λ p. absurd (omega arith));
      once = λ q pos. let a = all q pos in let h = r.once q pos in omega arith;
      first = EachView-set (HasSplitOff new) mid o spent_view (EachView-set (HasSplitOff new) vs i both (λ j u e l z q pos out. all q pos ∙ r.first j u e l z q pos out)
          (λ l z q pos out. all q pos ∙ r.first i v at live z q pos out)) (λ l. absurd (omega arith));
      spent = EachView-set (λ x. x.passes ≡ 0 → (q : ℕ) → made_by q x ≡ 0) mid o spent_view
          (EachView-set (λ x. x.passes ≡ 0 → (q : ℕ) → made_by q x ≡ 0) vs i both r.spent (λ none. absurd (omega arith))) (λ _ q. let z = if-le (0 == q) 0 in omega arith);
    }

-- at the start nobody has published
pub KeepsCounts-first : (k : RoundTerms) (count : ℕ → ℕ) → ((worker : ℕ) → IsWorker k.workers worker → count worker ≡ 0) → KeepsCounts k.workers count (first_view k ∷ [])
KeepsCounts-first k count none = let x : PassView = first_view k in record {
  made = λ q is. let z = if-le (0 == q) 0 in let n = none q is in omega arith;
  seen = λ q is. EachView-snoc (λ v. IsLive v → seen_of q v ≤ count q) [] x (nobody (λ v. IsLive v → seen_of q v ≤ count q)) (λ _. omega arith);
  once = λ q pos. let z = if-apart 0 q 1 (λ e. omega arith) in omega arith;
  first = EachView-snoc (HasSplitOff (x ∷ [])) [] x (nobody (HasSplitOff (x ∷ []))) (λ l z q pos out. let z' = if-apart 0 q 1 (λ e. omega arith) in omega arith);
  spent = EachView-snoc (λ v. v.passes ≡ 0 → (q : ℕ) → made_by q v ≡ 0) [] x (nobody (λ v. v.passes ≡ 0 → (q : ℕ) → made_by q v ≡ 0)) (λ e. absurd (omega arith));
}

-- where one pass stands for all, it has seen of each worker no more than it stands for
pub seen-made : (workers : ℕ) (count : ℕ → ℕ) (vs : List PassView) (i : ℕ) (v : PassView) → KeepsCounts workers count vs → At vs i v → IsLive v → total passes_of vs ≡ v.passes
    → (worker : ℕ) → IsWorker workers worker → seen_of worker v ≤ made_by worker v
seen-made workers count vs i v r at live all q is =
    let s = r.seen q is i v at live in let m = r.made q is in let o = total-one passes_of (made_by q) vs i v at all (λ j u e none. r.spent j u e none q) in omega arith
