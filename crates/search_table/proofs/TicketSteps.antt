-- The tickets stay counted, whichever view changes, comes or is joined away.
use Rattle.std.proofs.Common.{◌≡◌, ℕ, ◌+◌, ◌<◌, ◌≤◌, List, [], ◌∷◌, ◌++◌, set, arith}
use Rattle.search_table.specs.declared.view.PassView.{PassView}
use Rattle.search_table.specs.Views.{with_ticket, with_refusal, joint_view, spent_view}
use Rattle.search_table.specs.Passes.{At, IsLive, total}
use Rattle.search_table.specs.Rule.{won_of, refused_of, passes_of, AreDrawn}
use Rattle.search_table.proofs.Totals.{EachView-set, EachView-snoc, total-set, total-snoc, total-le, le-total}

-- a view changes, and its draws stay
pub AreDrawn-set : (quota t : ℕ) (vs : List PassView) (i : ℕ) (v w : PassView) → AreDrawn quota t vs → At vs i v → w.won ≡ v.won → w.refused ≡ v.refused → w.passes ≡ v.passes
    → AreDrawn quota t (set vs i w)
AreDrawn-set quota t vs i v w r at won refused passes =
    let x = total-set won_of vs i v w at in let y = total-set refused_of vs i v w at in let d = r.drawn in let q = r.won in let f = r.refused i v at in record {
      drawn = omega arith;
      won = omega arith;
      refused = EachView-set (λ u. u.refused ≤ u.passes) vs i w r.refused (omega arith);
    }

-- a ticket is won
pub AreDrawn-ticket : (quota t : ℕ) (vs : List PassView) (i : ℕ) (v : PassView) → AreDrawn quota t vs → At vs i v → t < quota → AreDrawn quota (t + 1) (set vs i (with_ticket v))
AreDrawn-ticket quota t vs i v r at under =
    let w : PassView = with_ticket v in let x = total-set won_of vs i v w at in let y = total-set refused_of vs i v w at in let d = r.drawn in let q = r.won in record {
      drawn = omega arith;
      won = omega arith;
      refused = EachView-set (λ u. u.refused ≤ u.passes) vs i w r.refused (r.refused i v at);
    }

-- a ticket is refused to a pass that was refused none
pub AreDrawn-refusal : (quota t : ℕ) (vs : List PassView) (i : ℕ) (v : PassView) → AreDrawn quota t vs → At vs i v → IsLive v → v.refused ≡ 0 → quota ≤ t
    → AreDrawn quota (t + 1) (set vs i (with_refusal v))
AreDrawn-refusal quota t vs i v r at live fresh over =
    let w : PassView = with_refusal v in let x = total-set won_of vs i v w at in let y = total-set refused_of vs i v w at in let d = r.drawn in let q = r.won in record {
      drawn = omega arith;
      won = omega arith;
      refused = EachView-set (λ u. u.refused ≤ u.passes) vs i w r.refused (omega arith);
    }

-- a view comes that has drawn nothing
pub AreDrawn-snoc : (quota t : ℕ) (vs : List PassView) (w : PassView) → AreDrawn quota t vs → w.won ≡ 0 → w.refused ≡ 0 → AreDrawn quota t (vs ++ w ∷ [])
AreDrawn-snoc quota t vs w r won refused = let x = total-snoc won_of vs w in let y = total-snoc refused_of vs w in let d = r.drawn in let q = r.won in record {
  drawn = omega arith;
  won = omega arith;
  refused = EachView-snoc (λ u. u.refused ≤ u.passes) vs w r.refused (omega arith);
}

-- a view takes in another
pub AreDrawn-join : (quota t : ℕ) (vs : List PassView) (i o : ℕ) (v w : PassView) → AreDrawn quota t vs → At vs i v → At vs o w → At (set vs i (joint_view v w)) o w
    → AreDrawn quota t (set (set vs i (joint_view v w)) o spent_view)
AreDrawn-join quota t vs i o v w r at at' there =
    let both : PassView = joint_view v w in let mid : List PassView = set vs i both in
    let x = total-set won_of vs i v both at in let x' = total-set won_of mid o w spent_view there in
    let y = total-set refused_of vs i v both at in let y' = total-set refused_of mid o w spent_view there in
    let f = r.refused i v at in let f' = r.refused o w at' in let d = r.drawn in let q = r.won in record {
      drawn = omega arith;
      won = omega arith;
      refused = EachView-set (λ u. u.refused ≤ u.passes) mid o spent_view (EachView-set (λ u. u.refused ≤ u.passes) vs i both r.refused (omega arith)) (omega arith);
    }

-- fewer than 5,000 tickets are ever drawn, so that the word doesn't wrap
pub few_drawn : (quota workers t : ℕ) (vs : List PassView) → AreDrawn quota t vs → total passes_of vs ≤ 1 + workers → quota ≤ 4096 → workers ≤ 32 → t < 5000
few_drawn quota workers t vs r p q n = let l = total-le refused_of passes_of vs r.refused in let d = r.drawn in let w = r.won in omega arith

-- no pass has won more than the quota, and what it drew was drawn
pub own_draws : (quota t : ℕ) (vs : List PassView) (i : ℕ) (v : PassView) → AreDrawn quota t vs → At vs i v → (v.won ≤ quota) × (v.won ≤ t) × (v.won + v.refused ≤ t)
own_draws quota t vs i v r at = let x = le-total won_of vs i v at in let y = le-total refused_of vs i v at in let d = r.drawn in let w = r.won in (omega arith, omega arith, omega arith)
