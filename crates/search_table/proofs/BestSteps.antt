-- The best stays the least of all offers, whichever view changes, comes or is joined away.
use Rattle.std.proofs.Common.{◌≡◌, ◌≢◌, ℕ, ◌≤◌, List, [], ◌∷◌, ◌++◌, set, min, sym, refl, ap, ◌∙◌, arith}
use Rattle.atomic_table.proofs.Lists.{set_here, set_else}
use Rattle.search_table.specs.declared.view.PassView.{PassView}
use Rattle.search_table.specs.Lists.{least}
use Rattle.search_table.specs.Views.{with_offer, joint_view, spent_view}
use Rattle.search_table.specs.Passes.{At, IsLive}
use Rattle.search_table.specs.Rule.{IsBest}
use Rattle.search_table.proofs.Totals.{At-below, EachView-set, EachView-snoc}
use Rattle.search_table.proofs.LeastOffers.{least-append, least_offer-le, least_offer-at, least_offer-set, least_offer-snoc}

-- a view that has seen no less than the best changes, and its offers stay
pub IsBest-set : (start b : ℕ) (vs : List PassView) (i : ℕ) (v w : PassView) → IsBest start b vs → At vs i v → w.offers ≡ v.offers → (IsLive w → b ≤ w.least_seen) → IsBest start b (set vs i w)
IsBest-set start b vs i v w r at same seen =
    let d = least_offer-set start vs i v w at in let d0 = d.0 in let d1 = d.1 in let m = least_offer-at start vs i v at in
    let e : least start w.offers ≡ least start v.offers = ap (least start) same in let l = r.least_of_all in record {
      least_of_all = omega arith;
      seen = EachView-set (λ u. IsLive u → b ≤ u.least_seen) vs i w r.seen seen;
    }

-- an end is offered, and the best is lowered to it
pub IsBest-offer : (start b end : ℕ) (vs : List PassView) (i : ℕ) (v : PassView) → IsBest start b vs → At vs i v → IsBest start (min b end) (set vs i (with_offer end b v))
IsBest-offer start b end vs i v r at =
    let w : PassView = with_offer end b v in let d = least_offer-set start vs i v w at in let d0 = d.0 in let d1 = d.1 in let m = least_offer-at start vs i v at in let l = r.least_of_all in record {
      least_of_all = omega arith;
      seen = EachView-set (λ u. IsLive u → min b end ≤ u.least_seen) vs i w (λ j u e live. let s = r.seen j u e live in omega arith) (λ _. omega arith);
    }

-- a view comes that has seen no less than the best and has offered nothing
pub IsBest-snoc : (start b : ℕ) (vs : List PassView) (w : PassView) → IsBest start b vs → w.offers ≡ [] → b ≤ w.least_seen → IsBest start b (vs ++ w ∷ [])
IsBest-snoc start b vs w r none seen = let d = least_offer-snoc start vs w none in let l = r.least_of_all in record {
  least_of_all = omega arith;
  seen = EachView-snoc (λ u. IsLive u → b ≤ u.least_seen) vs w r.seen (λ _. seen);
}

-- a view takes in another
pub IsBest-join : (start b : ℕ) (vs : List PassView) (i o : ℕ) (v w : PassView) → IsBest start b vs → At vs i v → At vs o w → o ≢ i → At (set vs i (joint_view v w)) o w → IsLive v → IsLive w
    → IsBest start b (set (set vs i (joint_view v w)) o spent_view)
IsBest-join start b vs i o v w r at at' apart there live live' =
    let both : PassView = joint_view v w in let mid : List PassView = set vs i both in let new : List PassView = set mid o spent_view in
    let a : least start both.offers ≡ min (least start v.offers) (least start w.offers) = least-append start v.offers w.offers in let none : least start spent_view.offers ≡ start = refl in
    let stays : At new i both = set_else mid o i spent_view (λ e. apart (sym e)) ∙ set_here vs i both (At-below vs i v at) in
    let n = least_offer-at start new i both stays in let m = least_offer-at start vs i v at in let m' = least_offer-at start vs o w at' in let l = least_offer-le start mid in
    let d = least_offer-set start vs i v both at in let d' = least_offer-set start mid o w spent_view there in let d0 = d.0 in let d1 = d.1 in let e0 = d'.0 in let e1 = d'.1 in
    let s = r.seen i v at live in let s' = r.seen o w at' live' in let is = r.least_of_all in record {
      least_of_all = omega arith;
      seen = EachView-set (λ u. IsLive u → b ≤ u.least_seen) mid o spent_view (EachView-set (λ u. IsLive u → b ≤ u.least_seen) vs i both r.seen (λ _. omega arith)) (λ p. absurd (omega arith));
    }
