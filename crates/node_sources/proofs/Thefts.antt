-- A node that came by one of a worker's reaches.
use Rattle.std.proofs.Common.{◌≡◌, ℕ, zero, suc, ◌+◌, ◌<◌, inl, inr, ◌∙◌, List, [], ◌∷◌, ◌++◌, length, refl, ap, sym, subst, arith, map}
use Rattle.std.specs.Prelude.{◌⊎◌, slice_index_or, slice_set}
use Rattle.rcpsp_model.specs.Project.{Project}
use Rattle.search_log.specs.Weights.{total, Each}
use Rattle.search_log.proofs.Sums.{total-append}
use Rattle.node_deques.specs.declared.node.DequeNode.{DequeNode}
use Rattle.node_deques.specs.declared.view.DequeView.{DequeView}
use Rattle.node_deques.specs.Nodes.{IsOn}
use Rattle.node_sources.specs.declared.reach.Reach.{Reach}
use Rattle.node_sources.specs.Places.{terms_of, IsElsewhere}
use Rattle.node_sources.specs.Source.{stolen, LeadsOn}
use Rattle.node_sources.specs.Seats.{Right, handle_of, right_of}
use Rattle.node_sources.specs.Thefts.{StealsBy, Steals}
use Rattle.node_sources.proofs.Nodes.{on-terms}

same-right : (before after : Reach) (x : DequeNode) → StealsBy before x after → right_of after ≡ right_of before
same-right before after x by =
    ap (λ (n : ℕ). record { owner = n; handle = handle_of after.thief }) by.owner
    ∙ (ap (λ (v : DequeView). record { owner = before.owner; handle = record { deque = after.thief.deque; passes = v.passes; split_off = v.split_off } }) by.takes.view
    ∙ ap (λ d. record { owner = before.owner; handle = record { deque = d; passes = before.thief.view.passes; split_off = before.thief.view.split_off } }) by.deque)

same-rights : (rs : List Reach) (i : ℕ) (r : Reach) (x : DequeNode) → i < length rs → StealsBy (slice_index_or rs i r) x r → map right_of (slice_set rs i r) ≡ map right_of rs
same-rights [] i r x l by = absurd (omega arith)
same-rights (y ∷ rs) zero r x l by = ap (λ (q : Right). q ∷ map right_of rs) (same-right y r x by)
same-rights (y ∷ rs) (suc i) r x l by = ap (λ (qs : List Right). right_of y ∷ qs) (same-rights rs i r x (omega arith) by)

stolen-one : (f : DequeNode → ℕ) (rs : List Reach) (i : ℕ) (r : Reach) (x : DequeNode) → i < length rs → StealsBy (slice_index_or rs i r) x r → total f (stolen (slice_set rs i r)) ≡ total f (stolen rs) + f x
stolen-one f [] i r x l by = absurd (omega arith)
stolen-one f (y ∷ rs) zero r x l by =
    let a = total-append f r.thief.view.taken (stolen rs) in
    let b = total-append f y.thief.view.taken (stolen rs) in
    let c : total f r.thief.view.taken ≡ total f (y.thief.view.taken ++ x ∷ []) = ap (λ (v : DequeView). total f v.taken) by.takes.view in
    let d = total-append f y.thief.view.taken (x ∷ []) in
    omega arith
stolen-one f (y ∷ rs) (suc i) r x l by =
    let a = total-append f y.thief.view.taken (stolen (slice_set rs i r)) in
    let b = total-append f y.thief.view.taken (stolen rs) in
    let c = stolen-one f rs i r x (omega arith) by in
    omega arith

leads-still : (P : Project) (worker : ℕ) (before after : Reach) (x : DequeNode) → StealsBy before x after → LeadsOn P worker before → LeadsOn P worker after
leads-still P worker before after x by leads = record {
  other = λ e. leads.other (sym by.owner ∙ e);
  terms = ap (λ (v : DequeView). v.terms) by.takes.view ∙ (leads.terms ∙ ap (λ (n : ℕ). terms_of P n ∷ []) (sym by.owner));
}

all-lead-at : (P : Project) (worker : ℕ) (rs : List Reach) (i : ℕ) (r : Reach) (x : DequeNode) → i < length rs → StealsBy (slice_index_or rs i r) x r → Each (LeadsOn P worker) rs → Each (LeadsOn P worker) (slice_set rs i r)
all-lead-at P worker [] i r x l by each = absurd (omega arith)
all-lead-at P worker (y ∷ rs) zero r x l by each = (leads-still P worker y r x by each.0, each.1)
all-lead-at P worker (y ∷ rs) (suc i) r x l by each = (each.0, all-lead-at P worker rs i r x (omega arith) by each.1)

leads-at : (P : Project) (worker : ℕ) (rs : List Reach) (i : ℕ) (r : Reach) → i < length rs → Each (LeadsOn P worker) rs → LeadsOn P worker (slice_index_or rs i r)
leads-at P worker [] i r l each = absurd (omega arith)
leads-at P worker (y ∷ rs) zero r l each = each.0
leads-at P worker (y ∷ rs) (suc i) r l each = leads-at P worker rs i r (omega arith) each.1

pub rights-stay : (before after : List Reach) (x : DequeNode) → Steals before x after → map right_of after ≡ map right_of before
rights-stay before after x s = ap (map right_of) s.others ∙ same-rights before s.index s.reach x s.within s.by

pub stolen-more : (f : DequeNode → ℕ) (before after : List Reach) (x : DequeNode) → Steals before x after → total f (stolen after) ≡ total f (stolen before) + f x
stolen-more f before after x s = ap (λ (rs : List Reach). total f (stolen rs)) s.others ∙ stolen-one f before s.index s.reach x s.within s.by

pub all-lead : (P : Project) (worker : ℕ) (before after : List Reach) (x : DequeNode) → Steals before x after → Each (LeadsOn P worker) before → Each (LeadsOn P worker) after
all-lead P worker before after x s each = subst (Each (LeadsOn P worker)) (sym s.others) (all-lead-at P worker before s.index s.reach x s.within s.by each)

-- the node is on the terms of another worker's deque
pub theft-on : (P : Project) (worker : ℕ) (rs rs' : List Reach) (x : DequeNode) → Steals rs x rs' → Each (LeadsOn P worker) rs → (owner : ℕ) × (owner ≡ worker → ⊥) × IsOn x (terms_of P owner)
theft-on P worker rs rs' x s each =
    let y = slice_index_or rs s.index s.reach in
    let leads = leads-at P worker rs s.index s.reach s.within each in
    (y.owner, leads.other, on-terms P y.owner y.thief.view.terms x leads.terms s.by.takes.on_terms)

-- a place of another worker is none of one's own
pub elsewhere : (P : Project) (worker owner : ℕ) (x : DequeNode) → (owner ≡ worker → ⊥) → IsOn x (terms_of P owner) → IsElsewhere worker x.place
elsewhere P worker owner x other on = parts (beside owner worker)
  where
    beside : (a b : ℕ) → (a < b) ⊎ ((a ≡ b) ⊎ (b < a))
    beside zero zero = inr (inl refl)
    beside zero (suc b) = inl (omega arith)
    beside (suc a) zero = inr (inr (omega arith))
    beside (suc a) (suc b) = elim (beside a b) [ inl l ↦ inl (omega arith) | inr (inl e) ↦ inr (inl (ap suc e)) | inr (inr l) ↦ inr (inr (omega arith)) ]

    parts : (owner < worker) ⊎ ((owner ≡ worker) ⊎ (worker < owner)) → IsElsewhere worker x.place
    parts (inl l) = let h = on.high in inl (omega arith)
    parts (inr (inl e)) = absurd (other e)
    parts (inr (inr l)) = let h = on.low in inr (omega arith)
