-- What came by reaches is joined into the deques, and these are emptied.
use Rattle.std.proofs.Common.{◌≡◌, ℕ, zero, suc, ◌+◌, ◌-◌, ◌<◌, ◌∙◌, List, [], ◌∷◌, ◌++◌, length, refl, ap, sym, subst, arith, map, All, append_assoc, IsPermutation}
use Rattle.std.specs.Prelude.{slice_index_or, slice_set}
use Rattle.std.proofs.lemmas.List.{map-set, map-append, length-map, length-set}
use Rattle.std.proofs.Math.ListN.{get_or-map}
use Rattle.std.proofs.lemmas.List.Elements.{All-nil, All-append}
use Rattle.std.proofs.lemmas.List.Sorted.{All-permutation, IsPermutation-sym}
use Rattle.rcpsp_model.specs.Project.{Project}
use Rattle.precedence_tree.specs.Node.{StandsFor}
use Rattle.search_log.specs.Weights.{total, Each}
use Rattle.search_log.proofs.Sums.{total-append, total-map}
use Rattle.search_rounds.specs.declared.round.WaitingNode.{WaitingNode}
use Rattle.search_rounds.specs.Round.{waits_at}
use Rattle.node_deques.specs.declared.node.DequeNode.{DequeNode}
use Rattle.node_deques.specs.Handles.{HandleState}
use Rattle.node_deques.specs.Steps.{HasAllPasses}
use Rattle.node_sources.specs.declared.reach.Reach.{Reach}
use Rattle.node_sources.specs.Source.{SourceState, waiting, stolen, given_by, taken_by, IsSourceOf}
use Rattle.node_sources.specs.Seats.{Handle, Right, handle_of, right_of, seat_of, all_rights, IsWithin, AreReached, AreSeated}
use Rattle.node_sources.specs.declared.settling.Apart.{Apart}
use Rattle.node_sources.specs.Settled.{all_given, all_taken, IsSettled}
use Rattle.node_sources.specs.Joins.{all_reaches, LeadsInto, joint, IsJoined, AreServed, popped, accepted, IsApart, AreJoined, IsLeftOf}
use Rattle.node_sources.proofs.Nodes.{total-permutation, All-back}
use Rattle.node_sources.proofs.Reached.{joint_handle, joins, leads-into}

-- One join.

-- the place of the owner's deque
place-of : (n : ℕ) (ds : List HandleState) (r : Reach) → IsWithin n (right_of r) → n ≡ length ds → (r.owner ≡ 1 + (r.owner - 1)) × (r.owner - 1 < length ds)
place-of n ds r within e = let a = within.low in let b = within.high in (omega arith, omega arith)

pub leads : (r : Reach) (rs : List Reach) (ds : List HandleState) → AreServed (r ∷ rs) ds → LeadsInto ds r
leads r rs ds served =
    let p = place-of (length ds) ds r served.within.0 refl in
    let at : slice_index_or (map handle_of ds) (r.owner - 1) (handle_of r.thief) ≡ handle_of (slice_index_or ds (r.owner - 1) r.thief) = get_or-map handle_of ds (r.owner - 1) r.thief in
    let long : length (map handle_of ds) ≡ length ds = length-map ds handle_of in
    let l = p.1 in
    let to = leads-into (right_of r) (map right_of rs) 1 (map handle_of ds) (r.owner - 1) (handle_of r.thief) p.0 (omega arith) served.reached in
    sym (to ∙ ap (λ (h : Handle). h.deque) at)

pub served-still : (r : Reach) (rs : List Reach) (before after : List HandleState) → AreServed (r ∷ rs) before → IsJoined r before after → AreServed rs after
served-still r rs before after served joined =
    let i : ℕ = r.owner - 1 in
    let own : HandleState = slice_index_or before i r.thief in
    let p = place-of (length before) before r served.within.0 refl in
    let at : slice_index_or (map handle_of before) i (handle_of r.thief) ≡ handle_of own = get_or-map handle_of before i r.thief in
    let long : length (map handle_of before) ≡ length before = length-map before handle_of in
    let l = p.1 in
    let to = joins (right_of r) (map right_of rs) 1 (map handle_of before) i (handle_of r.thief) p.0 (omega arith) served.reached in
    let is : slice_set (map handle_of before) i (joint_handle (slice_index_or (map handle_of before) i (handle_of r.thief)) (handle_of r.thief)) ≡ map handle_of after =
    ap (λ (h : Handle). slice_set (map handle_of before) i (joint_handle h (handle_of r.thief))) at ∙ (sym (map-set handle_of before i (joint own r.thief)) ∙ sym (ap (map handle_of) joined)) in
    let same : length before ≡ length after = sym (ap length joined ∙ length-set before i (joint own r.thief)) in
    record {
      within = subst (λ (n : ℕ). Each (IsWithin n) (map right_of rs)) same served.within.1;
      reached = subst (AreReached (map right_of rs) 1) is to;
    }

accepted-set : (ds : List HandleState) (i : ℕ) (t d : HandleState) → accepted (slice_set ds i (joint (slice_index_or ds i d) t)) ≡ accepted ds
accepted-set [] i t d = refl
accepted-set (x ∷ ds) zero t d = refl
accepted-set (x ∷ ds) (suc i) t d = ap (λ (xs : List DequeNode). x.view.accepted ++ xs) (accepted-set ds i t d)

pub accepted-still : (r : Reach) (before after : List HandleState) → IsJoined r before after → accepted after ≡ accepted before
accepted-still r before after joined = ap accepted joined ∙ accepted-set before (r.owner - 1) r.thief r.thief

popped-set : (f : DequeNode → ℕ) (ds : List HandleState) (i : ℕ) (t d : HandleState) → i < length ds → total f (popped (slice_set ds i (joint (slice_index_or ds i d) t))) ≡ total f (popped ds) + total f t.view.taken
popped-set f [] i t d l = absurd (omega arith)
popped-set f (x ∷ ds) zero t d l =
    let a = total-append f (x.view.taken ++ t.view.taken) (popped ds) in
    let b = total-append f x.view.taken t.view.taken in
    let c = total-append f x.view.taken (popped ds) in
    omega arith
popped-set f (x ∷ ds) (suc i) t d l =
    let a = total-append f x.view.taken (popped (slice_set ds i (joint (slice_index_or ds i d) t))) in
    let b = popped-set f ds i t d (omega arith) in
    let c = total-append f x.view.taken (popped ds) in
    omega arith

pub popped-more : (f : DequeNode → ℕ) (r : Reach) (rs : List Reach) (before after : List HandleState) → AreServed (r ∷ rs) before → IsJoined r before after → total f (popped after) ≡ total f (popped before) + total f r.thief.view.taken
popped-more f r rs before after served joined =
    let p = place-of (length before) before r served.within.0 refl in
    ap (λ (ds : List HandleState). total f (popped ds)) joined ∙ popped-set f before (r.owner - 1) r.thief r.thief p.1

-- where no reach is left
all-passes-from : (n : ℕ) (ds : List HandleState) → AreReached [] n (map handle_of ds) → Each (λ d. HasAllPasses d.view) ds
all-passes-from n [] k = tt
all-passes-from n (d ∷ ds) k = let p = k.0.passes in (omega arith, all-passes-from (n + 1) ds k.1)

pub all-passes : (ds : List HandleState) → AreServed [] ds → Each (λ d. HasAllPasses d.view) ds
all-passes ds served = all-passes-from 1 ds served.reached

-- One deque is emptied.

pub left-weighs : (f : WaitingNode → ℕ) (d : HandleState) (left : List DequeNode) → IsPermutation (d.view.taken ++ left) d.view.accepted → total f (map waiting d.view.taken) + total f (map waiting left) ≡ total f (map waiting d.view.accepted)
left-weighs f d left p =
    let a = total-permutation (λ x. f (waiting x)) (d.view.taken ++ left) d.view.accepted p in
    let b = total-append (λ x. f (waiting x)) d.view.taken left in
    let g = total-map f waiting d.view.taken in
    let h = total-map f waiting left in
    let i = total-map f waiting d.view.accepted in
    omega arith

pub left-all : (Q : DequeNode → Type 0) (d : HandleState) (left : List DequeNode) → IsPermutation (d.view.taken ++ left) d.view.accepted → All Q d.view.accepted → All Q left
left-all Q d left p all = All-back Q d.view.taken left (All-permutation Q d.view.accepted (d.view.taken ++ left) (IsPermutation-sym (d.view.taken ++ left) d.view.accepted p) all)

pub parted : (f : WaitingNode → ℕ) (xs ys : List DequeNode) → total f (map waiting (xs ++ ys)) ≡ total f (map waiting xs) + total f (map waiting ys)
parted f xs ys = ap (total f) (map-append waiting xs ys) ∙ total-append f (map waiting xs) (map waiting ys)

-- Sources and their parts.

pub rights-apart : (ss : List SourceState) → all_rights (map seat_of ss) ≡ map right_of (all_reaches ss)
rights-apart [] = refl
rights-apart (s ∷ ss) = ap (λ (rs : List Right). map right_of s.reaches ++ rs) (rights-apart ss) ∙ sym (map-append right_of s.reaches (all_reaches ss))

handles-apart : (ss : List SourceState) → map (λ s. s.own) (map seat_of ss) ≡ map handle_of (map (λ s. s.deque) ss)
handles-apart [] = refl
handles-apart (s ∷ ss) = ap (λ (hs : List Handle). handle_of s.deque ∷ hs) (handles-apart ss)

pub served : (ss : List SourceState) → AreSeated ss → AreServed (all_reaches ss) (map (λ s. s.deque) ss)
served ss seated =
    let long : length (map seat_of ss) ≡ length (map (λ (s : SourceState). s.deque) ss) = length-map ss seat_of ∙ sym (length-map ss (λ (s : SourceState). s.deque)) in
    let rights = rights-apart ss in
    record {
      within = subst (λ (rs : List Right). Each (IsWithin (length (map (λ (s : SourceState). s.deque) ss))) rs) rights (subst (λ (n : ℕ). Each (IsWithin n) (all_rights (map seat_of ss))) long seated.within);
      reached = subst (λ (hs : List Handle). AreReached (map right_of (all_reaches ss)) 1 hs) (handles-apart ss) (subst (λ (rs : List Right). AreReached rs 1 (map (λ s. s.own) (map seat_of ss))) rights seated.reached);
    }

stolen-append : (rs qs : List Reach) → stolen (rs ++ qs) ≡ stolen rs ++ stolen qs
stolen-append [] qs = refl
stolen-append (r ∷ rs) qs = ap (λ (xs : List DequeNode). r.thief.view.taken ++ xs) (stolen-append rs qs) ∙ sym (append_assoc r.thief.view.taken (stolen rs) (stolen qs))

pub taken-apart : (f : WaitingNode → ℕ) (ss : List SourceState) → total f (all_taken ss) ≡ total f (map waiting (popped (map (λ s. s.deque) ss))) + total f (map waiting (stolen (all_reaches ss)))
taken-apart f [] = refl
taken-apart f (s ∷ ss) =
    let ds : List HandleState = map (λ (s : SourceState). s.deque) ss in
    let xs = s.deque.view.taken in
    let a = total-append f (taken_by s) (all_taken ss) in
    let b = parted f xs (stolen s.reaches) in
    let c = taken-apart f ss in
    let d = parted f xs (popped ds) in
    let e = ap (λ (ys : List DequeNode). total f (map waiting ys)) (stolen-append s.reaches (all_reaches ss)) in
    let g = parted f (stolen s.reaches) (stolen (all_reaches ss)) in
    omega arith

pub given-apart : (ss : List SourceState) → map waiting (accepted (map (λ s. s.deque) ss)) ≡ all_given ss
given-apart [] = refl
given-apart (s ∷ ss) = map-append waiting s.deque.view.accepted (accepted (map (λ s. s.deque) ss)) ∙ ap (λ (ws : List WaitingNode). given_by s ++ ws) (given-apart ss)

pub nodes-apart : (P : Project) (ss : List SourceState) → Each (IsSourceOf P) ss → All (λ x. StandsFor P x.node) (accepted (map (λ s. s.deque) ss))
nodes-apart P [] each = All-nil (λ (x : DequeNode). StandsFor P x.node)
nodes-apart P (s ∷ ss) each = All-append (λ (x : DequeNode). StandsFor P x.node) s.deque.view.accepted (accepted (map (λ s. s.deque) ss)) each.0.given (nodes-apart P ss each.1)

-- All of it.

pub settles : (ss : List SourceState) (apart : Apart) (after : List HandleState) (rest : List WaitingNode) → IsApart ss apart → AreJoined apart.reaches.items (map (λ s. s.deque) ss) after → IsLeftOf after rest → IsSettled ss (record { lists = apart.lists; rest = rest })
settles ss apart after rest parts joined left = record {
  lists = parts.lists;
  once = λ weight.
      let f : WaitingNode → ℕ = λ w. weight (waits_at w) in
      let g : DequeNode → ℕ = λ x. f (waiting x) in
      let ds : List HandleState = map (λ (s : SourceState). s.deque) ss in
      let rs : List Reach = all_reaches ss in
      let a = taken-apart f ss in
      let b = joined.taken g in
      let c = left.once f in
      let d = ap (λ (xs : List DequeNode). total f (map waiting xs)) joined.accepted in
      let e = ap (total f) (given-apart ss) in
      let h = ap (λ (qs : List Reach). total g (stolen qs)) parts.reaches in
      let i = total-map f waiting (popped after) in
      let j = total-map f waiting (popped ds) in
      let k = total-map f waiting (stolen rs) in
      let l = total-map weight waits_at (all_taken ss) in
      let m = total-map weight waits_at rest in
      let n = total-map weight waits_at (all_given ss) in
      omega arith;
  nodes = λ P each. left.nodes P (subst (All (λ x. StandsFor P x.node)) (sym joined.accepted) (nodes-apart P ss each));
}
