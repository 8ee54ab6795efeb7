-- The nodes of all workers.
use Rattle.std.proofs.Common.{◌≡◌, ℕ, suc, ◌+◌, ◌-◌, ◌<◌, ◌≤◌, inl, inr, refl, sym, ap, ◌∙◌, arith, List, [], ◌∷◌, ◌++◌, length, length-append, append_assoc, map}
use Rattle.std.specs.Prelude.{slice_index}
use Rattle.std.proofs.lemmas.Bool.Decides.{nat_tests}
use Rattle.std.proofs.lemmas.List.{get_or_append_left, get_or-append_right, map-append}
use Rattle.rcpsp_model.specs.Project.{Project}
use Rattle.rcpsp_model.proofs.Lists.{In, In-append}
use Rattle.search_log.specs.Weights.{total, Each}
use Rattle.search_log.specs.Stands.{TreeNode, no_node, node_at, place_front, Waiting, IsAtPlace}
use Rattle.search_log.proofs.Sums.{total-append, Each-In, Each-from_In}
use Rattle.search_rounds.specs.declared.round.WaitingNode.{WaitingNode}
use Rattle.search_rounds.specs.Round.{waits_at, waiting_of}
use Rattle.round_shares.specs.Part.{Beginning}
use Rattle.round_shares.specs.Share.{room, first_place, visited, born}
use Rattle.round_shares.specs.Crew.{Worked, HaveShares, starts_from, real_place, all_left, all_got, all_given, IsHandedOn}
use Rattle.round_shares.proofs.SameItems.{same-items}
use Rattle.round_shares.proofs.RealPlaces.{real-stays, real-own}
use Rattle.round_shares.proofs.BornNodes.{born-is}
use Rattle.round_shares.proofs.PlacedShares.{all_more, all_visited, all_born, Whole, IsFound, IsPlaced, ArePlaced, named_from}
use Rattle.round_shares.proofs.ShareRows.{more-size, found-born}
use Rattle.round_shares.proofs.ShareVisits.{node-inside}

-- Each share has its place.

named-own : (worker start : ℕ) (w : Worked) (ws : List Worked) (i : ℕ) → i < length w.part.grown → named_from worker start (w ∷ ws) (start + i) ≡ first_place worker + i
named-own worker start w ws i l =
    let e : start + i - start ≡ i = omega arith in
    let test : named_from worker start (w ∷ ws) (start + i) ≡ first_place worker + (start + i - start) = grind (arith, nat_tests) in
    omega arith

named-later : (worker start : ℕ) (w : Worked) (ws : List Worked) (q : ℕ) → start + length w.part.grown ≤ q → named_from worker start (w ∷ ws) q ≡ named_from (worker + 1) (start + length w.part.grown) ws q
named-later worker start w ws q l = grind (arith, nat_tests)

-- from worker k + 1 on, whose first new row has the place `start`
pub record BeginsAt (P : Project) (b : Beginning) (t : Whole) (k start : ℕ) (before : List TreeNode) (ws : List Worked) (s : HaveShares P b (k + 1) ws) : Type 0 where
  pub from : b.first_worker ≤ k + 1
  pub to : k + length ws ≤ b.last_worker
  pub starts : (j : ℕ) → slice_index t.starts (k + j) ≡ slice_index (starts_from start ws) j
  pub names : (q : ℕ) → start ≤ q → t.names q ≡ named_from (k + 1) start ws q
  pub size : length before ≡ start
  pub nodes : t.nodes ≡ before ++ all_more P b (k + 1) ws s

placed-first : (P : Project) (b : Beginning) (t : Whole) (k start : ℕ) (before : List TreeNode) (w : Worked) (ws : List Worked) (s : HaveShares P b (k + 1) (w ∷ ws)) → BeginsAt P b t k start before (w ∷ ws) s →
    t.best ≤ w.at.pass.least_seen → IsPlaced P b t (k + 1) start w s.0
placed-first P b t k start before w ws s at falls =
    let more : List TreeNode = s.0.share.more in
    let rest : List TreeNode = all_more P b (k + 1 + 1) ws s.1 in
    let from = at.from in
    let to = at.to in
    let size = at.size in
    let a = length-append before (more ++ rest) in
    let c = length-append more rest in
    let d : length t.nodes ≡ length (before ++ (more ++ rest)) = ap length at.nodes in
    let same : k + 0 ≡ k = omega arith in
    record {
      from = from;
      to = omega arith;
      falls = falls;
      moves = λ i l. real-own t.starts k i start l (ap (slice_index t.starts) (sym same) ∙ at.starts 0);
      named = λ i l. at.names (start + i) (omega arith) ∙ named-own (k + 1) start w ws i l;
      nodes = λ i l.
          let e : start + i - start ≡ i = omega arith in
          ap (λ (ns : List TreeNode). node_at ns (start + i)) at.nodes ∙
          (get_or-append_right before (more ++ rest) start (start + i) no_node size (omega arith) ∙ (ap (node_at (more ++ rest)) e ∙ get_or_append_left more rest no_node i l));
      within = omega arith;
    }

begins-next : (P : Project) (b : Beginning) (t : Whole) (k start : ℕ) (before : List TreeNode) (w : Worked) (ws : List Worked) (s : HaveShares P b (k + 1) (w ∷ ws)) → BeginsAt P b t k start before (w ∷ ws) s →
    IsPlaced P b t (k + 1) start w s.0 → BeginsAt P b t (k + 1) (start + length w.part.grown) (before ++ s.0.share.more) ws s.1
begins-next P b t k start before w ws s at first =
    let more : List TreeNode = s.0.share.more in
    let rest : List TreeNode = all_more P b (k + 1 + 1) ws s.1 in
    let from = at.from in
    let to = at.to in
    let size = at.size in
    let a = length-append before more in
    let c = more-size P b t (k + 1) start w s.0 first in
    record {
      from = omega arith;
      to = omega arith;
      starts = λ j. let e : k + 1 + j ≡ k + suc j = omega arith in ap (slice_index t.starts) e ∙ at.starts (suc j);
      names = λ q l. at.names q (omega arith) ∙ named-later (k + 1) start w ws q l;
      size = omega arith;
      nodes = at.nodes ∙ sym (append_assoc before more rest);
    }

pub placed-all : (P : Project) (b : Beginning) (t : Whole) (k start : ℕ) (before : List TreeNode) (ws : List Worked) (s : HaveShares P b (k + 1) ws) → BeginsAt P b t k start before ws s →
    Each (λ w. t.best ≤ w.at.pass.least_seen) ws → ArePlaced P b t (k + 1) start ws s
placed-all P b t k start before [] s at falls = tt
placed-all P b t k start before (w ∷ ws) s at falls =
    let first = placed-first P b t k start before w ws s at falls.0 in
    (first, placed-all P b t (k + 1) (start + length w.part.grown) (before ++ s.0.share.more) ws s.1 (begins-next P b t k start before w ws s at first) falls.1)

-- What waits stands in the table.

pub found-dealt : (t : Whole) (ns more : List TreeNode) (x : Waiting) → t.nodes ≡ ns ++ more → length ns ≤ room → ((q : ℕ) → q < length ns → t.names q ≡ q) → IsAtPlace ns x → IsFound t x
found-dealt t ns more x nodes fits names at =
    let l = node-inside ns x.place x.front at in
    let place : real_place t.starts x.place ≡ x.place = real-stays t.starts x.place (omega arith) in
    let node : place_front t.nodes x.place ≡ place_front ns x.place =
    ap (λ (ms : List TreeNode). place_front ms x.place) nodes ∙ ap (λ (n : TreeNode). n.front) (get_or_append_left ns more no_node x.place l) in
    record { at = ap (place_front t.nodes) place ∙ (node ∙ at); named = ap t.names place ∙ names x.place l }

found-all_born : (P : Project) (b : Beginning) (t : Whole) (worker start : ℕ) (ws : List Worked) (s : HaveShares P b worker ws) → ArePlaced P b t worker start ws s → (x : Waiting) → In (all_born P b worker ws s) x → IsFound t x
found-all_born P b t worker start [] s placed x i = absurd i
found-all_born P b t worker start (w ∷ ws) s placed x i =
    elim (In-append (born (first_place worker) s.0.share.more) (all_born P b (worker + 1) ws s.1) x i) [
      | inl own ↦ found-born P b t worker start w s.0 placed.0 x (born-is (first_place worker) s.0.share.more x own)
      | inr later ↦ found-all_born P b t (worker + 1) (start + length w.part.grown) ws s.1 placed.1 x later
    ]

-- Nothing is lost, and nothing comes twice.

pub waiting-append : (xs ys : List WaitingNode) → waiting_of (xs ++ ys) ≡ waiting_of xs ++ waiting_of ys
waiting-append xs ys = map-append waits_at xs ys

once-all : (P : Project) (b : Beginning) (worker : ℕ) (ws : List Worked) (s : HaveShares P b worker ws) (weight : Waiting → ℕ) →
    total weight (all_visited P b worker ws s) + total weight (waiting_of (all_left ws)) + total weight (all_given ws) ≡ total weight (all_got ws) + total weight (all_born P b worker ws s)
once-all P b worker [] s weight = refl
once-all P b worker (w ∷ ws) s weight =
    let own = s.0.share.once weight in
    let ih = once-all P b (worker + 1) ws s.1 weight in
    let visits = total-append weight (map visited s.0.share.events) (all_visited P b (worker + 1) ws s.1) in
    let lists : total weight (waiting_of (w.part.left ++ all_left ws)) ≡ total weight (waiting_of w.part.left ++ waiting_of (all_left ws)) = ap (total weight) (waiting-append w.part.left (all_left ws)) in
    let left = total-append weight (waiting_of w.part.left) (waiting_of (all_left ws)) in
    let given = total-append weight w.handled.given (all_given ws) in
    let got = total-append weight w.handled.got (all_got ws) in
    let children = total-append weight (born (first_place worker) s.0.share.more) (all_born P b (worker + 1) ws s.1) in
    omega arith

pub waits-all : (P : Project) (b : Beginning) (worker : ℕ) (ws : List Worked) (s : HaveShares P b worker ws) (dealt rest : List WaitingNode) → IsHandedOn dealt ws rest → (weight : Waiting → ℕ) →
    total weight (all_visited P b worker ws s ++ waiting_of (all_left ws ++ rest)) ≡ total weight (waiting_of dealt ++ all_born P b worker ws s)
waits-all P b worker ws s dealt rest handed weight =
    let once = once-all P b worker ws s weight in
    let on = handed weight in
    let a = total-append weight (all_visited P b worker ws s) (waiting_of (all_left ws ++ rest)) in
    let lists : total weight (waiting_of (all_left ws ++ rest)) ≡ total weight (waiting_of (all_left ws) ++ waiting_of rest) = ap (total weight) (waiting-append (all_left ws) rest) in
    let c = total-append weight (waiting_of (all_left ws)) (waiting_of rest) in
    let d = total-append weight (waiting_of dealt) (all_born P b worker ws s) in
    omega arith

-- what was dealt or born stands in the table, and so all that was visited or is left
pub found-all : (P : Project) (b : Beginning) (t : Whole) (worker start : ℕ) (ws : List Worked) (s : HaveShares P b worker ws) (dealt rest : List WaitingNode) → ArePlaced P b t worker start ws s → IsHandedOn dealt ws rest →
    Each (IsFound t) (waiting_of dealt) → Each (IsFound t) (all_visited P b worker ws s ++ waiting_of (all_left ws ++ rest))
found-all P b t worker start ws s dealt rest placed handed found =
    Each-from_In (IsFound t) (all_visited P b worker ws s ++ waiting_of (all_left ws ++ rest))
    (λ x i.
    elim (In-append (waiting_of dealt) (all_born P b worker ws s) x
    (same-items (all_visited P b worker ws s ++ waiting_of (all_left ws ++ rest)) (waiting_of dealt ++ all_born P b worker ws s) (waits-all P b worker ws s dealt rest handed) x i)) [
      | inl d ↦ Each-In (IsFound t) (waiting_of dealt) x found d
      | inr c ↦ found-all_born P b t worker start ws s placed x c
    ])
