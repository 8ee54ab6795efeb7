-- The visits of all workers, with their places in the table.
use Rattle.std.proofs.Common.{◌≡◌, ℕ, ◌+◌, ◌≤◌, refl, sym, ap, ◌∙◌, arith, List, [], ◌∷◌, ◌++◌, length, map}
use Rattle.std.proofs.lemmas.List.{map-append}
use Rattle.rcpsp_model.specs.Project.{Project}
use Rattle.rcpsp_model.proofs.Lists.{In-from_Contains}
use Rattle.search_log.specs.declared.row.Fill.{Fill}
use Rattle.search_log.specs.Weights.{Each}
use Rattle.search_log.proofs.Sums.{Each-In, Each-append, Each-left, Each-right, Each-weaker}
use Rattle.round_shares.specs.Part.{Beginning, Event, fills_of, IsAtNode, IsEventOf, AreInTurns}
use Rattle.round_shares.specs.Share.{visited}
use Rattle.round_shares.specs.Crew.{Worked, HaveShares, real_fill, all_fills}
use Rattle.round_shares.proofs.RealEvents.{real_event, fills-real, turns-real, AreApart, turns-both}
use Rattle.round_shares.proofs.PlacedShares.{all_visited, all_events, Whole, IsFound, ArePlaced}
use Rattle.round_shares.proofs.ShareVisits.{events-real, events-own, nodes-real, stays-no_child}

fills-both : (xs ys : List Event) → fills_of xs ++ fills_of ys ≡ fills_of (xs ++ ys)
fills-both xs ys = sym (map-append (λ (e : Event). e.fill) xs ys)

module _ (P : Project) (b : Beginning) (t : Whole) where
  pub fills_of-all : (worker : ℕ) (ws : List Worked) (s : HaveShares P b worker ws) → map (real_fill t.starts) (all_fills ws) ≡ fills_of (all_events P b t.starts worker ws s)
  fills_of-all worker [] s = refl
  fills_of-all worker (w ∷ ws) s =
      let rest : List Event = all_events P b t.starts (worker + 1) ws s.1 in
      let own : map (real_fill t.starts) w.part.fills ≡ fills_of (map (real_event t.starts) s.0.share.events) = ap (map (real_fill t.starts)) s.0.share.fills ∙ fills-real t.starts s.0.share.events in
      let ih = fills_of-all (worker + 1) ws s.1 in
      map-append (real_fill t.starts) w.part.fills (all_fills ws) ∙
      (ap (λ (fs : List Fill). fs ++ map (real_fill t.starts) (all_fills ws)) own ∙
      (ap (λ (fs : List Fill). fills_of (map (real_event t.starts) s.0.share.events) ++ fs) ih ∙ fills-both (map (real_event t.starts) s.0.share.events) rest))

  pub each-all : (worker start : ℕ) (ws : List Worked) (s : HaveShares P b worker ws) → ArePlaced P b t worker start ws s → Each (IsEventOf P b t.best) (all_events P b t.starts worker ws s)
  each-all worker start [] s placed = tt
  each-all worker start (w ∷ ws) s placed =
      Each-append (IsEventOf P b t.best) (map (real_event t.starts) s.0.share.events) (all_events P b t.starts (worker + 1) ws s.1) (events-real P b t worker start w s.0 placed.0)
      (each-all (worker + 1) (start + length w.part.grown) ws s.1 placed.1)

  pub nodes-all : (worker start : ℕ) (ws : List Worked) (s : HaveShares P b worker ws) → ArePlaced P b t worker start ws s → Each (IsFound t) (all_visited P b worker ws s) → Each (IsAtNode t.nodes) (all_events P b t.starts worker ws s)
  nodes-all worker start [] s placed found = tt
  nodes-all worker start (w ∷ ws) s placed found =
      Each-append (IsAtNode t.nodes) (map (real_event t.starts) s.0.share.events) (all_events P b t.starts (worker + 1) ws s.1)
      (nodes-real P b t worker start w s.0 placed.0 (Each-left (IsFound t) (map visited s.0.share.events) (all_visited P b (worker + 1) ws s.1) found))
      (nodes-all (worker + 1) (start + length w.part.grown) ws s.1 placed.1 (Each-right (IsFound t) (map visited s.0.share.events) (all_visited P b (worker + 1) ws s.1) found))

  -- Turns.

  workers-from : (worker start : ℕ) (ws : List Worked) (s : HaveShares P b worker ws) → ArePlaced P b t worker start ws s → Each (λ e. worker ≤ e.fill.origin.worker) (all_events P b t.starts worker ws s)
  workers-from worker start [] s placed = tt
  workers-from worker start (w ∷ ws) s placed =
      let first : List Event = map (real_event t.starts) s.0.share.events in
      let rest : List Event = all_events P b t.starts (worker + 1) ws s.1 in
      Each-append (λ (e : Event). worker ≤ e.fill.origin.worker) first rest
      (Each-weaker (λ (e : Event). e.fill.origin.worker ≡ worker) (λ e. worker ≤ e.fill.origin.worker) first (λ e is. omega arith) (events-own P b t worker start w s.0 placed.0))
      (Each-weaker (λ (e : Event). worker + 1 ≤ e.fill.origin.worker) (λ e. worker ≤ e.fill.origin.worker) rest (λ e is. omega arith) (workers-from (worker + 1) (start + length w.part.grown) ws s.1 placed.1))

  pub turns-all : (worker start : ℕ) (ws : List Worked) (s : HaveShares P b worker ws) → ArePlaced P b t worker start ws s → Each (IsFound t) (all_visited P b worker ws s) → AreInTurns P (all_events P b t.starts worker ws s)
  turns-all worker start [] s placed found = record {
    few = λ e c. absurd (In-from_Contains [] e c);
    one = λ e f c d. absurd (In-from_Contains [] e c);
    own = λ e f c d. absurd (In-from_Contains [] e c);
    before = λ e f x c d. absurd (In-from_Contains [] e c);
  }
  turns-all worker start (w ∷ ws) s placed found =
      let first : List Event = map (real_event t.starts) s.0.share.events in
      let rest : List Event = all_events P b t.starts (worker + 1) ws s.1 in
      let visits = Each-left (IsFound t) (map visited s.0.share.events) (all_visited P b (worker + 1) ws s.1) found in
      let others = Each-right (IsFound t) (map visited s.0.share.events) (all_visited P b (worker + 1) ws s.1) found in
      let apart : AreApart first rest = λ e f c d same.
      let one = Each-In (λ (e : Event). e.fill.origin.worker ≡ worker) first e (events-own P b t worker start w s.0 placed.0) (In-from_Contains first e c) in
      let two = Each-In (λ (e : Event). worker + 1 ≤ e.fill.origin.worker) rest f (workers-from (worker + 1) (start + length w.part.grown) ws s.1 placed.1) (In-from_Contains rest f d) in
      omega arith in
      turns-both P first rest (turns-real P t.starts s.0.share.events s.0.share.turns (stays-no_child P b t worker start w s.0 placed.0 visits))
      (turns-all (worker + 1) (start + length w.part.grown) ws s.1 placed.1 others) apart
