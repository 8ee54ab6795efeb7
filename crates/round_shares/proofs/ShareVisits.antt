-- What a worker visited, in the table.
use Rattle.std.proofs.Common.{◌≡◌, ℕ, ◌+◌, ◌-◌, ◌<◌, ◌≤◌, inl, inr, sym, ap, subst, ◌∙◌, arith, List, length, map, Option, Some, None}
use Rattle.std.specs.Prelude.{IfSome}
use Rattle.std.proofs.lemmas.Bool.{cases_lt}
use Rattle.std.proofs.lemmas.List.{get_or_past}
use Rattle.rcpsp_model.specs.declared.parts.Entry.{Entry}
use Rattle.rcpsp_model.specs.declared.parts.Verdict.{Verdict}
use Rattle.rcpsp_model.specs.Project.{Project}
use Rattle.rcpsp_model.proofs.Lists.{In-from_Contains}
use Rattle.rcpsp_model.proofs.Choices.{In-map}
use Rattle.search_log.specs.declared.row.RowFate.{RowFate}
use Rattle.search_log.specs.declared.row.RowFate.TheVariants.{Open, Expanded, Leaf, TailBound, WorkBound, Cited, Left, Shut}
use Rattle.search_log.specs.declared.row.Fill.{Fill}
use Rattle.search_log.specs.Weights.{Each}
use Rattle.search_log.specs.Fates.{RowSaying, row_open, row_expanded, row_late, row_cites, row_shut, row_saying}
use Rattle.search_log.specs.Stands.{TreeNode, no_node, place_front, searching, IsNoLater, Suits, IsClosed, FillSuits}
use Rattle.search_log.proofs.Sums.{Each-In, Each-weaker}
use Rattle.search_log.proofs.VerdictChanges.{searching-suits}
use Rattle.search_rounds.specs.declared.round.NewRow.{NewRow}
use Rattle.round_shares.specs.Ends.{end_in}
use Rattle.round_shares.specs.Part.{Beginning, Event, says_event, IsExpansion, IsAtNode, IsEventOf, IsNewRow}
use Rattle.round_shares.specs.Share.{first_place, visited, SuitsFront}
use Rattle.round_shares.specs.Crew.{Worked, of_worker, HasShare, real_place, real_fate, real_fill}
use Rattle.round_shares.proofs.ListPlaces.{Each-map, Each-unmap, Each-both}
use Rattle.round_shares.proofs.EndNumbers.{end-small, later-end}
use Rattle.round_shares.proofs.RealFates.{closed-real}
use Rattle.round_shares.proofs.RealEvents.{real_event, unreal, event-real, StaysNoChild}
use Rattle.round_shares.proofs.PlacedShares.{Whole, IsFound, IsPlaced}
use Rattle.round_shares.proofs.ShareRows.{more-size, brood, brood-first, brood-real}

-- a place that has a front is one of the nodes
pub node-inside : (ns : List TreeNode) (p : ℕ) (F : List Entry) → place_front ns p ≡ Some F → p < length ns
node-inside ns p F e = elim (cases_lt p (length ns)) [
  | inl l ↦ l
  | inr past ↦ (let none : place_front ns p ≡ None = ap (λ (n : TreeNode). n.front) (get_or_past ns p no_node past) in absurd cc)
]

suits-closed : (P : Project) (v : Verdict) (start : ℕ) (more : List TreeNode) (F : List Entry) (s : RowSaying) → SuitsFront P v start more F s → IsClosed s
suits-closed P v start more F row_open is = absurd is
suits-closed P v start more F (row_expanded first count) is = tt
suits-closed P v start more F (row_late reason) is = tt
suits-closed P v start more F (row_cites q) is = tt
suits-closed P v start more F (row_shut why) is = absurd is

-- One worker as one of all.

pub new-row_of : (b : Beginning) (worker : ℕ) → b.first_worker ≤ worker → worker ≤ b.last_worker → (n : NewRow) → IsNewRow (of_worker worker b) n → IsNewRow b n
new-row_of b worker from to n is =
    let low = is.worker.from in
    let high = is.worker.to in
    record { says = is.says; round = is.round; worker = record { from = omega arith; to = omega arith } }

event-of : (P : Project) (b : Beginning) (worker best less : ℕ) → b.first_worker ≤ worker → worker ≤ b.last_worker → less ≤ best → (e : Event) → IsEventOf P (of_worker worker b) best e → IsEventOf P b less e
event-of P b worker best less from to falls e is =
    let low = is.worker.from in
    let high = is.worker.to in
    record {
      round = is.round;
      worker = record { from = omega arith; to = omega arith };
      leaf = λ s. let end = is.leaf s in omega arith;
      early = is.early;
      new = is.new;
    }

module _ (P : Project) (b : Beginning) (t : Whole) (worker start : ℕ) (w : Worked) (has : HasShare P b worker w) (placed : IsPlaced P b t worker start w has) where
  pub events-real : Each (IsEventOf P b t.best) (map (real_event t.starts) has.share.events)
  events-real =
      Each-map (IsEventOf P b t.best) (real_event t.starts) has.share.events
      (Each-weaker (IsEventOf P (of_worker worker b) w.at.pass.least_seen) (λ e. IsEventOf P b t.best (real_event t.starts e)) has.share.events
      (λ e is. event-real P b t.best t.starts e (event-of P b worker w.at.pass.least_seen t.best placed.from placed.to placed.falls e is)) has.share.each)

  pub events-own : Each (λ e. e.fill.origin.worker ≡ worker) (map (real_event t.starts) has.share.events)
  events-own =
      Each-map (λ (e : Event). e.fill.origin.worker ≡ worker) (real_event t.starts) has.share.events
      (Each-weaker (IsEventOf P (of_worker worker b) w.at.pass.least_seen) (λ e. e.fill.origin.worker ≡ worker) has.share.events
      (λ e is. let low = is.worker.from in let high = is.worker.to in omega arith) has.share.each)

  pub nodes-real : Each (IsFound t) (map visited has.share.events) → Each (IsAtNode t.nodes) (map (real_event t.starts) has.share.events)
  nodes-real found =
      Each-map (IsAtNode t.nodes) (real_event t.starts) has.share.events
      (Each-weaker (λ e. IsFound t (visited e)) (λ e. IsAtNode t.nodes (real_event t.starts e)) has.share.events (λ e is. is.at) (Each-unmap (IsFound t) visited has.share.events found))

  -- Fills.

  says-real : (v : Verdict) (F : List Entry) (fate : RowFate) → SuitsFront P v (first_place worker) has.share.more F (row_saying fate) → Suits P v t.nodes (Some F) (row_saying (real_fate t.starts fate))
  says-real v F Open s = absurd s
  says-real v F (Expanded count first) s = brood-real P b t worker start w has placed F first count (brood P b t worker start w has placed v F first count s)
  says-real v F Leaf s = s
  says-real v F TailBound s = s
  says-real v F (WorkBound k) s = s
  says-real v F (Cited q) s = tt
  says-real v F (Left k) s = s
  says-real v F (Shut why) s = absurd s

  fill-real : IfSome b.terms.best (λ end. end ≤ 1290000) → (e : Event) → SuitsFront P (searching (end_in w.at.pass.least_seen)) (first_place worker) has.share.more e.front (says_event e) → IsFound t (visited e) →
      FillSuits P (searching (end_in t.best)) t.nodes (real_fill t.starts e.fill)
  fill-real soon e s found =
      let v : Verdict = searching (end_in w.at.pass.least_seen) in
      let falls = has.share.falls in
      let small = end-small b.terms.best soon in
      let later : IsNoLater (end_in w.at.pass.least_seen) (end_in t.best) = later-end w.at.pass.least_seen t.best (omega arith) placed.falls in
      let says = searching-suits P (end_in w.at.pass.least_seen) (end_in t.best) t.nodes (Some e.front) (row_saying (real_fate t.starts e.fill.fate)) later (says-real v e.front e.fill.fate s) in
      record {
        within = node-inside t.nodes (real_place t.starts e.fill.place) e.front found.at;
        closed = closed-real t.starts e.fill.fate (suits-closed P v (first_place worker) has.share.more e.front (says_event e) s);
        says = subst (λ (o : Option (List Entry)). Suits P (searching (end_in t.best)) t.nodes o (row_saying (real_fate t.starts e.fill.fate))) (sym found.at) says;
      }

  pub fills-suit : IfSome b.terms.best (λ end. end ≤ 1290000) → Each (IsFound t) (map visited has.share.events) → Each (λ f. FillSuits P (searching (end_in t.best)) t.nodes (real_fill t.starts f)) w.part.fills
  fills-suit soon found =
      let v : Verdict = searching (end_in w.at.pass.least_seen) in
      let Q : Fill → Type 0 = λ f. FillSuits P (searching (end_in t.best)) t.nodes (real_fill t.starts f) in
      subst (Each Q) (sym has.share.fills)
      (Each-map Q (λ (e : Event). e.fill) has.share.events
      (Each-both (λ e. SuitsFront P v (first_place worker) has.share.more e.front (says_event e)) (λ e. IsFound t (visited e)) (λ e. Q e.fill) has.share.events (fill-real soon) has.share.suits
      (Each-unmap (IsFound t) visited has.share.events found)))

  -- Children.

  -- where a place of the table lies among the children of a share, so does its name
  pub stays-no_child : Each (IsFound t) (map visited has.share.events) → StaysNoChild t.starts has.share.events
  stays-no_child found e f x c d none low high =
      let v : Verdict = searching (end_in w.at.pass.least_seen) in
      let u = unreal t.starts f x in
      let y : IsExpansion f = u.expansion in
      let all = Each-In (λ e. SuitsFront P v (first_place worker) has.share.more e.front (says_event e)) has.share.events f has.share.suits (In-from_Contains has.share.events f d) in
      let is = brood P b t worker start w has placed v f.front y.first y.count (subst (SuitsFront P v (first_place worker) has.share.more f.front) y.is all) in
      let first = brood-first P b t worker start w has placed f.front y.first y.count is in
      let size = more-size P b t worker start w has placed in
      let within = is.children.within in
      let first_is = is.first_is in
      let same = u.first in
      let many = u.count in
      let q = real_place t.starts e.fill.place in
      let i = q - start in
      let place : start + i ≡ q = omega arith in
      let at : IsFound t (visited e) = Each-In (IsFound t) (map visited has.share.events) (visited e) found (In-map visited has.share.events e (In-from_Contains has.share.events e c)) in
      let named : t.names (start + i) ≡ first_place worker + i = placed.named i (omega arith) in
      let own : e.fill.place ≡ first_place worker + i = sym at.named ∙ (ap t.names (sym place) ∙ named) in
      none (omega arith) (omega arith)
