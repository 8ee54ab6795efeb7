-- What a visit tells, by its answer.
use Rattle.std.proofs.Common.{◌≡◌, ℕ, ◌+◌, ◌<◌, ◌≤◌, ◌⊎◌, inl, inr, sym, ap, subst, ◌∙◌, arith, List, [], ◌∷◌, ◌++◌, length, length-append, map, All}
use Rattle.std.proofs.lemmas.List.{length-map, map-append}
use Rattle.std.proofs.lemmas.List.Elements.{All-nil, All-cons, All-append, All-weaker}
use Rattle.rcpsp_model.specs.declared.parts.Entry.{Entry}
use Rattle.rcpsp_model.specs.Schedule.{end_of}
use Rattle.rcpsp_model.proofs.Fronts.{front-end}
use Rattle.rcpsp_model.specs.declared.parts.Child.{Child}
use Rattle.rcpsp_model.specs.Project.{Project, IsWithinLimits}
use Rattle.rcpsp_model.specs.Tree.{AreChildren, choices}
use Rattle.log_truth.proofs.FewLines.{few_choices}
use Rattle.precedence_tree.specs.declared.base.Base.{Base}
use Rattle.precedence_tree.specs.Node.{NodeState, StandsFor}
use Rattle.precedence_tree.specs.Children.{child_fronts, StandsWherePlaced}
use Rattle.cutset_store.specs.Index.{fronts_of}
use Rattle.search_log.specs.declared.row.RowFate.{RowFate}
use Rattle.search_log.specs.declared.row.Origin.{Origin}
use Rattle.search_rounds.specs.declared.round.PlacedRecord.{PlacedRecord}
use Rattle.search_rounds.specs.declared.round.Records.{Records}
use Rattle.shared_rows.specs.Rows.{RowsState}
use Rattle.tree_worker.specs.declared.answer.Cite.TheVariants.{Earlier, Own, Live}
use Rattle.tree_worker.specs.declared.answer.Close.{Close}
use Rattle.tree_worker.specs.declared.answer.Close.TheVariants.{Leaf, TailBound, WorkBound, Cutset}
use Rattle.tree_worker.specs.declared.answer.Visited.{Visited}
use Rattle.tree_worker.specs.declared.answer.Visited.TheVariants.{Closed, Expanded, Back}
use Rattle.tree_worker.specs.Worker.{Progress}
use Rattle.node_sources.specs.Source.{SourceState}
use Rattle.tree_worker.specs.Visits.{Closes, Did, Visits}
use Rattle.steal_rounds.specs.Children.{new_row}
use Rattle.round_shares.specs.Part.{PartState}
use Rattle.steal_rounds.specs.Fates.{live_numbers, fate_in, places_of}
use Rattle.steal_rounds.specs.Turns.{ExpandsAs, ClosesAs, Counts}
use Rattle.steal_rounds.proofs.ChildRows.{AreKids-from, choice-length}
use Rattle.steal_rounds.proofs.ClosedNodes.{OffersIts, closed-offers}
use Rattle.steal_rounds.proofs.TurnSteps.{Expanding}

pub record ClosedVisit (P : Project) (earlier : List Base) (rows : RowsState) (node : NodeState) (at now : Progress) (close : Close) : Type 0 where
  pub best : ℕ
  pub low : best ≤ at.pass.least_seen
  pub falls : now.pass.least_seen ≤ best
  pub closes : Closes P (fronts_of earlier) rows best node.front at now close
  pub expanded : now.worker.expanded ≡ at.worker.expanded
  pub won : now.pass.won ≡ at.pass.won

pub closed-visit : (P : Project) (earlier : List Base) (rows : RowsState) (r q : ℕ) (node back : NodeState) (at now : Progress) (answer : Visited) (close : Close) → Visits P (fronts_of earlier) rows r q node at now answer → answer ≡ Closed back close →
    ClosedVisit P earlier rows node at now close
closed-visit P earlier rows r q node back at now answer close v e =
    let d = subst (Did P (fronts_of earlier) rows v.best r q node at now) e v.did in
    record { best = v.best; low = v.seen; falls = v.least_seen; closes = d.reason; expanded = d.nothing.expanded; won = d.nothing.won }

pub record ExpandedVisit (P : Project) (earlier : List Base) (node : NodeState) (at now : Progress) (back : NodeState) (kids : List (Child NodeState)) (base : Base) : Type 0 where
  pub best : ℕ
  pub low : best ≤ at.pass.least_seen
  pub falls : now.pass.least_seen ≤ best
  pub expanding : Expanding P earlier best node at now kids base
  pub same : back ≡ node
  pub stand : All (StandsWherePlaced P) kids
  pub won : now.pass.won ≡ at.pass.won + 1

pub expanded-visit : (P : Project) (earlier : List Base) (rows : RowsState) (r q : ℕ) (node back : NodeState) (at now : Progress) (answer : Visited) (kids : List (Child NodeState)) (base : Base) → Visits P (fronts_of earlier) rows r q node at now answer →
    answer ≡ Expanded back kids base → ExpandedVisit P earlier node at now back kids base
expanded-visit P earlier rows r q node back at now answer kids base v e =
    let d = subst (Did P (fronts_of earlier) rows v.best r q node at now) e v.did in
    record {
      best = v.best;
      low = v.seen;
      falls = v.least_seen;
      expanding = record { inner = d.inner; is_open = d.unclosed; are = d.are_children; front = d.front; known = d.known; kept = d.kept; offers = d.offers.offers; live = d.live };
      same = d.same;
      stand = d.stand;
      won = d.won;
    }

pub record BackVisit (node : NodeState) (at now : Progress) (back : NodeState) : Type 0 where
  pub falls : now.pass.least_seen ≤ at.pass.least_seen
  pub offers : now.pass.offers ≡ at.pass.offers
  pub expanded : now.worker.expanded ≡ at.worker.expanded
  pub live : now.worker.live ≡ at.worker.live
  pub won : now.pass.won ≡ at.pass.won
  pub same : back ≡ node

pub back-visit : (P : Project) (earlier : List Base) (rows : RowsState) (r q : ℕ) (node back : NodeState) (at now : Progress) (answer : Visited) → Visits P (fronts_of earlier) rows r q node at now answer → answer ≡ Back back → BackVisit node at now back
back-visit P earlier rows r q node back at now answer v e =
    let d = subst (Did P (fronts_of earlier) rows v.best r q node at now) e v.did in
    let low = v.seen in
    let falls = v.least_seen in
    record { falls = omega arith; offers = d.offers.offers; expanded = d.nothing.expanded; live = d.live; won = d.nothing.won; same = d.same }

pub few-kids : (P : Project) (node : NodeState) (kids : List (Child NodeState)) → IsWithinLimits P → AreChildren P node.front (child_fronts kids) → length kids ≤ 512
few-kids P node kids limits are =
    let z = choice-length P node.front (choices P node.front) kids (AreKids-from P node.front (choices P node.front) kids are) in
    let few = few_choices P node.front limits in
    omega arith

one-more : {X : Type 0} (xs ys : List X) (y : X) → ys ≡ xs ++ y ∷ [] → length ys ≡ length xs + 1
one-more xs ys y e = let a = length-append xs (y ∷ []) in let b : length ys ≡ length (xs ++ y ∷ []) = ap length e in omega arith

pub expanded-counts : (P : Project) (earlier : List Base) (place : ℕ) (node back : NodeState) (at now : Progress) (before after : SourceState) (s t : PartState) (kids : List (Child NodeState)) (base : Base) (first : ℕ) (origin : Origin) → IsWithinLimits P →
    ExpandedVisit P earlier node at now back kids base → ExpandsAs place base kids first origin s t → Counts (record { at = at; part = s; source = before }) → Counts (record { at = now; part = t; source = after })
expanded-counts P earlier place node back at now before after s t kids base first origin limits v x c =
    let few = few-kids P node kids limits v.expanding.are in
    let g : length t.grown ≡ length (s.grown ++ map (new_row origin) kids) = ap length x.grown in
    let ga = length-append s.grown (map (new_row origin) kids) in
    let gm = length-map kids (new_row origin) in
    let f = one-more s.fills t.fills _ x.fills in
    let m = one-more s.made t.made _ x.made in
    let e = one-more at.worker.expanded now.worker.expanded base v.expanding.kept in
    let cg = c.grown in
    let cm = c.made in
    let cw = c.won in
    let w = v.won in
    let l = ap length x.live in
    let k = ap length v.expanding.live in
    let o = c.live in
    let r : PlacedRecord = record { place = place; known = base } in
    record {
      grown = omega arith;
      fronts = ap (map (λ (m : PlacedRecord). m.known.front)) x.made ∙ (map-append (λ (m : PlacedRecord). m.known.front) s.made (r ∷ [])
          ∙ (ap (λ (fs : List (List Entry)). fs ++ base.front ∷ []) c.fronts ∙ (sym (map-append (λ (b : Base). b.front) at.worker.expanded (base ∷ [])) ∙ sym (ap fronts_of v.expanding.kept))));
      made = omega arith;
      won = omega arith;
      live = omega arith;
      numbers = subst (All (λ (i : ℕ). i < length t.fills)) (sym x.live) (All-weaker (λ (i : ℕ). i < length s.fills) (λ (i : ℕ). i < length t.fills) (λ i l. omega arith) s.live c.numbers);
      soon = subst (All (λ (e : ℕ). e ≤ 1290000)) (sym v.expanding.offers) c.soon;
    }

same-count : (at now : Progress) → now.worker.live ≡ at.worker.live → length now.worker.live ≡ length at.worker.live + 0
same-count at now e = let a = ap length e in omega arith

-- A node is closed.

live-count : (P : Project) (earlier : List (List Entry)) (rows : RowsState) (best : ℕ) (F : List Entry) (at now : Progress) (close : Close) (n : ℕ) → Closes P earlier rows best F at now close →
    length now.worker.live ≡ length at.worker.live + length (live_numbers n close)
live-count P earlier rows best F at now Leaf n c = same-count at now c.live
live-count P earlier rows best F at now TailBound n c = same-count at now c.1
live-count P earlier rows best F at now (WorkBound k) n c = same-count at now c.1
live-count P earlier rows best F at now (Cutset (Earlier i)) n c = same-count at now c.1
live-count P earlier rows best F at now (Cutset (Own i)) n c = same-count at now c.1
live-count P earlier rows best F at now (Cutset (Live worker place)) n c =
    let l = c.reason.1 in
    let a = ap length l.kept in
    let b = length-append at.worker.live (l.cited ∷ []) in
    omega arith

live-numbers : (close : Close) (n : ℕ) → All (λ i. i < n + 1) (live_numbers n close)
live-numbers Leaf n = All-nil (λ (i : ℕ). i < n + 1)
live-numbers TailBound n = All-nil (λ (i : ℕ). i < n + 1)
live-numbers (WorkBound k) n = All-nil (λ (i : ℕ). i < n + 1)
live-numbers (Cutset (Earlier i)) n = All-nil (λ (i : ℕ). i < n + 1)
live-numbers (Cutset (Own i)) n = All-nil (λ (i : ℕ). i < n + 1)
live-numbers (Cutset (Live worker place)) n = All-cons (λ (i : ℕ). i < n + 1) n [] (omega arith) (All-nil (λ (i : ℕ). i < n + 1))

soon-now : (P : Project) (start : ℕ) (F : List Entry) (fate : RowFate) (before after : List ℕ) → (after ≡ before) ⊎ OffersIts P start F fate before after → All (λ end. end ≤ 1290000) before → All (λ end. end ≤ 1290000) after
soon-now P start F fate before after (inl same) a = subst (All (λ (e : ℕ). e ≤ 1290000)) (sym same) a
soon-now P start F fate before after (inr its) a = subst (All (λ (e : ℕ). e ≤ 1290000)) (sym its.offers) (All-cons (λ (e : ℕ). e ≤ 1290000) (end_of P F) before its.soon a)

pub closed-counts : (P : Project) (records : Records) (rows : RowsState) (place : ℕ) (node : NodeState) (at now : Progress) (before after : SourceState) (s t : PartState) (close : Close) (origin : Origin) → IsWithinLimits P → StandsFor P node →
    ClosedVisit P records.index rows node at now close → ClosesAs records place close origin s t → Counts (record { at = at; part = s; source = before }) → Counts (record { at = now; part = t; source = after })
closed-counts P records rows place node at now before after s t close origin limits stands v x c =
    let f = one-more s.fills t.fills _ x.fills in
    let g = ap length x.grown in
    let m = ap length x.made in
    let e = ap length v.expanded in
    let w = v.won in
    let n = live-count P (fronts_of records.index) rows v.best node.front at now close (length s.fills) v.closes in
    let a = ap length x.live in
    let b = length-append s.live (live_numbers (length s.fills) close) in
    let cg = c.grown in
    let cm = c.made in
    let cw = c.won in
    let cl = c.live in
    record {
      grown = omega arith;
      fronts = ap (map (λ (m : PlacedRecord). m.known.front)) x.made ∙ (c.fronts ∙ sym (ap fronts_of v.expanded));
      made = omega arith;
      won = omega arith;
      live = omega arith;
      numbers = subst (All (λ (i : ℕ). i < length t.fills)) (sym x.live) (All-append (λ (i : ℕ). i < length t.fills) s.live (live_numbers (length s.fills) close)
          (All-weaker (λ (i : ℕ). i < length s.fills) (λ (i : ℕ). i < length t.fills) (λ i l. omega arith) s.live c.numbers)
          (All-weaker (λ (i : ℕ). i < length s.fills + 1) (λ (i : ℕ). i < length t.fills) (λ i l. omega arith) (live_numbers (length s.fills) close) (live-numbers close (length s.fills))));
      soon = soon-now P v.best node.front (fate_in records.places (places_of s.made) close) at.pass.offers now.pass.offers
          (closed-offers P (fronts_of records.index) records.places (places_of s.made) rows v.best v.best node.front at now close (omega arith) (front-end P node.front limits stands.front) v.closes) c.soon;
    }

-- A node comes back.

pub back-counts : (node back : NodeState) (at now : Progress) (before after : SourceState) (s t : PartState) → BackVisit node at now back → t.grown ≡ s.grown → t.fills ≡ s.fills → t.live ≡ s.live → t.made ≡ s.made → Counts (record { at = at; part = s; source = before }) → Counts (record { at = now; part = t; source = after })
back-counts node back at now before after s t v grown fills live made c =
    let g = ap length grown in
    let f = ap length fills in
    let m = ap length made in
    let l = ap length live in
    let e = ap length v.expanded in
    let k = ap length v.live in
    let w = v.won in
    let cg = c.grown in
    let cm = c.made in
    let cw = c.won in
    let cl = c.live in
    record {
      grown = omega arith;
      fronts = ap (map (λ (m : PlacedRecord). m.known.front)) made ∙ (c.fronts ∙ sym (ap fronts_of v.expanded));
      made = omega arith;
      won = omega arith;
      live = omega arith;
      numbers = subst (All (λ (i : ℕ). i < length t.fills)) (sym live) (All-weaker (λ (i : ℕ). i < length s.fills) (λ (i : ℕ). i < length t.fills) (λ i l. omega arith) s.live c.numbers);
      soon = subst (All (λ (e : ℕ). e ≤ 1290000)) (sym v.offers) c.soon;
    }
