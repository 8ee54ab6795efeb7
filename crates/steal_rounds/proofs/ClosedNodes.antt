-- What a visit that closes its node gives to a part.
use Rattle.std.proofs.Common.{◌≡◌, ℕ, ◌<◌, ◌≤◌, ◌⊎◌, inl, inr, refl, sym, ap, subst, ◌∙◌, arith, List, [], ◌∷◌, ◌++◌, append-nil, length, map, All, Some}
use Rattle.std.specs.Prelude.{slice_index, slice_index_or}
use Rattle.std.specs.List.{AllZip}
use Rattle.std.proofs.lemmas.List.{length-map}
use Rattle.std.proofs.lemmas.Bool.{cases_lt}
use Rattle.rcpsp_model.specs.declared.parts.Entry.{Entry}
use Rattle.rcpsp_model.specs.Project.{Project, IsProject}
use Rattle.rcpsp_model.specs.Schedule.{end_of}
use Rattle.rcpsp_model.specs.Dominance.{Dominates}
use Rattle.rcpsp_model.proofs.Fronts.{front-end}
use Rattle.rcpsp_model.proofs.Lists.{In-All}
use Rattle.rcpsp_model.proofs.Choices.{zip-append}
use Rattle.log_truth.specs.Fates.{late_leaf}
use Rattle.precedence_tree.specs.declared.base.Base.{Base}
use Rattle.precedence_tree.specs.Node.{NodeState, StandsFor}
use Rattle.cutset_store.specs.Index.{fronts_of, DominatesAt}
use Rattle.search_log.specs.declared.row.RowFate.{RowFate}
use Rattle.search_log.specs.declared.row.RowFate.TheVariants as fate
use Rattle.search_log.specs.Fates.{row_expanded, row_late, row_cites, row_saying}
use Rattle.search_log.specs.Table.{children_of}
use Rattle.search_log.specs.Stands.{TreeNode, searching, Suits, IsClosed, one_expanded}
use Rattle.search_rounds.specs.declared.round.PlacedRecord.{PlacedRecord}
use Rattle.shared_rows.specs.Rows.{RowsState}
use Rattle.tree_worker.specs.declared.answer.Cite.TheVariants.{Earlier, Own, Live}
use Rattle.tree_worker.specs.declared.answer.Close.{Close}
use Rattle.tree_worker.specs.declared.answer.Close.TheVariants.{Leaf, TailBound, WorkBound, Cutset}
use Rattle.tree_worker.specs.Worker.{Progress}
use Rattle.tree_worker.specs.Visits.{Closes}
use Rattle.round_shares.specs.Ends.{end_in}
use Rattle.steal_rounds.specs.Fates.{IsCitedWithin, IsLive, live_numbers, fate_in, places_of}
use Rattle.round_shares.specs.Part.{Beginning, Event, IsCitedIn, by_earlier, by_own, IsCitedLive, IsMadeIn}
use Rattle.round_shares.proofs.EndNumbers.{reaches-end}
use Rattle.steal_rounds.proofs.TailLimits.{tail-limit}
use Rattle.steal_rounds.proofs.EventSteps.{made-at, get-new, live-more}

pub cited-within : (P : Project) (earlier : List Base) (rows : RowsState) (best : ℕ) (F : List Entry) (at now : Progress) (close : Close) (places own : ℕ) → places ≡ length earlier →
    own ≡ length at.worker.expanded → Closes P (fronts_of earlier) rows best F at now close → IsCitedWithin places own close
cited-within P earlier rows best F at now Leaf places own p o c = tt
cited-within P earlier rows best F at now TailBound places own p o c = tt
cited-within P earlier rows best F at now (WorkBound k) places own p o c = tt
cited-within P earlier rows best F at now (Cutset (Earlier i)) places own p o c =
    let l = c.0.reason.first.attained.within in let n = length-map earlier (λ (b : Base). b.front) in omega arith
cited-within P earlier rows best F at now (Cutset (Own i)) places own p o c =
    let l = c.0.reason.1.first.attained.within in let n = length-map at.worker.expanded (λ (b : Base). b.front) in omega arith
cited-within P earlier rows best F at now (Cutset (Live worker place)) places own p o c = tt

-- what is said of a closed node is right; if it cites a row, that is the right one, or it was closed by a live record
pub record IsClosedAs (P : Project) (b : Beginning) (events : List Event) (least : ℕ) (F : List Entry) (live : Type 0) (fate : RowFate) : Type 0 where
  pub suits : (ns : List TreeNode) → Suits P (searching (end_in least)) ns (Some F) (row_saying fate)
  pub closed : IsClosed (row_saying fate)
  pub childless : children_of (row_saying fate) ≡ []
  pub unexpanded : one_expanded (row_saying fate) ≡ 0
  pub plain : (first count : ℕ) → row_saying fate ≡ row_expanded first count → ⊥
  pub leaf : row_saying fate ≡ row_late late_leaf → least ≤ end_of P F
  pub cites : (q : ℕ) → row_saying fate ≡ row_cites q → IsCitedIn P b events q F ⊎ live

cited-as : (P : Project) (b : Beginning) (events : List Event) (least : ℕ) (F : List Entry) (live : Type 0) (p : ℕ) → IsCitedIn P b events p F ⊎ live → IsClosedAs P b events least F live (fate.Cited p)
cited-as P b events least F live p is = record {
  suits = λ ns. tt;
  closed = tt;
  childless = refl;
  unexpanded = refl;
  plain = λ first count e. cc;
  leaf = λ e. absurd cc;
  cites = λ q e. subst (λ (x : ℕ). IsCitedIn P b events x F ⊎ live) (place p q e) is;
}
  where
    place : (p q : ℕ) → row_cites p ≡ row_cites q → p ≡ q
    place p q e = cc

own-cited : (P : Project) (b : Beginning) (events : List Event) (made : List PlacedRecord) (expanded : List Base) (F : List Entry) (i : ℕ) → All (IsMadeIn P events) made → map (λ m. m.known.front) made ≡ fronts_of expanded →
    DominatesAt P (fronts_of expanded) F i → IsCitedIn P b events (slice_index (places_of made) i) F
own-cited P b events made expanded F i all same d =
    let n = length-map made (λ (m : PlacedRecord). m.known.front) in
    let l : length (map (λ (m : PlacedRecord). m.known.front) made) ≡ length (fronts_of expanded) = ap length same in
    let w = d.within in
    let m = made-at made i (omega arith) in
    let is = In-All (IsMadeIn P events) made all m.made_record m.among in
    let front : slice_index_or (fronts_of expanded) i [] ≡ is.event.front = ap (λ (fs : List (List Entry)). slice_index_or fs i []) (sym same) ∙ (m.front ∙ is.is.front) in
    by_own is.event is.among is.is.expansion (m.place ∙ is.is.place) (subst (λ (A : List Entry). Dominates P A F) front d.dominates)

pub closed-as : (P : Project) (b : Beginning) (events : List Event) (made : List PlacedRecord) (rows : RowsState) (best : ℕ) (node : NodeState) (at now : Progress) (close : Close) → IsProject P → StandsFor P node →
    length b.records.places ≡ length b.records.index → All (IsMadeIn P events) made → map (λ m. m.known.front) made ≡ fronts_of at.worker.expanded → now.pass.least_seen ≤ best →
    Closes P (fronts_of b.records.index) rows best node.front at now close → IsClosedAs P b events now.pass.least_seen node.front (IsLive close) (fate_in b.records.places (places_of made) close)
closed-as P b events made rows best node at now Leaf p stands places all same falls c =
    let end = front-end P node.front p.limits stands.front in
    let seen = c.offers.seen in
    record {
      suits = λ ns. record { number = end_of P node.front; late = (c.leaf, refl); suffices = reaches-end now.pass.least_seen (end_of P node.front) seen (omega arith) };
      closed = tt;
      childless = refl;
      unexpanded = refl;
      plain = λ first count e. cc;
      leaf = λ e. seen;
      cites = λ q e. absurd cc;
    }
closed-as P b events made rows best node at now TailBound p stands places all same falls c =
    let r = c.0.reason in
    let small = tail-limit P node.front r.number p stands.front r.is in
    let reach = r.reaches in
    record {
      suits = λ ns. record { number = r.number; late = r.is; suffices = reaches-end now.pass.least_seen r.number (omega arith) (omega arith) };
      closed = tt;
      childless = refl;
      unexpanded = refl;
      plain = λ first count e. cc;
      leaf = λ e. absurd cc;
      cites = λ q e. absurd cc;
    }
closed-as P b events made rows best node at now (WorkBound k) p stands places all same falls c =
    let r = c.0.reason.lowest.attained in
    let small = r.is.bound in
    let reach = r.reaches in
    record {
      suits = λ ns. record { number = r.number; late = r.is; suffices = reaches-end now.pass.least_seen r.number (omega arith) (omega arith) };
      closed = tt;
      childless = refl;
      unexpanded = refl;
      plain = λ first count e. cc;
      leaf = λ e. absurd cc;
      cites = λ q e. absurd cc;
    }
closed-as P b events made rows best node at now (Cutset (Earlier i)) p stands places all same falls c =
    let d = c.0.reason.first.attained in
    let w = d.within in
    let n = length-map b.records.index (λ (x : Base). x.front) in
    cited-as P b events now.pass.least_seen node.front (IsLive (Cutset (Earlier i))) (slice_index b.records.places i) (inl (by_earlier i (omega arith) refl d.dominates))
closed-as P b events made rows best node at now (Cutset (Own i)) p stands places all same falls c =
    cited-as P b events now.pass.least_seen node.front (IsLive (Cutset (Own i))) (slice_index (places_of made) i) (inl (own-cited P b events made at.worker.expanded node.front i all same c.0.reason.1.first.attained))
closed-as P b events made rows best node at now (Cutset (Live worker place)) p stands places all same falls c = cited-as P b events now.pass.least_seen node.front (IsLive (Cutset (Live worker place))) 0 (inr tt)

-- what was offered is what was offered before, or the end of this leaf
pub record OffersIts (P : Project) (start : ℕ) (F : List Entry) (fate : RowFate) (before after : List ℕ) : Type 0 where
  pub leaf : row_saying fate ≡ row_late late_leaf
  pub less : end_of P F < start
  pub soon : end_of P F ≤ 1290000
  pub offers : after ≡ end_of P F ∷ before

pub closed-offers : (P : Project) (earlier : List (List Entry)) (places own : List ℕ) (rows : RowsState) (best start : ℕ) (F : List Entry) (at now : Progress) (close : Close) → best ≤ start → end_of P F ≤ 1290000 →
    Closes P earlier rows best F at now close → (now.pass.offers ≡ at.pass.offers) ⊎ OffersIts P start F (fate_in places own close) at.pass.offers now.pass.offers
closed-offers P earlier places own rows best start F at now Leaf l soon c = elim (cases_lt (end_of P F) best) [
  | inl less ↦ inr (record { leaf = refl; less = omega arith; soon = soon; offers = (c.offers.less less).offers })
  | inr over ↦ inl (c.offers.no_less over).offers
]
closed-offers P earlier places own rows best start F at now TailBound l soon c = inl c.0.offers.offers
closed-offers P earlier places own rows best start F at now (WorkBound k) l soon c = inl c.0.offers.offers
closed-offers P earlier places own rows best start F at now (Cutset (Earlier i)) l soon c = inl c.0.offers.offers
closed-offers P earlier places own rows best start F at now (Cutset (Own i)) l soon c = inl c.0.offers.offers
closed-offers P earlier places own rows best start F at now (Cutset (Live worker place)) l soon c = inl c.offers.offers

pub never-expanded : (places own : List ℕ) (close : Close) → one_expanded (row_saying (fate_in places own close)) ≡ 0
never-expanded places own Leaf = refl
never-expanded places own TailBound = refl
never-expanded places own (WorkBound k) = refl
never-expanded places own (Cutset (Earlier i)) = refl
never-expanded places own (Cutset (Own i)) = refl
never-expanded places own (Cutset (Live worker place)) = refl

-- Live citations.

kept : (P : Project) (events : List Event) (x : Event) (numbers : List ℕ) (at now : Progress) → now.worker.live ≡ at.worker.live → AllZip (IsCitedLive P events) numbers at.worker.live → AllZip (IsCitedLive P (events ++ x ∷ [])) (numbers ++ []) now.worker.live
kept P events x numbers at now same z =
    subst (λ (ns : List ℕ). AllZip (IsCitedLive P (events ++ x ∷ [])) ns now.worker.live) (sym (append-nil numbers))
    (subst (AllZip (IsCitedLive P (events ++ x ∷ [])) numbers) (sym same) (live-more P events x numbers at.worker.live z))

-- a node that was closed by a live record is the last event
pub closed-live : (P : Project) (earlier : List (List Entry)) (rows : RowsState) (best : ℕ) (at now : Progress) (close : Close) (places own : List ℕ) (events : List Event) (x : Event) (numbers : List ℕ) →
    row_saying x.fill.fate ≡ row_saying (fate_in places own close) → Closes P earlier rows best x.front at now close → AllZip (IsCitedLive P events) numbers at.worker.live →
    AllZip (IsCitedLive P (events ++ x ∷ [])) (numbers ++ live_numbers (length events) close) now.worker.live
closed-live P earlier rows best at now Leaf places own events x numbers says c z = kept P events x numbers at now c.live z
closed-live P earlier rows best at now TailBound places own events x numbers says c z = kept P events x numbers at now c.1 z
closed-live P earlier rows best at now (WorkBound k) places own events x numbers says c z = kept P events x numbers at now c.1 z
closed-live P earlier rows best at now (Cutset (Earlier i)) places own events x numbers says c z = kept P events x numbers at now c.1 z
closed-live P earlier rows best at now (Cutset (Own i)) places own events x numbers says c z = kept P events x numbers at now c.1 z
closed-live P earlier rows best at now (Cutset (Live worker place)) places own events x numbers says c z =
    let l = c.reason.1 in
    subst (AllZip (IsCitedLive P (events ++ x ∷ [])) (numbers ++ length events ∷ [])) (sym l.kept)
    (zip-append (IsCitedLive P (events ++ x ∷ [])) numbers (length events ∷ []) at.worker.live (l.cited ∷ []) (live-more P events x numbers at.worker.live z)
    (record { event = x; is_at = get-new events x; row = 0; cites = says; base = l.is.base; known = l.is.known; dominates = l.is.dominates }, tt))
