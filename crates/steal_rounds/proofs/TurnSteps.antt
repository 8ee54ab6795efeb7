-- What a turn makes of a share.
use Rattle.std.proofs.Common.{◌≡◌, ℕ, ◌+◌, ◌-◌, ◌≤◌, ◌⊎◌, inl, inr, refl, sym, ap, subst, ◌∙◌, arith, List, [], ◌∷◌, ◌++◌, length, length-append, map, All}
use Rattle.std.specs.Prelude.{IfSome, Contains}
use Rattle.std.specs.List.{AllZip}
use Rattle.std.proofs.lemmas.List.{length-map, map-append}
use Rattle.std.proofs.lemmas.List.Elements.{All-cons, All-nil, All-head, All-tail}
use Rattle.rcpsp_model.specs.declared.parts.Child.{Child}
use Rattle.rcpsp_model.specs.declared.parts.Entry.{Entry}
use Rattle.rcpsp_model.specs.Project.{Project, IsProject}
use Rattle.rcpsp_model.specs.Tree.{IsLeaf, AreChildren, choices}
use Rattle.rcpsp_model.specs.Dominance.{Dominates}
use Rattle.rcpsp_model.proofs.Lists.{In, In-All, In-from_Contains, Contains-from_In}
use Rattle.rcpsp_model.proofs.Choices.{In-map}
use Rattle.rcpsp_model.proofs.Fronts.{front-end}
use Rattle.precedence_tree.specs.declared.base.Base.{Base}
use Rattle.precedence_tree.specs.Base.{IsBaseOf}
use Rattle.precedence_tree.specs.Node.{NodeState, StandsFor}
use Rattle.precedence_tree.specs.Children.{child_fronts}
use Rattle.cutset_store.specs.Index.{fronts_of}
use Rattle.search_log.specs.declared.row.RowFate.{RowFate}
use Rattle.search_log.specs.declared.row.RowFate.TheVariants as fate
use Rattle.search_log.specs.declared.row.Origin.{Origin}
use Rattle.search_log.specs.declared.row.Fill.{Fill}
use Rattle.search_log.specs.declared.table.Table.{Table}
use Rattle.search_log.specs.Fates.{row_expanded, row_saying}
use Rattle.search_log.specs.Stands.{TreeNode, HasChildren, searching, one_expanded}
use Rattle.search_log.specs.Lean.{end_number}
use Rattle.search_log.proofs.Sums.{total-append}
use Rattle.search_log.proofs.GrownTables.{child_places_law}
use Rattle.search_rounds.specs.declared.round.NewRow.{NewRow}
use Rattle.search_rounds.specs.declared.round.WaitingNode.{WaitingNode}
use Rattle.search_rounds.specs.declared.round.PlacedRecord.{PlacedRecord}
use Rattle.search_rounds.specs.declared.round.Records.{Records}
use Rattle.search_rounds.specs.declared.round.Terms.{Terms}
use Rattle.search_rounds.proofs.FilledSums.{Contains-left, Contains-right, zip-length}
use Rattle.shared_rows.specs.Rows.{RowsState}
use Rattle.tree_worker.specs.declared.answer.Cite.TheVariants.{Earlier, Own, Live}
use Rattle.tree_worker.specs.declared.answer.Close.{Close}
use Rattle.tree_worker.specs.declared.answer.Close.TheVariants.{Leaf, TailBound, WorkBound, Cutset}
use Rattle.tree_worker.specs.Worker.{Progress}
use Rattle.tree_worker.specs.Reasons.{IsOpen}
use Rattle.tree_worker.specs.Visits.{Closes}
use Rattle.round_shares.specs.Ends.{end_in}
use Rattle.round_shares.specs.Part.{Beginning, IsByOneOf, PartState, Event, says_event, IsExpansion, IsCitedLive, IsMadeIn, HasRecord, IsOffered}
use Rattle.round_shares.specs.Share.{room, first_place, IsPast, IsRowFor, SuitsFront, Handled, IsShare}
use Rattle.steal_rounds.specs.Children.{new_row, placed_from}
use Rattle.steal_rounds.specs.Fates.{IsLive, live_numbers, fate_in, places_of}
use Rattle.steal_rounds.specs.Turns.{ExpandsAs, beginning}
use Rattle.round_shares.proofs.EndNumbers.{end-small, later-end}
use Rattle.steal_rounds.proofs.SameParts.{part_by, same_part}
use Rattle.steal_rounds.proofs.ChildRows.{kid_nodes, IsKid, AreKids-from, kid-branches, kid-length, kid-rows, kid-born, kid-within, rows-of_new, kid-new}
use Rattle.steal_rounds.proofs.EventSteps.{pushed, new-event, made-more, live-more, offered-more, later-event, fills-length}
use Rattle.steal_rounds.proofs.ShareNodes.{front-closed, suits-later, closed-nodes, expanded-nodes, no-child, visited-past, head-past}
use Rattle.steal_rounds.proofs.ShareSteps.{next_share}
use Rattle.steal_rounds.proofs.ClosedNodes.{never-expanded, closed-as, OffersIts, closed-offers, closed-live}

abbrev pub fill_by : ℕ → RowFate → Origin → Fill
fill_by place fate origin = record { place = place; fate = fate; origin = origin }

-- what is a share goes on to be one, whatever nodes the worker handled
abbrev pub KeepsPart : Project → Records → Origin → Progress → PartState → Progress → PartState → Type 0
KeepsPart P records origin at s now t =
    (table : Table) (dealt : List WaitingNode) (terms : Terms) (h : Handled) → terms.number ≡ origin.round → IfSome terms.best (λ end. end ≤ 1290000) → IsShare P (beginning table records origin.worker dealt terms) h at s →
    IsShare P (beginning table records origin.worker dealt terms) h now t

events-many : {s : PartState} (P : Project) (b : Beginning) (h : Handled) (at : Progress) (old : IsShare P b h at s) → length s.fills ≡ length old.events
events-many P b h at old = ap length old.fills ∙ fills-length old.events

-- A node is closed.

abbrev closed_part : PartState → WaitingNode → Fill → Close → PartState
closed_part s w f close = part_by s.grown (s.fills ++ f ∷ []) (s.live ++ live_numbers (length s.fills) close) s.made s.left

-- the part before it, where the node waits
abbrev waits_part : PartState → WaitingNode → PartState
waits_part s w = part_by s.grown s.fills s.live s.made (w ∷ s.left)

live-now : (s : PartState) (close : Close) (n : ℕ) → length s.fills ≡ n → IsLive close → Contains (s.live ++ live_numbers (length s.fills) close) n
live-now s Leaf n same l = absurd l
live-now s TailBound n same l = absurd l
live-now s (WorkBound k) n same l = absurd l
live-now s (Cutset (Earlier i)) n same l = absurd l
live-now s (Cutset (Own i)) n same l = absurd l
live-now s (Cutset (Live worker place)) n same l = Contains-right s.live (length s.fills ∷ []) n (Contains-from_In (length s.fills ∷ []) n (inl same))

offered-now : (P : Project) (b : Beginning) (events : List Event) (x : Event) (before after : List ℕ) → All (IsOffered P b events) before →
    (after ≡ before) ⊎ OffersIts P (end_number b.terms.best) x.front x.fill.fate before after → All (IsOffered P b (events ++ x ∷ [])) after
offered-now P b events x before after a (inl same) = subst (All (IsOffered P b (events ++ x ∷ []))) (sym same) (offered-more P b events x before a)
offered-now P b events x before after a (inr its) =
    subst (All (IsOffered P b (events ++ x ∷ []))) (sym its.offers)
    (All-cons (IsOffered P b (events ++ x ∷ [])) _ before (record { event = x; among = new-event events x; leaf = its.leaf; is = refl; less = its.less; soon = its.soon }) (offered-more P b events x before a))

closed-share : (P : Project) (rows : RowsState) (best : ℕ) (b : Beginning) (h : Handled) (origin : Origin) (w : WaitingNode) (at now : Progress) (s : PartState) (close : Close) → IsProject P → StandsFor P w.node →
    length b.records.places ≡ length b.records.index → best ≤ at.pass.least_seen → now.pass.least_seen ≤ best → origin.turn ≡ length s.fills + 1 → origin.round ≡ b.terms.number → IsByOneOf b origin →
    Closes P (fronts_of b.records.index) rows best w.node.front at now close → now.worker.expanded ≡ at.worker.expanded → IfSome b.terms.best (λ end. end ≤ 1290000) → IsShare P b h at (waits_part s w) →
    IsShare P b h now (closed_part s w (fill_by w.place (fate_in b.records.places (places_of s.made) close) origin) close)
closed-share P rows best b h origin w at now s close p stands places low falls turn round worker c same soon old =
    let F = w.node.front in
    let start = old.falls in
    let facts = closed-as P b old.events s.made rows best w.node at now close p stands places old.made old.fronts falls c in
    let f : Fill = fill_by w.place (fate_in b.records.places (places_of s.made) close) origin in
    let x : Event = record { fill = f; front = F } in
    let small = end-small b.terms.best soon in
    let later = later-end at.pass.least_seen now.pass.least_seen (omega arith) (omega arith) in
    let many = events-many P b h at old in
    next_share P b h at now (waits_part s w) (closed_part s w f close) x old old.more refl (omega arith) (old.fronts ∙ sym (ap fronts_of same))
    (let a = total-append (λ (y : Fill). one_expanded (row_saying y.fate)) s.fills (f ∷ []) in
    let e = old.expanded in
    let z = never-expanded b.records.places (places_of s.made) close in
    omega arith)
    (closed-nodes P b h at now s.grown s.fills s.live (s.live ++ live_numbers (length s.fills) close) s.made w s.left x old later refl facts.childless
    (front-closed P (searching (end_in now.pass.least_seen)) (first_place b.first_worker) old.more F (row_saying f.fate) facts.suits facts.closed facts.childless facts.plain))
    (record { round = round; worker = worker; leaf = facts.leaf; early = λ y. absurd (facts.plain y.first y.count y.is); new = λ y. absurd (facts.plain y.first y.count y.is) })
    (omega arith) (λ e i u v. absurd (facts.plain v.first v.count v.is)) (λ e y i. absurd (facts.plain y.first y.count y.is))
    (λ q says. elim (facts.cites q says) [ inl k ↦ inl k | inr l ↦ inr (live-now s close (length old.events) many l) ]) (λ i k. Contains-left s.live (live_numbers (length s.fills) close) i k)
    (subst (λ (n : ℕ). AllZip (IsCitedLive P (old.events ++ x ∷ [])) (s.live ++ live_numbers n close) now.worker.live) (sym many)
    (closed-live P (fronts_of b.records.index) rows best at now close b.records.places (places_of s.made) old.events x s.live refl c old.live)) (made-more P old.events x s.made old.made)
    (λ e i y. elim (pushed old.events x e i) [
      | inl k ↦ old.made_all e k y
      | inr here ↦ absurd (facts.plain y.first y.count (ap says_event here ∙ y.is))
    ])
    (offered-now P b old.events x at.pass.offers now.pass.offers old.offered
    (closed-offers P (fronts_of b.records.index) b.records.places (places_of s.made) rows best (end_number b.terms.best) F at now close (omega arith) (front-end P F p.limits stands.front) c))

pub closed-keeps : (P : Project) (rows : RowsState) (best : ℕ) (records : Records) (origin : Origin) (w : WaitingNode) (at now : Progress) (s t : PartState) (close : Close) → IsProject P → StandsFor P w.node →
    length records.places ≡ length records.index → best ≤ at.pass.least_seen → now.pass.least_seen ≤ best → origin.turn ≡ length s.fills + 1 →
    Closes P (fronts_of records.index) rows best w.node.front at now close → now.worker.expanded ≡ at.worker.expanded →
    t ≡ closed_part s w (fill_by w.place (fate_in records.places (places_of s.made) close) origin) close →
    KeepsPart P records origin at (waits_part s w) now t
closed-keeps P rows best records origin w at now s t close p stands places low falls turn c same is table dealt terms h number soon old =
    let b = beginning table records origin.worker dealt terms in
    subst (IsShare P b h now) (sym is)
    (closed-share P rows best b h origin w at now s close p stands places low falls turn (sym number) (record { from = omega arith; to = omega arith }) c same soon old)

-- A node comes back.

pub back-keeps : (P : Project) (records : Records) (origin : Origin) (w : WaitingNode) (at now : Progress) (s t : PartState) → now.pass.least_seen ≤ at.pass.least_seen → now.pass.offers ≡ at.pass.offers →
    now.worker.expanded ≡ at.worker.expanded → now.worker.live ≡ at.worker.live → t ≡ waits_part s w →
    KeepsPart P records origin at (waits_part s w) now t
back-keeps P records origin w at now s t falls offers same live is table dealt terms h number soon old =
    let b = beginning table records origin.worker dealt terms in
    let start = old.falls in
    let small = end-small terms.best soon in
    let later = later-end at.pass.least_seen now.pass.least_seen (omega arith) falls in
    subst (IsShare P b h now) (sym is) (record {
      more = old.more;
      events = old.events;
      fills = old.fills;
      falls = omega arith;
      new = old.new;
      rows = old.rows;
      fronts = old.fronts ∙ sym (ap fronts_of same);
      expanded = old.expanded;
      account = old.account;
      once = old.once;
      past = old.past;
      suits = suits-later P (end_in at.pass.least_seen) (end_in now.pass.least_seen) (first_place b.first_worker) old.more old.events later old.suits;
      each = later-event P b at.pass.least_seen now.pass.least_seen old.events falls old.each;
      turns = old.turns;
      cites = old.cites;
      live = subst (AllZip (IsCitedLive P old.events) s.live) (sym live) old.live;
      made = old.made;
      made_all = old.made_all;
      offered = subst (All (IsOffered P b old.events)) (sym offers) old.offered;
    })

-- A node is expanded.

All-of_fronts : (P : Project) (F : List Entry) (bases : List Base) → All (λ A. Dominates P A F → ⊥) (fronts_of bases) → All (λ base. Dominates P base.front F → ⊥) bases
All-of_fronts P F [] a = All-nil (λ (base : Base). Dominates P base.front F → ⊥)
All-of_fronts P F (base ∷ bases) a =
    All-cons (λ (base : Base). Dominates P base.front F → ⊥) base bases (All-head (λ (A : List Entry). Dominates P A F → ⊥) base.front (fronts_of bases) a)
    (All-of_fronts P F bases (All-tail (λ (A : List Entry). Dominates P A F → ⊥) base.front (fronts_of bases) a))

All-push : {X : Type 0} (Q : X → Type 0) (xs : List X) (y : X) → All Q xs → Q y → All Q (xs ++ y ∷ [])
All-push Q [] y a q = All-cons Q y [] q (All-nil Q)
All-push Q (x ∷ xs) y a q = All-cons Q x (xs ++ y ∷ []) (All-head Q x xs a) (All-push Q xs y (All-tail Q x xs a) q)

has-more : (made : List PlacedRecord) (m : PlacedRecord) (e : Event) → HasRecord made e → HasRecord (made ++ m ∷ []) e
has-more made m e h = record { made_record = h.made_record; among = Contains-left made (m ∷ []) h.made_record h.among; place = h.place; front = h.front }

-- no front that the worker expanded before dominates it
own-new : (P : Project) (F : List Entry) (made : List PlacedRecord) (expanded : List Base) (e : Event) → map (λ m. m.known.front) made ≡ fronts_of expanded → All (λ A. Dominates P A F → ⊥) (fronts_of expanded) → HasRecord made e →
    Dominates P e.front F → ⊥
own-new P F made expanded e same none h d =
    let i : In (map (λ (m : PlacedRecord). m.known.front) made) h.made_record.known.front = In-map (λ (m : PlacedRecord). m.known.front) made h.made_record (In-from_Contains made h.made_record h.among) in
    let j : In (fronts_of expanded) e.front = subst (In (fronts_of expanded)) h.front (subst (λ (fs : List (List Entry)). In fs h.made_record.known.front) same i) in
    In-All (λ (A : List Entry). Dominates P A F → ⊥) (fronts_of expanded) none e.front j d

-- what an expansion gives
pub record Expanding (P : Project) (earlier : List Base) (best : ℕ) (node : NodeState) (at now : Progress) (kids : List (Child NodeState)) (base : Base) : Type 0 where
  pub inner : IsLeaf P node.front → ⊥
  pub is_open : IsOpen P (fronts_of earlier) (fronts_of at.worker.expanded) best node.front
  pub are : AreChildren P node.front (child_fronts kids)
  pub front : base.front ≡ node.front
  pub known : IsBaseOf P base
  pub kept : now.worker.expanded ≡ at.worker.expanded ++ base ∷ []
  pub offers : now.pass.offers ≡ at.pass.offers
  pub live : now.worker.live ≡ at.worker.live

abbrev expansion_fill : WaitingNode → List (Child NodeState) → ℕ → Origin → Fill
expansion_fill w kids first origin = fill_by w.place (fate.Expanded (length kids) first) origin

expanded_parts : (a b c d : ℕ) → row_expanded a b ≡ row_expanded c d → (a ≡ c) × (b ≡ d)
expanded_parts a b c d e = (cc, cc)

-- the children have rows among those that came, behind those that were there
expansion-suits : (P : Project) (least start : ℕ) (more : List TreeNode) (w : WaitingNode) (kids : List (Child NodeState)) (first : ℕ) → (IsLeaf P w.node.front → ⊥) → AllZip (IsKid P w.node.front) (choices P w.node.front) kids →
    first ≡ start + length more → SuitsFront P (searching (end_in least)) start (more ++ kid_nodes w.node.front (choices P w.node.front) kids) w.node.front (row_expanded first (length kids))
expansion-suits P least start more w kids first inner z base =
    let F = w.node.front in
    let most = kid_nodes F (choices P F) kids in
    let has : HasChildren P (more ++ most) F (length more) (length most) = child_places_law P more most F inner (kid-branches P F (choices P F) kids z) in
    let place : length more ≡ first - start = omega arith in
    (omega arith, subst (λ (n : ℕ). HasChildren P (more ++ most) F n (length kids)) place (subst (HasChildren P (more ++ most) F (length more)) (kid-length P F (choices P F) kids z) has))

expanded-share : (P : Project) (best : ℕ) (b : Beginning) (h : Handled) (origin : Origin) (w : WaitingNode) (at now : Progress) (s : PartState) (kids : List (Child NodeState)) (known : Base) (first : ℕ) → best ≤ at.pass.least_seen →
    now.pass.least_seen ≤ best → origin.turn ≡ length s.fills + 1 → origin.round ≡ b.terms.number → IsByOneOf b origin → first ≡ first_place b.first_worker + length s.grown → length s.grown + length kids ≤ room →
    Expanding P b.records.index best w.node at now kids known → IfSome b.terms.best (λ end. end ≤ 1290000) → IsShare P b h at (waits_part s w) →
    IsShare P b h now (part_by (s.grown ++ map (new_row origin) kids) (s.fills ++ expansion_fill w kids first origin ∷ []) s.live (s.made ++ record { place = w.place; known = known } ∷ []) (placed_from first kids ++ s.left))
expanded-share P best b h origin w at now s kids known first low falls turn round worker base fits e soon old =
    let F = w.node.front in
    let z = AreKids-from P F (choices P F) kids e.are in
    let most = kid_nodes F (choices P F) kids in
    let news : List NewRow = map (new_row origin) kids in
    let f = expansion_fill w kids first origin in
    let v : Event = record { fill = f; front = F } in
    let m : PlacedRecord = record { place = w.place; known = known } in
    let expansion : IsExpansion v = record { first = first; count = length kids; is = refl } in
    let start = old.falls in
    let small = end-small b.terms.best soon in
    let later = later-end at.pass.least_seen now.pass.least_seen (omega arith) (omega arith) in
    let many = events-many P b h at old in
    let nodes = zip-length (IsRowFor P) old.more (map (λ (n : NewRow). n.row) s.grown) old.rows in
    let lm = length-map s.grown (λ (n : NewRow). n.row) in
    let ln : length news ≡ length kids = length-map kids (new_row origin) in
    next_share P b h at now (waits_part s w) _ v old (old.more ++ most) refl (omega arith)
    (map-append (λ (y : PlacedRecord). y.known.front) s.made (m ∷ [])
    ∙ (ap (λ (fs : List (List Entry)). fs ++ known.front ∷ []) old.fronts
    ∙ (sym (map-append (λ (y : Base). y.front) at.worker.expanded (known ∷ [])) ∙ sym (ap fronts_of e.kept))))
    (let a = total-append (λ (y : Fill). one_expanded (row_saying y.fate)) s.fills (f ∷ []) in
    let n = old.expanded in
    let l = length-append s.made (m ∷ []) in
    omega arith)
    (expanded-nodes P b h at now s.grown news s.fills s.live s.made (s.made ++ m ∷ []) w (placed_from first kids) s.left v most first old later refl base (ap (row_expanded first) (sym ln)) (kid-new b origin kids round worker)
    (subst (AllZip (IsRowFor P) most) (sym (rows-of_new origin kids)) (kid-rows P F (choices P F) kids z)) (kid-born P F (choices P F) kids z first)
    (kid-within first (first + length news) first kids (omega arith) (omega arith)) (expansion-suits P now.pass.least_seen (first_place b.first_worker) old.more w kids first e.inner z (omega arith)))
    (record {
      round = round;
      worker = worker;
      leaf = λ says. absurd cc;
      early = λ y n value. let under = e.is_open.below n value in omega arith;
      new = λ y. All-of_fronts P F b.records.index e.is_open.new_to_earlier;
    })
    (omega arith)
    (λ g i u y. own-new P F s.made at.worker.expanded g old.fronts e.is_open.new_to_own (old.made_all g i u))
    (λ g y i from below.
    let same = expanded_parts first (length kids) y.first y.count y.is in
    let first_is = same.0 in
    let count_is = same.1 in
    let past : IsPast (first_place b.first_worker) (length s.grown) g.fill.place = elim (pushed old.events v g i) [
      | inl k ↦ visited-past P b h at (waits_part s w) old g (In-from_Contains old.events g k)
      | inr here ↦ subst (λ (y : Event). IsPast (first_place b.first_worker) (length s.grown) y.fill.place) here (head-past P b h at s.grown s.fills s.live s.made w s.left old)
    ] in
    no-child (first_place b.first_worker) (length s.grown) g.fill.place first (length kids) past base fits (omega arith) (omega arith))
    (λ q says. absurd cc) (λ i k. k) (subst (AllZip (IsCitedLive P (old.events ++ v ∷ [])) s.live) (sym e.live) (live-more P old.events v s.live at.worker.live old.live))
    (All-push (IsMadeIn P (old.events ++ v ∷ [])) s.made m (made-more P old.events v s.made old.made) (record { event = v; among = new-event old.events v; is = record { expansion = expansion; place = refl; front = e.front; known = e.known } }))
    (λ g i u. elim (pushed old.events v g i) [
      | inl k ↦ has-more s.made m g (old.made_all g k u)
      | inr here ↦ subst (HasRecord (s.made ++ m ∷ [])) here (record { made_record = m; among = Contains-right s.made (m ∷ []) m (Contains-from_In (m ∷ []) m (inl refl)); place = refl; front = e.front })
    ])
    (subst (All (IsOffered P b (old.events ++ v ∷ []))) (sym e.offers) (offered-more P b old.events v at.pass.offers old.offered))

pub expanded-keeps : (P : Project) (best : ℕ) (records : Records) (origin : Origin) (w : WaitingNode) (at now : Progress) (s t : PartState) (kids : List (Child NodeState)) (known : Base) (first : ℕ) → best ≤ at.pass.least_seen →
    now.pass.least_seen ≤ best → origin.turn ≡ length s.fills + 1 → first ≡ first_place origin.worker + length s.grown → length s.grown + length kids ≤ room → Expanding P records.index best w.node at now kids known →
    ExpandsAs w.place known kids first origin s t → KeepsPart P records origin at (waits_part s w) now (part_by t.grown t.fills t.live t.made (placed_from first kids ++ s.left))
expanded-keeps P best records origin w at now s t kids known first low falls turn base fits e x table dealt terms h number soon old =
    let b = beginning table records origin.worker dealt terms in
    let m : PlacedRecord = record { place = w.place; known = known } in
    let u : PartState = part_by (s.grown ++ map (new_row origin) kids) (s.fills ++ expansion_fill w kids first origin ∷ []) s.live (s.made ++ m ∷ []) (placed_from first kids ++ s.left) in
    subst (IsShare P b h now) (sym (same_part (part_by t.grown t.fills t.live t.made u.left) u x.grown x.fills x.live x.made refl))
    (expanded-share P best b h origin w at now s kids known first low falls turn (sym number) (record { from = omega arith; to = omega arith }) base fits e soon old)
