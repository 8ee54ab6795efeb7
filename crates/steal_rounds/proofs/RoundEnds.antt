-- A part at its end is a round.
use Rattle.std.proofs.Common.{◌≡◌, ℕ, zero, suc, ◌+◌, ◌-◌, ◌<◌, ◌≤◌, ◌⊎◌, inl, inr, refl, sym, ap, subst, ◌∙◌, arith, List, [], ◌∷◌, ◌++◌, length, length-append, map, All, Some, None, true, false}
use Rattle.std.specs.Prelude.{IfSome, Contains, slice_index, slice_index_or}
use Rattle.std.specs.List.{AllZip}
use Rattle.std.proofs.lemmas.Bool.{cases_lt}
use Rattle.std.proofs.lemmas.List.{get_or_append_left, get_or-append_right, length-map}
use Rattle.std.proofs.lemmas.List.Elements.{All-weaker}
use Rattle.rcpsp_model.specs.declared.parts.Entry.{Entry}
use Rattle.rcpsp_model.specs.declared.parts.Shut.{Shut as Why}
use Rattle.rcpsp_model.specs.Project.{Project}
use Rattle.rcpsp_model.specs.Dominance.{Dominates}
use Rattle.rcpsp_model.proofs.Lists.{In, In-from_Contains, Contains-from_In}
use Rattle.rcpsp_model.proofs.Choices.{In-map, map-In}
use Rattle.log_truth.specs.Fates.{says_late, late_leaf, shuts}
use Rattle.precedence_tree.specs.declared.base.Base.{Base}
use Rattle.cutset_store.specs.Index.{fronts_of}
use Rattle.search_log.specs.declared.row.Row.{Row}
use Rattle.search_log.specs.declared.row.Origin.{Origin}
use Rattle.search_log.specs.declared.row.Fill.{Fill}
use Rattle.search_log.specs.Weights.{total, Each}
use Rattle.search_log.specs.Fates.{RowSaying, row_open, row_expanded, row_late, row_cites, row_shut}
use Rattle.search_log.specs.Table.{no_row, row_at, says_row, says_at}
use Rattle.search_log.specs.Stands.{TreeNode, place_front, searching, IsClosed, Stands, Grows, fill_rows, fill_origins, IsExpandedAt, CitesRow, one_expanded, expanded_rows}
use Rattle.search_log.specs.Told.{no_origin, origin_at}
use Rattle.search_log.specs.Lean.{seen_row}
use Rattle.search_log.specs.Laws.{PlaceRow, place_row, filled_row}
use Rattle.search_log.proofs.Sums.{total-append, Each-In}
use Rattle.search_log.proofs.RowLines.{told, saying-told}
use Rattle.search_log.proofs.FilledRows.{fills_law}
use Rattle.search_log.proofs.StayingRows.{comes_law, from_law, expanded-stays}
use Rattle.search_log.proofs.GrownTables.{grow_law}
use Rattle.search_log.proofs.ToldLogs.{expanded-inside}
use Rattle.search_rounds.specs.declared.round.NewRow.{NewRow}
use Rattle.search_rounds.specs.declared.round.PlacedRecord.{PlacedRecord}
use Rattle.search_rounds.specs.Round.{waiting_of, IsRecordOf, AreRecords, VisitedIn}
use Rattle.search_rounds.proofs.FilledSums.{closed-not_open, length-fill_rows, expanded-filled}
use Rattle.tree_worker.specs.Worker.{Progress}
use Rattle.round_shares.specs.Ends.{end_in}
use Rattle.steal_rounds.specs.Ended.{result_of}
use Rattle.round_shares.specs.Part.{Beginning, IsByOneOf, PartState, Event, fills_of, says_event, IsExpansion, IsAtNode, IsCitedIn, by_earlier, by_own, IsMadeIn, IsNewSaying, IsNewRow, IsPartAt, IsPart}
use Rattle.round_shares.proofs.EndNumbers.{end-small, later-end, no_later-end}
use Rattle.steal_rounds.proofs.PartSteps.{front-more, grows-later}
use Rattle.round_shares.proofs.ListPlaces.{Each-at, In-get}

-- A part at its end, on a table that stands for the nodes ns.
pub record Ending (P : Project) (b : Beginning) (ns : List TreeNode) (at : Progress) (s : PartState) (best : ℕ) : Type 0 where
  pub stands : Stands P (searching b.terms.best) b.table.rows ns [] (waiting_of b.dealt)
  pub origins : length b.table.origins ≡ length b.table.rows
  pub known : AreRecords P b.table.rows ns b.records
  pub part : IsPart P b at s
  pub at_tree : IsPartAt P b ns at s
  pub none_live : s.live ≡ []
  pub falls : best ≤ at.pass.least_seen
  pub soon : IfSome b.terms.best (λ end. end ≤ 1290000)

abbrev pub grown_table : Beginning → PartState → List Row
grown_table b s = b.table.rows ++ map (λ n. n.row) s.grown

abbrev pub grown_origins : Beginning → PartState → List Origin
grown_origins b s = b.table.origins ++ map (λ n. n.origin) s.grown

abbrev pub after_rows : Beginning → PartState → List Row
after_rows b s = fill_rows (grown_table b s) s.fills

abbrev pub after_origins : Beginning → PartState → List Origin
after_origins b s = fill_origins (grown_origins b s) s.fills

pub grows-end : (P : Project) (b : Beginning) (ns : List TreeNode) (at : Progress) (s : PartState) (best : ℕ) → (k : Ending P b ns at s best) →
    Grows P (searching (end_in best)) b.table.rows ns (waiting_of b.dealt) (map (λ n. n.row) s.grown) k.at_tree.more s.fills (waiting_of s.left)
grows-end P b ns at s best k =
    let small = end-small b.terms.best k.soon in
    let start = k.part.falls in
    grows-later P (end_in at.pass.least_seen) (end_in best) b.table.rows (map (λ n. n.row) s.grown) ns k.at_tree.more (waiting_of b.dealt) (waiting_of s.left) s.fills (later-end at.pass.least_seen best (omega arith) k.falls) k.at_tree.grows

pub mid : (P : Project) (b : Beginning) (ns : List TreeNode) (at : Progress) (s : PartState) (best : ℕ) → (k : Ending P b ns at s best) →
    Stands P (searching (end_in best)) (grown_table b s) (ns ++ k.at_tree.more) s.fills (waiting_of s.left)
mid P b ns at s best k =
    let start = k.part.falls in
    let falls = k.falls in
    grow_law P b.terms.best (end_in best) b.table.rows (map (λ n. n.row) s.grown) ns k.at_tree.more (waiting_of b.dealt) (waiting_of s.left) s.fills k.stands (no_later-end b.terms.best best k.soon (omega arith)) (grows-end P b ns at s best k)

pub after : (P : Project) (b : Beginning) (ns : List TreeNode) (at : Progress) (s : PartState) (best : ℕ) → (k : Ending P b ns at s best) → Stands P (searching (end_in best)) (after_rows b s) (ns ++ k.at_tree.more) [] (waiting_of s.left)
after P b ns at s best k = fills_law P (searching (end_in best)) (grown_table b s) (ns ++ k.at_tree.more) s.fills (waiting_of s.left) (mid P b ns at s best k)

sizes : (b : Beginning) (s : PartState) → length b.table.origins ≡ length b.table.rows → length (grown_origins b s) ≡ length (grown_table b s)
sizes b s e =
    let a = length-append b.table.origins (map (λ (n : NewRow). n.origin) s.grown) in
    let c = length-append b.table.rows (map (λ (n : NewRow). n.row) s.grown) in
    let d = length-map s.grown (λ (n : NewRow). n.origin) in
    let f = length-map s.grown (λ (n : NewRow). n.row) in
    omega arith

-- What was visited.

pub record ByEvent (b : Beginning) (s : PartState) (events : List Event) (p : ℕ) : Type 0 where
  pub event : Event
  pub among : In events event
  pub place : event.fill.place ≡ p
  pub says : says_at (after_rows b s) p ≡ says_event event
  pub origin : origin_at (after_origins b s) p ≡ event.fill.origin

pub record ByParent (b : Beginning) (s : PartState) (p : ℕ) : Type 0 where
  pub why : Why
  pub says : says_at (after_rows b s) p ≡ row_shut why
  pub round : (origin_at (after_origins b s) p).round ≡ b.terms.number
  pub worker : IsByOneOf b (origin_at (after_origins b s) p)

pub event-at : (P : Project) (b : Beginning) (ns : List TreeNode) (at : Progress) (s : PartState) (best : ℕ) → (k : Ending P b ns at s best) → (e : Event) → In k.at_tree.events e → ByEvent b s k.at_tree.events e.fill.place
event-at P b ns at s best k e i =
    let c : Contains s.fills e.fill = subst (λ (fs : List Fill). Contains fs e.fill) (sym k.at_tree.fills) (Contains-from_In (fills_of k.at_tree.events) e.fill (In-map (λ (x : Event). x.fill) k.at_tree.events e i)) in
    let w = comes_law P (searching (end_in best)) (grown_table b s) (grown_origins b s) (ns ++ k.at_tree.more) s.fills (waiting_of s.left) e.fill (mid P b ns at s best k) (sizes b s k.origins) c in
    record { event = e; among = i; place = refl; says = ap (λ (x : PlaceRow). says_row x.row) w; origin = ap (λ (x : PlaceRow). x.origin) w }

pub event-written : (P : Project) (b : Beginning) (ns : List TreeNode) (at : Progress) (s : PartState) (best : ℕ) → (k : Ending P b ns at s best) → (e : Event) → In k.at_tree.events e →
    (says_at (after_rows b s) e.fill.place ≡ says_event e) × (origin_at (after_origins b s) e.fill.place ≡ e.fill.origin)
unfolding event-at
event-written P b ns at s best k e i = let y = event-at P b ns at s best k e i in (y.says, y.origin)

map-at : {X Y : Type 0} (f : X → Y) (xs : List X) (i : ℕ) (d : X) (c : Y) → i < length xs → slice_index_or (map f xs) i c ≡ f (slice_index_or xs i d)
map-at f [] i d c l = absurd (omega arith)
map-at f (x ∷ xs) zero d c l = refl
map-at f (x ∷ xs) (suc i) d c l = map-at f xs i d c (omega arith)

shut-new : (s : RowSaying) → IsNewSaying s → IsClosed s → (why : Why) × (s ≡ row_shut why)
shut-new row_open n c = absurd c
shut-new (row_expanded first count) n c = absurd n
shut-new (row_late reason) n c = absurd n
shut-new (row_cites q) n c = absurd n
shut-new (row_shut why) n c = (why, refl)

grown-at : (P : Project) (b : Beginning) (ns : List TreeNode) (at : Progress) (s : PartState) (best p : ℕ) → Ending P b ns at s best → VisitedIn b.table (result_of s None best) p →
    filled_row (grown_table b s) (grown_origins b s) s.fills p ≡ place_row (grown_table b s) (grown_origins b s) p → ByParent b s p
grown-at P b ns at s best p k v same =
    let T = b.table.rows in
    let rows = map (λ (n : NewRow). n.row) s.grown in
    let os = map (λ (n : NewRow). n.origin) s.grown in
    let says : says_at (after_rows b s) p ≡ says_at (grown_table b s) p = ap (λ (x : PlaceRow). says_row x.row) same in
    let origin : origin_at (after_origins b s) p ≡ origin_at (grown_origins b s) p = ap (λ (x : PlaceRow). x.origin) same in
    let len = length-fill_rows (grown_table b s) s.fills in
    let lg = length-append T rows in
    let lm = length-map s.grown (λ (n : NewRow). n.row) in
    let within = v.within in
    elim (cases_lt p (length T)) [
      | inl old ↦ absurd (
          let at_old : row_at (grown_table b s) p ≡ row_at T p = get_or_append_left T rows no_row p old in
          closed-not_open (says_at (after_rows b s) p) v.closed (says ∙ (ap says_row at_old ∙ v.was_open old)))
      | inr fresh ↦ (
          let i = p - length T in
          let l : i < length s.grown = omega arith in
          let d : NewRow = record { row = no_row; origin = no_origin } in
          let n = slice_index_or s.grown i d in
          let is = Each-at (IsNewRow b) s.grown i d k.part.rows l in
          let row : row_at (grown_table b s) p ≡ n.row = get_or-append_right T rows (length T) p no_row refl fresh ∙ map-at (λ (n : NewRow). n.row) s.grown i d no_row l in
          let so = k.origins in
          let own : origin_at (grown_origins b s) p ≡ n.origin = get_or-append_right b.table.origins os (length T) p no_origin so fresh ∙ map-at (λ (n : NewRow). n.origin) s.grown i d no_origin l in
          let said : says_at (after_rows b s) p ≡ says_row n.row = says ∙ ap says_row row in
          let shut = shut-new (says_row n.row) is.says (subst IsClosed said v.closed) in
          let given : origin_at (after_origins b s) p ≡ n.origin = origin ∙ own in
          record {
            why = shut.0;
            says = said ∙ shut.1;
            round = subst (λ (o : Origin). o.round ≡ b.terms.number) (sym given) is.round;
            worker = subst (IsByOneOf b) (sym given) is.worker;
          })
    ]

pub visited-cases : (P : Project) (b : Beginning) (ns : List TreeNode) (at : Progress) (s : PartState) (best p : ℕ) → (k : Ending P b ns at s best) → VisitedIn b.table (result_of s None best) p → ByEvent b s k.at_tree.events p ⊎ ByParent b s p
visited-cases P b ns at s best p k v =
    elim (from_law P (searching (end_in best)) (grown_table b s) (grown_origins b s) (ns ++ k.at_tree.more) s.fills (waiting_of s.left) p (mid P b ns at s best k) (sizes b s k.origins)) [
      | inl same ↦ inr (grown-at P b ns at s best p k v same)
      | inr w ↦ (
          let i : In (fills_of k.at_tree.events) w.fill = subst (λ (fs : List Fill). In fs w.fill) k.at_tree.fills (In-from_Contains s.fills w.fill w.among) in
          let e = map-In (λ (x : Event). x.fill) k.at_tree.events w.fill i in
          let place : e.0.fill.place ≡ p = ap (λ (f : Fill). f.place) e.2 ∙ w.place in
          inl (subst (ByEvent b s k.at_tree.events) place (event-at P b ns at s best k e.0 e.1)))
    ]

-- What the line of an event says.

pub leaf-said : (s : RowSaying) → told [] s ≡ says_late late_leaf → s ≡ row_late late_leaf
leaf-said row_open e = absurd cc
leaf-said (row_expanded first count) e = absurd cc
leaf-said (row_late reason) e = (let same : reason ≡ late_leaf = cc in ap row_late same)
leaf-said (row_cites q) e = absurd cc
leaf-said (row_shut why) e = absurd cc

pub said-of : (T : List Row) (ns : List TreeNode) (O : List Origin) (p : ℕ) → (seen_row T ns O p).said ≡ told [] (says_at T p)
said-of T ns O p = saying-told [] (row_at T p).fate

pub shut-line : (T : List Row) (ns : List TreeNode) (O : List Origin) (p : ℕ) (why : Why) → says_at T p ≡ row_shut why → shuts (seen_row T ns O p).said ≡ false → ⊥
shut-line T ns O p why e f =
    let s : shuts (seen_row T ns O p).said ≡ true = ap shuts (said-of T ns O p ∙ ap (told []) e) in
    cc

-- an expanded line is that of an event
pub record ExpandedEvent (b : Beginning) (s : PartState) (ns : List TreeNode) (events : List Event) (p : ℕ) (F : List Entry) : Type 0 where
  pub by : ByEvent b s events p
  pub expansion : IsExpansion by.event
  pub front : by.event.front ≡ F

pub event-front : (ns : List TreeNode) (events : List Event) (e : Event) (p : ℕ) (F : List Entry) → Each (IsAtNode ns) events → In events e → e.fill.place ≡ p → place_front ns p ≡ Some F → e.front ≡ F
event-front ns events e p F all i place f =
    let own : place_front ns e.fill.place ≡ Some e.front = Each-In (IsAtNode ns) events e all i in
    let same : Some e.front ≡ Some F = sym own ∙ (ap (place_front ns) place ∙ f) in
    cc

pub expanded-event : (P : Project) (b : Beginning) (ns : List TreeNode) (at : Progress) (s : PartState) (best p : ℕ) (F : List Entry) → (k : Ending P b ns at s best) → VisitedIn b.table (result_of s None best) p → IsExpandedAt (after_rows b s) p →
    place_front (ns ++ k.at_tree.more) p ≡ Some F → ExpandedEvent b s (ns ++ k.at_tree.more) k.at_tree.events p F
expanded-event P b ns at s best p F k v x f =
    elim (visited-cases P b ns at s best p k v) [
      | inl e ↦ record {
        by = e;
        expansion = record { first = x.first; count = x.count; is = sym e.says ∙ x.is };
        front = event-front (ns ++ k.at_tree.more) k.at_tree.events e.event p F k.at_tree.at_nodes e.among e.place f;
      }
      | inr g ↦ absurd (let a = x.is in let c = g.says in let bad : row_shut g.why ≡ row_expanded x.first x.count = sym c ∙ a in cc)
    ]

-- Citations.

pub record RecordAt (P : Project) (T : List Row) (ns : List TreeNode) (places : List ℕ) (bases : List Base) (i : ℕ) : Type 0 where
  pub base : Base
  pub is : IsRecordOf P T ns (slice_index places i) base
  pub front : slice_index_or (fronts_of bases) i [] ≡ base.front

record-at : (P : Project) (T : List Row) (ns : List TreeNode) (places : List ℕ) (bases : List Base) (i : ℕ) → AllZip (IsRecordOf P T ns) places bases → i < length places → RecordAt P T ns places bases i
record-at P T ns [] bases i z l = absurd (omega arith)
record-at P T ns (p ∷ places) [] i z l = absurd z
record-at P T ns (p ∷ places) (base ∷ bases) zero z l = record { base = base; is = z.0; front = refl }
record-at P T ns (p ∷ places) (base ∷ bases) (suc i) z l = let r = record-at P T ns places bases i z.1 (omega arith) in record { base = r.base; is = r.is; front = r.front }

old-expanded : (P : Project) (b : Beginning) (ns : List TreeNode) (at : Progress) (s : PartState) (best q : ℕ) → Ending P b ns at s best → IsExpandedAt b.table.rows q → IsExpandedAt (after_rows b s) q
old-expanded P b ns at s best q k x =
    let inside = expanded-inside b.table.rows q x in
    let same : row_at (grown_table b s) q ≡ row_at b.table.rows q = get_or_append_left b.table.rows (map (λ (n : NewRow). n.row) s.grown) no_row q inside in
    expanded-stays P (searching (end_in best)) (grown_table b s) (ns ++ k.at_tree.more) s.fills (waiting_of s.left) q (mid P b ns at s best k) (record { first = x.first; count = x.count; is = ap says_row same ∙ x.is })

event-expanded : (P : Project) (b : Beginning) (ns : List TreeNode) (at : Progress) (s : PartState) (best : ℕ) → (k : Ending P b ns at s best) → (e : Event) → In k.at_tree.events e → IsExpansion e → IsExpandedAt (after_rows b s) e.fill.place
unfolding event-at
event-expanded P b ns at s best k e i x = let y = event-at P b ns at s best k e i in record { first = x.first; count = x.count; is = y.says ∙ x.is }

cites-row : (P : Project) (b : Beginning) (ns : List TreeNode) (at : Progress) (s : PartState) (best q : ℕ) (F : List Entry) → (k : Ending P b ns at s best) → IsCitedIn P b k.at_tree.events q F →
    CitesRow P (after_rows b s) (ns ++ k.at_tree.more) q F
cites-row P b ns at s best q F k (by_earlier i l e d) =
    let r = record-at P b.table.rows ns b.records.places b.records.index i k.known.each l in
    record {
      expanded = subst (IsExpandedAt (after_rows b s)) (sym e) (old-expanded P b ns at s best (slice_index b.records.places i) k r.is.expanded);
      front = r.base.front;
      is_its = ap (place_front (ns ++ k.at_tree.more)) e ∙ front-more ns k.at_tree.more (slice_index b.records.places i) r.base.front r.is.front;
      dominates = subst (λ (A : List Entry). Dominates P A F) r.front d;
    }
cites-row P b ns at s best q F k (by_own e c x same d) =
    let i = In-from_Contains k.at_tree.events e c in
    record {
      expanded = subst (IsExpandedAt (after_rows b s)) (sym same) (event-expanded P b ns at s best k e i x);
      front = e.front;
      is_its = ap (place_front (ns ++ k.at_tree.more)) same ∙ Each-In (IsAtNode (ns ++ k.at_tree.more)) k.at_tree.events e k.at_tree.at_nodes i;
      dominates = d;
    }

pub end-cites : (P : Project) (b : Beginning) (ns : List TreeNode) (at : Progress) (s : PartState) (best : ℕ) → (k : Ending P b ns at s best) → (p q : ℕ) (F : List Entry) → VisitedIn b.table (result_of s None best) p →
    says_at (after_rows b s) p ≡ row_cites q → place_front (ns ++ k.at_tree.more) p ≡ Some F → CitesRow P (after_rows b s) (ns ++ k.at_tree.more) q F
end-cites P b ns at s best k p q F v says front =
    elim (visited-cases P b ns at s best p k v) [
      | inl e ↦ (
          let own = event-front (ns ++ k.at_tree.more) k.at_tree.events e.event p F k.at_tree.at_nodes e.among e.place front in
          let here = In-get k.at_tree.events e.event e.among in
          let cited : IsCitedIn P b k.at_tree.events q e.event.front =
          elim (k.at_tree.cites here.place q e.event here.is (sym e.says ∙ says)) [
            | inl is ↦ is
            | inr live ↦ absurd (subst (λ (xs : List ℕ). In xs here.place) k.none_live (In-from_Contains s.live here.place live))
          ] in
          cites-row P b ns at s best q F k (subst (IsCitedIn P b k.at_tree.events q) own cited))
      | inr g ↦ absurd (let bad : row_shut g.why ≡ row_cites q = sym g.says ∙ says in cc)
    ]

-- Records.

pub end-made : (P : Project) (b : Beginning) (ns : List TreeNode) (at : Progress) (s : PartState) (best : ℕ) → (k : Ending P b ns at s best) → All (λ m. IsRecordOf P (after_rows b s) (ns ++ k.at_tree.more) m.place m.known) s.made
end-made P b ns at s best k = All-weaker (IsMadeIn P k.at_tree.events) (λ (m : PlacedRecord). IsRecordOf P (after_rows b s) (ns ++ k.at_tree.more) m.place m.known) one s.made k.at_tree.made
  where
    one : (m : PlacedRecord) → IsMadeIn P k.at_tree.events m → IsRecordOf P (after_rows b s) (ns ++ k.at_tree.more) m.place m.known
    one m is =
        let i = In-from_Contains k.at_tree.events is.event is.among in
        record {
          expanded = subst (IsExpandedAt (after_rows b s)) (sym is.is.place) (event-expanded P b ns at s best k is.event i is.is.expansion);
          front = ap (place_front (ns ++ k.at_tree.more)) is.is.place ∙ (Each-In (IsAtNode (ns ++ k.at_tree.more)) k.at_tree.events is.event k.at_tree.at_nodes i ∙ ap (λ (F : List Entry). Some F) (sym is.is.front));
          known = is.is.known;
        }

pub end-made_all : (P : Project) (b : Beginning) (ns : List TreeNode) (at : Progress) (s : PartState) (best : ℕ) → (k : Ending P b ns at s best) → (q : ℕ) → VisitedIn b.table (result_of s None best) q → IsExpandedAt (after_rows b s) q →
    Contains (map (λ m. m.place) s.made) q
end-made_all P b ns at s best k q v x =
    elim (visited-cases P b ns at s best q k v) [
      | inl e ↦ (
          let h = k.at_tree.made_all e.event (Contains-from_In k.at_tree.events e.event e.among) (record { first = x.first; count = x.count; is = sym e.says ∙ x.is }) in
          subst (Contains (map (λ (m : PlacedRecord). m.place) s.made)) (h.place ∙ e.place)
          (Contains-from_In (map (λ (m : PlacedRecord). m.place) s.made) h.made_record.place (In-map (λ (m : PlacedRecord). m.place) s.made h.made_record (In-from_Contains s.made h.made_record h.among))))
      | inr g ↦ absurd (let bad : row_shut g.why ≡ row_expanded x.first x.count = sym g.says ∙ x.is in cc)
    ]

-- What is counted.

none-new : (b : Beginning) (grown : List NewRow) → Each (IsNewRow b) grown → total (λ r. one_expanded (says_row r)) (map (λ n. n.row) grown) ≡ 0
none-new b [] a = refl
none-new b (n ∷ grown) a = let ih = none-new b grown a.1 in let own = plain (says_row n.row) a.0.says in omega arith
  where
    plain : (s : RowSaying) → IsNewSaying s → one_expanded s ≡ 0
    plain row_open i = refl
    plain (row_expanded first count) i = absurd i
    plain (row_late reason) i = refl
    plain (row_cites q) i = refl
    plain (row_shut why) i = refl

pub end-used : (P : Project) (b : Beginning) (ns : List TreeNode) (at : Progress) (s : PartState) (best : ℕ) → Ending P b ns at s best → expanded_rows (after_rows b s) ≡ expanded_rows b.table.rows + length s.made
end-used P b ns at s best k =
    let a = expanded-filled P (searching (end_in best)) (grown_table b s) (ns ++ k.at_tree.more) s.fills (waiting_of s.left) (mid P b ns at s best k) in
    let c = total-append (λ (r : Row). one_expanded (says_row r)) b.table.rows (map (λ (n : NewRow). n.row) s.grown) in
    let d = none-new b s.grown k.part.rows in
    let e = k.part.expanded in
    omega arith
