-- A part whose nodes were dealt, or are left, in another order.
use Rattle.std.proofs.Common.{◌≡◌, ℕ, ◌<◌, ◌≤◌, inl, inr, refl, sym, ap, subst, ◌∙◌, arith, List, [], ◌∷◌, ◌++◌, length, All}
use Rattle.std.specs.Prelude.{Contains, slice_index, slice_index_or}
use Rattle.std.specs.List.{AllZip}
use Rattle.std.proofs.lemmas.List.Elements.{All-weaker}
use Rattle.rcpsp_model.specs.declared.parts.Entry.{Entry}
use Rattle.rcpsp_model.specs.Project.{Project}
use Rattle.rcpsp_model.specs.Dominance.{Dominates}
use Rattle.rcpsp_model.proofs.Lists.{In, In-All, In-from_Contains}
use Rattle.rcpsp_model.proofs.Choices.{In-map, map-In}
use Rattle.precedence_tree.specs.declared.base.Base.{Base}
use Rattle.cutset_store.specs.Index.{fronts_of}
use Rattle.search_log.specs.declared.row.Origin.{Origin}
use Rattle.search_log.specs.declared.row.Row.{Row}
use Rattle.search_log.specs.Weights.{total, Each}
use Rattle.search_log.specs.Stands.{TreeNode, searching, Waiting, IsAtPlace, Stands}
use Rattle.search_log.specs.Lean.{end_number}
use Rattle.search_log.proofs.Sums.{total-map, Each-In, Each-from_In, Each-weaker}
use Rattle.search_log.proofs.ToldLogs.{expanded-inside}
use Rattle.search_rounds.specs.declared.round.NewRow.{NewRow}
use Rattle.search_rounds.specs.declared.round.WaitingNode.{WaitingNode}
use Rattle.search_rounds.specs.declared.round.Records.{Records}
use Rattle.search_rounds.specs.declared.round.Terms.{Terms}
use Rattle.search_rounds.specs.Round.{waits_at, waiting_of, IsRecordOf, AreRecords}
use Rattle.tree_worker.specs.Worker.{Progress}
use Rattle.round_shares.specs.Part.{Beginning, BeginsOn, IsByOneOf, PartState, Event, IsEventOf, IsCitedIn, by_earlier, by_own, IsOffered, IsNewRow, IsPartAt, IsPart}
use Rattle.steal_rounds.specs.Dealt.{AreDealt}

-- the second beginning is of the same round, and of the workers of the first and maybe more
pub record IsWider (b c : Beginning) : Type 0 where
  pub records : c.records ≡ b.records
  pub terms : c.terms ≡ b.terms
  pub from : c.first_worker ≤ b.first_worker
  pub to : b.last_worker ≤ c.last_worker

by-wider : (b c : Beginning) (o : Origin) → IsWider b c → IsByOneOf b o → IsByOneOf c o
by-wider b c o w is =
    let a = w.from in
    let z = w.to in
    let x = is.from in
    let y = is.to in
    record { from = omega arith; to = omega arith }

pub new-wider : (b c : Beginning) → IsWider b c → (n : NewRow) → IsNewRow b n → IsNewRow c n
new-wider b c w n is = record { says = is.says; round = is.round ∙ ap (λ (t : Terms). t.number) (sym w.terms); worker = by-wider b c n.origin w is.worker }

pub event-wider : (P : Project) (b c : Beginning) (best less : ℕ) → IsWider b c → less ≤ best → (e : Event) → IsEventOf P b best e → IsEventOf P c less e
event-wider P b c best less w l e is = record {
  round = is.round ∙ ap (λ (t : Terms). t.number) (sym w.terms);
  worker = by-wider b c e.fill.origin w is.worker;
  leaf = λ s. let end = is.leaf s in omega arith;
  early = λ x n low. let low_ = is.early x n low in let same = ap (λ (t : Terms). end_number t.best) w.terms in omega arith;
  new = λ x. subst (λ (r : Records). All (λ (base : Base). Dominates P base.front e.front → ⊥) r.index) (sym w.records) (is.new x);
}

pub cited-wider : (P : Project) (b c : Beginning) (events all : List Event) (q : ℕ) (F : List Entry) → IsWider b c → ((e : Event) → Contains events e → Contains all e) → IsCitedIn P b events q F → IsCitedIn P c all q F
cited-wider P b c events all q F w more (by_earlier i l e d) =
    by_earlier i (subst (λ (r : Records). i < length r.places) (sym w.records) l) (e ∙ ap (λ (r : Records). slice_index r.places i) (sym w.records))
    (subst (λ (r : Records). Dominates P (slice_index_or (fronts_of r.index) i []) F) (sym w.records) d)
cited-wider P b c events all q F w more (by_own e k x same d) = by_own e (more e k) x same d

pub offered-wider : (P : Project) (b c : Beginning) (events all : List Event) → IsWider b c → ((e : Event) → Contains events e → Contains all e) → (n : ℕ) → IsOffered P b events n → IsOffered P c all n
offered-wider P b c events all w more n is =
    let same = ap (λ (t : Terms). end_number t.best) w.terms in
    let less = is.less in
    record { event = is.event; among = more is.event is.among; leaf = is.leaf; is = is.is; less = omega arith; soon = is.soon }

-- Other orders.

pub in_order-places : (nodes ordered : List WaitingNode) → AreDealt nodes ordered → (h : ℕ → ℕ) → total (λ w. h w.place) (waiting_of ordered) ≡ total (λ w. h w.place) (waiting_of nodes)
in_order-places nodes ordered o h =
    let a = total-map (λ (w : Waiting). h w.place) waits_at ordered in
    let b = total-map (λ (w : Waiting). h w.place) waits_at nodes in
    let c = o.places h in
    omega arith

pub in_order-each : (Q : Waiting → Type 0) (nodes ordered : List WaitingNode) → AreDealt nodes ordered → Each Q (waiting_of nodes) → Each Q (waiting_of ordered)
in_order-each Q nodes ordered o a = Each-from_In Q (waiting_of ordered) one
  where
    one : (w : Waiting) → In (waiting_of ordered) w → Q w
    one w i =
        let n = map-In waits_at ordered w i in
        let c = In-All (Contains nodes) ordered o.among n.0 n.1 in
        subst Q n.2 (Each-In Q (waiting_of nodes) (waits_at n.0) a (In-map waits_at nodes n.0 (In-from_Contains nodes n.0 c)))

-- The table at the end of a round.

record-inside : (P : Project) (T : List Row) (ns : List TreeNode) (places : List ℕ) (bases : List Base) → AllZip (IsRecordOf P T ns) places bases → Each (λ q. q < length T) places
record-inside P T ns [] bases z = tt
record-inside P T ns (q ∷ places) [] z = absurd z
record-inside P T ns (q ∷ places) (base ∷ bases) z = (expanded-inside T q z.0.expanded, record-inside P T ns places bases z.1)

pub begins-on : (P : Project) (b : Beginning) (ns : List TreeNode) → Stands P (searching b.terms.best) b.table.rows ns [] (waiting_of b.dealt) → AreRecords P b.table.rows ns b.records → BeginsOn b ns
begins-on P b ns st ar = record { size = st.size; dealt = st.each_waiting; records = record-inside P b.table.rows ns b.records.places b.records.index ar.each }

in_order-wider : (b : Beginning) (frontier : List WaitingNode) → IsWider b (record b { dealt = frontier })
in_order-wider b frontier = record { records = refl; terms = refl; from = omega arith; to = omega arith }

in_order-at : (P : Project) (b : Beginning) (ns : List TreeNode) (frontier left : List WaitingNode) (at : Progress) (s : PartState) → AreDealt frontier b.dealt → AreDealt s.left left → IsPartAt P b ns at s →
    IsPartAt P (record b { dealt = frontier }) ns at (record s { left = left })
in_order-at P b ns frontier left at s dealt others is =
    let c : Beginning = record b { dealt = frontier } in
    let w = in_order-wider b frontier in
    let all : (e : Event) → Contains is.events e → Contains is.events e = λ e k. k in
    record {
      more = is.more;
      events = is.events;
      fills = is.fills;
      grows = record {
        size = is.grows.size;
        account = is.grows.account;
        waits = λ h.
            let x = is.grows.waits h in
            let y = in_order-places frontier b.dealt dealt h in
            let z = in_order-places s.left left others h in
            omega arith;
        rows = is.grows.rows;
        each_fill = is.grows.each_fill;
        each_left = in_order-each (IsAtPlace (ns ++ is.more)) s.left left others is.grows.each_left;
      };
      at_nodes = is.at_nodes;
      each = Each-weaker (IsEventOf P b at.pass.least_seen) (IsEventOf P c at.pass.least_seen) is.events (event-wider P b c at.pass.least_seen at.pass.least_seen w (omega arith)) is.each;
      turns = is.turns;
      cites = λ i q e k says. elim (is.cites i q e k says) [ inl x ↦ inl (cited-wider P b c is.events is.events q e.front w all x) | inr x ↦ inr x ];
      live = is.live;
      made = is.made;
      made_all = is.made_all;
      offered = All-weaker (IsOffered P b is.events) (IsOffered P c is.events) (offered-wider P b c is.events is.events w all) at.pass.offers is.offered;
    }

-- a part of nodes that were dealt in some order is one of those of the frontier, and what it left may be handed on in another
pub in_order-part : (P : Project) (b : Beginning) (frontier left : List WaitingNode) (at : Progress) (s : PartState) → AreDealt frontier b.dealt → AreDealt s.left left → IsPart P b at s →
    IsPart P (record b { dealt = frontier }) at (record s { left = left })
in_order-part P b frontier left at s dealt others is = record {
  falls = is.falls;
  rows = Each-weaker (IsNewRow b) (IsNewRow (record b { dealt = frontier })) s.grown (new-wider b (record b { dealt = frontier }) (in_order-wider b frontier)) is.rows;
  fronts = is.fronts;
  expanded = is.expanded;
  at_tree = λ ns k.
      in_order-at P b ns frontier left at s dealt others (is.at_tree ns (record { size = k.size; dealt = in_order-each (IsAtPlace ns) frontier b.dealt dealt k.dealt; records = k.records }));
}
